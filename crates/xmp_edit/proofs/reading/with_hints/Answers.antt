use Rattle.std.proofs.Common.{◌≡◌, ◌∙◌, ◌+◌, ◌++◌, ◌∷◌, [], true, false, drop, ap, sym, subst}
use Rattle.std.specs.Prelude.{not}
use Rattle.std.specs.List.{fold}
use Rattle.std.proofs.lemmas.List.Elements.{All-get_or}
use Rattle.xmp_values.specs.Hints.{IsValidHint, AreValid, has_space}
use Rattle.xmp_values.specs.Texts.{with_text}
use Rattle.xmp_edit.specs.ScriptParts.{HasNamespaces}
use Rattle.xmp_edit.specs.ScriptOf.{with_hint}
use Rattle.xmp_edit.proofs.NewHints.{seen_more, seen_same, lines_from, with_new, with_old, tells, valid_more}
use Rattle.xmp_edit.proofs.reading.with_hints.Goals as goal
use Rattle.xmp_edit.proofs.reading.with_hints.Goals.{then-branch+in_ok-try_clone+in_ok-push, else-branch}

pub push-requires : goal.push-requires
push-requires c =
    let line = c.line-item.result in
    let new : has_space c.loop-line.merged line.space ≡ false =
    tells c.loop-line.seen c.loop-line.merged line.space c.as_slice-in-loop-line.result.now c.in_ok-insert.field-0 c.loop-line.invariant.seen c.as_slice-in-loop-line.ensures c.in_ok-insert.ensures.is_new
    ∙ ap (λ b. not b) c.if-branch.true in
    let valid : IsValidHint line = subst IsValidHint (sym c.line-item.is) (All-get_or IsValidHint c.args.lines.now c.loop-line.line-index line c.loop-line-test.true c.requires) in
    subst (λ h. AreValid (c.loop-line.merged ++ h ∷ [])) (sym c.in_ok-try_clone.ensures) (valid_more c.loop-line.merged line c.loop-line.invariant.valid valid new)

pub loop-line-preserved : goal.loop-line-preserved
loop-line-preserved c =
    let line = c.line-item.result in
    let old = c.loop-line.merged in
    let told = tells c.loop-line.seen old line.space c.as_slice-in-loop-line.result.now c.in_ok-insert.field-0 c.loop-line.invariant.seen c.as_slice-in-loop-line.ensures c.in_ok-insert.ensures.is_new in
    let valid : IsValidHint line = subst IsValidHint (sym c.line-item.is) (All-get_or IsValidHint c.args.lines.now c.loop-line.line-index line c.loop-line-test.true c.requires) in
    let set : c.insert.new.self ≡ with_text c.loop-line.seen line.space = c.in_ok-insert.ensures.ok ∙ ap (with_text c.loop-line.seen) c.as_slice-in-loop-line.ensures in
    let rest = lines_from old c.args.lines.now c.loop-line.line-index line c.loop-line-test.true c.line-item.is in
    elim c.if-branch.branch [
      | then-branch+in_ok-try_clone+in_ok-push w ↦
          let new : has_space old line.space ≡ false = told ∙ ap (λ b. not b) w.if-branch.true in
          let more : c.if-branch.merged ≡ old ++ line ∷ [] = w.merged-is ∙ w.in_ok-push.ensures.ok ∙ ap (λ h. old ++ h ∷ []) w.in_ok-try_clone.ensures in
          record {
            same = ap (λ ms. fold with_hint ms (drop (c.loop-line.line-index + 1) c.args.lines.now)) (more ∙ sym (with_new old line new)) ∙ sym rest ∙ c.loop-line.invariant.same;
            valid = subst AreValid (sym more) (valid_more old line c.loop-line.invariant.valid valid new);
            seen = subst (HasNamespaces c.insert.new.self) (sym more) (subst (λ s. HasNamespaces s (old ++ line ∷ [])) (sym set) (seen_more c.loop-line.seen old line c.loop-line.invariant.seen));
          }
      | else-branch w ↦
          let here : has_space old line.space ≡ true = told ∙ ap (λ b. not b) w.if-branch.false in
          record {
            same = ap (λ ms. fold with_hint ms (drop (c.loop-line.line-index + 1) c.args.lines.now)) (w.merged-is ∙ sym (with_old old line here)) ∙ sym rest ∙ c.loop-line.invariant.same;
            valid = subst AreValid (sym w.merged-is) c.loop-line.invariant.valid;
            seen = subst (HasNamespaces c.insert.new.self) (sym w.merged-is) (subst (λ s. HasNamespaces s old) (sym set) (seen_same c.loop-line.seen old line c.loop-line.invariant.seen here));
          }
    ]
