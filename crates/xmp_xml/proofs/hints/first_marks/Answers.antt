use Rattle.std.proofs.Common.{◌≡◌, ◌∙◌, ◌∷◌, ◌++◌, [], length, List, Bool, take, ap, sym, subst, ℕ, refl, length-append, arith}
use Rattle.xmp_values.specs.declared.hints.Hint.{Hint}
use Rattle.xml_grammar.specs.Trees.{first_hints}
use Rattle.xmp_xml.specs.Marks.{marked}
use Rattle.xmp_xml.proofs.Scans.{take_here}
use Rattle.xmp_xml.proofs.Hinting.{Sees, sees_none, sees_more, first_more, marked-push}
use Rattle.xmp_xml.proofs.hints.first_marks.Goals as goal

pub loop-hint-init : goal.loop-hint-init
loop-hint-init c = record {
  firsts = refl;
  count = ap length c.new-marks.ensures;
  sees = subst (λ (seen : List (List ℕ)). Sees seen []) (sym c.new-seen.ensures) sees_none;
}

pub loop-hint-preserved : goal.loop-hint-preserved
loop-hint-preserved c =
    let before : List Hint = take c.loop-hint.hint-index c.args.all.now in
    let h : Hint = c.hint-item.result in
    let text : List ℕ = c.as_slice-space.result.now in
    let b : Bool = c.in_ok-is_new.is_new in
    let old : List Bool = c.loop-hint.marks in
    let pushed : c.push.new.self ≡ old ++ b ∷ [] = c.in_ok-push.ensures.ok in
    let next = take_here c.args.all.now c.loop-hint.hint-index h c.loop-hint-test.true c.hint-item.is in
    let firsts : marked c.push.new.self (before ++ h ∷ []) ≡ first_hints (before ++ h ∷ []) =
    ap (λ (ms : List Bool). marked ms (before ++ h ∷ [])) pushed ∙ marked-push old before b h c.loop-hint.invariant.count
    ∙ first_more c.loop-hint.seen before (marked old before) h text b c.as_slice-space.ensures c.loop-hint.invariant.sees c.loop-hint.invariant.firsts c.in_ok-is_new.ensures.is_new in
    let count : length c.push.new.self ≡ length (before ++ h ∷ []) =
    ap length pushed ∙ omega (arith, length-append old (b ∷ []), length-append before (h ∷ []), c.loop-hint.invariant.count) in
    record {
      firsts = subst (λ (hs : List Hint). marked c.push.new.self hs ≡ first_hints hs) next firsts;
      count = subst (λ (hs : List Hint). length c.push.new.self ≡ length hs) next count;
      sees = subst (Sees c.insert.new.self) next (sees_more c.loop-hint.seen c.insert.new.self before h text c.as_slice-space.ensures c.loop-hint.invariant.sees c.in_ok-is_new.ensures.ok);
    }
