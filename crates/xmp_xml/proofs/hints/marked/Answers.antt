use Rattle.std.proofs.Common.{◌≡◌, ◌∙◌, ◌∷◌, ◌++◌, [], List, Bool, ap, sym, append_assoc, append-nil}
use Rattle.std.specs.Prelude.{if◌then◌else◌}
use Rattle.xmp_values.specs.declared.hints.Hint.{Hint}
use Rattle.xmp_xml.specs.Marks.{marked}
use Rattle.xmp_xml.proofs.Hinting.{marked_next}
use Rattle.xmp_xml.proofs.hints.marked.Goals as goal

pub loop-hint-init : goal.loop-hint-init
loop-hint-init c = record {
  rest = λ more. ap (λ (hs : List Hint). hs ++ marked c.args.marks.now more) (sym c.new-firsts.ensures);
  firsts = c.new-firsts.ensures;
}

pub loop-hint-preserved : goal.loop-hint-preserved
loop-hint-preserved c =
    let marks : List Bool = c.args.marks.now in
    let front : List Hint = c.loop-hint.yielded in
    let h : Hint = c.in-Some.hint in
    let old : List Hint = c.loop-hint.firsts in
    let left : List Bool = c.loop-hint.rest.now in
    let rest : (more : List Hint) → marked marks ((front ++ h ∷ []) ++ more) ≡ c.add_if.new.hints ++ marked c.next_mark-is_first.result.1.now more =
    λ more. ap (marked marks) (append_assoc front (h ∷ []) more) ∙ c.loop-hint.invariant.rest (h ∷ more) ∙ marked_next old left h more
    ∙ (λ i. (if (sym c.next_mark-is_first.ensures.first) i then old ++ h ∷ [] else old) ++ marked ((sym c.next_mark-is_first.ensures.rest) i) more)
    ∙ ap (λ (hs : List Hint). hs ++ marked c.next_mark-is_first.result.1.now more) (sym c.in_ok-add_if.ensures) in
    record {
      rest = rest;
      firsts = sym (ap (marked marks) (sym (append-nil (front ++ h ∷ []))) ∙ rest [] ∙ append-nil c.add_if.new.hints);
    }
