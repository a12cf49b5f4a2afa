use Rattle.std.proofs.Common.{◌++◌, ◌∷◌, [], take, sym, ap, subst, ◌∙◌}
use Rattle.std.proofs.lemmas.List.{take_all, take_more}
use Rattle.xmp_values.specs.declared.hints.Hint.{Hint}
use Rattle.xmp_rdf.specs.SpaceSets.{HasSpaces}
use Rattle.xmp_rdf.proofs.HintSets.{spaces_more}
use Rattle.xmp_rdf.proofs.hints.spaces_of.Goals as goal

pub loop-hint-preserved : goal.loop-hint-preserved
loop-hint-preserved c =
    let items = c.as_slice-hint-items.result.now in
    let at = c.loop-hint.hint-index in
    let hint = c.hint-item.result in
    let one = ap (λ (h : Hint). take at items ++ h ∷ []) c.hint-item.is ∙ sym (take_more items at hint c.loop-hint-test.true) in
    subst (HasSpaces c.insert.new.self) one
    (spaces_more (take at items) hint c.loop-hint.spaces c.insert.new.self c.as_slice.result.now c.as_slice.ensures c.loop-hint.invariant c.in_ok-insert.ensures.ok)

pub returns : goal.returns
returns c =
    let items = c.as_slice-hint-items.result.now in
    subst (HasSpaces c.loop-hint.spaces) (take_all c.loop-hint.hint-index items c.loop-hint-test.false ∙ c.as_slice-hint-items.ensures.hints) c.loop-hint.invariant
