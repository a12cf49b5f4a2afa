use Rattle.std.proofs.Common.{◌++◌, ◌∷◌, [], ◌∙◌, List, ap, sym, subst}
use Rattle.xmp_tree.specs.declared.nested.Value.{Value}
use Rattle.xmp_edit.specs.Languages.{HasLanguages}
use Rattle.xmp_edit.proofs.LanguageLemmas.{languages_added}
use Rattle.xmp_edit.proofs.languages.spoken_of.Goals as goal

pub loop-item-preserved : goal.loop-item-preserved
loop-item-preserved c = record {
  items = c.in_ok-push.ensures.ok ∙ ap (λ (vs : List Value). vs ++ c.in-Some.item ∷ []) c.loop-item.invariant.items;
  known = subst (HasLanguages c.in_ok-places.places) (sym c.in_ok-push.ensures.ok)
      (languages_added c.loop-item.list c.loop-item.places c.loop-item.invariant.known c.in-Some.item c.len.result c.in_ok-places.places c.len.ensures c.in_ok-places.ensures);
}
