use Rattle.std.proofs.Common.{sym, ◌∙◌, ◌++◌, ◌∷◌, []}
use Rattle.std.proofs.lemmas.List.{map-append}
use Rattle.xml_grammar.specs.Scopes.{expanded}
use Rattle.xmp_xml.proofs.tags.expanded_all.Goals as goal

pub loop-attribute-preserved : goal.loop-attribute-preserved
loop-attribute-preserved c =
    let f = expanded c.args.scope.now in
    c.in_ok-push.ensures.ok
    ∙ (λ i. c.loop-attribute.invariant i ++ c.in_ok-expanded_one.ensures i ∷ [])
    ∙ sym (map-append f c.loop-attribute.yielded (c.in-Some.attribute ∷ []))
