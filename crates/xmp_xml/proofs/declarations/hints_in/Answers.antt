use Rattle.std.proofs.Common.{ap, ◌∙◌, ◌++◌, ◌∷◌, [], List}
use Rattle.std.specs.List.{filter_map}
use Rattle.xmp_values.specs.declared.hints.Hint.{Hint}
use Rattle.xml_grammar.specs.Trees.{hint_of}
use Rattle.xmp_xml.specs.Bounds.{bindings_in}
use Rattle.xmp_xml.proofs.Scans.{hints_next}
use Rattle.xmp_xml.proofs.declarations.hints_in.Goals as goal

pub loop-bound-preserved : goal.loop-bound-preserved
loop-bound-preserved c =
    c.in_ok-add_hint.ensures
    ∙ ap (λ (hs : List Hint). hs ++ filter_map hint_of (bindings_in (c.bound-item.result ∷ []))) c.loop-bound.invariant
    ∙ hints_next c.args.list.now c.loop-bound.bound-index c.bound-item.result c.loop-bound-test.true c.bound-item.is
