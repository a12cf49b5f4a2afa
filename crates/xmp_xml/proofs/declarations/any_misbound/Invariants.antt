use Rattle.std.proofs.Common.{◌≡◌, drop}
use Rattle.std.specs.List.{list_any}
use Rattle.xml_grammar.specs.Scopes.{is_misbound}
use Rattle.xmp_xml.specs.declared.declarations.Bound.{Bound}
use Rattle.xmp_xml.specs.Bounds.{binding_in, bindings_in}
use Rattle.xmp_xml.proofs.declarations.any_misbound.Given as goal

abbrev pub invariant-loop-bound : goal.invariant-loop-bound
invariant-loop-bound l = list_any (λ (b : Bound). is_misbound (binding_in b)) (drop l.bound-index l.list) ≡ list_any is_misbound (bindings_in l.list)
