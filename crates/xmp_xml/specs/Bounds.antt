-- What the declarations of a tag are to contracts.
use Rattle.std.specs.Prelude.{List, map}
use Rattle.xml_grammar.specs.Scopes.{Binding}
use Rattle.xmp_xml.specs.declared.declarations.Bound.{Bound}

abbrev pub binding_in : Bound → Binding
binding_in b = record { prefix = b.prefix; space = b.space }

abbrev pub bindings_in : List Bound → List Binding
bindings_in = map binding_in
