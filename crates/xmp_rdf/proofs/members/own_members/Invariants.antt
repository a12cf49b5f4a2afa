use Rattle.std.proofs.Common.{◌≡◌, map, take}
use Rattle.std.specs.Prelude.{filter}
use Rattle.rdf_forms.specs.Values.{attribute_member}
use Rattle.rdf_forms.specs.Words.{is_member_name}
use Rattle.xml_grammar.specs.declared.elements.Attribute.{Attribute}
use Rattle.xmp_rdf.proofs.members.own_members.Given as goal

abbrev pub invariant-loop-attribute : goal.invariant-loop-attribute
invariant-loop-attribute l = l.members ≡ map attribute_member (filter (λ (a : Attribute). is_member_name a.name) (take l.attribute-index l.attribute-items))
