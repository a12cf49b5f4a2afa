use Rattle.std.proofs.Common.{◌≡◌, List, ◌++◌, map, take}
use Rattle.std.specs.Prelude.{filter}
use Rattle.xml_grammar.specs.declared.elements.Attribute.{Attribute}
use Rattle.rdf_forms.specs.Parts.{place_of}
use Rattle.rdf_forms.specs.Values.{attribute_member}
use Rattle.rdf_forms.specs.Words.{is_member_name}
use Rattle.rdf_forms.specs.Meaning.{Placed}
use Rattle.xmp_rdf.specs.Parting.{parts_of}
use Rattle.xmp_rdf.proofs.tops.add_attributes.Given as goal

abbrev pub invariant-loop-attribute : goal.invariant-loop-attribute
invariant-loop-attribute l =
    (before : List Placed) → l.initial.parts ≡ parts_of before →
    l.parts ≡ parts_of (before ++ map (λ (a : Attribute). (place_of l.top, attribute_member a)) (filter (λ (a : Attribute). is_member_name a.name) (take l.attribute-index l.attribute-items)))
