use Rattle.std.proofs.Common.{◌++◌, ◌∙◌, List, map, sym, ap}
use Rattle.std.specs.Prelude.{filter}
use Rattle.std.proofs.lemmas.List.{take_all}
use Rattle.xml_grammar.specs.declared.elements.Attribute.{Attribute}
use Rattle.rdf_forms.specs.Words.{is_member_name}
use Rattle.rdf_forms.specs.Parts.{place_of}
use Rattle.rdf_forms.specs.Values.{attribute_member}
use Rattle.xmp_rdf.specs.Parting.{parts_of, with_placed}
use Rattle.xmp_rdf.proofs.PartLaws.{parts-more}
use Rattle.xmp_rdf.proofs.TopReadings.{attributes-more, first_attributes}
use Rattle.xmp_rdf.proofs.tops.add_attributes.Goals as goal
use Rattle.xmp_rdf.proofs.tops.add_attributes.Goals.{then-is_member_name+in_ok-attribute_member+in_ok-push, else-is_member_name}

pub loop-attribute-preserved : goal.loop-attribute-preserved
loop-attribute-preserved c = λ before is.
    let t = c.args.top.now in
    let xs = c.as_slice-attribute-items.result.now in
    let i = c.loop-attribute.attribute-index in
    let a = c.attribute-item.result in
    let more = attributes-more t before xs i a c.loop-attribute-test.true c.attribute-item.is in
    let so_far = c.loop-attribute.invariant before is in
    elim c.if-is_member_name.branch [
      | then-is_member_name+in_ok-attribute_member+in_ok-push w ↦
          w.parts-is ∙ w.in_ok-push.ensures
          ∙ (λ i. with_placed (so_far i) (w.at.ensures i, w.in_ok-attribute_member.ensures i))
          ∙ sym (parts-more (first_attributes t before xs i) (place_of t, attribute_member a))
          ∙ ap parts_of (sym (more.0 (sym c.is_member_name.ensures ∙ w.if-is_member_name.true)))
      | else-is_member_name w ↦ w.parts-is ∙ so_far ∙ ap parts_of (sym (more.1 (sym c.is_member_name.ensures ∙ w.if-is_member_name.false)))
    ]

pub returns : goal.returns
returns c = λ before is.
    c.loop-attribute.invariant before is
    ∙ ap (λ (xs : List Attribute). parts_of (before ++ map (λ (a : Attribute). (place_of c.args.top.now, attribute_member a)) (filter (λ (a : Attribute). is_member_name a.name) xs)))
    (take_all c.loop-attribute.attribute-index c.as_slice-attribute-items.result.now c.loop-attribute-test.false ∙ c.as_slice-attribute-items.ensures)
