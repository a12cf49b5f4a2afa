use Rattle.std.proofs.Common.{◌∙◌, ap, sym, subst}
use Rattle.std.specs.List.{flat_map}
use Rattle.std.proofs.lemmas.List.{take_all}
use Rattle.rdf_forms.specs.Entering.{property_attribute_names, entered, clashes, IsEntered}
use Rattle.rdf_forms.proofs.EnteredLists.{own_name, names-attributes, none_entered, walk_more, walk_clash}
use Rattle.rdf_forms.proofs.member_names.enter_attributes.Goals as goal

pub loop-attribute-init : goal.loop-attribute-init
loop-attribute-init c = none_entered c.args.seen.now

pub loop-attribute-preserved : goal.loop-attribute-preserved
loop-attribute-preserved c =
    walk_more (own_name c.args.without_value) c.args.seen.now c.as_slice-attribute-items.result.now c.loop-attribute.attribute-index c.attribute-item.result c.loop-attribute-test.true
    c.attribute-item.is c.loop-attribute.seen c.loop-attribute.invariant c.in_ok-enter_attribute.field-0 c.in_ok-enter_attribute.ensures.apart c.if-not-branch.false
    c.enter_attribute.new.seen c.in_ok-enter_attribute.ensures.holds

pub returns-then-not-branch : goal.returns-then-not-branch
returns-then-not-branch c =
    let items = c.as_slice-attribute-items.result.now in
    let found = walk_clash (own_name c.args.without_value) c.args.seen.now items c.loop-attribute.attribute-index c.attribute-item.result c.loop-attribute-test.true
    c.attribute-item.is c.loop-attribute.seen c.loop-attribute.invariant c.in_ok-enter_attribute.field-0 c.in_ok-enter_attribute.ensures.apart c.if-not-branch.true in
    ap (λ cs. clashes (entered c.args.without_value (property_attribute_names cs)) c.args.seen.now) (sym c.as_slice-attribute-items.ensures)
    ∙ ap (λ ns. clashes ns c.args.seen.now) (sym (names-attributes c.args.without_value items)) ∙ found

pub returns : goal.returns
returns c =
    let items = c.as_slice-attribute-items.result.now in
    let all = take_all c.loop-attribute.attribute-index items c.loop-attribute-test.false in
    subst (λ ns. IsEntered c.args.seen.now ns c.loop-attribute.seen)
    (ap (flat_map (own_name c.args.without_value)) all ∙ names-attributes c.args.without_value items
    ∙ ap (λ cs. entered c.args.without_value (property_attribute_names cs)) c.as_slice-attribute-items.ensures)
    c.loop-attribute.invariant
