use Rattle.std.proofs.Common.{◌∙◌, ap, sym, subst}
use Rattle.std.specs.List.{flat_map}
use Rattle.std.proofs.lemmas.List.{take_all}
use Rattle.rdf_forms.specs.Entering.{element_names, entered, clashes, IsEntered}
use Rattle.rdf_forms.proofs.EnteredLists.{child_names, names-children, none_entered, walk_more, walk_clash}
use Rattle.rdf_forms.proofs.member_names.enter_elements.Goals as goal

pub loop-child-init : goal.loop-child-init
loop-child-init c = none_entered c.args.seen.now

pub loop-child-preserved : goal.loop-child-preserved
loop-child-preserved c =
    walk_more (child_names c.args.without_value) c.args.seen.now c.as_slice-child-items.result.now c.loop-child.child-index c.child-item.result c.loop-child-test.true
    c.child-item.is c.loop-child.seen c.loop-child.invariant c.in_ok-enter_child.field-0 c.in_ok-enter_child.ensures.apart c.if-not-branch.false
    c.enter_child.new.seen c.in_ok-enter_child.ensures.holds

pub returns-then-not-branch : goal.returns-then-not-branch
returns-then-not-branch c =
    let items = c.as_slice-child-items.result.now in
    let found = walk_clash (child_names c.args.without_value) c.args.seen.now items c.loop-child.child-index c.child-item.result c.loop-child-test.true
    c.child-item.is c.loop-child.seen c.loop-child.invariant c.in_ok-enter_child.field-0 c.in_ok-enter_child.ensures.apart c.if-not-branch.true in
    ap (λ cs. clashes (entered c.args.without_value (element_names cs)) c.args.seen.now) (sym c.as_slice-child-items.ensures)
    ∙ ap (λ ns. clashes ns c.args.seen.now) (sym (names-children c.args.without_value items)) ∙ found

pub returns : goal.returns
returns c =
    let items = c.as_slice-child-items.result.now in
    let all = take_all c.loop-child.child-index items c.loop-child-test.false in
    subst (λ ns. IsEntered c.args.seen.now ns c.loop-child.seen)
    (ap (flat_map (child_names c.args.without_value)) all ∙ names-children c.args.without_value items
    ∙ ap (λ cs. entered c.args.without_value (element_names cs)) c.as_slice-child-items.ensures)
    c.loop-child.invariant
