use Rattle.std.proofs.Common.{◌∙◌, Bool, map, ap, sym, subst}
use Rattle.std.proofs.lemmas.Result.{IfOk-weaker}
use Rattle.rdf_forms.specs.Parts.{name_of, elements_of, property_attributes}
use Rattle.rdf_forms.specs.MemberRules.{attribute_names, member_names}
use Rattle.rdf_forms.specs.Entering.{entered, clashes, Enters, IsEntered}
use Rattle.rdf_forms.proofs.EnteredLists.{entered-append, enters_more, clash_before}
use Rattle.rdf_forms.proofs.member_names.enter_members.Goals as goal

pub returns : goal.returns
unfolding member_names
returns c =
    let those = c.args.seen.now in
    let without = c.args.without_value in
    let attributes = attribute_names (property_attributes c.args.element.now) in
    let elements = map name_of (elements_of c.args.element.now) in
    let set = c.enter_attributes.new.seen in
    let so_far : IsEntered those (entered without attributes) set = subst (Enters those (entered without attributes) set) c.if-not-branch.false c.in_ok-enter_attributes.ensures in
    let new = c.enter_elements.new.seen in
    IfOk-weaker c.enter_elements.result (Enters set (entered without elements) new) (Enters those (entered without (member_names c.args.element.now)) new)
    (λ (b : Bool) entering.
    subst (λ ns. Enters those ns new b) (sym (entered-append without attributes elements))
    (enters_more those (entered without attributes) set (entered without elements) so_far new b entering))
    c.enter_elements.ensures

pub returns-then-not-branch : goal.returns-then-not-branch
unfolding member_names
returns-then-not-branch c =
    let those = c.args.seen.now in
    let without = c.args.without_value in
    let attributes = attribute_names (property_attributes c.args.element.now) in
    let elements = map name_of (elements_of c.args.element.now) in
    let set = c.enter_attributes.new.seen in
    ap (λ ns. clashes ns those) (entered-append without attributes elements)
    ∙ clash_before those (entered without attributes) (entered without elements) (subst (Enters those (entered without attributes) set) c.if-not-branch.true c.in_ok-enter_attributes.ensures)
