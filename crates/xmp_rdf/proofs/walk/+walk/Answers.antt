use Rattle.std.proofs.Common.{◌≡◌, ◌+◌, ◌-◌, ◌∙◌, ◌++◌, ◌∷◌, [], ap, sym, subst, List, Ok}
use Rattle.xml_grammar.specs.declared.elements.Child.{Child}
use Rattle.xml_grammar.specs.declared.elements.Element.{Element}
use Rattle.xmp_tree.specs.declared.nested.Member.{Member}
use Rattle.xmp_tree.specs.declared.nested.Shape.{Array}
use Rattle.xmp_tree.specs.Parts.{member, value}
use Rattle.rdf_forms.specs.declared.roles.Role.TheVariants as roles
use Rattle.rdf_forms.specs.declared.roles.Holder.{Holder}
use Rattle.rdf_forms.specs.Parts.{elements_in, elements_of, name_of}
use Rattle.rdf_forms.specs.Forms.{ByMembers, ByContainer, ByNode, form_of}
use Rattle.rdf_forms.specs.Visits.{members_holder, node_holder}
use Rattle.rdf_forms.specs.Values.{lang_qualifiers, type_of, kind_of, by_members, node_members, element_member, value_within}
use Rattle.xmp_values.specs.Stops.{place_of, Gives}
use Rattle.xmp_rdf.specs.Reading.{checked, read_within, read_form, read_members, read_items, visits_in, visits_at}
use Rattle.xmp_rdf.proofs.Exits.{exit, exit_made}
use Rattle.xmp_rdf.proofs.Faults.{and_then-ok, and_then-err}
use Rattle.xmp_rdf.proofs.Readings.{within-none, within-some, form-members, form-container, form-node, array_of, node_of, all-none, all-text, members-element, items-element, loop-more, loop-stop}
use Rattle.xmp_rdf.proofs.walk.+walk.Goals as goal

-- ---- a property or item

pub property-returns-then-levels-eq0 : goal.property-returns-then-levels-eq0
property-returns-then-levels-eq0 t c =
    within-none c.args.levels c.args.role c.args.depth c.args.element.now c.if-levels-eq0.true ∙ ap Ok (sym c.no_value.ensures)

pub property-returns-in_err-check : goal.property-returns-in_err-check
property-returns-in_err-check t c =
    let e = c.args.element.now in
    exit c.from_residual.result c.in_err-check.field-0.0 (checked c.args.role c.args.depth c.of-formed.result.element.now) (read_within c.args.levels c.args.role c.args.depth e) c.from_residual.ensures.1 c.in_err-check.ensures
    (λ f halts. within-some c.args.levels c.args.role c.args.depth e c.if-levels-eq0.false ∙ and_then-err _ f (λ _. read_form (c.args.levels - 1) c.args.depth e (form_of e)) (ap (checked c.args.role c.args.depth) (sym c.of-formed.ensures) ∙ halts))

pub property-returns : goal.property-returns
property-returns t c =
    let e = c.args.element.now in
    let whole = within-some c.args.levels c.args.role c.args.depth e c.if-levels-eq0.false
    ∙ and_then-ok _ c.in_ok-check.field-0 (λ _. read_form (c.args.levels - 1) c.args.depth e (form_of e)) (ap (checked c.args.role c.args.depth) (sym c.of-formed.ensures) ∙ c.in_ok-check.ensures)
    ∙ ap (λ (d : Element). read_form (c.args.levels - 1) c.args.depth d (form_of d)) (sym c.of-formed.ensures) in
    subst (Gives place_of c.form_value.result) (sym whole) c.form_value.ensures

-- ---- a value by members

pub resource_value-returns-in_err-add_members : goal.resource_value-returns-in_err-add_members
resource_value-returns-in_err-add_members t c =
    let e = c.args.element.now in
    let levels = c.args.levels in
    let depth = c.args.depth in
    let read = λ (h : Holder) (before : List Member) (cs : List Child). read_members levels h depth before (elements_in cs) in
    let step : read c.members_holder-holder.result c.new-members.result c.as_slice-children.result.now ≡ read_members levels (members_holder e) depth [] (elements_of e) =
    λ i. read (c.members_holder-holder.ensures i) (c.new-members.ensures i) (c.as_slice-children.ensures i) in
    exit c.from_residual.result c.in_err-add_members.field-0.0 (read c.members_holder-holder.result c.new-members.result c.as_slice-children.result.now) (read_form levels depth e ByMembers) c.from_residual.ensures.1 c.in_err-add_members.ensures
    (λ f halts. form-members levels depth e ∙ and_then-err _ f (λ ms. Ok (by_members (lang_qualifiers e) [] ms)) (sym step ∙ halts))

pub resource_value-returns : goal.resource_value-returns
resource_value-returns t c =
    let e = c.args.element.now in
    let levels = c.args.levels in
    let depth = c.args.depth in
    let read = λ (h : Holder) (before : List Member) (cs : List Child). read_members levels h depth before (elements_in cs) in
    let step : read c.members_holder-holder.result c.new-members.result c.as_slice-children.result.now ≡ read_members levels (members_holder e) depth [] (elements_of e) =
    λ i. read (c.members_holder-holder.ensures i) (c.new-members.ensures i) (c.as_slice-children.ensures i) in
    let members = c.add_members.new.members in
    let made : c.in_ok-by_members.field-0 ≡ by_members (lang_qualifiers e) [] members =
    c.in_ok-by_members.ensures ∙ (λ i. by_members (c.in_ok-lang.ensures i) (c.new.ensures i) members) in
    form-members levels depth e ∙ and_then-ok _ members (λ ms. Ok (by_members (lang_qualifiers e) [] ms)) (sym step ∙ c.in_ok-add_members.ensures) ∙ ap Ok (sym made)

-- ---- members one after another

pub add_members-loop-child-init : goal.add_members-loop-child-init
add_members-loop-child-init t c = all-none (visits_in c.args.levels c.args.holder c.args.depth) (element_member (value_within c.args.levels)) c.args.members.now

pub add_members-loop-child-preserved : goal.add_members-loop-child-preserved
add_members-loop-child-preserved t c =
    loop-more (visits_in c.args.levels c.args.holder c.args.depth) (element_member (value_within c.args.levels)) c.args.members.now c.loop-child.members c.args.children.now c.loop-child.child-index c.child-item.result
    c.loop-child-test.true c.child-item.is c.loop-child.invariant
    ∙ c.in_ok-add_member.ensures

pub add_members-returns-in_err-add_member : goal.add_members-returns-in_err-add_member
add_members-returns-in_err-add_member t c =
    let visits = visits_in c.args.levels c.args.holder c.args.depth in
    let meaning = element_member (value_within c.args.levels) in
    exit_made c.from_residual.result c.add_member.new.members c.in_err-add_member.field-0.0
    (read_members c.args.levels c.args.holder c.args.depth c.loop-child.members (elements_in (c.child-item.result ∷ [])))
    (read_members c.args.levels c.args.holder c.args.depth c.args.members.now (elements_in c.args.children.now)) c.from_residual.ensures.1 c.in_err-add_member.ensures
    (loop-stop visits meaning c.args.members.now c.loop-child.members c.args.children.now c.loop-child.child-index c.child-item.result c.loop-child-test.true c.child-item.is c.loop-child.invariant)

pub add_member-returns-in_default : goal.add_member-returns-in_default
add_member-returns-in_default t c =
    all-text (visits_in c.args.levels c.args.holder c.args.depth) (element_member (value_within c.args.levels)) c.args.members.now c.args.child.now c.in_default.field-0 c.in_default.is

pub add_member-returns-in_err-value : goal.add_member-returns-in_err-value
add_member-returns-in_err-value t c =
    let e = c.in-Element.element in
    let before = c.args.members.now in
    let role = roles.Property c.args.holder in
    exit_made c.from_residual.result before c.in_err-value.field-0.0 (read_within c.args.levels role c.member_depth.result e)
    (read_members c.args.levels c.args.holder c.args.depth before (elements_in (c.args.child.now ∷ []))) c.from_residual.ensures.1 c.in_err-value.ensures
    (λ f halts. members-element c.args.levels c.args.holder c.args.depth before c.args.child.now e c.in-Element.is
    ∙ and_then-err _ f (λ v. Ok (before ++ member (name_of e) v ∷ [])) (ap (λ d. read_within c.args.levels role d e) (sym c.member_depth.ensures.depth) ∙ halts))

pub add_member-returns : goal.add_member-returns
add_member-returns t c =
    let e = c.in-Element.element in
    let before = c.args.members.now in
    let role = roles.Property c.args.holder in
    let pushed = c.in_ok-push.ensures.ok in
    members-element c.args.levels c.args.holder c.args.depth before c.args.child.now e c.in-Element.is
    ∙ and_then-ok _ c.in_ok-value.value (λ v. Ok (before ++ member (name_of e) v ∷ [])) (ap (λ d. read_within c.args.levels role d e) (sym c.member_depth.ensures.depth) ∙ c.in_ok-value.ensures)
    ∙ ap Ok (ap (λ n. before ++ member n c.in_ok-value.value ∷ []) (sym c.in_ok-name.ensures) ∙ sym pushed)

-- ---- items one after another

pub add_items-loop-child-init : goal.add_items-loop-child-init
add_items-loop-child-init t c = all-none (visits_at c.args.levels c.args.depth) (value_within c.args.levels) c.args.items.now

pub add_items-loop-child-preserved : goal.add_items-loop-child-preserved
add_items-loop-child-preserved t c =
    loop-more (visits_at c.args.levels c.args.depth) (value_within c.args.levels) c.args.items.now c.loop-child.items c.args.children.now c.loop-child.child-index c.child-item.result c.loop-child-test.true c.child-item.is c.loop-child.invariant
    ∙ c.in_ok-add_item.ensures

pub add_items-returns-in_err-add_item : goal.add_items-returns-in_err-add_item
add_items-returns-in_err-add_item t c =
    exit_made c.from_residual.result c.add_item.new.items c.in_err-add_item.field-0.0 (read_items c.args.levels c.args.depth c.loop-child.items (elements_in (c.child-item.result ∷ [])))
    (read_items c.args.levels c.args.depth c.args.items.now (elements_in c.args.children.now)) c.from_residual.ensures.1 c.in_err-add_item.ensures
    (loop-stop (visits_at c.args.levels c.args.depth) (value_within c.args.levels) c.args.items.now c.loop-child.items c.args.children.now c.loop-child.child-index c.child-item.result c.loop-child-test.true c.child-item.is c.loop-child.invariant)

pub add_item-returns-in_default : goal.add_item-returns-in_default
add_item-returns-in_default t c =
    all-text (visits_at c.args.levels c.args.depth) (value_within c.args.levels) c.args.items.now c.args.child.now c.in_default.field-0 c.in_default.is

pub add_item-returns-in_err-value : goal.add_item-returns-in_err-value
add_item-returns-in_err-value t c =
    let e = c.in-Element.element in
    let before = c.args.items.now in
    exit_made c.from_residual.result before c.in_err-value.field-0.0 (read_within c.args.levels roles.Item (c.args.depth + 1) e)
    (read_items c.args.levels c.args.depth before (elements_in (c.args.child.now ∷ []))) c.from_residual.ensures.1 c.in_err-value.ensures
    (λ f halts. items-element c.args.levels c.args.depth before c.args.child.now e c.in-Element.is ∙ and_then-err _ f (λ v. Ok (before ++ v ∷ [])) halts)

pub add_item-returns : goal.add_item-returns
add_item-returns t c =
    let e = c.in-Element.element in
    let before = c.args.items.now in
    let pushed = c.in_ok-push.ensures.ok in
    items-element c.args.levels c.args.depth before c.args.child.now e c.in-Element.is
    ∙ and_then-ok _ c.in_ok-value.value (λ v. Ok (before ++ v ∷ [])) c.in_ok-value.ensures
    ∙ ap Ok (sym pushed)

-- ---- a container, and a node

pub container_value-returns-in_err-check : goal.container_value-returns-in_err-check
container_value-returns-in_err-check t c =
    let e = c.args.element.now in
    let n = c.args.container.now in
    exit c.from_residual.result c.in_err-check.field-0.0 (checked roles.Container c.args.depth c.of.result.element.now) (read_form c.args.levels c.args.depth e (ByContainer n)) c.from_residual.ensures.1 c.in_err-check.ensures
    (λ f halts. form-container c.args.levels c.args.depth e n ∙ and_then-err _ f (λ _. array_of c.args.levels c.args.depth e n) (ap (checked roles.Container c.args.depth) (sym c.of.ensures) ∙ halts))

pub container_value-returns-in_err-add_items : goal.container_value-returns-in_err-add_items
container_value-returns-in_err-add_items t c =
    let e = c.args.element.now in
    let n = c.args.container.now in
    let levels = c.args.levels in
    let depth = c.args.depth in
    let step : read_items levels depth c.new-items.result (elements_in c.as_slice.result.now) ≡ read_items levels depth [] (elements_of n) = (λ i. read_items levels depth (c.new-items.ensures i) (elements_in (c.as_slice.ensures i))) in
    exit c.from_residual-in_err-add_items.result c.in_err-add_items.field-0.0 (read_items levels depth c.new-items.result (elements_in c.as_slice.result.now)) (read_form levels depth e (ByContainer n)) c.from_residual-in_err-add_items.ensures.1
    c.in_err-add_items.ensures
    (λ f halts. form-container levels depth e n ∙ and_then-ok _ c.in_ok-check.field-0 (λ _. array_of levels depth e n) (ap (checked roles.Container depth) (sym c.of.ensures) ∙ c.in_ok-check.ensures)
    ∙ and_then-err _ f (λ vs. Ok (value (Array (kind_of (name_of n)) vs) (lang_qualifiers e))) (sym step ∙ halts))

pub container_value-returns : goal.container_value-returns
container_value-returns t c =
    let e = c.args.element.now in
    let n = c.args.container.now in
    let levels = c.args.levels in
    let depth = c.args.depth in
    let step : read_items levels depth c.new-items.result (elements_in c.as_slice.result.now) ≡ read_items levels depth [] (elements_of n) = (λ i. read_items levels depth (c.new-items.ensures i) (elements_in (c.as_slice.ensures i))) in
    form-container levels depth e n ∙ and_then-ok _ c.in_ok-check.field-0 (λ _. array_of levels depth e n) (ap (checked roles.Container depth) (sym c.of.ensures) ∙ c.in_ok-check.ensures)
    ∙ and_then-ok _ c.add_items.new.items (λ vs. Ok (value (Array (kind_of (name_of n)) vs) (lang_qualifiers e))) (sym step ∙ c.in_ok-add_items.ensures)
    ∙ (λ i. Ok (value (Array (sym c.kind_of.ensures i) c.add_items.new.items) (sym c.in_ok-lang_qualifiers.ensures i)))

pub node_value-returns-in_err-check : goal.node_value-returns-in_err-check
node_value-returns-in_err-check t c =
    let e = c.args.element.now in
    let n = c.args.node.now in
    exit c.from_residual.result c.in_err-check.field-0.0 (checked roles.Node c.args.depth c.of.result.element.now) (read_form c.args.levels c.args.depth e (ByNode n)) c.from_residual.ensures.1 c.in_err-check.ensures
    (λ f halts. form-node c.args.levels c.args.depth e n ∙ and_then-err _ f (λ _. node_of c.args.levels c.args.depth e n) (ap (checked roles.Node c.args.depth) (sym c.of.ensures) ∙ halts))

pub node_value-returns-in_err-add_members : goal.node_value-returns-in_err-add_members
node_value-returns-in_err-add_members t c =
    let e = c.args.element.now in
    let n = c.args.node.now in
    let levels = c.args.levels in
    let depth = c.args.depth in
    let read = λ (h : Holder) (before : List Member) (cs : List Child). read_members levels h depth before (elements_in cs) in
    let step : read c.node_holder-holder.result c.in_ok-members.members c.as_slice-children.result.now ≡ read_members levels (node_holder n) depth (node_members n) (elements_of n) =
    λ i. read (c.node_holder-holder.ensures i) (c.in_ok-members.ensures i) (c.as_slice-children.ensures i) in
    exit c.from_residual-in_err-add_members.result c.in_err-add_members.field-0.0 (read c.node_holder-holder.result c.in_ok-members.members c.as_slice-children.result.now) (read_form levels depth e (ByNode n))
    c.from_residual-in_err-add_members.ensures.1 c.in_err-add_members.ensures
    (λ f halts. form-node levels depth e n ∙ and_then-ok _ c.in_ok-check.field-0 (λ _. node_of levels depth e n) (ap (checked roles.Node depth) (sym c.of.ensures) ∙ c.in_ok-check.ensures)
    ∙ and_then-err _ f (λ ms. Ok (by_members (lang_qualifiers e) (type_of (name_of n)) ms)) (sym step ∙ halts))

pub node_value-returns : goal.node_value-returns
node_value-returns t c =
    let e = c.args.element.now in
    let n = c.args.node.now in
    let levels = c.args.levels in
    let depth = c.args.depth in
    let read = λ (h : Holder) (before : List Member) (cs : List Child). read_members levels h depth before (elements_in cs) in
    let step : read c.node_holder-holder.result c.in_ok-members.members c.as_slice-children.result.now ≡ read_members levels (node_holder n) depth (node_members n) (elements_of n) =
    λ i. read (c.node_holder-holder.ensures i) (c.in_ok-members.ensures i) (c.as_slice-children.ensures i) in
    let made : c.in_ok-by_members.field-0 ≡ by_members (lang_qualifiers e) (type_of (name_of n)) c.add_members.new.members =
    c.in_ok-by_members.ensures ∙ (λ i. by_members (c.in_ok-lang.ensures i) (c.in_ok-types.ensures i) c.add_members.new.members) in
    form-node levels depth e n ∙ and_then-ok _ c.in_ok-check.field-0 (λ _. node_of levels depth e n) (ap (checked roles.Node depth) (sym c.of.ensures) ∙ c.in_ok-check.ensures)
    ∙ and_then-ok _ c.add_members.new.members (λ ms. Ok (by_members (lang_qualifiers e) (type_of (name_of n)) ms)) (sym step ∙ c.in_ok-add_members.ensures)
    ∙ ap Ok (sym made)
