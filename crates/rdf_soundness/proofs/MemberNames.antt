-- The names of a value's members: which are `rdf:value`, and that the others differ.
use Rattle.std.proofs.Common.{◌≡◌, ◌≢◌, Bool, true, false, not, cond, ◌||◌, List, [], ◌∷◌, ◌++◌, map, refl, ap, sym, ◌∙◌}
use Rattle.std.specs.Prelude.{filter, codes}
use Rattle.std.specs.List.{list_any}
use Rattle.std.proofs.lemmas.List.{map-append}
use Rattle.std.proofs.lemmas.List.Elements.{filter-append}
use Rattle.std.proofs.lemmas.List.Folds.{list_any-append}
use Rattle.xmp_values.specs.declared.text.Name.{Name}
use Rattle.xml_grammar.specs.declared.elements.Attribute.{Attribute}
use Rattle.xml_grammar.specs.declared.elements.Element.{Element}
use Rattle.xmp_tree.specs.declared.nested.Member.{Member}
use Rattle.xmp_tree.specs.declared.nested.Value.{Value}
use Rattle.xmp_tree.specs.Wf.{NamesDiffer}
use Rattle.xmp_tree.specs.Wf as tree
use Rattle.xmp_tree.proofs.Made.{name-member}
use Rattle.rdf_forms.specs.Words.{is_rdf, is_member_name}
use Rattle.rdf_forms.specs.Parts.{name_of, attributes_of, elements_of, property_attributes, has_attribute, has_element}
use Rattle.rdf_forms.specs.Visits.{has_value_member}
use Rattle.rdf_forms.specs.MemberRules.{has_again, attribute_names, member_names, other_names}
use Rattle.rdf_forms.specs.Values.{plain, attribute_member, element_member, is_value_member, other_members, is_node_member, node_members}
use Rattle.rdf_soundness.proofs.Words.{names_apart, own_outside, outside_not_rdf}
use Rattle.rdf_soundness.proofs.Lists.{filter-map, list_any-map, list_any_same, pairs_from_map}
use Rattle.rdf_soundness.proofs.Members.{value-attribute, value-element}

abbrev pub element_members : (Element → Value) → Element → List Member
element_members read e = map (element_member read) (elements_of e)

abbrev pub members_of_node : (Element → Value) → Element → List Member
members_of_node read n = node_members n ++ element_members read n

-- ---- names that differ

pub names-elements : (read : Element → Value) (es : List Element) → map tree.name_of (map (element_member read) es) ≡ map name_of es
names-elements read [] = refl
names-elements read (c ∷ cs) = ap (λ n. n ∷ map tree.name_of (map (element_member read) cs)) (name-member (name_of c) (read c)) ∙ ap (λ ns. name_of c ∷ ns) (names-elements read cs)

pub names-attributes : (xs : List Attribute) → map tree.name_of (map attribute_member xs) ≡ attribute_names xs
names-attributes [] = refl
names-attributes (a ∷ xs) = ap (λ n. n ∷ map tree.name_of (map attribute_member xs)) (name-member a.name (plain a.value)) ∙ ap (λ ns. a.name ∷ ns) (names-attributes xs)

others_apart : (ms : List Member) (ns : List Name) → other_names (map tree.name_of ms) ≡ ns → has_again ns ≡ false → NamesDiffer (other_members ms)
unfolding is_value_member
others_apart ms ns is h =
    let same : map tree.name_of (other_members ms) ≡ ns = sym (filter-map tree.name_of (λ n. not (is_rdf (codes "value") n)) ms) ∙ is in
    pairs_from_map (λ m n. m ≢ n) tree.name_of (other_members ms) (names_apart (map tree.name_of (other_members ms)) (ap has_again same ∙ h))

pub elements_apart : (read : Element → Value) (e : Element) → has_again (other_names (map name_of (elements_of e))) ≡ false
    → NamesDiffer (other_members (element_members read e))
elements_apart read e h =
    others_apart (element_members read e) (other_names (map name_of (elements_of e))) (ap other_names (names-elements read (elements_of e))) h

-- without `rdf:value` the attributes that are members are the property attributes
node_names : (xs : List Attribute) → other_names (attribute_names (filter is_node_member xs)) ≡ other_names (attribute_names (filter (λ (a : Attribute). is_member_name a.name) xs))
node_names [] = refl
node_names (a ∷ xs) = by (is_member_name a.name) (is_rdf (codes "value") a.name) (λ own. outside_not_rdf (codes "value") a.name (own_outside a.name own)) refl (node_names xs)
  where
    node : List Attribute
    node = filter is_node_member xs

    own : List Attribute
    own = filter (λ (a : Attribute). is_member_name a.name) xs

    by : (o v : Bool) → (o ≡ true → v ≡ false) → is_rdf (codes "value") a.name ≡ v → other_names (attribute_names node) ≡ other_names (attribute_names own)
        → other_names (attribute_names (cond (o || v) (a ∷ node) node)) ≡ other_names (attribute_names (cond o (a ∷ own) own))
    by true v tells is rest = ap (λ ns. cond (not (is_rdf (codes "value") a.name)) (a.name ∷ ns) ns) rest
    by false true tells is rest =
        ap (λ b. cond (not b) (a.name ∷ other_names (attribute_names node)) (other_names (attribute_names node))) is ∙ rest
    by false false tells is rest = rest

pub node_apart : (read : Element → Value) (n : Element) → has_again (other_names (member_names n)) ≡ false → NamesDiffer (other_members (members_of_node read n))
unfolding member_names node_members
node_apart read n h =
    let attributes : List Attribute = filter is_node_member (attributes_of n) in
    let p : Name → Bool = λ m. not (is_rdf (codes "value") m) in
    let names : map tree.name_of (members_of_node read n) ≡ attribute_names attributes ++ map name_of (elements_of n) =
    map-append tree.name_of (map attribute_member attributes) (element_members read n)
    ∙ ap (λ ns. ns ++ map tree.name_of (element_members read n)) (names-attributes attributes)
    ∙ ap (λ ns. attribute_names attributes ++ ns) (names-elements read (elements_of n)) in
    let others : other_names (map tree.name_of (members_of_node read n)) ≡ other_names (member_names n) =
    ap other_names names ∙ filter-append p (attribute_names attributes) (map name_of (elements_of n))
    ∙ ap (λ ns. ns ++ other_names (map name_of (elements_of n))) (node_names (attributes_of n))
    ∙ sym (filter-append p (attribute_names (property_attributes n)) (map name_of (elements_of n))) in
    others_apart (members_of_node read n) (other_names (member_names n)) others h

-- ---- `rdf:value` among the members

pub elements_valued : (read : Element → Value) (e : Element) → list_any is_value_member (element_members read e) ≡ has_element (is_rdf (codes "value")) e
elements_valued read e =
    list_any-map (element_member read) is_value_member (elements_of e)
    ∙ list_any_same (λ c. is_value_member (element_member read c)) (λ c. is_rdf (codes "value") (name_of c)) (value-element read) (elements_of e)

node_valued_attributes : (xs : List Attribute) → list_any is_value_member (map attribute_member (filter is_node_member xs)) ≡ list_any (λ (a : Attribute). is_rdf (codes "value") a.name) xs
node_valued_attributes [] = refl
node_valued_attributes (a ∷ xs) = by (is_member_name a.name) (is_rdf (codes "value") a.name) (λ own. outside_not_rdf (codes "value") a.name (own_outside a.name own)) (value-attribute a) (node_valued_attributes xs)
  where
    node : List Attribute
    node = filter is_node_member xs

    rest : Bool
    rest = list_any (λ (a : Attribute). is_rdf (codes "value") a.name) xs

    by : (o v : Bool) → (o ≡ true → v ≡ false) → is_value_member (attribute_member a) ≡ v → list_any is_value_member (map attribute_member node) ≡ rest
        → list_any is_value_member (map attribute_member (cond (o || v) (a ∷ node) node)) ≡ (v || rest)
    by true v tells is more = ap (λ b. b || list_any is_value_member (map attribute_member node)) is ∙ ap (λ b. v || b) more
    by false true tells is more = ap (λ b. b || list_any is_value_member (map attribute_member node)) is
    by false false tells is more = more

pub node_valued : (read : Element → Value) (n : Element) → list_any is_value_member (members_of_node read n) ≡ has_value_member n
unfolding node_members has_value_member
node_valued read n =
    list_any-append is_value_member (node_members n) (element_members read n)
    ∙ ap (λ b. b || list_any is_value_member (element_members read n)) (node_valued_attributes (attributes_of n))
    ∙ ap (λ b. has_attribute (is_rdf (codes "value")) n || b) (elements_valued read n)
