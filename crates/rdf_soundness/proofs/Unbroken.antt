-- An element breaks no rule exactly where each test fails.
use Rattle.std.proofs.Common.{◌≡◌, ℕ, Bool, true, false, List, [], ◌∷◌, ◌++◌, Option, Some, None, refl, ap, ◌∙◌}
use Rattle.std.specs.Prelude.{All, if◌then◌else◌}
use Rattle.std.specs.List.{flat_map}
use Rattle.std.proofs.lemmas.List.Elements.{All-nil, All-cons}
use Rattle.xmp_values.specs.declared.text.Name.{Name}
use Rattle.xmp_values.specs.declared.rules.Rule.{Rule}
use Rattle.xmp_values.specs.declared.rules.Rule.TheVariants as rules
use Rattle.xml_grammar.specs.declared.elements.Element.{Element}
use Rattle.rdf_forms.specs.declared.roles.Role.{Role}
use Rattle.rdf_forms.specs.Parts.{place_of}
use Rattle.rdf_forms.specs.Visits.{Visit}
use Rattle.rdf_forms.specs.NameRules.{no_rdf, not_description, about_differs, no_namespace, xml_name, rdf_name, name_rule, first_about}
use Rattle.rdf_forms.specs.FormRules.{refused_attribute, bad_parse_type, mixed, many_nodes, bad_container, bad_item, form_rule}
use Rattle.rdf_forms.specs.MemberRules.{twice_value, twice, tree_deep, member_rule, member_names}
use Rattle.std.specs.Option.{option_or}
use Rattle.rdf_forms.specs.Rules.{broken_in, broken, placed, fault_at, first_fault}

-- ---- an element

-- an element with its role, at a depth, after tops with this first about and these names of members
pub record IsUnbroken (role : Role) (depth : ℕ) (e : Element) (first : List ℕ) (names : List Name) : Type 0 where
  pub has_rdf : no_rdf role e ≡ false
  pub is_description : not_description role e ≡ false
  pub about_same : about_differs role e first ≡ false
  pub spaced : no_namespace role e ≡ false
  pub not_xml : xml_name role e ≡ false
  pub not_rdf : rdf_name role e ≡ false
  pub allowed : refused_attribute role e ≡ false
  pub parsed : bad_parse_type role e ≡ false
  pub unmixed : mixed role e ≡ false
  pub few_nodes : many_nodes role e ≡ false
  pub contained : bad_container role e ≡ false
  pub is_item : bad_item role e ≡ false
  pub value_once : twice_value role e ≡ false
  pub once : twice role e names ≡ false
  pub shallow : tree_deep role depth e ≡ false

passed : (b : Bool) (r : Rule) (o : Option Rule) → (if b then Some r else o) ≡ None → (b ≡ false) × (o ≡ None)
passed true r o e = absurd cc
passed false r o e = (refl, e)

neither : {X : Type 0} (o p : Option X) → option_or o p ≡ None → (o ≡ None) × (p ≡ None)
neither None p e = (refl, e)
neither (Some x) p e = absurd cc

abbrev NameFacts : Role → Element → List ℕ → Type 0
NameFacts role e first =
    (no_rdf role e ≡ false) × (not_description role e ≡ false) × (about_differs role e first ≡ false) × (no_namespace role e ≡ false)
    × (xml_name role e ≡ false) × (rdf_name role e ≡ false)

name_facts : (role : Role) (e : Element) (first : List ℕ) → name_rule role e first ≡ None → NameFacts role e first
unfolding name_rule
name_facts role e first h =
    let last : Option Rule = if rdf_name role e then Some rules.RdfName else None in
    let fifth : Option Rule = if xml_name role e then Some rules.XmlName else last in
    let fourth : Option Rule = if no_namespace role e then Some rules.NoNamespace else fifth in
    let third : Option Rule = if about_differs role e first then Some rules.AboutDiffers else fourth in
    let second : Option Rule = if not_description role e then Some rules.NotDescription else third in
    let a = passed (no_rdf role e) rules.NoRdf second h in
    let b = passed (not_description role e) rules.NotDescription third a.1 in
    let c = passed (about_differs role e first) rules.AboutDiffers fourth b.1 in
    let d = passed (no_namespace role e) rules.NoNamespace fifth c.1 in
    let f = passed (xml_name role e) rules.XmlName last d.1 in
    let g = passed (rdf_name role e) rules.RdfName None f.1 in
    (a.0, b.0, c.0, d.0, f.0, g.0)

abbrev FormFacts : Role → Element → Type 0
FormFacts role e =
    (refused_attribute role e ≡ false) × (bad_parse_type role e ≡ false) × (mixed role e ≡ false) × (many_nodes role e ≡ false)
    × (bad_container role e ≡ false) × (bad_item role e ≡ false)

form_facts : (role : Role) (e : Element) → form_rule role e ≡ None → FormFacts role e
unfolding form_rule
form_facts role e h =
    let last : Option Rule = if bad_item role e then Some rules.BadItem else None in
    let fifth : Option Rule = if bad_container role e then Some rules.BadContainer else last in
    let fourth : Option Rule = if many_nodes role e then Some rules.ManyNodes else fifth in
    let third : Option Rule = if mixed role e then Some rules.Mixed else fourth in
    let second : Option Rule = if bad_parse_type role e then Some rules.BadParseType else third in
    let a = passed (refused_attribute role e) rules.RefusedAttribute second h in
    let b = passed (bad_parse_type role e) rules.BadParseType third a.1 in
    let c = passed (mixed role e) rules.Mixed fourth b.1 in
    let d = passed (many_nodes role e) rules.ManyNodes fifth c.1 in
    let f = passed (bad_container role e) rules.BadContainer last d.1 in
    let g = passed (bad_item role e) rules.BadItem None f.1 in
    (a.0, b.0, c.0, d.0, f.0, g.0)

abbrev MemberFacts : Role → ℕ → Element → List Name → Type 0
MemberFacts role depth e names = (twice_value role e ≡ false) × (twice role e names ≡ false) × (tree_deep role depth e ≡ false)

member_facts : (role : Role) (depth : ℕ) (e : Element) (names : List Name) → member_rule role depth e names ≡ None → MemberFacts role depth e names
unfolding member_rule
member_facts role depth e names h =
    let last : Option Rule = if tree_deep role depth e then Some rules.TreeDeep else None in
    let second : Option Rule = if twice role e names then Some rules.Twice else last in
    let a = passed (twice_value role e) rules.TwiceValue second h in
    let b = passed (twice role e names) rules.Twice last a.1 in
    let c = passed (tree_deep role depth e) rules.TreeDeep None b.1 in
    (a.0, b.0, c.0)

pub unbroken_in : (role : Role) (depth : ℕ) (e : Element) (first : List ℕ) (names : List Name) → broken_in role depth e first names ≡ None
    → IsUnbroken role depth e first names
unfolding broken_in
unbroken_in role depth e first names h =
    let front = neither (name_rule role e first) (option_or (form_rule role e) (member_rule role depth e names)) h in
    let back = neither (form_rule role e) (member_rule role depth e names) front.1 in
    let n = name_facts role e first front.0 in
    let f = form_facts role e back.0 in
    let m = member_facts role depth e names back.1 in
    record {
      has_rdf = n.0;
      is_description = n.1;
      about_same = n.2;
      spaced = n.3;
      not_xml = n.4;
      not_rdf = n.5;
      allowed = f.0;
      parsed = f.1;
      unmixed = f.2;
      few_nodes = f.3;
      contained = f.4;
      is_item = f.5;
      value_once = m.0;
      once = m.1;
      shallow = m.2;
    }

-- ---- visits

abbrev pub IsUnbrokenVisit : Visit → Type 0
IsUnbrokenVisit v = IsUnbroken v.role v.depth v.element (first_about v.earlier) (flat_map member_names v.earlier)

placed_none : (place : ℕ) (o : Option Rule) → placed place o ≡ None → o ≡ None
placed_none place None h = refl
placed_none place (Some r) h = absurd cc

visit_unbroken : (v : Visit) → fault_at v ≡ None → IsUnbrokenVisit v
unfolding broken
visit_unbroken v h =
    unbroken_in v.role v.depth v.element (first_about v.earlier) (flat_map member_names v.earlier)
    (placed_none (place_of v.element) (broken_in v.role v.depth v.element (first_about v.earlier) (flat_map member_names v.earlier)) h)

-- a row of visits without a fault
abbrev pub IsFaultless : List Visit → Type 0
IsFaultless vs = first_fault vs ≡ None

pub faultless_cons : (v : Visit) (vs : List Visit) → IsFaultless (v ∷ vs) → IsUnbrokenVisit v × IsFaultless vs
faultless_cons v vs h = let parts = neither (fault_at v) (first_fault vs) h in (visit_unbroken v parts.0, parts.1)

pub faultless_append : (vs ws : List Visit) → IsFaultless (vs ++ ws) → IsFaultless vs × IsFaultless ws
faultless_append [] ws h = (refl, h)
faultless_append (v ∷ vs) ws h =
    let parts = neither (fault_at v) (first_fault (vs ++ ws)) h in
    let rest = faultless_append vs ws parts.1 in
    (ap (λ o. option_or o (first_fault vs)) parts.0 ∙ rest.0, rest.1)

pub faultless_each : {X : Type 0} (inside : X → List Visit) (xs : List X) → IsFaultless (flat_map inside xs) → All (λ x. IsFaultless (inside x)) xs
faultless_each inside [] h = All-nil (λ x. IsFaultless (inside x))
faultless_each inside (x ∷ xs) h =
    let parts = faultless_append (inside x) (flat_map inside xs) h in
    All-cons (λ x. IsFaultless (inside x)) x xs parts.0 (faultless_each inside xs parts.1)
