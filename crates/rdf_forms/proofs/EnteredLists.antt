-- What entering names in a set gives, list by list.
use Rattle.std.proofs.Common.{ℕ, ◌+◌, ◌<◌, ◌≡◌, Bool, true, false, ◌||◌, List, [], ◌∷◌, ◌++◌, length, take, drop, get_or, map, refl, ap, sym, subst, ◌∙◌, append_assoc, ⊎_elim}
use Rattle.std.specs.Prelude.{not, Option, Some, None, filter, codes}
use Rattle.std.specs.List.{flat_map, cons_option}
use Rattle.std.proofs.lemmas.Bool.{or_from, or_left, or_right, not-true, not-false}
use Rattle.std.proofs.lemmas.List.{append-nil, map-append, take_more, take-append-drop}
use Rattle.std.proofs.lemmas.List.Concat.{flat_map-append}
use Rattle.std.proofs.lemmas.List.Elements.{Contains-append_left, Contains-append_right, Contains-append_cases, filter-append}
use Rattle.xmp_values.specs.declared.text.Name.{Name}
use Rattle.xml_grammar.specs.declared.elements.Attribute.{Attribute}
use Rattle.xml_grammar.specs.declared.elements.Child.{Child}
use Rattle.xml_grammar.specs.declared.elements.Element.{Element}
use Rattle.rdf_forms.specs.Words.{is_rdf, is_member_name}
use Rattle.rdf_forms.specs.Parts.{name_of, element_at, elements_in}
use Rattle.rdf_forms.specs.MemberRules.{has_again, has_common, attribute_names}
use Rattle.rdf_forms.specs.Entering.{element_names, property_attribute_names, Holds, clashes, entered, IsEntered, Enters}
use Rattle.rdf_forms.proofs.Clashes.{clashes-held, clashes-append}
use Rattle.rdf_forms.proofs.Entered.{holds_itself}

pub holds_after : (set names more : List Name) → Holds set names → Holds (set ++ more) (names ++ more)
holds_after set names more held n = (
  λ h. ⊎_elim (λ l. Contains-append_left names more n ((held n).0 l)) (Contains-append_right names more n) (Contains-append_cases set more n h),
  λ h. ⊎_elim (λ l. Contains-append_left set more n ((held n).1 l)) (Contains-append_right set more n) (Contains-append_cases names more n h),
)

pub holds_through : (a b c : List Name) → Holds a b → Holds b c → Holds a c
holds_through a b c p q n = (λ h. (q n).0 ((p n).0 h), λ h. (p n).1 ((q n).1 h))

-- Names entered so far, and more of them.
module _ (those ns set more : List Name) (so_far : IsEntered those ns set) where
  same : clashes more set ≡ clashes more (those ++ ns)
  same = clashes-held set (those ++ ns) more so_far.holds

  pub more_entered : (new : List Name) → clashes more set ≡ false → Holds new (set ++ more) → IsEntered those (ns ++ more) new
  more_entered new apart holds = record {
    apart = clashes-append ns more those ∙ or_from (clashes ns those) (clashes more (those ++ ns)) so_far.apart (sym same ∙ apart);
    holds = subst (Holds new) (append_assoc those ns more) (holds_through new (set ++ more) ((those ++ ns) ++ more) holds (holds_after set (those ++ ns) more so_far.holds));
  }

  pub more_clash : clashes more set ≡ true → clashes (ns ++ more) those ≡ true
  more_clash clash = clashes-append ns more those ∙ or_right (clashes ns those) (clashes more (those ++ ns)) (sym same ∙ clash)

  pub enters_more : (new : List Name) (b : Bool) → Enters set more new b → Enters those (ns ++ more) new b
  enters_more new false clash = more_clash clash
  enters_more new true entering = more_entered new entering.apart entering.holds

pub clash_before : (those ns more : List Name) → clashes ns those ≡ true → clashes (ns ++ more) those ≡ true
clash_before those ns more clash = clashes-append ns more those ∙ or_left (clashes ns those) (clashes more (those ++ ns)) clash

pub none_entered : (those : List Name) → IsEntered those [] those
none_entered those = record { apart = refl; holds = subst (Holds those) (sym (append-nil those)) (holds_itself those) }

-- a walk through items that give names
module _ {X : Type 0} (f : X → List Name) (those : List Name) (xs : List X) (i : ℕ) (x : X) (within : i < length xs) (here : x ≡ get_or xs i x)
    (set : List Name) (so_far : IsEntered those (flat_map f (take i xs)) set) (b : Bool) (tells : b ≡ not (clashes (f x) set)) where
  names_more : flat_map f (take (i + 1) xs) ≡ flat_map f (take i xs) ++ f x
  names_more =
      ap (flat_map f) (take_more xs i x within) ∙ flat_map-append f (take i xs) (get_or xs i x ∷ [])
      ∙ ap (λ ns. flat_map f (take i xs) ++ ns) (append-nil (f (get_or xs i x)) ∙ ap f (sym here))

  pub walk_more : b ≡ true → (new : List Name) → Holds new (set ++ f x) → IsEntered those (flat_map f (take (i + 1) xs)) new
  walk_more apart new holds =
      subst (λ ns. IsEntered those ns new) (sym names_more)
      (more_entered those (flat_map f (take i xs)) set (f x) so_far new (not-true (clashes (f x) set) (sym tells ∙ apart)) holds)

  pub walk_clash : b ≡ false → clashes (flat_map f xs) those ≡ true
  walk_clash stood =
      let now = more_clash those (flat_map f (take i xs)) set (f x) so_far (not-false (clashes (f x) set) (sym tells ∙ stood)) in
      let all = ap (flat_map f) (sym (take-append-drop (i + 1) xs)) ∙ flat_map-append f (take (i + 1) xs) (drop (i + 1) xs) in
      ap (λ ns. clashes ns those) all
      ∙ clash_before those (flat_map f (take (i + 1) xs)) (flat_map f (drop (i + 1) xs)) (ap (λ ns. clashes ns those) names_more ∙ now)

pub entered-append : (without : Bool) (ns ms : List Name) → entered without (ns ++ ms) ≡ entered without ns ++ entered without ms
entered-append true ns ms = filter-append (λ n. not (is_rdf (codes "value") n)) ns ms
entered-append false ns ms = refl

-- the names that a child, or an attribute, gives
abbrev pub child_names : Bool → Child → List Name
child_names without c = entered without (element_names (c ∷ []))

abbrev pub own_name : Bool → Attribute → List Name
own_name without a = entered without (property_attribute_names (a ∷ []))

nothing_entered : (without : Bool) → [] ≡ entered without []
nothing_entered true = refl
nothing_entered false = refl

elements_split : (o : Option Element) (es : List Element) → cons_option o es ≡ cons_option o [] ++ es
elements_split None es = refl
elements_split (Some e) es = refl

pub names-children : (without : Bool) (cs : List Child) → flat_map (child_names without) cs ≡ entered without (element_names cs)
names-children without [] = nothing_entered without
names-children without (c ∷ cs) =
    let one = elements_in (c ∷ []) in
    ap (λ ns. child_names without c ++ ns) (names-children without cs)
    ∙ sym (entered-append without (map name_of one) (map name_of (elements_in cs)))
    ∙ ap (entered without) (sym (map-append name_of one (elements_in cs)))
    ∙ ap (λ es. entered without (map name_of es)) (sym (elements_split (element_at c) (elements_in cs)))

pub names-attributes : (without : Bool) (xs : List Attribute) → flat_map (own_name without) xs ≡ entered without (property_attribute_names xs)
names-attributes without [] = nothing_entered without
names-attributes without (a ∷ xs) =
    let own = λ (b : Attribute). is_member_name b.name in
    let name = λ (b : Attribute). b.name in
    ap (λ ns. own_name without a ++ ns) (names-attributes without xs)
    ∙ sym (entered-append without (attribute_names (filter own (a ∷ []))) (attribute_names (filter own xs)))
    ∙ ap (entered without) (sym (map-append name (filter own (a ∷ [])) (filter own xs)))
    ∙ ap (λ bs. entered without (attribute_names bs)) (sym (filter-append own (a ∷ []) xs))

common_none : (ns : List Name) → has_common ns [] ≡ false
common_none [] = refl
common_none (n ∷ ns) = common_none ns

pub clashes-none : (ns : List Name) → clashes ns [] ≡ has_again ns
clashes-none ns = ap (λ (b : Bool). b || has_again ns) (common_none ns)

-- what tells that names clash
pub told : (those ns set : List Name) (b : Bool) → Enters those ns set b → not b ≡ clashes ns those
told those ns set false clash = sym clash
told those ns set true entering = sym entering.apart

pub told_again : (those ns set : List Name) (b : Bool) → those ≡ [] → Enters those ns set b → not b ≡ has_again ns
told_again those ns set b none entering = told those ns set b entering ∙ ap (clashes ns) none ∙ clashes-none ns
