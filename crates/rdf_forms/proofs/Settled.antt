-- More levels change nothing, by induction on the levels of elements.
use Rattle.std.proofs.Common.{◌≡◌, ℕ, zero, suc, ◌+◌, ◌≤◌, Bool, true, false, not, ◌&&◌, cond, List, [], ◌∷◌, ◌++◌, map, refl, ap, arith}
use Rattle.std.specs.Prelude.{All, is_some, filter, find, option_and_then, codes}
use Rattle.std.specs.List.{flat_map}
use Rattle.std.proofs.lemmas.List.Elements.{All-nil, All-cons, All-head, All-tail, All-weaker, All-filter, All-append}
use Rattle.xml_grammar.specs.declared.elements.Element.{Element}
use Rattle.xmp_tree.specs.declared.nested.Value.{Value, out-Value}
use Rattle.xmp_tree.specs.declared.nested.Member.{Member}
use Rattle.xmp_tree.specs.declared.nested.Shape.{Array, out-Shape}
use Rattle.xmp_tree.specs.Parts.{value, member, Parts}
use Rattle.xmp_tree.specs.Wf as tree
use Rattle.rdf_forms.specs.declared.roles.Role.{Role}
use Rattle.rdf_forms.specs.declared.roles.Role.TheVariants as roles
use Rattle.rdf_forms.specs.declared.roles.Holder.TheVariants as holders
use Rattle.rdf_forms.specs.Words.{is_rdf, is_container}
use Rattle.xml_grammar.specs.declared.elements.Attribute.{Attribute}
use Rattle.rdf_forms.specs.Parts.{name_of, place_of, elements_of, property_attributes, has_blank_text}
use Rattle.rdf_forms.specs.Forms.{Form, ByMembers, ByContainer, ByNode, ByAttributes, ByText, NoForm, parse_type, is_resource, has_other_attribute, form_by, form_of}
use Rattle.rdf_forms.specs.Values.{lang_qualifiers, type_of, by_members, node_members, kind_of, attribute_member, element_member, formed, value_within}
use Rattle.rdf_forms.specs.Visits.{visit, members_holder, node_holder, member_depth, form_visits, property_visits, top_visits, rdf_visits, child_visits, visits}
use Rattle.rdf_forms.specs.NameRules.{first_about}
use Rattle.rdf_forms.specs.Rules.{first_fault}
use Rattle.rdf_forms.specs.Meaning.{Placed, tops_of, placed_in, is_note, all_placed, shape_digits}
use Rattle.rdf_forms.specs.Levels.{SettledValue, SettledVisits, SettledMeaning}
use Rattle.rdf_forms.proofs.Levels.{HasLevels, has_levels}

-- ---- elements inside an element

-- an element with so many levels has one more as well
deeper : (levels : ℕ) (e : Element) → HasLevels levels e → HasLevels (suc levels) e
deeper zero e h = absurd h
deeper (suc levels) e h = All-weaker (HasLevels levels) (HasLevels (suc levels)) (λ c k. deeper levels c k) (elements_of e) h

inside : (levels : ℕ) (e : Element) → HasLevels levels e → All (HasLevels levels) (elements_of e)
inside zero e h = absurd h
inside (suc levels) e h = All-weaker (HasLevels levels) (HasLevels (suc levels)) (λ c k. deeper levels c k) (elements_of e) h

all_inside : (levels : ℕ) (es : List Element) → All (HasLevels levels) es → All (HasLevels levels) (flat_map elements_of es)
all_inside levels [] h = All-nil (HasLevels levels)
all_inside levels (e ∷ es) h =
    All-append (HasLevels levels) (elements_of e) (flat_map elements_of es) (inside levels e (All-head (HasLevels levels) e es h))
    (all_inside levels es (All-tail (HasLevels levels) e es h))

-- what holds of the element by which a form gives the value
abbrev IsIn : (Element → Type 0) → Form → Type 0
IsIn P (ByContainer c) = P c
IsIn P (ByNode n) = P n
IsIn P form = Unit {0}

child_in : (P : Element → Type 0) (c : Element) (b : Bool) → P c → IsIn P (cond b (ByContainer c) (ByNode c))
child_in P c true h = h
child_in P c false h = h

by_in : (P : Element → Type 0) (e : Element) (typed : Bool) (es : List Element) → All P es → IsIn P (form_by e typed es)
by_in P e typed [] h = childless (has_blank_text e && has_other_attribute e)
  where
    childless : (b : Bool) → IsIn P (cond b ByAttributes ByText)
    childless true = tt
    childless false = tt
by_in P e true (c ∷ cs) h = tt
by_in P e false (c ∷ []) h = child_in P c (is_container (name_of c)) (All-head P c [] h)
by_in P e false (c ∷ d ∷ cs) h = tt

form_in : (P : Element → Type 0) (e : Element) → All P (elements_of e) → IsIn P (form_of e)
unfolding form_of
form_in P e h = by (is_resource (parse_type e))
  where
    by : (b : Bool) → IsIn P (cond b ByMembers (form_by e (is_some (parse_type e)) (elements_of e)))
    by true = tt
    by false = by_in P e (is_some (parse_type e)) (elements_of e) h

-- ---- lists of what is the same at each element

map_same : {X Y : Type 0} (f g : X → Y) (xs : List X) → All (λ x. f x ≡ g x) xs → map f xs ≡ map g xs
map_same f g [] h = refl
map_same f g (x ∷ xs) h = λ i. All-head (λ x. f x ≡ g x) x xs h i ∷ map_same f g xs (All-tail (λ x. f x ≡ g x) x xs h) i

flat_map_same : {X Y : Type 0} (f g : X → List Y) (xs : List X) → All (λ x. f x ≡ g x) xs → flat_map f xs ≡ flat_map g xs
flat_map_same f g [] h = refl
flat_map_same f g (x ∷ xs) h = λ i. All-head (λ x. f x ≡ g x) x xs h i ++ flat_map_same f g xs (All-tail (λ x. f x ≡ g x) x xs h) i

-- ---- values

abbrev SameValues : ℕ → ℕ → ℕ → Type 0
SameValues levels n m = (e : Element) → HasLevels levels e → value_within n e ≡ value_within m e

values_in : (levels n m : ℕ) → SameValues levels n m → (es : List Element) → All (HasLevels levels) es → map (value_within n) es ≡ map (value_within m) es
values_in levels n m same es h =
    map_same (value_within n) (value_within m) es (All-weaker (HasLevels levels) (λ e. value_within n e ≡ value_within m e) same es h)

members_in : (levels n m : ℕ) → SameValues levels n m → (es : List Element) → All (HasLevels levels) es →
    map (element_member (value_within n)) es ≡ map (element_member (value_within m)) es
members_in levels n m same es h =
    map_same (element_member (value_within n)) (element_member (value_within m)) es
    (All-weaker (HasLevels levels) (λ e. element_member (value_within n) e ≡ element_member (value_within m) e) (λ e k. ap (member (name_of e)) (same e k)) es h)

formed_same : (levels n m : ℕ) → SameValues levels n m → (e : Element) → All (HasLevels levels) (elements_of e) → (form : Form) → IsIn (HasLevels levels) form →
    formed (value_within n) e form ≡ formed (value_within m) e form
formed_same levels n m same e h ByMembers k = ap (by_members (lang_qualifiers e) []) (members_in levels n m same (elements_of e) h)
formed_same levels n m same e h (ByContainer c) k =
    ap (λ (vs : List Value). value (Array (kind_of (name_of c)) vs) (lang_qualifiers e)) (values_in levels n m same (elements_of c) (inside levels c k))
formed_same levels n m same e h (ByNode c) k =
    ap (λ (ms : List Member). by_members (lang_qualifiers e) (type_of (name_of c)) (node_members c ++ ms)) (members_in levels n m same (elements_of c) (inside levels c k))
formed_same levels n m same e h ByAttributes k = refl
formed_same levels n m same e h ByText k = refl
formed_same levels n m same e h NoForm k = refl

same_value : (levels n m : ℕ) → levels ≤ n → levels ≤ m → SameValues levels n m
same_value zero n m a b e h = absurd h
same_value (suc levels) zero m a b e h = absurd (omega arith)
same_value (suc levels) (suc n) zero a b e h = absurd (omega arith)
same_value (suc levels) (suc n) (suc m) a b e h =
    formed_same levels n m (same_value levels n m (omega arith) (omega arith)) e h (form_of e) (form_in (HasLevels levels) e h)

pub settled_value : SettledValue
settled_value levels more e h le = same_value levels more levels le (omega arith) e (has_levels levels e h)

-- ---- the elements with a role

abbrev SameVisits : ℕ → ℕ → ℕ → Type 0
SameVisits levels n m = (role : Role) (depth : ℕ) (e : Element) → HasLevels levels e → property_visits n role depth e ≡ property_visits m role depth e

visits_in : (levels n m : ℕ) → SameVisits levels n m → (role : Role) (depth : Element → ℕ) (es : List Element) → All (HasLevels levels) es →
    flat_map (λ c. property_visits n role (depth c) c) es ≡ flat_map (λ c. property_visits m role (depth c) c) es
visits_in levels n m same role depth es h =
    flat_map_same (λ c. property_visits n role (depth c) c) (λ c. property_visits m role (depth c) c) es
    (All-weaker (HasLevels levels) (λ c. property_visits n role (depth c) c ≡ property_visits m role (depth c) c) (λ c k. same role (depth c) c k) es h)

form_same : (levels n m : ℕ) → SameVisits levels n m → (depth : ℕ) (e : Element) → All (HasLevels levels) (elements_of e) → (form : Form) → IsIn (HasLevels levels) form →
    form_visits (property_visits n) depth e form ≡ form_visits (property_visits m) depth e form
form_same levels n m same depth e h ByMembers k = visits_in levels n m same (roles.Property (members_holder e)) (member_depth depth) (elements_of e) h
form_same levels n m same depth e h (ByContainer c) k =
    ap (λ vs. visit roles.Container depth c ∷ vs) (visits_in levels n m same roles.Item (λ d. depth + 1) (elements_of c) (inside levels c k))
form_same levels n m same depth e h (ByNode c) k =
    ap (λ vs. visit roles.Node depth c ∷ vs) (visits_in levels n m same (roles.Property (node_holder c)) (member_depth depth) (elements_of c) (inside levels c k))
form_same levels n m same depth e h ByAttributes k = refl
form_same levels n m same depth e h ByText k = refl
form_same levels n m same depth e h NoForm k = refl

same_visits : (levels n m : ℕ) → levels ≤ n → levels ≤ m → SameVisits levels n m
same_visits zero n m a b role depth e h = absurd h
same_visits (suc levels) zero m a b role depth e h = absurd (omega arith)
same_visits (suc levels) (suc n) zero a b role depth e h = absurd (omega arith)
same_visits (suc levels) (suc n) (suc m) a b role depth e h =
    ap (λ vs. visit role depth e ∷ vs)
    (form_same levels n m (same_visits levels n m (omega arith) (omega arith)) depth e h (form_of e) (form_in (HasLevels levels) e h))

pub settled_visits : SettledVisits
settled_visits levels more role depth e h le = same_visits levels more levels le (omega arith) role depth e (has_levels levels e h)

-- ---- a document

abbrev placed_as : Element → Value → Placed
placed_as c v = (place_of c, member (name_of c) v)

abbrev placed_element : ℕ → Element → Placed
placed_element levels c = placed_as c (value_within levels c)

module _ (levels n m : ℕ) (a : levels ≤ n) (b : levels ≤ m) where
  same_tops : (earlier ts : List Element) → All (HasLevels levels) ts → top_visits n earlier ts ≡ top_visits m earlier ts
  same_tops earlier [] h = refl
  same_tops earlier (t ∷ ts) h =
      let here = visits_in levels n m (same_visits levels n m a b) (roles.Property holders.Top) (member_depth 0) (elements_of t)
      (inside levels t (All-head (HasLevels levels) t ts h)) in
      let later = same_tops (earlier ++ t ∷ []) ts (All-tail (HasLevels levels) t ts h) in
      λ i. record { role = roles.Top; depth = 0; element = t; earlier = earlier } ∷ (here i ++ later i)

  same_rdf : (e : Element) → HasLevels levels e → rdf_visits n e ≡ rdf_visits m e
  same_rdf e h = ap (λ vs. visit roles.Rdf 0 e ∷ vs) (same_tops [] (elements_of e) (inside levels e h))

  same_child : (c : Element) → HasLevels levels c → child_visits n c ≡ child_visits m c
  same_child c h = by (is_rdf (codes "RDF") (name_of c))
    where
      by : (b : Bool) → cond b (rdf_visits n c) [] ≡ cond b (rdf_visits m c) []
      by true = same_rdf c h
      by false = refl

  same_root : (root : Element) → HasLevels levels root → visits n root ≡ visits m root
  same_root root h = by (is_rdf (codes "RDF") (name_of root))
    where
      by : (b : Bool) → cond b (rdf_visits n root) (visit roles.Root 0 root ∷ flat_map (child_visits n) (elements_of root))
          ≡ cond b (rdf_visits m root) (visit roles.Root 0 root ∷ flat_map (child_visits m) (elements_of root))
      by true = same_rdf root h
      by false =
          ap (λ vs. visit roles.Root 0 root ∷ vs)
          (flat_map_same (child_visits n) (child_visits m) (elements_of root) (All-weaker (HasLevels levels) (λ c. child_visits n c ≡ child_visits m c) same_child (elements_of root) (inside levels root h)))

  same_top : (t : Element) → HasLevels levels t → placed_in n t ≡ placed_in m t
  same_top t h =
      let elements = map_same (placed_element n) (placed_element m) (elements_of t)
      (All-weaker (HasLevels levels) (λ c. placed_element n c ≡ placed_element m c)
      (λ c k. ap (placed_as c) (same_value levels n m a b c k)) (elements_of t) (inside levels t h)) in
      ap (λ (ps : List Placed). map (λ (a : Attribute). (place_of t, attribute_member a)) (property_attributes t) ++ ps) elements

  tops_within : (root : Element) → HasLevels levels root → All (HasLevels levels) (tops_of root)
  tops_within root h = by (is_rdf (codes "RDF") (name_of root))
    where
      held : List Element
      held = filter (λ c. is_rdf (codes "RDF") (name_of c)) (elements_of root)

      by : (b : Bool) → All (HasLevels levels) (flat_map elements_of (cond b (root ∷ []) held))
      by true = all_inside levels (root ∷ []) (All-cons (HasLevels levels) root [] h (All-nil (HasLevels levels)))
      by false = all_inside levels held (All-filter (λ c. is_rdf (codes "RDF") (name_of c)) (HasLevels levels) (elements_of root) (inside levels root h))

  same_placed : (root : Element) → HasLevels levels root → all_placed n root ≡ all_placed m root
  same_placed root h =
      flat_map_same (placed_in n) (placed_in m) (tops_of root)
      (All-weaker (HasLevels levels) (λ t. placed_in n t ≡ placed_in m t) same_top (tops_of root) (tops_within root h))

pub settled_meaning : SettledMeaning
settled_meaning levels more root high le =
    let h = has_levels levels root high in
    let placed = same_placed levels more levels le (omega arith) root h in
    record {
      fault = ap first_fault (same_root levels more levels le (omega arith) root h);
      tree = ap (λ (ps : List Placed). let t : Parts = record { about = first_about (tops_of root); props = map (λ (p : Placed). p.1) (filter (λ p. not (is_note p)) ps) } in t) placed;
      note = ap (λ (ps : List Placed). option_and_then (λ (p : Placed). shape_digits (out-Shape (out-Value (tree.value_of p.1)).shape)) (find is_note ps)) placed;
      places = ap (λ (ps : List Placed). map (λ (p : Placed). p.0) (filter (λ p. not (is_note p)) ps)) placed;
    }
