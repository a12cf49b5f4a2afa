-- What is put into a tree is well-formed, so the tree stays so.
use Rattle.std.proofs.Common.{◌≡◌, ◌∙◌, ◌-◌, ◌≤◌, ℕ, Bool, true, false, List, [], ◌∷◌, get_or, Option, Some, None, refl, sym, subst, ap, arith, codes}
use Rattle.std.specs.Prelude.{All, map, slice_get}
use Rattle.std.specs.Str.{bytes_eq}
use Rattle.std.specs.Char.{encode_utf8}
use Rattle.std.proofs.lemmas.List.Elements.{All-nil, All-cons, All-head, All-map, All-push, All-set, All-weaker, All-get_or}
use Rattle.std.proofs.lemmas.Option.{get_or_from_slice_get, slice_get-get_or, slice_get_within}
use Rattle.std.proofs.lemmas.List.Quantifiers.{position-Some}
use Rattle.std.proofs.lemmas.Slice.Eq.{bytes_eq-Decides}
use Rattle.xmp_values.specs.Characters.{IsCharText, IsName, is_char, is_name_start, is_name_char}
use Rattle.xmp_values.specs.Spaces.{rdf_space, xml_space, xmlns_space}
use Rattle.xmp_values.specs.declared.text.Name.{Name}
use Rattle.xmp_values.proofs.CharacterTexts.{IsCharText-spells}
use Rattle.xmp_tree.specs.declared.nested.Kind.{Kind}
use Rattle.xmp_tree.specs.declared.nested.Kind.TheVariants as kind
use Rattle.xmp_tree.specs.declared.nested.Value.{Value, out-Value, out-roll-Value}
use Rattle.xmp_tree.specs.declared.nested.Member.{Member}
use Rattle.xmp_tree.specs.declared.nested.Shape.{Shape, Shape-F, out-Shape, roll-Shape, roll-out-Shape, Simple, Array}
use Rattle.xmp_tree.specs.declared.nested.Shape.TheVariants.{rolls-Array}
use Rattle.xmp_tree.specs.declared.nested.Shape.TheOpen as layer
use Rattle.xmp_tree.specs.Parts.{member, simple, value}
use Rattle.xmp_tree.specs.Places.{place_of, same_name, tag_place}
use Rattle.xmp_tree.specs.Wf.{name_of, value_of, IsNamed, IsOwnSpace, IsWfValue, IsWfShape, IsWfMember, IsPlain, value_depth, shape_depth, member_depth, AreWellFormed, AreWellFormedQualifiers, lang_name, note_name}
use Rattle.xmp_tree.proofs.WfLemmas.{IsWfMember-out, member_depth-out, within_value, within_array}
use Rattle.xmp_tree.proofs.Made.{formed_simple, depth-simple, formed_quals_none, formed_quals_more, formed_member, formed_more, depth-member, name-member, value-member, named_lang, lang_qualifier, plain_simple}
use Rattle.xmp_tree.proofs.Changed.{formed_set}
use Rattle.xmp_tree.proofs.PlaceLemmas.{new_name}
use Rattle.mwg_rules.specs.declared.properties.Form.{Form}
use Rattle.mwg_rules.specs.declared.properties.Form.TheVariants.{Text, Date, Bag, Seq, Language}
use Rattle.mwg_rules.specs.declared.properties.Property.{Property}
use Rattle.mwg_rules.specs.declared.properties.Property.TheVariants.{Description, Rights, Creator, Subject, DateCreated, CreateDate, ModifyDate, City, State, Country, CountryCode, Location}
use Rattle.mwg_rules.specs.Properties.{space_of, local_of, dublin_core, photoshop, xmp_basic, iptc_core}
use Rattle.mwg_rules.specs.Properties as table
use Rattle.mwg_rules.specs.Sources.{Texts}
use Rattle.mwg_rules.specs.Forms.{with_texts, changed, default_item, default_tag, first_text, in_alternatives, is_already, made, same_kind, with_default}
use Rattle.mwg_rules.specs.Reconciled.{with_property}
use Rattle.mwg_rules.proofs.Puts.{with_property-there, with_property-absent}

abbrev pub IsWithin : ℕ → Value → Type 0
IsWithin room v = IsWfValue v × (value_depth v ≤ room)

abbrev IsShapeWithin : ℕ → Shape → Type 0
IsShapeWithin room s = IsWfShape s × (shape_depth s ≤ room)

module _ (room : ℕ) (some : room ≡ 0 → ⊥) where
  made_value : (s : Shape) (q : List Member) → IsShapeWithin (room - 1) s → AreWellFormedQualifiers (room - 1) q → IsWithin room (value s q)
  made_value s q hs hq = (within_value (value s q) room some).1 (rw (out-roll-Value record { shape = s; quals = q }) (hs, hq))

  text_within : (text : List ℕ) → IsCharText text → IsWithin room (simple text)
  text_within text chars = (formed_simple text chars, omega (arith, some, depth-simple text))

  array_within : (k : Kind) (vs : List Value) (quals : List Member) → All (IsWithin (room - 1)) vs → AreWellFormedQualifiers (room - 1) quals → IsWithin room (value (Array k vs) quals)
  array_within k vs quals each formed =
      made_value (Array k vs) quals ((within_array k vs (room - 1)).1 (λ i d lt. (each i d lt).0, λ i d lt. (each i d lt).1)) formed

-- a text of the default language goes two levels deep
default_chars : IsCharText default_tag
unfolding is_char encode_utf8
default_chars = (IsCharText-spells default_tag).1 (default_tag, refl, refl)

default_within : (room : ℕ) → 2 ≤ room → (text : List ℕ) → IsCharText text → IsWithin room (default_item text)
default_within room deep text chars =
    let m = member lang_name (simple default_tag) in
    let shallow : member_depth m ≤ room - 1 = subst (λ d. d ≤ room - 1) (sym (depth-member lang_name (simple default_tag))) (omega (arith, deep, depth-simple default_tag)) in
    let plain : IsPlain (value_of m) = subst IsPlain (sym (value-member lang_name (simple default_tag))) (plain_simple default_tag) in
    made_value room (λ e. omega arith) (Simple text) (m ∷ []) (chars, omega arith)
    (formed_quals_more [] m (room - 1) (formed_quals_none (room - 1)) (formed_member lang_name (simple default_tag) named_lang (formed_simple default_tag default_chars)) shallow
    (lang_qualifier m (name-member lang_name (simple default_tag)) plain) (λ e. refl) (λ any. absurd (omega (arith, any.2))))

first_chars : (texts : Texts) → All IsCharText texts → IsCharText (first_text texts)
first_chars [] h = ([], refl, All-nil (λ c. Rattle.std.proofs.Common.IsTrue (is_char c)))
first_chars (text ∷ texts) h = All-head IsCharText text texts h

module _ (room : ℕ) (deep : 3 ≤ room) where
  list_within : (k : Kind) (texts : Texts) → All IsCharText texts → IsWithin room (value (Array k (map simple texts)) [])
  list_within k texts h =
      array_within room (λ e. omega arith) k (map simple texts) []
      (All-map (IsWithin (room - 1)) simple texts (All-weaker IsCharText (λ t. IsWithin (room - 1) (simple t)) (λ t chars. text_within (room - 1) (λ e. omega arith) t chars) texts h))
      (formed_quals_none (room - 1))

  spoken_within : (text : List ℕ) → IsCharText text → IsWithin room (made Language (text ∷ []))
  unfolding made
  spoken_within text chars =
      array_within room (λ e. omega arith) kind.Alt (default_item text ∷ []) []
      (All-cons (IsWithin (room - 1)) (default_item text) [] (default_within (room - 1) (omega arith) text chars) (All-nil (IsWithin (room - 1))))
      (formed_quals_none (room - 1))

  made_within : (form : Form) (texts : Texts) → All IsCharText texts → IsWithin room (made form texts)
  unfolding made
  made_within Text texts h = text_within room (λ e. omega arith) (first_text texts) (first_chars texts h)
  made_within Date texts h = text_within room (λ e. omega arith) (first_text texts) (first_chars texts h)
  made_within Bag texts h = list_within kind.Bag texts h
  made_within Seq texts h = list_within kind.Seq texts h
  made_within Language texts h = spoken_within (first_text texts) (first_chars texts h)

  module _ (text : List ℕ) (chars : IsCharText text) where
    item_within : IsWithin (room - 1) (default_item text)
    item_within = default_within (room - 1) (omega arith) text chars

    items_within : (vs : List Value) (o : Option ℕ) → All (IsWithin (room - 1)) vs → All (IsWithin (room - 1)) (with_default text vs o)
    items_within vs (Some i) each = All-set (IsWithin (room - 1)) vs i (default_item text) item_within each
    items_within vs None each = All-cons (IsWithin (room - 1)) (default_item text) vs item_within each

    alternatives_within : (quals : List Member) → AreWellFormedQualifiers (room - 1) quals → (l : Shape-F Shape Member Value) → IsShapeWithin (room - 1) (roll-Shape l)
        → IsWithin room (in_alternatives text quals l)
    alternatives_within quals q (layer.Simple there) h = spoken_within text chars
    alternatives_within quals q (layer.Uri there) h = spoken_within text chars
    alternatives_within quals q (layer.Struct fields) h = spoken_within text chars
    alternatives_within quals q (layer.Array there items) h = by (same_kind there kind.Alt)
      where
        each : All (IsWithin (room - 1)) items
        each =
            let w = (within_array there items (room - 1)).0 (subst (IsShapeWithin (room - 1)) (rolls-Array there items) h) in
            λ i d lt. (w.0 i d lt, w.1 i d lt)

        by : (b : Bool) → IsWithin room (Rattle.std.specs.Prelude.cond b (value (Array kind.Alt (with_default text items (tag_place default_tag items))) quals) (made Language (text ∷ [])))
        by true = array_within room (λ e. omega arith) kind.Alt (with_default text items (tag_place default_tag items)) quals (items_within items (tag_place default_tag items) each) q
        by false = spoken_within text chars

  changed_within : (form : Form) (texts : Texts) (v : Value) → All IsCharText texts → IsWithin room v → IsWithin room (changed form texts v)
  unfolding changed
  changed_within Text texts v h w = made_within Text texts h
  changed_within Date texts v h w = made_within Date texts h
  changed_within Bag texts v h w = made_within Bag texts h
  changed_within Seq texts v h w = made_within Seq texts h
  changed_within Language texts v h w =
      let parts = (within_value v room (λ e. omega arith)).0 w in
      alternatives_within (first_text texts) (first_chars texts h) (out-Value v).quals parts.1 (out-Shape (out-Value v).shape)
      (subst (IsShapeWithin (room - 1)) (sym (roll-out-Shape (out-Value v).shape)) parts.0)

  either : (b : Bool) (x y : Value) → IsWithin room x → IsWithin room y → IsWithin room (Rattle.std.specs.Prelude.cond b x y)
  either true x y hx hy = hx
  either false x y hx hy = hy

  pub with_texts_within : (form : Form) (texts : Texts) (v : Value) → All IsCharText texts → IsWithin room v → IsWithin room (with_texts form texts (Some v))
  with_texts_within form texts v h w = either (is_already form texts v) v (changed form texts v) w (changed_within form texts v h w)

-- Names of the table.

other : (xs ys : List ℕ) → bytes_eq xs ys ≡ false → xs ≡ ys → ⊥
other xs ys e same = let t : bytes_eq xs ys ≡ true = (bytes_eq-Decides xs ys).1 same in absurd (cc)

own_by : (space : List ℕ) → bytes_eq space [] ≡ false → bytes_eq space rdf_space ≡ false → bytes_eq space xml_space ≡ false → bytes_eq space xmlns_space ≡ false → IsOwnSpace space
own_by space a b c d = record { some = other space [] a; not_rdf = other space rdf_space b; not_xml = other space xml_space c; not_xmlns = other space xmlns_space d }

pub own_space : (p : Property) → IsOwnSpace (space_of p)
unfolding space_of rdf_space xml_space xmlns_space
own_space Description = own_by dublin_core refl refl refl refl
own_space Rights = own_by dublin_core refl refl refl refl
own_space Creator = own_by dublin_core refl refl refl refl
own_space Subject = own_by dublin_core refl refl refl refl
own_space DateCreated = own_by photoshop refl refl refl refl
own_space CreateDate = own_by xmp_basic refl refl refl refl
own_space ModifyDate = own_by xmp_basic refl refl refl refl
own_space City = own_by photoshop refl refl refl refl
own_space State = own_by photoshop refl refl refl refl
own_space Country = own_by photoshop refl refl refl refl
own_space CountryCode = own_by iptc_core refl refl refl refl
own_space Location = own_by iptc_core refl refl refl refl

space_test : (p : Property) → bytes_eq (space_of p) note_name.space ≡ false
unfolding space_of note_name
space_test Description = refl
space_test Rights = refl
space_test Creator = refl
space_test Subject = refl
space_test DateCreated = refl
space_test CreateDate = refl
space_test ModifyDate = refl
space_test City = refl
space_test State = refl
space_test Country = refl
space_test CountryCode = refl
space_test Location = refl

not_note : (p : Property) → table.name_of p ≡ note_name → ⊥
not_note p e = other (space_of p) note_name.space (space_test p) (ap (λ (n : Name). n.space) e)

dublin_chars : IsCharText dublin_core
unfolding is_char encode_utf8
dublin_chars = (IsCharText-spells dublin_core).1 (dublin_core, refl, refl)

photoshop_chars : IsCharText photoshop
unfolding is_char encode_utf8
photoshop_chars = (IsCharText-spells photoshop).1 (photoshop, refl, refl)

basic_chars : IsCharText xmp_basic
unfolding is_char encode_utf8
basic_chars = (IsCharText-spells xmp_basic).1 (xmp_basic, refl, refl)

core_chars : IsCharText iptc_core
unfolding is_char encode_utf8
core_chars = (IsCharText-spells iptc_core).1 (iptc_core, refl, refl)

space_chars : (p : Property) → IsCharText (space_of p)
unfolding space_of
space_chars Description = dublin_chars
space_chars Rights = dublin_chars
space_chars Creator = dublin_chars
space_chars Subject = dublin_chars
space_chars DateCreated = photoshop_chars
space_chars CreateDate = basic_chars
space_chars ModifyDate = basic_chars
space_chars City = photoshop_chars
space_chars State = photoshop_chars
space_chars Country = photoshop_chars
space_chars CountryCode = core_chars
space_chars Location = core_chars

local_name : (p : Property) → IsName (local_of p)
unfolding local_of is_name_start is_name_char encode_utf8
local_name Description = (codes "description", refl, refl)
local_name Rights = (codes "rights", refl, refl)
local_name Creator = (codes "creator", refl, refl)
local_name Subject = (codes "subject", refl, refl)
local_name DateCreated = (codes "DateCreated", refl, refl)
local_name CreateDate = (codes "CreateDate", refl, refl)
local_name ModifyDate = (codes "ModifyDate", refl, refl)
local_name City = (codes "City", refl, refl)
local_name State = (codes "State", refl, refl)
local_name Country = (codes "Country", refl, refl)
local_name CountryCode = (codes "CountryCode", refl, refl)
local_name Location = (codes "Location", refl, refl)

named_property : (p : Property) → IsNamed (table.name_of p)
named_property p = record { chars = space_chars p; local = local_name p }

-- Properties with a value put into one of the table.
pub record AreProperties (ms : List Member) : Type 0 where
  pub formed : AreWellFormed 24 ms
  pub note : All (λ m. name_of m ≡ note_name → ⊥) ms

module _ (p : Property) (texts : Texts) (chars : All IsCharText texts) (ms : List Member) (old : AreProperties ms) where
  abbrev f : Option Value → Value
  f = with_texts (table.form_of p) texts

  there : (i : ℕ) → place_of (table.name_of p) ms ≡ Some i → (m : Member) → slice_get ms i ≡ Some m → AreProperties (with_property (table.name_of p) f ms)
  there i at m is =
      let n = name_of m in
      let here = slice_get_within ms i m is in
      let stands : get_or ms i m ≡ m = get_or_from_slice_get ms i m m is in
      let formed_m : IsWfMember m = subst IsWfMember stands (All-get_or IsWfMember ms i m here old.formed.within.each) in
      let shallow_m : member_depth m ≤ 24 = subst (λ x. member_depth x ≤ 24) stands (All-get_or (λ x. member_depth x ≤ 24) ms i m here old.formed.within.shallow) in
      let parts = (IsWfMember-out m).0 formed_m in
      let within = with_texts_within 24 (omega arith) (table.form_of p) texts (value_of m) chars (parts.1, subst (λ d. d ≤ 24) (member_depth-out m) shallow_m) in
      let v = f (Some (value_of m)) in
      let new = member n v in
      let named : name_of new ≡ name_of (get_or ms i new) = name-member n v ∙ ap name_of (sym (get_or_from_slice_get ms i m new is)) in
      subst AreProperties (sym (with_property-there (table.name_of p) f ms i m at is)) (record {
        formed = formed_set ms i new here named 24 old.formed (formed_member n v parts.0 within.0) (subst (λ d. d ≤ 24) (sym (depth-member n v)) within.1);
        note = All-set (λ x. name_of x ≡ note_name → ⊥) ms i new
            (λ e. All-get_or (λ x. name_of x ≡ note_name → ⊥) ms i m here old.note (ap name_of stands ∙ sym (name-member n v) ∙ e)) old.note;
      })

  absent : place_of (table.name_of p) ms ≡ None → AreProperties (with_property (table.name_of p) f ms)
  absent none =
      let n = table.name_of p in
      let v = f None in
      let new = member n v in
      let within = made_within 24 (omega arith) (table.form_of p) texts chars in
      subst AreProperties (sym (with_property-absent n f ms none)) (record {
        formed = formed_more ms new 24 old.formed (formed_member n v (named_property p) within.0) (subst (λ d. d ≤ 24) (sym (depth-member n v)) within.1)
            (subst (λ (k : Name). IsOwnSpace k.space) (sym (name-member n v)) (own_space p))
            (λ any. new_name n ms none (any.0, any.1, any.2, any.3, any.4 ∙ name-member n v));
        note = All-push (λ x. name_of x ≡ note_name → ⊥) ms new old.note (λ e. not_note p (sym (name-member n v) ∙ e));
      })

  pub put_formed : AreProperties (with_property (table.name_of p) f ms)
  put_formed = by (place_of (table.name_of p) ms) refl
    where
      by : (o : Option ℕ) → place_of (table.name_of p) ms ≡ o → AreProperties (with_property (table.name_of p) f ms)
      by None at = absent at
      by (Some i) at =
          let d : Member = member (table.name_of p) (f None) in
          there i at (get_or ms i d) (slice_get-get_or ms i d (position-Some (λ m. same_name (name_of m) (table.name_of p)) ms i d at).0)
