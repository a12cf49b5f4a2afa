-- An element that is the writing of a value reads as it, by recursion on the value.
use Rattle.std.proofs.Common.{◌≡◌, ◌≢◌, ℕ, zero, suc, ◌+◌, ◌*◌, ◌≤◌, Bool, true, false, not, ◌||◌, ◌&&◌, cond, inl, inr, List, [], ◌∷◌, ◌++◌, map, Option, Some, None, refl, ap, sym, subst, ◌∙◌, append-nil, arith}
use Rattle.std.specs.Prelude.{All, codes}
use Rattle.std.specs.List.{list_all}
use Rattle.std.specs.Str.{bytes_eq}
use Rattle.std.proofs.lemmas.Bool.{and_left, and_parts, both_ways}
use Rattle.std.proofs.lemmas.List.Elements.{All-nil, All-cons, All-head, All-tail, All-weaker}
use denote.Hole.Carrier.{out}
use mathlib.Core.Former.{Count}
use Rattle.xmp_values.specs.Characters.{is_blank}
use Rattle.xmp_values.specs.declared.text.Name.{Name}
use Rattle.xml_grammar.specs.declared.elements.Attribute.{Attribute}
use Rattle.xml_grammar.specs.declared.elements.Element.{Element}
use Rattle.xml_grammar.proofs.SoundPieces.{same_bytes}
use Rattle.xmp_tree.specs.declared.nested.Kind.{Kind}
use Rattle.xmp_tree.specs.declared.nested.Member.{Member, Member', outs-Member'}
use Rattle.xmp_tree.specs.declared.nested.Value.{Value, Value', outs-Value', Row_of-Member, end_of-Member, more_of-Member, items-the_row-Member, items_shown-the_row-Member-0}
use Rattle.xmp_tree.specs.declared.nested.Shape.{Shape, out-Shape, Simple, Uri, Struct', Array', Row_of-Value, end_of-Value, more_of-Value, items-the_row-Value}
use Rattle.xmp_tree.specs.Parts.{member, value}
use Rattle.xmp_tree.specs.Wf.{IsWfValue, IsWfShape, AreWfMembers, AreWfValues, AreQualifiers, IsQualifier, IsOwnSpace, NamesDiffer, IsPlain, IsPlainUri, value_depth, shape_depth, member_depths, value_depths, lang_name, type_name}
use Rattle.xmp_tree.specs.Wf as tree
use Rattle.rdf_forms.specs.declared.roles.Role.{Role}
use Rattle.rdf_forms.specs.declared.roles.Role.TheVariants as roles
use Rattle.rdf_forms.specs.declared.roles.Holder.{Holder}
use Rattle.rdf_forms.specs.declared.roles.Holder.TheVariants as holders
use Rattle.rdf_forms.specs.Words.{rdf_space, xml_space, rdf, is_rdf, is_lang, in_none, in_rdf, in_xml}
use Rattle.rdf_forms.specs.Parts.{name_of, elements_of, has_attribute, has_blank_text}
use Rattle.rdf_forms.specs.Visits.{member_depth, member_visits, item_visits, property_visits}
use Rattle.rdf_forms.specs.NameRules.{is_bare_element, rdf_name, is_type_attributes, is_childless, is_type_element, is_allowed_member}
use Rattle.rdf_forms.specs.FormRules.{bad_item, is_value_element}
use Rattle.rdf_forms.specs.Values.{plain, element_member, value_within}
use Rattle.rdf_soundness.proofs.Words.{type_is}
use Rattle.rdf_soundness.proofs.Unbroken.{IsFaultless}
use Rattle.xmp_write.specs.Text.{is_lang_name, simple_in, tag_in, lang_in, is_more, has_others}
use Rattle.round_trip.specs.Elements.{IsMarked, Plain, Parsed, Resource, Chosen, Begun, IsWritten, IsShape, AreMembers, AreOthers, AreItems}
use Rattle.round_trip.specs.Law.{ReadsAs, ReadBack}
use Rattle.round_trip.proofs.Rolled.{Length, count, value_is, member_is, struct_is, array_is}
use Rattle.round_trip.proofs.Faultless.{none_append}
use Rattle.round_trip.proofs.Marked.{is_some_tag, has_lang}
use Rattle.round_trip.proofs.Good.{IsGoodName}
use Rattle.round_trip.proofs.Names.{IsAllowed, differ_cons, own_not, own_not_rdf, allowed_not_value}
use Rattle.round_trip.proofs.Shapes.{tags, MembersRead, simple_reads, uri_reads, struct_reads, array_reads, qualified_reads}

-- ---- what is claimed of each part

abbrev ShapeReads : Shape → Type 0
ShapeReads s =
    (levels depth : ℕ) (role : Role) (e : Element) (name : Name) (lang : Option (List ℕ)) → IsShape e name lang s → IsWfShape s → IsGoodName role e
    → depth + shape_depth s ≤ 24 → (is_some_tag lang ≡ true → depth ≤ 23) → 2 * shape_depth s + 1 ≤ levels → ReadsAs levels role depth e (value s (tags lang))

abbrev ValueReads : Value → Type 0
ValueReads v =
    (levels depth : ℕ) (role : Role) (e : Element) (name : Name) → IsWritten e name v → IsWfValue v → IsGoodName role e → is_value_element e ≡ false
    → depth + value_depth v ≤ 25 → 2 * value_depth v ≤ levels → ReadsAs levels role depth e v

abbrev MembersReads : (n : Count) → Row_of-Member n → Type 0
MembersReads n row =
    (levels depth : ℕ) (holder : Holder) (es : List Element) → AreMembers es row → AreWfMembers row → All (IsAllowed holder) (items-the_row-Member n row)
    → depth + member_depths row ≤ 24 → 2 * member_depths row ≤ levels → MembersRead levels depth holder es (items-the_row-Member n row)

-- the qualifiers besides `xml:lang`
abbrev other_items : (n : Count) → Row_of-Member n → List Member
other_items n end_of-Member = []
other_items n (more_of-Member (Member' name v) rest) = cond (is_lang_name name) (items-the_row-Member _ rest) (Member' name v ∷ items-the_row-Member _ rest)

abbrev OthersReads : (n : Count) → Row_of-Member n → Type 0
OthersReads n row =
    (levels depth : ℕ) (es : List Element) → AreOthers es row → AreWfMembers row → AreQualifiers (items-the_row-Member n row)
    → depth + member_depths row ≤ 24 → 2 * member_depths row ≤ levels → MembersRead levels depth (holders.Value true) es (other_items n row)

abbrev ItemsReads : (n : Count) → Row_of-Value n → Type 0
ItemsReads n row =
    (levels depth : ℕ) (es : List Element) → AreItems es row → AreWfValues row → depth + value_depths row ≤ 24 → 2 * value_depths row ≤ levels
    → IsFaultless (item_visits (property_visits levels) depth es) × (map (value_within levels) es ≡ items-the_row-Value n row)

-- ---- names

pub name_row : (name : Name) (v : Value) → tree.name_of (Member' name v) ≡ name
name_row name v = rw (tree.name_of, outs-Member' name v) refl

pub value_row : (name : Name) (v : Value) → tree.value_of (Member' name v) ≡ v
value_row name v = rw (tree.value_of, outs-Member' name v) refl

pub tag_is : (n : Name) → is_lang_name n ≡ true → n ≡ lang_name
unfolding lang_name
tag_is n h =
    let parts = and_parts (bytes_eq n.space xml_space) (bytes_eq n.local (codes "lang")) h in
    let space = same_bytes n.space xml_space parts.0 in
    let local = same_bytes n.local (codes "lang") parts.1 in
    λ i. record { space = space i; local = local i }

tag_not : (n : Name) → is_lang_name n ≡ false → n ≢ lang_name
unfolding lang_name xml_space
tag_not n h same = both_ways (is_lang_name n) h (ap is_lang_name same)

shape_named : (s : Shape) (e : Element) (name : Name) (lang : Option (List ℕ)) → IsShape e name lang s → name_of e ≡ name
shape_named (Simple text) e name lang h = h.0.named
shape_named (Uri text) e name lang h = h.0.named
shape_named (Struct' n fields) e name lang h = h.0.named
shape_named (Array' kind n items) e name lang h = h.0.named

pub written_named : (v : Value) (e : Element) (name : Name) → IsWritten e name v → name_of e ≡ name
written_named (Value' s n q) e name h = by (has_others q) h
  where
    by : (b : Bool) → Chosen b (IsMarked e name (lang_in q) Parsed [] × Begun (λ x. IsShape x (rdf (codes "value")) None s) (λ es. AreOthers es q) (elements_of e)) (IsShape e name (lang_in q) s) → name_of e ≡ name
    by true h = h.0.named
    by false h = shape_named s e name (lang_in q) h

shape_untagged : (s : Shape) (e : Element) (name : Name) → IsShape e name None s → has_attribute is_lang e ≡ false
shape_untagged (Simple text) e name h = has_lang e name None Plain text h.0
shape_untagged (Uri text) e name h = has_lang e name None (Resource text) [] h.0
shape_untagged (Struct' n fields) e name h = has_lang e name None Parsed [] h.0
shape_untagged (Array' kind n items) e name h = has_lang e name None Plain [] h.0

-- an element that is the writing of a URI without qualifiers may be an `rdf:type`
uri_is_type : (s : Shape) (e : Element) (name : Name) → tree.IsUriLayer (out-Shape s) → IsShape e name None s → is_type_element e ≡ true
unfolding out-Shape out is_type_element is_rdf rdf_space
uri_is_type (Simple text) e name is h = absurd is
uri_is_type (Uri text) e name is h =
    ap (λ (xs : List Attribute). is_type_attributes xs && is_childless (elements_of e) && has_blank_text e) h.0.attributed
    ∙ ap (λ (es : List Element). is_childless es && has_blank_text e) h.1
    ∙ ap (λ (t : List ℕ). list_all is_blank t) h.0.worded
uri_is_type (Struct' n fields) e name is h = absurd is
uri_is_type (Array' kind n items) e name is h = absurd is

no_quals : (n : Count) (q : Row_of-Member n) → items-the_row-Member n q ≡ [] → (has_others q ≡ false) × (lang_in q ≡ None)
no_quals n end_of-Member h = (refl, refl)
no_quals n (more_of-Member m rest) h = absurd cc

type_written : (v : Value) (e : Element) (name : Name) → IsPlainUri v → IsWritten e name v → is_type_element e ≡ true
type_written (Value' s n q) e name uri h =
    let none : items-the_row-Member _ q ≡ [] = rw (outs-Value' s n q, items_shown-the_row-Member-0 n q) at uri.1 in
    let off = no_quals _ q none in
    let is : tree.IsUriLayer (out-Shape s) = rw (outs-Value' s n q) at uri.0 in
    let bare : IsShape e name (lang_in q) s = subst (λ (b : Bool). Chosen b (IsMarked e name (lang_in q) Parsed [] × Begun (λ x. IsShape x (rdf (codes "value")) None s) (λ es. AreOthers es q) (elements_of e)) (IsShape e name (lang_in q) s)) off.0 h in
    uri_is_type s e name is (subst (λ (o : Option (List ℕ)). IsShape e name o s) off.1 bare)

good_named : (holder : Holder) (e : Element) (n : Name) → name_of e ≡ n → IsOwnSpace n.space → IsGoodName (roles.Property holder) e
unfolding is_bare_element rdf_name bad_item
good_named holder e n is own =
    let not = own_not n own in
    record {
      kind = refl;
      spaced = ap in_none is ∙ not.0;
      not_xml = ap in_xml is ∙ not.2;
      not_rdf = and_left (in_rdf (name_of e)) _ (ap in_rdf is ∙ not.1);
      is_item = refl;
    }

good_type : (e : Element) → name_of e ≡ type_name → is_type_element e ≡ true → IsGoodName (roles.Property (holders.Value true)) e
unfolding is_bare_element rdf_name bad_item is_allowed_member is_rdf in_none in_xml in_rdf rdf_space xml_space type_name
good_type e is typed = record {
  kind = refl;
  spaced = ap in_none is;
  not_xml = ap in_xml is;
  not_rdf = ap (λ (n : Name). in_rdf n && not (is_rdf (codes "value") n || (is_rdf (codes "type") n && true && is_type_element e))) is ∙ ap (λ (b : Bool). not b) typed;
  is_item = refl;
}

good_value : (e : Element) → name_of e ≡ rdf (codes "value") → IsGoodName (roles.Property (holders.Value true)) e
unfolding is_bare_element rdf_name bad_item is_allowed_member is_rdf in_none in_xml in_rdf rdf_space xml_space
good_value e is = record {
  kind = refl;
  spaced = ap in_none is;
  not_xml = ap in_xml is;
  not_rdf = ap (λ (n : Name). in_rdf n && not (is_rdf (codes "value") n || (is_rdf (codes "type") n && true && is_type_element e))) is;
  is_item = refl;
}

good_item : (e : Element) → name_of e ≡ rdf (codes "li") → IsGoodName roles.Item e
unfolding is_bare_element rdf_name bad_item is_rdf in_none rdf_space
good_item e is = record {
  kind = refl;
  spaced = ap in_none is;
  not_xml = refl;
  not_rdf = refl;
  is_item = ap (λ (n : Name). not (is_rdf (codes "li") n)) is;
}

item_not_value : (e : Element) → name_of e ≡ rdf (codes "li") → is_value_element e ≡ false
unfolding is_rdf rdf_space
item_not_value e is = ap (is_rdf (codes "value")) is

-- a member that may stand in a holder is written as an element that may
good_member : (holder : Holder) (name : Name) (v : Value) (e : Element) → IsAllowed holder (Member' name v) → IsWritten e name v → IsGoodName (roles.Property holder) e
good_member holder name v e (inl own) h =
    good_named holder e name (written_named v e name h) (subst (λ (n : Name). IsOwnSpace n.space) (name_row name v) own)
good_member holder name v e (inr (is, with, uri)) h =
    subst (λ (k : Holder). IsGoodName (roles.Property k) e) (sym with)
    (good_type e (written_named v e name h ∙ sym (name_row name v) ∙ is) (type_written v e name (subst IsPlainUri (value_row name v) uri) h))

-- ---- members and items

members_end : MembersReads _ end_of-Member
members_end levels depth holder es h wf allowed deep enough =
    subst (λ (es : List Element). MembersRead levels depth holder es []) (sym h) (record { unbroken = refl; read = refl })

member_first : (name : Name) (v : Value) (n : Count) (rest : Row_of-Member n) → ValueReads v → (levels depth : ℕ) (holder : Holder) (es : List Element)
    → Begun (λ x. IsWritten x name v) (λ others. AreMembers others rest) es → IsWfValue v → IsAllowed holder (Member' name v)
    → depth + value_depth v ≤ 24 → 2 * value_depth v ≤ levels
    → ((others : List Element) → AreMembers others rest → MembersRead levels depth holder others (items-the_row-Member n rest))
    → MembersRead levels depth holder es (Member' name v ∷ items-the_row-Member n rest)
unfolding member_depth
member_first name v n rest ih levels depth holder es h wf allowed deep enough ihs =
    let x = h.0 in
    let others = h.1 in
    let named : name_of x ≡ name = written_named v x name h.3 in
    let off : is_rdf (codes "value") (name_of x) ≡ false = ap (is_rdf (codes "value")) (named ∙ sym (name_row name v)) ∙ allowed_not_value holder (Member' name v) allowed in
    let one = ih levels (depth + 1) (roles.Property holder) x name h.3 wf (good_member holder name v x allowed h.3) off (omega arith) enough in
    let more = ihs others h.4 in
    let first : IsFaultless (property_visits levels (roles.Property holder) (member_depth depth x) x) =
    subst (λ (b : Bool). IsFaultless (property_visits levels (roles.Property holder) (cond b depth (depth + 1)) x)) (sym off) one.unbroken in
    subst (λ (es : List Element). MembersRead levels depth holder es (Member' name v ∷ items-the_row-Member n rest)) (sym h.2) (record {
      unbroken = none_append (property_visits levels (roles.Property holder) (member_depth depth x) x) (member_visits (property_visits levels) holder depth others) first more.unbroken;
      read =
          ap (λ (m : Name). member m (value_within levels x) ∷ map (element_member (value_within levels)) others) named
          ∙ ap (λ (v : Value). member name v ∷ map (element_member (value_within levels)) others) one.read
          ∙ ap (λ (m : Member). m ∷ map (element_member (value_within levels)) others) (member_is name v)
          ∙ ap (λ (ms : List Member). Member' name v ∷ ms) more.read;
    })

members_more : (name : Name) (v : Value) (n : Count) (rest : Row_of-Member n) → ValueReads v → MembersReads n rest → MembersReads _ (more_of-Member (Member' name v) rest)
members_more name v n rest ih ihs levels depth holder es h wf allowed deep enough =
    member_first name v n rest ih levels depth holder es h wf.0.1 (All-head (IsAllowed holder) (Member' name v) (items-the_row-Member n rest) allowed) (omega arith) (omega arith)
    (λ others k. ihs levels depth holder others k wf.1 (All-tail (IsAllowed holder) (Member' name v) (items-the_row-Member n rest) allowed) (omega arith) (omega arith))

items_end : ItemsReads _ end_of-Value
items_end levels depth es h wf deep enough =
    subst (λ (es : List Element). IsFaultless (item_visits (property_visits levels) depth es) × (map (value_within levels) es ≡ [])) (sym h) (refl, refl)

items_more : (v : Value) (n : Count) (rest : Row_of-Value n) → ValueReads v → ItemsReads n rest → ItemsReads _ (more_of-Value v rest)
items_more v n rest ih ihs levels depth es h wf deep enough =
    let x = h.0 in
    let others = h.1 in
    let named : name_of x ≡ rdf (codes "li") = written_named v x (rdf (codes "li")) h.3 in
    let one = ih levels (depth + 1) roles.Item x (rdf (codes "li")) h.3 wf.0 (good_item x named) (item_not_value x named) (omega arith) (omega arith) in
    let more = ihs levels depth others h.4 wf.1 (omega arith) (omega arith) in
    subst (λ (es : List Element). IsFaultless (item_visits (property_visits levels) depth es) × (map (value_within levels) es ≡ v ∷ items-the_row-Value n rest)) (sym h.2) (
      none_append (property_visits levels roles.Item (depth + 1) x) (item_visits (property_visits levels) depth others) one.unbroken more.0,
      ap (λ (v : Value). v ∷ map (value_within levels) others) one.read ∙ ap (λ (vs : List Value). v ∷ vs) more.1,
    )

-- ---- qualifiers

qualifier_allowed : (m : Member) → tree.name_of m ≢ lang_name → IsQualifier m → IsAllowed (holders.Value true) m
qualifier_allowed m other h = by (is_rdf (codes "type") (tree.name_of m)) refl
  where
    by : (b : Bool) → is_rdf (codes "type") (tree.name_of m) ≡ b → IsAllowed (holders.Value true) m
    by true is = let same = (type_is (tree.name_of m)).0 is in inr (same, refl, h.kind same)
    by false is = inl (h.own other (λ same. both_ways (is_rdf (codes "type") (tree.name_of m)) is ((type_is (tree.name_of m)).1 same)))

-- those after the first
after_allowed : (m : Member) (ms : List Member) → AreQualifiers (m ∷ ms) → All (IsAllowed (holders.Value true)) ms
after_allowed m ms h k d lt = qualifier_allowed _ (h.lang_first 0 (suc k) d (omega arith) (omega arith)) (h.each (suc k) d (omega arith))

after_apart : (m : Member) (ms : List Member) → AreQualifiers (m ∷ ms) → NamesDiffer ms
after_apart m ms h = (differ_cons m ms h.apart).1

-- the first, where it isn't `xml:lang`
first_allowed : (name : Name) (v : Value) (ms : List Member) → is_lang_name name ≡ false → AreQualifiers (Member' name v ∷ ms) → IsAllowed (holders.Value true) (Member' name v)
first_allowed name v ms off h = qualifier_allowed (Member' name v) (λ same. tag_not name off (sym (name_row name v) ∙ same)) (All-head IsQualifier (Member' name v) ms h.each)

others_end : OthersReads _ end_of-Member
others_end levels depth es h wf quals deep enough =
    subst (λ (es : List Element). MembersRead levels depth (holders.Value true) es []) (sym h) (record { unbroken = refl; read = refl })

others_more : (name : Name) (v : Value) (n : Count) (rest : Row_of-Member n) → ValueReads v → MembersReads n rest → OthersReads _ (more_of-Member (Member' name v) rest)
others_more name v n rest ih ihs levels depth es h wf quals deep enough = by (is_lang_name name) refl h
  where
    after : (others : List Element) → AreMembers others rest → MembersRead levels depth (holders.Value true) others (items-the_row-Member n rest)
    after others k = ihs levels depth (holders.Value true) others k wf.1 (after_allowed (Member' name v) (items-the_row-Member n rest) quals) (omega arith) (omega arith)

    by : (b : Bool) → is_lang_name name ≡ b → Chosen b (AreMembers es rest) (Begun (λ x. IsWritten x name v) (λ others. AreMembers others rest) es)
        → MembersRead levels depth (holders.Value true) es (cond b (items-the_row-Member n rest) (Member' name v ∷ items-the_row-Member n rest))
    by true is h = after es h
    by false is h =
        member_first name v n rest ih levels depth (holders.Value true) es h wf.0.1 (first_allowed name v (items-the_row-Member n rest) is quals) (omega arith) (omega arith) after

simple_is : (s : Shape) → tree.IsSimpleLayer (out-Shape s) → Simple (simple_in s) ≡ s
unfolding out-Shape out
simple_is (Simple text) h = refl
simple_is (Uri text) h = absurd h
simple_is (Struct' n fields) h = absurd h
simple_is (Array' kind n items) h = absurd h

plain_is : (v : Value) → IsPlain v → plain (tag_in v) ≡ v
plain_is (Value' s n q) p =
    let none : items-the_row-Member _ q ≡ [] = rw (outs-Value' s n q, items_shown-the_row-Member-0 n q) at p.1 in
    let is : tree.IsSimpleLayer (out-Shape s) = rw (outs-Value' s n q) at p.0 in
    ap (λ (t : Shape). value t []) (simple_is s is) ∙ ap (λ (ms : List Member). value s ms) (sym none) ∙ value_is s n q

-- qualifiers are `xml:lang` and the others
quals_is : (n : Count) (q : Row_of-Member n) → AreQualifiers (items-the_row-Member n q) → items-the_row-Member n q ≡ tags (lang_in q) ++ other_items n q
quals_is n end_of-Member h = refl
quals_is n (more_of-Member (Member' name v) rest) h = by (is_lang_name name) refl
  where
    by : (b : Bool) → is_lang_name name ≡ b
        → Member' name v ∷ items-the_row-Member _ rest ≡ tags (cond b (Some (tag_in v)) None) ++ cond b (items-the_row-Member _ rest) (Member' name v ∷ items-the_row-Member _ rest)
    by true is =
        let same = tag_is name is in
        let kept = (All-head IsQualifier (Member' name v) (items-the_row-Member _ rest) h.each).lang (name_row name v ∙ same) in
        let held : plain (tag_in v) ≡ v = plain_is v (subst IsPlain (value_row name v) kept) in
        ap (λ (m : Member). m ∷ items-the_row-Member _ rest)
        (sym (member_is name v) ∙ ap (λ (k : Name). member k v) same ∙ ap (λ (w : Value). member lang_name w) (sym held))
    by false is = refl

others_allowed : (n : Count) (q : Row_of-Member n) → AreQualifiers (items-the_row-Member n q) → All (IsAllowed (holders.Value true)) (other_items n q)
others_allowed n end_of-Member h = All-nil (IsAllowed (holders.Value true))
others_allowed n (more_of-Member (Member' name v) rest) h = by (is_lang_name name) refl
  where
    after : All (IsAllowed (holders.Value true)) (items-the_row-Member _ rest)
    after = after_allowed (Member' name v) (items-the_row-Member _ rest) h

    by : (b : Bool) → is_lang_name name ≡ b → All (IsAllowed (holders.Value true)) (cond b (items-the_row-Member _ rest) (Member' name v ∷ items-the_row-Member _ rest))
    by true is = after
    by false is = All-cons (IsAllowed (holders.Value true)) (Member' name v) (items-the_row-Member _ rest) (first_allowed name v (items-the_row-Member _ rest) is h) after

others_apart : (n : Count) (q : Row_of-Member n) → AreQualifiers (items-the_row-Member n q) → NamesDiffer (other_items n q)
others_apart n end_of-Member h = h.apart
others_apart n (more_of-Member (Member' name v) rest) h = by (is_lang_name name)
  where
    by : (b : Bool) → NamesDiffer (cond b (items-the_row-Member _ rest) (Member' name v ∷ items-the_row-Member _ rest))
    by true = after_apart (Member' name v) (items-the_row-Member _ rest) h
    by false = h.apart

none_more : (n : Count) (q : Row_of-Member n) → is_more q ≡ false → items-the_row-Member n q ≡ []
none_more n end_of-Member h = refl
none_more n (more_of-Member m rest) h = absurd cc

none_others : (n : Count) (q : Row_of-Member n) → has_others q ≡ false → other_items n q ≡ []
none_others n end_of-Member h = refl
none_others n (more_of-Member (Member' name v) rest) h = by (is_lang_name name) h
  where
    by : (b : Bool) → cond b (is_more rest) true ≡ false → cond b (items-the_row-Member _ rest) (Member' name v ∷ items-the_row-Member _ rest) ≡ []
    by true h = none_more _ rest h
    by false h = absurd cc

depth_above : (v : Value) → 1 ≤ value_depth v
depth_above (Value' s n q) = omega arith

tagged_deep : (n : Count) (q : Row_of-Member n) → is_some_tag (lang_in q) ≡ true → 1 ≤ member_depths q
tagged_deep n end_of-Member h = absurd cc
tagged_deep n (more_of-Member (Member' name v) rest) h = let k = depth_above v in omega (arith, k)

-- ---- values

module _ (s : Shape) (n : Length) (q : Row_of-Member (count n)) (ihs : ShapeReads s) (iho : OthersReads (count n) q) where
  bare_step : (levels depth : ℕ) (role : Role) (e : Element) (name : Name) → has_others q ≡ false → IsShape e name (lang_in q) s → IsWfValue (Value' s n q)
      → IsGoodName role e → depth + value_depth (Value' s n q) ≤ 25 → 2 * value_depth (Value' s n q) ≤ levels → ReadsAs levels role depth e (Value' s n q)
  bare_step levels depth role e name off h wf good deep enough =
      let one = ihs levels depth role e name (lang_in q) h wf.0 good (omega arith) (λ tagged. let k = tagged_deep _ q tagged in omega (arith, k)) (omega arith) in
      let same : value s (tags (lang_in q)) ≡ Value' s n q =
      ap (λ (ms : List Member). value s ms)
      (sym (append-nil (tags (lang_in q))) ∙ ap (λ (ms : List Member). tags (lang_in q) ++ ms) (sym (none_others _ q off)) ∙ sym (quals_is _ q wf.1.1))
      ∙ value_is s n q in
      subst (λ (v : Value). ReadsAs levels role depth e v) same one

  qualified_step : (levels depth : ℕ) (role : Role) (e : Element) (name : Name) → IsMarked e name (lang_in q) Parsed []
      → Begun (λ x. IsShape x (rdf (codes "value")) None s) (λ es. AreOthers es q) (elements_of e) → IsWfValue (Value' s n q)
      → IsGoodName role e → is_value_element e ≡ false → depth + value_depth (Value' s n q) ≤ 25 → 2 * value_depth (Value' s n q) ≤ levels → ReadsAs levels role depth e (Value' s n q)
  qualified_step zero depth role e name h k wf good outer deep enough = absurd (omega arith)
  qualified_step (suc l) depth role e name h k wf good outer deep enough =
      let x = k.0 in
      let es = k.1 in
      let named = shape_named s x (rdf (codes "value")) None k.3 in
      let inner = ihs l depth (roles.Property (holders.Value true)) x (rdf (codes "value")) None k.3 wf.0 (good_value x named) (omega arith) (λ tagged. absurd cc) (omega arith) in
      let others = iho l depth es k.4 wf.1.0 wf.1.1 (omega arith) (omega arith) in
      let allowed = others_allowed _ q wf.1.1 in
      let one = qualified_reads s (other_items _ q) l depth role e x es name (lang_in q) h k.2 named (shape_untagged s x (rdf (codes "value")) k.3) inner others
      (others_apart _ q wf.1.1)
      (All-weaker (IsAllowed (holders.Value true)) (λ m. is_rdf (codes "value") (tree.name_of m) ≡ false) (λ m a. allowed_not_value (holders.Value true) m a) (other_items _ q) allowed)
      outer good (omega arith) (λ tagged. let d = tagged_deep _ q tagged in omega (arith, d)) in
      subst (λ (v : Value). ReadsAs (suc l) role depth e v) (ap (λ (ms : List Member). value s ms) (sym (quals_is _ q wf.1.1)) ∙ value_is s n q) one

  value_step : ValueReads (Value' s n q)
  value_step levels depth role e name h wf good outer deep enough = by (has_others q) refl h
    where
      by : (b : Bool) → has_others q ≡ b
          → Chosen b (IsMarked e name (lang_in q) Parsed [] × Begun (λ x. IsShape x (rdf (codes "value")) None s) (λ es. AreOthers es q) (elements_of e)) (IsShape e name (lang_in q) s)
          → ReadsAs levels role depth e (Value' s n q)
      by true is h = qualified_step levels depth role e name h.0 h.1 wf good outer deep enough
      by false is h = bare_step levels depth role e name is h wf good deep enough

simple_shape : (text : List ℕ) → ShapeReads (Simple text)
simple_shape text zero depth role e name lang h wf good deep room enough = absurd (omega arith)
simple_shape text (suc l) depth role e name lang h wf good deep room enough = simple_reads text l depth role e name lang h.0 h.1 good (omega arith) room

uri_shape : (text : List ℕ) → ShapeReads (Uri text)
uri_shape text zero depth role e name lang h wf good deep room enough = absurd (omega arith)
uri_shape text (suc l) depth role e name lang h wf good deep room enough = uri_reads text l depth role e name lang h.0 h.1 good (omega arith) room

struct_shape : (n : Length) (row : Row_of-Member (count n)) → MembersReads _ row → ShapeReads (Struct' n row)
struct_shape n row ih zero depth role e name lang h wf good deep room enough = absurd (omega arith)
struct_shape n row ih (suc l) depth role e name lang h wf good deep room enough =
    let ms : List Member = items-the_row-Member _ row in
    let allowed : All (IsAllowed (holders.Value false)) ms =
    All-weaker (λ m. IsOwnSpace (tree.name_of m).space) (IsAllowed (holders.Value false)) (λ m own. inl own) ms wf.1.own in
    let inside = ih l depth (holders.Value false) (elements_of e) h.1 wf.0 allowed (omega arith) (omega arith) in
    let none : All (λ m. is_rdf (codes "value") (tree.name_of m) ≡ false) ms =
    All-weaker (IsAllowed (holders.Value false)) (λ m. is_rdf (codes "value") (tree.name_of m) ≡ false) (λ m a. allowed_not_value (holders.Value false) m a) ms allowed in
    subst (λ (s : Shape). ReadsAs (suc l) role depth e (value s (tags lang))) (struct_is n row)
    (struct_reads ms l depth role e name lang h.0 inside wf.1.apart none good (omega arith) room)

array_shape : (kind : Kind) (n : Length) (row : Row_of-Value (count n)) → ItemsReads _ row → ShapeReads (Array' kind n row)
array_shape kind n row ih zero depth role e name lang h wf good deep room enough = absurd (omega arith)
array_shape kind n row ih (suc l) depth role e name lang h wf good deep room enough =
    let c = h.1.0 in
    let inside = ih l depth (elements_of c) h.1.3 wf (omega arith) (omega arith) in
    subst (λ (s : Shape). ReadsAs (suc l) role depth e (value s (tags lang))) (array_is kind n row)
    (array_reads kind (items-the_row-Value _ row) l depth role e c name lang h.0 h.1.1 h.1.2 inside.0 inside.1 good (omega arith) room)

mutual
  pub value_reads : (v : Value) → ValueReads v
  value_reads (Value' s n q) = value_step s n q (shape_reads s) (others_reads _ q)

  shape_reads : (s : Shape) → ShapeReads s
  shape_reads (Simple text) = simple_shape text
  shape_reads (Uri text) = uri_shape text
  shape_reads (Struct' n fields) = struct_shape n fields (members_reads _ fields)
  shape_reads (Array' kind n items) = array_shape kind n items (items_reads _ items)

  members_reads : (n : Count) (row : Row_of-Member n) → MembersReads n row
  members_reads n end_of-Member = members_end
  members_reads n (more_of-Member (Member' name v) rest) = members_more name v _ rest (value_reads v) (members_reads _ rest)

  others_reads : (n : Count) (row : Row_of-Member n) → OthersReads n row
  others_reads n end_of-Member = others_end
  others_reads n (more_of-Member (Member' name v) rest) = others_more name v _ rest (value_reads v) (members_reads _ rest)

  items_reads : (n : Count) (row : Row_of-Value n) → ItemsReads n row
  items_reads n end_of-Value = items_end
  items_reads n (more_of-Value v rest) = items_more v _ rest (value_reads v) (items_reads _ rest)

pub read_back : ReadBack
read_back v levels depth holder e name h wf own deep enough =
    let named = written_named v e name h in
    value_reads v levels depth (roles.Property holder) e name h wf (good_named holder e name named own)
    (ap (is_rdf (codes "value")) named ∙ own_not_rdf (codes "value") name own) deep enough
