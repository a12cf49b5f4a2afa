-- The value by members is well-formed where each member is sound among them.
use Rattle.std.proofs.Common.{◌≡◌, ℕ, ◌≤◌, ◌+◌, Bool, true, false, not, ◌⊎◌, inl, inr, List, [], ◌++◌, get_or, Some, None, ap, sym, subst, ◌∙◌, append-nil}
use Rattle.std.specs.Prelude.{All, find}
use Rattle.std.specs.List.{list_any}
use Rattle.std.proofs.lemmas.Bool.{both_ways, not-true, not_from_false}
use Rattle.std.proofs.lemmas.List.Elements.{All-nil, All-weaker, All-filter, filter_passes}
use Rattle.xmp_tree.specs.declared.nested.Member.{Member}
use Rattle.xmp_tree.specs.declared.nested.Value.{Value, out-Value}
use Rattle.xmp_tree.specs.declared.nested.Shape.{Struct}
use Rattle.xmp_tree.specs.Wf.{name_of, value_of, type_name, NamesDiffer, IsOwnSpace, IsWfMember, member_depth, value_depth, IsPlainUri, IsQualifier, AreWithin, AreWellFormed, AreWellFormedQualifiers}
use Rattle.xmp_tree.proofs.KnownNames.{lang_not_type}
use Rattle.xmp_tree.proofs.Made.{other_qualifier, type_qualifier}
use Rattle.xmp_tree.proofs.WfLemmas.{within_struct, IsWfMember-out, IsWfValue-out, value_depth-out}
use Rattle.rdf_forms.specs.Values.{is_value_member, other_members, composed, by_members}
use Rattle.rdf_soundness.proofs.Lists.{Found, found, none_pass, filter_all}
use Rattle.rdf_soundness.proofs.Qualifiers.{IsFit, fit_value, quals-value, IsNoLang, IsNoType, IsTag, tagged, IsTyping, typed, AreTaglessQualifiers, tagless_none}
use Rattle.rdf_soundness.proofs.Attributes.{own_no_lang}

-- ---- members

-- a member that isn't `rdf:value`: `rdf:type` only where `rdf:value` is a member too
abbrev pub IsOther : Bool → Member → Type 0
IsOther with_value m = IsOwnSpace (name_of m).space ⊎ ((name_of m ≡ type_name) × (with_value ≡ true) × IsPlainUri (value_of m))

-- a value of `rdf:value`, whose qualifiers are `xml:lang` alone, and no second one
pub record IsHeld (room : ℕ) (lang : List Member) (v : Value) : Type 0 where
  pub shallow : value_depth v ≤ room + 1
  pub tagged : IsTag room (out-Value v).quals
  pub once : (lang ≡ []) ⊎ ((out-Value v).quals ≡ [])

-- a member among those of a value that has this `xml:lang`
pub record IsMember (room : ℕ) (with_value : Bool) (lang : List Member) (m : Member) : Type 0 where
  pub formed : IsWfMember m
  pub shallow : is_value_member m ≡ false → member_depth m ≤ room
  pub other : is_value_member m ≡ false → IsOther with_value m
  pub held : is_value_member m ≡ true → IsHeld room lang (value_of m)

pub record AreMembers (room : ℕ) (with_value : Bool) (lang types ms : List Member) : Type 0 where
  pub each : All (IsMember room with_value lang) ms
  pub valued : list_any is_value_member ms ≡ with_value
  pub apart : NamesDiffer (other_members ms)
  pub type_once : (types ≡ []) ⊎ All IsNoType ms

-- ---- the others

module _ (room : ℕ) (with_value : Bool) (lang : List Member) where
  -- a member that isn't `rdf:value`, as a qualifier
  record IsOtherFit (m : Member) : Type 0 where
    formed : IsWfMember m
    shallow : member_depth m ≤ room
    other : IsOther with_value m

  others_fit : (ms : List Member) → All (IsMember room with_value lang) ms → All IsOtherFit (other_members ms)
  others_fit ms h k d lt =
      let one = All-filter (λ m. not (is_value_member m)) (IsMember room with_value lang) ms h k d lt in
      let m : Member = get_or (other_members ms) k d in
      let off = not-true (is_value_member m) (filter_passes (λ m. not (is_value_member m)) ms k d lt) in
      record { formed = one.formed; shallow = one.shallow off; other = one.other off }

  other_is_qualifier : (m : Member) → IsOther with_value m → IsQualifier m
  other_is_qualifier m (inl own) = other_qualifier m own
  other_is_qualifier m (inr (is, with, uri)) = type_qualifier m is uri

  other_is_no_lang : (m : Member) → IsOther with_value m → IsNoLang m
  other_is_no_lang m (inl own) = own_no_lang m own
  other_is_no_lang m (inr (is, with, uri)) = λ same. lang_not_type (name_of m) same is

  pub others_within : (ms : List Member) → All (IsMember room with_value lang) ms → AreWithin room (other_members ms)
  others_within ms h =
      let fit = others_fit ms h in
      record {
        each = All-weaker IsOtherFit IsWfMember (λ m k. k.formed) (other_members ms) fit;
        shallow = All-weaker IsOtherFit (λ m. member_depth m ≤ room) (λ m k. k.shallow) (other_members ms) fit;
      }

  pub others_as_qualifiers : (ms : List Member) → All (IsMember room with_value lang) ms → NamesDiffer (other_members ms) → AreTaglessQualifiers room (other_members ms)
  others_as_qualifiers ms h apart =
      let fit = others_fit ms h in
      let none = All-weaker IsOtherFit IsNoLang (λ m k. other_is_no_lang m k.other) (other_members ms) fit in
      record {
        formed = record {
          within = others_within ms h;
          quals = record {
            apart = apart;
            each = All-weaker IsOtherFit IsQualifier (λ m k. other_is_qualifier m k.other) (other_members ms) fit;
            lang_first = λ i j d lt within. none j d within;
          };
        };
        none = none;
      }

  -- without `rdf:value` they are all own
  others_own : (ms : List Member) → with_value ≡ false → All (IsMember room with_value lang) ms → All (λ m. IsOwnSpace (name_of m).space) (other_members ms)
  others_own ms off h = All-weaker IsOtherFit (λ m. IsOwnSpace (name_of m).space) (λ m k. own m k.other) (other_members ms) (others_fit ms h)
    where
      own : (m : Member) → IsOther with_value m → IsOwnSpace (name_of m).space
      own m (inl h) = h
      own m (inr (is, with, uri)) = absurd (both_ways with_value off with)

  pub others_as_fields : (ms : List Member) → with_value ≡ false → All (IsMember room with_value lang) ms → NamesDiffer (other_members ms) → AreWellFormed room (other_members ms)
  others_as_fields ms off h apart =
      record { within = others_within ms h; fields = record { apart = apart; own = others_own ms off h } }

all_others : (ms : List Member) → list_any is_value_member ms ≡ false → other_members ms ≡ ms
all_others ms h =
    filter_all (λ m. not (is_value_member m)) ms
    (All-weaker (λ m. is_value_member m ≡ false) (λ m. not (is_value_member m) ≡ true) (λ m off. not_from_false (is_value_member m) off) ms
    (none_pass is_value_member ms h))

-- ---- the value

module _ (room : ℕ) (with_value : Bool) (lang types ms : List Member) (tag : IsTag room lang) (typing : IsTyping room types)
    (h : AreMembers room with_value lang types ms) where
  -- without `rdf:value`: a structure
  structure_fit : list_any is_value_member ms ≡ false → IsFit room (composed lang types ms None)
  structure_fit none =
      let fields = subst (AreWellFormed room) (all_others ms none) (others_as_fields room with_value lang ms (sym h.valued ∙ none) h.each h.apart) in
      let shape = (within_struct ms room).1 fields in
      let typings : AreTaglessQualifiers room types = subst (AreTaglessQualifiers room) (append-nil types) (typed room types [] typing (inr (All-nil IsNoType)) (tagless_none room)) in
      fit_value room (Struct ms) (lang ++ types) shape.0 shape.1 (tagged room lang types tag typings.none typings.formed)

  -- one `xml:lang`, of two lists
  tagged_once : (inner rest : List Member) → IsTag room inner → (lang ≡ []) ⊎ (inner ≡ []) → AreTaglessQualifiers room rest
      → AreWellFormedQualifiers room (lang ++ (inner ++ rest))
  tagged_once inner rest inside (inl none) k =
      subst (λ q. AreWellFormedQualifiers room (q ++ (inner ++ rest))) (sym none) (tagged room inner rest inside k.none k.formed)
  tagged_once inner rest inside (inr none) k =
      subst (λ q. AreWellFormedQualifiers room (lang ++ (q ++ rest))) (sym none) (tagged room lang rest tag k.none k.formed)

  others_once : (types ≡ []) ⊎ All IsNoType ms → (types ≡ []) ⊎ All IsNoType (other_members ms)
  others_once (inl none) = inl none
  others_once (inr none) = inr (All-filter (λ m. not (is_value_member m)) IsNoType ms none)

  held_fit : (m : Member) → IsMember room with_value lang m → is_value_member m ≡ true → IsFit room (composed lang types ms (Some m))
  held_fit m one is =
      let held = one.held is in
      let formed = ((IsWfMember-out m).0 one.formed).1 in
      let rest = typed room types (other_members ms) typing (others_once h.type_once) (others_as_qualifiers room with_value lang ms h.each h.apart) in
      fit_value room (out-Value (value_of m)).shape (lang ++ ((out-Value (value_of m)).quals ++ (types ++ other_members ms)))
      (IsWfValue-out (value_of m) formed).0 (value_depth-out room (value_of m) held.shallow).0
      (tagged_once (out-Value (value_of m)).quals (types ++ other_members ms) held.tagged held.once rest)

  pub members_fit : IsFit room (by_members lang types ms)
  unfolding by_members
  members_fit = by (found is_value_member (IsMember room with_value lang) ms h.each)
    where
      by : Found is_value_member (IsMember room with_value lang) ms → IsFit room (composed lang types ms (find is_value_member ms))
      by (inl (none, lacks)) = subst (λ o. IsFit room (composed lang types ms o)) (sym none) (structure_fit lacks)
      by (inr (m, found, has, passes, one)) = subst (λ o. IsFit room (composed lang types ms o)) (sym found) (held_fit m one passes)

  -- without `rdf:value` and a type its qualifiers are `xml:lang`
  pub members_bare : with_value ≡ false → types ≡ [] → (out-Value (by_members lang types ms)).quals ≡ lang
  unfolding by_members
  members_bare off untyped = by (found is_value_member (IsMember room with_value lang) ms h.each)
    where
      by : Found is_value_member (IsMember room with_value lang) ms → (out-Value (composed lang types ms (find is_value_member ms))).quals ≡ lang
      by (inl (none, lacks)) =
          ap (λ o. (out-Value (composed lang types ms o)).quals) none ∙ quals-value (Struct ms) (lang ++ types)
          ∙ ap (λ q. lang ++ q) untyped ∙ append-nil lang
      by (inr (m, found, has, passes, one)) = absurd (both_ways with_value off (sym h.valued ∙ has))
