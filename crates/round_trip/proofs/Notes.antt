-- The note of a written tree: its text and its member, and that it is read back.
use Rattle.std.proofs.Common.{◌≡◌, ◌≢◌, ℕ, ◌≤◌, ◌<◌, Bool, true, false, not, cond, ◌⊎◌, ◌||◌, ◌&&◌, inl, inr, List, [], ◌∷◌, ◌++◌, length, map, Option, Some, None, refl, ap, sym, ◌∙◌, arith}
use Rattle.std.specs.Prelude.{All, ◌==◌, nat_le, codes, filter, find, option_and_then}
use Rattle.std.specs.List.{list_all}
use lib.Utf8.{encode}
use denote.Hole.Carrier.{out}
use Rattle.std.proofs.lemmas.Bool.{or_cases, or_left, or_right, and_parts, and_from, leb-true, le-leb, lt-leb, eq-eqb, false_from_ne_true, not_from_false}
use Rattle.std.proofs.lemmas.List.Elements.{All-nil, All-cons, All-head, All-tail, All-weaker}
use Rattle.std.proofs.lemmas.List.Kept.{AllPairs-cons}
use Rattle.std.proofs.lemmas.List.Sums.{list_all-from_AllPass}
use Rattle.std.proofs.lemmas.Str.{encodes-IsAscii}
use Rattle.std.proofs.lemmas.Str.Ascii.{IsAscii-from_all}
use Rattle.xmp_values.specs.Characters.{IsCharText, is_char, is_within, is_name_start, is_name_char}
use Rattle.xmp_values.specs.Digits.{AreCapitals, is_digit, is_capital, capital}
use Rattle.xmp_values.specs.Spaces.{rdf_space, xml_space, meta_space}
use Rattle.xmp_tree.specs.declared.nested.Member.{Member}
use Rattle.xmp_tree.specs.declared.nested.Value.{out-Value, out-roll-Value}
use Rattle.xmp_tree.specs.declared.nested.Shape.{Simple, out-Shape}
use Rattle.xmp_tree.specs.Parts.{Parts, member, simple}
use Rattle.xmp_tree.specs.Wf.{name_of, value_of, IsNamed, IsOwnSpace, IsWfMember, member_depth, AreWellFormed, Wf, note_name}
use Rattle.xmp_tree.proofs.Made.{name-member, value-member, formed_member, formed_simple, formed_none, depth-member, depth-simple}
use Rattle.xmp_write.specs.Written.{note_members}
use Rattle.xmp_write.proofs.OwnNames.{IsOwned, written_owned}
use Rattle.rdf_forms.specs.Words.{same_name}
use Rattle.rdf_forms.specs.Meaning.{Placed, is_note, digits_in, shape_digits, all_placed, properties, note_of}
use Rattle.rdf_soundness.proofs.Lists.{filter_all, filter-map}
use Rattle.rdf_soundness.proofs.Words.{same_name_is}
use Rattle.round_trip.specs.Law.{IsNote, TreeReadBack}
use Rattle.round_trip.proofs.Trees.{members_read_back}

-- ---- its text

record IsCapital (b : ℕ) : Type 0 where
  digit : is_digit b ≡ true
  same : capital b ≡ b
  low : b < 128
  char : is_char b ≡ true

ascii_char : (b : ℕ) → 0x20 ≤ b → b < 128 → is_char b ≡ true
unfolding is_char
ascii_char b low high =
    or_right (nat_le 0x9 b && nat_le b 0xA) (is_within ((0xD, 0xD) ∷ (0x20, 0xD7FF) ∷ (0xE000, 0xFFFD) ∷ (0x10000, 0x10FFFF) ∷ []) b)
    (or_right (nat_le 0xD b && nat_le b 0xD) (is_within ((0x20, 0xD7FF) ∷ (0xE000, 0xFFFD) ∷ (0x10000, 0x10FFFF) ∷ []) b)
    (or_left (nat_le 0x20 b && nat_le b 0xD7FF) (is_within ((0xE000, 0xFFFD) ∷ (0x10000, 0x10FFFF) ∷ []) b)
    (and_from (nat_le 0x20 b) (nat_le b 0xD7FF) (le-leb 0x20 b low) (le-leb b 0xD7FF (omega (arith, high))))))

one_capital : (b : ℕ) → is_capital b ≡ true → IsCapital b
unfolding is_capital is_digit capital
one_capital b h = by (or_cases (nat_le 48 b && nat_le b 57) (nat_le 65 b && nat_le b 70) h)
  where
    from : 48 ≤ b → b ≤ 70 → IsCapital b
    from low high = record {
      digit = or_left ((nat_le 48 b && nat_le b 57) || (nat_le 65 b && nat_le b 70)) (nat_le 97 b && nat_le b 102) h;
      same = rw (lt-leb 97 b (omega (arith, high))) refl;
      low = omega (arith, high);
      char = ascii_char b (omega (arith, low)) (omega (arith, high));
    }

    by : ((nat_le 48 b && nat_le b 57) ≡ true) ⊎ ((nat_le 65 b && nat_le b 70) ≡ true) → IsCapital b
    by (inl is) = let parts = and_parts (nat_le 48 b) (nat_le b 57) is in let low = leb-true 48 b parts.0 in let high = leb-true b 57 parts.1 in from low (omega (arith, high))
    by (inr is) = let parts = and_parts (nat_le 65 b) (nat_le b 70) is in let low = leb-true 65 b parts.0 in let high = leb-true b 70 parts.1 in from (omega (arith, low)) high

capitals_same : (bs : List ℕ) → All (λ b. is_capital b ≡ true) bs → map capital bs ≡ bs
capitals_same [] h = refl
capitals_same (b ∷ bs) h =
    ap (λ (x : ℕ). x ∷ map capital bs) (one_capital b (All-head (λ b. is_capital b ≡ true) b bs h)).same
    ∙ ap (λ (x : List ℕ). b ∷ x) (capitals_same bs (All-tail (λ b. is_capital b ≡ true) b bs h))

capitals_digits : (bs : List ℕ) → AreCapitals bs → digits_in bs ≡ Some bs
capitals_digits bs h =
    ap (λ (b : Bool). cond b (Some (map capital bs)) None)
    (and_from (length bs == 32) (list_all is_digit bs) (eq-eqb (length bs) 32 h.0)
    (list_all-from_AllPass is_digit bs (λ k d within. (one_capital _ (h.1 k d within)).digit)))
    ∙ ap (λ (x : List ℕ). Some x) (capitals_same bs h.1)

pub capitals_text : (bs : List ℕ) → AreCapitals bs → IsCharText bs
capitals_text bs h =
    (bs, sym (encodes-IsAscii bs (IsAscii-from_all bs (λ k d within. (one_capital _ (h.1 k d within)).low))), λ k d within. (one_capital _ (h.1 k d within)).char)

-- ---- its member

empty : Parts
empty = record { about = []; props = [] }

empty_wf : Wf empty
unfolding empty
empty_wf = record { about = ([], refl, All-nil (λ c. is_char c ≡ true)); props = formed_none 24; note = All-nil (λ m. name_of m ≢ note_name) }

pub note_space : IsOwnSpace note_name.space × IsCharText note_name.space
unfolding empty note_name rdf_space xml_space meta_space
note_space = All-head IsOwned note_name.space [] (written_owned empty (record { first = 0; count = 0; note = Some [] }) empty_wf) refl

pub note_named : IsNamed note_name
unfolding note_name encode is_name_start is_name_char
note_named = record { chars = note_space.1; local = (codes "HasExtendedXMP", refl, refl) }

abbrev pub note_member : List ℕ → Member
note_member digits = member note_name (simple digits)

-- well-formed members after the note are well-formed with it
pub after_note : (note : Option (List ℕ)) (ms : List Member) → IsNote note → AreWellFormed 24 ms → All (λ m. name_of m ≢ note_name) ms → AreWellFormed 24 (note_members note ++ ms)
after_note None ms h wf apart = wf
after_note (Some digits) ms h wf apart =
    let m : Member = note_member digits in
    let named : name_of m ≡ note_name = name-member note_name (simple digits) in
    let depth = depth-member note_name (simple digits) in
    let low = depth-simple digits in
    record {
      within = record {
        each = All-cons IsWfMember m ms (formed_member note_name (simple digits) note_named (formed_simple digits (capitals_text digits h))) wf.within.each;
        shallow = All-cons (λ m. member_depth m ≤ 24) m ms (omega (arith, depth, low)) wf.within.shallow;
      };
      fields = record {
        apart = AllPairs-cons (λ m n. name_of m ≢ name_of n) m ms (λ k d within same. apart k d within (sym same ∙ named)) wf.fields.apart;
        own = All-cons (λ m. IsOwnSpace (name_of m).space) m ms (rw named note_space.0) wf.fields.own;
      };
    }

-- ---- what is read

abbrev is_note_member : Member → Bool
is_note_member m = same_name (name_of m) note_name

abbrev member_digits : Member → Option (List ℕ)
member_digits m = shape_digits (out-Shape (out-Value (value_of m)).shape)

is_the_note : (digits : List ℕ) → is_note_member (note_member digits) ≡ true
is_the_note digits = (same_name_is (name_of (note_member digits)) note_name).1 (name-member note_name (simple digits))

no_note : (ms : List Member) → All (λ m. name_of m ≢ note_name) ms → All (λ m. is_note_member m ≡ false) ms
no_note ms apart = All-weaker (λ m. name_of m ≢ note_name) (λ m. is_note_member m ≡ false)
    (λ m differ. false_from_ne_true (is_note_member m) (λ is. differ ((same_name_is (name_of m) note_name).0 is))) ms apart

-- the members that aren't the note
all_kept : (ms : List Member) → All (λ m. name_of m ≢ note_name) ms → filter (λ m. not (is_note_member m)) ms ≡ ms
all_kept ms apart = filter_all (λ m. not (is_note_member m)) ms (λ k d within. not_from_false _ (no_note ms apart k d within))

others_kept : (note : Option (List ℕ)) (ms : List Member) → All (λ m. name_of m ≢ note_name) ms → filter (λ m. not (is_note_member m)) (note_members note ++ ms) ≡ ms
others_kept None ms apart = all_kept ms apart
others_kept (Some digits) ms apart =
    ap (λ (b : Bool). cond (not b) (note_member digits ∷ filter (λ m. not (is_note_member m)) ms) (filter (λ m. not (is_note_member m)) ms)) (is_the_note digits)
    ∙ all_kept ms apart

find_none : (ms : List Member) → All (λ m. is_note_member m ≡ false) ms → find is_note_member ms ≡ None
find_none [] h = refl
find_none (m ∷ ms) h =
    ap (λ (b : Bool). cond b (Some m) (find is_note_member ms)) (All-head (λ m. is_note_member m ≡ false) m ms h) ∙ find_none ms (All-tail (λ m. is_note_member m ≡ false) m ms h)

digits_read : (digits : List ℕ) → AreCapitals digits → member_digits (note_member digits) ≡ Some digits
unfolding out-Shape out
digits_read digits h =
    ap (λ v. shape_digits (out-Shape (out-Value v).shape)) (value-member note_name (simple digits))
    ∙ ap (λ v. shape_digits (out-Shape v.shape)) (out-roll-Value record { shape = Simple digits; quals = [] })
    ∙ capitals_digits digits h

note_found : (note : Option (List ℕ)) (ms : List Member) → IsNote note → All (λ m. name_of m ≢ note_name) ms → option_and_then member_digits (find is_note_member (note_members note ++ ms)) ≡ note
note_found None ms h apart = ap (option_and_then member_digits) (find_none ms (no_note ms apart))
note_found (Some digits) ms h apart =
    ap (λ (b : Bool). option_and_then member_digits (cond b (Some (note_member digits)) (find is_note_member ms))) (is_the_note digits) ∙ digits_read digits h

-- places are no part of it
placed_note : (ps : List Placed) → option_and_then (λ (p : Placed). member_digits p.1) (find is_note ps) ≡ option_and_then member_digits (find is_note_member (map (λ (p : Placed). p.1) ps))
placed_note [] = refl
placed_note (p ∷ ps) = by (is_note p) (placed_note ps)
  where
    by : (b : Bool) → option_and_then (λ (p : Placed). member_digits p.1) (find is_note ps) ≡ option_and_then member_digits (find is_note_member (map (λ (p : Placed). p.1) ps))
        → option_and_then (λ (p : Placed). member_digits p.1) (cond b (Some p) (find is_note ps)) ≡ option_and_then member_digits (cond b (Some p.1) (find is_note_member (map (λ (p : Placed). p.1) ps)))
    by true rest = refl
    by false rest = rest

pub tree_read_back : TreeReadBack
tree_read_back t note levels root h wf is enough =
    let read = members_read_back t.about (note_members note ++ t.props) levels root h (after_note note t.props is wf.props wf.note) enough in
    let props : map (λ (p : Placed). p.1) (properties levels root) ≡ t.props =
    sym (filter-map (λ (p : Placed). p.1) (λ m. not (is_note_member m)) (all_placed levels root))
    ∙ ap (filter (λ m. not (is_note_member m))) read.members ∙ others_kept note t.props wf.note in
    let noted : note_of levels root ≡ note =
    placed_note (all_placed levels root) ∙ ap (λ (ms : List Member). option_and_then member_digits (find is_note_member ms)) read.members
    ∙ note_found note t.props is wf.note in
    (read.unbroken, (λ i. record { about = read.headed i; props = props i }), noted)
