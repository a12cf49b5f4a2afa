-- Small texts with their documents and faults, to see that the definitions say what they are meant to say.
use Rattle.std.proofs.Common.{◌≡◌, ℕ, zero, suc, ◌+◌, ◌<◌, ◌≤◌, Bool, true, false, List, [], ◌∷◌, ◌++◌, length, None, refl, sym, ap, subst, ◌∙◌, append_assoc, inl, inr, arith}
use Rattle.std.specs.Prelude.{codes, chars, nat_le, ◌&&◌, IsTrue}
use Rattle.std.specs.Str as str
use Rattle.std.specs.List.{list_all}
use Rattle.std.proofs.lemmas.List.{append_cancel_left}
use Rattle.std.proofs.lemmas.Bool.{leb-true}
use lib.Utf8.{encode}
use Rattle.xmp_values.specs.Characters.{is_char, is_blank, is_name_start, is_name_char}
use Rattle.xmp_values.specs.declared.rules.Rule.TheVariants.{Utf16, BadChar, BadReference, OutsideRoot, Mismatch, TwiceAttribute, TooDeep, Unfinished}
use Rattle.xml_grammar.specs.declared.tags.QName.{QName}
use Rattle.xml_grammar.specs.declared.tags.RawAttribute.{RawAttribute}
use Rattle.xml_grammar.specs.Spelling.{SpellsValue, SpellsAttribute, SpellsReference, entity_name, number_from, Lt, Gt, Amp, Apos, Quot}
use Rattle.xml_grammar.specs.Scopes.{xml_space}
use Rattle.xmp_values.specs.Hints.{xmlns_space}
use Rattle.xml_grammar.specs.declared.tokens.Mode.{Mode}
use Rattle.xml_grammar.specs.declared.tokens.Mode.TheVariants as modes
use Rattle.xml_grammar.specs.Pieces.{Piece, Start, End, Reference, Spells, Stands, HasPiece}
use Rattle.xml_grammar.specs.Nesting.{Level, Nest, start, mode_of, is_outside, enter, broken}
use Rattle.xml_grammar.specs.Trees.{Placed}
use Rattle.xml_grammar.specs.Documents.{Reads, nest_after, IsDocument, IsFault}
use Rattle.xml_grammar.proofs.Splits.{head_same, tail_same, not_both, run_same}
use Rattle.xml_grammar.proofs.Parts.{apart}
use Rattle.xml_grammar.proofs.SoundPieces.{reference_char}
use Rattle.xml_grammar.proofs.ValueParts.{is_not, Names, reference_parts, inner_all, semicolon, no_hash}
use Rattle.xml_grammar.proofs.KindsByText.{ampersand_begins}
use Rattle.xml_grammar.proofs.Stopping.{told_fault, broken_fault}
use Rattle.xml_grammar.proofs.OneMeaning.{kind_none, bracket_none}
use Rattle.xml_grammar.proofs.TreeEvents.{element, element_is}

abbrev plain : List ℕ → QName
plain local = record { prefix = None; local = local }

abbrev open_tag : List ℕ → Piece
open_tag name = Start (record { name = plain name; attributes = []; empty = false })

abbrev empty_tag : List ℕ → Piece
empty_tag name = Start (record { name = plain name; attributes = []; empty = true })

-- `<a>` and the like
open_spelled : Spells (open_tag (codes "a")) (codes "<a>")
unfolding is_name_start is_name_char encode is_blank
open_spelled = (codes "a", [], [], (refl, refl), refl, refl, refl)

empty_spelled : Spells (empty_tag (codes "a")) (codes "<a/>")
unfolding is_name_start is_name_char encode is_blank
empty_spelled = (codes "a", [], [], (refl, refl), refl, refl, refl)

-- `<a/>` is a document
pub empty_document : IsDocument (codes "<a/>") (element 0 (record { space = []; local = codes "a" }) [] []) []
unfolding str.chars encode broken
empty_document = record {
  utf8 = (codes "<a/>", (refl, refl));
  pieces = (0, empty_tag (codes "a")) ∷ [];
  read = (refl, codes "<a/>", [], record { spelled = empty_spelled; fits = tt }, refl, refl, refl);
  closed = refl;
  rooted = refl;
  tree = sym (element_is 0 (record { space = []; local = codes "a" }) [] []);
  hinted = refl;
}

-- `<a>` is unfinished at its end
pub unfinished : IsFault (codes "<a>") Unfinished 3
unfolding str.chars encode broken
unfinished =
    told_fault (codes "<a>") Unfinished 3 ((0, open_tag (codes "a")) ∷ []) [] (codes "<a>", (refl, refl))
    (refl, codes "<a>", [], record { spelled = open_spelled; fits = tt }, refl, refl, refl) refl (kind_none (nest_after start ((0, open_tag (codes "a")) ∷ [])) [] refl) (refl, inl (λ e. cc))

-- `<a>]]></a>`
pub bad_char : IsFault (codes "<a>]]></a>") BadChar 3
unfolding str.chars encode broken
bad_char =
    told_fault (codes "<a>]]></a>") BadChar 3 ((0, open_tag (codes "a")) ∷ []) (codes "]]></a>") (codes "<a>]]></a>", (refl, refl))
    (refl, codes "<a>", codes "]]></a>", record { spelled = open_spelled; fits = tt }, refl, refl, refl) refl (bracket_none (nest_after start ((0, open_tag (codes "a")) ∷ [])) (codes "]]></a>") refl (codes "</a>", refl)) (inr (refl, (codes "</a>", refl)))

-- `<a/><b/>`
pub outside_root : IsFault (codes "<a/><b/>") OutsideRoot 4
unfolding str.chars encode broken is_name_start is_name_char is_blank
outside_root =
    broken_fault (codes "<a/><b/>") OutsideRoot 4 ((0, empty_tag (codes "a")) ∷ []) (codes "<b/>") (codes "<a/><b/>", (refl, refl))
    (refl, codes "<a/>", codes "<b/>", record { spelled = empty_spelled; fits = tt }, refl, refl, refl) refl
    (empty_tag (codes "b"), codes "<b/>", [], record { spelled = (codes "b", [], [], (refl, refl), refl, refl, refl); fits = tt }, refl, refl)

-- `<a><b></a>`
pub mismatch : IsFault (codes "<a><b></a>") Mismatch 6
unfolding str.chars encode broken is_name_start is_name_char is_blank
mismatch =
    broken_fault (codes "<a><b></a>") Mismatch 6 ((0, open_tag (codes "a")) ∷ (3, open_tag (codes "b")) ∷ []) (codes "</a>") (codes "<a><b></a>", (refl, refl)) (
      refl,
      codes "<a>",
      codes "<b></a>",
      record { spelled = open_spelled; fits = tt },
      refl,
      (refl, codes "<b>", codes "</a>", record { spelled = (codes "b", [], [], (refl, refl), refl, refl, refl); fits = tt }, refl, refl, refl),
      refl,
    ) refl
    (End (plain (codes "a")), codes "</a>", [], record { spelled = (codes "a", [], (refl, refl), refl, refl); fits = tt }, refl, refl)

-- `<a b="1" b="2"/>`
abbrev attribute : List ℕ → List ℕ → RawAttribute
attribute name value = record { name = plain name; value = value }

abbrev pair_tag : Piece
pair_tag = Start (record { name = plain (codes "a"); attributes = attribute (codes "b") (codes "1") ∷ attribute (codes "b") (codes "2") ∷ []; empty = true })

one_value : SpellsValue (codes "1") (codes "\"1\"")
unfolding encode is_char is_blank
one_value = (0x22, codes "1", codes "1", inl refl, (codes "1", [], inr (0x31, refl, λ e. omega arith, λ e. omega arith, λ e. omega arith, refl, refl), refl, refl), refl, refl)

two_value : SpellsValue (codes "2") (codes "\"2\"")
unfolding encode is_char is_blank
two_value = (0x22, codes "2", codes "2", inl refl, (codes "2", [], inr (0x32, refl, λ e. omega arith, λ e. omega arith, λ e. omega arith, refl, refl), refl, refl), refl, refl)

one_attribute : SpellsAttribute (attribute (codes "b") (codes "1")) (codes "b=\"1\"")
unfolding encode is_name_start is_name_char is_blank
one_attribute = (codes "b", codes "=", codes "\"1\"", (refl, refl), ([], [], refl, refl, refl), one_value, refl)

two_attribute : SpellsAttribute (attribute (codes "b") (codes "2")) (codes "b=\"2\"")
unfolding encode is_name_start is_name_char is_blank
two_attribute = (codes "b", codes "=", codes "\"2\"", (refl, refl), ([], [], refl, refl, refl), two_value, refl)

pair_spelled : Spells pair_tag (codes "<a b=\"1\" b=\"2\"/>")
unfolding encode is_name_start is_name_char is_blank
pair_spelled = (
  codes "a",
  codes " b=\"1\" b=\"2\"",
  [],
  (refl, refl),
  (codes " ", codes "b=\"1\"", codes " b=\"2\"", refl, one_attribute, (codes " ", codes "b=\"2\"", [], refl, two_attribute, refl, refl), refl),
  refl,
  refl,
)

pub twice_attribute : IsFault (codes "<a b=\"1\" b=\"2\"/>") TwiceAttribute 0
unfolding str.chars encode broken xml_space xmlns_space
twice_attribute =
    broken_fault (codes "<a b=\"1\" b=\"2\"/>") TwiceAttribute 0 [] (codes "<a b=\"1\" b=\"2\"/>") (codes "<a b=\"1\" b=\"2\"/>", (refl, refl)) refl refl
    (pair_tag, codes "<a b=\"1\" b=\"2\"/>", [], record { spelled = pair_spelled; fits = tt }, refl, refl)

-- ---- no reference

-- what a reference is, up to its `;`
cut_at : (inner after front back : List ℕ) (c : ℕ) → IsTrue (list_all (is_not 0x3B) inner) → SpellsReference c front → inner ++ codes ";" ++ after ≡ front ++ back → Names c inner
cut_at inner after front back c plain h e =
    let p = reference_parts c front h in
    let r = run_same (is_not 0x3B) inner p.0 (codes ";" ++ after) (codes ";" ++ back) plain (inner_all 0x3B c p.0 semicolon p.1) refl refl
    (sym (append_assoc inner (codes ";") after) ∙ e ∙ ap (λ (t : List ℕ). t ++ back) p.2 ∙ append_assoc p.0 (codes ";") back) in
    subst (Names c) (sym r.0) p.1

no_copy : (c : ℕ) → Names c (codes "&copy") → ⊥
no_copy c (inl (Lt, is, at)) = let h = head_same 0x63 0x6C (codes "opy") (codes "t") (tail_same 0x26 0x26 (codes "copy") (codes "lt") at) in omega arith
no_copy c (inl (Gt, is, at)) = let h = head_same 0x63 0x67 (codes "opy") (codes "t") (tail_same 0x26 0x26 (codes "copy") (codes "gt") at) in omega arith
no_copy c (inl (Amp, is, at)) = let h = head_same 0x63 0x61 (codes "opy") (codes "mp") (tail_same 0x26 0x26 (codes "copy") (codes "amp") at) in omega arith
no_copy c (inl (Apos, is, at)) = let h = head_same 0x63 0x61 (codes "opy") (codes "pos") (tail_same 0x26 0x26 (codes "copy") (codes "apos") at) in omega arith
no_copy c (inl (Quot, is, at)) = let h = head_same 0x63 0x71 (codes "opy") (codes "uot") (tail_same 0x26 0x26 (codes "copy") (codes "quot") at) in omega arith
no_copy c (inr (inl (digits, some, all, is, at))) = let h = head_same 0x63 0x23 (codes "opy") digits (tail_same 0x26 0x26 (codes "copy") (codes "#" ++ digits) at) in omega arith
no_copy c (inr (inr (digits, some, all, is, at))) = let h = head_same 0x63 0x23 (codes "opy") (codes "x" ++ digits) (tail_same 0x26 0x26 (codes "copy") (codes "#x" ++ digits) at) in omega arith

none_copied : (p : Piece) (c : ℕ) (front back after : List ℕ) → p ≡ Reference c → Spells p front → codes "&copy" ++ codes ";" ++ after ≡ front ++ back → ⊥
none_copied p c front back after is h e = no_copy c (cut_at (codes "&copy") after front back c refl (subst (λ (z : Piece). Spells z front) is h) e)

-- `<a>&copy;</a>`
pub bad_reference : IsFault (codes "<a>&copy;</a>") BadReference 3
unfolding str.chars encode broken
bad_reference =
    told_fault (codes "<a>&copy;</a>") BadReference 3 ((0, open_tag (codes "a")) ∷ []) (codes "&copy;</a>") (codes "<a>&copy;</a>", (refl, refl))
    (refl, codes "<a>", codes "&copy;</a>", record { spelled = open_spelled; fits = tt }, refl, refl, refl) refl none ((codes "copy;</a>", refl), none)
  where
    none : HasPiece modes.Inside (codes "&copy;</a>") → ⊥
    none h =
        let r = ampersand_begins modes.Inside h.0 h.1 h.2 h.3 (codes "copy;</a>", sym h.4) in
        none_copied h.0 r.0 h.1 h.2 (codes "</a>") r.1 h.3.spelled h.4

zero_no_char : is_char 0 ≡ false
unfolding is_char
zero_no_char = refl

no_zero : (c : ℕ) → is_char c ≡ true → Names c (codes "&#0") → ⊥
no_zero c char (inl (e, is, at)) = no_hash e (codes "0") (sym (tail_same 0x26 0x26 (codes "#0") (entity_name e) at))
no_zero c char (inr (inl (digits, some, all, is, at))) =
    let d : codes "0" ≡ digits = append_cancel_left (codes "&#") (codes "0") digits at in
    let zero : c ≡ 0 = is ∙ ap (number_from 10 0) (sym d) in
    not_both (is_char c) char (ap is_char zero ∙ zero_no_char)
no_zero c char (inr (inr (digits, some, all, is, at))) =
    let h = head_same 0x30 0x78 [] digits (append_cancel_left (codes "&#") (codes "0") (codes "x" ++ digits) at) in omega arith

none_zero : (p : Piece) (c : ℕ) (front back after : List ℕ) → p ≡ Reference c → Spells p front → codes "&#0" ++ codes ";" ++ after ≡ front ++ back → ⊥
none_zero p c front back after is h e =
    let k : Spells (Reference c) front = subst (λ (z : Piece). Spells z front) is h in
    no_zero c (reference_char c front k) (cut_at (codes "&#0") after front back c refl k e)

-- U+FEFF and `<a>&#0;</a>`
pub zero_reference : IsFault (0xEF ∷ 0xBB ∷ 0xBF ∷ codes "<a>&#0;</a>") BadReference 6
unfolding str.chars encode broken
zero_reference =
    told_fault (0xEF ∷ 0xBB ∷ 0xBF ∷ codes "<a>&#0;</a>") BadReference 6 ((3, open_tag (codes "a")) ∷ []) (codes "&#0;</a>") (0xFEFF ∷ codes "<a>&#0;</a>", (refl, refl))
    (refl, codes "<a>", codes "&#0;</a>", record { spelled = open_spelled; fits = tt }, refl, refl, refl) refl none ((codes "#0;</a>", refl), none)
  where
    none : HasPiece modes.Inside (codes "&#0;</a>") → ⊥
    none h =
        let r = ampersand_begins modes.Inside h.0 h.1 h.2 h.3 (codes "#0;</a>", sym h.4) in
        none_zero h.0 r.0 h.1 h.2 (codes "</a>") r.1 h.3.spelled h.4

-- ---- depth

-- as many `<a>`
abbrev pub tags : ℕ → List ℕ
tags zero = []
tags (suc n) = codes "<a>" ++ tags n

abbrev placed_tags : ℕ → ℕ → List Placed
placed_tags at zero = []
placed_tags at (suc n) = (at, open_tag (codes "a")) ∷ placed_tags (at + 3) n

abbrev deeper : Nest → Nest
deeper s = enter s (open_tag (codes "a"))

within_false : (m n : ℕ) → n < m → nat_le m n ≡ false
within_false m n h = apart (nat_le m n) (λ e. let k = leb-true m n e in omega arith)

open_good : (s : Nest) → (s.rooted && is_outside s.levels) ≡ false → length s.levels < 100 → broken s (open_tag (codes "a")) ≡ None
unfolding broken
open_good s fresh low = by s.levels s.rooted fresh (within_false 100 (length s.levels) low)
  where
    by : (ls : List Level) (rooted : Bool) → (rooted && is_outside ls) ≡ false → nat_le 100 (length ls) ≡ false → broken (record { first = s.first; levels = ls; rooted = rooted }) (open_tag (codes "a")) ≡ None
    by [] true f e = absurd cc
    by [] false f e = refl
    by (l ∷ ls) true f e = rw e refl
    by (l ∷ ls) false f e = rw e refl

open_stands : (mode : Mode) (back : List ℕ) → Stands mode (open_tag (codes "a")) (codes "<a>") back
open_stands mode back = record { spelled = open_spelled; fits = tt }

pub tags_read : (s : Nest) (at n : ℕ) (rest : List ℕ) → (s.rooted && is_outside s.levels) ≡ false → length s.levels + n ≤ 100 → Reads s at (placed_tags at n) (tags n ++ rest) rest
unfolding encode
tags_read s at zero rest fresh low = refl
tags_read s at (suc n) rest fresh low = (
  refl,
  codes "<a>",
  tags n ++ rest,
  open_stands (mode_of s) (tags n ++ rest),
  open_good s fresh (omega arith),
  tags_read (deeper s) (at + 3) n rest refl (omega arith),
  refl,
)

-- 101 times `<a>`
pub too_deep : IsFault (tags 101) TooDeep 300
unfolding str.chars encode broken
too_deep =
    broken_fault (tags 101) TooDeep 300 (placed_tags 0 100) (codes "<a>") (tags 101, (refl, refl))
    (tags_read start 0 100 (codes "<a>") refl (omega arith)) refl
    (open_tag (codes "a"), codes "<a>", [], open_stands modes.Inside [], refl, refl)

-- FF FE 3C 00
pub utf16 : IsFault (0xFF ∷ 0xFE ∷ 0x3C ∷ 0 ∷ []) Utf16 0
utf16 = (inr (0x3C ∷ 0 ∷ [], refl), refl)
