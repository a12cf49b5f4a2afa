-- Where reading starts and stands, and where a run stops to be white space.
use Rattle.std.proofs.Common.{◌≡◌, ℕ, ◌+◌, ◌-◌, ◌≤◌, ◌<◌, ◌/◌, Bool, true, false, cond, eqb, ltb, List, [], ◌∷◌, ◌++◌, length, refl, sym, ap, subst, ◌∙◌, length-append, append-nil, inl, inr, arith}
use Rattle.std.specs.Prelude.{chars, encode_utf8, encode_utf8_all, IsTrue}
use Rattle.std.specs.Str.{IsUtf8}
use Rattle.std.specs.List.{list_all, prefix_len}
use Rattle.std.proofs.lemmas.Bool.{eqb-true}
use Rattle.std.proofs.lemmas.Str.{encodes-chars, encode_ascii, length-le-encodes}
use lib.Utf8.{encode, next}
use Rattle.xmp_values.specs.Characters.{is_blank}
use Rattle.xml_grammar.specs.Nesting.{Nest, enter}
use Rattle.xml_grammar.specs.Trees.{Placed}
use Rattle.xml_grammar.specs.Documents.{width, mark_width, after_mark, Reads, Begins}
use Rattle.xml_grammar.proofs.Splits.{Stops, all_cons}
use Rattle.xml_grammar.proofs.Parts.{blank_is, apart}
use Rattle.xml_grammar.proofs.Rows.{width-append}
use Rattle.xmp_xml.specs.Building.{start}
use Rattle.xmp_xml.proofs.Reached.{Reached}

-- nothing is read
pub reached_start : (text : List ℕ) → Reached text start (after_mark (chars text))
reached_start text = record { pieces = []; read = refl; nest = refl; hinted = refl; quiet = refl; shows = λ more. refl }

-- ---- places

marked : (cs : List ℕ) → mark_width cs + width (after_mark cs) ≡ width cs
unfolding encode
marked [] = refl
marked (c ∷ cs) = by_mark (eqb c 0xFEFF) refl
  where
    three : c ≡ 0xFEFF → length (encode_utf8 c) ≡ 3
    three e = ap (λ (z : ℕ). length (encode z)) e

    by_mark : (v : Bool) → eqb c 0xFEFF ≡ v → cond v 3 0 + width (cond v cs (c ∷ cs)) ≡ width (c ∷ cs)
    by_mark true e =
        let long = three (eqb-true c 0xFEFF e) in
        let both : width (c ∷ cs) ≡ length (encode_utf8 c) + width cs = length-append (encode_utf8 c) (encode_utf8_all cs) in
        omega arith
    by_mark false e = omega arith

whole : (text : List ℕ) → IsUtf8 text → mark_width (chars text) + width (after_mark (chars text)) ≡ length text
whole text u = marked (chars text) ∙ ap length (encodes-chars text u)

narrows : (s : Nest) (at : ℕ) (ps : List Placed) (text left : List ℕ) → Reads s at ps text left → width left ≤ width text
narrows s at [] text left h = let e : width text ≡ width left = ap width h in omega arith
narrows s at (p ∷ ps) text left (place, front, back, stands, good, more, is) =
    let r = narrows (enter s p.1) (at + width front) ps back left more in
    let e : width text ≡ width front + width back = ap width is ∙ width-append front back in
    omega arith

-- what is left and its place make the whole
pub place_ends : (text cs : List ℕ) (ps : List Placed) → IsUtf8 text → Begins text ps cs → length text - width cs + width cs ≡ length text
place_ends text cs ps u read =
    let total = whole text u in
    let less = narrows _ _ ps (after_mark (chars text)) cs read in
    omega arith

-- the place is as far from the start as what is left from the whole
pub place_from : (text cs : List ℕ) (ps : List Placed) → IsUtf8 text → Begins text ps cs → length text - width cs + width cs ≡ mark_width (chars text) + width (after_mark (chars text))
place_from text cs ps u read = place_ends text cs ps u read ∙ sym (whole text u)

-- ---- white space

blank_low : (c : ℕ) → is_blank c ≡ true → c < 128
blank_low c h = elim (blank_is c h) [
  | inl e ↦ omega arith
  | inr (inl e) ↦ omega arith
  | inr (inr (inl e)) ↦ omega arith
  | inr (inr (inr e)) ↦ omega arith
]

high_dark : (b : ℕ) → 128 ≤ b → is_blank b ≡ false
high_dark b high = apart (is_blank b) (λ e. let low = blank_low b e in omega arith)

-- the first byte of a character that isn't blank is none
dark_byte : (c : ℕ) (more : List ℕ) → is_blank c ≡ false → prefix_len is_blank (encode c ++ more) ≡ 0
unfolding encode
dark_byte c more dark = one (ltb c 128)
  where
    first : (b : ℕ) (bs : List ℕ) → is_blank b ≡ false → prefix_len is_blank (b ∷ bs) ≡ 0
    first b bs e = rw e refl

    three : (v : Bool) → prefix_len is_blank (cond v ((224 + c / 4096) ∷ next (c / 64) ∷ next c ∷ []) ((240 + c / 262144) ∷ next (c / 4096) ∷ next (c / 64) ∷ next c ∷ []) ++ more) ≡ 0
    three true = first (224 + c / 4096) (next (c / 64) ∷ next c ∷ more) (high_dark (224 + c / 4096) (omega arith))
    three false = first (240 + c / 262144) (next (c / 4096) ∷ next (c / 64) ∷ next c ∷ more) (high_dark (240 + c / 262144) (omega arith))

    two : (v : Bool) → prefix_len is_blank (cond v ((192 + c / 64) ∷ next c ∷ []) (cond (ltb c 65536) ((224 + c / 4096) ∷ next (c / 64) ∷ next c ∷ []) ((240 + c / 262144) ∷ next (c / 4096) ∷ next (c / 64) ∷ next c ∷ [])) ++ more) ≡ 0
    two true = first (192 + c / 64) (next c ∷ more) (high_dark (192 + c / 64) (omega arith))
    two false = three (ltb c 65536)

    one : (v : Bool) → prefix_len is_blank (cond v (c ∷ []) (cond (ltb c 2048) ((192 + c / 64) ∷ next c ∷ []) (cond (ltb c 65536) ((224 + c / 4096) ∷ next (c / 64) ∷ next c ∷ []) ((240 + c / 262144) ∷ next (c / 4096) ∷ next (c / 64) ∷ next c ∷ []))) ++ more) ≡ 0
    one true = first c more dark
    one false = two (ltb c 2048)

-- the white space that characters begin with, of which each is one byte
pub record Blanks (cs : List ℕ) : Type 0 where
  pub front : List ℕ
  pub back : List ℕ
  pub parts : cs ≡ front ++ back
  pub blank : IsTrue (list_all is_blank front)
  pub stops : Stops is_blank back
  pub long : prefix_len is_blank (encode_utf8_all cs) ≡ width front

pub blanks : (cs : List ℕ) → Blanks cs
blanks [] = record { front = []; back = []; parts = refl; blank = refl; stops = tt; long = refl }
blanks (c ∷ cs) = by_blank (is_blank c) refl (blanks cs)
  where
    by_blank : (v : Bool) → is_blank c ≡ v → Blanks cs → Blanks (c ∷ cs)
    by_blank true e k =
        let one : encode_utf8 c ≡ c ∷ [] = encode_ascii c (blank_low c e) in
        let step : prefix_len is_blank (c ∷ encode_utf8_all cs) ≡ 1 + prefix_len is_blank (encode_utf8_all cs) = rw e refl in
        let this : prefix_len is_blank (encode_utf8_all (c ∷ cs)) ≡ prefix_len is_blank (c ∷ encode_utf8_all cs) = ap (λ (z : List ℕ). prefix_len is_blank (z ++ encode_utf8_all cs)) one in
        let wide : width (c ∷ k.front) ≡ length (c ∷ encode_utf8_all k.front) = ap (λ (z : List ℕ). length (z ++ encode_utf8_all k.front)) one in
        let rest = k.long in
        record {
          front = c ∷ k.front;
          back = k.back;
          parts = ap (λ (z : List ℕ). c ∷ z) k.parts;
          blank = all_cons is_blank c k.front e k.blank;
          stops = k.stops;
          long = this ∙ step ∙ (omega arith);
        }
    by_blank false e k = record { front = []; back = c ∷ cs; parts = refl; blank = refl; stops = e; long = dark_byte c (encode_utf8_all cs) e }

-- where all bytes are white space nothing is after it
pub none_after : (cs : List ℕ) (k : Blanks cs) → prefix_len is_blank (encode_utf8_all cs) ≡ length (encode_utf8_all cs) → k.back ≡ []
none_after cs k e = by_back k.back refl
  where
    by_back : (back : List ℕ) → k.back ≡ back → back ≡ []
    by_back [] is = refl
    by_back (d ∷ ds) is =
        let parts : width cs ≡ width k.front + width (d ∷ ds) = ap width (k.parts ∙ ap (λ (z : List ℕ). k.front ++ z) is) ∙ width-append k.front (d ∷ ds) in
        let some : length (d ∷ ds) ≤ width (d ∷ ds) = length-le-encodes (d ∷ ds) in
        let long = k.long in
        absurd (omega arith)

-- and all characters are white space
pub all_blank : (cs : List ℕ) → prefix_len is_blank (encode_utf8_all cs) ≡ length (encode_utf8_all cs) → IsTrue (list_all is_blank cs)
all_blank cs e =
    let k : Blanks cs = blanks cs in
    let same : cs ≡ k.front = k.parts ∙ ap (λ (z : List ℕ). k.front ++ z) (none_after cs k e) ∙ append-nil k.front in
    subst (λ (z : List ℕ). IsTrue (list_all is_blank z)) (sym same) k.blank
