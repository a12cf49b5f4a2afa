-- Line ends, line by line.
use Rattle.std.proofs.Common.{◌≡◌, ℕ, ◌+◌, ◌<◌, ◌≤◌, Bool, true, false, cond, eqb, List, [], ◌∷◌, ◌++◌, length, take, drop, refl, sym, ap, ◌∙◌, append_assoc, length-append, append-nil, arith}
use Rattle.std.specs.Prelude.{IsTrue, encode_utf8, encode_utf8_all}
use Rattle.std.specs.List.{list_all, slice_index}
use Rattle.std.specs.Str.{chars, IsUtf8, IsCharBoundary}
use Rattle.std.proofs.lemmas.Bool.{eqb-true}
use Rattle.std.proofs.lemmas.Str.{encodes-append, encodes-chars, IsCharBoundary-after_ascii}
use Rattle.memchr.specs.Find.{Nowhere, NoneBefore, Passes, is_byte}
use Rattle.xml_grammar.specs.Spelling.{line_ends, line_ends_after}
use Rattle.xml_grammar.proofs.Splits.{both}
use Rattle.xml_grammar.proofs.ValueParts.{is_not}
use Rattle.xml_tokenizer.specs.Values.{past_feed}
use Rattle.xml_tokenizer.proofs.AsciiBytes.{none_passes, none_spelled, cut_before, char_at}
use Rattle.xml_tokenizer.proofs.Steps.{not_true}

pub ends_other : (c : ℕ) (cs : List ℕ) → eqb c 13 ≡ false → line_ends (c ∷ cs) ≡ c ∷ line_ends cs
ends_other c cs e = rw e refl

-- a front without CR stands as it is
pub ends_front_again : (front more : List ℕ) → IsTrue (list_all (is_not 13) front) → line_ends (front ++ more) ≡ front ++ line_ends more
ends_front_again [] more r = refl
ends_front_again (f ∷ front) more r =
    let k = both (is_not 13 f) (list_all (is_not 13) front) r in
    ends_other f (front ++ more) (not_true (eqb f 13) k.0) ∙ ap (λ (x : List ℕ). f ∷ x) (ends_front_again front more k.1)

-- after CR one LF is passed
pub ends_feed : (cs : List ℕ) → line_ends_after true cs ≡ line_ends (past_feed cs)
ends_feed [] = refl
ends_feed (c ∷ cs) = by_feed (eqb c 10) refl
  where
    by_feed : (v : Bool) → eqb c 10 ≡ v → line_ends_after true (c ∷ cs) ≡ line_ends (cond v cs (c ∷ cs))
    by_feed true e = ap (λ (d : ℕ). line_ends_after true (d ∷ cs)) (eqb-true c 10 e)
    by_feed false e = rw e refl

feed_short : (cs : List ℕ) → length (past_feed cs) ≤ length cs
feed_short [] = omega arith
feed_short (c ∷ cs) = by_feed (eqb c 10)
  where
    by_feed : (v : Bool) → length (cond v cs (c ∷ cs)) ≤ length (c ∷ cs)
    by_feed true = omega arith
    by_feed false = omega arith

return_low : (b : ℕ) → is_byte 13 b ≡ true → b < 128
return_low b e = let same : b ≡ 13 = eqb-true b 13 e in omega arith

-- a text without CR has its line ends already
pub no_returns : (text : List ℕ) → IsUtf8 text → Nowhere (Passes (is_byte 13) text) 0 (length text) → line_ends (chars text) ≡ chars text
no_returns text u h =
    let none = none_spelled (is_byte 13) return_low (chars text) (ap (list_all (is_not 13)) (encodes-chars text u) ∙ none_passes (is_byte 13) text h) in
    ap line_ends (sym (append-nil (chars text))) ∙ ends_front_again (chars text) [] none ∙ append-nil (chars text)

-- the first line of a text with a CR, and the text after the line's end
pub record FirstLine (text : List ℕ) (at : ℕ) : Type 0 where
  pub front : IsCharBoundary text at
  pub back : IsCharBoundary text (at + 1)
  pub ends : line_ends (chars text) ≡ chars (take at text) ++ 10 ∷ line_ends (past_feed (chars (drop (at + 1) text)))
  pub shorter : length (past_feed (chars (drop (at + 1) text))) < length (chars text)

pub first_line : (text : List ℕ) (at : ℕ) → IsUtf8 text → NoneBefore (Passes (is_byte 13) text) 0 (length text) at → Passes (is_byte 13) text at → FirstLine text at
first_line text at u first found =
    let cut = cut_before (is_byte 13) text (length text) at return_low u (omega arith) first found in
    let byte : slice_index text at ≡ 13 = eqb-true (slice_index text at) 13 found in
    let low : slice_index text at < 128 = return_low (slice_index text at) found in
    let rest : List ℕ = chars (drop (at + 1) text) in
    let after : chars (drop at text) ≡ 13 ∷ rest = char_at text at u first.high low ∙ ap (λ (b : ℕ). b ∷ rest) byte in
    let parts : chars text ≡ chars (take at text) ++ 13 ∷ rest = cut.parts ∙ ap (λ (t : List ℕ). chars (take at text) ++ t) after in
    let none = none_spelled (is_byte 13) return_low (chars (take at text)) (ap (list_all (is_not 13)) (encodes-chars (take at text) cut.front) ∙ cut.lacks) in
    record {
      front = cut.boundary;
      back = IsCharBoundary-after_ascii text at u first.high low;
      ends = ap line_ends parts ∙ ends_front_again (chars (take at text)) (13 ∷ rest) none ∙ ap (λ (t : List ℕ). chars (take at text) ++ 10 ∷ t) (ends_feed rest);
      shorter = omega (arith, feed_short rest, ap length parts, length-append (chars (take at text)) (13 ∷ rest));
    }

-- one line more is written
pub line_written : (all owned line next : List ℕ) (cs rest : List ℕ) → IsUtf8 line → line_ends cs ≡ chars line ++ 10 ∷ line_ends rest → next ≡ (owned ++ line) ++ encode_utf8 10
    → owned ++ encode_utf8_all (line_ends cs) ≡ all → next ++ encode_utf8_all (line_ends rest) ≡ all
line_written all owned line next cs rest u e f so_far =
    let spelled : encode_utf8_all (line_ends cs) ≡ line ++ (encode_utf8 10 ++ encode_utf8_all (line_ends rest)) = ap encode_utf8_all e ∙ encodes-append (chars line) (10 ∷ line_ends rest) ∙ ap (λ (t : List ℕ). t ++ (encode_utf8 10 ++ encode_utf8_all (line_ends rest))) (encodes-chars line u) in
    ap (λ (t : List ℕ). t ++ encode_utf8_all (line_ends rest)) f ∙ append_assoc (owned ++ line) (encode_utf8 10) _ ∙ append_assoc owned line _ ∙ ap (λ (t : List ℕ). owned ++ t) (sym spelled) ∙ so_far
