-- Where runs end that are found by searches, and what stands before.
use Rattle.std.proofs.Common.{◌≡◌, ℕ, ◌<◌, Bool, true, false, cond, eqb, ltb, not, ◌&&◌, ◌||◌, List, [], ◌∷◌, ◌++◌, length, take, drop, refl, sym, ap, subst, ◌∙◌, append-nil, arith}
use Rattle.std.specs.Prelude.{IsTrue, ◌==◌}
use Rattle.std.specs.List.{list_all, slice_index}
use Rattle.std.specs.Str.{chars, IsUtf8}
use Rattle.std.proofs.lemmas.Bool.{eqb-true, ltb-false}
use Rattle.std.proofs.lemmas.Bool.Decides.{nat_tests}
use Rattle.std.proofs.lemmas.Str.{encodes-chars}
use Rattle.memchr.specs.Find.{Nowhere, NoneBefore, Passes, is_byte, is_byte3}
use Rattle.xmp_values.specs.Characters.{is_char}
use Rattle.xml_grammar.proofs.Splits.{both, both_again, all_cons, all_weaker, Stops}
use Rattle.xml_tokenizer.specs.declared.classes.Class.TheVariants.{Char}
use Rattle.xml_tokenizer.specs.Classes.{is_literal, is_plain, is_value, is_value_byte, is_sure}
use Rattle.xml_tokenizer.specs.Runs.{taken, past}
use Rattle.xml_tokenizer.proofs.AsciiBytes.{fails, none_passes, none_spelled, cut_before, char_at}
use Rattle.xml_tokenizer.proofs.Sought.{taken_past}
use Rattle.xml_tokenizer.proofs.Sure.{all_sure}
use Rattle.xml_tokenizer.proofs.Steps.{taken_all, past_stops, run_again}

abbrev pub is_end : ℕ → Bool
is_end = is_byte3 60 38 13

pub end_low : (b : ℕ) → is_end b ≡ true → b < 128
end_low b e = grind (arith, nat_tests)

pub byte_low : (byte : ℕ) → byte < 128 → (b : ℕ) → is_byte byte b ≡ true → b < 128
byte_low byte low b e = let same : b ≡ byte = eqb-true b byte e in omega arith

-- the run at the front of a text, and what follows it
abbrev pub IsRun : (ℕ → Bool) → List ℕ → List ℕ → List ℕ → Type 0
IsRun p cs front rest = (taken p cs ≡ front) × (past p cs ≡ rest)

-- up to the first byte that passes a test of bytes below 128
pub before_byte : (test : ℕ → Bool) → ((b : ℕ) → test b ≡ true → b < 128) → (text : List ℕ) (at : ℕ) → IsUtf8 text → NoneBefore (Passes test text) 0 (length text) at → Passes test text at
    → IsRun (fails test) (chars text) (chars (take at text)) (chars (drop at text))
before_byte test low text at u first found =
    let cut = cut_before test text (length text) at low u (omega arith) first found in
    let none = none_spelled test low (chars (take at text)) (ap (list_all (fails test)) (encodes-chars (take at text) cut.front) ∙ cut.lacks) in
    let stop : Stops (fails test) (chars (drop at text)) = subst (Stops (fails test)) (sym (char_at text at u first.high (low (slice_index text at) found))) (ap not found) in
    let run = run_again (fails test) (chars (take at text)) (chars (drop at text)) none stop in
    (ap (taken (fails test)) cut.parts ∙ run.0, ap (past (fails test)) cut.parts ∙ run.1)

pub without_byte : (test : ℕ → Bool) → ((b : ℕ) → test b ≡ true → b < 128) → (text : List ℕ) → IsUtf8 text → Nowhere (Passes test text) 0 (length text) → IsRun (fails test) (chars text) (chars text) []
without_byte test low text u h =
    let none = none_spelled test low (chars text) (ap (list_all (fails test)) (encodes-chars text u) ∙ none_passes test text h) in
    let run = run_again (fails test) (chars text) [] none tt in
    let whole : chars text ≡ chars text ++ [] = sym (append-nil (chars text)) in
    (ap (taken (fails test)) whole ∙ run.0, ap (past (fails test)) whole ∙ run.1)

all_and : (p q : ℕ → Bool) (cs : List ℕ) → IsTrue (list_all p cs) → IsTrue (list_all q cs) → IsTrue (list_all (λ c. p c && q c) cs)
all_and p q [] h k = refl
all_and p q (c ∷ cs) h k =
    let a = both (p c) (list_all p cs) h in
    let b = both (q c) (list_all q cs) k in
    all_cons (λ d. p d && q d) c cs (both_again (p c) (q c) a.0 b.0) (all_and p q cs a.1 b.1)

stops_narrower : (p q : ℕ → Bool) → ((c : ℕ) → q c ≡ false → p c ≡ false) → (cs : List ℕ) → Stops q cs → Stops p cs
stops_narrower p q narrower [] s = tt
stops_narrower p q narrower (c ∷ cs) s = narrower c s

-- a narrower run ends where a wider one does, if all of that one is of it
narrower_run : (p q : ℕ → Bool) → ((c : ℕ) → q c ≡ false → p c ≡ false) → (cs front rest : List ℕ) → IsRun q cs front rest → IsTrue (list_all p front) → IsRun p cs front rest
narrower_run p q narrower cs front rest (t, r) all =
    let stop = stops_narrower p q narrower rest (subst (Stops q) r (past_stops q cs)) in
    let whole : cs ≡ front ++ rest = taken_past q cs ∙ ap (λ (x : List ℕ). x ++ past q cs) t ∙ ap (λ (x : List ℕ). front ++ x) r in
    let run = run_again p front rest all stop in
    (ap (taken p) whole ∙ run.0, ap (past p) whole ∙ run.1)

run_all : (p : ℕ → Bool) (cs front rest : List ℕ) → IsRun p cs front rest → IsTrue (list_all p front)
run_all p cs front rest (t, r) = subst (λ (x : List ℕ). IsTrue (list_all p x)) t (taken_all p cs)

-- where only Chars stand before `<`, `&` and CR, they are the run of plain characters
pub plain_before : (cs front rest : List ℕ) → IsRun is_literal cs front rest → IsTrue (list_all is_char front) → IsRun is_plain cs front rest
unfolding is_plain
plain_before cs front rest run all = narrower_run is_plain is_literal no_plain cs front rest run (all_and is_char is_literal front all (run_all is_literal cs front rest run))
  where
    no_plain : (c : ℕ) → is_literal c ≡ false → is_plain c ≡ false
    no_plain c e = by_char (is_char c)
      where
        by_char : (v : Bool) → (v && is_literal c) ≡ false
        by_char true = e
        by_char false = refl

-- ---- values

abbrev is_special : ℕ → Bool
is_special b = b == 60 || b == 38 || b == 9 || b == 10 || b == 13

special_low : (b : ℕ) → is_special b ≡ true → b < 128
special_low b e = grind (arith, nat_tests)

byte_sure : (b : ℕ) → is_value_byte b ≡ true → is_sure Char b ≡ true
unfolding is_value_byte is_sure
byte_sure b e = by_size (ltb b 128) refl e
  where
    by_size : (v : Bool) → ltb b 128 ≡ v → cond v (is_char b && not (is_special b)) (not (eqb b 0xEF)) ≡ true → cond v (is_char b) (not (eqb b 0xEF)) ≡ true
    by_size true h e = (both (is_char b) (not (is_special b)) e).0
    by_size false h e = e

byte_ordinary : (b : ℕ) → is_value_byte b ≡ true → fails is_special b ≡ true
unfolding is_value_byte
byte_ordinary b e = by_size (ltb b 128) refl e
  where
    by_size : (v : Bool) → ltb b 128 ≡ v → cond v (is_char b && not (is_special b)) (not (eqb b 0xEF)) ≡ true → not (is_special b) ≡ true
    by_size true h e = (both (is_char b) (not (is_special b)) e).1
    by_size false h e = by_special (is_special b) refl
      where
        by_special : (w : Bool) → is_special b ≡ w → not w ≡ true
        by_special true k = let low = special_low b k in absurd (omega (arith, ltb-false b 128 h))
        by_special false k = refl

value_char : (quote c : ℕ) → is_char c ≡ true → fails is_special c ≡ true → fails (is_byte quote) c ≡ true → is_value quote c ≡ true
unfolding is_value
value_char quote c h k l = grind (arith, nat_tests)

all_values : (quote : ℕ) (cs : List ℕ) → IsTrue (list_all is_char cs) → IsTrue (list_all (fails is_special) cs) → IsTrue (list_all (fails (is_byte quote)) cs) → IsTrue (list_all (is_value quote) cs)
all_values quote [] h k l = refl
all_values quote (c ∷ cs) h k l =
    let a = both (is_char c) (list_all is_char cs) h in
    let b = both (fails is_special c) (list_all (fails is_special) cs) k in
    let d = both (fails (is_byte quote) c) (list_all (fails (is_byte quote)) cs) l in
    all_cons (is_value quote) c cs (value_char quote c a.0 b.0 d.0) (all_values quote cs a.1 b.1 d.1)

no_value : (quote c : ℕ) → fails (is_byte quote) c ≡ false → is_value quote c ≡ false
unfolding is_value
no_value quote c e = grind (arith, nat_tests)

-- where only such bytes stand before the quote, their characters are the run of a value
pub value_before : (quote : ℕ) (cs front : List ℕ) (rest : List ℕ) → IsUtf8 front → IsRun (fails (is_byte quote)) cs (chars front) rest → IsTrue (list_all is_value_byte front) → IsRun (is_value quote) cs (chars front) rest
value_before quote cs front rest u run all =
    let char = all_sure Char front u (all_weaker is_value_byte (is_sure Char) byte_sure front all) in
    let ordinary = none_spelled is_special special_low (chars front) (ap (list_all (fails is_special)) (encodes-chars front u) ∙ all_weaker is_value_byte (fails is_special) byte_ordinary front all) in
    narrower_run (is_value quote) (fails (is_byte quote)) (no_value quote) cs (chars front) rest run (all_values quote (chars front) char ordinary (run_all (fails (is_byte quote)) cs (chars front) rest run))
