-- A text that begins with an ASCII word.
use Rattle.std.proofs.Common.{◌≡◌, ◌≢◌, ℕ, zero, suc, Bool, true, false, cond, eqb, ltb, ◌&&◌, List, [], ◌∷◌, ◌++◌, Some, None, Option, refl, sym, ap, ◌∙◌, arith}
use Rattle.std.specs.Prelude.{encode_utf8_all}
use Rattle.std.specs.Option.{MatchOption}
use Rattle.std.specs.Str.{chars, IsUtf8, IsAscii}
use Rattle.std.specs.Str.Pattern.{FindsTextPrefix, StripsPrefix}
use denote.Bor.{Bor}
use Rattle.std.proofs.lemmas.Bool.{eqb-true, eq-eqb, ltb-true}
use Rattle.std.proofs.lemmas.Str.{encodes-append, encodes-chars, encodes-IsAscii, chars-append, chars-IsAscii, IsUtf8-from_ascii}
use Rattle.xml_tokenizer.specs.Runs.{after, is_ascii}

pub and_parts : (a b : Bool) → (a && b) ≡ true → (a ≡ true) × (b ≡ true)
and_parts true b e = (refl, e)
and_parts false b e = absurd cc

pub word_bytes : (w : List ℕ) → is_ascii w ≡ true → IsAscii w
word_bytes [] e i = omega arith
word_bytes (b ∷ bs) e zero = ltb-true b 128 (and_parts _ _ e).0
word_bytes (b ∷ bs) e (suc i) = word_bytes bs (and_parts (ltb b 128) (is_ascii bs) e).1 i

pub after_again : (w rest : List ℕ) → after w (w ++ rest) ≡ Some rest
after_again [] rest = refl
after_again (c ∷ cs) rest = rw (eq-eqb c c refl) (after_again cs rest)

pub after_takes : (w cs rest : List ℕ) → after w cs ≡ Some rest → cs ≡ w ++ rest
after_takes [] cs rest e = cc
after_takes (d ∷ ds) [] rest e = absurd cc
after_takes (d ∷ ds) (c ∷ cs) rest e = by_test (eqb c d) refl e (after_takes ds cs rest)
  where
    by_test : (v : Bool) → eqb c d ≡ v → cond v (after ds cs) None ≡ Some rest → (after ds cs ≡ Some rest → cs ≡ ds ++ rest) → c ∷ cs ≡ d ∷ (ds ++ rest)
    by_test true t h more = let same : c ≡ d = eqb-true c d t in let tail : cs ≡ ds ++ rest = more h in cc
    by_test false t h more = absurd cc

pub word_found : (w text rest : List ℕ) → is_ascii w ≡ true → text ≡ w ++ rest → after w (chars text) ≡ Some (chars rest)
word_found w text rest a e =
    let ascii = word_bytes w a in
    let k : chars text ≡ w ++ chars rest = ap chars e ∙ chars-append w rest (IsUtf8-from_ascii w ascii) ∙ ap (λ (x : List ℕ). x ++ chars rest) (chars-IsAscii w ascii) in
    ap (after w) k ∙ after_again w (chars rest)

pub word_missed : (w text : List ℕ) → is_ascii w ≡ true → IsUtf8 text → ((rest : List ℕ) → text ≢ w ++ rest) → after w (chars text) ≡ None
word_missed w text a u none = by_answer (after w (chars text)) refl
  where
    by_answer : (o : Option (List ℕ)) → after w (chars text) ≡ o → o ≡ None
    by_answer None e = refl
    by_answer (Some rest) e =
        let k : encode_utf8_all (chars text) ≡ w ++ encode_utf8_all rest = ap encode_utf8_all (after_takes w (chars text) rest e) ∙ encodes-append w rest ∙ ap (λ (x : List ℕ). x ++ encode_utf8_all rest) (encodes-IsAscii w (word_bytes w a)) in
        absurd (none (encode_utf8_all rest) (sym (encodes-chars text u) ∙ k))

-- what `strip_prefix` gives, over characters
pub word_cases : (w text : List ℕ) (r : Option (Bor (List ℕ))) → is_ascii w ≡ true → IsUtf8 text
    → MatchOption r (FindsTextPrefix w text None) (λ x. StripsPrefix (FindsTextPrefix w) text x.now)
    → MatchOption r (after w (chars text) ≡ None) (λ x. after w (chars text) ≡ Some (chars x.now))
word_cases w text None a u h = word_missed w text a u h
word_cases w text (Some x) a u h =
    let e : text ≡ w ++ x.now = cc (h.1.1, h.2) in
    word_found w text x.now a e
