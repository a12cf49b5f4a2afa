-- What is read as a reference is spelled so, and what is spelled so is read.
use Rattle.std.proofs.Common.{◌≡◌, ◌≢◌, ℕ, ◌+◌, ◌*◌, ◌≤◌, min, Bool, true, false, cond, eqb, leb, ◌&&◌, ◌⊎◌, List, [], ◌∷◌, ◌++◌, Option, Some, None, refl, sym, ap, subst, ◌∙◌, append_assoc, arith, inl, inr}
use Rattle.std.specs.Prelude.{IsTrue, codes}
use Rattle.std.specs.List.{list_all}
use Rattle.std.specs.Char.{digit_value}
use Rattle.std.proofs.lemmas.Bool.{eqb-true, leb-true, leb-false}
use Rattle.std.proofs.lemmas.Bool.Decides.{nat_tests}
use Rattle.xmp_values.specs.Characters.{is_char, is_within}
use Rattle.xml_grammar.specs.Spelling.{is_digit, number_from, Entity, Lt, Gt, Amp, Apos, Quot, entity_name, entity_char, SpellsReference}
use Rattle.xml_grammar.proofs.Splits.{both}
use Rattle.xml_tokenizer.specs.References.{named_at, entity_at, no_char, capped_from, starts_digit, number_at, numeric_at, marked_at, reference_at}
use Rattle.xml_tokenizer.specs.Runs.{taken, past, after}
use Rattle.std.specs.Option.{option_or}
use Rattle.xml_tokenizer.proofs.Sought.{taken_past}
use Rattle.xml_tokenizer.proofs.Steps.{bind_some, some_is, passed, either_gave, taken_all, run_again}
use Rattle.xml_tokenizer.proofs.Words.{after_takes}

-- ---- entities

named_takes : (word : List ℕ) (c : ℕ) (cs : List ℕ) (x : ℕ × List ℕ) → named_at word c cs ≡ Some x → (x.0 ≡ c) × (cs ≡ word ++ x.1)
named_takes word c cs x e =
    let a = bind_some (after word cs) (λ rest. Some (c, rest)) x e in
    let same = some_is (c, a.0) x a.2 in
    (ap (λ (z : ℕ × List ℕ). z.0) (sym same), after_takes word cs a.0 a.1 ∙ ap (λ (z : ℕ × List ℕ). word ++ z.1) same)

abbrev pub TakesEntity : List ℕ → ℕ × List ℕ → Type 0
TakesEntity cs x = (e : Entity) × (x.0 ≡ entity_char e) × (cs ≡ (entity_name e ++ codes ";") ++ x.1)

entity_takes : (cs : List ℕ) (x : ℕ × List ℕ) → entity_at cs ≡ Some x → TakesEntity cs x
unfolding entity_at
entity_takes cs x e = first (either_gave _ _ x e)
  where
    fifth : named_at (codes "quot;") 0x22 cs ≡ Some x → TakesEntity cs x
    fifth h = let k = named_takes (codes "quot;") 0x22 cs x h in (Quot, k.0, k.1)

    fourth : (named_at (codes "apos;") 0x27 cs ≡ Some x) ⊎ ((named_at (codes "apos;") 0x27 cs ≡ None) × (named_at (codes "quot;") 0x22 cs ≡ Some x)) → TakesEntity cs x
    fourth (inl h) = let k = named_takes (codes "apos;") 0x27 cs x h in (Apos, k.0, k.1)
    fourth (inr h) = fifth h.1

    third : (r : Option (ℕ × List ℕ)) (s : Option (ℕ × List ℕ)) → (s ≡ option_or (named_at (codes "apos;") 0x27 cs) (named_at (codes "quot;") 0x22 cs)) → (r ≡ named_at (codes "amp;") 0x26 cs) → (r ≡ Some x) ⊎ ((r ≡ None) × (s ≡ Some x)) → TakesEntity cs x
    third r s es er (inl h) = let k = named_takes (codes "amp;") 0x26 cs x (sym er ∙ h) in (Amp, k.0, k.1)
    third r s es er (inr h) = fourth (either_gave _ _ x (sym es ∙ h.1))

    second : (r : Option (ℕ × List ℕ)) (s : Option (ℕ × List ℕ)) → (s ≡ option_or (named_at (codes "amp;") 0x26 cs) (option_or (named_at (codes "apos;") 0x27 cs) (named_at (codes "quot;") 0x22 cs))) → (r ≡ named_at (codes "gt;") 0x3E cs) → (r ≡ Some x) ⊎ ((r ≡ None) × (s ≡ Some x)) → TakesEntity cs x
    second r s es er (inl h) = let k = named_takes (codes "gt;") 0x3E cs x (sym er ∙ h) in (Gt, k.0, k.1)
    second r s es er (inr h) = third _ _ refl refl (either_gave _ _ x (sym es ∙ h.1))

    first : (named_at (codes "lt;") 0x3C cs ≡ Some x) ⊎ ((named_at (codes "lt;") 0x3C cs ≡ None) × (option_or (named_at (codes "gt;") 0x3E cs) (option_or (named_at (codes "amp;") 0x26 cs) (option_or (named_at (codes "apos;") 0x27 cs) (named_at (codes "quot;") 0x22 cs))) ≡ Some x)) → TakesEntity cs x
    first (inl h) = let k = named_takes (codes "lt;") 0x3C cs x h in (Lt, k.0, k.1)
    first (inr h) = second _ _ refl refl (either_gave _ _ x h.1)

entity_again : (e : Entity) (rest : List ℕ) → reference_at ((entity_name e ++ codes ";") ++ rest) ≡ Some (entity_char e, rest)
unfolding reference_at entity_at
entity_again Lt rest = refl
entity_again Gt rest = refl
entity_again Amp rest = refl
entity_again Apos rest = refl
entity_again Quot rest = refl

-- ---- numbers

-- stopping to grow at no_char loses nothing below it
abbrev Steps : ℕ → Type 0
Steps base = (n d : ℕ) → min (min n no_char * base + d) no_char ≡ min (n * base + d) no_char

steps_ten : Steps 10
steps_ten n d = omega arith

steps_sixteen : Steps 16
steps_sixteen n d = omega arith

capped_is : (base : ℕ) → Steps base → (n : ℕ) (ds : List ℕ) → capped_from base (min n no_char) ds ≡ min (number_from base n ds) no_char
capped_is base steps n [] = refl
capped_is base steps n (d ∷ ds) = ap (λ (m : ℕ). capped_from base m ds) (steps n (digit_value d)) ∙ capped_is base steps (n * base + digit_value d) ds

char_low : (n : ℕ) → no_char ≤ n → is_char (min n no_char) ≡ false
unfolding is_char
char_low n h = let e : min n no_char ≡ no_char = omega arith in ap (is_within ((0x9, 0xA) ∷ (0xD, 0xD) ∷ (0x20, 0xD7FF) ∷ (0xE000, 0xFFFD) ∷ (0x10000, 0x10FFFF) ∷ [])) e

char_high : (n : ℕ) → is_char n ≡ true → min n no_char ≡ n
unfolding is_char
char_high n h = grind (arith, nat_tests)

le_or : (n : ℕ) → (min n no_char ≡ n) ⊎ (no_char ≤ n)
le_or n = by_le (leb n no_char) refl
  where
    by_le : (v : Bool) → leb n no_char ≡ v → (min n no_char ≡ n) ⊎ (no_char ≤ n)
    by_le true e = let k = leb-true n no_char e in inl (omega arith)
    by_le false e = let k = leb-false n no_char e in inr (omega arith)

-- of a Char nothing is lost
capped_char : (base : ℕ) → Steps base → (ds : List ℕ) → is_char (capped_from base 0 ds) ≡ true → capped_from base 0 ds ≡ number_from base 0 ds
capped_char base steps ds h =
    let is : capped_from base 0 ds ≡ min (number_from base 0 ds) no_char = capped_is base steps 0 ds in
    by_size (number_from base 0 ds) is
  where
    by_size : (n : ℕ) → capped_from base 0 ds ≡ min n no_char → capped_from base 0 ds ≡ n
    by_size n is = elim (le_or n) [
      | inl low ↦ is ∙ low
      | inr high ↦ let bad : is_char (capped_from base 0 ds) ≡ false = ap is_char is ∙ char_low n high in absurd cc
    ]

capped_number : (base : ℕ) → Steps base → (ds : List ℕ) → is_char (number_from base 0 ds) ≡ true → capped_from base 0 ds ≡ number_from base 0 ds
capped_number base steps ds h = capped_is base steps 0 ds ∙ char_high (number_from base 0 ds) h

digits_some : (base : ℕ) (cs : List ℕ) → starts_digit base cs ≡ true → taken (is_digit base) cs ≢ []
digits_some base [] e h = absurd cc
digits_some base (c ∷ cs) e h = let k : taken (is_digit base) (c ∷ cs) ≡ c ∷ taken (is_digit base) cs = rw e refl in absurd cc

abbrev pub TakesNumber : ℕ → List ℕ → ℕ × List ℕ → Type 0
TakesNumber base cs x = (digits : List ℕ) × (digits ≢ []) × IsTrue (list_all (is_digit base) digits) × (x.0 ≡ number_from base 0 digits) × IsTrue (is_char x.0) × (cs ≡ (digits ++ codes ";") ++ x.1)

number_takes : (base : ℕ) → Steps base → (cs : List ℕ) (x : ℕ × List ℕ) → number_at base cs ≡ Some x → TakesNumber base cs x
unfolding number_at
number_takes base steps cs x e =
    let n = capped_from base 0 (taken (is_digit base) cs) in
    let g = passed (starts_digit base cs && is_char n) _ x e in
    let k = both (starts_digit base cs) (is_char n) g.0 in
    let a = bind_some (after (codes ";") (past (is_digit base) cs)) (λ rest. Some (n, rest)) x g.1 in
    let digits = taken (is_digit base) cs in
    let all : cs ≡ (digits ++ codes ";") ++ a.0 = taken_past (is_digit base) cs ∙ ap (λ (t : List ℕ). digits ++ t) (after_takes (codes ";") (past (is_digit base) cs) a.0 a.1) ∙ sym (append_assoc digits (codes ";") a.0) in
    subst (TakesNumber base cs) (some_is (n, a.0) x a.2) (digits, digits_some base cs k.0, taken_all (is_digit base) cs, capped_char base steps digits k.1, k.1, all)

starts_digits : (base : ℕ) (digits rest : List ℕ) → digits ≢ [] → IsTrue (list_all (is_digit base) digits) → starts_digit base (digits ++ rest) ≡ true
starts_digits base [] rest some h = absurd (some refl)
starts_digits base (d ∷ ds) rest some h = (both (is_digit base d) (list_all (is_digit base) ds) h).0

number_again : (base : ℕ) → Steps base → is_digit base 0x3B ≡ false → (digits rest : List ℕ) → digits ≢ [] → IsTrue (list_all (is_digit base) digits) → IsTrue (is_char (number_from base 0 digits))
    → number_at base (digits ++ (0x3B ∷ rest)) ≡ Some (number_from base 0 digits, rest)
unfolding number_at
number_again base steps semicolon digits rest some all char =
    let r = run_again (is_digit base) digits (0x3B ∷ rest) all semicolon in
    let n = capped_number base steps digits char in
    rw (r.0, r.1, starts_digits base digits (0x3B ∷ rest) some all, n, char) refl

-- ---- references

abbrev pub TakesReference : List ℕ → ℕ × List ℕ → Type 0
TakesReference cs x = (inner : List ℕ) × SpellsReference x.0 (0x26 ∷ inner) × (cs ≡ inner ++ x.1)

pub reference_takes : (cs : List ℕ) (x : ℕ × List ℕ) → reference_at cs ≡ Some x → TakesReference cs x
unfolding reference_at
reference_takes cs x e = by_mark (after (codes "#") cs) refl e
  where
    by_x : (rest : List ℕ) (o : Option (List ℕ)) → cs ≡ codes "#" ++ rest → after (codes "x") rest ≡ o → numeric_at rest o ≡ Some x → TakesReference cs x
    by_x rest (Some later) at found h =
        let n = number_takes 16 steps_sixteen later x h in
        let all : cs ≡ (codes "#x" ++ n.0 ++ codes ";") ++ x.1 = at ∙ ap (λ (t : List ℕ). codes "#" ++ t) (after_takes (codes "x") rest later found ∙ ap (λ (t : List ℕ). codes "x" ++ t) n.5) in
        (codes "#x" ++ n.0 ++ codes ";", inr (inr (n.0, n.1, n.2, n.3, n.4, refl)), all)
    by_x rest None at found h =
        let n = number_takes 10 steps_ten rest x h in
        let all : cs ≡ (codes "#" ++ n.0 ++ codes ";") ++ x.1 = at ∙ ap (λ (t : List ℕ). codes "#" ++ t) n.5 in
        (codes "#" ++ n.0 ++ codes ";", inr (inl (n.0, n.1, n.2, n.3, n.4, refl)), all)

    by_mark : (o : Option (List ℕ)) → after (codes "#") cs ≡ o → marked_at cs o ≡ Some x → TakesReference cs x
    by_mark (Some rest) found h = by_x rest (after (codes "x") rest) (after_takes (codes "#") cs rest found) refl h
    by_mark None found h = let k = entity_takes cs x h in (entity_name k.0 ++ codes ";", inl (k.0, k.1, refl), k.2)

no_x : (digits rest : List ℕ) → digits ≢ [] → IsTrue (list_all (is_digit 10) digits) → after (codes "x") (digits ++ rest) ≡ None
no_x [] rest some all = absurd (some refl)
no_x (d ∷ ds) rest some all = by_test (eqb d 0x78) refl
  where
    by_test : (v : Bool) → eqb d 0x78 ≡ v → cond v (Some (ds ++ rest)) None ≡ None
    by_test true e =
        let bad : is_digit 10 0x78 ≡ true = ap (is_digit 10) (sym (eqb-true d 0x78 e)) ∙ (both (is_digit 10 d) (list_all (is_digit 10) ds) all).0 in
        absurd cc
    by_test false e = refl

pub reference_again : (v : ℕ) (text : List ℕ) → SpellsReference v text → (inner : List ℕ) × (text ≡ 0x26 ∷ inner) × ((rest : List ℕ) → reference_at (inner ++ rest) ≡ Some (v, rest))
unfolding reference_at
reference_again v text (inl (e, is, at)) = (entity_name e ++ codes ";", at, λ rest. entity_again e rest ∙ ap (λ (c : ℕ). Some (c, rest)) (sym is))
reference_again v text (inr (inl (digits, some, all, is, char, at))) = (
  codes "#" ++ digits ++ codes ";",
  at,
  λ rest.
      let n = number_again 10 steps_ten refl digits rest some all (subst (λ (c : ℕ). IsTrue (is_char c)) is char) in
      let x = no_x digits (0x3B ∷ rest) some all in
      let k : digits ++ codes ";" ++ rest ≡ digits ++ (0x3B ∷ rest) = append_assoc digits (codes ";") rest in
      ap (λ (t : List ℕ). numeric_at t (after (codes "x") t)) k ∙ rw x (n ∙ ap (λ (c : ℕ). Some (c, rest)) (sym is)),
)
reference_again v text (inr (inr (digits, some, all, is, char, at))) = (
  codes "#x" ++ digits ++ codes ";",
  at,
  λ rest.
      let n = number_again 16 steps_sixteen refl digits rest some all (subst (λ (c : ℕ). IsTrue (is_char c)) is char) in
      let k : digits ++ codes ";" ++ rest ≡ digits ++ (0x3B ∷ rest) = append_assoc digits (codes ";") rest in
      ap (number_at 16) k ∙ n ∙ ap (λ (c : ℕ). Some (c, rest)) (sym is),
)
