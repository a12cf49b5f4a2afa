-- Attributes as they are written: how they are spelled, and what they are.
use Rattle.std.proofs.Common.{◌≡◌, ◌≢◌, ℕ, ◌≤◌, Bool, true, false, not, cond, ◌⊎◌, inl, inr, List, [], ◌∷◌, refl, ap, sym, subst, ◌∙◌, arith, ◌||◌, ◌&&◌}
use Rattle.std.specs.Prelude.{IsTrue, codes, ◌==◌, nat_le, encode_utf8_all}
use Rattle.std.specs.List.{list_all}
use Rattle.std.proofs.lemmas.Bool.{eqb-true, eqb-false, or_cases, and_parts, leb-true, and_from}
use Rattle.std.proofs.lemmas.List.Folds.{list_all-append}
use Rattle.xmp_values.specs.Characters.{is_char, is_blank}
use Rattle.xml_grammar.specs.Spelling.{Lt, Gt, Amp, Quot, line_ends_after, normal, SpellsValueChar, SpellsValueChars, SpellsValue, quoted}
use Rattle.xml_grammar.proofs.Splits.{all_head, all_tail}
use Rattle.xmp_write.specs.Text.{quoted_byte, quoted_escaped}

blank_is : (c : ℕ) → is_blank c ≡ true → c ≢ 0x9 → c ≢ 0xA → c ≢ 0xD → c ≡ 0x20
unfolding is_blank
blank_is c h a b d = by (or_cases (nat_le 0x9 c && nat_le c 0xA) ((nat_le 0xD c && nat_le c 0xD) || ((nat_le 0x20 c && nat_le c 0x20) || false)) h)
  where
    between : (low high : ℕ) → (nat_le low c && nat_le c high) ≡ true → (low ≤ c) × (c ≤ high)
    between low high h = let parts = and_parts (nat_le low c) (nat_le c high) h in (leb-true low c parts.0, leb-true c high parts.1)

    last : ((nat_le 0x20 c && nat_le c 0x20) ≡ true) ⊎ (false ≡ true) → c ≡ 0x20
    last (inl h) = let k = between 0x20 0x20 h in omega arith
    last (inr h) = absurd cc

    next : ((nat_le 0xD c && nat_le c 0xD) ≡ true) ⊎ (((nat_le 0x20 c && nat_le c 0x20) || false) ≡ true) → c ≡ 0x20
    next (inl h) = let k = between 0xD 0xD h in absurd (d (omega arith))
    next (inr h) = last (or_cases (nat_le 0x20 c && nat_le c 0x20) false h)

    by : ((nat_le 0x9 c && nat_le c 0xA) ≡ true) ⊎ (((nat_le 0xD c && nat_le c 0xD) || ((nat_le 0x20 c && nat_le c 0x20) || false)) ≡ true) → c ≡ 0x20
    by (inl h) = let k = between 0x9 0xA h in absurd (a (omega (arith, b)))
    by (inr h) = next (or_cases (nat_le 0xD c && nat_le c 0xD) ((nat_le 0x20 c && nat_le c 0x20) || false) h)

normal_is : (c : ℕ) → c ≢ 0x9 → c ≢ 0xA → c ≢ 0xD → c ≡ normal c
normal_is c a b d = by (is_blank c) refl
  where
    by : (x : Bool) → is_blank c ≡ x → c ≡ cond x 0x20 c
    by true is = blank_is c is a b d
    by false is = refl

value_char : (c : ℕ) → is_char c ≡ true → SpellsValueChar 0x22 c (quoted_byte c)
value_char c char = by (c == 0x22) (c == 0x9) (c == 0xA) (c == 0x26) (c == 0x3C) (c == 0x3E) (c == 0xD)
    (eqb-true c 0x22) (eqb-true c 0x9) (eqb-true c 0xA) (eqb-true c 0x26) (eqb-true c 0x3C) (eqb-true c 0x3E) (eqb-true c 0xD)
    (eqb-false c 0x22) (eqb-false c 0x9) (eqb-false c 0xA) (eqb-false c 0x26) (eqb-false c 0x3C) (eqb-false c 0xD)
  where
    by : (u v o x y z w : Bool) → (u ≡ true → c ≡ 0x22) → (v ≡ true → c ≡ 0x9) → (o ≡ true → c ≡ 0xA) → (x ≡ true → c ≡ 0x26) → (y ≡ true → c ≡ 0x3C) → (z ≡ true → c ≡ 0x3E) → (w ≡ true → c ≡ 0xD)
        → (u ≡ false → c ≢ 0x22) → (v ≡ false → c ≢ 0x9) → (o ≡ false → c ≢ 0xA) → (x ≡ false → c ≢ 0x26) → (y ≡ false → c ≢ 0x3C) → (w ≡ false → c ≢ 0xD)
        → SpellsValueChar 0x22 c (cond u (codes "&quot;") (cond v (codes "&#x9;") (cond o (codes "&#xA;")
        (cond x (codes "&amp;") (cond y (codes "&lt;") (cond z (codes "&gt;") (cond w (codes "&#xD;") (c ∷ []))))))))
    by true v o x y z w a b d p q r t na nb nd np nq nt = inl (inl (Quot, a refl, refl))
    by false true o x y z w a b d p q r t na nb nd np nq nt = inl (inr (inr (codes "9", λ e. cc, refl, b refl, char, refl)))
    by false false true x y z w a b d p q r t na nb nd np nq nt = inl (inr (inr (codes "A", λ e. cc, refl, d refl, char, refl)))
    by false false false true y z w a b d p q r t na nb nd np nq nt = inl (inl (Amp, p refl, refl))
    by false false false false true z w a b d p q r t na nb nd np nq nt = inl (inl (Lt, q refl, refl))
    by false false false false false true w a b d p q r t na nb nd np nq nt = inl (inl (Gt, r refl, refl))
    by false false false false false false true a b d p q r t na nb nd np nq nt = inl (inr (inr (codes "D", λ e. cc, refl, t refl, char, refl)))
    by false false false false false false false a b d p q r t na nb nd np nq nt =
        inr (c, char, nq refl, np refl, na refl, normal_is c (nb refl) (nd refl) (nt refl), refl)

value_chars : (cs : List ℕ) → IsTrue (list_all is_char cs) → SpellsValueChars 0x22 cs (quoted_escaped cs)
value_chars [] h = refl
value_chars (c ∷ cs) h = (quoted_byte c, quoted_escaped cs, value_char c (all_head is_char c cs h), value_chars cs (all_tail is_char c cs h), refl)

abbrev is_no_return : ℕ → Bool
is_no_return c = not (c == 0xD)

ends_none : (cs : List ℕ) → list_all is_no_return cs ≡ true → line_ends_after false cs ≡ cs
ends_none [] h = refl
ends_none (c ∷ cs) h = let parts = and_parts (is_no_return c) (list_all is_no_return cs) h in by (c == 0xD) parts.0 (ends_none cs parts.1)
  where
    by : (b : Bool) → not b ≡ true → line_ends_after false cs ≡ cs → cond b (0xA ∷ line_ends_after true cs) (c ∷ line_ends_after false cs) ≡ c ∷ cs
    by true h rest = absurd cc
    by false h rest = ap (λ (t : List ℕ). c ∷ t) rest

no_return : (c : ℕ) → list_all is_no_return (quoted_byte c) ≡ true
no_return c = by (c == 0x22) (c == 0x9) (c == 0xA) (c == 0x26) (c == 0x3C) (c == 0x3E) (c == 0xD) refl
  where
    by : (u v o x y z w : Bool) → (c == 0xD) ≡ w → list_all is_no_return (cond u (codes "&quot;") (cond v (codes "&#x9;") (cond o (codes "&#xA;")
        (cond x (codes "&amp;") (cond y (codes "&lt;") (cond z (codes "&gt;") (cond w (codes "&#xD;") (c ∷ [])))))))) ≡ true
    by true v o x y z w e = refl
    by false true o x y z w e = refl
    by false false true x y z w e = refl
    by false false false true y z w e = refl
    by false false false false true z w e = refl
    by false false false false false true w e = refl
    by false false false false false false true e = refl
    by false false false false false false false e = rw e refl

no_returns : (cs : List ℕ) → list_all is_no_return (quoted_escaped cs) ≡ true
no_returns [] = refl
no_returns (c ∷ cs) =
    list_all-append is_no_return (quoted_byte c) (quoted_escaped cs) ∙ and_from (list_all is_no_return (quoted_byte c)) (list_all is_no_return (quoted_escaped cs)) (no_return c) (no_returns cs)

-- a value between quotes
pub value_spelled : (cs : List ℕ) → IsTrue (list_all is_char cs) → SpellsValue (encode_utf8_all cs) (quoted 0x22 (quoted_escaped cs))
value_spelled cs h =
    (0x22, quoted_escaped cs, cs, inl refl, subst (SpellsValueChars 0x22 cs) (sym (ends_none (quoted_escaped cs) (no_returns cs))) (value_chars cs h), refl, refl)
