-- Of the rules that a piece breaks the first in their list has the least number.
use Rattle.std.proofs.Common.{◌≡◌, ℕ, ◌<◌, ◌≤◌, Bool, true, false, cond, ◌⊎◌, List, [], ◌∷◌, Some, None, refl, sym, ap, subst, ◌∙◌, inl, inr, arith}
use Rattle.std.specs.Prelude.{IsTrue}
use Rattle.std.specs.List.{find}
use Rattle.xmp_values.specs.Rules.{number_of}
use Rattle.xmp_values.specs.declared.rules.Rule.{Rule}
use Rattle.xmp_values.specs.declared.rules.Rule.TheVariants.{Encoding, OutsideRoot, Mismatch, BadNamespace, UnboundPrefix, TwiceAttribute, TooDeep}
use Rattle.xml_grammar.specs.Pieces.{Piece}
use Rattle.xml_grammar.specs.Nesting.{Nest, breaks, piece_rules, broken}
use Rattle.xml_grammar.proofs.Splits.{not_both}

-- ---- lists of rules

abbrev pub IsIn : Rule → List Rule → Type 0
IsIn q [] = ⊥
IsIn q (r ∷ rs) = (q ≡ r) ⊎ IsIn q rs

-- the numbers grow
abbrev pub AllOver : ℕ → List Rule → Type 0
AllOver n [] = Unit {0}
AllOver n (r ∷ rs) = (n < number_of r) × AllOver n rs

abbrev pub Grows : List Rule → Type 0
Grows [] = Unit {0}
Grows (r ∷ rs) = AllOver (number_of r) rs × Grows rs

all_over : (n : ℕ) (rs : List Rule) (q : Rule) → AllOver n rs → IsIn q rs → n < number_of q
all_over n [] q h i = absurd i
all_over n (r ∷ rs) q h (inl e) = subst (λ (z : Rule). n < number_of z) (sym e) h.0
all_over n (r ∷ rs) q h (inr i) = all_over n rs q h.1 i

-- rules of one number are one
pub one_in : (rs : List Rule) → Grows rs → (q r : Rule) → IsIn q rs → IsIn r rs → number_of q ≡ number_of r → q ≡ r
one_in [] g q r i j e = absurd i
one_in (x ∷ xs) g q r (inl h) (inl k) e = h ∙ sym k
one_in (x ∷ xs) g q r (inl h) (inr k) e =
    let less = all_over (number_of x) xs r g.0 k in
    let same : number_of q ≡ number_of x = ap number_of h in
    absurd (omega arith)
one_in (x ∷ xs) g q r (inr h) (inl k) e =
    let less = all_over (number_of x) xs q g.0 h in
    let same : number_of r ≡ number_of x = ap number_of k in
    absurd (omega arith)
one_in (x ∷ xs) g q r (inr h) (inr k) e = one_in xs g.1 q r h k e

-- ---- the first that passes

abbrev Found : (Rule → Bool) → List Rule → Rule → Type 0
Found test rs r = IsTrue (test r) × IsIn r rs × ((q : Rule) → IsIn q rs → IsTrue (test q) → number_of r ≤ number_of q)

some_same : (q r : Rule) → Some q ≡ Some r → q ≡ r
some_same q r e = cc

found : (test : Rule → Bool) (rs : List Rule) → Grows rs → (r : Rule) → find test rs ≡ Some r → Found test rs r
found test [] g r e = absurd cc
found test (x ∷ xs) g r e = by (test x) refl e (λ k. found test xs g.1 r k)
  where
    least : (q : Rule) → x ≡ r → IsIn q (x ∷ xs) → number_of r ≤ number_of q
    least q same (inl is) = let n : number_of r ≡ number_of q = ap number_of (sym same ∙ sym is) in omega arith
    least q same (inr i) =
        let less = all_over (number_of x) xs q g.0 i in
        let n : number_of x ≡ number_of r = ap number_of same in
        omega arith

    later : test x ≡ false → Found test xs r → (q : Rule) → IsIn q (x ∷ xs) → IsTrue (test q) → number_of r ≤ number_of q
    later h f q (inl is) t = absurd (not_both (test q) t (ap test is ∙ h))
    later h f q (inr i) t = f.2 q i t

    by : (b : Bool) → test x ≡ b → cond b (Some x) (find test xs) ≡ Some r → (find test xs ≡ Some r → Found test xs r) → Found test (x ∷ xs) r
    by true h k more = let same : x ≡ r = some_same x r k in (ap test (sym same) ∙ h, inl (sym same), λ q i t. least q same i)
    by false h k more = let f = more k in (f.0, inr f.1, λ q i t. later h f q i t)

none_found : (test : Rule → Bool) (rs : List Rule) → find test rs ≡ None → (q : Rule) → IsIn q rs → test q ≡ false
none_found test [] e q i = absurd i
none_found test (x ∷ xs) e q i = by (test x) refl e i (λ k j. none_found test xs k q j)
  where
    by : (b : Bool) → test x ≡ b → cond b (Some x) (find test xs) ≡ None → IsIn q (x ∷ xs) → (find test xs ≡ None → IsIn q xs → test q ≡ false) → test q ≡ false
    by true h k i more = absurd cc
    by false h k (inl is) more = ap test is ∙ h
    by false h k (inr i) more = more k i

-- ---- the rules on whole pieces

pub rules_grow : Grows piece_rules
rules_grow = ((omega arith, (omega arith, (omega arith, (omega arith, (omega arith, (omega arith, tt)))))), ((omega arith, (omega arith, (omega arith, (omega arith, (omega arith, tt))))), ((omega arith, (omega arith, (omega arith, (omega arith, tt)))), ((omega arith, (omega arith, (omega arith, tt))), ((omega arith, (omega arith, tt)), ((omega arith, tt), (tt, tt)))))))

pub is_piece_rule : (s : Nest) (p : Piece) (q : Rule) → IsTrue (breaks s p q) → IsIn q piece_rules
is_piece_rule s p Encoding h = inl refl
is_piece_rule s p OutsideRoot h = inr (inl refl)
is_piece_rule s p Mismatch h = inr (inr (inl refl))
is_piece_rule s p BadNamespace h = inr (inr (inr (inl refl)))
is_piece_rule s p UnboundPrefix h = inr (inr (inr (inr (inl refl))))
is_piece_rule s p TwiceAttribute h = inr (inr (inr (inr (inr (inl refl)))))
is_piece_rule s p TooDeep h = inr (inr (inr (inr (inr (inr (inl refl))))))
is_piece_rule s p q h = absurd cc

pub broken_breaks : (s : Nest) (p : Piece) (r : Rule) → broken s p ≡ Some r → IsTrue (breaks s p r)
unfolding broken
broken_breaks s p r e = (found (breaks s p) piece_rules rules_grow r e).0

pub broken_least : (s : Nest) (p : Piece) (r : Rule) → broken s p ≡ Some r → (q : Rule) → IsTrue (breaks s p q) → number_of r ≤ number_of q
unfolding broken
broken_least s p r e q h = (found (breaks s p) piece_rules rules_grow r e).2 q (is_piece_rule s p q h) h

pub unbroken_none : (s : Nest) (p : Piece) (q : Rule) → broken s p ≡ None → breaks s p q ≡ false
unfolding broken
unbroken_none s p q e = by (breaks s p q) refl
  where
    by : (b : Bool) → breaks s p q ≡ b → breaks s p q ≡ false
    by true h = none_found (breaks s p) piece_rules e q (is_piece_rule s p q h)
    by false h = h
