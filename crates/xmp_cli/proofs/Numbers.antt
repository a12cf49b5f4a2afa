-- The number of `demo` is what `parse` reads, where that number is written as the word.
use Rattle.std.proofs.Common.{◌≡◌, ℕ, ◌≤◌, true, false, List, sym, ap, ◌∙◌, arith, Ok, Err, Some, None, decimal, inl, inr}
use Rattle.std.specs.declared.result.Result.{Result}
use Rattle.std.specs.Str.Parse.{digits_value, ParsesUnsigned}
use Rattle.std.proofs.lemmas.Bool.{and_parts, leb-true, cond-true, cond-false, cases_Bool, both_ways}
use Rattle.std.proofs.lemmas.Slice.Eq.{bytes_eq-Decides}
use Rattle.std.proofs.lemmas.Fmt.{decimal_is_IsNumeral, parse-decimal}
use Rattle.xmp_cli.specs.Commands.{is_demo_number, demo_number}

-- what the test tells
pub record IsNumber (word : List ℕ) (number : ℕ) : Type 0 where
  pub least : 1 ≤ number
  pub most : number ≤ 5000
  pub text : word ≡ decimal number

pub is_number : (word : List ℕ) (number : ℕ) → is_demo_number word number ≡ true → IsNumber word number
is_number word number e =
    let parts = and_parts _ _ e in
    let bounds = and_parts _ _ parts.0 in
    record { least = leb-true _ _ bounds.0; most = leb-true _ _ bounds.1; text = (bytes_eq-Decides word (decimal number)).0 parts.1 }

value_of : (word : List ℕ) (number : ℕ) → IsNumber word number → digits_value 10 word ≡ number
value_of word number h = ap (digits_value 10) h.text ∙ (decimal_is_IsNumeral number (omega (arith, h.most))).1

pub demo_number_some : (word : List ℕ) (number : ℕ) → true ≡ is_demo_number word number → Some number ≡ demo_number word
demo_number_some word number e =
    rw (value_of word number (is_number word number (sym e))) (sym (cond-true _ _ _ (sym e)))

demo_number_none : (word : List ℕ) → ((number : ℕ) → is_demo_number word number ≡ true → ⊥) → None ≡ demo_number word
demo_number_none word h = elim (cases_Bool (is_demo_number word (digits_value 10 word))) as (λ x. None ≡ demo_number word) [
  | inl e ↦ absurd (h (digits_value 10 word) e)
  | inr e ↦ sym (cond-false _ _ _ e)
]

-- what `parse` reads of a word that the test takes
parsed : {E : Type 0} (word : List ℕ) (number : ℕ) (r : Result ℕ E) → ParsesUnsigned 16 10 word r → is_demo_number word number ≡ true → r ≡ Ok number
parsed word number r h e =
    let is = is_number word number e in
    parse-decimal 16 number word r (omega (arith, is.most)) (omega (arith, is.most)) is.text h

same_ok : {E : Type 0} (r : Result ℕ E) (m n : ℕ) → r ≡ Ok m → r ≡ Ok n → m ≡ n
same_ok r m n p q = cc

not_both : {E : Type 0} (r : Result ℕ E) (e : E) (n : ℕ) → r ≡ Err e → r ≡ Ok n → ⊥
not_both r e n p q = cc

-- another number is read
pub demo_number_other : {E : Type 0} (word : List ℕ) (number : ℕ) (r : Result ℕ E) → ParsesUnsigned 16 10 word r → r ≡ Ok number → false ≡ is_demo_number word number → None ≡ demo_number word
demo_number_other word number r h e f = demo_number_none word (λ m t.
    both_ways _ (sym f) (ap (is_demo_number word) (same_ok r number m e (parsed word m r h t)) ∙ t))

-- no number is read
pub demo_number_err : {E : Type 0} (word : List ℕ) (r : Result ℕ E) (e : E) → ParsesUnsigned 16 10 word r → r ≡ Err e → None ≡ demo_number word
demo_number_err word r e h is_err = demo_number_none word (λ m t. not_both r e m is_err (parsed word m r h t))
