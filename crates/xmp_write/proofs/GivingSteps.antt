-- What is kept while prefixes are given, step by step.
use Rattle.std.proofs.Common.{◌≡◌, ℕ, ◌+◌, ◌^◌, ◌<◌, ◌≤◌, Bool, true, false, not, cond, ◌&&◌, List, [], ◌∷◌, ◌++◌, Bor, Some, Vec, Global, length, take, get_or, sym, ap, subst, ◌∙◌, ⊎_elim, arith}
use Rattle.std.specs.Prelude.{Result, Ok, Err, OnOk}
use Rattle.std.specs.BTreeSet.{insert_key}
use Rattle.std.specs.Str.{bytes_eq}
use Rattle.std.proofs.lemmas.Bool.{cases_lt, both_ways, false_from_ne_true, or_left, or_right}
use Rattle.std.proofs.lemmas.List.{map-append, take_more}
use Rattle.std.proofs.lemmas.Slice.Eq.{bytes_eq-Decides}
use Rattle.xmp_values.specs.Texts.{texts_of}
use Rattle.xmp_values.specs.declared.hints.Hint.{Hint}
use Rattle.xmp_write.specs.declared.giving.Given.{Given}
use Rattle.xmp_write.specs.Prefixes.{prefix_in, has_prefix, is_free, numbered, free_number}
use Rattle.xmp_write.specs.Giving.{IsGiven}
use Rattle.xmp_write.proofs.Numbers.{least_tried, free-more, free-given}
use Rattle.xmp_write.proofs.FreeNumbers.{numbered_injective}
use Rattle.xmp_write.proofs.OwnedTexts.{is_prefix, given_more, given_other}

-- one text more of a list
pub texts_of-take : (list : List (Bor (List ℕ))) (i : ℕ) (d : Bor (List ℕ)) → i < length list → texts_of (take (i + 1) list) ≡ texts_of (take i list) ++ (get_or list i d).now ∷ []
texts_of-take list i d within = ap texts_of (take_more list i d within) ∙ map-append (λ text. text.now) (take i list) (get_or list i d ∷ [])

-- one namespace more, with a prefix that is put into the set
pub given_kept : (hints : List Hint) (old new : Given) (key : Vec ℕ Global) (h : Hint) → IsGiven hints old → key.items ≡ h.prefix
    → new.taken.keys ≡ insert_key is_prefix old.taken.keys key → new.list ≡ old.list ++ h ∷ [] → new.next ≡ old.next → IsGiven hints new
given_kept hints old new key h kept keyed taken put next = record {
  hinted = λ prefix has. given_more old.taken new.taken old.list new.list key h prefix keyed (kept.hinted prefix has) taken put;
  later = λ n after small. given_more old.taken new.taken old.list new.list key h (numbered n) keyed (kept.later n (subst (λ m. m ≤ n) next after) small) taken put;
  from = subst (λ n. 1 ≤ n) (sym next) kept.from;
  tried = λ n some below.
      subst (λ list. is_free hints list (numbered n) ≡ false) (sym put)
      (free-more hints old.list h (numbered n) (kept.tried n some (subst (λ m. n < m) next below)));
}

-- the same of a call's result
pub given_kept_ok : {T E : Type 0} (hints : List Hint) (old new : Given) (result : Result T E) (key : Vec ℕ Global) (h : Hint) → IsGiven hints old → key.items ≡ h.prefix
    → new.taken.keys ≡ insert_key is_prefix old.taken.keys key → OnOk result (new.list ≡ old.list ++ h ∷ []) → new.next ≡ old.next → OnOk result (IsGiven hints new)
given_kept_ok hints old new (Ok _) key h kept keyed taken put next = given_kept hints old new key h kept keyed taken put next
given_kept_ok hints old new (Err e) key h kept keyed taken put next = tt

-- One namespace more, with the first free number.
module _ (hints : List Hint) (old new : Given) (h : Hint) (number : ℕ) (kept : IsGiven hints old) (least : number ≡ free_number hints old.list)
    (small : number < 2 ^ 63) (free : is_free hints old.list (numbered number) ≡ true) (prefixed : h.prefix ≡ numbered number)
    (put : new.list ≡ old.list ++ h ∷ []) (taken : new.taken ≡ old.taken) (next : new.next ≡ number + 1) where
  -- no hint has the prefix
  of_no_hint : (prefix : List ℕ) → has_prefix hints prefix ≡ true → bytes_eq prefix h.prefix ≡ false
  of_no_hint prefix has = false_from_ne_true (bytes_eq prefix h.prefix)
      (λ same.
      let is : prefix ≡ numbered number = (bytes_eq-Decides prefix h.prefix).0 same ∙ prefixed in
      both_ways (is_free hints old.list (numbered number))
      (ap (λ given. not given && not (has_prefix old.list (numbered number))) (ap (has_prefix hints) (sym is) ∙ has)) free)

  of_no_later : (n : ℕ) → number < n → n < 2 ^ 64 → bytes_eq (numbered n) h.prefix ≡ false
  of_no_later n after within = false_from_ne_true (bytes_eq (numbered n) h.prefix)
      (λ same.
      let is : n ≡ number = numbered_injective n number within (omega arith) ((bytes_eq-Decides (numbered n) h.prefix).0 same ∙ prefixed) in
      omega arith)

  -- it is none of the numbers before
  not_before : old.next ≤ number
  not_before = ⊎_elim
      (λ below. absurd (both_ways (is_free hints old.list (numbered number)) (kept.tried number (omega arith) below) free))
      (λ here. here)
      (cases_lt number old.next)

  pub given_numbered : IsGiven hints new
  given_numbered = record {
    hinted = λ prefix has. given_other old.taken new.taken old.list new.list h prefix (of_no_hint prefix has) (kept.hinted prefix has) taken put;
    later = λ n after within.
        let later : number < n = omega (arith, next) in
        given_other old.taken new.taken old.list new.list h (numbered n) (of_no_later n later within) (kept.later n (omega (arith, not_before)) within) taken put;
    from = subst (λ n. 1 ≤ n) (sym next) (omega arith);
    tried = λ n some below.
        subst (λ list. is_free hints list (numbered n) ≡ false) (sym put)
        (⊎_elim
        (λ lower. free-more hints old.list h (numbered n) (least_tried hints old.list n some (subst (λ m. n < m) least lower)))
        (λ here. let same : n ≡ number = omega (arith, subst (λ m. n < m) next below, here) in free-given hints old.list h (numbered n) (ap numbered same ∙ sym prefixed))
        (cases_lt n number));
  }

-- the prefix of a hint is one that a hint has
pub has_prefix-prefix_in : (hints : List Hint) (space prefix : List ℕ) → prefix_in hints space ≡ Some prefix → has_prefix hints prefix ≡ true
has_prefix-prefix_in [] space prefix found = absurd cc
has_prefix-prefix_in (h ∷ hs) space prefix found = by (bytes_eq space h.space) found (has_prefix-prefix_in hs space prefix)
  where
    by : (b : Bool) → cond b (Some h.prefix) (prefix_in hs space) ≡ Some prefix → (prefix_in hs space ≡ Some prefix → has_prefix hs prefix ≡ true) → has_prefix (h ∷ hs) prefix ≡ true
    by true found rest = or_left (bytes_eq prefix h.prefix) (has_prefix hs prefix) ((bytes_eq-Decides prefix h.prefix).1 cc)
    by false found rest = or_right (bytes_eq prefix h.prefix) (has_prefix hs prefix) (rest found)
