-- Sets and maps that own their texts, by the texts that they have.
use Rattle.std.proofs.Common.{◌≡◌, ℕ, Bool, true, false, ◌||◌, List, [], ◌∷◌, ◌++◌, Vec, Global, refl, sym, ap, ◌∙◌}
use Rattle.std.specs.List.{list_any}
use Rattle.std.specs.Str.{bytes_eq}
use Rattle.std.specs.declared.cmp.Ordering.{Ordering}
use Rattle.std.specs.declared.cmp.Ordering.TheVariants.{Less, Equal, Greater}
use Rattle.std.specs.Ordering.{nat_cmp, is_eq, match_ordering}
use Rattle.std.specs.Cmp.Lexicographic.{slice_cmp}
use Rattle.std.specs.BTreeSet.{BTreeSet, insert_key}
use Rattle.std.proofs.lemmas.List.Folds.{list_any-append}
use Rattle.std.proofs.lemmas.Map.Lookups.{exact_bytes}
use Rattle.std.proofs.lemmas.Map.Text.{is_eq-slice_cmp}
use Rattle.xmp_values.specs.declared.hints.Hint.{Hint}
use Rattle.xmp_write.specs.Prefixes.{has_prefix}
use Rattle.xmp_write.specs.Giving.{owns_text, HasGiven}

-- keys that are compared by their bytes
module _ {K : Type 0} (bytes : K → List ℕ) where
  abbrev pub by_bytes : K → K → Ordering
  by_bytes x y = slice_cmp nat_cmp (bytes x) (bytes y)

  -- the test by which a text is looked up
  abbrev pub is_text : List ℕ → K → Bool
  is_text text key = is_eq (slice_cmp nat_cmp text (bytes key))

  twice : (a b : Bool) → (a || b) ≡ (a || (a || b))
  twice true b = refl
  twice false b = refl

  turned : (a b c : Bool) → (a || (b || c)) ≡ (b || (a || c))
  turned true true c = refl
  turned true false c = refl
  turned false true c = refl
  turned false false c = refl

  -- a key put into a set has its text, and the others have theirs
  module _ (text : List ℕ) (key : K) where
    placed : (x : K) (xs : List K) (o : Ordering) → o ≡ by_bytes key x → list_any (is_text text) (insert_key by_bytes xs key) ≡ (is_text text key || list_any (is_text text) xs)
        → list_any (is_text text) (match_ordering o (key ∷ x ∷ xs) (x ∷ xs) (x ∷ insert_key by_bytes xs key)) ≡ (is_text text key || (is_text text x || list_any (is_text text) xs))
    placed x xs Less e after = refl
    placed x xs Equal e after =
        twice (is_text text x) (list_any (is_text text) xs)
        ∙ ap (λ found. is_eq (slice_cmp nat_cmp text found) || (is_text text x || list_any (is_text text) xs)) (sym (exact_bytes (bytes key) (bytes x) (sym e)))
    placed x xs Greater e after = ap (λ rest. is_text text x || rest) after ∙ turned (is_text text x) (is_text text key) (list_any (is_text text) xs)

    pub has-insert_key : (keys : List K) → list_any (is_text text) (insert_key by_bytes keys key) ≡ (is_text text key || list_any (is_text text) keys)
    has-insert_key [] = refl
    has-insert_key (x ∷ xs) = placed x xs (by_bytes key x) refl (has-insert_key xs)

after : (a b : Bool) → (a || b) ≡ (b || (a || false))
after true true = refl
after true false = refl
after false true = refl
after false false = refl

abbrev pub is_prefix : Vec ℕ Global → Vec ℕ Global → Ordering
is_prefix = by_bytes (λ (v : Vec ℕ Global). v.items)

-- a set with the prefix of one hint more
pub given_more : (taken new : BTreeSet (Vec ℕ Global)) (list more : List Hint) (key : Vec ℕ Global) (h : Hint) (text : List ℕ) → key.items ≡ h.prefix → HasGiven taken list text
    → new.keys ≡ insert_key is_prefix taken.keys key → more ≡ list ++ h ∷ [] → HasGiven new more text
given_more taken new list more key h text keyed has keys put =
    ap (list_any (is_text (λ (v : Vec ℕ Global). v.items) text)) keys
    ∙ has-insert_key (λ (v : Vec ℕ Global). v.items) text key taken.keys
    ∙ ap (λ here. here || owns_text taken text) (is_eq-slice_cmp text key.items ∙ ap (bytes_eq text) keyed)
    ∙ ap (λ before. bytes_eq text h.prefix || before) has
    ∙ after (bytes_eq text h.prefix) (has_prefix list text)
    ∙ sym (list_any-append (λ h. bytes_eq text h.prefix) list (h ∷ []))
    ∙ ap (λ hs. has_prefix hs text) (sym put)

same_or : (a b : Bool) → b ≡ false → a ≡ (a || (b || false))
same_or true b e = refl
same_or false true e = absurd cc
same_or false false e = refl

-- a set without it, of another prefix
pub given_other : (taken new : BTreeSet (Vec ℕ Global)) (list more : List Hint) (h : Hint) (text : List ℕ) → bytes_eq text h.prefix ≡ false → HasGiven taken list text
    → new ≡ taken → more ≡ list ++ h ∷ [] → HasGiven new more text
given_other taken new list more h text other has same put =
    ap (λ set. owns_text set text) same
    ∙ has
    ∙ same_or (has_prefix list text) (bytes_eq text h.prefix) other
    ∙ sym (list_any-append (λ h. bytes_eq text h.prefix) list (h ∷ []))
    ∙ ap (λ hs. has_prefix hs text) (sym put)
