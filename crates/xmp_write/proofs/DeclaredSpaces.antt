-- The namespaces that a text declares, by first use: each once, none of them fixed, and every one that is used.
use Rattle.std.proofs.Common.{◌≡◌, ◌≢◌, ℕ, ◌<◌, Bool, true, false, cond, ◌||◌, List, [], ◌∷◌, ◌++◌, length, get_or, fold, refl, sym, ap, subst, ◌∙◌}
use Rattle.std.specs.Prelude.{All, AllPairs}
use Rattle.std.specs.List.{list_any}
use Rattle.std.specs.Str.{bytes_eq}
use Rattle.std.proofs.lemmas.Bool.{or_parts, or_left, or_right, both_ways}
use Rattle.std.proofs.lemmas.List.Elements.{All-nil, All-cons, All-head, All-tail, All-append}
use Rattle.std.proofs.lemmas.List.Folds.{list_any-append, list_any_at}
use Rattle.std.proofs.lemmas.List.Quantifiers.{all_pairs_push}
use Rattle.std.proofs.lemmas.Slice.Eq.{bytes_eq-Decides}
use Rattle.known_prefixes.specs.Prefixes.{is_fixed}
use Rattle.xmp_write.specs.Prefixes.{with_use}

-- used namespaces, each of a kind
pub record AreUses (P : List ℕ → Type 0) (spaces : List (List ℕ)) : Type 0 where
  pub unfixed : All (λ space. is_fixed space ≡ false) spaces
  pub each : All P spaces
  pub apart : AllPairs (λ a b. a ≢ b) spaces

none_same : (spaces : List (List ℕ)) (space : List ℕ) → list_any (bytes_eq space) spaces ≡ false → (k : ℕ) (d : List ℕ) → k < length spaces → get_or spaces k d ≢ space
none_same spaces space none k d within same =
    both_ways (list_any (bytes_eq space) spaces) none (list_any_at (bytes_eq space) spaces k d within ((bytes_eq-Decides space (get_or spaces k d)).1 (sym same)))

module _ (P : List ℕ → Type 0) where
  one_kept : (spaces : List (List ℕ)) (space : List ℕ) → AreUses P spaces → (is_fixed space ≡ false → P space) → AreUses P (with_use spaces space)
  one_kept spaces space kept owned = by (is_fixed space || list_any (bytes_eq space) spaces) refl
    where
      by : (b : Bool) → (is_fixed space || list_any (bytes_eq space) spaces) ≡ b → AreUses P (cond b spaces (spaces ++ space ∷ []))
      by true is = kept
      by false is =
          let new = or_parts (is_fixed space) (list_any (bytes_eq space) spaces) is in record {
            unfixed = All-append (λ s. is_fixed s ≡ false) spaces (space ∷ []) kept.unfixed (All-cons (λ s. is_fixed s ≡ false) space [] new.0 (All-nil (λ s. is_fixed s ≡ false)));
            each = All-append P spaces (space ∷ []) kept.each (All-cons P space [] (owned new.0) (All-nil P));
            apart = all_pairs_push (λ a b. a ≢ b) spaces space kept.apart (none_same spaces space new.1);
          }

  pub uses_kept : (uses spaces : List (List ℕ)) → AreUses P spaces → All (λ space. is_fixed space ≡ false → P space) uses → AreUses P (fold with_use spaces uses)
  uses_kept [] spaces kept owned = kept
  uses_kept (space ∷ uses) spaces kept owned =
      uses_kept uses (with_use spaces space) (one_kept spaces space kept (All-head (λ space. is_fixed space ≡ false → P space) space uses owned))
      (All-tail (λ space. is_fixed space ≡ false → P space) space uses owned)

-- what is used stays so
module _ (text : List ℕ) where
  abbrev IsUsed : List (List ℕ) → Type 0
  IsUsed spaces = list_any (bytes_eq text) spaces ≡ true

  still_used : (spaces : List (List ℕ)) (space : List ℕ) → IsUsed spaces → IsUsed (with_use spaces space)
  still_used spaces space used = by (is_fixed space || list_any (bytes_eq space) spaces)
    where
      by : (b : Bool) → IsUsed (cond b spaces (spaces ++ space ∷ []))
      by true = used
      by false = list_any-append (bytes_eq text) spaces (space ∷ []) ∙ or_left (list_any (bytes_eq text) spaces) (bytes_eq text space || false) used

  now_used : (spaces : List (List ℕ)) → is_fixed text ≡ false → IsUsed (with_use spaces text)
  now_used spaces unfixed = by (list_any (bytes_eq text) spaces) refl
    where
      by : (b : Bool) → list_any (bytes_eq text) spaces ≡ b → IsUsed (with_use spaces text)
      by true is = still_used spaces text is
      by false is =
          subst (λ (b : Bool). IsUsed (cond b spaces (spaces ++ text ∷ []))) (sym (ap (λ (b : Bool). b || list_any (bytes_eq text) spaces) unfixed ∙ is))
          (list_any-append (bytes_eq text) spaces (text ∷ []) ∙ or_right (list_any (bytes_eq text) spaces) (bytes_eq text text || false) (or_left (bytes_eq text text) false ((bytes_eq-Decides text text).1 refl)))

  kept_used : (uses spaces : List (List ℕ)) → IsUsed spaces → IsUsed (fold with_use spaces uses)
  kept_used [] spaces used = used
  kept_used (space ∷ uses) spaces used = kept_used uses (with_use spaces space) (still_used spaces space used)

pub all_used : (uses spaces : List (List ℕ)) → All (λ space. is_fixed space ≡ false → list_any (bytes_eq space) (fold with_use spaces uses) ≡ true) uses
all_used [] spaces = All-nil (λ space. is_fixed space ≡ false → list_any (bytes_eq space) spaces ≡ true)
all_used (space ∷ uses) spaces =
    All-cons (λ text. is_fixed text ≡ false → list_any (bytes_eq text) (fold with_use (with_use spaces space) uses) ≡ true) space uses
    (λ unfixed. kept_used space uses (with_use spaces space) (now_used space spaces unfixed)) (all_used uses (with_use spaces space))
