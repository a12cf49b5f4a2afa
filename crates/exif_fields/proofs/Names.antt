-- The names of a text, taken from its front one by one.
use Rattle.std.proofs.Common.{◌≡◌, ℕ, ◌+◌, ◌-◌, ◌<◌, Bool, true, false, not, cond, List, [], ◌∷◌, ◌++◌, length, map, ap, refl, sym, ◌∙◌, append_assoc, arith}
use Rattle.std.specs.List.{filter, position_or_len, slice_split, onto_first, before_first, after_first}
use Rattle.std.proofs.lemmas.List.Elements.{filter-append}
use Rattle.std.proofs.lemmas.List.Splits.{slice_split_first}
use Rattle.exif_fields.specs.Fields.{is_empty, is_semicolon, names_in, trimmed}

module _ {X : Type 0} (p : X → Bool) where
  whole_by : (b : Bool) (x : X) (xs : List X) → (position_or_len p xs ≡ length xs → slice_split p xs ≡ xs ∷ [])
      → cond (not b) (1 + position_or_len p xs) 0 ≡ 1 + length xs
      → cond b ([] ∷ slice_split p xs) (onto_first x (slice_split p xs)) ≡ (x ∷ xs) ∷ []
  whole_by true x xs more e = absurd (omega arith)
  whole_by false x xs more e = ap (onto_first x) (more (omega arith))

  split_whole : (xs : List X) → position_or_len p xs ≡ length xs → slice_split p xs ≡ xs ∷ []
  split_whole [] e = refl
  split_whole (x ∷ xs) e = whole_by (p x) x xs (split_whole xs) (omega arith)

-- the names that one part gives
abbrev pub one_name : List ℕ → List (List ℕ)
one_name part = filter (λ name. not (is_empty name)) (trimmed part ∷ [])

pub names_last : (text : List ℕ) → position_or_len is_semicolon text ≡ length text → names_in text ≡ one_name text
unfolding names_in
names_last text e = ap (λ (parts : List (List ℕ)). filter (λ name. not (is_empty name)) (map trimmed parts)) (split_whole is_semicolon text e)

pub names_more : (text : List ℕ) → position_or_len is_semicolon text < length text
    → names_in text ≡ one_name (before_first is_semicolon text) ++ names_in (after_first is_semicolon text)
unfolding names_in
names_more text h =
    let parts = slice_split_first is_semicolon text 0 h in
    let rest = map trimmed (slice_split is_semicolon (after_first is_semicolon text)) in
    ap (λ (parts : List (List ℕ)). filter (λ name. not (is_empty name)) (map trimmed parts)) parts
    ∙ filter-append (λ name. not (is_empty name)) (trimmed (before_first is_semicolon text) ∷ []) rest

pub ruleset names = (names_last, names_more)

-- one part more was taken
pub names_step : (text rest name after cut : List ℕ) (names more : List (List ℕ))
    → position_or_len is_semicolon rest < length rest
    → names_in text ≡ names ++ names_in rest
    → name ≡ before_first is_semicolon rest → cut ≡ trimmed name → after ≡ after_first is_semicolon rest
    → more ≡ names ++ filter (λ name. not (is_empty name)) (cut ∷ [])
    → names_in text ≡ more ++ names_in after
names_step text rest name after cut names more h all front trim back added =
    let e = names_more rest h in
    let c : cut ≡ trimmed (before_first is_semicolon rest) = trim ∙ ap trimmed front in
    let a : more ≡ names ++ one_name (before_first is_semicolon rest) = added ∙ ap (λ (part : List ℕ). names ++ filter (λ name. not (is_empty name)) (part ∷ [])) c in
    rw (a, back) (all ∙ ap (λ (rest : List (List ℕ)). names ++ rest) e ∙ sym (append_assoc names (one_name (before_first is_semicolon rest)) (names_in (after_first is_semicolon rest))))
