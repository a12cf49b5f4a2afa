-- The places of namespaces in a list.
use Rattle.std.proofs.Common.{◌≡◌, ℕ, ◌+◌, Bool, true, false, cond, List, [], ◌∷◌, ◌++◌, length, fold, Option, Some, None, refl, sym, ap, ◌∙◌}
use Rattle.std.specs.Prelude.{slice_get, unwrap_or}
use Rattle.std.specs.Option.{option_map}
use Rattle.std.specs.List.{position_from}
use Rattle.std.specs.Str.{bytes_eq}
use Rattle.std.proofs.lemmas.List.{length_push, map-append, append-nil, append_assoc}
use Rattle.xmp_values.specs.declared.hints.Hint.{Hint}
use Rattle.known_prefixes.specs.Prefixes.{fixed_prefix}
use Rattle.xmp_write.specs.Prefixes.{spaces_in, prefix_in, written_prefix, with_prefix, prefix_for}

-- those that are given prefixes are those of the list that is made, in their order
pub spaces_in-given : (hints given : List Hint) (spaces : List (List ℕ)) → spaces_in (fold (with_prefix hints) given spaces) ≡ spaces_in given ++ spaces
spaces_in-given hints given [] = sym (append-nil (spaces_in given))
spaces_in-given hints given (space ∷ spaces) =
    let hint : Hint = record { space = space; prefix = prefix_for hints given space } in
    spaces_in-given hints (with_prefix hints given space) spaces
    ∙ ap (λ front. front ++ spaces) (map-append (λ (h : Hint). h.space) given (hint ∷ []))
    ∙ append_assoc (spaces_in given) (space ∷ []) spaces

-- what stands at a place, if there is one
abbrev pub prefix_at : List Hint → Option ℕ → Option (List ℕ)
prefix_at list None = None
prefix_at list (Some place) = option_map (λ h. h.prefix) (slice_get list place)

at_length : (front : List Hint) (h : Hint) (rest : List Hint) → slice_get (front ++ h ∷ rest) (length front) ≡ Some h
at_length [] h rest = refl
at_length (g ∷ front) h rest = at_length front h rest

-- a list with its first item put after a front
moved : (front : List Hint) (h : Hint) (rest : List Hint) → (front ++ h ∷ []) ++ rest ≡ front ++ h ∷ rest
moved [] h rest = refl
moved (g ∷ front) h rest = ap (λ list. g ∷ list) (moved front h rest)

-- the prefix in a list is that at the first place of the namespace
module _ (space : List ℕ) where
  abbrev is_space : Hint → Bool
  is_space h = bytes_eq space h.space

  tested : (here : Bool) (front : List Hint) (h : Hint) (rest : List Hint) → prefix_in rest space ≡ prefix_at (front ++ h ∷ rest) (position_from is_space (length front + 1) rest)
      → cond here (Some h.prefix) (prefix_in rest space) ≡ prefix_at (front ++ h ∷ rest) (cond here (Some (length front)) (position_from is_space (length front + 1) rest))
  tested true front h rest after = sym (ap (option_map (λ h. h.prefix)) (at_length front h rest))
  tested false front h rest after = after

  placed_after : (front rest : List Hint) → prefix_in rest space ≡ prefix_at (front ++ rest) (position_from is_space (length front) rest)
  placed_after front [] = refl
  placed_after front (h ∷ rest) =
      tested (is_space h) front h rest
      (placed_after (front ++ h ∷ []) rest ∙ ap (λ list. prefix_at list (position_from is_space (length (front ++ h ∷ [])) rest)) (moved front h rest)
      ∙ ap (λ at. prefix_at (front ++ h ∷ rest) (position_from is_space at rest)) (length_push front h))

  position_from-spaces : (at : ℕ) (list : List Hint) → position_from (bytes_eq space) at (spaces_in list) ≡ position_from is_space at list
  position_from-spaces at [] = refl
  position_from-spaces at (h ∷ hs) = ap (cond (bytes_eq space h.space) (Some at)) (position_from-spaces (at + 1) hs)

  prefix_in-place : (list : List Hint) (place : Option ℕ) → place ≡ position_from is_space 0 list → prefix_in list space ≡ prefix_at list place
  prefix_in-place list place is = placed_after [] list ∙ ap (prefix_at list) (sym is)

  pub written_prefix-place : (list : List Hint) (place : Option ℕ) → fixed_prefix space ≡ None → place ≡ position_from (bytes_eq space) 0 (spaces_in list) → written_prefix list space ≡ unwrap_or (prefix_at list place) []
  written_prefix-place list place free is =
      ap (λ fixed. unwrap_or fixed (unwrap_or (prefix_in list space) [])) free
      ∙ ap (λ found. unwrap_or found []) (prefix_in-place list place (is ∙ position_from-spaces 0 list))
