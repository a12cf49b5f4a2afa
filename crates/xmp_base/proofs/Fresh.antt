-- A desk over real files that was just made.
use Rattle.std.proofs.Common.{◌≡◌, ℕ, ◌+◌, ◌<◌, ◌≤◌, List, [], ◌∷◌, ◌++◌, map, length, get_or, take, cond, true, false, refl, sym, ap, ◌∙◌, Some, None}
use Rattle.std.specs.declared.option.Option.{Option}
use Rattle.std.specs.List.{slice_get}
use Rattle.std.specs.FinMap.{empty, get-empty, same_map}
use Rattle.std.specs.Ordering.{eq_by_cmp}
use Rattle.std.specs.Cmp.Lexicographic.{nat_list_cmp_total}
use Rattle.std.proofs.lemmas.List.{map-append, take_more, take_all}
use Rattle.std.proofs.lemmas.Option.{get_or_from_slice_get, slice_get_within, slice_get-get_or}
use Rattle.xmp_base.specs.declared.file_desk.Known.{Known}
use Rattle.xmp_base.specs.Device.{name_cmp}
use Rattle.xmp_base.specs.Held.{held_of}
use Rattle.xmp_base.specs.FileDesk.{name_and_len, IsFresh}
use Rattle.xmp_base.proofs.Names.{names_apart}
use Rattle.xmp_base.proofs.Held.{found, get-held}

-- a name of which nothing is known
abbrev pub unknown : List ℕ → List ℕ × Option ℕ
unknown name = (name, None)

pub unknown_more : (names : List (List ℕ)) (i : ℕ) (name : List ℕ) → Some name ≡ slice_get names i
    → map unknown (take (i + 1) names) ≡ map unknown (take i names) ++ (name, None) ∷ []
unknown_more names i name is =
    ap (map unknown) (take_more names i name (slice_get_within names i name (sym is)) ∙ ap (λ (n : List ℕ). take i names ++ n ∷ []) (get_or_from_slice_get names i name name (sym is)))
    ∙ map-append unknown (take i names) (name ∷ [])

pub unknown_none : (names : List (List ℕ)) (i : ℕ) → i < length names → None ≡ slice_get names i → ⊥
unknown_none names i within is = let e : None ≡ Some (get_or names i []) = is ∙ slice_get-get_or names i [] within in cc e

found_none : (q : List ℕ) (names : List (List ℕ)) → found (λ (len : Option ℕ). len) q (map unknown names) ≡ None
found_none q [] = refl
found_none q (n ∷ ns) = elim (eq_by_cmp name_cmp q n) as (λ b. cond b None (found (λ (len : Option ℕ). len) q (map unknown ns)) ≡ None) [
  | true ↦ refl
  | false ↦ found_none q ns
]

held_unknown : (names : List (List ℕ)) → held_of (λ (len : Option ℕ). len) (map unknown names) ≡ empty
held_unknown names = same_map nat_list_cmp_total names_apart _ _
    (λ q. get-held (λ (len : Option ℕ). len) (map unknown names) q ∙ found_none q names ∙ sym (get-empty name_cmp q))

pub is_fresh : {F : Type 0} (ks : List (Known F)) (names : List (List ℕ)) (i : ℕ) → map name_and_len ks ≡ map unknown (take i names) → length names ≤ i → IsFresh ks 0 0 names
is_fresh ks names i entries past =
    let all : map name_and_len ks ≡ map unknown names = entries ∙ ap (map unknown) (take_all i names past) in
    record {
      entries = all;
      lens = ap (λ (es : List (List ℕ × Option ℕ)). held_of (λ (len : Option ℕ). len) es) all ∙ held_unknown names;
      no_faults = refl;
      no_misses = refl;
    }
