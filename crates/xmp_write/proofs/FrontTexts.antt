-- The text of a front, with its own prefixes and with those of the whole.
use Rattle.std.proofs.Common.{◌≡◌, ℕ, ◌+◌, Bool, true, false, cond, ◌||◌, List, [], ◌∷◌, ◌++◌, length, take, drop, get_or, fold, Some, None, unwrap_or, refl, sym, ap, ◌∙◌}
use Rattle.std.specs.Prelude.{codes}
use Rattle.std.specs.List.{flat_map, list_any}
use Rattle.std.specs.Str.{bytes_eq}
use Rattle.std.proofs.Math.Seq.{take-add}
use Rattle.std.proofs.lemmas.Grind.{flat_map-append}
use Rattle.std.proofs.lemmas.List.{append_assoc, append-nil, take-append-drop, take_at, length-map}
use Rattle.std.proofs.lemmas.List.Sums.{fold-append}
use Rattle.xmp_values.specs.declared.hints.Hint.{Hint}
use Rattle.known_prefixes.specs.Prefixes.{is_fixed}
use Rattle.xmp_values.specs.Spaces.{rdf_space, xml_space, meta_space}
use Rattle.xmp_tree.specs.declared.nested.Member.{Member}
use Rattle.xmp_tree.specs.Wf.{note_name}
use Rattle.xmp_write.specs.Prefixes.{prefix_in, with_use, with_prefix, prefix_for}
use Rattle.xmp_write.specs.Written.{member_spaces}
use Rattle.xmp_write.specs.Splits.{front_spaces, all_spaces, given_to}
use Rattle.xmp_write.proofs.DeclaredSpaces.{all_used}
use Rattle.xmp_write.proofs.PlaceMaps.{spaces_in-given}
use Rattle.xmp_write.proofs.PrefixLaws.{listed}
use Rattle.xmp_write.proofs.SameTexts.{AreAlike}

-- ---- uses and given prefixes grow at their ends alone

one_use : (spaces : List (List ℕ)) (space : List ℕ) → (more : List (List ℕ)) × (with_use spaces space ≡ spaces ++ more)
one_use spaces space = by (is_fixed space || list_any (bytes_eq space) spaces)
  where
    by : (b : Bool) → (more : List (List ℕ)) × (cond b spaces (spaces ++ space ∷ []) ≡ spaces ++ more)
    by true = ([], sym (append-nil spaces))
    by false = (space ∷ [], refl)

pub more_uses : (uses spaces : List (List ℕ)) → (more : List (List ℕ)) × (fold with_use spaces uses ≡ spaces ++ more)
more_uses [] spaces = ([], sym (append-nil spaces))
more_uses (space ∷ uses) spaces =
    let one = one_use spaces space in
    let rest = more_uses uses (with_use spaces space) in
    (one.0 ++ rest.0, rest.1 ∙ ap (λ xs. xs ++ rest.0) one.1 ∙ append_assoc spaces one.0 rest.0)

more_given : (hints given : List Hint) (spaces : List (List ℕ)) → (more : List Hint) × (fold (with_prefix hints) given spaces ≡ given ++ more)
more_given hints given [] = ([], sym (append-nil given))
more_given hints given (space ∷ spaces) =
    let one : Hint = record { space = space; prefix = prefix_for hints given space } in
    let rest = more_given hints (with_prefix hints given space) spaces in
    (one ∷ rest.0, rest.1 ∙ append_assoc given (one ∷ []) rest.0)

prefix_kept : (ps more : List Hint) (space prefix : List ℕ) → prefix_in ps space ≡ Some prefix → prefix_in (ps ++ more) space ≡ Some prefix
prefix_kept [] more space prefix found = absurd cc
prefix_kept (h ∷ hs) more space prefix found = by (bytes_eq space h.space) found (prefix_kept hs more space prefix)
  where
    by : (b : Bool) → cond b (Some h.prefix) (prefix_in hs space) ≡ Some prefix → (prefix_in hs space ≡ Some prefix → prefix_in (hs ++ more) space ≡ Some prefix)
        → cond b (Some h.prefix) (prefix_in (hs ++ more) space) ≡ Some prefix
    by true found rest = found
    by false found rest = rest found

-- a fixed namespace has its prefix whatever the list is
fixed_alike : (a b c : Bool) (x y z u v : List ℕ) → ((a || (b || (c || false))) ≡ false → u ≡ v)
    → unwrap_or (cond a (Some x) (cond b (Some y) (cond c (Some z) None))) u ≡ unwrap_or (cond a (Some x) (cond b (Some y) (cond c (Some z) None))) v
fixed_alike true b c x y z u v same = refl
fixed_alike false true c x y z u v same = refl
fixed_alike false false true x y z u v same = refl
fixed_alike false false false x y z u v same = same refl

-- ---- a front's prefixes are the first of the whole's

module _ (hints : List Hint) (props : List Member) where
  abbrev pub uses_of : List Member → List (List ℕ)
  uses_of ms = note_name.space ∷ flat_map member_spaces ms

  pub given_len : (spaces : List (List ℕ)) → length (given_to hints spaces) ≡ length spaces
  given_len spaces = sym (length-map (given_to hints spaces) (λ (h : Hint). h.space)) ∙ ap length (spaces_in-given hints [] spaces)

  uses_append : (xs ys : List Member) → uses_of (xs ++ ys) ≡ uses_of xs ++ flat_map member_spaces ys
  uses_append xs ys = ap (λ rest. note_name.space ∷ rest) (flat_map-append member_spaces xs ys)

  pub later_spaces : (k j : ℕ) → (more : List (List ℕ)) × (front_spaces props (k + j) ≡ front_spaces props k ++ more)
  later_spaces k j =
      let rest = more_uses (flat_map member_spaces (take j (drop k props))) (front_spaces props k) in (
        rest.0,
        ap (λ ms. fold with_use [] (uses_of ms)) (take-add k j props) ∙ ap (fold with_use []) (uses_append (take k props) (take j (drop k props)))
            ∙ fold-append with_use [] (uses_of (take k props)) (flat_map member_spaces (take j (drop k props))) ∙ rest.1,
      )

  pub whole_spaces : (k : ℕ) → (more : List (List ℕ)) × (all_spaces props ≡ front_spaces props k ++ more)
  whole_spaces k =
      let rest = more_uses (flat_map member_spaces (drop k props)) (front_spaces props k) in (
        rest.0,
        ap (λ ms. fold with_use [] (uses_of ms)) (sym (take-append-drop k props)) ∙ ap (fold with_use []) (uses_append (take k props) (drop k props))
            ∙ fold-append with_use [] (uses_of (take k props)) (flat_map member_spaces (drop k props)) ∙ rest.1,
      )

  whole_given : (k : ℕ) → (more : List Hint) × (given_to hints (all_spaces props) ≡ given_to hints (front_spaces props k) ++ more)
  whole_given k =
      let spaces = whole_spaces k in
      let rest = more_given hints (given_to hints (front_spaces props k)) spaces.0 in
      (rest.0, ap (given_to hints) spaces.1 ∙ fold-append (with_prefix hints) [] (front_spaces props k) spaces.0 ∙ rest.1)

  pub front_given : (k : ℕ) → take (length (front_spaces props k)) (given_to hints (all_spaces props)) ≡ given_to hints (front_spaces props k)
  front_given k =
      let whole = whole_given k in
      ap (take (length (front_spaces props k))) whole.1 ∙ take_at (given_to hints (front_spaces props k)) whole.0 (length (front_spaces props k)) (given_len (front_spaces props k))

  pub front_alike : (k : ℕ) → AreAlike (given_to hints (front_spaces props k)) (given_to hints (all_spaces props)) (uses_of (take k props))
  front_alike k n d within =
      let space = get_or (uses_of (take k props)) n d in
      let own = given_to hints (front_spaces props k) in
      let whole = whole_given k in
      fixed_alike (bytes_eq space rdf_space) (bytes_eq space xml_space) (bytes_eq space meta_space) (codes "rdf") (codes "xml") (codes "x")
      (unwrap_or (prefix_in own space) []) (unwrap_or (prefix_in (given_to hints (all_spaces props)) space) [])
      (λ unfixed.
      let used = all_used (uses_of (take k props)) [] n d within unfixed in
      let found = listed own space (ap (list_any (bytes_eq space)) (spaces_in-given hints [] (front_spaces props k)) ∙ used) in
      let kept = ap (λ ps. prefix_in ps space) whole.1 ∙ prefix_kept own whole.0 space found.0 found.1 in
      ap (λ o. unwrap_or o []) (found.1 ∙ sym kept))
