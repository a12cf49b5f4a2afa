-- What the prefixes that are given keep, namespace by namespace.
use Rattle.std.proofs.Common.{◌≡◌, ◌≢◌, ℕ, ◌+◌, ◌^◌, ◌<◌, ◌≤◌, Bool, true, false, not, cond, ◌||◌, ◌&&◌, List, [], ◌∷◌, ◌++◌, length, get_or, fold, Option, Some, None, unwrap_or, refl, sym, ap, subst, ◌∙◌, length-append, arith}
use Rattle.std.specs.Prelude.{codes, decimal, All, AllPairs, nat_le, drop, zero, suc}
use Rattle.std.specs.List.{range_with_len}
use Rattle.std.specs.Str.{bytes_eq, IsAscii}
use Rattle.std.proofs.Math.ListN.{get_or-append}
use Rattle.std.proofs.Math.Seq.{get_or-append_seam}
use Rattle.std.proofs.lemmas.Bool.{or_left, or_right, and_parts, and_from, not-true, both_ways, le-leb}
use Rattle.std.proofs.lemmas.Fmt.{decimal_is_IsNumeral, IsAscii-decimal}
use Rattle.std.proofs.lemmas.List.{get_or-map, length-map, map-append, append_assoc}
use Rattle.std.proofs.lemmas.List.Elements.{All-nil, All-cons, All-head, All-tail, All-append, All-from_get_or}
use Rattle.std.proofs.lemmas.List.Folds.{list_any_at}
use Rattle.std.proofs.lemmas.List.FromFn.{length-range_with_len}
use Rattle.std.proofs.lemmas.List.Sums.{list_all-from_AllPass, prefix_len-le-length}
use Rattle.std.proofs.lemmas.Str.Parse.{digit_at}
use Rattle.std.proofs.lemmas.List.Quantifiers.{all_pairs_push}
use Rattle.std.proofs.lemmas.Slice.Eq.{bytes_eq-Decides}
use Rattle.std.proofs.lemmas.Str.{IsAscii-append, encodes-IsAscii}
use Rattle.xmp_values.specs.Characters.{IsName, is_name_char, is_name_start, is_within, further_ranges}
use Rattle.xmp_values.specs.declared.hints.Hint.{Hint}
use Rattle.known_prefixes.specs.Prefixes.{is_fixed, is_known, known_prefix, known_space, begins_xml}
use Rattle.xmp_write.specs.Prefixes.{spaces_in, prefix_in, has_prefix, fitting, is_free, numbered, free_number, prefix_for, with_prefix}
use Rattle.xmp_write.proofs.FreeNumbers.{free_number-free}
use Rattle.xmp_write.proofs.KnownRows.{IsFree, known_free, one_space}

-- given prefixes: each may be declared, a known one is that of its namespace, and none stands twice
pub record AreGiven (given : List Hint) : Type 0 where
  pub free : All (λ h. IsFree h.prefix) given
  pub known : All (λ h. is_known h.prefix ≡ true → known_prefix h.space ≡ Some h.prefix) given
  pub apart : AllPairs (λ g h. g.prefix ≢ h.prefix) given

-- a prefix that may be given to a namespace after these
record MayFollow (given : List Hint) (space prefix : List ℕ) : Type 0 where
  pub free : IsFree prefix
  pub known : is_known prefix ≡ true → known_prefix space ≡ Some prefix
  pub new : All (λ h. h.prefix ≢ prefix) given

pushed : (given : List Hint) (h : Hint) → AreGiven given → MayFollow given h.space h.prefix → AreGiven (given ++ h ∷ [])
pushed given h kept may = record {
  free = All-append (λ h. IsFree h.prefix) given (h ∷ []) kept.free (All-cons (λ h. IsFree h.prefix) h [] may.free (All-nil (λ h. IsFree h.prefix)));
  known =
      let Known = λ (h : Hint). is_known h.prefix ≡ true → known_prefix h.space ≡ Some h.prefix in
      All-append Known given (h ∷ []) kept.known (All-cons Known h [] may.known (All-nil Known));
  apart = all_pairs_push (λ g h. g.prefix ≢ h.prefix) given h kept.apart may.new;
}

-- a prefix that no list has is none of its prefixes
none_has : (given : List Hint) (prefix : List ℕ) → has_prefix given prefix ≡ false → All (λ h. h.prefix ≢ prefix) given
none_has given prefix none k d within same =
    both_ways (has_prefix given prefix) none (list_any_at (λ h. bytes_eq prefix h.prefix) given k d within ((bytes_eq-Decides prefix (get_or given k d).prefix).1 (sym same)))

module _ (hints given : List Hint) (space : List ℕ) where
  -- the known prefix of a namespace that has none yet
  known_follows : (prefix : List ℕ) → AreGiven given → is_fixed space ≡ false → All (λ h. h.space ≢ space) given → known_prefix space ≡ Some prefix → MayFollow given space prefix
  known_follows prefix kept unfixed new found =
      let one = one_space space prefix found in record {
        free = known_free space prefix unfixed found;
        known = λ is. found;
        new = λ k d within same.
            let h = get_or given k d in
            let held = kept.known k d within (ap is_known same ∙ one.1) in
            let back = one_space h.space h.prefix held in
            let both : Some h.space ≡ Some space = sym back.0 ∙ ap known_space same ∙ one.0 in
            new k d within cc;
      }

  -- a hint's prefix that fits
  hinted_name : (hints : List Hint) (prefix : List ℕ) → All (λ h. IsName h.prefix) hints → prefix_in hints space ≡ Some prefix → IsName prefix
  hinted_name [] prefix names found = absurd cc
  hinted_name (h ∷ hs) prefix names found = by (bytes_eq space h.space) found (hinted_name hs prefix (All-tail (λ h. IsName h.prefix) h hs names))
    where
      by : (b : Bool) → cond b (Some h.prefix) (prefix_in hs space) ≡ Some prefix → (prefix_in hs space ≡ Some prefix → IsName prefix) → IsName prefix
      by true found rest = let same : h.prefix ≡ prefix = cc in subst IsName same (All-head (λ h. IsName h.prefix) h hs names)
      by false found rest = rest found

  unknown_free : (prefix : List ℕ) → IsName prefix → is_known prefix ≡ false → begins_xml prefix ≡ false → IsFree prefix
  unknown_free prefix named unknown not_xml = record {
    named = named;
    not_rdf = λ same. both_ways (is_known prefix) unknown (ap is_known same);
    not_x = λ same. both_ways (is_known prefix) unknown (ap is_known same);
    not_xml = not_xml;
  }

  unknown_follows : (prefix : List ℕ) → IsName prefix → is_known prefix ≡ false → begins_xml prefix ≡ false → has_prefix given prefix ≡ false → MayFollow given space prefix
  unknown_follows prefix named unknown not_xml new = record {
    free = unknown_free prefix named unknown not_xml;
    known = λ is. absurd (both_ways (is_known prefix) unknown is);
    new = none_has given prefix new;
  }

-- a numbered prefix is a name, none of the known, and none that begins with `xml`
digit_named : (b : ℕ) → 48 ≤ b → b ≤ 57 → is_name_char b ≡ true
unfolding is_name_char
digit_named b low high =
    or_right (is_name_start b) (is_within further_ranges b)
    (or_right (nat_le 0x2D b && nat_le b 0x2E) (is_within (drop 1 further_ranges) b)
    (or_left (nat_le 0x30 b && nat_le b 0x39) (is_within (drop 2 further_ranges) b) (and_from (nat_le 0x30 b) (nat_le b 0x39) (le-leb 48 b low) (le-leb b 57 high))))

ns_ascii : IsAscii (codes "ns")
ns_ascii zero = omega arith
ns_ascii (suc zero) = omega arith
ns_ascii (suc (suc i)) = omega arith

numbered_named : (n : ℕ) → n < 2 ^ 64 → IsName (numbered n)
unfolding is_name_char is_name_start
numbered_named n small =
    let digits = (decimal_is_IsNumeral n small).0 in
    let each = All-from_get_or (λ b. is_name_char b ≡ true) (decimal n) 0 (λ i within. let low = digit_at (decimal n) i digits.1 within in digit_named (get_or (decimal n) i 0) low.0 low.1) in
    (numbered n, sym (encodes-IsAscii (numbered n) (IsAscii-append (codes "ns") (decimal n) ns_ascii (IsAscii-decimal n small))), list_all-from_AllPass is_name_char (decimal n) each)

numbered_unknown : (n : ℕ) → is_known (numbered n) ≡ false
numbered_unknown n = refl

numbered_not_xml : (n : ℕ) → begins_xml (numbered n) ≡ false
numbered_not_xml n = refl

fitting_parts : (known xml has : Bool) (prefix found : List ℕ) → cond ((known || xml) || has) None (Some prefix) ≡ Some found → (known ≡ false) × (xml ≡ false) × (has ≡ false) × (prefix ≡ found)
fitting_parts false false false prefix found is = (refl, refl, refl, cc)
fitting_parts true xml has prefix found is = absurd cc
fitting_parts false true has prefix found is = absurd cc
fitting_parts false false true prefix found is = absurd cc

-- the prefix that is due to a namespace may be given to it
module _ (hints : List Hint) (names : All (λ h. IsName h.prefix) hints) where
  fit_follows : (given : List Hint) (space : List ℕ) (hinted : Option (List ℕ)) (prefix : List ℕ) → hinted ≡ prefix_in hints space → fitting given hinted ≡ Some prefix → MayFollow given space prefix
  fit_follows given space None prefix is fits = absurd cc
  fit_follows given space (Some hint) prefix is fits =
      let parts = fitting_parts (is_known hint) (begins_xml hint) (has_prefix given hint) hint prefix fits in
      subst (λ (p : List ℕ). MayFollow given space p) parts.3
      (unknown_follows hints given space hint (hinted_name hints given space hints hint names (sym is)) parts.0 parts.1 parts.2)

  number_follows : (given : List Hint) (space : List ℕ) → length hints + length given + 1 < 2 ^ 64 → MayFollow given space (numbered (free_number hints given))
  number_follows given space few =
      let n = free_number hints given in
      let bound = prefix_len-le-length (λ n. not (is_free hints given (numbered n))) (range_with_len 1 (length hints + length given)) in
      let long = length-range_with_len 1 (length hints + length given) in
      let small : n < 2 ^ 64 = omega (arith, bound, long) in
      let free = not-true (has_prefix given (numbered n)) (and_parts (not (has_prefix hints (numbered n))) (not (has_prefix given (numbered n))) (free_number-free hints given few)).1 in
      unknown_follows hints given space (numbered n) (numbered_named n small) (numbered_unknown n) (numbered_not_xml n) free

  due_follows : (given : List Hint) (space : List ℕ) → AreGiven given → is_fixed space ≡ false → All (λ h. h.space ≢ space) given → length hints + length given + 1 < 2 ^ 64
      → MayFollow given space (prefix_for hints given space)
  due_follows given space kept unfixed new few = by (known_prefix space) (fitting given (prefix_in hints space)) refl refl
    where
      by : (known fits : Option (List ℕ)) → known_prefix space ≡ known → fitting given (prefix_in hints space) ≡ fits → MayFollow given space (unwrap_or known (unwrap_or fits (numbered (free_number hints given))))
      by (Some prefix) fits is fit = known_follows hints given space prefix kept unfixed new is
      by None (Some prefix) is fit = fit_follows given space (prefix_in hints space) prefix refl fit
      by None None is fit = number_follows given space few

  -- the place of a namespace after others
  new_space : (given : List Hint) (space : List ℕ) (spaces : List (List ℕ)) → AllPairs (λ a b. a ≢ b) (spaces_in given ++ space ∷ spaces) → All (λ h. h.space ≢ space) given
  new_space given space spaces apart k d within same =
      let long : length (spaces_in given) ≡ length given = length-map given (λ (h : Hint). h.space) in
      let first : get_or (spaces_in given ++ space ∷ spaces) k [] ≡ (get_or given k d).space =
      get_or-append (spaces_in given) (space ∷ spaces) [] k (omega arith) ∙ get_or-map (λ (h : Hint). h.space) given k d [] within in
      let second : get_or (spaces_in given ++ space ∷ spaces) (length given) [] ≡ space =
      ap (λ n. get_or (spaces_in given ++ space ∷ spaces) n []) (sym long) ∙ get_or-append_seam (spaces_in given) space spaces [] in
      apart k (length given) [] within (omega (arith, length-append (spaces_in given) (space ∷ spaces))) (first ∙ same ∙ sym second)

  pub given_kept : (spaces : List (List ℕ)) (given : List Hint) → AreGiven given → All (λ space. is_fixed space ≡ false) spaces → AllPairs (λ a b. a ≢ b) (spaces_in given ++ spaces)
      → length hints + length given + length spaces < 2 ^ 64 → AreGiven (fold (with_prefix hints) given spaces)
  given_kept [] given kept unfixed apart few = kept
  given_kept (space ∷ spaces) given kept unfixed apart few =
      let hint : Hint = record { space = space; prefix = prefix_for hints given space } in
      let follows = due_follows given space kept (All-head (λ space. is_fixed space ≡ false) space spaces unfixed) (new_space given space spaces apart) (omega arith) in
      let moved : spaces_in (with_prefix hints given space) ++ spaces ≡ spaces_in given ++ space ∷ spaces =
      ap (λ front. front ++ spaces) (map-append (λ (h : Hint). h.space) given (hint ∷ [])) ∙ append_assoc (spaces_in given) (space ∷ []) spaces in
      given_kept spaces (with_prefix hints given space) (pushed given hint kept follows) (All-tail (λ space. is_fixed space ≡ false) space spaces unfixed)
      (subst (AllPairs (λ a b. a ≢ b)) (sym moved) apart) (omega (arith, length-append given (hint ∷ [])))
