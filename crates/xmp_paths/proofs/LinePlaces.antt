-- The places of lines in a list that grows at its end, and what a map of them tells.
use Rattle.std.proofs.Common.{◌≡◌, ◌∙◌, ◌+◌, ℕ, suc, length, Bool, true, false, cond, ◌||◌, List, [], ◌∷◌, ◌++◌, Option, Some, None, refl, sym, ap}
use Rattle.std.specs.Prelude.{Vec, is_some, slice_get, option_map, option_and_then}
use Rattle.std.specs.declared.alloc.Global.{Global}
use Rattle.std.specs.declared.cmp.Ordering.{Ordering}
use Rattle.std.specs.Option.{option_or, option_copied}
use Rattle.std.specs.Borrow.{Bor}
use Rattle.std.specs.Str.{bytes_eq}
use Rattle.std.specs.Ordering.{is_eq, nat_cmp}
use Rattle.std.specs.Cmp.{eq_by_cmp_equiv}
use Rattle.std.specs.Cmp.Lexicographic.{slice_cmp, nat_list_cmp_total}
use Rattle.std.specs.Map.{lookup, IsKeyTest, AreApart, KeepsOthers}
use Rattle.std.specs.BTreeMap.{BTreeMap, UpdatesBy, is_at}
use Rattle.std.proofs.lemmas.Map.Text.{is_eq-slice_cmp}
use Rattle.std.proofs.lemmas.Slice.Eq.{bytes_eq-Decides}
use Rattle.xmp_values.specs.declared.hints.Hint.{Hint}
use Rattle.xmp_values.specs.Hints.{space_in, has_prefix}
use Rattle.xmp_values.proofs.TextPlaces.{bytes_eq-sym}
use Rattle.xmp_paths.specs.LinePlaces.{line_place, place_at, HasLinePlaces}

-- the map of no line
pub places_none : (places : BTreeMap (Vec ℕ Global) ℕ) → places.entries ≡ [] → HasLinePlaces places []
places_none places none prefix = ap (lookup (is_at (λ (k : Vec ℕ Global). slice_cmp nat_cmp prefix k.items))) none

-- What a change at one prefix leaves at any.
other_entries : {K X : Type 0} (eq : K → K → Bool) (test : K → Bool) (old new : List (K × X)) → KeepsOthers eq test old new → (other : K → Bool) → IsKeyTest eq other → AreApart test other → lookup other new ≡ lookup other old
unfolding KeepsOthers
other_entries eq test old new h = h

never : (b : Bool) → (b ≡ true → ⊥) → b ≡ false
never true h = absurd (h refl)
never false h = refl

-- a key of the one prefix is none of the other
apart_in_order : (name q key : List ℕ) → bytes_eq name q ≡ false → is_eq (slice_cmp nat_cmp name key) ≡ true → is_eq (slice_cmp nat_cmp q key) ≡ false
apart_in_order name q key differ at =
    never (is_eq (slice_cmp nat_cmp q key)) (λ also.
    let one : name ≡ key = (bytes_eq-Decides name key).0 (sym (is_eq-slice_cmp name key) ∙ at) in
    let other : q ≡ key = (bytes_eq-Decides q key).0 (sym (is_eq-slice_cmp q key) ∙ also) in
    let bad : true ≡ false = sym ((bytes_eq-Decides name q).1 (one ∙ sym other)) ∙ differ in
    cc)

-- a key of a prefix
abbrev keyed_as : List ℕ → Vec ℕ Global → Ordering
keyed_as prefix k = slice_cmp nat_cmp prefix k.items

abbrev Updated : List ℕ → BTreeMap (Vec ℕ Global) ℕ → BTreeMap (Vec ℕ Global) ℕ → Option ℕ → Type 0
Updated prefix old new w = UpdatesBy (λ (x y : Vec ℕ Global). slice_cmp nat_cmp x.items y.items) (keyed_as prefix) old new w

place_after : (prefix : List ℕ) (old new : BTreeMap (Vec ℕ Global) ℕ) (w : Option ℕ) → Updated prefix old new w → (q : List ℕ) → place_at new q ≡ cond (bytes_eq q prefix) w (place_at old q)
place_after prefix old new w h q = by (bytes_eq prefix q) refl ∙ ap (λ b. cond b w (place_at old q)) (bytes_eq-sym prefix q)
  where
    by : (b : Bool) → bytes_eq prefix q ≡ b → place_at new q ≡ cond b w (place_at old q)
    by true e = ap (place_at new) (sym ((bytes_eq-Decides prefix q).0 e)) ∙ h.1
    by false e =
        other_entries _ _ old.entries new.entries h.3 (is_at (keyed_as q))
        (λ x y. (eq_by_cmp_equiv nat_list_cmp_total).congr q x.items y.items)
        (λ k. apart_in_order prefix q k.items e)

-- The first line of a prefix, with one line more.
line_place-push : (lines : List Hint) (line : Hint) (q : List ℕ) → line_place (lines ++ line ∷ []) q ≡ option_or (line_place lines q) (cond (bytes_eq q line.prefix) (Some (length lines)) None)
line_place-push [] line q = refl
line_place-push (h ∷ hs) line q = by (bytes_eq q h.prefix) (bytes_eq q line.prefix) (line_place hs q) (line_place (hs ++ line ∷ []) q) (line_place-push hs line q)
  where
    by : (b c : Bool) (o more : Option ℕ) → more ≡ option_or o (cond c (Some (length hs)) None) →
        cond b (Some 0) (option_map (λ i. suc i) more) ≡ option_or (cond b (Some 0) (option_map (λ i. suc i) o)) (cond c (Some (length (h ∷ hs))) None)
    by true c o more e = refl
    by false c (Some k) more e = ap (option_map (λ i. suc i)) e
    by false true None more e = ap (option_map (λ i. suc i)) e
    by false false None more e = ap (option_map (λ i. suc i)) e

module _ (lines : List Hint) (line : Hint) (old : BTreeMap (Vec ℕ Global) ℕ) (has : HasLinePlaces old lines) where
  -- a prefix that has a line keeps it
  pub placed_again : is_some (place_at old line.prefix) ≡ true → HasLinePlaces old (lines ++ line ∷ [])
  placed_again there q = has q ∙ by (bytes_eq q line.prefix) refl (line_place lines q) refl ∙ sym (line_place-push lines line q)
    where
      had : bytes_eq q line.prefix ≡ true → is_some (line_place lines q) ≡ true
      had same = ap (λ p. is_some (line_place lines p)) ((bytes_eq-Decides q line.prefix).0 same) ∙ ap (λ o. is_some o) (sym (has line.prefix)) ∙ there

      by : (b : Bool) → bytes_eq q line.prefix ≡ b → (o : Option ℕ) → line_place lines q ≡ o → o ≡ option_or o (cond b (Some (length lines)) None)
      by b same (Some k) is = refl
      by false same None is = refl
      by true same None is = let bad : false ≡ true = ap (λ o. is_some o) (sym is) ∙ had same in absurd cc

  -- a new prefix has the last line
  pub placed_more : (prefix : List ℕ) (at : ℕ) (new : BTreeMap (Vec ℕ Global) ℕ) → is_some (place_at old line.prefix) ≡ false → prefix ≡ line.prefix → at ≡ length lines → Updated prefix old new (Some at)
      → HasLinePlaces new (lines ++ line ∷ [])
  placed_more prefix at new absent keyed last updates q =
      place_after prefix old new (Some at) updates q
      ∙ ap (λ p. cond (bytes_eq q p) (Some at) (place_at old q)) keyed
      ∙ ap (λ o. cond (bytes_eq q line.prefix) (Some at) o) (has q)
      ∙ ap (λ k. cond (bytes_eq q line.prefix) (Some k) (line_place lines q)) last
      ∙ by (bytes_eq q line.prefix) refl (line_place lines q) refl
      ∙ sym (line_place-push lines line q)
    where
      free : bytes_eq q line.prefix ≡ true → is_some (line_place lines q) ≡ false
      free same = ap (λ p. is_some (line_place lines p)) ((bytes_eq-Decides q line.prefix).0 same) ∙ ap (λ o. is_some o) (sym (has line.prefix)) ∙ absent

      by : (b : Bool) → bytes_eq q line.prefix ≡ b → (o : Option ℕ) → line_place lines q ≡ o → cond b (Some (length lines)) o ≡ option_or o (cond b (Some (length lines)) None)
      by false same (Some k) is = refl
      by false same None is = refl
      by true same None is = refl
      by true same (Some k) is = let bad : true ≡ false = ap (λ o. is_some o) (sym is) ∙ free same in absurd cc

-- What the first line of a prefix tells.
is_there : (lines : List Hint) (prefix : List ℕ) → is_some (line_place lines prefix) ≡ has_prefix lines prefix
is_there [] prefix = refl
is_there (h ∷ hs) prefix = by (bytes_eq prefix h.prefix) (line_place hs prefix) (is_there hs prefix)
  where
    by : (b : Bool) (o : Option ℕ) → is_some o ≡ has_prefix hs prefix → is_some (cond b (Some 0) (option_map (λ i. suc i) o)) ≡ (b || has_prefix hs prefix)
    by true o e = refl
    by false (Some k) e = e
    by false None e = e

pub is_bound_by : (places : BTreeMap (Vec ℕ Global) ℕ) (lines : List Hint) → HasLinePlaces places lines → (prefix : List ℕ) → is_some (place_at places prefix) ≡ has_prefix lines prefix
is_bound_by places lines has prefix = ap (λ o. is_some o) (has prefix) ∙ is_there lines prefix

space_there : (lines : List Hint) (prefix : List ℕ) → option_map (λ h. h.space) (option_and_then (slice_get lines) (line_place lines prefix)) ≡ space_in lines prefix
space_there [] prefix = refl
space_there (h ∷ hs) prefix = by (bytes_eq prefix h.prefix) (line_place hs prefix) (space_there hs prefix)
  where
    by : (b : Bool) (o : Option ℕ) → option_map (λ h. h.space) (option_and_then (slice_get hs) o) ≡ space_in hs prefix
        → option_map (λ h. h.space) (option_and_then (slice_get (h ∷ hs)) (cond b (Some 0) (option_map (λ i. suc i) o))) ≡ cond b (Some h.space) (space_in hs prefix)
    by true o e = refl
    by false (Some k) e = e
    by false None e = e

module _ (places : BTreeMap (Vec ℕ Global) ℕ) (lines : List Hint) (has : HasLinePlaces places lines) (prefix : List ℕ) where
  abbrev space_at : Option ℕ → Option (List ℕ)
  space_at place = option_map (λ h. h.space) (option_and_then (slice_get lines) place)

  pub space_found : (at : ℕ) (line : Option (Bor Hint)) → Some at ≡ place_at places prefix → option_copied line ≡ slice_get lines at → option_map (λ h. h.space) (option_copied line) ≡ space_in lines prefix
  space_found at line there is = ap (option_map (λ h. h.space)) is ∙ ap space_at (there ∙ has prefix) ∙ space_there lines prefix

  pub space_missed : None ≡ place_at places prefix → None ≡ space_in lines prefix
  space_missed there = ap space_at (there ∙ has prefix) ∙ space_there lines prefix
