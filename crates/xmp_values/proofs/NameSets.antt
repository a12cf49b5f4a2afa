-- Sets of names, by the keys that stand for them.
use Rattle.std.proofs.Common.{◌≡◌, ◌⊎◌, ◌↔◌, ℕ, ◌+◌, ◌<◌, length, get_or, List, [], ◌∷◌, Bool, true, false, Bor, refl, sym, ap, subst, ◌∙◌, inl, inr, ⊎_elim, arith}
use Rattle.std.specs.Prelude.{Contains, not, MatchBool}
use Rattle.std.specs.List.{list_any}
use Rattle.std.specs.declared.cmp.Ordering.{Ordering}
use Rattle.std.specs.declared.cmp.Ordering.TheVariants.{Less, Equal, Greater}
use Rattle.std.specs.Ordering.{match_ordering, ordering_then, nat_cmp}
use Rattle.std.specs.Cmp.{Equal-is}
use Rattle.std.specs.Cmp.Lexicographic.{slice_cmp}
use Rattle.std.specs.BTreeMap.{is_at}
use Rattle.std.specs.BTreeSet.{insert_key}
use Rattle.std.proofs.lemmas.Bool.{or_cases, or_left, or_right, both_ways, not-false, cases_lt}
use Rattle.std.proofs.lemmas.List.{get_or_default}
use Rattle.std.proofs.lemmas.Cmp.{nat_list_cmp_total, tied_itself}
use Rattle.std.proofs.lemmas.List.Elements.{Contains-append_cases, Contains-append_right, Contains-push_cases}
use Rattle.std.proofs.lemmas.Map.Lookups.{exact_bytes, exact_pairs}
use Rattle.xmp_values.specs.declared.text.Name.{Name}
use Rattle.xmp_values.specs.Names.{named, names_of}

contains_nil : {X : Type 0} (x : X) → Contains [] x → ⊥
contains_nil x h = omega arith

contains_cons : {X : Type 0} (y : X) (ys : List X) (x : X) → Contains (y ∷ ys) x → Contains ys x ⊎ (y ≡ x)
contains_cons y ys x h =
    ⊎_elim (λ first. ⊎_elim (λ none. absurd (contains_nil x none)) inr (Contains-push_cases [] y x first)) inl
    (Contains-append_cases (y ∷ []) ys x h)

contains_head : {X : Type 0} (y : X) (ys : List X) (x : X) → y ≡ x → Contains (y ∷ ys) x
contains_head y ys x e = (0, omega arith, e)

contains_tail : {X : Type 0} (y : X) (ys : List X) (x : X) → Contains ys x → Contains (y ∷ ys) x
contains_tail y ys x h = Contains-append_right (y ∷ []) ys x h

abbrev Key : Type 0
Key = Bor (List ℕ) × Bor (List ℕ)

abbrev name_at : Key → Name
name_at key = named key.1.now key.0.now

-- the order of the keys: by local parts, then by namespaces
abbrev key_cmp : Key → Key → Ordering
key_cmp x y = ordering_then (slice_cmp nat_cmp x.0.now y.0.now) (slice_cmp nat_cmp x.1.now y.1.now)

bytes_tied : (xs ys : List ℕ) → xs ≡ ys → slice_cmp nat_cmp xs ys ≡ Equal
bytes_tied xs ys e = ap (slice_cmp nat_cmp xs) (sym e) ∙ tied_itself nat_list_cmp_total xs

ties : (x y : Key) → (key_cmp x y ≡ Equal) ↔ (name_at x ≡ name_at y)
ties x y = (
  λ e. let same = exact_pairs (slice_cmp nat_cmp) (slice_cmp nat_cmp) exact_bytes exact_bytes (x.0.now, x.1.now) (y.0.now, y.1.now) e in
      ap (λ p. named p.1 p.0) same,
  λ e. ap (λ o. ordering_then o (slice_cmp nat_cmp x.1.now y.1.now)) (bytes_tied x.0.now y.0.now (ap (λ n. n.local) e)) ∙
      bytes_tied x.1.now y.1.now (ap (λ n. n.space) e),
)

-- a key that compares as one of the set names one of its names
found : (k : Key) (ks : List Key) → (list_any (is_at (key_cmp k)) ks ≡ true) ↔ Contains (names_of ks) (name_at k)
found k [] = (λ h. absurd cc, λ h. absurd (contains_nil (name_at k) h))
found k (x ∷ xs) = (
  λ h. ⊎_elim
      (λ here. contains_head (name_at x) (names_of xs) (name_at k) (sym ((ties k x).0 ((Equal-is (key_cmp k x)).0 here))))
      (λ there. contains_tail (name_at x) (names_of xs) (name_at k) ((found k xs).0 there))
      (or_cases _ _ h),
  λ h. ⊎_elim
      (λ there. or_right (is_at (key_cmp k) x) _ ((found k xs).1 there))
      (λ here. or_left (is_at (key_cmp k) x) _ ((Equal-is (key_cmp k x)).1 ((ties k x).1 (sym here))))
      (contains_cons (name_at x) (names_of xs) (name_at k) h),
)

-- the set with a name more has that name and those that it had
abbrev Adds : List Key → Key → List Key → Type 0
Adds ks k more = (n : Name) → Contains (names_of more) n ↔ (Contains (names_of ks) n ⊎ (n ≡ name_at k))

added_front : (k : Key) (ks : List Key) → Adds ks k (k ∷ ks)
added_front k ks n = (
  λ h. ⊎_elim inl (λ e. inr (sym e)) (contains_cons (name_at k) (names_of ks) n h),
  λ h. ⊎_elim (contains_tail (name_at k) (names_of ks) n) (λ e. contains_head (name_at k) (names_of ks) n (sym e)) h,
)

added_after : (k x : Key) (xs more : List Key) → Adds xs k more → Adds (x ∷ xs) k (x ∷ more)
added_after k x xs more adds n = (
  λ h. ⊎_elim
      (λ there. ⊎_elim (λ old. inl (contains_tail (name_at x) (names_of xs) n old)) inr ((adds n).0 there))
      (λ here. inl (contains_head (name_at x) (names_of xs) n here))
      (contains_cons (name_at x) (names_of more) n h),
  λ h. ⊎_elim
      (λ old. ⊎_elim (λ there. contains_tail (name_at x) (names_of more) n ((adds n).1 (inl there))) (contains_head (name_at x) (names_of more) n)
      (contains_cons (name_at x) (names_of xs) n old))
      (λ e. contains_tail (name_at x) (names_of more) n ((adds n).1 (inr e)))
      h,
)

added_none : (k x : Key) (xs : List Key) → name_at k ≡ name_at x → Adds (x ∷ xs) k (x ∷ xs)
added_none k x xs same n =
    (inl, λ h. ⊎_elim (λ old. old) (λ e. contains_head (name_at x) (names_of xs) n (sym (e ∙ same))) h)

placed : (k x : Key) (xs : List Key) (o : Ordering) → o ≡ key_cmp k x → Adds xs k (insert_key key_cmp xs k) →
    Adds (x ∷ xs) k (match_ordering o (k ∷ x ∷ xs) (x ∷ xs) (x ∷ insert_key key_cmp xs k))
placed k x xs Less e after = added_front k (x ∷ xs)
placed k x xs Equal e after = added_none k x xs ((ties k x).0 (sym e))
placed k x xs Greater e after = added_after k x xs (insert_key key_cmp xs k) after

added : (k : Key) (ks : List Key) → Adds ks k (insert_key key_cmp ks k)
added k [] = added_front k []
added k (x ∷ xs) = placed k x xs (key_cmp k x) refl (added k xs)

answered : (answer here : Bool) (P : Type 0) → answer ≡ not here → (here ≡ true → P) → (P → here ≡ true) → MatchBool answer (P → ⊥) P
answered true here P e found held = λ p. both_ways true (e ∙ ap not (held p)) refl
answered false here P e found held = found (not-false here (sym e))

-- what a set answers of a key, and holds with it
module _ (k : Key) (ks : List Key) (names : List Name) (seen : names_of ks ≡ names) where
  pub is_new : (answer : Bool) → answer ≡ not (list_any (is_at (key_cmp k)) ks) → MatchBool answer (Contains names (name_at k) → ⊥) (Contains names (name_at k))
  is_new answer e =
      let held : list_any (is_at (key_cmp k)) ks ≡ true → Contains names (name_at k) =
      λ here. subst (λ ns. Contains ns (name_at k)) seen ((found k ks).0 here) in
      let free : Contains names (name_at k) → list_any (is_at (key_cmp k)) ks ≡ true =
      λ h. (found k ks).1 (subst (λ ns. Contains ns (name_at k)) (sym seen) h) in
      answered answer (list_any (is_at (key_cmp k)) ks) (Contains names (name_at k)) e held free

  pub holds : (more : List Key) → more ≡ insert_key key_cmp ks k → (n : Name) → Contains (names_of more) n ↔ (Contains names n ⊎ (n ≡ name_at k))
  holds more e n =
      let adds = subst (λ ms. Contains (names_of ms) n ↔ (Contains (names_of ks) n ⊎ (n ≡ name_at k))) (sym e) (added k ks n) in
      subst (λ ns. Contains (names_of more) n ↔ (Contains ns n ⊎ (n ≡ name_at k))) seen adds

pub named_same : (n m : Name) (space local : List ℕ) → space ≡ n.space → local ≡ n.local → n ≡ m → named space local ≡ m
named_same n m space local p q e = let parts : named space local ≡ n = λ i. named (p i) (q i) in parts ∙ e

-- Items whose names differ, seen one by one.
module _ {T : Type 0} (name : T → Name) (items : List T) where
  -- the name of one of the first i items
  abbrev pub IsSeen : ℕ → Name → Type 0
  IsSeen i n = (k : ℕ) × (k < i) × ((d : T) → name (get_or items k d) ≡ n)

  -- the names of the first i items differ
  abbrev pub ApartBelow : ℕ → Type 0
  ApartBelow i = (j k : ℕ) (d : T) → j < k → k < i → name (get_or items j d) ≡ name (get_or items k d) → ⊥

  abbrev pub Sees : List Name → ℕ → Type 0
  Sees seen i = (n : Name) → Contains seen n ↔ IsSeen i n

  pub sees_none : Sees [] 0
  sees_none n = (λ h. absurd (contains_nil n h), λ h. absurd (omega arith))

  module _ (i : ℕ) (x : T) (within : i < length items) (here : x ≡ get_or items i x) (key : Name) (keyed : key ≡ name x) where
    at_here : (k : ℕ) (d : T) → k ≡ i → name (get_or items k d) ≡ key
    at_here k d e = ap (λ j. name (get_or items j d)) e ∙ ap name (get_or_default items i d x within ∙ sym here) ∙ sym keyed

    pub sees_more : (seen more : List Name) → Sees seen i →
        ((n : Name) → Contains more n ↔ (Contains seen n ⊎ (n ≡ key))) → Sees more (i + 1)
    sees_more seen more old adds n = (
      λ h. ⊎_elim
          (λ before. let k = (old n).0 before in (k.0, omega arith, k.2))
          (λ e. (i, omega arith, λ d. at_here i d refl ∙ sym e))
          ((adds n).0 h),
      λ h. (adds n).1 (⊎_elim
          (λ below. inl ((old n).1 (h.0, below, h.2)))
          (λ past. let at : h.0 ≡ i = omega arith in inr (sym (h.2 x) ∙ at_here h.0 x at))
          (cases_lt h.0 i)),
    )

    pub apart_more : (seen : List Name) → Sees seen i → (Contains seen key → ⊥) → ApartBelow i → ApartBelow (i + 1)
    apart_more seen old new apart j k d lt le same = ⊎_elim
        (λ below. apart j k d lt below same)
        (λ past.
        let at : k ≡ i = omega arith in
        let early : j < length items = omega arith in
        new ((old key).1 (j, omega arith, λ e. ap name (get_or_default items j e d early) ∙ same ∙ at_here k d at)))
        (cases_lt k i)

    pub apart_not : (seen : List Name) → Sees seen i → Contains seen key → ApartBelow (length items) → ⊥
    apart_not seen old held apart =
        let k = (old key).0 held in apart k.0 i x k.1 within (k.2 x ∙ keyed ∙ ap name here)
