-- A stack of declarations with its index, as one comes, goes, or is looked up.
use Rattle.std.proofs.Common.{get_or, ◌≡◌, ◌≢◌, ◌↔◌, ℕ, ◌+◌, ◌<◌, Bool, true, false, not, ◌||◌, List, [], ◌∷◌, ◌++◌, length, map, Option, Some, None, refl, sym, ap, ◌∙◌, arith}
use Rattle.std.specs.Prelude.{if◌then◌else◌, is_some, nat_le, reverse, slice_get, AllPairs, Vec}
use Rattle.std.specs.declared.alloc.Global.{Global}
use Rattle.std.specs.List.{list_any}
use Rattle.std.specs.Option.{option_map}
use Rattle.std.specs.BTreeMap.{BTreeMap}
use Rattle.std.proofs.Math.Seq.{get_or-append_seam}
use Rattle.std.proofs.lemmas.List.{get_or_append_left, length-append, length-reverse, length-map, reverse-append}
use Rattle.std.proofs.lemmas.Option.{slice_get-get_or}
use Rattle.std.proofs.lemmas.Bool.{leb-true, le-leb}
use Rattle.xmp_values.specs.declared.text.Name.{Name}
use Rattle.xmp_values.specs.Names.{named}
use Rattle.xml_grammar.specs.declared.tags.RawAttribute.{RawAttribute}
use Rattle.xmp_values.specs.Names.{same_name}
use Rattle.xml_grammar.specs.Scopes.{Binding, same_prefix, bound_to, or_nothing, attribute_space, expanded}
use Rattle.xml_grammar.specs.Nesting.{has_twice}
use Rattle.xml_grammar.proofs.Parts.{apart}
use Rattle.xml_grammar.proofs.Splits.{not_both}
use Rattle.xmp_values.proofs.SameNames.{same_name_is}
use Rattle.xml_grammar.proofs.Repeats.{same_prefix_is, fails_differ, apart_from_test, test_from_apart}
use Rattle.xmp_xml.specs.declared.places.Places.{Places}
use Rattle.xmp_xml.specs.declared.scopes.Scoped.{Scoped}
use Rattle.xmp_xml.specs.Places.{place_at}
use Rattle.xmp_xml.specs.Numbers.{mark_in}
use Rattle.xmp_xml.specs.Scopes.{scope_binding, scope_bindings, scoped_in, place_in, IsIndexed, AreMarked, mark_or_none, mark_of}
use Rattle.xmp_xml.specs.Tagging.{same_binding, same_attribute}
use Rattle.xmp_xml.proofs.Numbering.{Small, Distinct, mark_tells}

-- ---- looking up

seam : {A : Type 0} (xs : List A) (y : A) (i : ℕ) → i ≡ length xs → slice_get (xs ++ y ∷ []) i ≡ Some y
seam xs y i e =
    let long : length (xs ++ y ∷ []) ≡ length xs + 1 = length-append xs (y ∷ []) in
    slice_get-get_or (xs ++ y ∷ []) i y (omega arith) ∙ ap (λ (k : ℕ). Some (get_or (xs ++ y ∷ []) k y)) e ∙ ap Some (get_or-append_seam xs y [] y)

front : {A : Type 0} (xs : List A) (y : A) (i : ℕ) → i < length xs → slice_get (xs ++ y ∷ []) i ≡ slice_get xs i
front xs y i lt =
    let long : length (xs ++ y ∷ []) ≡ length xs + 1 = length-append xs (y ∷ []) in
    slice_get-get_or (xs ++ y ∷ []) i y (omega arith) ∙ ap Some (get_or_append_left xs (y ∷ []) y i lt) ∙ sym (slice_get-get_or xs i y lt)

place_below : (bs : List Binding) (p : Option (List ℕ)) (i : ℕ) → place_in bs p ≡ Some i → i < length bs
place_below [] p i e = absurd cc
place_below (b ∷ bs) p i e = by (same_prefix b.prefix p) e (place_below bs p i)
  where
    by : (t : Bool) → (if t then Some (length bs) else place_in bs p) ≡ Some i → (place_in bs p ≡ Some i → i < length bs) → i < length (b ∷ bs)
    by true e more = let is : length bs ≡ i = cc in omega arith
    by false e more = let k = more e in omega arith

pub place_get : (bs : List Scoped) (p : Option (List ℕ)) (i : ℕ) → place_in (scope_bindings bs) p ≡ Some i → slice_get (reverse bs) i ≡ scoped_in bs p
place_get [] p i e = absurd cc
place_get (b ∷ bs) p i e = by (same_prefix b.prefix p) e (place_get bs p i)
  where
    by : (t : Bool) → (if t then Some (length (scope_bindings bs)) else place_in (scope_bindings bs) p) ≡ Some i → (place_in (scope_bindings bs) p ≡ Some i → slice_get (reverse bs) i ≡ scoped_in bs p)
        → slice_get (reverse (b ∷ bs)) i ≡ (if t then Some b else scoped_in bs p)
    by true e more =
        let is : length (scope_bindings bs) ≡ i = cc in
        ap (λ (xs : List Scoped). slice_get xs i) (reverse-append (b ∷ []) bs) ∙ seam (reverse bs) b i (sym is ∙ length-map bs scope_binding ∙ sym (length-reverse bs))
    by false e more =
        let k = place_below (scope_bindings bs) p i e in
        let long : length (scope_bindings bs) ≡ length (reverse bs) = length-map bs scope_binding ∙ sym (length-reverse bs) in
        ap (λ (xs : List Scoped). slice_get xs i) (reverse-append (b ∷ []) bs) ∙ front (reverse bs) b i (omega arith) ∙ more e

pub place_none : (bs : List Scoped) (p : Option (List ℕ)) → place_in (scope_bindings bs) p ≡ None → scoped_in bs p ≡ None
place_none [] p e = refl
place_none (b ∷ bs) p e = by (same_prefix b.prefix p) e (place_none bs p)
  where
    by : (t : Bool) → (if t then Some (length (scope_bindings bs)) else place_in (scope_bindings bs) p) ≡ None → (place_in (scope_bindings bs) p ≡ None → scoped_in bs p ≡ None)
        → (if t then Some b else scoped_in bs p) ≡ None
    by true e more = absurd cc
    by false e more = more e

pub scoped_bound : (bs : List Scoped) (p : Option (List ℕ)) → option_map (λ (b : Scoped). b.space) (scoped_in bs p) ≡ bound_to (scope_bindings bs) p
scoped_bound [] p = refl
scoped_bound (b ∷ bs) p = by (same_prefix b.prefix p) (scoped_bound bs p)
  where
    by : (t : Bool) → option_map (λ (x : Scoped). x.space) (scoped_in bs p) ≡ bound_to (scope_bindings bs) p
        → option_map (λ (x : Scoped). x.space) (if t then Some b else scoped_in bs p) ≡ (if t then Some b.space else bound_to (scope_bindings bs) p)
    by true more = refl
    by false more = more

-- ---- one more, and one less

pub index_none : (places : Places) → ((q : Option (List ℕ)) → place_at places q ≡ None) → IsIndexed [] places
index_none places none = record { found = none; outer = tt }

pub index_more : (bs : List Scoped) (b : Scoped) (old new : Places) (place : ℕ) → IsIndexed bs old → place ≡ length bs → b.outer ≡ place_at old b.prefix
    → ((q : Option (List ℕ)) → place_at new q ≡ (if same_prefix b.prefix q then Some place else place_at old q)) → IsIndexed (b ∷ bs) new
index_more bs b old new place h at outer puts = record {
  found = λ q. puts q ∙ (λ i. if same_prefix b.prefix q then Some ((at ∙ sym (length-map bs scope_binding)) i) else h.found q i);
  outer = (outer ∙ h.found b.prefix, h.outer);
}

pub index_less : (bs : List Scoped) (b : Scoped) (old new : Places) → IsIndexed (b ∷ bs) old
    → ((q : Option (List ℕ)) → place_at new q ≡ (if same_prefix b.prefix q then b.outer else place_at old q)) → IsIndexed bs new
index_less bs b old new h puts = record {
  found = λ q. puts q ∙ by q (same_prefix b.prefix q) refl (h.found q);
  outer = h.outer.1;
}
  where
    by : (q : Option (List ℕ)) (t : Bool) → same_prefix b.prefix q ≡ t → place_at old q ≡ (if t then Some (length (scope_bindings bs)) else place_in (scope_bindings bs) q)
        → (if t then b.outer else place_at old q) ≡ place_in (scope_bindings bs) q
    by q true same e = h.outer.0 ∙ ap (place_in (scope_bindings bs)) ((same_prefix_is b.prefix q).0 same)
    by q false same e = e

pub marked_more : (bs : List Scoped) (old new : BTreeMap (Vec ℕ Global) ℕ) → ((q t : List ℕ) → mark_in old q ≡ Some t → mark_in new q ≡ Some t) → AreMarked bs old → AreMarked bs new
marked_more [] old new keeps h = tt
marked_more (b ∷ bs) old new keeps h = (keeps b.space b.mark h.0, marked_more bs old new keeps h.1)

-- ---- inside the outermost

pub inside_some : (inside outer : List Binding) (p : Option (List ℕ)) (i : ℕ) → place_in (inside ++ outer) p ≡ Some i → nat_le (length outer) i ≡ is_some (bound_to inside p)
inside_some [] outer p i e = let k = place_below outer p i e in apart (nat_le (length outer) i) (λ le. omega (arith, k, leb-true (length outer) i le))
inside_some (b ∷ inside) outer p i e = by (same_prefix b.prefix p) e (inside_some inside outer p i)
  where
    by : (t : Bool) → (if t then Some (length (inside ++ outer)) else place_in (inside ++ outer) p) ≡ Some i → (place_in (inside ++ outer) p ≡ Some i → nat_le (length outer) i ≡ is_some (bound_to inside p))
        → nat_le (length outer) i ≡ is_some (if t then Some b.space else bound_to inside p)
    by true e more =
        let is : length (inside ++ outer) ≡ i = cc in
        let long = length-append inside outer in
        le-leb (length outer) i (omega (arith, is, long))
    by false e more = more e

pub inside_none : (inside outer : List Binding) (p : Option (List ℕ)) → place_in (inside ++ outer) p ≡ None → false ≡ is_some (bound_to inside p)
inside_none [] outer p e = refl
inside_none (b ∷ inside) outer p e = by (same_prefix b.prefix p) e (inside_none inside outer p)
  where
    by : (t : Bool) → (if t then Some (length (inside ++ outer)) else place_in (inside ++ outer) p) ≡ None → (place_in (inside ++ outer) p ≡ None → false ≡ is_some (bound_to inside p))
        → false ≡ is_some (if t then Some b.space else bound_to inside p)
    by true e more = absurd cc
    by false e more = more e

-- ---- a prefix bound twice

prefix_turned : (p q : Option (List ℕ)) → same_prefix p q ≡ same_prefix q p
prefix_turned p q = by (same_prefix p q) (same_prefix q p) refl refl
  where
    by : (t u : Bool) → same_prefix p q ≡ t → same_prefix q p ≡ u → t ≡ u
    by true true e f = refl
    by false false e f = refl
    by true false e f = absurd (not_both (same_prefix q p) ((same_prefix_is q p).1 (sym ((same_prefix_is p q).0 e))) f)
    by false true e f = absurd (not_both (same_prefix p q) ((same_prefix_is p q).1 (sym ((same_prefix_is q p).0 f))) e)

any_bound : (b : Binding) (bs : List Binding) → is_some (bound_to bs b.prefix) ≡ list_any (same_binding b) bs
any_bound b [] = refl
any_bound b (c ∷ bs) = by (same_prefix c.prefix b.prefix) (same_binding b c) (prefix_turned c.prefix b.prefix) (any_bound b bs)
  where
    by : (t u : Bool) → t ≡ u → is_some (bound_to bs b.prefix) ≡ list_any (same_binding b) bs → is_some (if t then Some c.space else bound_to bs b.prefix) ≡ (u || list_any (same_binding b) bs)
    by true true e more = refl
    by false false e more = more
    by true false e more = absurd cc
    by false true e more = absurd cc

pub twice_more : (b : Binding) (bs : List Binding) (found twice : Bool) → found ≡ is_some (bound_to bs b.prefix) → twice ≡ has_twice same_binding bs → (found || twice) ≡ has_twice same_binding (b ∷ bs)
twice_more b bs found twice e f = λ i. (e ∙ any_bound b bs) i || f i

-- ---- names told apart by marks

-- a name with the mark in the namespace's place
abbrev pub marked_name : List Scoped → RawAttribute → Name
marked_name bs a = named (mark_of bs a.name.prefix) a.name.local

module _ (bs : List Scoped) (m : BTreeMap (Vec ℕ Global) ℕ) (marked : AreMarked bs m) (small : Small m) (distinct : Distinct m) where
  -- a namespace has the mark of its prefix
  found_mark : (p : Option (List ℕ)) → (cs : List Scoped) → AreMarked cs m → mark_in m (or_nothing (option_map (λ (b : Scoped). b.space) (scoped_in cs p))) ≡ Some (mark_or_none (scoped_in cs p))
  found_mark p [] h = refl
  found_mark p (c ∷ cs) h = by (same_prefix c.prefix p) (found_mark p cs h.1)
    where
      by : (t : Bool) → mark_in m (or_nothing (option_map (λ (b : Scoped). b.space) (scoped_in cs p))) ≡ Some (mark_or_none (scoped_in cs p))
          → mark_in m (or_nothing (option_map (λ (b : Scoped). b.space) (if t then Some c else scoped_in cs p))) ≡ Some (mark_or_none (if t then Some c else scoped_in cs p))
      by true more = h.0
      by false more = more

  mark_is : (p : Option (List ℕ)) → mark_in m (attribute_space (scope_bindings bs) p) ≡ Some (mark_of bs p)
  mark_is None = refl
  mark_is (Some p) = ap (λ (o : Option (List ℕ)). mark_in m (or_nothing o)) (sym (scoped_bound bs (Some p))) ∙ found_mark (Some p) bs marked

  abbrev name_of : RawAttribute → Name
  name_of a = (expanded (scope_bindings bs) a).name

  some_is : (x y : List ℕ) → Some x ≡ Some y → x ≡ y
  some_is x y e = cc

  names_tie : (a b : RawAttribute) → (name_of a ≡ name_of b) ↔ (marked_name bs a ≡ marked_name bs b)
  names_tie a b = (
    λ e. let same = some_is (mark_of bs a.name.prefix) (mark_of bs b.name.prefix) (sym (mark_is a.name.prefix) ∙ ap (mark_in m) (ap (λ (n : Name). n.space) e) ∙ mark_is b.name.prefix) in
        λ i. named (same i) (ap (λ (n : Name). n.local) e i),
    λ e. let same = mark_tells m small distinct (attribute_space (scope_bindings bs) a.name.prefix) (attribute_space (scope_bindings bs) b.name.prefix) (mark_of bs b.name.prefix)
        (mark_is a.name.prefix ∙ ap (λ (n : Name). Some n.space) e) (mark_is b.name.prefix) in
        λ i. record { space = same i; local = ap (λ (n : Name). n.local) e i },
  )

  abbrev same_plain : RawAttribute → RawAttribute → Bool
  same_plain a b = same_name (name_of a) (name_of b)

  tells : (a b : RawAttribute) → (same_plain a b ≡ false) ↔ (marked_name bs a ≢ marked_name bs b)
  tells a b =
      let names = same_name_is (name_of a) (name_of b) in
      fails_differ Name (same_plain a b) (marked_name bs a) (marked_name bs b) (λ e. (names_tie a b).0 (names.0 e), λ e. names.1 ((names_tie a b).1 e))

  any_expanded : (a : RawAttribute) (xs : List RawAttribute) → list_any (same_attribute (expanded (scope_bindings bs) a)) (map (expanded (scope_bindings bs)) xs) ≡ list_any (same_plain a) xs
  any_expanded a [] = refl
  any_expanded a (x ∷ xs) = ap (λ (t : Bool). same_plain a x || t) (any_expanded a xs)

  twice_expanded : (xs : List RawAttribute) → has_twice same_attribute (map (expanded (scope_bindings bs)) xs) ≡ has_twice same_plain xs
  twice_expanded [] = refl
  twice_expanded (x ∷ xs) = λ i. any_expanded x xs i || twice_expanded xs i

  pub all_apart : (xs : List RawAttribute) → AllPairs (λ a b. marked_name bs a ≢ marked_name bs b) xs → true ≡ not (has_twice same_attribute (map (expanded (scope_bindings bs)) xs))
  all_apart xs h = sym (ap not (twice_expanded xs ∙ test_from_apart RawAttribute same_plain (λ a b. marked_name bs a ≢ marked_name bs b) tells xs h))

  pub not_apart : (xs : List RawAttribute) → (AllPairs (λ a b. marked_name bs a ≢ marked_name bs b) xs → ⊥) → false ≡ not (has_twice same_attribute (map (expanded (scope_bindings bs)) xs))
  not_apart xs h = by (has_twice same_plain xs) refl
    where
      by : (t : Bool) → has_twice same_plain xs ≡ t → false ≡ not (has_twice same_attribute (map (expanded (scope_bindings bs)) xs))
      by true e = sym (ap not (twice_expanded xs ∙ e))
      by false e = absurd (h (apart_from_test RawAttribute same_plain (λ a b. marked_name bs a ≢ marked_name bs b) tells xs e))
