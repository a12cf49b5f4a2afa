-- Joined portions are met in the order of the file.
use Rattle.std.proofs.Common.{◌≡◌, ◌≢◌, ℕ, zero, suc, ◌+◌, ◌<◌, ◌&&◌, ◌||◌, nat_eq, eq-eqb, Bool, true, false, cond, List, [], ◌∷◌, length, drop, get_or, refl, sym, ap, ◌∙◌, Some}
use Rattle.std.specs.Prelude.{slice_get, filter, map}
use Rattle.std.specs.List.{list_any}
use Rattle.std.proofs.lemmas.Bool.{and_parts, eqb-true}
use Rattle.std.proofs.lemmas.List.{drop-drop}
use Rattle.std.proofs.lemmas.List.Folds.{list_any_at}
use Rattle.std.proofs.lemmas.Option.{slice_get_within, get_or_from_slice_get}
use Rattle.xmp_base.specs.declared.file_span.FileSpan.{FileSpan}
use Rattle.jpeg_regions.specs.Jpeg.{Region, span, is_extension, portion_payloads}
use Rattle.jpeg_relocation.specs.Relocation.{same_span, is_joined}
use Rattle.jpeg_relocation.specs.Roles.{IsNext}
use Rattle.jpeg_relocation.specs.Runs.{AreAmong}
use Rattle.jpeg_relocation.proofs.Elements.{dropped, there}

pub same_is : (a b : FileSpan) → same_span a b ≡ true → a ≡ b
same_is a b h =
    let parts = and_parts (nat_eq a.start b.start) (nat_eq a.end b.end) h in
    ap (λ (n : ℕ). span n a.end) (eqb-true a.start b.start parts.0) ∙ ap (λ (n : ℕ). span b.start n) (eqb-true a.end b.end parts.1)

pub same_self : (a : FileSpan) → same_span a a ≡ true
same_self a = let e = eq-eqb a.start a.start refl in let f = eq-eqb a.end a.end refl in (λ i. e i && f i)

-- what isn't chosen is none of what is
none_chosen : (p : FileSpan → Bool) (s : FileSpan) → p s ≡ false → (xs : List FileSpan) → list_any (same_span s) (filter p xs) ≡ false
none_chosen p s h [] = refl
none_chosen p s h (x ∷ xs) = by (p x) (none_chosen p s h xs) refl
  where
    apart : (b : Bool) → same_span s x ≡ b → p x ≡ true → b ≡ false
    apart true e is = let k : true ≡ false = sym is ∙ ap p (sym (same_is s x e)) ∙ h in absurd (cc)
    apart false e is = refl

    by : (b : Bool) → list_any (same_span s) (filter p xs) ≡ false → p x ≡ b → list_any (same_span s) (cond b (x ∷ filter p xs) (filter p xs)) ≡ false
    by true rest is = let n = apart (same_span s x) refl is in (λ i. n i || rest i)
    by false rest is = rest

more : (p : FileSpan → Bool) (s x : FileSpan) (xs : List FileSpan) → list_any (same_span s) (filter p xs) ≡ true → list_any (same_span s) (filter p (x ∷ xs)) ≡ true
more p s x xs h = by (p x)
  where
    or : (b : Bool) → (b || list_any (same_span s) (filter p xs)) ≡ true
    or true = refl
    or false = h

    by : (b : Bool) → list_any (same_span s) (cond b (x ∷ filter p xs) (filter p xs)) ≡ true
    by true = or (same_span s x)
    by false = h

abbrev extensions : List Region → List Region
extensions rs = filter (λ x. is_extension x.kind) rs

one_more : (p : FileSpan → Bool) (s : FileSpan) (r : Region) (rs : List Region) → list_any (same_span s) (filter p (portion_payloads rs)) ≡ true
    → list_any (same_span s) (filter p (portion_payloads (r ∷ rs))) ≡ true
one_more p s r rs h = by (is_extension r.kind)
  where
    by : (b : Bool) → list_any (same_span s) (filter p (map (λ x. x.payload) (cond b (r ∷ extensions rs) (extensions rs)))) ≡ true
    by true = more p s r.payload (portion_payloads rs) h
    by false = h

-- a portion before others, by whether it is one and whether it is chosen
portion_first : (r : Region) (rs : List Region) → is_extension r.kind ≡ true → portion_payloads (r ∷ rs) ≡ r.payload ∷ portion_payloads rs
portion_first r rs e = by (is_extension r.kind) e
  where
    by : (b : Bool) → b ≡ true → map (λ x. x.payload) (cond b (r ∷ extensions rs) (extensions rs)) ≡ r.payload ∷ portion_payloads rs
    by true e = refl
    by false e = absurd (cc e)

no_portion : (r : Region) (rs : List Region) → is_extension r.kind ≡ false → portion_payloads (r ∷ rs) ≡ portion_payloads rs
no_portion r rs e = by (is_extension r.kind) e
  where
    by : (b : Bool) → b ≡ false → map (λ x. x.payload) (cond b (r ∷ extensions rs) (extensions rs)) ≡ portion_payloads rs
    by false e = refl
    by true e = absurd (cc e)

chosen_first : (p : FileSpan → Bool) (x : FileSpan) (xs : List FileSpan) → p x ≡ true → filter p (x ∷ xs) ≡ x ∷ filter p xs
chosen_first p x xs e = ap (λ (b : Bool). cond b (x ∷ filter p xs) (filter p xs)) e

not_chosen : (p : FileSpan → Bool) (x : FileSpan) (xs : List FileSpan) → p x ≡ false → filter p (x ∷ xs) ≡ filter p xs
not_chosen p x xs e = ap (λ (b : Bool). cond b (x ∷ filter p xs) (filter p xs)) e

-- what is chosen is found
some_chosen : (p : FileSpan → Bool) (rs : List Region) (i : ℕ) (r : Region) → slice_get rs i ≡ Some r → is_extension r.kind ≡ true → p r.payload ≡ true
    → list_any (same_span r.payload) (filter p (portion_payloads rs)) ≡ true
some_chosen p [] i r e ext is = absurd (cc e)
some_chosen p (x ∷ rs) zero r e ext is =
    let same : x ≡ r = cc e in
    let first : portion_payloads (x ∷ rs) ≡ r.payload ∷ portion_payloads rs = ap (λ y. portion_payloads (y ∷ rs)) same ∙ portion_first r rs ext in
    ap (λ l. list_any (same_span r.payload) (filter p l)) first
    ∙ ap (list_any (same_span r.payload)) (chosen_first p r.payload (portion_payloads rs) is)
    ∙ ap (λ (b : Bool). b || list_any (same_span r.payload) (filter p (portion_payloads rs))) (same_self r.payload)
some_chosen p (x ∷ rs) (suc i) r e ext is = one_more p r.payload x rs (some_chosen p rs i r e ext is)

-- the next joined portion, or none, and what follows it
module _ (joined : List FileSpan) (regions : List Region) (i portion : ℕ) (r : Region) (n : IsNext joined regions i portion) (at : slice_get regions i ≡ Some r) where
  abbrev later : List FileSpan
  later = filter n.chosen (portion_payloads (drop (i + 1) regions))

  rest : drop portion joined ≡ filter n.chosen (portion_payloads (r ∷ drop (i + 1) regions))
  rest = n.rest ∙ ap (λ rs. filter n.chosen (portion_payloads rs)) (dropped regions i r at)

  is_chosen : is_joined joined r ≡ true → n.chosen r.payload ≡ true
  is_chosen h = by (n.chosen r.payload) refl
    where
      by : (b : Bool) → n.chosen r.payload ≡ b → b ≡ true
      by true e = refl
      by false e =
          let parts = and_parts (is_extension r.kind) (list_any (same_span r.payload) joined) h in
          let k : true ≡ false = sym parts.1 ∙ ap (list_any (same_span r.payload)) n.whole ∙ none_chosen n.chosen r.payload e (portion_payloads regions) in absurd (cc)

  first : is_joined joined r ≡ true → drop portion joined ≡ r.payload ∷ later
  first h =
      let parts = and_parts (is_extension r.kind) (list_any (same_span r.payload) joined) h in
      rest ∙ ap (filter n.chosen) (portion_first r (drop (i + 1) regions) parts.0) ∙ chosen_first n.chosen r.payload (portion_payloads (drop (i + 1) regions)) (is_chosen h)

  pub next_joined : is_joined joined r ≡ true → IsNext joined regions (i + 1) (portion + 1)
  next_joined h = record {
    chosen = n.chosen;
    whole = n.whole;
    rest = sym (drop-drop 1 portion joined) ∙ ap (drop 1) (first h);
  }

  pub within : is_joined joined r ≡ true → portion < length joined
  within h = slice_get_within joined portion r.payload (there joined portion r.payload later (first h))

  other : is_joined joined r ≡ false → filter n.chosen (portion_payloads (r ∷ drop (i + 1) regions)) ≡ later
  other h = by (is_extension r.kind) refl
    where
      unchosen : is_extension r.kind ≡ true → (b : Bool) → n.chosen r.payload ≡ b → b ≡ false
      unchosen ext true e =
          let found = some_chosen n.chosen regions i r at ext e in
          let any : list_any (same_span r.payload) joined ≡ true = ap (list_any (same_span r.payload)) n.whole ∙ found in
          let k : true ≡ false = (λ j. sym ext j && sym any j) ∙ h in absurd (cc)
      unchosen ext false e = refl

      by : (b : Bool) → is_extension r.kind ≡ b → filter n.chosen (portion_payloads (r ∷ drop (i + 1) regions)) ≡ later
      by true e = ap (filter n.chosen) (portion_first r (drop (i + 1) regions) e)
          ∙ not_chosen n.chosen r.payload (portion_payloads (drop (i + 1) regions)) (unchosen e (n.chosen r.payload) refl)
      by false e = ap (filter n.chosen) (no_portion r (drop (i + 1) regions) e)

  pub next_other : is_joined joined r ≡ false → IsNext joined regions (i + 1) portion
  next_other h = record { chosen = n.chosen; whole = n.whole; rest = rest ∙ other h }

  -- the portion is joined exactly where it is the next one
  pub found : is_extension r.kind ≡ true → slice_get joined portion ≡ Some r.payload → is_joined joined r ≡ true
  found ext e =
      let is : get_or joined portion r.payload ≡ r.payload = get_or_from_slice_get joined portion r.payload r.payload e in
      let any = list_any_at (same_span r.payload) joined portion r.payload (slice_get_within joined portion r.payload e) (ap (same_span r.payload) is ∙ same_self r.payload) in
      (λ j. ext j && any j)

  pub not_found : slice_get joined portion ≢ Some r.payload → is_joined joined r ≡ false
  not_found e = by (is_joined joined r) refl
    where
      by : (b : Bool) → is_joined joined r ≡ b → b ≡ false
      by true h = absurd (e (there joined portion r.payload later (first h)))
      by false h = refl

-- All payloads, or none of them, are some of them.

filter_true : (xs : List FileSpan) → xs ≡ filter (λ x. true) xs
filter_true [] = refl
filter_true (x ∷ xs) = ap (λ l. x ∷ l) (filter_true xs)

filter_false : (xs : List FileSpan) → [] ≡ filter (λ x. false) xs
filter_false [] = refl
filter_false (x ∷ xs) = filter_false xs

pub all_among : (joined all : List FileSpan) → joined ≡ all → AreAmong joined all
all_among joined all is = record { chosen = λ x. true; is = is ∙ filter_true all }

pub none_among : (joined all : List FileSpan) → joined ≡ [] → AreAmong joined all
none_among joined all is = record { chosen = λ x. false; is = is ∙ filter_false all }
