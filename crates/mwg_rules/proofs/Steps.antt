-- One property after another.
use Rattle.std.proofs.Common.{◌≡◌, ◌∙◌, ℕ, zero, suc, ◌+◌, ◌<◌, ◌≤◌, List, [], ◌∷◌, ◌++◌, length, get_or, take, drop, map, Option, refl, sym, ap, arith}
use Rattle.std.specs.Prelude.{flat_map, slice_get}
use Rattle.std.specs.List.{remove}
use Rattle.std.proofs.lemmas.List.{drop-drop, drop_more, get_or-map, map_push, take_all, take_more}
use Rattle.xmp_tree.specs.declared.nested.Member.{Member}
use Rattle.mwg_rules.specs.declared.choices.Choice.{Choice}
use Rattle.mwg_rules.specs.declared.properties.Property.{Property}
use Rattle.mwg_rules.specs.declared.properties.Property.TheVariants.{Description}
use Rattle.irb_iptc.specs.Datasets.{Field}
use Rattle.irb_iptc.specs.Fields.{fields_of}
use Rattle.mwg_rules.specs.Properties.{number_of, properties}
use Rattle.mwg_rules.specs.Sources.{Texts}
use Rattle.mwg_rules.specs.Reconciled.{chosen, put, put_all, texts_of}

twelve : length properties ≡ 12
unfolding properties
twelve = refl

abbrev pub property_at : ℕ → Property
property_at i = get_or properties i Description

flat_map-push : {X : Type 0} (f : X → List ℕ) (xs : List X) (x : X) → flat_map f (xs ++ x ∷ []) ≡ flat_map f xs ++ f x
flat_map-push f [] x = Rattle.std.proofs.lemmas.List.append-nil (f x)
flat_map-push f (y ∷ ys) x = ap (λ (l : List ℕ). f y ++ l) (flat_map-push f ys x) ∙ sym (Rattle.std.proofs.Common.append_assoc (f y) (flat_map f ys) (f x))

pub map_one_more : {X : Type 0} (f : Property → X) (i : ℕ) → i < 12 → map f (take (i + 1) properties) ≡ map f (take i properties) ++ f (property_at i) ∷ []
map_one_more f i h = ap (map f) (take_more properties i Description (omega (arith, twelve))) ∙ map_push f (take i properties) (property_at i)

pub flat_map_one_more : (f : Property → List ℕ) (i : ℕ) → i < 12 → flat_map f (take (i + 1) properties) ≡ flat_map f (take i properties) ++ f (property_at i)
flat_map_one_more f i h = ap (flat_map f) (take_more properties i Description (omega (arith, twelve))) ∙ flat_map-push f (take i properties) (property_at i)

pub take_whole : (i : ℕ) → 12 ≤ i → take i properties ≡ properties
take_whole i h = take_all i properties (omega (arith, twelve))

pub drop_past : (i : ℕ) → 12 ≤ i → drop i properties ≡ []
drop_past i h = Rattle.std.proofs.lemmas.List.nil_from_length (drop i properties) (omega (arith, twelve, Rattle.std.proofs.lemmas.List.length-drop i properties))

pub put_all-step : (cs : List (Option Choice)) (ms new : List Member) (i : ℕ) (o : Option Texts) → i < 12 → texts_of (chosen cs (property_at i)) ≡ o → new ≡ put (property_at i) o ms
    → put_all (drop (i + 1) properties) cs new ≡ put_all (drop i properties) cs ms
put_all-step cs ms new i o h is made =
    ap (put_all (drop (i + 1) properties) cs) (made ∙ ap (λ x. put (property_at i) x ms) (sym is))
    ∙ ap (λ ps. put_all ps cs ms) (sym (drop_more properties i Description (omega (arith, twelve))))

abbrev counted : ℕ → ℕ → List ℕ
counted from zero = []
counted from (suc n) = from ∷ counted (from + 1) n

counted-at : (from n i d : ℕ) → i < n → get_or (counted from n) i d ≡ from + i
counted-at from zero i d h = absurd (omega arith)
counted-at from (suc n) zero d h = let e : from ≡ from + 0 = omega arith in e
counted-at from (suc n) (suc i) d h =
    let e : (from + 1) + i ≡ from + suc i = omega arith in
    counted-at (from + 1) n i d (omega arith) ∙ e

in_order : map number_of properties ≡ counted 0 12
unfolding properties
in_order = refl

-- the properties stand in the order of their numbers
pub number_at : (i : ℕ) → i < 12 → number_of (property_at i) ≡ i
number_at i h =
    let same : 0 + i ≡ i = omega arith in
    sym (get_or-map number_of properties i Description 0 (omega (arith, twelve))) ∙ ap (λ ns. get_or ns i 0) in_order ∙ counted-at 0 12 i 0 h ∙ same

pub fields-length : (fs : List Field) → length (fields_of fs) ≡ 12
unfolding fields_of
fields-length fs = refl

-- the first of those that are left
pub first_left : {X : Type 0} (xs : List X) (i : ℕ) → slice_get (drop i xs) 0 ≡ slice_get xs i
first_left [] zero = refl
first_left [] (suc i) = refl
first_left (x ∷ xs) zero = refl
first_left (x ∷ xs) (suc i) = first_left xs i

-- and those after it
pub rest_left : {X : Type 0} (xs : List X) (i : ℕ) → remove (drop i xs) 0 ≡ drop (i + 1) xs
rest_left xs i = drop-drop 1 i xs
