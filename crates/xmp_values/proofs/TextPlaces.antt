-- The places of texts in a list that grows at its end.
use Rattle.std.proofs.Common.{◌≡◌, ℕ, ◌+◌, ◌<◌, Bool, true, false, cond, ◌||◌, List, [], ◌∷◌, ◌++◌, length, Bor, Option, Some, None, refl, sym, ap, ◌∙◌, add-zero, zero-add, arith}
use Rattle.std.specs.Prelude.{is_some, if◌then◌else◌}
use Rattle.std.specs.List.{list_any, position_from}
use Rattle.std.specs.Option.{unwrap_or}
use Rattle.std.specs.Str.{bytes_eq}
use Rattle.std.specs.declared.cmp.Ordering.{Ordering}
use Rattle.std.specs.Ordering.{nat_cmp}
use Rattle.std.specs.Cmp.Lexicographic.{slice_cmp}
use Rattle.std.specs.BTreeMap.{BTreeMap, UpdatesBy}
use Rattle.std.proofs.lemmas.Bool.Decides.{same_from_decides}
use Rattle.std.proofs.lemmas.List.{map-append, length-map}
use Rattle.std.proofs.lemmas.List.Folds.{list_any-append}
use Rattle.std.proofs.lemmas.Map.Text.{btree_map_updates_str}
use Rattle.std.proofs.lemmas.Slice.Eq.{bytes_eq-Decides}
use Rattle.xmp_values.specs.Texts.{with_text, texts_of, text_in, place_in, HasPlaces, IsPlaced}

abbrev pub key_cmp : Bor (List ℕ) → Bor (List ℕ) → Ordering
key_cmp x y = slice_cmp nat_cmp x.now y.now

pub bytes_eq-sym : (xs ys : List ℕ) → bytes_eq xs ys ≡ bytes_eq ys xs
bytes_eq-sym xs ys =
    let there = bytes_eq-Decides xs ys in
    let back = bytes_eq-Decides ys xs in
    same_from_decides (bytes_eq xs ys) (bytes_eq ys xs) there (λ h. sym (back.0 h), λ e. back.1 (sym e))

some_here : (b any : Bool) (at : ℕ) (rest : Option ℕ) → is_some rest ≡ any → is_some (cond b (Some at) rest) ≡ (b || any)
some_here true any at rest e = refl
some_here false any at rest e = e

-- a text is there exactly where it has a place
pub is_some-place : (p : List ℕ → Bool) (at : ℕ) (texts : List (List ℕ)) → is_some (position_from p at texts) ≡ list_any p texts
is_some-place p at [] = refl
is_some-place p at (x ∷ xs) = some_here (p x) (list_any p xs) at (position_from p (at + 1) xs) (is_some-place p (at + 1) xs)

-- the first of two places that is there
abbrev or_place : Option ℕ → Option ℕ → Option ℕ
or_place (Some at) other = Some at
or_place None other = other

place_here : (b : Bool) (at : ℕ) (all rest other : Option ℕ) → all ≡ or_place rest other → cond b (Some at) all ≡ or_place (cond b (Some at) rest) other
place_here true at all rest other e = refl
place_here false at all rest other e = e

-- the place in a list with one text more
place_more : (p : List ℕ → Bool) (at : ℕ) (xs : List (List ℕ)) (y : List ℕ)
    → position_from p at (xs ++ y ∷ []) ≡ or_place (position_from p at xs) (cond (p y) (Some (at + length xs)) None)
place_more p at [] y = ap (λ n. cond (p y) (Some n) None) (sym (add-zero at))
place_more p at (x ∷ xs) y =
    let next : (at + 1) + length xs ≡ at + length (x ∷ xs) = omega arith in
    place_here (p x) at (position_from p (at + 1) (xs ++ y ∷ [])) (position_from p (at + 1) xs) (cond (p y) (Some (at + length (x ∷ xs))) None)
    (place_more p (at + 1) xs y ∙ ap (λ n. or_place (position_from p (at + 1) xs) (cond (p y) (Some n) None)) next)

at_text : (b : Bool) (at : ℕ) (old : Option ℕ) → (b ≡ true → old ≡ None) → cond b (Some at) old ≡ or_place old (cond b (Some at) None)
at_text true at old new = sym (ap (λ o. or_place o (Some at)) (new refl))
at_text false at None new = refl
at_text false at (Some place) new = refl

-- a map with the place of one text more
pub places_more : (key : Bor (List ℕ)) (keys more : List (Bor (List ℕ))) (place : ℕ) (old new : BTreeMap (Bor (List ℕ)) ℕ) → HasPlaces old (texts_of keys)
    → place ≡ length keys → text_in old key.now ≡ None → IsPlaced old new key.now place → more ≡ keys ++ key ∷ [] → HasPlaces new (texts_of more)
places_more key keys more place old new has last absent placed put text =
    let texts = texts_of keys in
    let p = bytes_eq text in
    let free : p key.now ≡ true → text_in old text ≡ None = λ h. ap (text_in old) ((bytes_eq-Decides text key.now).0 h) ∙ absent in
    let at : place ≡ 0 + length texts = last ∙ sym (length-map keys (λ t. t.now)) ∙ sym (zero-add (length texts)) in
    placed text
    ∙ ap (λ b. cond b (Some place) (text_in old text)) (bytes_eq-sym key.now text)
    ∙ at_text (p key.now) place (text_in old text) free
    ∙ ap (λ o. or_place o (cond (p key.now) (Some place) None)) (has text)
    ∙ ap (λ n. or_place (position_from p 0 texts) (cond (p key.now) (Some n) None)) at
    ∙ sym (place_more p 0 texts key.now)
    ∙ ap (λ ts. place_in ts text) (sym (map-append (λ t. t.now) keys (key ∷ [])) ∙ ap texts_of (sym put))

-- a place is below the end
place_below : (p : List ℕ → Bool) (at : ℕ) (texts : List (List ℕ)) (place : ℕ) → position_from p at texts ≡ Some place → place < at + length texts
place_below p at [] place found = absurd cc
place_below p at (x ∷ xs) place found = by (place_below p (at + 1) xs place) (p x) found
  where
    by : (position_from p (at + 1) xs ≡ Some place → place < (at + 1) + length xs) → (b : Bool) → cond b (Some at) (position_from p (at + 1) xs) ≡ Some place
        → place < at + length (x ∷ xs)
    by more true is = let same : at ≡ place = cc in omega (arith, same)
    by more false is = let rest = more is in omega (arith, rest)

none_there : (o : Option ℕ) → is_some o ≡ false → o ≡ None
none_there None e = refl
none_there (Some place) e = absurd cc

-- What a set tells of a text, by the map of its places.
module _ (text : List ℕ) (places : BTreeMap (Bor (List ℕ)) ℕ) (keys : List (Bor (List ℕ))) (seen : List (List ℕ)) (view : texts_of keys ≡ seen) (has : HasPlaces places (texts_of keys)) where
  pub is_there : (there : Bool) → there ≡ is_some (text_in places text) → there ≡ list_any (bytes_eq text) seen
  is_there there e = e ∙ ap (λ place. is_some place) (has text) ∙ is_some-place (bytes_eq text) 0 (texts_of keys) ∙ ap (list_any (bytes_eq text)) view

  pub isnt_there : (there : Bool) → there ≡ is_some (text_in places text) → there ≡ false → text_in places text ≡ None
  isnt_there there e false_is = none_there (text_in places text) (sym e ∙ false_is)

  -- the set with a text that is there, and with one that is new
  pub with_there : (there : Bool) → there ≡ is_some (text_in places text) → there ≡ true → seen ≡ with_text seen text
  with_there there e true_is = sym (ap (λ b. if b then seen else seen ++ text ∷ []) (sym (is_there there e) ∙ true_is))

  pub with_new : (there : Bool) → there ≡ is_some (text_in places text) → there ≡ false → (key : Bor (List ℕ)) (more : List (Bor (List ℕ))) → key.now ≡ text
      → more ≡ keys ++ key ∷ [] → texts_of more ≡ with_text seen text
  with_new there e false_is key more keyed put =
      ap texts_of put ∙ map-append (λ t. t.now) keys (key ∷ []) ∙ ap (λ ts. ts ++ key.now ∷ []) view ∙ ap (λ t. seen ++ t ∷ []) keyed
      ∙ sym (ap (λ b. if b then seen else seen ++ text ∷ []) (sym (is_there there e) ∙ false_is))

-- What the place that a map tells of a text, or the end where it has none, tells of the text.
module _ (key : Bor (List ℕ)) (old new : BTreeMap (Bor (List ℕ)) ℕ) (keys : List (Bor (List ℕ))) (has : HasPlaces old (texts_of keys)) (place : ℕ)
    (told : place ≡ unwrap_or (text_in old key.now) (length keys)) (placed : IsPlaced old new key.now place) where
  pub found : place < length keys → text_in old key.now ≡ Some place
  found below = by (text_in old key.now) refl
    where
      by : (o : Option ℕ) → text_in old key.now ≡ o → text_in old key.now ≡ Some place
      by (Some at) is = is ∙ ap (λ (n : ℕ). let o : Option ℕ = Some n in o) (sym (told ∙ ap (λ (o : Option ℕ). unwrap_or o (length keys)) is))
      by None is = let last : place ≡ length keys = told ∙ ap (λ (o : Option ℕ). unwrap_or o (length keys)) is in absurd (omega (arith, last, below))

  pub missed : (place < length keys → ⊥) → (text_in old key.now ≡ None) × (place ≡ length keys)
  missed above = by (text_in old key.now) refl
    where
      by : (o : Option ℕ) → text_in old key.now ≡ o → (text_in old key.now ≡ None) × (place ≡ length keys)
      by None is = (is, told ∙ ap (λ (o : Option ℕ). unwrap_or o (length keys)) is)
      by (Some at) is =
          let same : place ≡ at = told ∙ ap (λ (o : Option ℕ). unwrap_or o (length keys)) is in
          let below = place_below (bytes_eq key.now) 0 (texts_of keys) at (sym (has key.now) ∙ is) in
          let size = length-map keys (λ t. t.now) in
          absurd (above (omega (arith, same, below, size)))

  -- nothing changes where the text is there
  pub same_places : place < length keys → HasPlaces new (texts_of keys)
  same_places below text = placed text ∙ by (bytes_eq key.now text) refl
    where
      by : (b : Bool) → bytes_eq key.now text ≡ b → cond b (Some place) (text_in old text) ≡ place_in (texts_of keys) text
      by true is = sym (ap (text_in old) (sym ((bytes_eq-Decides key.now text).0 is)) ∙ found below) ∙ has text
      by false is = has text

  -- nor where a new text is taken away again
  pub restored : (last : BTreeMap (Bor (List ℕ)) ℕ) → (place < length keys → ⊥) → UpdatesBy key_cmp (key_cmp key) new last None → HasPlaces last (texts_of keys)
  restored last above updates text = btree_map_updates_str key.now new last None updates text ∙ by (bytes_eq key.now text) refl
    where
      by : (b : Bool) → bytes_eq key.now text ≡ b → cond b None (text_in new text) ≡ place_in (texts_of keys) text
      by true is = sym (ap (text_in old) (sym ((bytes_eq-Decides key.now text).0 is)) ∙ (missed above).0) ∙ has text
      by false is = placed text ∙ ap (λ (b : Bool). cond b (Some place) (text_in old text)) is ∙ has text

-- a text that is put in is among the texts, and no other is new
pub list_any-with_text : (texts : List (List ℕ)) (text space : List ℕ) → list_any (bytes_eq space) (with_text texts text) ≡ (list_any (bytes_eq space) texts || (bytes_eq space text || false))
list_any-with_text texts text space = by (list_any (bytes_eq text) texts) refl
  where
    one : (b : Bool) → bytes_eq space text ≡ b → list_any (bytes_eq text) texts ≡ true → list_any (bytes_eq space) texts ≡ (list_any (bytes_eq space) texts || (b || false))
    one true is there =
        let same : space ≡ text = (bytes_eq-Decides space text).0 is in
        let here : list_any (bytes_eq space) texts ≡ true = ap (λ (t : List ℕ). list_any (bytes_eq t) texts) same ∙ there in
        here ∙ sym (ap (λ (b : Bool). b || true) here)
    one false is there = plain (list_any (bytes_eq space) texts)
      where
        plain : (b : Bool) → b ≡ (b || false)
        plain true = refl
        plain false = refl

    by : (b : Bool) → list_any (bytes_eq text) texts ≡ b → list_any (bytes_eq space) (cond b texts (texts ++ text ∷ [])) ≡ (list_any (bytes_eq space) texts || (bytes_eq space text || false))
    by true there = one (bytes_eq space text) refl there
    by false there = list_any-append (bytes_eq space) texts (text ∷ [])
