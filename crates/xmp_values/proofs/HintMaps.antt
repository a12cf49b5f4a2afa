-- Maps over a list of hints, as they grow.
use Rattle.std.proofs.Common.{◌≡◌, ℕ, ◌+◌, ◌<◌, length, drop, get_or, Bool, true, false, cond, ◌||◌, List, [], ◌∷◌, Bor, Option, Some, None, refl, sym, ap, ◌∙◌}
use Rattle.std.specs.Prelude.{is_some}
use Rattle.std.specs.Option.{option_copied}
use Rattle.std.specs.Str.{bytes_eq}
use Rattle.std.specs.BTreeMap.{BTreeMap, UpdatesBy}
use Rattle.std.proofs.lemmas.List.{drop_more}
use Rattle.std.proofs.lemmas.Map.Text.{btree_map_updates_str}
use Rattle.xmp_values.specs.declared.hints.Hint.{Hint}
use Rattle.xmp_values.specs.Hints.{space_in, has_prefix}
use Rattle.xmp_values.specs.Texts.{text_in}
use Rattle.xmp_values.specs.HintMaps.{HasPrefixes, HasSpaces}
use Rattle.xmp_values.proofs.TextPlaces.{key_cmp, bytes_eq-sym}

copied_here : (here : Bool) (value : Bor (List ℕ)) (rest : Option (Bor (List ℕ))) → option_copied (cond here (Some value) rest) ≡ cond here (Some value.now) (option_copied rest)
copied_here true value rest = refl
copied_here false value rest = refl

-- a text put over those that a map has
put_over : (of is : List ℕ) (key value : Bor (List ℕ)) (old new : BTreeMap (Bor (List ℕ)) (Bor (List ℕ))) → key.now ≡ of → value.now ≡ is
    → UpdatesBy key_cmp (key_cmp key) old new (Some value) → (text : List ℕ) → option_copied (text_in new text) ≡ cond (bytes_eq text of) (Some is) (option_copied (text_in old text))
put_over of is key value old new keyed valued updates text =
    ap option_copied (btree_map_updates_str key.now old new (Some value) updates text)
    ∙ copied_here (bytes_eq key.now text) value (text_in old text)
    ∙ ap (λ here. cond here (Some value.now) (option_copied (text_in old text))) (bytes_eq-sym key.now text ∙ ap (bytes_eq text) keyed)
    ∙ ap (λ found. cond (bytes_eq text of) (Some found) (option_copied (text_in old text))) valued

-- a hint put over those after it
module _ (h : Hint) (rest : List Hint) (key value : Bor (List ℕ)) (old new : BTreeMap (Bor (List ℕ)) (Bor (List ℕ))) where
  pub prefixes_before : key.now ≡ h.space → value.now ≡ h.prefix → HasPrefixes old rest → UpdatesBy key_cmp (key_cmp key) old new (Some value) → HasPrefixes new (h ∷ rest)
  prefixes_before keyed valued has updates text =
      put_over h.space h.prefix key value old new keyed valued updates text ∙ ap (cond (bytes_eq text h.space) (Some h.prefix)) (has text)

  pub spaces_before : key.now ≡ h.prefix → value.now ≡ h.space → HasSpaces old rest → UpdatesBy key_cmp (key_cmp key) old new (Some value) → HasSpaces new (h ∷ rest)
  spaces_before keyed valued has updates text =
      put_over h.prefix h.space key value old new keyed valued updates text ∙ ap (cond (bytes_eq text h.prefix) (Some h.space)) (has text)

-- one hint more of a list, from its end
pub hint_drop : (list : List Hint) (i : ℕ) (hint : Hint) → i < length list → hint ≡ get_or list i hint → (j : ℕ) → j ≡ i + 1 → drop i list ≡ hint ∷ drop j list
hint_drop list i hint within here j next = drop_more list i hint within ∙ ap (λ h. h ∷ drop (i + 1) list) (sym here) ∙ ap (λ k. hint ∷ drop k list) (sym next)

some_here : (b any : Bool) (space : List ℕ) (rest : Option (List ℕ)) → is_some rest ≡ any → is_some (cond b (Some space) rest) ≡ (b || any)
some_here true any space rest e = refl
some_here false any space rest e = e

-- a hint has a prefix exactly where the prefix has a namespace
prefix_is_had : (hs : List Hint) (prefix : List ℕ) → is_some (space_in hs prefix) ≡ has_prefix hs prefix
prefix_is_had [] prefix = refl
prefix_is_had (h ∷ hs) prefix = some_here (bytes_eq prefix h.prefix) (has_prefix hs prefix) h.space (space_in hs prefix) (prefix_is_had hs prefix)

copied_is : (o : Option (Bor (List ℕ))) → is_some o ≡ is_some (option_copied o)
copied_is (Some space) = refl
copied_is None = refl

-- the same of a namespace that a reference points to
pub is_had : (o : Option (Bor (List ℕ))) (hs : List Hint) (prefix : List ℕ) → option_copied o ≡ space_in hs prefix → is_some o ≡ has_prefix hs prefix
is_had o hs prefix e = copied_is o ∙ ap (λ o. is_some o) e ∙ prefix_is_had hs prefix
