-- The place of a language is that of its lower case; what a map has of it stays so as items are added and replaced.
use Rattle.std.proofs.Common.{◌≡◌, ◌∙◌, ℕ, suc, length, Bool, true, false, cond, List, [], ◌∷◌, ◌++◌, Option, Some, None, refl, sym, ap, subst, arith}
use Rattle.std.specs.Prelude.{slice_get, slice_set, option_map, is_some, position, nat_lt, Vec, Result, Ok, Err}
use Rattle.std.specs.Option.{option_or}
use Rattle.std.specs.List.{position_or_len}
use Rattle.std.specs.Str.{bytes_eq, str_eq_ignore_ascii_case}
use Rattle.std.specs.declared.alloc.Global.{Global}
use Rattle.std.specs.Map.{lookup}
use Rattle.std.specs.Ordering.{is_eq, nat_cmp}
use Rattle.std.specs.Cmp.Lexicographic.{slice_cmp, bytes_decides}
use Rattle.std.specs.BTreeMap.{BTreeMap, UpdatesBy, get, is_at}
use Rattle.std.proofs.lemmas.Bool.Decides.{nat_tests}
use Rattle.std.proofs.lemmas.List.{length-set}
use Rattle.std.proofs.lemmas.List.Folds.{position_or_len-set}
use Rattle.std.proofs.lemmas.Map.Text.{is_eq-slice_cmp}
use Rattle.std.proofs.lemmas.Option.{none-some, get_or_from_slice_get}
use Rattle.xmp_values.specs.declared.rules.Rule.{Rule}
use Rattle.xmp_tree.specs.declared.nested.Value.{Value, out-Value, out-roll-Value}
use Rattle.xmp_tree.specs.declared.nested.Member.{Member}
use Rattle.xmp_tree.specs.declared.nested.Shape.{Shape, Shape-F, out-Shape, Simple}
use Rattle.xmp_tree.specs.declared.nested.Shape.TheOpen as layer
use denote.Hole.Carrier.{out}
use Rattle.xmp_tree.specs.Parts.{member, value, simple}
use Rattle.xmp_tree.specs.Wf.{name_of, value_of, lang_name}
use Rattle.xmp_tree.specs.Items.{item_put}
use Rattle.xmp_tree.specs.Places.{same_name, text_of, lang_in, lang_of, is_tag, tag_place}
use Rattle.xmp_tree.proofs.Made.{name-member, value-member}
use Rattle.xmp_tree.proofs.PlaceLemmas.{same_name_is}
use Rattle.xmp_edit.specs.Actions.{set_leaf, leaf_put, spoken, is_default, said}
use Rattle.xmp_edit.specs.Edits.{ok_map, item_at}
use Rattle.xmp_edit.specs.Languages.{lower, is_lower, lower_place, lower_cmp, HasLanguages, LanguagesMore, AddsLanguage}

different_bools : true ≡ false → ⊥
different_bools e = cc

-- Positions, from the front.
position-next : {X : Type 0} (p : X → Bool) (x : X) (xs : List X) → position p (x ∷ xs) ≡ cond (p x) (Some 0) (option_map (λ i. suc i) (position p xs))
position-next p x xs = grind (arith, nat_tests)

position-same : {X : Type 0} (p q : X → Bool) → ((x : X) → p x ≡ q x) → (xs : List X) → position p xs ≡ position q xs
position-same p q same [] = refl
position-same p q same (x ∷ xs) =
    position-next p x xs
    ∙ ap (λ b. cond b (Some 0) (option_map (λ i. suc i) (position p xs))) (same x)
    ∙ ap (λ o. cond (q x) (Some 0) (option_map (λ i. suc i) o)) (position-same p q same xs)
    ∙ sym (position-next q x xs)

position-push : {X : Type 0} (p : X → Bool) (xs : List X) (y : X) → position p (xs ++ y ∷ []) ≡ option_or (position p xs) (cond (p y) (Some (length xs)) None)
position-push p [] y = by (p y) refl
  where
    by : (b : Bool) → p y ≡ b → position p (y ∷ []) ≡ cond (p y) (Some 0) None
    by b is = position-next p y []
position-push p (x ∷ xs) y =
    position-next p x (xs ++ y ∷ [])
    ∙ ap (λ o. cond (p x) (Some 0) (option_map (λ i. suc i) o)) (position-push p xs y)
    ∙ by (p x) (p y) (position p xs)
    ∙ ap (λ o. option_or o (cond (p y) (Some (length (x ∷ xs))) None)) (sym (position-next p x xs))
  where
    by : (b c : Bool) (o : Option ℕ) →
        cond b (Some 0) (option_map (λ i. suc i) (option_or o (cond c (Some (length xs)) None)))
        ≡ option_or (cond b (Some 0) (option_map (λ i. suc i) o)) (cond c (Some (length (x ∷ xs))) None)
    by true c o = refl
    by false c (Some k) = refl
    by false true None = refl
    by false false None = refl

position-set : {X : Type 0} (p : X → Bool) (xs : List X) (i : ℕ) (x y : X) → slice_get xs i ≡ Some x → p y ≡ p x → position p (slice_set xs i y) ≡ position p xs
position-set p xs i x y here same =
    let first = position_or_len-set p xs i y x (same ∙ ap p (sym (get_or_from_slice_get xs i x x here))) in
    ap (λ n. cond (nat_lt n (length (slice_set xs i y))) (Some n) None) first
    ∙ ap (λ n. cond (nat_lt (position_or_len p xs) n) (Some (position_or_len p xs)) None) (length-set xs i y)

-- Languages in lower case.
-- the comparison without regard to ASCII case is that of the lower cases, by its definition
pub same_lower : (a b : List ℕ) → str_eq_ignore_ascii_case a b ≡ bytes_eq (lower a) (lower b)
same_lower a b = refl

is_tag-lower : (tag : List ℕ) (o : Option (List ℕ)) → is_tag tag o ≡ is_lower (lower tag) o
is_tag-lower tag None = refl
is_tag-lower tag (Some lang) = refl

pub tag_place-lower : (tag : List ℕ) (vs : List Value) → tag_place tag vs ≡ lower_place (lower tag) vs
tag_place-lower tag vs = position-same (λ v. is_tag tag (lang_of v)) (λ v. is_lower (lower tag) (lang_of v)) (λ v. is_tag-lower tag (lang_of v)) vs

pub lower_place-push : (key : List ℕ) (vs : List Value) (v : Value) → lower_place key (vs ++ v ∷ []) ≡ option_or (lower_place key vs) (cond (is_lower key (lang_of v)) (Some (length vs)) None)
lower_place-push key vs v = position-push (λ w. is_lower key (lang_of w)) vs v

pub lower_place-set : (key : List ℕ) (vs : List Value) (i : ℕ) (v w : Value) → slice_get vs i ≡ Some v → lang_of w ≡ lang_of v → lower_place key (slice_set vs i w) ≡ lower_place key vs
lower_place-set key vs i v w here same = position-set (λ x. is_lower key (lang_of x)) vs i v w here (ap (is_lower key) same)

-- The languages of what `setlang` makes.
quals-value : (s : Shape) (q : List Member) → (out-Value (value s q)).quals ≡ q
quals-value s q = ap (λ v. v.quals) (out-roll-Value record { shape = s; quals = q })

text-simple : (text : List ℕ) → text_of (simple text) ≡ Some text
unfolding out-Shape out
text-simple text = rw (out-roll-Value record { shape = Simple text; quals = [] }) refl

lang-first : (m : Member) → name_of m ≡ lang_name → (text : List ℕ) → text_of (value_of m) ≡ Some text → lang_in (m ∷ []) ≡ Some text
lang-first m named text is = by (same_name (name_of m) lang_name) ((same_name_is (name_of m) lang_name).1 named)
  where
    by : (b : Bool) → same_name (name_of m) lang_name ≡ true → lang_in (m ∷ []) ≡ Some text
    by b same = rw same is

pub lang-spoken : (tag text : List ℕ) → lang_of (spoken tag text) ≡ Some tag
lang-spoken tag text =
    ap lang_in (quals-value (Simple text) (member lang_name (simple tag) ∷ []))
    ∙ lang-first (member lang_name (simple tag)) (name-member lang_name (simple tag)) tag (ap text_of (value-member lang_name (simple tag)) ∙ text-simple tag)

abbrev Given : Type 0
Given = Result (Option Value) Rule

abbrev given_of : Value → Given → Value
given_of d (Ok (Some v)) = v
given_of d (Ok None) = d
given_of d (Err rule) = d

err_ok : (rule : Rule) (w : Value) → ◌≡◌ {A = Given} (Err rule) (Ok (Some w)) → ⊥
err_ok rule w h = cc

pub lang-leaf : (new : Shape) (v w : Value) → set_leaf new (Some v) ≡ Ok (Some w) → lang_of w ≡ lang_of v
lang-leaf new v w gave = by (out-Shape (out-Value v).shape) gave
  where
    made : ◌≡◌ {A = Given} (Ok (Some (value new (out-Value v).quals))) (Ok (Some w)) → lang_of w ≡ lang_of v
    made is = ap lang_of (sym (ap (given_of w) is)) ∙ ap lang_in (quals-value new (out-Value v).quals)

    by : (s : Shape-F Shape Member Value) → leaf_put new (out-Value v).quals s ≡ Ok (Some w) → lang_of w ≡ lang_of v
    by (layer.Simple text) is = made is
    by (layer.Uri text) is = made is
    by (layer.Struct fields) is = absurd (err_ok _ w is)
    by (layer.Array kind items) is = absurd (err_ok _ w is)

leaf_stays : (new : Shape) (v : Value) → set_leaf new (Some v) ≡ Ok None → ⊥
leaf_stays new v gave = by (out-Shape (out-Value v).shape) gave
  where
    by : (s : Shape-F Shape Member Value) → leaf_put new (out-Value v).quals s ≡ Ok None → ⊥
    by (layer.Simple text) is = cc
    by (layer.Uri text) is = cc
    by (layer.Struct fields) is = cc
    by (layer.Array kind items) is = cc

-- what a result has, and that a rule is no items
abbrev items_of : List Value → Result (List Value) Rule → List Value
items_of d (Ok vs) = vs
items_of d (Err rule) = d

err_items : (rule : Rule) (vs : List Value) → ◌≡◌ {A = Result (List Value) Rule} (Err rule) (Ok vs) → ⊥
err_items rule vs h = cc

-- Keys.
keys_tie : (x y : Vec ℕ Global) → is_at (lower_cmp x) y ≡ bytes_eq x.items y.items
keys_tie x y = is_eq-slice_cmp x.items y.items

-- what a map has, after a change at a key
updated : (key : Vec ℕ Global) (old new : BTreeMap (Vec ℕ Global) ℕ) (w : Option ℕ) → UpdatesBy lower_cmp (lower_cmp key) old new w →
    (q : Vec ℕ Global) → get lower_cmp new q ≡ cond (bytes_eq key.items q.items) w (get lower_cmp old q)
updated key old new w updates q = updates.0 q ∙ ap (λ b. cond b w (get lower_cmp old q)) (keys_tie key q)

-- keys that are the same have one place in a map
same_get : (old : BTreeMap (Vec ℕ Global) ℕ) (x y : Vec ℕ Global) → bytes_eq x.items y.items ≡ true → get lower_cmp old x ≡ get lower_cmp old y
same_get old x y same =
    ap (λ (bs : List ℕ). lookup (λ (k : Vec ℕ Global). is_eq (slice_cmp nat_cmp bs k.items)) old.entries) ((bytes_decides x.items y.items).0 same)

module _ (key : Vec ℕ Global) (at : ℕ) (old : BTreeMap (Vec ℕ Global) ℕ) where
  -- a language that is there keeps its place
  pub more_again : is_some (get lower_cmp old key) ≡ true → LanguagesMore key at old old
  more_again there q = by (bytes_eq key.items q.items) refl (get lower_cmp old q) refl
    where
      by : (b : Bool) → bytes_eq key.items q.items ≡ b → (o : Option ℕ) → get lower_cmp old q ≡ o → o ≡ option_or o (cond b (Some at) None)
      by b same (Some k) is = refl
      by false same None is = refl
      by true same None is = absurd (different_bools (sym (ap (λ o. is_some o) (sym (same_get old key q same ∙ is)) ∙ there)))

  -- a new language has this place
  pub more_put : (new : BTreeMap (Vec ℕ Global) ℕ) → get lower_cmp old key ≡ None → UpdatesBy lower_cmp (lower_cmp key) old new (Some at) → LanguagesMore key at old new
  more_put new absent updates q = updated key old new (Some at) updates q ∙ by (bytes_eq key.items q.items) refl (get lower_cmp old q) refl
    where
      by : (b : Bool) → bytes_eq key.items q.items ≡ b → (o : Option ℕ) → get lower_cmp old q ≡ o → cond b (Some at) o ≡ option_or o (cond b (Some at) None)
      by false same (Some k) is = refl
      by false same None is = refl
      by true same None is = refl
      by true same (Some k) is = absurd (none-some k (sym absent ∙ same_get old key q same ∙ is))

-- the language of an item, and the lack of one
pub added_some : (lang : List ℕ) (key : Vec ℕ Global) (at : ℕ) (old new : BTreeMap (Vec ℕ Global) ℕ) → key.items ≡ lower lang → LanguagesMore key at old new → AddsLanguage (Some lang) at old new
added_some lang key at old new keyed more q = more q ∙ ap (λ bs. option_or (get lower_cmp old q) (cond (bytes_eq bs q.items) (Some at) None)) keyed

pub added_none : (at : ℕ) (old : BTreeMap (Vec ℕ Global) ℕ) → AddsLanguage None at old old
added_none at old q = by (get lower_cmp old q)
  where
    by : (o : Option ℕ) → o ≡ option_or o None
    by (Some k) = refl
    by None = refl

module _ (vs : List Value) (old : BTreeMap (Vec ℕ Global) ℕ) (has : HasLanguages old vs) where
  -- one more item, and its language
  pub languages_added : (v : Value) (at : ℕ) (new : BTreeMap (Vec ℕ Global) ℕ) → at ≡ length vs → AddsLanguage (lang_of v) at old new → HasLanguages new (vs ++ v ∷ [])
  languages_added v at new last added q =
      added q
      ∙ ap (λ k. option_or (get lower_cmp old q) (cond (is_lower q.items (lang_of v)) (Some k) None)) last
      ∙ ap (λ o. option_or o (cond (is_lower q.items (lang_of v)) (Some (length vs)) None)) (has q)
      ∙ sym (lower_place-push q.items vs v)

  pub languages_more : (key : Vec ℕ Global) (v : Value) (lang : List ℕ) (at : ℕ) (new : BTreeMap (Vec ℕ Global) ℕ) →
      lang_of v ≡ Some lang → key.items ≡ lower lang → at ≡ length vs → LanguagesMore key at old new → HasLanguages new (vs ++ v ∷ [])
  languages_more key v lang at new spoken keyed last more =
      languages_added v at new last (subst (λ o. AddsLanguage o at old new) (sym spoken) (added_some lang key at old new keyed more))

  -- one more item, without a language
  pub languages_same : (v : Value) → lang_of v ≡ None → HasLanguages old (vs ++ v ∷ [])
  languages_same v none = languages_added v (length vs) old refl (subst (λ o. AddsLanguage o (length vs) old old) (sym none) (added_none (length vs) old))

  -- an item in the place of one of its language
  pub languages_put : (i : ℕ) (v w : Value) → slice_get vs i ≡ Some v → lang_of w ≡ lang_of v → HasLanguages old (slice_set vs i w)
  languages_put i v w here same q = has q ∙ sym (lower_place-set q.items vs i v w here same)

  -- what the map has is where `setlang` looks
  pub languages_at : (tag : List ℕ) (key : Vec ℕ Global) → key.items ≡ lower tag → get lower_cmp old key ≡ tag_place tag vs
  languages_at tag key keyed = has key ∙ ap (λ bs. lower_place bs vs) keyed ∙ sym (tag_place-lower tag vs)

  -- what `setlang` makes of an item that is there keeps each language where it is
  said_item : (text : List ℕ) (i : ℕ) (v : Value) (new : List Value) → slice_get vs i ≡ Some v → (r : Result (Option Value) Rule) → set_leaf (Simple text) (Some v) ≡ r → ok_map (item_put vs i) r ≡ Ok new → HasLanguages old new
  said_item text i v new here (Ok (Some w)) is gave = subst (HasLanguages old) (ap (items_of new) gave) (languages_put i v w here (lang-leaf (Simple text) v w is))
  said_item text i v new here (Ok None) is gave = absurd (leaf_stays (Simple text) v is)
  said_item text i v new here (Err rule) is gave = absurd (err_items rule new gave)

  said_at : (text : List ℕ) (i : ℕ) (new : List Value) (o : Option Value) → slice_get vs i ≡ o → item_at (set_leaf (Simple text)) vs i o ≡ Ok new → HasLanguages old new
  said_at text i new (Some v) here gave = said_item text i v new here (set_leaf (Simple text) (Some v)) refl gave
  said_at text i new None here gave = absurd (err_items _ new gave)

  pub languages_said_at : (text : List ℕ) (i : ℕ) (new : List Value) → item_at (set_leaf (Simple text)) vs i (slice_get vs i) ≡ Ok new → HasLanguages old new
  languages_said_at text i new gave = said_at text i new (slice_get vs i) refl gave

  -- a new item of `setlang`, and its language
  pub languages_said_new : (key : Vec ℕ Global) (tag text : List ℕ) (at : ℕ) (new : BTreeMap (Vec ℕ Global) ℕ) →
      key.items ≡ lower tag → at ≡ length vs → LanguagesMore key at old new → HasLanguages new (vs ++ spoken tag text ∷ [])
  languages_said_new key tag text at new keyed last more = languages_more key (spoken tag text) tag at new (lang-spoken tag text) keyed last more

  -- the same, of the items that it gives
  pub languages_said_last : (key : Vec ℕ Global) (tag text : List ℕ) (at : ℕ) (new : BTreeMap (Vec ℕ Global) ℕ) (more : List Value) →
      key.items ≡ lower tag → at ≡ length vs → LanguagesMore key at old new → is_default tag ≡ false → said tag text vs None ≡ Ok more → HasLanguages new more
  languages_said_last key tag text at new more keyed last has_more other gave =
      let pushed : vs ++ spoken tag text ∷ [] ≡ more = ap (λ b. cond b (spoken tag text ∷ vs) (vs ++ spoken tag text ∷ [])) (sym other) ∙ ap (items_of vs) gave in
      subst (HasLanguages new) pushed (languages_said_new key tag text at new keyed last has_more)

-- an empty map has the languages of no items
pub languages_none : (m : BTreeMap (Vec ℕ Global) ℕ) → m.entries ≡ [] → HasLanguages m []
languages_none m none key = ap (lookup (is_at (lower_cmp key))) none

no_key : (o : Option ℕ) → is_some o ≡ false → o ≡ None
no_key None e = refl
no_key (Some k) e = absurd (different_bools e)

pub absent_key : (o : Option ℕ) (there : Bool) → there ≡ is_some o → there ≡ false → o ≡ None
absent_key o there e f = no_key o (sym e ∙ f)
