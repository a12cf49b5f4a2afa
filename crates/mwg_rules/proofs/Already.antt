-- What was put says its texts already, so putting them again changes nothing.
use Rattle.std.proofs.Common.{◌≡◌, ◌∙◌, ℕ, ◌+◌, ◌<◌, Bool, true, false, cond, List, [], ◌∷◌, length, set, map, Option, Some, None, refl, sym, ap, arith}
use Rattle.std.specs.Prelude.{◌||◌, not, slice_set, option_map, find}
use Rattle.std.specs.List.{position_or_len}
use Rattle.std.specs.Str.{bytes_eq}
use Rattle.std.proofs.lemmas.Slice.Eq.{bytes_eq-Decides}
use Rattle.std.proofs.lemmas.Bool.{and_from}
use Rattle.std.proofs.lemmas.List.{get_or-set_same, length-set}
use Rattle.std.proofs.lemmas.List.Folds.{position_or_len-set}
use Rattle.std.proofs.lemmas.List.Quantifiers.{position-Some}
use Rattle.std.proofs.lemmas.Option.{slice_get-get_or}
use Rattle.field_values.specs.Zones.{date_stays}
use Rattle.xmp_tree.specs.declared.nested.Kind.{Kind}
use Rattle.xmp_tree.specs.declared.nested.Kind.TheVariants as kind
use Rattle.xmp_tree.specs.declared.nested.Value.{Value, out-Value, out-roll-Value}
use Rattle.xmp_tree.specs.declared.nested.Member.{Member}
use Rattle.xmp_tree.specs.declared.nested.Shape.{Shape, Shape-F, out-Shape, out-roll-Shape, Simple, Array}
use Rattle.xmp_tree.specs.declared.nested.Shape.TheVariants.{rolls-Simple, rolls-Array}
use Rattle.xmp_tree.specs.declared.nested.Shape.TheOpen as layer
use Rattle.xmp_tree.specs.Parts.{member, simple, value}
use Rattle.xmp_tree.specs.Places.{is_tag, lang_in, lang_of, layer_text, same_name, tag_place, text_of}
use Rattle.xmp_tree.specs.Wf.{lang_name, name_of, value_of}
use Rattle.xmp_tree.proofs.Made.{name-member, value-member}
use Rattle.xmp_tree.proofs.PlaceLemmas.{same_name_is}
use Rattle.mwg_rules.specs.declared.properties.Form.{Form}
use Rattle.mwg_rules.specs.declared.properties.Form.TheVariants.{Text, Date, Bag, Seq, Language}
use Rattle.mwg_rules.specs.Sources.{Texts}
use Rattle.mwg_rules.specs.Forms.{are_texts, with_texts, changed, default_item, default_tag, first_text, in_alternatives, is_already, is_list, is_same, is_spoken, is_spoken_at, is_text, is_text_at, made, same_kind, stays_date, with_default}

bytes_eq-refl : (xs : List ℕ) → bytes_eq xs xs ≡ true
bytes_eq-refl xs = (bytes_eq-Decides xs xs).1 refl

-- the shape and the qualifiers of what is made of them
shape-value : (s : Shape) (q : List Member) → (out-Value (value s q)).shape ≡ s
shape-value s q = ap (λ v. v.shape) (out-roll-Value record { shape = s; quals = q })

quals-value : (s : Shape) (q : List Member) → (out-Value (value s q)).quals ≡ q
quals-value s q = ap (λ v. v.quals) (out-roll-Value record { shape = s; quals = q })

out-simple : (text : List ℕ) → out-Shape (Simple text) ≡ layer.Simple text
out-simple text = ap out-Shape (sym (rolls-Simple text)) ∙ out-roll-Shape (layer.Simple text)

out-array : (k : Kind) (vs : List Value) → out-Shape (Array k vs) ≡ layer.Array k vs
out-array k vs = ap out-Shape (sym (rolls-Array k vs)) ∙ out-roll-Shape (layer.Array k vs)

layer-array : (k : Kind) (vs : List Value) (q : List Member) → out-Shape (out-Value (value (Array k vs) q)).shape ≡ layer.Array k vs
layer-array k vs q = ap out-Shape (shape-value (Array k vs) q) ∙ out-array k vs

text_of-value : (text : List ℕ) (q : List Member) → text_of (value (Simple text) q) ≡ Some text
text_of-value text q = ap layer_text (ap out-Shape (shape-value (Simple text) q) ∙ out-simple text)

is_text-value : (text : List ℕ) (q : List Member) → is_text text (value (Simple text) q) ≡ true
is_text-value text q = ap (is_same text) (text_of-value text q) ∙ bytes_eq-refl text

or_first : (a b : Bool) → a ≡ true → (a || b) ≡ true
or_first true b e = refl
or_first false b e = absurd (cc)

stays_date-simple : (text : List ℕ) → stays_date text (text_of (simple text)) ≡ true
stays_date-simple text = ap (stays_date text) (text_of-value text []) ∙ or_first (bytes_eq text text) (date_stays text text) (bytes_eq-refl text)

are_texts-simples : (texts : Texts) → are_texts texts (map simple texts) ≡ true
are_texts-simples [] = refl
are_texts-simples (t ∷ ts) = and_from (is_text t (simple t)) (are_texts ts (map simple ts)) (is_text-value t []) (are_texts-simples ts)

same_kind-refl : (k : Kind) → same_kind k k ≡ true
same_kind-refl kind.Bag = refl
same_kind-refl kind.Seq = refl
same_kind-refl kind.Alt = refl

is_list-made : (k : Kind) (texts : Texts) → is_list k texts (out-Shape (out-Value (value (Array k (map simple texts)) [])).shape) ≡ true
is_list-made k texts =
    ap (is_list k texts) (layer-array k (map simple texts) [])
    ∙ and_from (same_kind k k) (are_texts texts (map simple texts)) (same_kind-refl k) (are_texts-simples texts)

-- the language of the default
first_named : (ms : List Member) (b : Bool) → b ≡ true → (m : Member) → cond b (Some m) (find (λ x. same_name (name_of x) lang_name) ms) ≡ Some m
first_named ms true e m = refl
first_named ms false e m = absurd (cc)

lang_of-default : (text : List ℕ) → lang_of (default_item text) ≡ Some default_tag
lang_of-default text =
    let m = member lang_name (simple default_tag) in
    let named : same_name (name_of m) lang_name ≡ true = ap (λ k. same_name k lang_name) (name-member lang_name (simple default_tag)) ∙ (same_name_is lang_name lang_name).1 refl in
    ap lang_in (quals-value (Simple text) (m ∷ []))
    ∙ ap (λ o. Rattle.std.specs.Option.option_and_then text_of (option_map value_of o)) (first_named [] (same_name (name_of m) lang_name) named m)
    ∙ ap text_of (value-member lang_name (simple default_tag)) ∙ text_of-value default_tag []

is_tag-default : (text : List ℕ) → is_tag default_tag (lang_of (default_item text)) ≡ true
is_tag-default text = ap (is_tag default_tag) (lang_of-default text)

abbrev is_default : Value → Bool
is_default v = is_tag default_tag (lang_of v)

-- the place of an item that was put
found_at : (vs : List Value) (i : ℕ) → position_or_len is_default vs ≡ i → i < length vs → tag_place default_tag vs ≡ Some i
found_at vs i e h = by (Rattle.std.specs.Prelude.nat_lt (position_or_len is_default vs) (length vs)) refl
  where
    by : (b : Bool) → Rattle.std.specs.Prelude.nat_lt (position_or_len is_default vs) (length vs) ≡ b → cond b (Some (position_or_len is_default vs)) None ≡ Some i
    by true t = ap Some e
    by false t = absurd (omega (arith, e, h, Rattle.std.proofs.lemmas.Bool.ltb-false (position_or_len is_default vs) (length vs) t))

is_spoken-set : (text : List ℕ) (vs : List Value) (i : ℕ) → tag_place default_tag vs ≡ Some i → is_spoken_at text (slice_set vs i (default_item text)) (tag_place default_tag (slice_set vs i (default_item text))) ≡ true
is_spoken-set text vs i at =
    let d = default_item text in
    let p = position-Some is_default vs i d at in
    let new = set vs i d in
    let first : position_or_len is_default vs ≡ i = place_is vs i at in
    let place : position_or_len is_default new ≡ i = position_or_len-set is_default vs i d d (is_tag-default text ∙ sym p.1) ∙ first in
    let within : i < length new = omega (arith, p.0, length-set vs i d) in
    ap (is_spoken_at text new) (found_at new i place within)
    ∙ ap (is_text_at text) (slice_get-get_or new i d within ∙ ap Some (get_or-set_same vs i d d p.0))
    ∙ is_text-value text (member lang_name (simple default_tag) ∷ [])
  where
    some_is : (b : Bool) (k i : ℕ) → cond b (Some k) None ≡ Some i → k ≡ i
    some_is true k i e = cc
    some_is false k i e = absurd (cc)

    place_is : (vs : List Value) (i : ℕ) → tag_place default_tag vs ≡ Some i → position_or_len is_default vs ≡ i
    place_is vs i e = some_is (Rattle.std.specs.Prelude.nat_lt (position_or_len is_default vs) (length vs)) (position_or_len is_default vs) i e

not_counted : (b : Bool) (n : ℕ) → b ≡ true → cond (not b) (1 + n) 0 ≡ 0
not_counted true n e = refl
not_counted false n e = absurd (cc)

is_spoken-front : (text : List ℕ) (vs : List Value) → is_spoken_at text (default_item text ∷ vs) (tag_place default_tag (default_item text ∷ vs)) ≡ true
is_spoken-front text vs =
    let d = default_item text in
    ap (is_spoken_at text (d ∷ vs)) (found_at (d ∷ vs) 0 (not_counted (is_default d) (position_or_len is_default vs) (is_tag-default text)) (omega arith))
    ∙ is_text-value text (member lang_name (simple default_tag) ∷ [])

is_spoken-with : (text : List ℕ) (vs : List Value) (o : Option ℕ) → tag_place default_tag vs ≡ o → is_spoken_at text (with_default text vs o) (tag_place default_tag (with_default text vs o)) ≡ true
is_spoken-with text vs (Some i) at = is_spoken-set text vs i at
is_spoken-with text vs None at = is_spoken-front text vs

is_spoken-alternatives : (text : List ℕ) (vs : List Value) (q : List Member)
    → is_spoken text (out-Shape (out-Value (value (Array kind.Alt (with_default text vs (tag_place default_tag vs))) q)).shape) ≡ true
is_spoken-alternatives text vs q =
    ap (is_spoken text) (layer-array kind.Alt (with_default text vs (tag_place default_tag vs)) q) ∙ is_spoken-with text vs (tag_place default_tag vs) refl

is_spoken-made : (text : List ℕ) → is_spoken text (out-Shape (out-Value (made Language (text ∷ []))).shape) ≡ true
unfolding made
is_spoken-made text = ap (is_spoken text) (layer-array kind.Alt (default_item text ∷ []) []) ∙ is_spoken-front text []

pub already-made : (form : Form) (texts : Texts) → is_already form texts (made form texts) ≡ true
unfolding is_already made
already-made Text texts = is_text-value (first_text texts) []
already-made Date texts = stays_date-simple (first_text texts)
already-made Bag texts = is_list-made kind.Bag texts
already-made Seq texts = is_list-made kind.Seq texts
already-made Language texts = is_spoken-made (first_text texts)

spoken_in : (text : List ℕ) (q : List Member) (l : Shape-F Shape Member Value) → is_spoken text (out-Shape (out-Value (in_alternatives text q l)).shape) ≡ true
spoken_in text q (layer.Simple t) = is_spoken-made text
spoken_in text q (layer.Uri t) = is_spoken-made text
spoken_in text q (layer.Struct fields) = is_spoken-made text
spoken_in text q (layer.Array there items) = by (same_kind there kind.Alt)
  where
    by : (b : Bool) → is_spoken text (out-Shape (out-Value (cond b (value (Array kind.Alt (with_default text items (tag_place default_tag items))) q) (made Language (text ∷ [])))).shape) ≡ true
    by true = is_spoken-alternatives text items q
    by false = is_spoken-made text

already-changed : (form : Form) (texts : Texts) (v : Value) → is_already form texts (changed form texts v) ≡ true
unfolding is_already changed
already-changed Text texts v = already-made Text texts
already-changed Date texts v = already-made Date texts
already-changed Bag texts v = already-made Bag texts
already-changed Seq texts v = already-made Seq texts
already-changed Language texts v = spoken_in (first_text texts) (out-Value v).quals (out-Shape (out-Value v).shape)

-- whatever was there, the texts are said afterwards
pub already-with_texts : (form : Form) (texts : Texts) (there : Option Value) → is_already form texts (with_texts form texts there) ≡ true
already-with_texts form texts None = already-made form texts
already-with_texts form texts (Some v) = by (is_already form texts v) refl
  where
    by : (b : Bool) → is_already form texts v ≡ b → is_already form texts (cond b v (changed form texts v)) ≡ true
    by true e = e
    by false e = already-changed form texts v

-- a value that says the texts stays
pub with_texts-already : (form : Form) (texts : Texts) (v : Value) → is_already form texts v ≡ true → with_texts form texts (Some v) ≡ v
with_texts-already form texts v e = ap (λ b. cond b v (changed form texts v)) e
