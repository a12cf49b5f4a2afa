-- What a value of each form becomes where texts are preferred to it (ISO 16684-1, 6.3 and 8.2; XMP Specification Part 1, 8.2.2.4).
use Rattle.std.specs.Prelude.{ℕ, ◌&&◌, ◌||◌, Bool, true, false, if◌then◌else◌, List, [], ◌∷◌, map, Option, Some, None, codes, slice_get, slice_set}
use Rattle.std.specs.Str.{bytes_eq}
use Rattle.field_values.specs.Zones.{date_stays}
use Rattle.xmp_tree.specs.declared.nested.Kind.{Kind}
use Rattle.xmp_tree.specs.declared.nested.Kind.TheVariants as kind
use Rattle.xmp_tree.specs.declared.nested.Member.{Member}
use Rattle.xmp_tree.specs.declared.nested.Value.{Value, out-Value}
use Rattle.xmp_tree.specs.declared.nested.Shape.{Shape, Shape-F, out-Shape, Simple, Array}
use Rattle.xmp_tree.specs.declared.nested.Shape.TheOpen as layer
use Rattle.xmp_tree.specs.Parts.{member, simple, value}
use Rattle.xmp_tree.specs.Places.{tag_place, text_of}
use Rattle.xmp_tree.specs.Wf.{lang_name}
use Rattle.mwg_rules.specs.declared.properties.Form.{Form}
use Rattle.mwg_rules.specs.declared.properties.Form.TheVariants.{Text, Date, Bag, Seq, Language}
use Rattle.mwg_rules.specs.Sources.{Texts}

-- the one text of a value that is no list
abbrev pub first_text : Texts → List ℕ
first_text [] = []
first_text (text ∷ texts) = text

abbrev pub is_same : List ℕ → Option (List ℕ) → Bool
is_same text None = false
is_same text (Some there) = bytes_eq there text

-- a simple text, whatever its qualifiers
abbrev pub is_text : List ℕ → Value → Bool
is_text text v = is_same text (text_of v)

abbrev pub stays_date : List ℕ → Option (List ℕ) → Bool
stays_date text None = false
stays_date text (Some there) = bytes_eq there text || date_stays there text

abbrev pub are_texts : Texts → List Value → Bool
are_texts [] [] = true
are_texts [] (v ∷ vs) = false
are_texts (text ∷ texts) [] = false
are_texts (text ∷ texts) (v ∷ vs) = is_text text v && are_texts texts vs

abbrev pub same_kind : Kind → Kind → Bool
same_kind kind.Bag kind.Bag = true
same_kind kind.Seq kind.Seq = true
same_kind kind.Alt kind.Alt = true
same_kind a b = false

-- an array of this kind, of just these texts
abbrev pub is_list : Kind → Texts → Shape-F Shape Member Value → Bool
is_list k texts (layer.Simple text) = false
is_list k texts (layer.Uri text) = false
is_list k texts (layer.Struct fields) = false
is_list k texts (layer.Array there items) = same_kind there k && are_texts texts items

-- the language of a text that suits every reader
abbrev pub default_tag : List ℕ
default_tag = codes "x-default"

-- a text of that language, with no other qualifier
abbrev pub default_item : List ℕ → Value
default_item text = value (Simple text) (member lang_name (simple default_tag) ∷ [])

abbrev pub is_text_at : List ℕ → Option Value → Bool
is_text_at text None = false
is_text_at text (Some v) = is_text text v

abbrev pub is_spoken_at : List ℕ → List Value → Option ℕ → Bool
is_spoken_at text items None = false
is_spoken_at text items (Some i) = is_text_at text (slice_get items i)

-- alternatives whose first item of that language is this text
abbrev pub is_spoken : List ℕ → Shape-F Shape Member Value → Bool
is_spoken text (layer.Simple there) = false
is_spoken text (layer.Uri there) = false
is_spoken text (layer.Struct fields) = false
is_spoken text (layer.Array there items) = same_kind there kind.Alt && is_spoken_at text items (tag_place default_tag items)

-- what is there says the texts already
unfoldable pub is_already : Form → Texts → Value → Bool
is_already Text texts v = is_text (first_text texts) v
is_already Date texts v = stays_date (first_text texts) (text_of v)
is_already Bag texts v = is_list kind.Bag texts (out-Shape (out-Value v).shape)
is_already Seq texts v = is_list kind.Seq texts (out-Shape (out-Value v).shape)
is_already Language texts v = is_spoken (first_text texts) (out-Shape (out-Value v).shape)

-- the value of the texts, without qualifiers
unfoldable pub made : Form → Texts → Value
made Text texts = simple (first_text texts)
made Date texts = simple (first_text texts)
made Bag texts = value (Array kind.Bag (map simple texts)) []
made Seq texts = value (Array kind.Seq (map simple texts)) []
made Language texts = value (Array kind.Alt (default_item (first_text texts) ∷ [])) []

-- the first item of the language becomes the text in its place, or a new one stands in front
abbrev pub with_default : List ℕ → List Value → Option ℕ → List Value
with_default text items (Some i) = slice_set items i (default_item text)
with_default text items None = default_item text ∷ items

abbrev pub in_alternatives : List ℕ → List Member → Shape-F Shape Member Value → Value
in_alternatives text quals (layer.Simple there) = made Language (text ∷ [])
in_alternatives text quals (layer.Uri there) = made Language (text ∷ [])
in_alternatives text quals (layer.Struct fields) = made Language (text ∷ [])
in_alternatives text quals (layer.Array there items) =
    if same_kind there kind.Alt then value (Array kind.Alt (with_default text items (tag_place default_tag items))) quals
    else made Language (text ∷ [])

-- alternatives stay, with the text among them; any other value is replaced
unfoldable pub changed : Form → Texts → Value → Value
changed Text texts v = made Text texts
changed Date texts v = made Date texts
changed Bag texts v = made Bag texts
changed Seq texts v = made Seq texts
changed Language texts v = in_alternatives (first_text texts) (out-Value v).quals (out-Shape (out-Value v).shape)

-- what a property becomes, and one that isn't there
abbrev pub with_texts : Form → Texts → Option Value → Value
with_texts form texts None = made form texts
with_texts form texts (Some v) = if is_already form texts v then v else changed form texts v
