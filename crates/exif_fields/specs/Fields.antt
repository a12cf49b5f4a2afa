-- The values as XMP would hold them (Exif 2.31, 4.6.4 and 4.6.5; TIFF 6.0, section 8).
use Rattle.std.specs.Prelude.{ℕ, ◌-◌, ◌==◌, nat_le, ◌&&◌, not, Bool, if◌then◌else◌, List, [], ◌∷◌, ◌++◌, length, take, drop, map, slice_get, slice_index, slice_range, Option, Some, None}
use Rattle.std.specs.Option.{option_or}
use Rattle.std.specs.Char.{is_ascii_digit}
use Rattle.std.specs.List.{after_first, before_first, filter, list_all, prefix_len, slice_split, suffix_len}
use Rattle.field_values.specs.FieldTexts.{field_text}
use Rattle.field_values.specs.Dates.{date_text, offset_text, time_text}
use Rattle.exif_fields.specs.declared.raw.Met.{Met}
use Rattle.exif_fields.specs.Values.{value_in}

abbrev pub is_zero : ℕ → Bool
is_zero byte = byte == 0

abbrev pub is_space : ℕ → Bool
is_space byte = byte == 32

-- the text of a value, up to its first zero byte
abbrev pub text_of : Option (List ℕ) → Option (List ℕ)
text_of None = None
text_of (Some value) = field_text (before_first is_zero value)

-- Copyright: the photographer's part, or where that is blank the editor's, after a zero byte
abbrev pub copyright_of : Option (List ℕ) → Option (List ℕ)
copyright_of None = None
copyright_of (Some value) = option_or (field_text (before_first is_zero value)) (field_text (before_first is_zero (after_first is_zero value)))

-- a text without spaces at its end, and without spaces at its ends
abbrev pub without_last_spaces : List ℕ → List ℕ
without_last_spaces text = take (length text - suffix_len is_space text) text

abbrev pub trimmed : List ℕ → List ℕ
trimmed text = without_last_spaces (drop (prefix_len is_space text) text)

abbrev pub is_semicolon : ℕ → Bool
is_semicolon byte = byte == 59

abbrev pub is_empty : List ℕ → Bool
is_empty text = length text == 0

-- Artist: the names between semicolons, without spaces at their ends, but for empty ones
unfoldable pub names_in : List ℕ → List (List ℕ)
names_in text = filter (λ name. not (is_empty name)) (map trimmed (slice_split is_semicolon text))

-- a list of texts, if there is one
abbrev pub some_texts : List (List ℕ) → Option (List (List ℕ))
some_texts [] = None
some_texts (text ∷ texts) = Some (text ∷ texts)

abbrev pub creators_of : Option (List ℕ) → Option (List (List ℕ))
creators_of None = None
creators_of (Some text) = some_texts (names_in text)

-- a value of one text
abbrev pub one_text : Option (List ℕ) → Option (List (List ℕ))
one_text None = None
one_text (Some text) = Some (text ∷ [])

-- YYYY:MM:DD HH:MM:SS
abbrev pub is_date_time : List ℕ → Bool
is_date_time text =
    (length text == 19) && (slice_index text 4 == 58) && (slice_index text 7 == 58) && (slice_index text 10 == 32)
    && (slice_index text 13 == 58) && (slice_index text 16 == 58)

-- one text after another, where there are both
abbrev pub joined : Option (List ℕ) → Option (List ℕ) → Option (List ℕ)
joined None second = None
joined (Some first) None = None
joined (Some first) (Some second) = Some (first ++ second)

unfoldable pub date_time : List ℕ → Option (List ℕ)
date_time text =
    if is_date_time text
    then joined (date_text (slice_range text 0 4) (slice_range text 5 7) (slice_range text 8 10))
    (time_text (slice_range text 11 13) (slice_range text 14 16) (slice_range text 17 19))
    else None

-- a point and 1 to 9 digits, spaces at the end aside; else nothing
abbrev pub is_fraction : List ℕ → Bool
is_fraction digits = nat_le 1 (length digits) && nat_le (length digits) 9 && list_all is_ascii_digit digits

abbrev pub fraction_of : Option (List ℕ) → List ℕ
fraction_of None = []
fraction_of (Some text) = if is_fraction (without_last_spaces text) then 46 ∷ without_last_spaces text else []

-- a sign, two digits, a colon, two digits that are an offset; else nothing
abbrev pub or_nothing : Option (List ℕ) → List ℕ
or_nothing None = []
or_nothing (Some text) = text

unfoldable pub offset_in : List ℕ → List ℕ
offset_in text =
    if (length text == 6) && (slice_index text 3 == 58)
    then or_nothing (offset_text (slice_index text 0) (slice_range text 1 3) (slice_range text 4 6))
    else []

abbrev pub offset_of : Option (List ℕ) → List ℕ
offset_of None = []
offset_of (Some text) = offset_in text

abbrev pub with_rest : Option (List ℕ) → List ℕ → List ℕ → Option (List ℕ)
with_rest None fraction offset = None
with_rest (Some date) fraction offset = Some (date ++ fraction ++ offset)

abbrev pub date_time_of : Option (List ℕ) → Option (List ℕ)
date_time_of None = None
date_time_of (Some text) = date_time text

-- a date by the texts of its three tags
unfoldable pub date_by : Option (List ℕ) → Option (List ℕ) → Option (List ℕ) → Option (List ℕ)
date_by date subsecond offset = with_rest (date_time_of date) (fraction_of subsecond) (offset_of offset)

module _ (met : List Met) where
  unfoldable pub text_in : ℕ → Option (List ℕ)
  text_in tag = text_of (value_in met tag)

  unfoldable pub date_in : ℕ → ℕ → ℕ → Option (List ℕ)
  date_in date subsecond offset = date_by (text_in date) (text_in subsecond) (text_in offset)

  -- dc:description, dc:rights, dc:creator, dc:subject, photoshop:DateCreated, xmp:CreateDate, xmp:ModifyDate,
  -- photoshop:City, State and Country, Iptc4xmpCore:CountryCode and Location: of each its texts, or none
  unfoldable pub fields_of : List (Option (List (List ℕ)))
  fields_of =
      one_text (text_in 0x010E) ∷ one_text (copyright_of (value_in met 0x8298)) ∷ creators_of (text_in 0x013B) ∷ None
      ∷ one_text (date_in 0x9003 0x9291 0x9011) ∷ one_text (date_in 0x9004 0x9292 0x9012) ∷ one_text (date_in 0x0132 0x9290 0x9010)
      ∷ None ∷ None ∷ None ∷ None ∷ None ∷ []

-- text i of the value of a property, both counted from 0
abbrev pub text_at_place : Option (Option (List (List ℕ))) → ℕ → Option (List ℕ)
text_at_place None i = None
text_at_place (Some None) i = None
text_at_place (Some (Some texts)) i = slice_get texts i
