-- What the datasets of the application record say of twelve properties of XMP (IIM 4.2, chapter 6; Metadata Working Group,
-- Guidelines for Handling Image Metadata 2.0).
use Rattle.std.specs.Prelude.{ℕ, ◌==◌, ◌&&◌, if◌then◌else◌, List, [], ◌∷◌, ◌++◌, length, slice_index, slice_range, Option, Some, None}
use Rattle.std.specs.Option.{option_or, option_and_then, option_to_list, option_map}
use Rattle.field_values.specs.FieldTexts.{field_text}
use Rattle.field_values.specs.Dates.{date_text, time_text, offset_text}
use Rattle.xmp_values.specs.Texts.{with_text}
use Rattle.irb_iptc.specs.Datasets.{Field}

-- the bytes of a field that is dataset n of record 2
abbrev pub bytes_for : ℕ → Field → Option (List ℕ)
bytes_for n f = if f.0 == 2 && f.1 == n then Some f.2 else None

-- those of the first such field
abbrev pub first_of : ℕ → List Field → Option (List ℕ)
first_of n [] = None
first_of n (f ∷ fs) = option_or (bytes_for n f) (first_of n fs)

-- its text; a blank text is absent
abbrev pub text_of : ℕ → List Field → Option (List ℕ)
text_of n fs = option_and_then field_text (first_of n fs)

-- the texts of all such fields, in their order, but for blank ones
abbrev pub texts_of : ℕ → List Field → List (List ℕ)
texts_of n [] = []
texts_of n (f ∷ fs) = option_to_list (option_and_then field_text (bytes_for n f)) ++ texts_of n fs

-- texts that differ, where each is first seen
abbrev pub distinct_after : List (List ℕ) → List (List ℕ) → List (List ℕ)
distinct_after seen [] = seen
distinct_after seen (text ∷ texts) = distinct_after (with_text seen text) texts

-- a date, CCYYMMDD
abbrev pub date_in : List ℕ → Option (List ℕ)
date_in bytes = if length bytes == 8 then date_text (slice_range bytes 0 4) (slice_range bytes 4 6) (slice_range bytes 6 8) else None

-- two parts, if both are there
abbrev pub joined : Option (List ℕ) → Option (List ℕ) → Option (List ℕ)
joined None b = None
joined (Some a) None = None
joined (Some a) (Some b) = Some (a ++ b)

-- a time and its offset from UTC, HHMMSS and a sign and HHMM
abbrev pub time_in : List ℕ → Option (List ℕ)
time_in bytes =
    if length bytes == 11
    then joined (time_text (slice_range bytes 0 2) (slice_range bytes 2 4) (slice_range bytes 4 6))
    (offset_text (slice_index bytes 6) (slice_range bytes 7 9) (slice_range bytes 9 11))
    else None

-- a time that isn't valid is left off
abbrev pub with_time : Option (List ℕ) → List ℕ → List ℕ
with_time None day = day
with_time (Some time) day = day ++ time

-- a date, with its time; one that isn't valid is absent
abbrev pub date_of : ℕ → ℕ → List Field → Option (List ℕ)
date_of date time fs = option_map (with_time (option_and_then time_in (first_of time fs))) (option_and_then date_in (first_of date fs))

-- the value of a property: its texts, if there are any
abbrev pub one : Option (List ℕ) → Option (List (List ℕ))
one text = option_map (λ t. t ∷ []) text

abbrev pub some_of : List (List ℕ) → Option (List (List ℕ))
some_of [] = None
some_of (text ∷ texts) = Some (text ∷ texts)

-- dc:description, dc:rights, dc:creator, dc:subject, photoshop:DateCreated, xmp:CreateDate, xmp:ModifyDate, photoshop:City,
-- State and Country, Iptc4xmpCore:CountryCode and Location
unfoldable pub fields_of : List Field → List (Option (List (List ℕ)))
fields_of fs =
    one (text_of 120 fs) ∷ one (text_of 116 fs) ∷ some_of (texts_of 80 fs) ∷ some_of (distinct_after [] (texts_of 25 fs))
    ∷ one (date_of 55 60 fs) ∷ one (date_of 62 63 fs) ∷ None
    ∷ one (text_of 90 fs) ∷ one (text_of 95 fs) ∷ one (text_of 101 fs) ∷ one (text_of 100 fs) ∷ one (text_of 92 fs) ∷ []
