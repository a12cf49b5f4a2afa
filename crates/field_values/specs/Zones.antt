-- The zone at the end of a date's text, and whether an XMP date says what another date says.
use Rattle.std.specs.Prelude.{ℕ, ◌-◌, nat_eq, ◌==◌, Bool, true, false, ◌&&◌, if◌then◌else◌, List, length, take, drop, codes, slice_range, slice_index, Option, Some, None}
use Rattle.std.specs.List.{list_all, starts_with}
use Rattle.std.specs.Char.{is_ascii_digit}
use Rattle.std.specs.Str.{bytes_eq}
use Rattle.field_values.specs.Dates.{is_sign}

abbrev pub last : ℕ → List ℕ → List ℕ
last n text = drop (length text - n) text

-- a sign, two digits, a colon, two digits; the digits have no bound here
abbrev pub is_zone : List ℕ → Bool
is_zone text =
    (length text == 6) && is_sign (slice_index text 0) && list_all is_ascii_digit (slice_range text 1 3)
    && (slice_index text 3 == 58) && list_all is_ascii_digit (slice_range text 4 6)

abbrev pub utc : List ℕ
utc = codes "+00:00"

-- -00:00 counts as UTC
abbrev pub signed : List ℕ → List ℕ
signed zone = if bytes_eq zone (codes "-00:00") then utc else zone

-- the last six bytes where they are a zone, UTC where the last is Z
unfoldable pub zone_of : List ℕ → Option (List ℕ)
zone_of text =
    if is_zone (last 6 text) then Some (signed (last 6 text))
    else (if bytes_eq (last 1 text) (codes "Z") then Some utc else None)

-- a zone is there, and is this one
abbrev pub is_at : Option (List ℕ) → List ℕ → Bool
is_at None zone = false
is_at (Some there) zone = bytes_eq there zone

-- no zone, or the one that is there
abbrev pub agrees : Option (List ℕ) → Option (List ℕ) → Bool
agrees None there = true
agrees (Some zone) there = is_at there zone

-- An XMP date stays before a preferred one where it begins with that one's first 19 bytes, the date and the time
-- without fraction and zone, or as many as there are, and that one has no zone or the same.
unfoldable pub date_stays : List ℕ → List ℕ → Bool
date_stays xmp preferred = starts_with nat_eq xmp (take 19 preferred) && agrees (zone_of preferred) (zone_of xmp)
