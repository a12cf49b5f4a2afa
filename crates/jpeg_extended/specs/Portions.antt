-- The bytes of a portion: a signature, the name of its text, the full length and the offset, and a part of the text
-- (XMP Part 3, section 1.1.3.1).
use Rattle.std.specs.Prelude.{ℕ, ◌+◌, ◌-◌, nat_le, nat_eq, ◌&&◌, Bool, if◌then◌else◌, List, [], ◌∷◌, ◌++◌, length, take, drop, map, codes, Some, None}
use Rattle.std.specs.declared.option.Option.{Option}
use Rattle.std.specs.List.{starts_with, list_all}
use Rattle.std.specs.Str.{bytes_eq}
use Rattle.byteorder.specs.Endian.{big_bytes, big_number}
use Rattle.xmp_values.specs.Digits.{is_digit, capital}
use Rattle.xmp_base.specs.declared.file_span.FileSpan.{FileSpan}
use Rattle.jpeg_extended.specs.declared.tiling.Head.{Head}
use Rattle.jpeg_extended.specs.Tiling.{Extent}

abbrev pub signature : List ℕ
signature = codes "http://ns.adobe.com/xmp/extension/" ++ 0 ∷ []

-- the full length of the text, the place of the portion in it, and its bytes
pub record Portion : Type 0 where
  pub full : ℕ
  pub offset : ℕ
  pub bytes : List ℕ

abbrev pub extent : Portion → Extent
extent p = record { full = p.full; offset = p.offset; len = length p.bytes }

abbrev pub payload_text : List ℕ → Portion → List ℕ
payload_text name p = signature ++ (name ++ (big_bytes 4 p.full ++ (big_bytes 4 p.offset ++ p.bytes)))

-- the name after the signature
abbrev pub name_in : List ℕ → List ℕ
name_in front = take 32 (drop 35 front)

-- A segment's payload of `len` bytes, which begins so, is a portion of the text of this name. Names
-- are compared without regard to case. No segment has more than 65,533 bytes after its length
-- (ISO 10918-1, B.1.1.4).
abbrev pub is_named : List ℕ → List ℕ → ℕ → Bool
is_named name front len =
    nat_le 75 (length front) && nat_le 75 len && nat_le len 65533
    && starts_with nat_eq front signature
    && list_all is_digit (name_in front)
    && bytes_eq (map capital (name_in front)) name

abbrev pub full_in : List ℕ → ℕ
full_in front = big_number 4 (drop 67 front)

abbrev pub offset_in : List ℕ → ℕ
offset_in front = big_number 4 (drop 71 front)

-- the head of such a payload, whose place is told
abbrev pub head_of : List ℕ → List ℕ → FileSpan → Option Head
head_of name front payload =
    if is_named name front (payload.end - payload.start)
    then Some (record { full = full_in front; offset = offset_in front; len = payload.end - payload.start - 75; at = payload.start + 75 })
    else None

-- the portion that a whole payload is, if it is one of this name
abbrev pub portion_of : List ℕ → List ℕ → List Portion
portion_of name payload =
    if is_named name payload (length payload)
    then record { full = full_in payload; offset = offset_in payload; bytes = drop 75 payload } ∷ []
    else []
