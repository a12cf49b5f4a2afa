-- The name of a text, its portions, and the segments that hold them (XMP Part 3, section 1.1.3.1).
use Rattle.std.specs.Prelude.{ℕ, ◌+◌, ◌-◌, ◌*◌, ◌/◌, min, List, ◌∷◌, ◌++◌, length, take, drop, map}
use Rattle.std.specs.List.{range_with_len}
use Rattle.byteorder.specs.Endian.{big_bytes}
use Rattle.hex.specs.Hex.{encode_upper}
use Rattle.md5.specs.Md5.{md5}
use Rattle.jpeg_extended.specs.Portions.{Portion, payload_text}

-- the MD5 of the text (RFC 1321) in capital digits
abbrev pub name_text : List ℕ → List ℕ
name_text text = encode_upper (md5 text)

-- every portion but the last has so many bytes
abbrev pub part_size : ℕ
part_size = 65400

-- how many portions a text of n bytes has
abbrev pub portion_count : ℕ → ℕ
portion_count n = (n + 65399) / 65400

-- how many bytes of the text portion k has, from 0
abbrev pub part_len : ℕ → ℕ → ℕ
part_len n k = min part_size (n - part_size * k)

-- portion k of a text, from 0
abbrev pub portion_at : List ℕ → ℕ → Portion
portion_at text k = record { full = length text; offset = part_size * k; bytes = take part_size (drop (part_size * k) text) }

abbrev pub portions_of : List ℕ → List Portion
portions_of text = map (portion_at text) (range_with_len 0 (portion_count (length text)))

-- the segment of a portion (ISO 10918-1, B.1.1.4): APP1, a length that counts itself, the payload
abbrev pub segment_text : List ℕ → Portion → List ℕ
segment_text name p = 0xFF ∷ 0xE1 ∷ (big_bytes 2 (77 + length p.bytes) ++ payload_text name p)

-- the length of the segment of portion k
abbrev pub segment_len : ℕ → ℕ → ℕ
segment_len n k = 79 + part_len n k
