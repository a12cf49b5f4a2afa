-- The segments that a relocation writes (XMP Part 3, sections 1.1.3 and 1.1.3.1), and the list of the new file.
use Rattle.std.specs.Prelude.{ℕ, ◌+◌, ◌-◌, List, [], ◌∷◌, ◌++◌, length, map, Option, None, Some}
use Rattle.byteorder.specs.Endian.{big_bytes}
use Rattle.xmp_base.specs.declared.file_span.FileSpan.{FileSpan}
use Rattle.jpeg_regions.specs.Kinds.{packet_signature}
use Rattle.jpeg_regions.specs.Jpeg.{Segment, Region, placed}
use Rattle.jpeg_regions.specs.Exchanged.{moved}
use Rattle.jpeg_extended.specs.Portions.{payload_text}
use Rattle.jpeg_extended.specs.Written.{name_text, portions_of}
use Rattle.jpeg_relocation.specs.Relocation.{before, after}

-- APP1 with a payload: its length counts itself (ISO 10918-1, B.1.1.4)
abbrev pub app1 : List ℕ → Segment
app1 payload = record { fill = 1; marker = 0xE1; body = big_bytes 2 (2 + length payload) ++ payload }

-- the most bytes of a packet in a segment: 2 of the length and 29 of the signature are counted with it
abbrev pub main_limit : ℕ
main_limit = 65502

abbrev pub main_payload_text : List ℕ → List ℕ
main_payload_text packet = packet_signature ++ packet

abbrev pub main_segment : List ℕ → Segment
main_segment packet = app1 (main_payload_text packet)

-- the portions of an extended text, named by its digest
abbrev pub portion_segments : List ℕ → List Segment
portion_segments text = map (λ p. app1 (payload_text (name_text text) p)) (portions_of text)

-- the main packet, and the extended text where there is one
abbrev pub new_segments : List ℕ → Option (List ℕ) → List Segment
new_segments packet None = main_segment packet ∷ []
new_segments packet (Some text) = main_segment packet ∷ portion_segments text

-- regions one after another from a place on, wherever they stood
abbrev pub stacked : ℕ → List Region → List Region
stacked at [] = []
stacked at (r ∷ rs) = moved r.range.start at r ∷ stacked (at + (r.range.end - r.range.start)) rs

-- the regions of the new file
abbrev pub relocated_list : List FileSpan → List Region → List Segment → List Region
relocated_list joined regions segments = stacked 2 (before joined regions ++ (placed 0 segments ++ after joined regions))
