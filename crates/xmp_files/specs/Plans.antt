-- What becomes of a file whose tree was edited: the steps of the one order after the edits.
use Rattle.std.specs.Prelude.{◌≡◌, ◌≢◌, ◌⊎◌, ℕ, ◌+◌, ◌^◌, ◌-◌, ◌≤◌, ◌<◌, min, nat_lt, nat_le, Bool, not, ◌&&◌, if◌then◌else◌, List, [], ◌∷◌, ◌++◌, length, map, flat_map, Option, None, Some, Ok, Err, false}
use Rattle.std.specs.declared.result.Result.{Result}
use Rattle.xmp_values.specs.declared.faults.Fault.{Fault}
use Rattle.xmp_values.specs.declared.faults.Part.TheVariants.{File, Main}
use Rattle.xmp_values.specs.declared.hints.Hint.{Hint}
use Rattle.xmp_values.specs.declared.rules.Rule.TheVariants.{NeedsRelocation, SegmentLimit, TiffLimit, AfterMultiPicture, OutLimit}
use Rattle.xmp_base.specs.declared.file_span.FileSpan.{FileSpan}
use Rattle.jpeg_regions.specs.Jpeg.{Region, text, span}
use Rattle.jpeg_relocation.specs.declared.pictures.MovedPictures.{MovedPictures}
use Rattle.jpeg_relocation.specs.Relocation.{before, after}
use Rattle.jpeg_relocation.specs.Runs.{runs}
use Rattle.jpeg_relocation.specs.Pictures.{moved_pictures}
use Rattle.jpeg_relocation.specs.NewSegments.{main_limit, new_segments}
use Rattle.jpeg_relocation.specs.Laws.{NoStray as HasNoStray}
use Rattle.jpeg_extended.specs.Written.{name_text}
use Rattle.tiff_dirs.specs.Tiff.{Tiff}
use Rattle.tiff_relocation.specs.Relocation.{changed, lacks_room, most_classic, new_copy, new_numbers, packet_place, pad, tells}
use Rattle.tiff_relocation.specs.Apart.{IsApart}
use Rattle.xmp_tree.specs.Parts.{Parts}
use Rattle.xmp_packets.specs.Packets.{is_writable}
use Rattle.xmp_write.specs.declared.forms.Form.{Form}
use Rattle.xmp_write.specs.Prefixes.{prefixes}
use Rattle.xmp_write.specs.Text.{canonical_text}
use Rattle.xmp_write.specs.Splits.{front_form, rest_form, IsSplit, FitsNever}
use Rattle.xmp_write.specs.WrittenPackets.{least_len, canonical_packet}
use Rattle.round_trip.specs.Law.{MayWrite}
use Rattle.xmp_files.specs.Faults.{file_limit, packet_limit, over_packet, over_extended}
use Rattle.xmp_files.specs.Keeping.{Piece, Container, Text, Segments, Directories, Kept}
use Rattle.xmp_files.specs.Planning.{Edited, Part, Old, New, parts_len, Plan, Same, InPlace, Relocated}

-- every property, and no note
abbrev pub whole_form : Parts → Form
whole_form t = record { first = 0; count = length t.props; note = None }

-- the packet of the new tree, of a length that is at least the least one
abbrev pub packet_of : Edited → ℕ → List ℕ
packet_of e = canonical_packet e.new e.hints (whole_form e.new)

abbrev pub least_of : Edited → ℕ
least_of e = least_len (prefixes e.new e.hints (whole_form e.new)) e.new (whole_form e.new)

-- how much a packet that is put in another place is padded, so that the next edit fits
abbrev pub padding : ℕ
padding = 2048

-- A number of a refusal: lengths that no number of 64 bits holds are told by the greatest.
abbrev pub told : ℕ → ℕ
told n = min n (2 ^ 64 - 1)

-- Whether the new packet fits: the old one may be written in its place, is no shorter than the least length of the new one, and no
-- extended text was joined to it.
abbrev pub fits_payload : Option Piece → ℕ → Bool
fits_payload None least = false
fits_payload (Some payload) least = is_writable payload.bytes && nat_le least (length payload.bytes)

abbrev pub fits : Option Piece → Bool → ℕ → Bool
fits payload joined least = not joined && fits_payload payload least

-- the old payload's place, with a packet of its length
abbrev pub exchanged : Option Piece → Edited → List Piece
exchanged None e = []
exchanged (Some payload) e = record { at = payload.at; bytes = packet_of e (length payload.bytes) } ∷ []

-- where the old payload stands
abbrev pub place_of : Option Piece → ℕ
place_of None = 0
place_of (Some payload) = payload.at

-- the length of the old payload, 0 without one
abbrev pub room_of : Option Piece → ℕ
room_of None = 0
room_of (Some payload) = length payload.bytes

-- these bytes in the old payload's place
abbrev pub put_over : Option Piece → List ℕ → Plan
put_over payload bytes = InPlace (record { at = place_of payload; bytes = bytes } ∷ [])

-- The new packet doesn't fit, and the file may be changed in its place alone.
abbrev pub needs_relocation : ℕ → ℕ → Fault
needs_relocation least room = record { rule = NeedsRelocation; place = record { part = Main; at = 0 }; x = least; y = room }

-- where the digest of the metadata stands, with the new one; a sidecar has none
abbrev pub digest_pieces : Container → Option (List ℕ) → List Piece
digest_pieces Text digest = []
digest_pieces (Segments regions) digest = []
digest_pieces (Directories size tiff) digest = []

-- what is decided without relocation: the new text is too long, it fits, or it must fit
abbrev pub unmoved : Option Piece → Container → Bool → Bool → Edited → Option (Result Plan Fault)
unmoved payload container joined patch e =
    if nat_lt packet_limit (least_of e + padding) then Some (Err (over_packet (told (least_of e + padding))))
    else (if fits payload joined (least_of e) then Some (Ok (InPlace (exchanged payload e ++ digest_pieces container e.digest)))
    else (if patch then Some (Err (needs_relocation (told (least_of e)) (room_of payload))) else None))

-- the index of a multi-picture file tells places that a relocation would move
abbrev pub after_pictures : MovedPictures → Fault
after_pictures moved = record { rule = AfterMultiPicture; place = record { part = File; at = moved.start }; x = moved.old; y = moved.new }

-- the new file is longer than the limit of a file
abbrev pub over_out : ℕ → Fault
over_out size = record { rule = OutLimit; place = record { part = File; at = 0 }; x = size; y = file_limit }

-- the parts of a relocated JPEG file: FF D8, what stands before the place, the new segments, and what stands after it
abbrev pub parts_around : List Region → List FileSpan → List ℕ → List Part
parts_around regions joined new =
    (Old (span 0 2) ∷ map (λ r. Old r) (runs (before joined regions))) ++ (New new ∷ map (λ r. Old r) (runs (after joined regions)))

abbrev pub within_out : List Part → Result Plan Fault
within_out parts = if nat_lt file_limit (parts_len parts) then Err (over_out (told (parts_len parts))) else Ok (Relocated parts)

abbrev pub unless_moved : Option MovedPictures → List Part → Result Plan Fault
unless_moved (Some moved) parts = Err (after_pictures moved)
unless_moved None parts = within_out parts

-- new bytes among the regions of a JPEG file, or why they don't come there
abbrev pub put_among : List Region → List FileSpan → List ℕ → Result Plan Fault
put_among regions joined new = unless_moved (moved_pictures joined regions (length new)) (parts_around regions joined new)

-- the packet of a segment of its own is padded as far as the segment permits
abbrev pub segment_padded : ℕ → ℕ
segment_padded least = min (least + padding) main_limit

-- the bytes of the segments that are written
abbrev pub segments_text : List ℕ → Option (List ℕ) → List ℕ
segments_text packet extended = flat_map text (new_segments packet extended)

-- The tree in two texts: the properties from number k on, and the packet of those before it, whose note is the name of the others' text.
abbrev pub rest_text : Parts → List Hint → ℕ → List ℕ
rest_text t hints k = canonical_text t hints (rest_form t k)

abbrev pub named_front : Parts → List Hint → ℕ → Form
named_front t hints k = front_form (name_text (rest_text t hints k)) k

abbrev pub front_least : Parts → List Hint → ℕ → ℕ
front_least t hints k = least_len (prefixes t hints (named_front t hints k)) t (named_front t hints k)

abbrev pub front_packet : Parts → List Hint → ℕ → List ℕ
front_packet t hints k = canonical_packet t hints (named_front t hints k) (segment_padded (front_least t hints k))

-- both texts among the regions, or the first fault: an extended text has a limit of its own
abbrev pub put_both : List Region → List FileSpan → Parts → List Hint → ℕ → Result Plan Fault
put_both regions joined t hints k =
    if nat_lt packet_limit (length (rest_text t hints k)) then Err (over_extended (told (length (rest_text t hints k))))
    else put_among regions joined (segments_text (front_packet t hints k) (Some (rest_text t hints k)))

-- even the packet of the note without a property is too long for a segment
abbrev pub over_segment : ℕ → Fault
over_segment least = record { rule = SegmentLimit; place = record { part = Main; at = 0 }; x = least; y = main_limit }

-- As many first properties stand in the main packet as its segment has room for, and the others in an extended text (XMP Part 3, section
-- 1.1.3.1).
abbrev pub IsDivided : List Region → List FileSpan → Parts → List Hint → Result Plan Fault → Type 0
IsDivided regions joined t hints step =
    ((k : ℕ) × IsSplit t hints main_limit k × (step ≡ put_both regions joined t hints k))
    ⊎ ((least : ℕ) × FitsNever t hints main_limit least × (step ≡ Err (over_segment least)))

-- The packet of the whole tree stands in a segment; a tree that is too long for that is divided.
abbrev pub IsRelocated : List Region → List FileSpan → Edited → Result Plan Fault → Type 0
IsRelocated regions joined e step =
    ((least_of e ≤ main_limit) × (step ≡ put_among regions joined (segments_text (packet_of e (segment_padded (least_of e))) None)))
    ⊎ ((main_limit < least_of e) × IsDivided regions joined e.new e.hints step)

-- The first directory of a TIFF file would need an entry more than a directory may have.
abbrev pub over_entries : Fault
over_entries = record { rule = TiffLimit; place = record { part = File; at = 0 }; x = 65536; y = 65535 }

-- the new file is longer than the numbers of a classic TIFF file tell
abbrev pub over_offsets : ℕ → Fault
over_offsets size = record { rule = TiffLimit; place = record { part = File; at = 0 }; x = size; y = most_classic }

-- The parts of a relocated TIFF file: the old one with a count and an offset exchanged, or the header's offset; a zero byte after an odd
-- length; the four parts of the copy of the first directory, where it has no entry of the packet; and the packet.
abbrev pub appended_parts : ℕ → Tiff → List ℕ → List Part
appended_parts size tiff packet =
    let copy = new_copy size (length packet) tiff in
    Old (span 0 (changed tiff).start) ∷ New (new_numbers size (length packet) tiff) ∷ Old (span (changed tiff).end size)
    ∷ New (pad size ++ copy.head) ∷ Old copy.before ∷ New copy.entry ∷ Old copy.after ∷ New packet ∷ []

-- the packet at the end of a TIFF file of so many bytes, or why it doesn't come there
abbrev pub put_last : ℕ → Tiff → List ℕ → Result Plan Fault
put_last size tiff packet =
    if lacks_room tiff then Err over_entries
    else (if tells tiff.layout (packet_place size tiff + length packet) then within_out (appended_parts size tiff packet)
    else Err (over_offsets (packet_place size tiff + length packet)))

-- The file that has the new packet in another place, or the first fault. A sidecar is nothing but its packet.
abbrev pub IsRelocation : Container → List FileSpan → Edited → Result Plan Fault → Type 0
IsRelocation Text joined e step = step ≡ Ok (Relocated (New (packet_of e (least_of e + padding)) ∷ []))
IsRelocation (Segments regions) joined e step = IsRelocated regions joined e step
IsRelocation (Directories size tiff) joined e step = step ≡ put_last size tiff (packet_of e (least_of e + padding))

abbrev pub OrRelocation : Option (Result Plan Fault) → Container → List FileSpan → Edited → Result Plan Fault → Type 0
OrRelocation (Some known) container portions e step = step ≡ known
OrRelocation None container portions e step = IsRelocation container portions e step

-- what becomes of a file whose tree changes; `portions` are those of the extended text, if one was joined
abbrev pub IsMoved : Option Piece → Container → List FileSpan → Bool → Bool → Edited → Result Plan Fault → Type 0
IsMoved payload container portions joined patch e step = OrRelocation (unmoved payload container joined patch e) container portions e step

-- a tree that stays: nothing changes but a digest that is renewed
abbrev pub stays : Container → Option (List ℕ) → Plan
stays container None = Same
stays container (Some digest) = InPlace (digest_pieces container (Some digest))

-- what becomes of a file, by its payload and how it is made up
abbrev pub IsEdited : Option Piece → Container → List FileSpan → Bool → Bool → Edited → Result Plan Fault → Type 0
IsEdited payload container portions joined patch e step =
    ((e.new ≡ e.old) × (step ≡ Ok (stays container e.digest)))
    ⊎ ((e.new ≢ e.old) × IsMoved payload container portions joined patch e step)

-- what becomes of the file; `joined` says that an extended text was read, and `patch` that the file may not be written anew
abbrev pub IsPlanned : Kept → Bool → Bool → Edited → Result Plan Fault → Type 0
IsPlanned kept joined patch e step = IsEdited kept.payload kept.container kept.portions joined patch e step

-- the length of the new file
abbrev pub planned_len : ℕ → Plan → ℕ
planned_len size Same = size
planned_len size (InPlace pieces) = size
planned_len size (Relocated parts) = parts_len parts

-- that the texts of a tree, whole and in two, may be written with these hints, which are in memory
pub record MayPlan (t : Parts) (hints : List Hint) : Type 0 where
  pub whole : MayWrite t hints (whole_form t)
  pub few : length hints < 2 ^ 63

-- Two conditions on the old file, under which a new one is read as its tree: in a TIFF file the replaced numbers meet no other
-- named range, and no portion that stays bears the name of a new extended text.
abbrev pub IsApartIn : Container → Type 0
IsApartIn Text = Unit {0}
IsApartIn (Segments regions) = Unit {0}
IsApartIn (Directories size tiff) = IsApart tiff

abbrev pub Apart : Container → Plan → Type 0
Apart container Same = Unit {0}
Apart container (InPlace pieces) = Unit {0}
Apart container (Relocated parts) = IsApartIn container

abbrev pub NoStrayIn : List ℕ → List Region → List FileSpan → Edited → Plan → Type 0
NoStrayIn file regions joined e Same = Unit {0}
NoStrayIn file regions joined e (InPlace pieces) = Unit {0}
NoStrayIn file regions joined e (Relocated parts) =
    (k : ℕ) → main_limit < least_of e → IsSplit e.new e.hints main_limit k → HasNoStray file joined regions (name_text (rest_text e.new e.hints k))

abbrev pub NoStray : List ℕ → Container → List FileSpan → Edited → Plan → Type 0
NoStray file Text joined e plan = Unit {0}
NoStray file (Segments regions) joined e plan = NoStrayIn file regions joined e plan
NoStray file (Directories size tiff) joined e plan = Unit {0}
