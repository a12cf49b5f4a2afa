-- An Exif block: a TIFF of its own (Exif 2.31, 4.5.2; TIFF 6.0, section 2), and its first fault.
use Rattle.std.specs.Prelude.{ℕ, zero, suc, ◌+◌, ◌*◌, ◌==◌, nat_le, ◌&&◌, ◌||◌, not, Bool, true, false, if◌then◌else◌, List, [], ◌∷◌, length, take, slice_index, slice_range, Option, Some, None, Result, Ok, Err}
use Rattle.std.specs.Str.{bytes_eq}
use Rattle.xmp_values.specs.declared.rules.Rule.{Rule}
use Rattle.xmp_values.specs.declared.rules.Rule.TheVariants.{ExifHeader, ExifDirectory, ExifValue}
use Rattle.tiff_dirs.specs.Numbers.{number}
use Rattle.exif_fields.specs.declared.block.Entry.{Entry}
use Rattle.exif_fields.specs.declared.raw.Met.{Met}
use Rattle.exif_fields.specs.Tags.{is_tag_in}
use Rattle.exif_fields.specs.Values.{with_value}

-- a header of 8 bytes: II and 42, or MM and 42, in that byte order, and the offset of the first directory
unfoldable pub has_header : List ℕ → Bool
has_header block =
    nat_le 8 (length block)
    && (bytes_eq (take 4 block) (0x49 ∷ 0x49 ∷ 0x2A ∷ 0 ∷ []) || bytes_eq (take 4 block) (0x4D ∷ 0x4D ∷ 0 ∷ 0x2A ∷ []))

abbrev pub is_big : List ℕ → Bool
is_big block = slice_index block 0 == 0x4D

-- An entry of 12 bytes: tag, type, count, and the value or its offset. A text of at most four bytes stands in the entry.
unfoldable pub entry_at : List ℕ → ℕ → Entry
entry_at block place = record {
  place = place;
  tag = number (is_big block) 2 place block;
  code = number (is_big block) 2 (place + 2) block;
  count = number (is_big block) 4 (place + 4) block;
  word = number (is_big block) 4 (place + 8) block;
}

-- where a text begins
abbrev pub text_start : Entry → ℕ
text_start e = if nat_le e.count 4 then e.place + 8 else e.word

-- so many entries, one after another
abbrev pub entries_from : List ℕ → ℕ → ℕ → List Entry
entries_from block place zero = []
entries_from block place (suc n) = entry_at block place ∷ entries_from block (place + 12) n

abbrev pub entry_count : List ℕ → ℕ → ℕ
entry_count block at = number (is_big block) 2 at block

-- the entries of a directory: a count, the entries, the offset of the next
unfoldable pub entries_at : List ℕ → ℕ → List Entry
entries_at block at = entries_from block (at + 2) (entry_count block at)

unfoldable pub lies_in : List ℕ → ℕ → Bool
lies_in block at = nat_le (at + 2) (length block) && nat_le (at + 6 + 12 * entry_count block at) (length block)

-- the first directory, whose offset isn't 0
unfoldable pub first_directory : List ℕ → Result ℕ (Rule × ℕ)
first_directory block =
    let at = number (is_big block) 4 4 block in
    if not (has_header block) then Err (ExifHeader, 0)
    else if at == 0 || not (lies_in block at) then Err (ExifDirectory, at)
    else Ok at

abbrev pub first_of : ℕ → List Entry → Option Entry
first_of tag [] = None
first_of tag (e ∷ es) = if e.tag == tag then Some e else first_of tag es

-- the offset that an entry names: one LONG, or one IFD
abbrev pub named : Option Entry → Option ℕ
named None = None
named (Some e) = if (e.code == 4 || e.code == 13) && e.count == 1 then Some e.word else None

abbrev pub lying : List ℕ → Option ℕ → Result (Option ℕ) (Rule × ℕ)
lying block None = Ok None
lying block (Some at) = if lies_in block at then Ok (Some at) else Err (ExifDirectory, at)

-- the Exif directory, which the first directory's first entry 34665 names, if it names one
unfoldable pub exif_directory : List ℕ → ℕ → Result (Option ℕ) (Rule × ℕ)
exif_directory block first = lying block (named (first_of 34665 (entries_at block first)))

-- the bytes of a text, if they lie in the block
abbrev pub text_at : List ℕ → Entry → Option (List ℕ)
text_at block e =
    if nat_le (text_start e + e.count) (length block) then Some (slice_range block (text_start e) (text_start e + e.count)) else None

abbrev pub with_text : List Met → Entry → Option (List ℕ) → Result (List Met) (Rule × ℕ)
with_text met e None = Err (ExifValue, e.place)
with_text met e (Some text) = Ok (with_value met e.tag (Some text))

-- one entry after the values that were met; type 2 is text
unfoldable pub with_entry : List ℕ → Bool → List Met → Entry → Result (List Met) (Rule × ℕ)
with_entry block exif met e =
    if not (is_tag_in exif e.tag) then Ok met
    else if not (e.code == 2) then Ok (with_value met e.tag None)
    else with_text met e (text_at block e)

abbrev pub with_entries : List ℕ → Bool → List Entry → Result (List Met) (Rule × ℕ) → Result (List Met) (Rule × ℕ)
with_entries block exif [] met = met
with_entries block exif (e ∷ es) (Err fault) = Err fault
with_entries block exif (e ∷ es) (Ok met) = with_entries block exif es (with_entry block exif met e)

-- those of the Exif directory after those of the first
abbrev pub with_exif : List ℕ → Result (Option ℕ) (Rule × ℕ) → Result (List Met) (Rule × ℕ) → Result (List Met) (Rule × ℕ)
with_exif block (Err fault) met = Err fault
with_exif block (Ok None) met = met
with_exif block (Ok (Some at)) met = with_entries block true (entries_at block at) met

abbrev pub values_from : List ℕ → Result ℕ (Rule × ℕ) → Result (List Met) (Rule × ℕ)
values_from block (Err fault) = Err fault
values_from block (Ok first) =
    with_exif block (exif_directory block first) (with_entries block false (entries_at block first) (Ok []))

-- The values of a block, or its first fault: the header, the directories, then the values, each in the order of the file.
unfoldable pub values_of : List ℕ → Result (List Met) (Rule × ℕ)
values_of block = values_from block (first_directory block)
