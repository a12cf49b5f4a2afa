-- How the parts of a new file are kept: as ranges of the old file, and of new bytes that stand together.
use Rattle.std.specs.Prelude.{◌≡◌, ℕ, ◌≤◌, All, List, [], ◌∷◌, ◌++◌, length, map}
use Rattle.xmp_base.specs.declared.file_span.FileSpan.{FileSpan}
use Rattle.jpeg_regions.specs.Jpeg.{span}
use Rattle.jpeg_extended.specs.FromDesk.{payload_at}
use Rattle.xmp_files.specs.declared.parts.FilePart.{FilePart}
use Rattle.xmp_files.specs.declared.parts.FilePart.TheVariants as kept
use Rattle.xmp_files.specs.declared.parts.NewFile.{NewFile}
use Rattle.tiff_relocation.specs.declared.relocation.Relocation.{Relocation}
use Rattle.tiff_relocation.specs.Relocation.{pad}
use Rattle.tiff_relocation.specs.Moves.{copy_entry, copy_head, numbers}
use Rattle.xmp_files.specs.declared.appending.Ends.{Ends}
use Rattle.xmp_files.specs.Planning.{Part, Old, New, parts_len}

-- a part, of these new bytes
abbrev pub part_at : List ℕ → FilePart → Part
part_at bytes (kept.Old range) = Old range
part_at bytes (kept.New range) = New (payload_at bytes range)

abbrev pub parts_at : List ℕ → List FilePart → List Part
parts_at bytes parts = map (part_at bytes) parts

abbrev pub range_of : FilePart → FileSpan
range_of (kept.Old range) = range
range_of (kept.New range) = range

-- where the range of a part must end: in the old file of this length, or among so many new bytes
abbrev pub end_of : ℕ → ℕ → FilePart → ℕ
end_of size count (kept.Old range) = size
end_of size count (kept.New range) = count

abbrev pub PartLies : ℕ → ℕ → FilePart → Type 0
PartLies size count part = ((range_of part).start ≤ (range_of part).end) × ((range_of part).end ≤ end_of size count part)

-- the ranges of a new file lie in the old one of this length and among the new bytes, and its length is theirs
pub record NewLies (size : ℕ) (new : NewFile) : Type 0 where
  pub lie : All (PartLies size (length new.bytes)) new.parts.items
  pub sums : new.len ≡ parts_len (parts_at new.bytes new.parts.items)

-- a file with the bytes from one place up to another exchanged for so many new ones
abbrev pub spliced_parts : ℕ → ℕ → ℕ → ℕ → List FilePart
spliced_parts at count rest size = kept.Old (span 0 at) ∷ kept.New (span 0 count) ∷ kept.Old (span rest size) ∷ []

-- ranges of the old file, as parts
abbrev pub old_parts : List FileSpan → List FilePart
old_parts runs = map (λ r. kept.Old r) runs

-- the parts of a relocated JPEG file: FF D8, ranges of the old file before so many new bytes, and after them
abbrev pub kept_parts : List FileSpan → List FileSpan → ℕ → List FilePart
kept_parts before after count = (kept.Old (span 0 2) ∷ old_parts before) ++ (kept.New (span 0 count) ∷ old_parts after)

-- the parts of a relocated TIFF file, by where each part of its new bytes ends
abbrev pub last_parts : Relocation → Ends → List FilePart
last_parts r ends =
    kept.Old (span 0 r.changed.start) ∷ kept.New (span 0 ends.numbers) ∷ kept.Old (span r.changed.end r.size)
    ∷ kept.New (span ends.numbers ends.head) ∷ kept.Old r.before ∷ kept.New (span ends.head ends.entry) ∷ kept.Old r.after
    ∷ kept.New (span ends.entry ends.packet) ∷ []

-- the same by the bytes themselves
abbrev pub moved_parts : Relocation → List ℕ → List Part
moved_parts r packet =
    Old (span 0 r.changed.start) ∷ New (numbers r (length packet)) ∷ Old (span r.changed.end r.size)
    ∷ New (pad r.size ++ copy_head r) ∷ Old r.before ∷ New (copy_entry r (length packet)) ∷ Old r.after ∷ New packet ∷ []

-- new bytes that stand together, and where their parts end
pub record AreNew (r : Relocation) (packet items : List ℕ) (ends : Ends) : Type 0 where
  pub is : items ≡ numbers r (length packet) ++ (pad r.size ++ copy_head r) ++ copy_entry r (length packet) ++ packet
  pub numbers_end : ends.numbers ≡ length (numbers r (length packet))
  pub head_end : ends.head ≡ length (numbers r (length packet) ++ (pad r.size ++ copy_head r))
  pub entry_end : ends.entry ≡ length (numbers r (length packet) ++ (pad r.size ++ copy_head r) ++ copy_entry r (length packet))
  pub packet_end : ends.packet ≡ length items
