-- From a tree and its edit to the bytes that are written.
use Rattle.std.specs.Prelude.{◌≡◌, ◌⊎◌, ℕ, ◌+◌, ◌-◌, ◌≤◌, ◌<◌, List, [], ◌∷◌, length, map, flat_map, sum_by, slice_get, All, Option}
use Rattle.xmp_values.specs.declared.hints.Hint.{Hint}
use Rattle.xmp_tree.specs.Parts.{Parts}
use Rattle.xmp_base.specs.Device.{put_at}
use Rattle.xmp_base.specs.declared.file_span.FileSpan.{FileSpan}
use Rattle.jpeg_regions.specs.Jpeg.{Region, Jpeg}
use Rattle.jpeg_extended.specs.FromDesk.{payload_at}
use Rattle.jpeg_relocation.specs.Relocation.{part_of, kept}
use Rattle.tiff_dirs.specs.Tiff.{Tiff}
use Rattle.tiff_dirs.specs.Model.{IsTiff}
use Rattle.tiff_relocation.specs.Relocation.{changed}
use Rattle.tiff_relocation.specs.Apart.{IsApart}
use Rattle.xmp_files.specs.Keeping.{Piece, Container, Text, Segments, Directories, Kept}

-- What a command makes of a file: the tree that was there, the new one with all hints, and the 16 bytes of the stored digest
-- where it is renewed. A script gives them, or the sources of reconciling.
pub record Edited : Type 0 where
  pub old : Parts
  pub new : Parts
  pub hints : List Hint
  pub digest : Option (List ℕ)

-- A part of a new file: a range of the old one, or new bytes.
pub data Part : Type 0 where
  Old : (range : FileSpan) → Part
  New : (bytes : List ℕ) → Part

abbrev pub part_bytes : List ℕ → Part → List ℕ
part_bytes file (Old range) = payload_at file range
part_bytes file (New bytes) = bytes

abbrev pub part_len : Part → ℕ
part_len (Old range) = range.end - range.start
part_len (New bytes) = length bytes

-- parts of a new file, one after another
abbrev pub parts_bytes : List ℕ → List Part → List ℕ
parts_bytes file parts = flat_map (part_bytes file) parts

abbrev pub parts_len : List Part → ℕ
parts_len parts = sum_by part_len parts

-- What becomes of the bytes: they stay; some are exchanged for as many; or there is a new file.
pub data Plan : Type 0 where
  Same : Plan
  InPlace : (pieces : List Piece) → Plan
  Relocated : (parts : List Part) → Plan

-- pieces put into a file, one after another
abbrev pub put_pieces : List ℕ → List Piece → List ℕ
put_pieces file [] = file
put_pieces file (p ∷ ps) = put_pieces (put_at file p.at p.bytes) ps

-- the file after a plan
abbrev pub planned_file : List ℕ → Plan → List ℕ
planned_file file Same = file
planned_file file (InPlace pieces) = put_pieces file pieces
planned_file file (Relocated parts) = parts_bytes file parts

-- a place in none of the ranges of these pieces
abbrev pub IsOutside : List Piece → ℕ → Type 0
IsOutside pieces place = All (λ p. (place < p.at) ⊎ (p.at + length p.bytes ≤ place)) pieces

-- two files have one length and are equal outside these ranges
pub record Agree (old new : List ℕ) (pieces : List Piece) : Type 0 where
  pub size : length new ≡ length old
  pub outside : (place : ℕ) → IsOutside pieces place → slice_get new place ≡ slice_get old place

-- A new JPEG file keeps the regions of the old one: all but its main packet and its new portions have the bytes of all but the old main
-- packet and the joined portions, in their order, the tail included (XMP Part 3, section 1.1.3).
pub record KeepsRegions (old : List ℕ) (regions : List Region) (joined : List FileSpan) (new : List ℕ) : Type 0 where
  pub list : List Region
  pub jpeg : Jpeg new list
  -- where the payloads of the new portions stand
  pub added : List FileSpan
  pub same : map (part_of new) (kept added list) ≡ map (part_of old) (kept joined regions)

-- A relocated TIFF file has all old bytes but the exchanged numbers; where no range names these too, its pictures have their old places and
-- bytes.
pub record KeepsRanges (old : List ℕ) (tiff : Tiff) (new : List ℕ) : Type 0 where
  pub outside : (place : ℕ) → place < length old → (place < (changed tiff).start) ⊎ ((changed tiff).end ≤ place) → slice_get new place ≡ slice_get old place
  pub pictures : IsApart tiff → All (λ r. payload_at new r ≡ payload_at old r) tiff.pictures
  pub same : IsApart tiff → (now : Tiff) → IsTiff new now → now.pictures ≡ tiff.pictures

-- what a relocation leaves of pictures and of what isn't metadata: a sidecar has neither
abbrev pub KeepsPictures : Container → List FileSpan → List ℕ → List ℕ → Type 0
KeepsPictures Text joined old new = Unit {0}
KeepsPictures (Segments regions) joined old new = KeepsRegions old regions joined new
KeepsPictures (Directories size tiff) joined old new = KeepsRanges old tiff new

-- what a plan leaves of a file
abbrev pub Frame : Kept → Plan → List ℕ → List ℕ → Type 0
Frame kept Same old new = new ≡ old
Frame kept (InPlace pieces) old new = Agree old new pieces
Frame kept (Relocated parts) old new = KeepsPictures kept.container kept.portions old new
