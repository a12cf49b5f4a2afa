-- From a TIFF or BigTIFF file to what is kept of it (TIFF 6.0, section 2; XMP Specification Part 3, section 1.1.2).
use Rattle.std.specs.Prelude.{◌≡◌, ℕ, Bool, true, false, List, length, Option, Ok, Err}
use Rattle.std.specs.Option.{option_map}
use Rattle.std.specs.declared.result.Result.{Result}
use Rattle.xmp_values.specs.declared.faults.Fault.{Fault}
use Rattle.xmp_values.specs.declared.faults.Part.TheVariants.{File}
use Rattle.xmp_values.specs.declared.rules.Rule.{Rule}
use Rattle.xmp_values.specs.declared.rules.Rule.TheVariants.{TwoPackets, ShortHeader, DirectoryOut, DirectoryTwice, TooManyDirectories, ValueOut, RegionOut, PacketType, Overlap, DirectoryLong}
use Rattle.tiff_dirs.specs.declared.stop.TiffStop.TheVariants as stops
use Rattle.tiff_dirs.specs.Tiff.{Tiff, first_entry}
use Rattle.tiff_dirs.specs.Model.{IsTiff, FirstFault}
use Rattle.xmp_files.specs.declared.kinds.Kind.{Kind}
use Rattle.xmp_files.specs.declared.kinds.Kind.TheVariants.{Tiff as Classic, BigTiff}
use Rattle.xmp_files.specs.declared.held.Need.{Need}
use Rattle.xmp_files.specs.Keeping.{Piece, Kept, image}
use Rattle.xmp_files.specs.Photographs.{piece_at}

-- the kinds that have directories
abbrev pub HasDirectories : Kind → Type 0
HasDirectories Classic = Unit {0}
HasDirectories BigTiff = Unit {0}
HasDirectories kind = ⊥

-- the packet is the value of the first entry 700 of the first directory
abbrev pub tiff_packet : List ℕ → Tiff → Option Piece
tiff_packet file tiff = option_map (λ e. piece_at file e.value) (first_entry 700 tiff.dirs)

-- the rules of directories
abbrev pub is_walk_rule : Rule → Bool
is_walk_rule TwoPackets = true
is_walk_rule ShortHeader = true
is_walk_rule DirectoryOut = true
is_walk_rule DirectoryTwice = true
is_walk_rule TooManyDirectories = true
is_walk_rule ValueOut = true
is_walk_rule RegionOut = true
is_walk_rule PacketType = true
is_walk_rule Overlap = true
is_walk_rule DirectoryLong = true
is_walk_rule rule = false

-- a broken rule at a place of the file, with its numbers
abbrev pub image_fault : Rule → ℕ → ℕ → ℕ → Fault
image_fault rule place x y = record { rule = rule; place = record { part = File; at = place }; x = x; y = y }

-- what is kept of a file whose directories can be walked: these, and the packet
pub record IsImage (need : Need) (file : List ℕ) (kept : Kept) : Type 0 where
  pub tiff : Tiff
  pub walked : IsTiff file tiff
  pub is : kept ≡ image need (length file) tiff (tiff_packet file tiff)

-- what is kept of such a file, or its first fault
abbrev pub IsWalked : Need → List ℕ → Result Kept Fault → Type 0
IsWalked need file (Ok kept) = IsImage need file kept
IsWalked need file (Err fault) = (rule : Rule) × (place : ℕ) × (x : ℕ) × (y : ℕ) × FirstFault file (stops.Fault rule place x y) × (fault ≡ image_fault rule place x y)
