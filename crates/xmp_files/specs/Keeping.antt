-- What is kept of a file.
use Rattle.std.specs.Prelude.{ℕ, List, [], length, if◌then◌else◌, Option, None, Some}
use Rattle.jpeg_regions.specs.Jpeg.{Region}
use Rattle.tiff_dirs.specs.declared.layout.Layout.{Layout}
use Rattle.tiff_dirs.specs.Types.{is_wide}
use Rattle.tiff_dirs.specs.Tiff.{Tiff}
use Rattle.xmp_files.specs.declared.kinds.Kind.{Kind}
use Rattle.xmp_files.specs.declared.kinds.Kind.TheVariants.{Jpeg, Tiff as Classic, BigTiff, Sidecar}
use Rattle.xmp_files.specs.declared.held.Need.{Need}
use Rattle.xmp_files.specs.declared.held.Extended.{Extended}
use Rattle.xmp_base.specs.declared.file_span.FileSpan.{FileSpan}

-- bytes, and the place in the file where they stand
pub record Piece : Type 0 where
  pub at : ℕ
  pub bytes : List ℕ

-- A block of Exif or of resources: its place and its length, and its bytes where it is within the limit of a block.
pub record Block : Type 0 where
  pub at : ℕ
  pub size : ℕ
  pub bytes : Option (List ℕ)

-- How a file is made up: a sidecar is nothing but its packet, a JPEG file is its regions, and a TIFF or BigTIFF file of so many
-- bytes has directories.
pub data Container : Type 0 where
  Text : Container
  Segments : (regions : List Region) → Container
  Directories : (size : ℕ) → (tiff : Tiff) → Container

-- the regions of a JPEG file
abbrev pub regions_in : Container → Option (List Region)
regions_in Text = None
regions_in (Segments regions) = Some regions
regions_in (Directories size tiff) = None

-- the directories of a TIFF file
abbrev pub directories_in : Container → Option Tiff
directories_in Text = None
directories_in (Segments regions) = None
directories_in (Directories size tiff) = Some tiff

pub record Kept : Type 0 where
  -- what was asked for
  pub need : Need
  pub kind : Kind
  -- the length of the file
  pub size : ℕ
  -- the payload of the main packet, if there is one
  pub payload : Option Piece
  pub container : Container
  -- where the payloads stand of the portions of the extended text that the note of the packet names, in the order of the file
  pub portions : List FileSpan
  -- the text that they join to, or why they don't; none without a portion
  pub extended : Option Extended
  -- the blocks of other metadata, where they were asked for
  pub blocks : List Block

-- of a sidecar, whose payload is the whole file
abbrev pub sidecar : Need → List ℕ → Kept
sidecar need bytes = record {
  need = need;
  kind = Sidecar;
  size = length bytes;
  payload = Some (record { at = 0; bytes = bytes });
  container = Text;
  portions = [];
  extended = None;
  blocks = [];
}

-- of a JPEG file of so many bytes
abbrev pub photograph : Need → ℕ → List Region → Option Piece → List FileSpan → Option Extended → Kept
photograph need size regions packet portions extended = record {
  need = need;
  kind = Jpeg;
  size = size;
  payload = packet;
  container = Segments regions;
  portions = portions;
  extended = extended;
  blocks = [];
}

-- the two layouts of directories are two kinds
abbrev pub kind_by : Layout → Kind
kind_by layout = if is_wide layout then BigTiff else Classic

-- of a TIFF or BigTIFF file of so many bytes
abbrev pub image : Need → ℕ → Tiff → Option Piece → Kept
image need size tiff packet = record {
  need = need;
  kind = kind_by tiff.layout;
  size = size;
  payload = packet;
  container = Directories size tiff;
  portions = [];
  extended = None;
  blocks = [];
}
