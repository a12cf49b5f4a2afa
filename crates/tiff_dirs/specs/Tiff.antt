-- What a file of directories is to its reader.
use Rattle.std.specs.Prelude.{ℕ, List, [], ◌∷◌, map, flat_map, Some, None}
use Rattle.std.specs.declared.option.Option.{Option}
use Rattle.xmp_base.specs.declared.file_span.FileSpan.{FileSpan}
use Rattle.tiff_dirs.specs.declared.layout.Layout.{Layout}
use Rattle.tiff_dirs.specs.declared.entry.Entry.{Entry}
use Rattle.tiff_dirs.specs.Layouts.{layout_of}
use Rattle.tiff_dirs.specs.Directories.{entries_at, end_at}
use Rattle.tiff_dirs.specs.Pictures.{pictures_of, spans_of, first_of_tag}

-- a directory: its offset, its end after the offset of the next, and its entries
pub record Dir : Type 0 where
  pub at : ℕ
  pub end : ℕ
  pub entries : List Entry

abbrev pub dir_at : Layout → List ℕ → ℕ → Dir
dir_at l file at = record { at = at; end = end_at l file at; entries = entries_at l file at }

-- the layout, the directories as they are reached, and the picture ranges of each in turn
pub record Tiff : Type 0 where
  pub layout : Layout
  pub dirs : List Dir
  pub pictures : List FileSpan

-- the picture ranges of the directory at an offset
abbrev pub pictures_at : Layout → List ℕ → ℕ → List FileSpan
pictures_at l file at = spans_of (pictures_of l file (entries_at l file at))

-- the file whose directories stand at these offsets
abbrev pub tiff_of : List ℕ → List ℕ → Tiff
tiff_of file offsets = record {
  layout = layout_of file;
  dirs = map (dir_at (layout_of file) file) offsets;
  pictures = flat_map (pictures_at (layout_of file) file) offsets;
}

-- the entries of a directory that is there
abbrev pub entries_in : Option Dir → List Entry
entries_in None = []
entries_in (Some d) = d.entries

-- the first entry of a tag in the first directory
abbrev pub first_entry : ℕ → List Dir → Option Entry
first_entry tag [] = None
first_entry tag (d ∷ ds) = first_of_tag tag d.entries
