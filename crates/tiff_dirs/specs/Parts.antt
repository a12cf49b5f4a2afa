-- Entries in a part of a file, which begins at a place `start`.
use Rattle.std.specs.Prelude.{◌≡◌, ℕ, zero, suc, ◌+◌, ◌*◌, nat_le, if◌then◌else◌, List, [], ◌∷◌, length, take, drop}
use Rattle.xmp_base.specs.declared.file_span.FileSpan.{FileSpan}
use Rattle.tiff_dirs.specs.declared.layout.Layout.{Layout}
use Rattle.tiff_dirs.specs.declared.entry.Entry.{Entry}
use Rattle.tiff_dirs.specs.Numbers.{number}
use Rattle.tiff_dirs.specs.Types.{size_of}
use Rattle.tiff_dirs.specs.Directories.{span}

-- bytes of a file from a place on
abbrev pub IsPart : List ℕ → ℕ → List ℕ → Type 0
IsPart part start file = part ≡ take (length part) (drop start file)

unfoldable pub value_in : Layout → ℕ → List ℕ → ℕ → ℕ → FileSpan
value_in l start part at size =
    if nat_le size l.word then span (start + at) (start + at + size)
    else span (number l.big l.word at part) (number l.big l.word at part + size)

unfoldable pub entry_in : Layout → ℕ → List ℕ → ℕ → Entry
entry_in l start part at = record {
  place = start + at;
  tag = number l.big 2 at part;
  code = number l.big 2 (at + 2) part;
  count = number l.big l.word (at + 4) part;
  value = value_in l start part (at + 4 + l.word) (size_of l (number l.big 2 (at + 2) part) * number l.big l.word (at + 4) part);
}

abbrev pub entries_in_part : Layout → ℕ → List ℕ → ℕ → ℕ → List Entry
entries_in_part l start part at zero = []
entries_in_part l start part at (suc n) = entry_in l start part at ∷ entries_in_part l start part (at + l.entry) n
