-- The entries of a directory by its bytes.
use Rattle.std.specs.Prelude.{◌≡◌, ℕ, All, Bool, false, List, Ok, Err, Some, None}
use Rattle.std.specs.declared.result.Result.{Result}
use Rattle.tiff_dirs.specs.declared.layout.Layout.{Layout}
use Rattle.tiff_dirs.specs.declared.entry.Entry.{Entry}
use Rattle.tiff_dirs.specs.declared.body.Entries.{Entries}
use Rattle.tiff_dirs.specs.declared.stop.TiffStop.{TiffStop}
use Rattle.tiff_dirs.specs.Faults.{entries_fault}
use Rattle.tiff_dirs.specs.Parts.{entries_in_part}
use Rattle.tiff_dirs.specs.Walking.{Lies}

abbrev pub entries_of : Entries → List Entry
entries_of e = entries_in_part e.layout e.part.start e.part.bytes.now 0 e.count

-- no entry has a fault, so that the values of all lie in the file, or the first fault
abbrev pub CheckAnswer : Layout → ℕ → Bool → List Entry → Result (Unit {0}) TiffStop → Type 0
CheckAnswer l len first all (Ok done) = (entries_fault l len first false all ≡ None) × All (Lies l len) all
CheckAnswer l len first all (Err stop) = entries_fault l len first false all ≡ Some stop
