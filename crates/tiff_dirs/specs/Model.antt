-- What a walk answers: the file of directories, or its first fault.
use Rattle.std.specs.Prelude.{◌≡◌, ℕ, ◌<◌, ◌⊎◌, List, length}
use Rattle.xmp_values.specs.declared.rules.Rule.TheVariants.{ShortHeader}
use Rattle.tiff_dirs.specs.declared.stop.TiffStop.{TiffStop}
use Rattle.tiff_dirs.specs.declared.stop.TiffStop.TheVariants.{Fault}
use Rattle.tiff_dirs.specs.Layouts.{layout_of}
use Rattle.tiff_dirs.specs.Offsets.{Walks, Broken}
use Rattle.tiff_dirs.specs.Tiff.{Tiff, tiff_of}
use Rattle.tiff_dirs.specs.Overlaps.{Overlaps, NoOverlap}

-- every offset is without a fault
pub record Found (file : List ℕ) (tiff : Tiff) : Type 0 where
  pub offsets : List ℕ
  pub walks : Walks file offsets
  pub is : tiff ≡ tiff_of file offsets

-- and neither the packet nor the resources value meets another named range
pub record IsTiff (file : List ℕ) (tiff : Tiff) : Type 0 where
  pub found : Found file tiff
  pub clear : NoOverlap tiff

-- a file shorter than its header
pub record Short (file : List ℕ) (stop : TiffStop) : Type 0 where
  pub short : length file < (layout_of file).header
  pub named : stop ≡ Fault ShortHeader 0 0 0

-- every offset is without a fault, and two named ranges meet
pub record Overlapped (file : List ℕ) (stop : TiffStop) : Type 0 where
  pub tiff : Tiff
  pub found : Found file tiff
  pub overlaps : Overlaps tiff stop

-- the header, then the directories as they are reached, and last the named ranges
abbrev pub FirstFault : List ℕ → TiffStop → Type 0
FirstFault file stop = Short file stop ⊎ (Broken file stop ⊎ Overlapped file stop)
