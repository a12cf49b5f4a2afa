-- What a walk of a known file of a device does.
use Rattle.std.specs.Prelude.{◌≡◌, ℕ, List, Err}
use Rattle.std.specs.declared.result.Result.{Result}
use Rattle.xmp_base.specs.Device.{DeskState, Told, Rose, bytes_of}
use Rattle.tiff_dirs.specs.declared.stop.WalkStop.{WalkStop}
use Rattle.tiff_dirs.specs.declared.stop.WalkStop.TheVariants as walk
use Rattle.tiff_dirs.specs.Tiff.{Tiff}
use Rattle.tiff_dirs.specs.FromDesk.{WalkReads, WalkFromAnswer}

-- The clauses of `walk_known`, from the desk's state s to t: those of `walk_from`, and the desk isn't asked for the length.
pub record WalkKnownCall (s t : DeskState) (name : List ℕ) (result : Result Tiff WalkStop) : Type 0 where
  pub calls : WalkReads s t name
  pub lens : t.lens ≡ s.lens
  pub told : Told s.files (λ files. WalkFromAnswer (bytes_of files name) result)
  pub device : result ≡ Err walk.Device → Rose s.faults t.faults
