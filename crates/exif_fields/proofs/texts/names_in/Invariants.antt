use Rattle.std.proofs.Common.{◌≡◌, ◌++◌, length}
use Rattle.exif_fields.specs.Fields.{names_in}
use Rattle.exif_fields.proofs.texts.names_in.Given as goal

abbrev pub decreases-loop-name : goal.decreases-loop-name
decreases-loop-name l = length l.rest

abbrev pub invariant-loop-name : goal.invariant-loop-name
invariant-loop-name l = names_in l.text ≡ l.names ++ names_in l.rest
