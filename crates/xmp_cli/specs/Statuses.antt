-- The exit status of the program.
use Rattle.std.specs.Prelude.{ℕ}
use Rattle.xmp_cli.specs.declared.status.Status.{Status}
use Rattle.xmp_cli.specs.declared.status.Status.TheVariants.{Done, Findings, Usage, Refused, Device, Memory}

abbrev pub number_of : Status → ℕ
number_of Done = 0
number_of Findings = 1
number_of Usage = 2
number_of (Refused fault) = 3
number_of Device = 4
number_of Memory = 5
