-- The line on `err` for each status.
use Rattle.std.specs.Prelude.{ℕ, List, [], ◌++◌, codes, decimal}
use Rattle.xmp_values.specs.declared.faults.Fault.{Fault}
use Rattle.xmp_values.specs.declared.faults.Part.{Part}
use Rattle.xmp_values.specs.declared.faults.Part.TheVariants.{File, Main, Extended, Script, Words, Exif, Iptc}
use Rattle.xmp_values.specs.Rules.{name_of}
use Rattle.xmp_cli.specs.declared.status.Status.{Status}
use Rattle.xmp_cli.specs.declared.status.Status.TheVariants.{Done, Findings, Usage, Refused, Device, Memory}

abbrev pub part_name : Part → List ℕ
part_name File = codes "file"
part_name Main = codes "main"
part_name Extended = codes "extended"
part_name Script = codes "script"
part_name Words = codes "words"
part_name Exif = codes "exif"
part_name Iptc = codes "iptc"

-- the rule's name, the part, and the place and both numbers in decimal
abbrev pub refused_line : Fault → List ℕ
refused_line fault =
    codes "refused " ++ name_of fault.rule ++ codes " " ++ part_name fault.place.part
    ++ codes " " ++ decimal fault.place.at ++ codes " " ++ decimal fault.x ++ codes " " ++ decimal fault.y ++ codes "\n"

abbrev pub usage_line : List ℕ
usage_line = codes "usage: xmp get FILE PATH | tree FILE | set FILE OUT PATH VALUE | apply FILE OUT SCRIPT | patch FILE SCRIPT | reconcile FILE OUT | check FILE | demo NUMBER | sync FILE OUT\n"

abbrev pub line : Status → List ℕ
line Done = []
line Findings = []
line Usage = usage_line
line (Refused fault) = refused_line fault
line Device = codes "device\n"
line Memory = codes "memory\n"
