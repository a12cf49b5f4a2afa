use Rattle.std.proofs.Common.{◌≡◌, map, take}
use Rattle.xmp_base.specs.FileDesk.{name_and_len}
use Rattle.xmp_base.proofs.Fresh.{unknown}
use Rattle.xmp_base.proofs.file_desk.FileDesk.new.Given as goal

abbrev pub invariant-loop-i : goal.invariant-loop-i
invariant-loop-i g l = map name_and_len l.names.items ≡ map unknown (take l.i l.words)
