use Rattle.xmp_files.proofs.Writes.{file_written}
use Rattle.xmp_files.proofs.laws.file_is_written.Goals as goal

pub returns : goal.returns
returns c = file_written
