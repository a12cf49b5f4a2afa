use Rattle.xmp_files.proofs.Patches.{file_patched}
use Rattle.xmp_files.proofs.laws.file_is_patched.Goals as goal

pub returns : goal.returns
returns c = file_patched c.document_or_fault.ensures
