use Rattle.tiff_relocation.proofs.Joined.{new_file_is_walked}
use Rattle.tiff_relocation.proofs.laws.new_file_is_walked.Goals as goal

pub returns : goal.returns
returns c = new_file_is_walked
