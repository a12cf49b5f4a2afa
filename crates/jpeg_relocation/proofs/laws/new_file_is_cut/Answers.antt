use Rattle.jpeg_relocation.proofs.Relocated.{new_file_is_cut, main_is_packet, kept_is_same}
use Rattle.jpeg_relocation.proofs.laws.new_file_is_cut.Goals as goal

pub returns-clause-cut : goal.returns-clause-cut
returns-clause-cut c = new_file_is_cut

pub returns-clause-main : goal.returns-clause-main
returns-clause-main c = main_is_packet

pub returns-clause-same : goal.returns-clause-same
returns-clause-same c = kept_is_same
