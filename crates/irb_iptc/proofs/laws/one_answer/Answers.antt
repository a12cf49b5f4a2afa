use Rattle.irb_iptc.proofs.Exchanged.{one_list, one_fault, list_or_fault}
use Rattle.irb_iptc.proofs.laws.one_answer.Goals as goal

pub returns : goal.returns
returns c = record { list = one_list; fault = one_fault; either = list_or_fault }
