use Rattle.jpeg_regions.proofs.Faults.{cuts_same, fault_same, list_or_fault}
use Rattle.jpeg_regions.proofs.laws.one_answer.Goals as goal

pub returns : goal.returns
returns c = record {
  list = λ file a b x y. cuts_same file a b x.cuts y.cuts;
  fault = fault_same;
  either = list_or_fault;
}
