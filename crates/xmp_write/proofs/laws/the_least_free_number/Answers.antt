use Rattle.xmp_write.proofs.Numbers.{least_tried}
use Rattle.xmp_write.proofs.FreeNumbers.{free_number-free}
use Rattle.xmp_write.proofs.laws.the_least_free_number.Goals as goal

pub returns : goal.returns
returns c = record { free = free_number-free; least = least_tried }
