use Rattle.irb_iptc.proofs.Exchanged.{list_kept, block_inside, blocks_apart, others_kept}
use Rattle.irb_iptc.proofs.laws.exchange.Goals as goal

pub returns : goal.returns
returns c = record {
  list = list_kept;
  inside = λ bytes at listing i p l h. block_inside bytes at listing l i p h;
  apart = λ bytes at listing i j p q l h k ne. blocks_apart bytes at listing l i j p q h k ne;
  others = others_kept;
}
