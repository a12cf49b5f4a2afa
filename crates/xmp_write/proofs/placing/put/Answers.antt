use Rattle.std.proofs.Common.{arith, sym, ◌∙◌}
use Rattle.xmp_write.proofs.PlacedPieces.{piece_within, put_past}
use Rattle.xmp_write.proofs.placing.put.Goals as goal
use Rattle.xmp_write.proofs.placing.put.Goals.{then-at-to, else-at-to}

pub returns : goal.returns
returns c = record {
  after_is = c.saturating_add.ensures;
  written = elim c.if-at-to.branch [
    | then-at-to w ↦
        w.to-is ∙ piece_within c.args.at w.min-within.result _ c.args.to.now c.args.piece.now w.copy_from_slice.new.self w.if-at-to.true w.min-within.ensures (omega arith) w.copy_from_slice.ensures.after
    | else-at-to w ↦ w.to-is ∙ sym (put_past c.args.at c.args.to.now c.args.piece.now w.if-at-to.false)
  ];
  held = omega arith;
}
