use Rattle.std.proofs.Common.{inl, inr, refl, arith}
use Rattle.irb_iptc.proofs.Blocks.{cut_in_body, found}
use Rattle.irb_iptc.proofs.head.block_of.Goals as goal
use Rattle.irb_iptc.proofs.head.block_of.Goals.{then-room-size-2, else-room-size-2}

pub returns-then-room-size-clause-is : goal.returns-then-room-size-clause-is
returns-then-room-size-clause-is c = λ rest size named read.
    cut_in_body rest c.args.id c.args.size_at named c.args.piece.now read c.requires.piece (omega (arith, c.read_u32-size.ensures))

pub returns-clause-is : goal.returns-clause-is
returns-clause-is c = λ rest size named read.
    found rest c.args.id c.args.size_at named c.args.piece.now read c.requires.piece c.read_u32-size.result c.if-room-size-2.pad c.read_u32-size.ensures (omega arith)
    (elim c.if-room-size-2.branch [
      | then-room-size-2 w ↦ inl (omega arith, omega (arith, size))
      | else-room-size-2 w ↦ inr (omega arith, omega (arith, size))
    ]) _ refl refl refl refl
