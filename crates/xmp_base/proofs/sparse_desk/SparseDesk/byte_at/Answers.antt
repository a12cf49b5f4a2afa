use Rattle.std.proofs.Common.{sym, ap, ◌∙◌, ℕ}
use Rattle.std.specs.declared.option.Option.{Option}
use Rattle.std.specs.Option.{unwrap_or}
use Rattle.xmp_base.specs.Sparse.{SparseFile}
use Rattle.xmp_base.proofs.OnSparse.{byte_step, byte_last}
use Rattle.xmp_base.proofs.sparse_desk.SparseDesk.byte_at.Goals as goal

pub loop-piece-preserved : goal.loop-piece-preserved
loop-piece-preserved c =
    sym (byte_step _ _ _ _ _ c.piece-item.result c.loop-piece-test.true c.piece-item.is
    (c.unwrap_or-byte.ensures ∙ ap (λ (o : Option ℕ). unwrap_or o c.loop-piece.byte) c.piece_byte.ensures))
    ∙ c.loop-piece.invariant

pub returns : goal.returns
returns c = byte_last c.args.self.now c.self.inside.pieces.items _ _ _ _ c.loop-piece.invariant c.loop-piece-test.false c.deref-piece-items.ensures.value
    (ap (λ (s : SparseFile). s.pieces) c.self.view_is)
