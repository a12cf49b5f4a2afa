use Rattle.std.proofs.Common.{List, sym, subst, arith}
use Rattle.std.proofs.lemmas.List.Elements.{All-same}
use Rattle.tiff_dirs.specs.declared.pieces.Piece.{Piece}
use Rattle.tiff_dirs.specs.Kept.{Holds, InPiece}
use Rattle.tiff_dirs.proofs.Gathered.{removed, in_taken, all_taken}
use Rattle.tiff_dirs.proofs.pieces.short_after.Goals as goal

pub returns-then-len-clause-holds : goal.returns-then-len-clause-holds
returns-then-len-clause-holds c = λ file all.
    let old = c.loop-k.pieces.items in
    all_taken (Holds file) old c.remove.new.self.items c.remove.result
    (removed old c.loop-k.k c.remove.result c.remove.new.self.items (omega arith) c.remove.ensures.value c.remove.ensures.items) (All-same (Holds file) old c.args.pieces.now.items c.loop-k.invariant all)

pub returns-then-len-clause-inside : goal.returns-then-len-clause-inside
returns-then-len-clause-inside c = λ from to i.
    let old = c.loop-k.pieces.items in
    in_taken old c.remove.new.self.items c.remove.result from to
    (removed old c.loop-k.k c.remove.result c.remove.new.self.items (omega arith) c.remove.ensures.value c.remove.ensures.items)
    (subst (λ (ps : List Piece). InPiece ps from to) (sym c.loop-k.invariant) i)
