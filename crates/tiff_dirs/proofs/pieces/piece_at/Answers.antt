use Rattle.std.proofs.Common.{ℕ, List, refl, sym, subst, inl, arith}
use Rattle.std.proofs.lemmas.List.Elements.{All-same}
use Rattle.tiff_dirs.specs.declared.pieces.Piece.{Piece}
use Rattle.tiff_dirs.specs.Parts.{IsPart}
use Rattle.tiff_dirs.specs.Kept.{Holds, InPiece}
use Rattle.tiff_dirs.proofs.Gathered.{removed, in_taken, all_taken}
use Rattle.tiff_dirs.proofs.pieces.piece_at.Goals as goal

pub returns-then-touches-clause-holds : goal.returns-then-touches-clause-holds
returns-then-touches-clause-holds c = λ file all.
    let old = c.loop-k.pieces.items in
    all_taken (Holds file) old c.remove.new.self.items c.remove.result
    (removed old c.loop-k.k c.remove.result c.remove.new.self.items (omega arith) c.remove.ensures.value c.remove.ensures.items) (All-same (Holds file) old c.args.pieces.now.items c.loop-k.invariant all)

pub returns-then-touches-clause-inside : goal.returns-then-touches-clause-inside
returns-then-touches-clause-inside c = λ from to i.
    let old = c.loop-k.pieces.items in
    in_taken old c.remove.new.self.items c.remove.result from to
    (removed old c.loop-k.k c.remove.result c.remove.new.self.items (omega arith) c.remove.ensures.value c.remove.ensures.items)
    (subst (λ (ps : List Piece). InPiece ps from to) (sym c.loop-k.invariant) i)

pub returns-clause-holds : goal.returns-clause-holds
returns-clause-holds c = λ file all.
    (subst (λ (t : List ℕ). IsPart t c.args.at file) (sym c.new.ensures.items) refl, All-same (Holds file) c.loop-k.pieces.items c.args.pieces.now.items c.loop-k.invariant all)

pub returns-clause-inside : goal.returns-clause-inside
returns-clause-inside c = λ from to i. inl (subst (λ (ps : List Piece). InPiece ps from to) (sym c.loop-k.invariant) i)
