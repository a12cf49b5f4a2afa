use Rattle.std.proofs.Common.{ℕ, ◌<◌, [], ◌∷◌, length, drop, sym, ap, ◌∙◌, arith, lit<}
use Rattle.std.proofs.lemmas.Bool.Decides.{nat_tests}
use Rattle.jpeg_regions.specs.Jpeg.{ended, unmarked, filling, no_tail, bad_marker, truncated}
use Rattle.jpeg_regions.proofs.Pieces.{none_left, one_left, first_byte, second_byte}
use Rattle.jpeg_regions.proofs.Found.{first_fill}
use Rattle.jpeg_regions.proofs.reading.Reading.begin.Goals as goal

pub returns-then-is_empty-clause-steps : goal.returns-then-is_empty-clause-steps
returns-then-is_empty-clause-steps c = λ file full same e.
    ended (ap (λ (k : ℕ). drop k file) (sym same) ∙ none_left (drop c.args.self.at file) c.args.piece.now 2 e (lit< tt) (grind (arith, nat_tests)))

pub returns-then-piece-clause-steps : goal.returns-then-piece-clause-steps
returns-then-piece-clause-steps c = λ file full same e.
    unmarked _ _ (ap (λ (k : ℕ). drop k file) (sym same) ∙ first_byte file c.args.piece.now c.args.self.at 2 e (grind (arith, nat_tests))) c.if-piece.true

pub returns-then-piece-eq1-clause-steps : goal.returns-then-piece-eq1-clause-steps
returns-then-piece-eq1-clause-steps c = λ file full same e.
    filling 1 (lit< tt) (ap (λ (k : ℕ). drop k file) (sym same) ∙ one_left (drop c.args.self.at file) c.args.piece.now 2 e (lit< tt) c.if-piece-eq1.true
    ∙ ap (λ (b : ℕ). b ∷ []) c.if-piece.false)

pub returns-else-piece-eq1-clause-steps : goal.returns-else-piece-eq1-clause-steps
returns-else-piece-eq1-clause-steps c = λ file full same e.
    let two : 1 < length c.args.piece.now = grind (arith, nat_tests) in
    c.mark.ensures.steps file full (first_fill file _ _ _ same (first_byte file c.args.piece.now c.args.self.at 2 e (omega arith)) c.if-piece.false)
    (second_byte file c.args.piece.now c.args.self.at 2 e two)

pub returns-then-is_empty-clause-progress : goal.returns-then-is_empty-clause-progress
returns-then-is_empty-clause-progress c = no_tail (grind (arith, nat_tests))

pub returns-then-piece-clause-progress : goal.returns-then-piece-clause-progress
returns-then-piece-clause-progress c = bad_marker (grind (arith, nat_tests))

pub returns-then-piece-eq1-clause-progress : goal.returns-then-piece-eq1-clause-progress
returns-then-piece-eq1-clause-progress c = truncated (omega (arith, c.if-piece-eq1.true))
