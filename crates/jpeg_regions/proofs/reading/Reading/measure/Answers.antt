use Rattle.std.proofs.Common.{arith}
use Rattle.jpeg_regions.specs.Jpeg.{bad_length, truncated}
use Rattle.jpeg_regions.proofs.Pieces.{first_two}
use Rattle.jpeg_regions.proofs.Found.{cut_short, low_here, short_here, length_read}
use Rattle.jpeg_regions.proofs.reading.Reading.measure.Goals as goal

pub returns-then-piece-lt2-clause-steps : goal.returns-then-piece-lt2-clause-steps
returns-then-piece-lt2-clause-steps c = λ file full a e. cut_short file _ _ _ a c.args.piece.now e c.if-piece-lt2.true

pub returns-then-length-lt2-clause-steps : goal.returns-then-length-lt2-clause-steps
returns-then-length-lt2-clause-steps c = λ file full a e.
    low_here file _ _ _ a _ _ (first_two file c.args.piece.now c.args.self.at 2 e c.if-piece-lt2.false) c.if-length-lt2.true

pub returns-then-self-payload-clause-steps : goal.returns-then-self-payload-clause-steps
returns-then-self-payload-clause-steps c = λ file full a e.
    short_here file _ _ _ a _ _ (first_two file c.args.piece.now c.args.self.at 2 e c.if-piece-lt2.false) _ full c.if-length-lt2.false c.if-self-payload.true

pub returns-clause-steps : goal.returns-clause-steps
returns-clause-steps c = λ file full a e.
    rw (c.with.ensures.wants, c.with.ensures.start, c.with.ensures.at)
    (length_read file _ _ _ a _ _ (first_two file c.args.piece.now c.args.self.at 2 e c.if-piece-lt2.false) c.if-length-lt2.false)

pub returns-then-piece-lt2-clause-progress : goal.returns-then-piece-lt2-clause-progress
returns-then-piece-lt2-clause-progress c = truncated (omega arith)

pub returns-then-length-lt2-clause-progress : goal.returns-then-length-lt2-clause-progress
returns-then-length-lt2-clause-progress c = bad_length (omega arith)

pub returns-then-self-payload-clause-progress : goal.returns-then-self-payload-clause-progress
returns-then-self-payload-clause-progress c = truncated (omega arith)
