use Rattle.std.proofs.Common.{◌≡◌, ◌+◌, ◌≤◌, take, drop, subst, arith}
use Rattle.std.proofs.lemmas.Bool.Decides.{nat_tests}
use Rattle.jpeg_regions.specs.declared.reading.Wants.{Wants}
use Rattle.jpeg_regions.specs.Wanted.{count_of}
use Rattle.jpeg_regions.specs.Reads.{Reads}
use Rattle.jpeg_regions.specs.Jpeg.{truncated}
use Rattle.jpeg_regions.specs.Wanted.{least_of}
use Rattle.jpeg_regions.proofs.Found.{fill_ends}
use Rattle.jpeg_regions.proofs.reading.Reading.step.Goals as goal

pub returns-in-Marker-clause-steps : goal.returns-in-Marker-clause-steps
returns-in-Marker-clause-steps c = λ file full read e.
    fill_ends file c.args.piece.now c.args.self.start c.args.self.at
    (subst (λ (w : Wants). Reads file c.args.self.start c.args.self.at w) c.in-Marker.is read)
    (subst (λ (w : Wants). c.args.piece.now ≡ take (count_of w) (drop c.args.self.at file)) c.in-Marker.is e)
    (grind (arith, nat_tests))

pub returns-in-Marker-clause-progress : goal.returns-in-Marker-clause-progress
returns-in-Marker-clause-progress c =
    let order = subst (λ (w : Wants). c.args.self.start + least_of w ≤ c.args.self.at) c.in-Marker.is c.args.self.order in
    truncated (omega (arith, order, c.args.self.room))
