use Rattle.std.proofs.Common.{arith}
use Rattle.jpeg_regions.proofs.Found.{sized_found}
use Rattle.jpeg_regions.proofs.reading.Reading.complete.Goals as goal

pub returns-clause-found : goal.returns-clause-found
returns-clause-found c = λ file full a e. rw (c.find.ensures, c.kind_of.ensures) (sized_found file _ _ _ _ a (omega (arith, full)) _ e)
