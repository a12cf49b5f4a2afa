use Rattle.std.proofs.Common.{◌∙◌, sym, arith}
use Rattle.jpeg_regions.specs.Jpeg.{bad_marker}
use Rattle.jpeg_regions.proofs.Found.{fill_more, refused_here, single_found, tail_found}
use Rattle.jpeg_regions.proofs.reading.Reading.mark.Goals as goal

pub returns-in-Fill-clause-steps : goal.returns-in-Fill-clause-steps
returns-in-Fill-clause-steps c = λ file full a e. rw (c.with.ensures.wants, c.with.ensures.start, c.with.ensures.at) (fill_more _ _ _ _ a e (sym c.class_of.ensures ∙ c.in-Fill.is))

pub returns-in-Refused-clause-steps : goal.returns-in-Refused-clause-steps
returns-in-Refused-clause-steps c = λ file full a e. refused_here _ _ _ _ a e (sym c.class_of.ensures ∙ c.in-Refused.is)

pub returns-in-Single-clause-steps : goal.returns-in-Single-clause-steps
returns-in-Single-clause-steps c = λ file full a e. rw c.find.ensures (single_found _ _ _ _ a e (sym c.class_of.ensures ∙ c.in-Single.is))

pub returns-in-Last-clause-steps : goal.returns-in-Last-clause-steps
returns-in-Last-clause-steps c = λ file full a e. rw c.find-in-Last.ensures (tail_found _ _ _ _ a e _ full c.requires.within (sym c.class_of.ensures ∙ c.in-Last.is))

pub returns-in-Refused-clause-progress : goal.returns-in-Refused-clause-progress
returns-in-Refused-clause-progress c = bad_marker (omega arith)
