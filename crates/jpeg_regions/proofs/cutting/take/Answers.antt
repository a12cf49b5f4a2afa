use Rattle.std.proofs.Common.{subst, refl, ℕ, [], ◌∷◌, ◌++◌, map, Ok}
use Rattle.jpeg_regions.specs.declared.reading.Step.{Step}
use Rattle.jpeg_regions.specs.Reads.{Progress, Steps, Finds, Ends, FoundInner, FoundTail, region_of}
use Rattle.jpeg_regions.specs.Cutting.{Tiles}
use Rattle.jpeg_regions.proofs.Kept.{tiles_found, underway_more, cuts_here}
use Rattle.jpeg_regions.proofs.cutting.take.Goals as goal

pub returns-in-Ok-clause-numbers : goal.returns-in-Ok-clause-numbers
returns-in-Ok-clause-numbers c =
    let f : Finds c.args.reading.len c.args.reading.start c.args.reading.at c.args.reading.wants c.in-Ok-Inner.region =
    subst (λ (s : Step). Progress c.args.reading.len c.args.reading.start c.args.reading.at c.args.reading.wants (Ok s)) c.in-Ok-Inner.field-0-is c.in-Ok-Inner.ensures.progress in
    (c.new.ensures.len, rw (c.new.ensures.start, c.in-Ok.ensures.items) (tiles_found _ _ _ c.requires.numbers.1 f.same_start f.order f.payload))

pub returns-in-Ok-clause-answer : goal.returns-in-Ok-clause-answer
returns-in-Ok-clause-answer c = λ file full read e.
    let f : Finds c.args.reading.len c.args.reading.start c.args.reading.at c.args.reading.wants c.in-Ok-Inner.region =
    subst (λ (s : Step). Progress c.args.reading.len c.args.reading.start c.args.reading.at c.args.reading.wants (Ok s)) c.in-Ok-Inner.field-0-is c.in-Ok-Inner.ensures.progress in
    let i : FoundInner file c.in-Ok-Inner.region =
    subst (λ (s : Step). Steps file c.args.reading.start (Ok s)) c.in-Ok-Inner.field-0-is (c.in-Ok-Inner.ensures.steps file full read.1 e) in (
      rw (c.new.ensures.start, c.in-Ok.ensures.items) (underway_more file _ _ _ read.0 f.same_start i),
      rw (c.new.ensures.start, c.new.ensures.at, c.new.ensures.wants) refl,
    )

pub returns-in-Ok-push-clause-numbers : goal.returns-in-Ok-push-clause-numbers
returns-in-Ok-push-clause-numbers c =
    let f : Ends c.args.reading.len c.args.reading.start c.in-Ok-Last.region =
    subst (λ (s : Step). Progress c.args.reading.len c.args.reading.start c.args.reading.at c.args.reading.wants (Ok s)) c.in-Ok-Last.field-0-is c.in-Ok-Last.ensures.progress in
    rw (c.in-Ok-push.ensures.items) (subst (λ (k : ℕ). Tiles 2 k (map region_of (c.args.found.now.items ++ c.in-Ok-Last.region ∷ []))) f.end (tiles_found _ _ _ c.requires.numbers.1 f.same_start f.order f.payload))

pub returns-in-Ok-push-clause-answer : goal.returns-in-Ok-push-clause-answer
returns-in-Ok-push-clause-answer c = λ file full read e.
    let f : Ends c.args.reading.len c.args.reading.start c.in-Ok-Last.region =
    subst (λ (s : Step). Progress c.args.reading.len c.args.reading.start c.args.reading.at c.args.reading.wants (Ok s)) c.in-Ok-Last.field-0-is c.in-Ok-Last.ensures.progress in
    let i : FoundTail file c.in-Ok-Last.region =
    subst (λ (s : Step). Steps file c.args.reading.start (Ok s)) c.in-Ok-Last.field-0-is (c.in-Ok-Last.ensures.steps file full read.1 e) in
    rw (c.in-Ok-push.ensures.items) (cuts_here file _ _ _ read.0 f.same_start i)
