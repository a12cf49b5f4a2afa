use Rattle.std.proofs.Common.{Ok, ap, sym, ◌∙◌, arith}
use Rattle.xmp_base.specs.Device.{bytes_of}
use Rattle.tiff_dirs.proofs.Admitting.{too_many, twice, out, long, admitted}
use Rattle.tiff_dirs.proofs.directory.admit.Goals as goal

pub returns-then-before-ge-MOST_DIRECTORIES-clause-answer : goal.returns-then-before-ge-MOST_DIRECTORIES-clause-answer
returns-then-before-ge-MOST_DIRECTORIES-clause-answer g c = λ files told. too_many c.args.layout (bytes_of files c.args.name.now) c.args.before.now c.args.at (omega arith)

pub returns-then-contains-clause-answer : goal.returns-then-contains-clause-answer
returns-then-contains-clause-answer g c = λ files told.
    twice c.args.layout (bytes_of files c.args.name.now) c.args.before.now c.args.at (omega arith) (sym c.contains.ensures.value ∙ c.if-contains.true)

pub returns-in-Ok-None-clause-answer : goal.returns-in-Ok-None-clause-answer
returns-in-Ok-None-clause-answer g c = λ files told.
    out c.args.layout (bytes_of files c.args.name.now) c.args.before.now c.args.at c.args.len (c.requires.told files told) (omega arith) (sym c.contains.ensures.value ∙ c.if-contains.false)
    (sym c.in-Ok-None.field-0-is ∙ c.in-Ok-None.ensures.count files told)

pub returns-then-count-gt-MOST_ENTRIES-clause-answer : goal.returns-then-count-gt-MOST_ENTRIES-clause-answer
returns-then-count-gt-MOST_ENTRIES-clause-answer g c = λ files told.
    long c.args.layout (bytes_of files c.args.name.now) c.args.before.now c.args.at c.args.len c.in-Ok-Some.count (c.requires.told files told) (omega arith)
    (sym c.contains.ensures.value ∙ c.if-contains.false) (sym c.in-Ok-Some.field-0-is ∙ c.in-Ok-Some.ensures.count files told) (omega arith)

pub returns-else-count-gt-MOST_ENTRIES-clause-answer : goal.returns-else-count-gt-MOST_ENTRIES-clause-answer
returns-else-count-gt-MOST_ENTRIES-clause-answer g c = λ files told.
    admitted c.args.layout (bytes_of files c.args.name.now) c.args.before.now c.args.at c.args.len c.in-Ok-Some.count (c.requires.told files told) (omega arith)
    (sym c.contains.ensures.value ∙ c.if-contains.false) (sym c.in-Ok-Some.field-0-is ∙ c.in-Ok-Some.ensures.count files told) (omega arith)
    (c.count_inside.ensures.room c.in-Ok-Some.count (c.in-Ok-Some.is ∙ ap Ok c.in-Ok-Some.field-0-is))
