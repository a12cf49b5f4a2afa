use Rattle.std.proofs.Common.{◌-◌, ◌*◌, [], sym, ◌∙◌, arith}
use Rattle.xmp_base.specs.Device.{bytes_of}
use Rattle.tiff_dirs.proofs.Admitting.{inside, outside, le_of, lt_of}
use Rattle.tiff_dirs.proofs.Loads.{count_read}
use Rattle.tiff_dirs.proofs.directory.count_inside.Goals as goal

pub returns-in_err-count-clause-calls : goal.returns-in_err-count-clause-calls
returns-in_err-count-clause-calls g c =
    count_read (g.D.Desk.state c.args.desk.now) (g.D.Desk.state c.number_of.new.desk) c.args.name.now c.args.layout c.args.at c.number_of.ensures.calls

pub returns-then-fits-clause-calls : goal.returns-then-fits-clause-calls
returns-then-fits-clause-calls g c =
    count_read (g.D.Desk.state c.args.desk.now) (g.D.Desk.state c.number_of.new.desk) c.args.name.now c.args.layout c.args.at c.number_of.ensures.calls

pub returns-else-fits-clause-calls : goal.returns-else-fits-clause-calls
returns-else-fits-clause-calls g c =
    count_read (g.D.Desk.state c.args.desk.now) (g.D.Desk.state c.number_of.new.desk) c.args.name.now c.args.layout c.args.at c.number_of.ensures.calls

pub returns-then-fits-clause-count : goal.returns-then-fits-clause-count
returns-then-fits-clause-count g c = λ files told.
    let l = c.args.layout in
    let n = c.in_ok-count.count in
    let room = le_of (l.entry * n) (c.args.len - c.args.at - l.count - l.word) (sym c.fits.ensures ∙ c.if-fits.true) in
    inside l (bytes_of files c.args.name.now) [] c.args.at n c.args.len (c.in_ok-count.ensures.number files told) (omega arith) (omega (arith, room))

pub returns-else-fits-clause-count : goal.returns-else-fits-clause-count
returns-else-fits-clause-count g c = λ files told.
    let l = c.args.layout in
    let n = c.in_ok-count.count in
    let room = lt_of (l.entry * n) (c.args.len - c.args.at - l.count - l.word) (sym c.fits.ensures ∙ c.if-fits.false) in
    outside l (bytes_of files c.args.name.now) [] c.args.at n c.args.len (c.in_ok-count.ensures.number files told) (omega (arith, room))
