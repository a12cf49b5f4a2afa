use Rattle.std.proofs.Common.{rules, ◌+◌, ◌≤◌, length, ◌∙◌, arith}
use Rattle.xmp_base.specs.Device.{bytes_of}
use Rattle.tiff_dirs.proofs.Piece.{number_part}
use Rattle.tiff_dirs.proofs.loading.number_of.Goals as goal

pub returns-clause-number : goal.returns-clause-number
returns-clause-number g c = λ files told.
    let to = c.fill_from.new.to in
    let room : 0 + c.args.width ≤ length to = search rules in
    c.number_at.ensures
    ∙ number_part to (bytes_of files c.args.name.now) c.args.at (length to) (c.in_ok-fill_from.ensures.call.bytes files told) c.args.big c.args.width 0 c.args.at room (omega arith)
