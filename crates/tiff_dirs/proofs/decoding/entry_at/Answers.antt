use Rattle.std.proofs.Common.{◌≡◌, ◌+◌, ◌*◌, Some, sym, ap, ◌∙◌, arith}
use Rattle.tiff_dirs.specs.Parts.{entry_in}
use Rattle.tiff_dirs.specs.Kept.{shown}
use Rattle.tiff_dirs.proofs.Kept.{entry_among, mul_within}
use Rattle.tiff_dirs.proofs.Entries.{shown_lying}
use Rattle.tiff_dirs.proofs.Kept.{All-at}
use Rattle.tiff_dirs.specs.Decoding.{entries_of}
use Rattle.tiff_dirs.specs.Walking.{Lies}
use Rattle.tiff_dirs.proofs.decoding.entry_at.Goals as goal

pub overflow_mul-layout : goal.overflow_mul-layout
overflow_mul-layout c =
    let e = c.args.entries.now in
    let room = mul_within e.layout.entry c.args.k e.count c.requires.within in
    let inside = e.inside in
    let within = e.within in
    let fits = e.fits in
    omega (arith, room, inside, within, fits)

pub shown-requires-clause-inside : goal.shown-requires-clause-inside
shown-requires-clause-inside c =
    let e = c.args.entries.now in
    let room = mul_within e.layout.entry c.args.k e.count c.requires.within in
    let inside = e.inside in
    omega (arith, room, inside)

pub returns : goal.returns
returns c =
    let e = c.args.entries.now in
    let at = entry_among e.layout e.part.start e.part.bytes.now 0 e.count c.args.k c.requires.within in
    let here = entry_in e.layout e.part.start e.part.bytes.now (0 + e.layout.entry * c.args.k) in
    let lies = All-at (Lies e.layout e.part.len) (entries_of e) c.args.k here c.requires.lie at in
    let zero : 0 + e.layout.entry * c.args.k ≡ e.layout.entry * c.args.k = omega arith in
    at ∙ ap Some (sym (shown_lying e.layout e.part.len here lies)) ∙ ap (λ k. Some (shown e.layout e.part.len (entry_in e.layout e.part.start e.part.bytes.now k))) zero ∙ ap Some (sym c.shown.ensures)
