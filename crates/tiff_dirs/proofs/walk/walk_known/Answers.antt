use Rattle.std.proofs.Common.{rules, ◌≡◌, ◌+◌, ◌≤◌, length, sym, ap, subst, ◌∙◌, arith, Err}
use Rattle.xmp_base.specs.Device.{bytes_of}
use Rattle.tiff_dirs.specs.declared.layout.Layout.{Layout}
use Rattle.tiff_dirs.specs.declared.stop.WalkStop.{WalkStop}
use Rattle.tiff_dirs.specs.Layouts.{layout_of}
use Rattle.tiff_dirs.specs.FromDesk.{WalkFromAnswer}
use Rattle.tiff_dirs.proofs.Nearest.{overlapped_answer}
use Rattle.tiff_dirs.proofs.Sizes.{header_least, layout_part, short_fault}
use Rattle.tiff_dirs.proofs.Walks.{walk_header, walk_head, walk_trans}
use Rattle.tiff_dirs.proofs.walk.walk_known.Goals as goal

pub returns-in-Err-clause-calls : goal.returns-in-Err-clause-calls
returns-in-Err-clause-calls g c =
    let room : 0 + length c.fill_from.new.to ≤ 8 = search rules in
    walk_header (g.D.Desk.state c.args.desk.now) (g.D.Desk.state c.fill_from.new.desk) c.args.name.now 0 (0 + length c.fill_from.new.to) c.fill_from.ensures.call.calls
    (λ files told offsets w. let least = header_least (bytes_of files c.args.name.now) in omega (arith, room, least))

pub returns-then-len-layout-clause-calls : goal.returns-then-len-layout-clause-calls
returns-then-len-layout-clause-calls g c =
    let room : 0 + length c.fill_from.new.to ≤ 8 = search rules in
    walk_header (g.D.Desk.state c.args.desk.now) (g.D.Desk.state c.fill_from.new.desk) c.args.name.now 0 (0 + length c.fill_from.new.to) c.fill_from.ensures.call.calls
    (λ files told offsets w. let least = header_least (bytes_of files c.args.name.now) in omega (arith, room, least))

pub returns-then-len-layout-clause-answer : goal.returns-then-len-layout-clause-answer
returns-then-len-layout-clause-answer g c = λ files told.
    let file = bytes_of files c.args.name.now in
    let to = c.fill_from.new.to in
    let least : 4 ≤ length to = search rules in
    let is : c.of-layout.result ≡ layout_of file = c.of-layout.ensures.is ∙ layout_part to file (length to) least (c.in-Ok.ensures.call.bytes files told) in
    let header = ap (λ (l : Layout). l.header) is in
    let size = c.requires.told files told in
    short_fault file (omega (arith, header, size))

pub find-requires-clause-is : goal.find-requires-clause-is
find-requires-clause-is g c = λ files told.
    let file = bytes_of files c.args.name.now in
    let to = c.fill_from.new.to in
    let least : 4 ≤ length to = search rules in
    let back = sym c.fill_from.ensures.call.calls.same.files ∙ (sym c.number_of.ensures.calls.same.files ∙ told) in
    c.of-layout.ensures.is ∙ layout_part to file (length to) least (c.in-Ok.ensures.call.bytes files back)

pub returns-in-Err-number_of-clause-calls : goal.returns-in-Err-number_of-clause-calls
returns-in-Err-number_of-clause-calls g c =
    let name = c.args.name.now in
    let to = c.fill_from.new.to in
    let least : 4 ≤ length to = search rules in
    let room : 0 + length to ≤ 8 = search rules in
    walk_head (g.D.Desk.state c.args.desk.now) (g.D.Desk.state c.fill_from.new.desk) (g.D.Desk.state c.number_of.new.desk) name c.of-layout.result (length to) c.fill_from.ensures.call.calls room
    c.number_of.ensures.calls c.of-layout.ensures.widths.header
    (λ files told. c.of-layout.ensures.is ∙ layout_part to (bytes_of files name) (length to) least (c.in-Ok.ensures.call.bytes files told))

pub returns-in-Err-find-clause-calls : goal.returns-in-Err-find-clause-calls
returns-in-Err-find-clause-calls g c =
    let name = c.args.name.now in
    let to = c.fill_from.new.to in
    let least : 4 ≤ length to = search rules in
    let room : 0 + length to ≤ 8 = search rules in
    walk_trans (g.D.Desk.state c.args.desk.now) (g.D.Desk.state c.number_of.new.desk) (g.D.Desk.state c.find.new.desk) name
    (walk_head (g.D.Desk.state c.args.desk.now) (g.D.Desk.state c.fill_from.new.desk) (g.D.Desk.state c.number_of.new.desk) name c.of-layout.result (length to) c.fill_from.ensures.call.calls room
    c.number_of.ensures.calls c.of-layout.ensures.widths.header
    (λ files told. c.of-layout.ensures.is ∙ layout_part to (bytes_of files name) (length to) least (c.in-Ok.ensures.call.bytes files told)))
    c.find.ensures.calls

pub returns-in-None-clause-calls : goal.returns-in-None-clause-calls
returns-in-None-clause-calls g c =
    let name = c.args.name.now in
    let to = c.fill_from.new.to in
    let least : 4 ≤ length to = search rules in
    let room : 0 + length to ≤ 8 = search rules in
    walk_trans (g.D.Desk.state c.args.desk.now) (g.D.Desk.state c.number_of.new.desk) (g.D.Desk.state c.find.new.desk) name
    (walk_head (g.D.Desk.state c.args.desk.now) (g.D.Desk.state c.fill_from.new.desk) (g.D.Desk.state c.number_of.new.desk) name c.of-layout.result (length to) c.fill_from.ensures.call.calls room
    c.number_of.ensures.calls c.of-layout.ensures.widths.header
    (λ files told. c.of-layout.ensures.is ∙ layout_part to (bytes_of files name) (length to) least (c.in-Ok.ensures.call.bytes files told)))
    c.find.ensures.calls

pub returns-in-Some-clause-calls : goal.returns-in-Some-clause-calls
returns-in-Some-clause-calls g c =
    let name = c.args.name.now in
    let to = c.fill_from.new.to in
    let least : 4 ≤ length to = search rules in
    let room : 0 + length to ≤ 8 = search rules in
    walk_trans (g.D.Desk.state c.args.desk.now) (g.D.Desk.state c.number_of.new.desk) (g.D.Desk.state c.find.new.desk) name
    (walk_head (g.D.Desk.state c.args.desk.now) (g.D.Desk.state c.fill_from.new.desk) (g.D.Desk.state c.number_of.new.desk) name c.of-layout.result (length to) c.fill_from.ensures.call.calls room
    c.number_of.ensures.calls c.of-layout.ensures.widths.header
    (λ files told. c.of-layout.ensures.is ∙ layout_part to (bytes_of files name) (length to) least (c.in-Ok.ensures.call.bytes files told)))
    c.find.ensures.calls

pub returns-in-Some-clause-answer : goal.returns-in-Some-clause-answer
returns-in-Some-clause-answer g c = λ files told.
    let file = bytes_of files c.args.name.now in
    let last = c.number_of.ensures.calls.same.files ∙ (c.fill_from.ensures.call.calls.same.files ∙ told) in
    subst (λ (s : WalkStop). WalkFromAnswer file (Err s)) (sym c.walk_stop.ensures)
    (overlapped_answer file c.in-Ok-find.dirs c.in-Some.stop (c.in-Ok-find.ensures.answer files last) c.in-Some.ensures)
