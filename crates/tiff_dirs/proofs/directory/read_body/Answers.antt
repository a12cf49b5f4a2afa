use Rattle.std.proofs.Common.{◌≡◌, ◌+◌, ◌*◌, length, sym, ap, subst, refl, ◌∙◌}
use Rattle.xmp_base.specs.Device.{bytes_of}
use Rattle.tiff_dirs.specs.declared.entry.Entry.{Entry}
use Rattle.tiff_dirs.specs.declared.stop.WalkStop.{WalkStop}
use Rattle.std.proofs.Common.{List, false}
use Rattle.tiff_dirs.specs.Directories.{entries_at}
use Rattle.tiff_dirs.specs.Faults.{entries_fault, inner_fault}
use Rattle.tiff_dirs.specs.Parts.{entries_in_part}
use Rattle.tiff_dirs.specs.Pairs.{spans_in}
use Rattle.tiff_dirs.specs.Walking.{StopsAt}
use Rattle.tiff_dirs.proofs.Entries.{stops_by}
use Rattle.tiff_dirs.proofs.Reading.{body_by_entries, body_by_pictures}
use Rattle.tiff_dirs.proofs.Bodies.{body_read, body_values, body_more, entries_known, next_known, body_known, is_part}
use Rattle.tiff_dirs.proofs.directory.read_body.Goals as goal

pub returns-in-Err-clause-calls : goal.returns-in-Err-clause-calls
returns-in-Err-clause-calls g c = body_read (g.D.Desk.state c.args.desk.now) (g.D.Desk.state c.fetch.new.desk) c.args.name.now c.args.layout c.args.at c.args.count c.fetch.ensures.call.calls c.requires.count

pub returns-in-Err-check_entries-clause-calls : goal.returns-in-Err-check_entries-clause-calls
returns-in-Err-check_entries-clause-calls g c =
    body_read (g.D.Desk.state c.args.desk.now) (g.D.Desk.state c.fetch.new.desk) c.args.name.now c.args.layout c.args.at c.args.count c.fetch.ensures.call.calls c.requires.count

pub returns-in-Err-check_entries-clause-answer : goal.returns-in-Err-check_entries-clause-answer
returns-in-Err-check_entries-clause-answer g c = λ files told.
    let l = c.args.layout in
    let file = bytes_of files c.args.name.now in
    let known = entries_known l file c.as_slice.result.now c.args.at c.args.count (c.as_slice.ensures ∙ c.in-Ok.ensures.call.bytes files told) (c.requires.count files told) c.requires.widths in
    let stop = c.in-Err-check_entries.stop in
    subst (λ (s : WalkStop). StopsAt (inner_fault l file c.args.first (entries_at l file c.args.at)) s) (sym c.walk_stop.ensures)
    (body_by_entries l file c.args.len c.args.first (entries_at l file c.args.at) stop (c.requires.told files told)
    (stops_by (entries_fault l c.args.len c.args.first false (entries_at l file c.args.at)) stop (ap (entries_fault l c.args.len c.args.first false) (sym known) ∙ c.in-Err-check_entries.ensures)))

pub returns-in-Err-keep-clause-calls : goal.returns-in-Err-keep-clause-calls
returns-in-Err-keep-clause-calls g c =
    body_read (g.D.Desk.state c.args.desk.now) (g.D.Desk.state c.fetch.new.desk) c.args.name.now c.args.layout c.args.at c.args.count c.fetch.ensures.call.calls c.requires.count

pub returns-in-Err-take_pictures-clause-calls : goal.returns-in-Err-take_pictures-clause-calls
returns-in-Err-take_pictures-clause-calls g c =
    let l = c.args.layout in
    let bytes = c.as_slice.result.now in
    body_values (g.D.Desk.state c.args.desk.now) (g.D.Desk.state c.fetch.new.desk) (g.D.Desk.state c.take_pictures.new.desk) (g.D.Desk.state c.take_pictures.new.desk) c.args.name.now l c.args.at c.args.count
    (entries_in_part l (c.args.at + l.count) bytes 0 c.args.count) c.fetch.ensures.call.calls c.requires.count
    (λ files told. entries_known l (bytes_of files c.args.name.now) bytes c.args.at c.args.count (c.as_slice.ensures ∙ c.in-Ok.ensures.call.bytes files told) (c.requires.count files told) c.requires.widths)
    c.take_pictures.ensures.calls

pub returns-in-Err-take_pictures-clause-answer : goal.returns-in-Err-take_pictures-clause-answer
returns-in-Err-take_pictures-clause-answer g c = λ files told.
    let l = c.args.layout in
    let file = bytes_of files c.args.name.now in
    let items = entries_in_part l (c.args.at + l.count) c.as_slice.result.now 0 c.args.count in
    let stop = c.in-Err-take_pictures.stop in
    let known : items ≡ entries_at l file c.args.at =
    entries_known l file c.as_slice.result.now c.args.at c.args.count (c.as_slice.ensures ∙ c.in-Ok.ensures.call.bytes files told) (c.requires.count files told) c.requires.widths in
    subst (λ (es : List Entry). StopsAt (inner_fault l file c.args.first es) stop) known
    (body_by_pictures l file c.args.len c.args.first items stop (c.requires.told files told) c.in-Ok-check_entries.ensures.0
    (c.in-Err-take_pictures.ensures.answer files (c.fetch.ensures.call.calls.same.files ∙ told)))

pub returns-in-Ok-reach_children-clause-calls : goal.returns-in-Ok-reach_children-clause-calls
returns-in-Ok-reach_children-clause-calls g c =
    let l = c.args.layout in
    let bytes = c.as_slice.result.now in
    body_more (g.D.Desk.state c.args.desk.now) (g.D.Desk.state c.fetch.new.desk) (g.D.Desk.state c.take_pictures.new.desk) (g.D.Desk.state c.reach_children.new.desk) c.args.name.now l c.args.at c.args.count
    (entries_in_part l (c.args.at + l.count) bytes 0 c.args.count) c.fetch.ensures.call.calls c.requires.count
    (λ files told. entries_known l (bytes_of files c.args.name.now) bytes c.args.at c.args.count (c.as_slice.ensures ∙ c.in-Ok.ensures.call.bytes files told) (c.requires.count files told) c.requires.widths)
    c.take_pictures.ensures.calls c.reach_children.ensures.calls

pub returns-clause-calls : goal.returns-clause-calls
returns-clause-calls g c =
    let l = c.args.layout in
    let bytes = c.as_slice.result.now in
    body_more (g.D.Desk.state c.args.desk.now) (g.D.Desk.state c.fetch.new.desk) (g.D.Desk.state c.take_pictures.new.desk) (g.D.Desk.state c.reach_children.new.desk) c.args.name.now l c.args.at c.args.count
    (entries_in_part l (c.args.at + l.count) bytes 0 c.args.count) c.fetch.ensures.call.calls c.requires.count
    (λ files told. entries_known l (bytes_of files c.args.name.now) bytes c.args.at c.args.count (c.as_slice.ensures ∙ c.in-Ok.ensures.call.bytes files told) (c.requires.count files told) c.requires.widths)
    c.take_pictures.ensures.calls c.reach_children.ensures.calls

pub returns-in-Ok-reach_children-clause-answer : goal.returns-in-Ok-reach_children-clause-answer
returns-in-Ok-reach_children-clause-answer g c = λ files told.
    let l = c.args.layout in
    let file = bytes_of files c.args.name.now in
    let at = c.args.at in
    let n = c.args.count in
    let is = c.as_slice.ensures ∙ c.in-Ok.ensures.call.bytes files told in
    let count = c.requires.count files told in
    let mid = c.fetch.ensures.call.calls.same.files ∙ told in
    let last = c.take_pictures.ensures.calls.same.files ∙ mid in
    body_known l file c.args.first at n c.args.len c.number_at-next.result (at + l.count + l.entry * n + l.word) c.args.reached.now.items c.reach_children.new.reached.items
    (spans_in l.big file c.args.pairs.now.items) (spans_in l.big file c.take_pictures.new.pairs.items) _ (entries_in_part l (at + l.count) c.as_slice.result.now 0 n) (c.requires.told files told) count
    (entries_known l file c.as_slice.result.now at n is count c.requires.widths) c.in-Ok-check_entries.ensures.0 (c.in-Ok-take_pictures.ensures.answer files mid)
    (c.number_at-next.ensures ∙ next_known l file c.as_slice.result.now at n is count) (c.in-Ok-reach_children.ensures.reached files last)
    refl refl refl

pub returns-in-Ok-reach_children-clause-kept : goal.returns-in-Ok-reach_children-clause-kept
returns-in-Ok-reach_children-clause-kept g c = λ files told all.
    let call = c.in-Ok.ensures.call in
    let file = bytes_of files c.args.name.now in
    c.in-Ok-take_pictures.ensures.kept files (c.fetch.ensures.call.calls.same.files ∙ told)
    (c.in-Ok-keep.ensures.holds file
    (is_part file c.as_slice.result.now (c.args.at + c.args.layout.count) (c.args.layout.entry * c.args.count + c.args.layout.word) (ap length c.as_slice.ensures ∙ call.size)
    (c.as_slice.ensures ∙ call.bytes files told)) all)
