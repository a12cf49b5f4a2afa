use Rattle.std.proofs.Common.{◌≡◌, ◌++◌, ℕ, List, sym, ap, subst, ◌∙◌, None}
use Rattle.xmp_base.specs.Device.{bytes_of}
use Rattle.tiff_dirs.specs.declared.stop.WalkStop.{WalkStop}
use Rattle.tiff_dirs.specs.Numbers.{numbers}
use Rattle.tiff_dirs.specs.Types.{size_of}
use Rattle.tiff_dirs.specs.Pictures.{Picture, items_of, ranges, spans_of}
use Rattle.tiff_dirs.specs.Faults.{pictures_fault}
use Rattle.tiff_dirs.specs.Pairs.{spans_in}
use Rattle.tiff_dirs.specs.Walking.{Stops, StopsAt}
use Rattle.tiff_dirs.proofs.Members.{first_read, both_read}
use Rattle.tiff_dirs.proofs.Reading.{stops_walk}
use Rattle.tiff_dirs.proofs.Counted.{pair_with, pair_by, spans_more, tables_name, tables_list}
use Rattle.tiff_dirs.proofs.pictures.take_tables.Goals as goal

pub returns-in-Err-clause-calls : goal.returns-in-Err-clause-calls
returns-in-Err-clause-calls g c =
    first_read (g.D.Desk.state c.args.desk.now) (g.D.Desk.state c.load_items.new.desk) c.args.name.now c.args.offsets.now.value c.args.lens.now.value c.load_items.ensures.call.calls

pub returns-in-Err-load_items-clause-calls : goal.returns-in-Err-load_items-clause-calls
returns-in-Err-load_items-clause-calls g c =
    both_read (g.D.Desk.state c.args.desk.now) (g.D.Desk.state c.load_items.new.desk) (g.D.Desk.state c.load_items-2.new.desk) c.args.name.now c.args.offsets.now.value c.args.lens.now.value
    c.load_items.ensures.call.calls c.load_items-2.ensures.call.calls

pub returns-in-Ok-keep_pair-clause-calls : goal.returns-in-Ok-keep_pair-clause-calls
returns-in-Ok-keep_pair-clause-calls g c =
    both_read (g.D.Desk.state c.args.desk.now) (g.D.Desk.state c.load_items.new.desk) (g.D.Desk.state c.load_items-2.new.desk) c.args.name.now c.args.offsets.now.value c.args.lens.now.value
    c.load_items.ensures.call.calls c.load_items-2.ensures.call.calls

pub returns-clause-calls : goal.returns-clause-calls
returns-clause-calls g c =
    both_read (g.D.Desk.state c.args.desk.now) (g.D.Desk.state c.load_items.new.desk) (g.D.Desk.state c.load_items-2.new.desk) c.args.name.now c.args.offsets.now.value c.args.lens.now.value
    c.load_items.ensures.call.calls c.load_items-2.ensures.call.calls

pub returns-in-Ok-keep_pair-clause-answer : goal.returns-in-Ok-keep_pair-clause-answer
returns-in-Ok-keep_pair-clause-answer g c = λ files told.
    let l = c.args.layout in
    let o = c.args.offsets.now in
    let n = c.args.lens.now in
    let file = bytes_of files c.args.name.now in
    let os : numbers l.big (size_of l o.code) 0 o.count c.as_slice.result.now ≡ items_of l file o =
    ap (λ (t : List ℕ). numbers l.big (size_of l o.code) 0 o.count t) c.as_slice.ensures ∙ c.in-Ok.ensures.call.items files told in
    let ns : numbers l.big (size_of l n.code) 0 o.count c.as_slice-2.result.now ≡ numbers l.big (size_of l n.code) n.value.start o.count file =
    ap (λ (t : List ℕ). numbers l.big (size_of l n.code) 0 o.count t) c.as_slice-2.ensures ∙ c.in-Ok-load_items.ensures.call.items files (c.load_items.ensures.call.calls.same.files ∙ told) in
    let p = pair_with o c.table_of.result c.table_of-2.result in
    let is = pair_by l o n c.table_of.result c.table_of-2.result c.table_of.ensures.is c.table_of-2.ensures.is in (
      spans_more l.big file c.args.pairs.now.items p c.keep_pair.new.pairs.items c.in-Ok-keep_pair.ensures.pairs
          ∙ ap (λ (ps : List Picture). spans_in l.big file c.args.pairs.now.items ++ spans_of ps) (tables_name l file o n p is c.requires.paired),
      subst (λ (ps : List Picture). pictures_fault c.args.part.now.len ps ≡ None) (tables_list l file o n p is c.requires.paired c.as_slice.result.now c.as_slice-2.result.now os ns)
          c.in-Ok-keep_pair.ensures.clear,
    )

pub returns-clause-answer : goal.returns-clause-answer
returns-clause-answer g c = λ files told.
    let l = c.args.layout in
    let o = c.args.offsets.now in
    let n = c.args.lens.now in
    let file = bytes_of files c.args.name.now in
    let os : numbers l.big (size_of l o.code) 0 o.count c.as_slice.result.now ≡ items_of l file o =
    ap (λ (t : List ℕ). numbers l.big (size_of l o.code) 0 o.count t) c.as_slice.ensures ∙ c.in-Ok.ensures.call.items files told in
    let ns : numbers l.big (size_of l n.code) 0 o.count c.as_slice-2.result.now ≡ numbers l.big (size_of l n.code) n.value.start o.count file =
    ap (λ (t : List ℕ). numbers l.big (size_of l n.code) 0 o.count t) c.as_slice-2.ensures ∙ c.in-Ok-load_items.ensures.call.items files (c.load_items.ensures.call.calls.same.files ∙ told) in
    let p = pair_with o c.table_of.result c.table_of-2.result in
    let is = pair_by l o n c.table_of.result c.table_of-2.result c.table_of.ensures.is c.table_of-2.ensures.is in
    let all = ranges o.place (items_of l file o) (items_of l file n) in
    subst (λ (s : WalkStop). StopsAt (pictures_fault c.args.part.now.len all) s) (sym c.walk_stop.ensures)
    (stops_walk (pictures_fault c.args.part.now.len all) c.in-Err-keep_pair.stop
    (subst (λ (ps : List Picture). Stops (pictures_fault c.args.part.now.len ps) c.in-Err-keep_pair.stop)
    (tables_list l file o n p is c.requires.paired c.as_slice.result.now c.as_slice-2.result.now os ns) c.in-Err-keep_pair.ensures.stop))
