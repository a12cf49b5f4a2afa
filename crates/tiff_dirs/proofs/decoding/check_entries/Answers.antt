use Rattle.std.proofs.Common.{◌≡◌, ◌+◌, ◌-◌, ◌||◌, sym, ap, ◌∙◌, subst, arith, None}
use Rattle.std.specs.declared.option.Option.{Option}
use Rattle.std.specs.Option.{option_or}
use Rattle.std.specs.List.{All}
use Rattle.std.proofs.lemmas.List.Elements.{All-cons}
use Rattle.tiff_dirs.specs.declared.entry.Entry.{Entry}
use Rattle.tiff_dirs.specs.declared.stop.TiffStop.{TiffStop}
use Rattle.tiff_dirs.specs.Parts.{entry_in, entries_in_part}
use Rattle.tiff_dirs.specs.Faults.{entry_fault, entries_fault, is_packet_tag}
use Rattle.tiff_dirs.specs.Walking.{Lies}
use Rattle.tiff_dirs.proofs.Entries.{entries_more, faults_more, mul_more, faults_end, lie_end}
use Rattle.tiff_dirs.proofs.decoding.check_entries.Goals as goal

pub overflow_add-next : goal.overflow_add-next
overflow_add-next c =
    let e = c.args.entries.now in
    let product = mul_more e.layout.entry c.loop-left.left c.loop-left-test.true in
    let room = c.loop-left.invariant.room in
    let within = e.within in
    let fits = e.fits in
    omega (arith, product, room, within, fits)

pub returns-in-Err : goal.returns-in-Err
returns-in-Err c =
    let e = c.args.entries.now in
    let s = c.loop-left in
    let more = faults_more e.layout e.part.start e.part.bytes.now e.part.len c.args.first s.seen s.next s.left c.loop-left-test.true in
    sym s.invariant.fault ∙ more
    ∙ ap (λ (f : Option TiffStop). option_or f (entries_fault e.layout e.part.len c.args.first (s.seen || is_packet_tag (entry_in e.layout e.part.start e.part.bytes.now s.next))
    (entries_in_part e.layout e.part.start e.part.bytes.now (s.next + e.layout.entry) (s.left - 1)))) c.in-Err.ensures

pub loop-left-preserved : goal.loop-left-preserved
loop-left-preserved c =
    let e = c.args.entries.now in
    let s = c.loop-left in
    let len = e.part.len in
    let at = entry_in e.layout e.part.start e.part.bytes.now s.next in
    let rest = entries_in_part e.layout e.part.start e.part.bytes.now (s.next + e.layout.entry) (s.left - 1) in
    let here = c.in-Ok.ensures in
    let product = mul_more e.layout.entry s.left c.loop-left-test.true in
    let more = faults_more e.layout e.part.start e.part.bytes.now len c.args.first s.seen s.next s.left c.loop-left-test.true in
    record {
      fault = ap (λ (x : Entry). entries_fault e.layout len c.args.first (s.seen || is_packet_tag x) rest) here.0
          ∙ sym (more ∙ ap (λ (f : Option TiffStop). option_or f (entries_fault e.layout len c.args.first (s.seen || is_packet_tag at) rest))
          (subst (λ (x : Entry). entry_fault e.layout len c.args.first s.seen x ≡ None) here.0 (ap (entry_fault e.layout len c.args.first s.seen) here.0 ∙ here.1)))
          ∙ s.invariant.fault;
      room = omega (arith, product);
      lie = λ all. s.invariant.lie (subst (All (Lies e.layout len)) (sym (entries_more e.layout e.part.start e.part.bytes.now s.next s.left c.loop-left-test.true))
          (All-cons (Lies e.layout len) at rest here.2 all));
    }

pub returns : goal.returns
returns c =
    let e = c.args.entries.now in
    let s = c.loop-left in (
      sym s.invariant.fault ∙ faults_end e.layout e.part.start e.part.bytes.now e.part.len c.args.first s.seen s.next s.left (omega arith),
      s.invariant.lie (lie_end e.layout e.part.start e.part.bytes.now e.part.len s.next s.left (omega arith)),
    )
