use Rattle.std.proofs.Common.{◌+◌, ◌<◌, ◌≤◌, Ok, length, subst}
use Rattle.std.specs.Prelude.{IfSome}
use Rattle.std.specs.declared.option.Option.{Option}
use Rattle.irb_iptc.specs.declared.entry.Entry.{Entry}
use Rattle.irb_iptc.specs.Entries.{EntryAt}
use Rattle.irb_iptc.proofs.Listed.{underway_more}
use Rattle.irb_iptc.proofs.datasets.Datasets.of.Goals as goal

pub next-preserved : goal.next-preserved
next-preserved c =
    let block = c.args.block.now in
    let at = c.next.at in
    let e = c.in-Ok-Some.entry in
    let is = subst (λ (o : Option Entry). EntryAt block at (Ok o)) c.in-Ok-Some.field-0-is c.in-Ok-Some.ensures.is in
    let further = subst (λ (o : Option Entry). IfSome o (λ e. (at < e.start + e.len) × (e.start + e.len ≤ length block))) c.in-Ok-Some.field-0-is c.in-Ok-Some.ensures.further in
    record {
      under = rw (c.in-Ok.ensures.items) (underway_more block c.next.entries.items at c.next.invariant.under e is further.1);
      within = further.1;
    }
