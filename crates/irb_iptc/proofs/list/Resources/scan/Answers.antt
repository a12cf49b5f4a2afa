use Rattle.std.proofs.Common.{◌∙◌, ◌+◌, ℕ, map, List, refl, sym, subst, arith}
use Rattle.std.proofs.lemmas.List.{map_push}
use Rattle.xmp_base.specs.Device.{bytes_of}
use Rattle.xmp_base.proofs.Calls.{rose_after}
use Rattle.irb_iptc.specs.declared.reading.Next.{Next}
use Rattle.irb_iptc.specs.Resources.{EndsList, IsCut}
use Rattle.irb_iptc.specs.Reading.{Further, IsFound, NextIs, place_of}
use Rattle.irb_iptc.specs.Listing.{Follow, Placed}
use Rattle.irb_iptc.specs.Scanning.{range_of}
use Rattle.irb_iptc.proofs.Runs.{broken_here, lists_here, passed, underway_more, underway_none}
use Rattle.irb_iptc.proofs.Scanned.{follow_more, range_rest, scan_later, scan_none, scan_trans}
use Rattle.irb_iptc.proofs.list.Resources.scan.Goals as goal

pub next-init : goal.next-init
next-init g c = record {
  calls = scan_none _ _ _ _;
  order = omega arith;
  within = omega arith;
  follow = rw c.new-blocks.ensures.items refl;
  so_far = λ files told. rw c.new-blocks.ensures.items (underway_none _ c.args.at);
}

pub next-preserved : goal.next-preserved
next-preserved g c =
    let i = c.next.invariant in
    let block = c.in-Ok-Found.block in
    let end = c.args.at + c.args.len in
    let f = subst (λ (n : Next). Further c.next.start end n) c.in-Ok-Found.field-0-is c.in-Ok-Found.ensures.further in
    record {
      calls = scan_trans _ _ _ _ _ _ i.calls (scan_later _ _ _ _ _ _ c.next_from.ensures.calls i.order i.within
          (λ files now. let told = sym i.calls.same.files ∙ now in let u = i.so_far files told in (u.resources, u.begins, passed _ _ _ _ u)));
      order = omega (arith, f.1, i.order);
      within = omega (arith, f.2);
      follow = rw (c.in-Ok.ensures.items, c.end-start.ensures) (subst (λ (ps : List Placed). Follow c.args.at (block.body + block.size + block.pad) ps) (sym (map_push place_of c.next.blocks.items block))
          (follow_more c.args.at c.next.start (map place_of c.next.blocks.items) (place_of block) i.follow f.0 (omega (arith, f.1)) (omega arith) (omega arith)));
      so_far = λ files told.
          let file = bytes_of files c.args.name.now in
          let found = subst (λ (n : Next). NextIs (range_of file c.next.start end) c.next.start n) c.in-Ok-Found.field-0-is (c.in-Ok-Found.ensures.is files (i.calls.same.files ∙ told)) in
          rw (c.in-Ok.ensures.items, c.end-start.ensures) (underway_more (range_of file c.args.at end) c.args.at c.next.blocks.items c.next.start (i.so_far files told) block
          (subst (λ (l : List ℕ). IsFound l c.next.start block) (range_rest file c.args.at c.next.start end i.order i.within) found));
    }

pub returns-in-Ok-Short : goal.returns-in-Ok-Short
returns-in-Ok-Short g c =
    let i = c.next.invariant in
    let end = c.args.at + c.args.len in
    record {
      calls = scan_trans _ _ _ _ _ _ i.calls (scan_later _ _ _ _ _ _ c.next_from.ensures.calls i.order i.within
          (λ files now. let told = sym i.calls.same.files ∙ now in let u = i.so_far files told in (u.resources, u.begins, passed _ _ _ _ u)));
      told = λ files told.
          let file = bytes_of files c.args.name.now in
          let cut = subst (λ (n : Next). NextIs (range_of file c.next.start end) c.next.start n) c.in-Ok-Short.field-0-is (c.in-Ok-Short.ensures.is files (i.calls.same.files ∙ told)) in
          broken_here (range_of file c.args.at end) c.args.at c.next.blocks.items c.next.start (i.so_far files told)
          (subst (λ (l : List ℕ). IsCut l) (range_rest file c.args.at c.next.start end i.order i.within) cut);
      within = (i.order, i.within);
      device = λ e. absurd (cc e);
    }

pub returns-in_default : goal.returns-in_default
returns-in_default g c =
    let i = c.next.invariant in
    record {
      calls = scan_trans _ _ _ _ _ _ i.calls (scan_later _ _ _ _ _ _ c.next_from.ensures.calls i.order i.within
          (λ files now. let told = sym i.calls.same.files ∙ now in let u = i.so_far files told in (u.resources, u.begins, passed _ _ _ _ u)));
      told = λ files told. tt;
      within = tt;
      device = λ e. absurd (cc e);
    }

pub returns-in-Err : goal.returns-in-Err
returns-in-Err g c =
    let i = c.next.invariant in
    record {
      calls = scan_trans _ _ _ _ _ _ i.calls (scan_later _ _ _ _ _ _ c.next_from.ensures.calls i.order i.within
          (λ files now. let told = sym i.calls.same.files ∙ now in let u = i.so_far files told in (u.resources, u.begins, passed _ _ _ _ u)));
      told = λ files told. tt;
      within = tt;
      device = λ e. rose_after _ _ _ i.calls.counts.faults c.in-Err.ensures.failed;
    }

pub returns : goal.returns
returns g c =
    let i = c.next.invariant in
    let end = c.args.at + c.args.len in
    record {
      calls = scan_trans _ _ _ _ _ _ i.calls (scan_later _ _ _ _ _ _ c.next_from.ensures.calls i.order i.within
          (λ files now. let told = sym i.calls.same.files ∙ now in let u = i.so_far files told in (u.resources, u.begins, passed _ _ _ _ u)));
      told = λ files told.
          let file = bytes_of files c.args.name.now in
          let ended = subst (λ (n : Next). NextIs (range_of file c.next.start end) c.next.start n) c.in-Ok-Ended.field-0-is (c.in-Ok-Ended.ensures.is files (i.calls.same.files ∙ told)) in
          lists_here (range_of file c.args.at end) c.args.at c.next.blocks.items c.next.start (i.so_far files told)
          (subst (λ (l : List ℕ). EndsList l) (range_rest file c.args.at c.next.start end i.order i.within) ended);
      within = record { follow = i.follow; within = i.within };
      device = λ e. absurd (cc e);
    }
