use Rattle.std.proofs.Common.{◌≡◌, ◌∙◌, ◌≤◌, List, ap, subst, refl, sym, ℕ, Some, None, Err, inr, map, arith}
use Rattle.std.specs.declared.option.Option.{Option}
use Rattle.xmp_base.specs.Device.{Told, bytes_of}
use Rattle.jpeg_regions.specs.declared.reading.Reading.{Reading}
use Rattle.jpeg_regions.specs.Cutting.{CutSoFar, Numbers}
use Rattle.xmp_values.specs.declared.rules.Rule.{Rule}
use Rattle.xmp_base.proofs.Calls.{rose_after}
use Rattle.jpeg_regions.specs.Jpeg.{FaultIn, Region, two_packets}
use Rattle.jpeg_regions.specs.Reads.{region_of}
use Rattle.xmp_values.specs.declared.stops.DeviceStop.TheVariants.{Device}
use Rattle.jpeg_regions.specs.FromDesk.{StopsIn}
use Rattle.xmp_base.proofs.Inside.{inside_none, inside_trans, inside_wider}
use Rattle.jpeg_regions.proofs.Kept.{underway_none}
use Rattle.jpeg_regions.proofs.Near.{calls_none, calls_more}
use Rattle.jpeg_regions.proofs.Sizes.{cut_low, advance_stopped, main_within}
use Rattle.jpeg_regions.proofs.list.Regions.cut_known.Goals as goal

pub loop-next-init : goal.loop-next-init
loop-next-init g c = record {
  calls = calls_none _ _;
  inside = inside_none _ _ _ _ _ refl;
  lens = refl;
  numbers = (c.new.ensures.len, rw (c.new-found.ensures.items, c.new.ensures.start) refl);
  cut = λ files told. (
    rw (c.new-found.ensures.items, c.new.ensures.start) (underway_none _ (c.requires.begins files told)),
    rw (c.new.ensures.start, c.new.ensures.at, c.new.ensures.wants) refl,
  );
}

pub returns-then-len-lt2 : goal.returns-then-len-lt2
returns-then-len-lt2 g c = record { call = cut_low _ _ _ c.requires.told c.requires.begins c.if-len-lt2.true }

pub loop-next-preserved : goal.loop-next-preserved
loop-next-preserved g c =
    let order : c.in-Some.reading.start ≤ c.in-Some.reading.at = omega arith in
    let numbers = subst (λ (o : Option Reading). Numbers c.args.len c.loop-next.found.items o) c.in-Some.is c.loop-next.invariant.numbers in
    let before : Told (g.D.Desk.state c.args.desk.now).files (λ files. CutSoFar (bytes_of files c.args.name.now) c.loop-next.found.items (Some c.in-Some.reading)) =
    λ files told. subst (λ (o : Option Reading). CutSoFar (bytes_of files c.args.name.now) c.loop-next.found.items o) c.in-Some.is (c.loop-next.invariant.cut files told) in
    record {
      calls = calls_more _ _ _ _ _ _ _ _ _ c.loop-next.invariant.calls c.advance.ensures.calls order before;
      inside = inside_trans _ _ _ _ _ _ c.loop-next.invariant.inside (inside_wider _ _ _ _ _ _ _ (omega arith) (omega (arith, numbers.0, c.in-Some.reading.room)) c.advance.ensures.calls.reads);
      lens = c.advance.ensures.calls.lens ∙ c.loop-next.invariant.lens;
      numbers = subst (λ (k : ℕ). Numbers k c.advance.new.found.items c.in-Ok.next) numbers.0 c.in-Ok.ensures.numbers;
      cut = λ files told. c.in-Ok.ensures.answer files (c.loop-next.invariant.calls.same.files ∙ told) (c.requires.told files told ∙ sym numbers.0) (before files told);
    }

pub returns-in-Err : goal.returns-in-Err
returns-in-Err g c =
    let order : c.in-Some.reading.start ≤ c.in-Some.reading.at = omega arith in
    let numbers = subst (λ (o : Option Reading). Numbers c.args.len c.loop-next.found.items o) c.in-Some.is c.loop-next.invariant.numbers in
    let before : Told (g.D.Desk.state c.args.desk.now).files (λ files. CutSoFar (bytes_of files c.args.name.now) c.loop-next.found.items (Some c.in-Some.reading)) =
    λ files told. subst (λ (o : Option Reading). CutSoFar (bytes_of files c.args.name.now) c.loop-next.found.items o) c.in-Some.is (c.loop-next.invariant.cut files told) in
    record {
      call = record {
        calls = calls_more _ _ _ _ _ _ _ _ _ c.loop-next.invariant.calls c.advance.ensures.calls order before;
        inside = inside_trans _ _ _ _ _ _ c.loop-next.invariant.inside (inside_wider _ _ _ _ _ _ _ (omega arith) (omega (arith, numbers.0, c.in-Some.reading.room)) c.advance.ensures.calls.reads);
        lens = c.advance.ensures.calls.lens ∙ c.loop-next.invariant.lens;
        told = λ files told. advance_stopped (bytes_of files c.args.name.now) c.advance.new.found.items c.in-Err.stop
            (c.in-Err.ensures.answer files (c.loop-next.invariant.calls.same.files ∙ told) (c.requires.told files told ∙ sym numbers.0) (before files told));
        tiles = tt;
        fault = subst (λ (n : ℕ). StopsIn {A = List Region} n (Err c.in-Err.stop)) numbers.0 c.in-Err.ensures.fault;
        device = λ e. rose_after _ _ _ c.loop-next.invariant.calls.counts.faults (let is : c.in-Err.stop ≡ Device = cc e in c.in-Err.ensures.device (ap Err is));
      };
    }

pub returns-in-Err-of : goal.returns-in-Err-of
returns-in-Err-of g c =
    let second = c.in-Err-of.ensures in
    let none : c.loop-next.next ≡ None = c.in_default.is in
    let tiles = subst (λ (o : Option Reading). Numbers c.args.len c.loop-next.found.items o) none c.loop-next.invariant.numbers in
    record {
      call = record {
        calls = c.loop-next.invariant.calls;
        inside = c.loop-next.invariant.inside;
        lens = c.loop-next.invariant.lens;
        told = λ files told. inr (record {
          regions = map region_of c.loop-next.found.items;
          cuts = subst (λ (o : Option Reading). CutSoFar (bytes_of files c.args.name.now) c.loop-next.found.items o) none (c.loop-next.invariant.cut files told);
          named = second.0;
          second = second.1;
        });
        tiles = tt;
        fault = subst (λ (rule : Rule). FaultIn c.args.len c.in-Err-of.place rule) (sym second.0) (two_packets (main_within 2 c.args.len 1 c.in-Err-of.place _ tiles second.1));
        device = λ e. absurd (cc e);
      };
    }
