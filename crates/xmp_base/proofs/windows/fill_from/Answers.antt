use Rattle.std.proofs.Common.{refl, ap, sym, subst, arith, ◌≡◌, ◌+◌, ◌<◌, ℕ}
use Rattle.std.specs.FinMap.{get}
use Rattle.std.specs.Option.{unwrap_or}
use Rattle.xmp_base.specs.Device.{Lens, len_of}
use Rattle.xmp_base.specs.Whole.{MovedOnce}
use Rattle.xmp_base.proofs.Calls.{part_size, put_size, once_more}
use Rattle.xmp_base.proofs.Inside.{filled_more}
use Rattle.xmp_base.proofs.windows.fill_from.Goals as goal

pub loop-done-preserved : goal.loop-done-preserved
loop-done-preserved g c =
    let old = g.D.Desk.state c.args.desk.now in
    let mid = g.D.Desk.state c.loop-done.desk in
    let new = g.D.Desk.state c.read_at.new.self in
    let at = c.args.at in
    let done = c.loop-done.done in
    let inv = c.loop-done.invariant in
    let size = part_size _ _ _ inv.within c.read_at.auto.to in
    let call = c.in_ok-done.ensures.call in
    let n = c.in_ok-done.field-0 in
    let same : len_of mid c.args.name.now ≡ len_of old c.args.name.now = ap (λ (m : Lens). unwrap_or (get m c.args.name.now) 0) inv.filled.calls.lens in
    let some : 0 < n = call.least (omega (arith, same)) (omega (arith, size)) in
    let once = once_more c.args.name.now at (at + done) n old.reads mid.reads new.reads inv.once some call.reads in
    record {
      within = put_size _ _ _ _ inv.within size call.most.0;
      once = subst (λ (end : ℕ). MovedOnce c.args.name.now at end old.reads new.reads) (let e : at + done + n ≡ at + (done + n) = omega arith in e) once;
      filled = filled_more _ _ _ _ _ _ _ _ _ _ _ inv.filled call inv.within size refl (ap (λ (n : ℕ). at + n) (sym c.loop-done.auto.to));
    }
