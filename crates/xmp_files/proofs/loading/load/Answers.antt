use Rattle.std.proofs.Common.{subst, sym, Err}
use Rattle.xmp_values.specs.declared.faults.Fault.{Fault}
use Rattle.xmp_values.specs.declared.stops.FileStop.TheVariants.{Fault as Refused}
use Rattle.xmp_files.specs.Loads.{LoadCall}
use Rattle.xmp_files.proofs.Loads.{load_long, load_short, known_sized, len_sized}
use Rattle.xmp_files.proofs.loading.load.Goals as goal

-- the file is over its limit
pub returns-then-size-gt-FILE_LIMIT : goal.returns-then-size-gt-FILE_LIMIT
returns-then-size-gt-FILE_LIMIT g c = record {
  call = subst (λ (f : Fault). LoadCall c.args.need (g.D.Desk.state c.args.desk.now) (g.D.Desk.state c.size.new.self) c.args.name.now (Err (Refused f))) (sym c.over_limit.ensures)
      (load_long c.args.need _ _ _ _ c.in-Ok.ensures.call c.if-size-gt-FILE_LIMIT.true);
}

pub load_sized-requires-clause-known : goal.load_sized-requires-clause-known
load_sized-requires-clause-known g c = known_sized c.args.need _ _ _ _ c.in-Ok.ensures.call

pub load_sized-requires-clause-len : goal.load_sized-requires-clause-len
load_sized-requires-clause-len g c = len_sized c.args.need _ _ _ _ c.in-Ok.ensures.call

pub returns : goal.returns
returns g c = record { call = load_short c.args.need _ _ _ _ c.in-Ok.ensures.call _ _ c.if-size-gt-FILE_LIMIT.false c.load_sized.ensures.call }
