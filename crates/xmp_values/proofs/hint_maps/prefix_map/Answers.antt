use Rattle.std.proofs.Common.{subst, sym, drop, ◌-◌, arith}
use Rattle.xmp_values.specs.HintMaps.{HasPrefixes}
use Rattle.xmp_values.proofs.HintMaps.{prefixes_before, hint_drop}
use Rattle.xmp_values.proofs.hint_maps.prefix_map.Goals as goal

pub loop-at-preserved : goal.loop-at-preserved
loop-at-preserved c =
    let hints = c.args.hints.now in
    let at = c.loop-at.at - 1 in
    let hint = c.index-hints-at.result in
    let more = prefixes_before hint (drop c.loop-at.at hints) c.as_slice.result c.as_slice-in-loop-at.result c.loop-at.map c.insert.new.self c.as_slice.ensures c.as_slice-in-loop-at.ensures c.loop-at.invariant.has c.in_ok-insert.ensures.updates in record {
      within = omega (arith, c.loop-at.invariant.within);
      has = subst (HasPrefixes c.insert.new.self) (sym (hint_drop hints at hint (omega (arith, c.loop-at.invariant.within)) c.index-hints-at.is c.loop-at.at (omega arith))) more;
    }
