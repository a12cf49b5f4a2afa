use Rattle.std.proofs.Common.{ap, arith, length}
use Rattle.xmp_files.specs.Plans.{front_packet}
use Rattle.xmp_files.proofs.DividedTexts.{front_limited}
use Rattle.xmp_files.proofs.PushedPortions.{main_len}
use Rattle.xmp_files.proofs.dividing.both_segments.Goals as goal

pub push_portions-requires-clause-short : goal.push_portions-requires-clause-short
push_portions-requires-clause-short c =
    omega (
      arith,
      ap length c.in_ok-segments.ensures,
      main_len (front_packet c.args.tree.now c.args.hints.now c.args.split.now.count),
      front_limited c.args.tree.now c.args.hints.now c.args.split.now.count c.requires.told.largest,
    )
