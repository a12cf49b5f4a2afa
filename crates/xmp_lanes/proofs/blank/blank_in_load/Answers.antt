use Rattle.std.proofs.Common.{refl}
use Rattle.std.proofs.lemmas.Simd.{zip2_splat, zip2_of_maps, length-chunk}
use lib.Lanes.{chunk}
use Rattle.xmp_values.specs.Characters.{is_blank}
use Rattle.xmp_lanes.proofs.LoadRuns.{load_run}
use Rattle.xmp_lanes.proofs.blank.blank_in_load.Goals as goal

pub returns : goal.returns
unfolding is_blank
returns c =
    let v = chunk c.args.at 32 c.args.bytes.now in
    let long = length-chunk c.args.at 32 c.args.bytes.now c.requires in
    load_run is_blank c.args.bytes.now c.args.at _ _ c.requires c.type_inv.bytes c.first_set.ensures _
    (zip2_of_maps _ _ _ v (zip2_of_maps _ _ _ v (zip2_of_maps _ _ _ v (zip2_splat _ v 32 32 long) (zip2_splat _ v 32 9 long)) (zip2_splat _ v 32 10 long)) (zip2_splat _ v 32 13 long)) refl
