use Rattle.std.proofs.Common.{not, refl}
use Rattle.std.proofs.lemmas.Simd.{zip2_splat, zip2_of_maps, length-chunk}
use lib.Lanes.{chunk}
use Rattle.xmp_lanes.specs.Runs.{is_escaped}
use Rattle.xmp_lanes.specs.declared.plain.Escape.TheVariants.{Text}
use Rattle.xmp_lanes.proofs.LoadRuns.{load_run}
use Rattle.xmp_lanes.proofs.plain.text_in_load.Goals as goal

pub returns : goal.returns
returns c =
    let v = chunk c.args.at 32 c.args.bytes.now in
    let long = length-chunk c.args.at 32 c.args.bytes.now c.requires in
    load_run (λ b. not (is_escaped Text b)) c.args.bytes.now c.args.at _ _ c.requires c.type_inv.bytes c.first_set.ensures _
    (zip2_of_maps _ _ _ v (zip2_of_maps _ _ _ v (zip2_of_maps _ _ _ v (zip2_splat _ v 32 38 long) (zip2_splat _ v 32 60 long)) (zip2_splat _ v 32 62 long)) (zip2_splat _ v 32 13 long)) refl
