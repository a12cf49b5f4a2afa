use Rattle.std.proofs.Common.{not, sym, ap, ◌∙◌}
use lib.Lanes.{chunk}
use Rattle.xmp_lanes.specs.Runs.{is_escaped, plain_run}
use Rattle.xmp_lanes.proofs.LoadRuns.{run_bound}
use Rattle.xmp_lanes.proofs.plain.plain_in_load.Goals as goal

pub returns-in-Text : goal.returns-in-Text
returns-in-Text c =
    let v = chunk c.args.at 32 c.args.bytes.now in
    let told = c.text_in_load.ensures ∙ ap (λ place. plain_run place v) (sym c.in-Text.is) in record {
      run = told;
      within = run_bound (λ b. not (is_escaped c.args.place b)) c.args.bytes.now c.args.at c.text_in_load.result c.requires told;
    }

pub returns-in-Attribute : goal.returns-in-Attribute
returns-in-Attribute c =
    let v = chunk c.args.at 32 c.args.bytes.now in
    let told = c.attribute_in_load.ensures ∙ ap (λ place. plain_run place v) (sym c.in-Attribute.is) in record {
      run = told;
      within = run_bound (λ b. not (is_escaped c.args.place b)) c.args.bytes.now c.args.at c.attribute_in_load.result c.requires told;
    }
