use Rattle.std.proofs.Common.{subst, ap, sym, ◌∙◌, Err}
use Rattle.rdf_forms.specs.Broken.{TopGives}
use Rattle.xmp_rdf.proofs.TopReadings.{top-entered, top-halted}
use Rattle.xmp_rdf.proofs.tops.add_names.Goals as goal

pub returns-in-None : goal.returns-in-None
returns-in-None c = λ earlier after.
    let t = c.args.top.now in
    let first = c.args.first.now in
    let set = c.broken_top.new.seen in
    top-entered earlier t first c.args.names.now set after (λ ns held. subst (TopGives t first ns set) c.in-None.is (c.in_ok-broken_top.ensures ns held))

pub returns-in-Some : goal.returns-in-Some
returns-in-Some c = λ earlier after.
    let t = c.args.top.now in
    let first = c.args.first.now in
    let set = c.broken_top.new.seen in
    top-halted earlier t first c.args.names.now c.in-Some.rule after (λ ns held. subst (TopGives t first ns set) c.in-Some.is (c.in_ok-broken_top.ensures ns held))
    ∙ ap (λ at. Err (c.in-Some.rule, at)) (sym c.at.ensures)
