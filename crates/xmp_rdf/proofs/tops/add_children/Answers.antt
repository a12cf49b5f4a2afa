use Rattle.std.proofs.Common.{◌∙◌, ◌∷◌, []}
use Rattle.rdf_forms.specs.declared.roles.Holder.TheVariants as holders
use Rattle.rdf_forms.specs.Parts.{elements_in}
use Rattle.xmp_rdf.specs.Reading.{read_placed, placed_member, visits_in}
use Rattle.xmp_rdf.specs.Gathering.{Parts}
use Rattle.xmp_rdf.proofs.Exits.{exit_to, fails_whole}
use Rattle.xmp_rdf.proofs.Readings.{all-none, loop-more, loop-stop}
use Rattle.xmp_rdf.proofs.tops.add_children.Goals as goal

pub loop-child-init : goal.loop-child-init
loop-child-init c = λ before is. (before, all-none (visits_in c.args.levels holders.Top 0) (placed_member c.args.levels) before, is)

pub loop-child-preserved : goal.loop-child-preserved
loop-child-preserved c = λ before is.
    let so_far = c.loop-child.invariant before is in
    let next = c.in_ok-add_child.ensures so_far.0 so_far.2 in (
      next.0,
      loop-more (visits_in c.args.levels holders.Top 0) (placed_member c.args.levels) before so_far.0 c.args.children.now c.loop-child.child-index c.child-item.result
          c.loop-child-test.true c.child-item.is so_far.1
          ∙ next.1,
      next.2,
    )

pub returns-in_err-add_child : goal.returns-in_err-add_child
returns-in_err-add_child c = λ before is.
    let levels = c.args.levels in
    let so_far = c.loop-child.invariant before is in
    exit_to c.from_residual.result c.in_err-add_child.field-0.0 (λ r. Parts r c.add_child.new.parts (read_placed levels before (elements_in c.args.children.now))) c.from_residual.ensures.1
    (fails_whole c.in_err-add_child.field-0.0 (read_placed levels so_far.0 (elements_in (c.child-item.result ∷ []))) (read_placed levels before (elements_in c.args.children.now))
    (loop-stop (visits_in levels holders.Top 0) (placed_member levels) before so_far.0 c.args.children.now c.loop-child.child-index c.child-item.result c.loop-child-test.true c.child-item.is so_far.1)
    (c.in_err-add_child.ensures so_far.0 so_far.2))
