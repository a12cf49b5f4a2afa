use Rattle.std.proofs.Common.{◌∙◌, ◌∷◌, [], List, take, sym, subst}
use Rattle.xml_grammar.specs.declared.elements.Element.{Element}
use Rattle.rdf_forms.specs.Parts.{elements_in}
use Rattle.rdf_forms.specs.FormViews.{about_in}
use Rattle.xmp_rdf.specs.Reading.{read_tops}
use Rattle.xmp_rdf.specs.Gathering.{IsAfter, Gathers}
use Rattle.xmp_rdf.proofs.Exits.{exit_to, fails_whole}
use Rattle.xmp_rdf.proofs.Readings.{elements_more}
use Rattle.xmp_rdf.proofs.TopReadings.{tops-none, tops-loop-more, tops-loop-stop}
use Rattle.xmp_rdf.proofs.tops.add_tops.Goals as goal

pub loop-child-init : goal.loop-child-init
loop-child-init c = λ is after. ([], tops-none c.args.levels [] [], is, after)

pub loop-child-preserved : goal.loop-child-preserved
loop-child-preserved c = λ is after.
    let cs = c.args.children.now in
    let i = c.loop-child.child-index in
    let d = c.child-item.result in
    let gathered = c.add_top_at.new.gathered in
    let so_far = c.loop-child.invariant is after in
    let more = c.in_ok-add_top_at.ensures so_far.0 (elements_in (take i cs)) so_far.2 so_far.3 in (
      more.0.0,
      tops-loop-more c.args.levels [] so_far.0 [] cs i d c.loop-child-test.true c.child-item.is so_far.1 ∙ more.0.1,
      more.0.2,
      subst (λ (ts : List Element). IsAfter ts (about_in gathered.first) gathered.names) (sym (elements_more cs i d c.loop-child-test.true c.child-item.is)) more.1,
    )

pub returns-in_err-add_top_at : goal.returns-in_err-add_top_at
returns-in_err-add_top_at c = λ is after.
    let cs = c.args.children.now in
    let i = c.loop-child.child-index in
    let d = c.child-item.result in
    let levels = c.args.levels in
    let so_far = c.loop-child.invariant is after in
    exit_to c.from_residual.result c.in_err-add_top_at.field-0.0 (λ r. Gathers levels [] [] (elements_in cs) r c.add_top_at.new.gathered) c.from_residual.ensures.1
    (fails_whole c.in_err-add_top_at.field-0.0 (read_tops levels so_far.0 (elements_in (take i cs)) (elements_in (d ∷ []))) (read_tops levels [] [] (elements_in cs))
    (tops-loop-stop levels [] so_far.0 [] cs i d c.loop-child-test.true c.child-item.is so_far.1)
    (c.in_err-add_top_at.ensures so_far.0 (elements_in (take i cs)) so_far.2 so_far.3))
