use Rattle.std.proofs.Common.{◌∙◌, ap, sym, subst}
use Rattle.rdf_forms.specs.declared.roles.Role.TheVariants as roles
use Rattle.rdf_forms.specs.Parts.{elements_of}
use Rattle.xmp_values.specs.Stops.{place_of, Gives}
use Rattle.xmp_rdf.specs.Reading.{checked, read_root}
use Rattle.xmp_rdf.proofs.Exits.{exit}
use Rattle.xmp_rdf.proofs.Faults.{and_then-ok, and_then-err}
use Rattle.xmp_rdf.proofs.RootReadings.{root-rdf, root-other, read_held, held-first, has-first, root-holds}
use Rattle.xmp_rdf.proofs.tops.root_contents.Goals as goal

pub returns-then-is_rdf_root : goal.returns-then-is_rdf_root
returns-then-is_rdf_root c =
    subst (Gives place_of c.rdf_contents.result) (sym (root-rdf c.args.levels c.args.root.now (sym c.is_rdf_root.ensures ∙ c.if-is_rdf_root.true))) c.rdf_contents.ensures

pub returns-in_err-check : goal.returns-in_err-check
returns-in_err-check c =
    let root = c.args.root.now in
    let levels = c.args.levels in
    exit c.from_residual.result c.in_err-check.field-0.0 (checked roles.Root 0 c.of.result.element.now) (read_root levels root) c.from_residual.ensures.1 c.in_err-check.ensures
    (λ f halts. root-other levels root (sym c.is_rdf_root.ensures ∙ c.if-is_rdf_root.false) ∙ and_then-err _ f (λ _. read_held levels root (elements_of root)) (ap (checked roles.Root 0) (sym c.of.ensures) ∙ halts))

pub returns-in-Some : goal.returns-in-Some
returns-in-Some c =
    let root = c.args.root.now in
    let levels = c.args.levels in
    let one = root-holds root c.in_ok-check.field-0 (ap (checked roles.Root 0) (sym c.of.ensures) ∙ c.in_ok-check.ensures) in
    let whole = root-other levels root (sym c.is_rdf_root.ensures ∙ c.if-is_rdf_root.false)
    ∙ and_then-ok _ c.in_ok-check.field-0 (λ _. read_held levels root (elements_of root)) (ap (checked roles.Root 0) (sym c.of.ensures) ∙ c.in_ok-check.ensures)
    ∙ held-first levels root (elements_of root) c.in-Some.rdf.now one c.in-Some.ensures in
    subst (Gives place_of c.rdf_contents-in-Some.result) (sym whole) c.rdf_contents-in-Some.ensures

pub returns-in-None : goal.returns-in-None
returns-in-None c =
    let root = c.args.root.now in
    absurd (has-first (elements_of root) (root-holds root c.in_ok-check.field-0 (ap (checked roles.Root 0) (sym c.of.ensures) ∙ c.in_ok-check.ensures)) c.in-None.ensures)
