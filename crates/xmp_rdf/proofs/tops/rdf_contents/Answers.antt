use Rattle.std.proofs.Common.{◌∙◌, ℕ, List, [], ap, sym, subst, refl, Ok}
use Rattle.xmp_values.specs.declared.text.Name.{Name}
use Rattle.xml_grammar.specs.declared.elements.Child.{Child}
use Rattle.rdf_forms.specs.declared.roles.Role.TheVariants as roles
use Rattle.rdf_forms.specs.Parts.{elements_in, elements_of}
use Rattle.rdf_forms.specs.NameRules.{first_about}
use Rattle.rdf_forms.specs.Entering.{Holds}
use Rattle.xmp_rdf.specs.declared.parting.Parted.{Parted}
use Rattle.xmp_rdf.specs.declared.tops.Contents.{Contents}
use Rattle.xmp_rdf.specs.Reading.{checked, read_tops, read_rdf}
use Rattle.xmp_rdf.specs.Gathering.{IsAfter}
use Rattle.xmp_rdf.proofs.Exits.{exit}
use Rattle.xmp_rdf.proofs.Faults.{and_then, and_then-ok, and_then-err}
use Rattle.xmp_rdf.proofs.RootReadings.{with_placed, rdf-read}
use Rattle.xmp_rdf.proofs.tops.rdf_contents.Goals as goal

pub returns-in_err-check : goal.returns-in_err-check
returns-in_err-check c =
    let e = c.args.rdf.now in
    exit c.from_residual.result c.in_err-check.field-0.0 (checked roles.Rdf 0 c.of.result.element.now) (read_rdf c.args.levels e) c.from_residual.ensures.1 c.in_err-check.ensures
    (λ f halts. rdf-read c.args.levels e ∙ and_then-err _ f (λ _. and_then (read_tops c.args.levels [] [] (elements_of e)) (λ ps. Ok (with_placed e ps)))
    (ap (checked roles.Rdf 0) (sym c.of.ensures) ∙ halts))

pub returns-in_err-add_tops : goal.returns-in_err-add_tops
returns-in_err-add_tops c =
    let e = c.args.rdf.now in
    let levels = c.args.levels in
    let step = ap (λ (cs : List Child). read_tops levels [] [] (elements_in cs)) c.as_slice.ensures in
    let after : IsAfter [] [] c.new.result = record { about = refl; holds = subst (λ (ns : List Name). Holds ns []) (sym c.new.ensures) (λ n. (λ h. h, λ h. h)) } in
    exit c.from_residual-in_err-add_tops.result c.in_err-add_tops.field-0.0 (read_tops levels [] [] (elements_in c.as_slice.result.now)) (read_rdf levels e) c.from_residual-in_err-add_tops.ensures.1
    (c.in_err-add_tops.ensures c.new-2.ensures after)
    (λ f halts. rdf-read levels e ∙ and_then-ok _ c.in_ok-check.field-0 (λ _. and_then (read_tops levels [] [] (elements_of e)) (λ ps. Ok (with_placed e ps))) (ap (checked roles.Rdf 0) (sym c.of.ensures) ∙ c.in_ok-check.ensures)
    ∙ and_then-err _ f (λ ps. Ok (with_placed e ps)) (sym step ∙ halts))

pub returns : goal.returns
returns c =
    let e = c.args.rdf.now in
    let levels = c.args.levels in
    let step = ap (λ (cs : List Child). read_tops levels [] [] (elements_in cs)) c.as_slice.ensures in
    let after : IsAfter [] [] c.new.result = record { about = refl; holds = subst (λ (ns : List Name). Holds ns []) (sym c.new.ensures) (λ n. (λ h. h, λ h. h)) } in
    let tops = c.in_ok-add_tops.ensures c.new-2.ensures after in
    let about = c.in_ok-about.ensures ∙ tops.1.about ∙ ap (λ (cs : List Child). first_about (elements_in cs)) c.as_slice.ensures in
    rdf-read levels e ∙ and_then-ok _ c.in_ok-check.field-0 (λ _. and_then (read_tops levels [] [] (elements_of e)) (λ ps. Ok (with_placed e ps))) (ap (checked roles.Rdf 0) (sym c.of.ensures) ∙ c.in_ok-check.ensures)
    ∙ and_then-ok _ tops.0.0 (λ ps. Ok (with_placed e ps)) (sym step ∙ tops.0.1) ∙ (λ i. Ok (made (sym about i) (sym tops.0.2 i)))
  where
    made : List ℕ → Parted → Contents
    made about parts = record { about = about; parts = parts }
