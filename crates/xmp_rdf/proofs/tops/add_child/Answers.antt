use Rattle.std.proofs.Common.{◌∙◌, ◌++◌, ◌∷◌, [], ap, sym, Ok}
use Rattle.xmp_tree.specs.Parts.{member}
use Rattle.rdf_forms.specs.declared.roles.Role.TheVariants as roles
use Rattle.rdf_forms.specs.declared.roles.Holder.TheVariants as holders
use Rattle.rdf_forms.specs.Parts.{elements_in}
use Rattle.rdf_forms.specs.Meaning.{Placed}
use Rattle.xmp_rdf.specs.Reading.{read_within, read_placed, placed_member, visits_in}
use Rattle.xmp_rdf.specs.Parting.{with_placed}
use Rattle.xmp_rdf.specs.Gathering.{Parts}
use Rattle.xmp_rdf.proofs.Exits.{exit_to, fails_whole}
use Rattle.xmp_rdf.proofs.Faults.{and_then-ok, and_then-err}
use Rattle.xmp_rdf.proofs.PartLaws.{parts-more}
use Rattle.xmp_rdf.proofs.Readings.{all-text}
use Rattle.xmp_rdf.proofs.TopReadings.{placed-element, placed_as}
use Rattle.xmp_rdf.proofs.tops.add_child.Goals as goal

pub returns-in_default : goal.returns-in_default
returns-in_default c = λ before is.
    (before, all-text (visits_in c.args.levels holders.Top 0) (placed_member c.args.levels) before c.args.child.now c.in_default.field-0 c.in_default.is, is)

pub returns-in_err-value : goal.returns-in_err-value
returns-in_err-value c = λ before is.
    let e = c.in-Element.element in
    let role = roles.Property holders.Top in
    let whole = read_placed c.args.levels before (elements_in (c.args.child.now ∷ [])) in
    exit_to c.from_residual.result c.in_err-value.field-0.0 (λ r. Parts r c.args.parts.now whole) c.from_residual.ensures.1
    (fails_whole c.in_err-value.field-0.0 (read_within c.args.levels role c.member_depth.result e) whole
    (λ f halts. placed-element c.args.levels before c.args.child.now e c.in-Element.is
    ∙ and_then-err _ f (λ v. Ok (before ++ placed_as e v ∷ [])) (ap (λ d. read_within c.args.levels role d e) (sym c.member_depth.ensures.depth) ∙ halts))
    c.in_err-value.ensures)

pub returns : goal.returns
returns c = λ before is.
    let e = c.in-Element.element in
    let role = roles.Property holders.Top in
    let value = c.in_ok-value.value in
    let placed : Placed = placed_as e value in (
      before ++ placed ∷ [],
      placed-element c.args.levels before c.args.child.now e c.in-Element.is
          ∙ and_then-ok _ value (λ v. Ok (before ++ placed_as e v ∷ [])) (ap (λ d. read_within c.args.levels role d e) (sym c.member_depth.ensures.depth) ∙ c.in_ok-value.ensures),
      c.in_ok-push.ensures
          ∙ (λ i. with_placed (is i) (c.at.ensures i, member (c.in_ok-name.ensures i) value))
          ∙ sym (parts-more before placed),
    )
