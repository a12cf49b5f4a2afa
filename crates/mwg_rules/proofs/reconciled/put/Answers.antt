use Rattle.std.proofs.Common.{◌≡◌, ◌∙◌, ◌++◌, ap, sym, List, [], ◌∷◌, Some, None}
use Rattle.xmp_values.specs.declared.text.Name.{Name}
use Rattle.xmp_tree.specs.declared.nested.Member.{Member}
use Rattle.xmp_tree.specs.Parts.{member}
use Rattle.xmp_tree.specs.Places.{place_of}
use Rattle.mwg_rules.specs.declared.properties.Form.{Form}
use Rattle.mwg_rules.specs.Forms.{with_texts}
use Rattle.mwg_rules.specs.Properties.{form_of, name_of}
use Rattle.mwg_rules.proofs.Puts.{with_property-absent, with_property-refilled}
use Rattle.mwg_rules.proofs.reconciled.put.Goals as goal

pub returns-in-Some : goal.returns-in-Some
returns-in-Some c =
    let p = c.args.property in
    let at : place_of (name_of p) c.args.props ≡ Some c.in-Some.at =
    ap (λ (n : Name). place_of n c.args.props) (sym c.name-name.ensures) ∙ ap (λ (l : List Member). place_of c.name-name.result l) (sym c.as_slice.ensures) ∙ sym c.place_of.ensures ∙ c.in-Some.is in
    with_property-refilled (name_of p) (with_texts (form_of p) c.args.texts.now) c.args.props c.take_value-there.new.members c.in-Some.at c.take_value-there.result
    c.in_ok-value-in-Some.value c.refill.result at c.take_value-there.ensures.value c.take_value-there.ensures.rest
    (c.in_ok-value-in-Some.ensures ∙ ap (λ (f : Form). with_texts f c.args.texts.now c.take_value-there.result) c.form.ensures) c.refill.ensures

pub returns : goal.returns
returns c =
    let p = c.args.property in
    let at : place_of (name_of p) c.args.props ≡ None =
    ap (λ (n : Name). place_of n c.args.props) (sym c.name-name.ensures) ∙ ap (λ (l : List Member). place_of c.name-name.result l) (sym c.as_slice.ensures) ∙ sym c.place_of.ensures ∙ c.in-None.is in
    c.in_ok-join-in-None.ensures
    ∙ ap (λ v. c.args.props ++ member c.name-name.result v ∷ []) (c.in_ok-value-in-None.ensures ∙ ap (λ (f : Form). with_texts f c.args.texts.now None) c.form-in-None.ensures)
    ∙ ap (λ (n : Name). c.args.props ++ member n (with_texts (form_of p) c.args.texts.now None) ∷ []) c.name-name.ensures
    ∙ sym (with_property-absent (name_of p) (with_texts (form_of p) c.args.texts.now) c.args.props at)
