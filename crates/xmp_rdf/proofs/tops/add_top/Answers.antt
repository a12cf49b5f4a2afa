use Rattle.std.proofs.Common.{◌∙◌, List, ◌++◌, ◌∷◌, [], sym, ap, subst, ℕ}
use Rattle.xml_grammar.specs.declared.elements.Child.{Child}
use Rattle.rdf_forms.specs.Parts.{elements_in, elements_of}
use Rattle.std.specs.Prelude.{Option}
use Rattle.std.specs.Borrow.{Bor}
use Rattle.xmp_values.specs.declared.text.Name.{Name}
use Rattle.xmp_rdf.specs.declared.parting.Parted.{Parted}
use Rattle.xmp_rdf.specs.declared.tops.Gathered.{Gathered}
use Rattle.xmp_rdf.specs.Reading.{checked_top, read_placed, read_tops}
use Rattle.rdf_forms.specs.FormViews.{about_in}
use Rattle.xmp_rdf.specs.Gathering.{IsAfter, Gathers}
use Rattle.xmp_rdf.proofs.Exits.{exit_to, fails_whole}
use Rattle.xmp_rdf.proofs.Faults.{and_then-ok, and_then-err}
use Rattle.xmp_rdf.proofs.TopReadings.{tops-one, attributes_placed, after-more}
use Rattle.xmp_rdf.proofs.tops.add_top.Goals as goal

abbrev kept : Option (Bor (List ℕ)) → List Name → Parted → Gathered
kept first names parts = record { first = first; names = names; parts = parts }

pub returns-in_err-add_names : goal.returns-in_err-add_names
returns-in_err-add_names c = λ before earlier is after.
    let t = c.args.top.now in
    let levels = c.args.levels in
    let g = c.args.gathered.now in
    let told = subst (λ (f : List ℕ). IsAfter earlier f g.names) (sym c.about_bytes.ensures) after in
    exit_to c.from_residual.result c.in_err-add_names.field-0.0 (λ r. Gathers levels before earlier (t ∷ []) r (kept g.first c.add_names.new.names g.parts)) c.from_residual.ensures.1
    (fails_whole c.in_err-add_names.field-0.0 (checked_top earlier t) (read_tops levels before earlier (t ∷ []))
    (λ f halts. tops-one levels before earlier t ∙ and_then-err _ f (λ _. read_placed levels (before ++ attributes_placed t) (elements_of t)) halts) (c.in_err-add_names.ensures earlier told))

pub returns-in_err-add_children : goal.returns-in_err-add_children
returns-in_err-add_children c = λ before earlier is after.
    let t = c.args.top.now in
    let levels = c.args.levels in
    let g = c.args.gathered.now in
    let told = subst (λ (f : List ℕ). IsAfter earlier f g.names) (sym c.about_bytes.ensures) after in
    let entered = c.in_ok-add_names.ensures earlier told in
    let attributed = c.in_ok-add_attributes.ensures before is in
    let placed = before ++ attributes_placed t in
    let same = ap (λ (cs : List Child). read_placed levels placed (elements_in cs)) c.as_slice.ensures in
    exit_to c.from_residual-in_err-add_children.result c.in_err-add_children.field-0.0 (λ r. Gathers levels before earlier (t ∷ []) r (kept g.first c.add_names.new.names c.add_children.new.parts)) c.from_residual-in_err-add_children.ensures.1
    (fails_whole c.in_err-add_children.field-0.0 (read_placed levels placed (elements_in c.as_slice.result.now)) (read_tops levels before earlier (t ∷ []))
    (λ f halts. tops-one levels before earlier t ∙ and_then-ok _ tt (λ _. read_placed levels placed (elements_of t)) entered.0 ∙ sym same ∙ halts)
    (c.in_err-add_children.ensures placed attributed))

pub returns : goal.returns
returns c = λ before earlier is after.
    let t = c.args.top.now in
    let levels = c.args.levels in
    let g = c.args.gathered.now in
    let told = subst (λ (f : List ℕ). IsAfter earlier f g.names) (sym c.about_bytes.ensures) after in
    let entered = c.in_ok-add_names.ensures earlier told in
    let attributed = c.in_ok-add_attributes.ensures before is in
    let placed = before ++ attributes_placed t in
    let same = ap (λ (cs : List Child). read_placed levels placed (elements_in cs)) c.as_slice.ensures in
    let read = c.in_ok-add_children.ensures placed attributed in (
      (read.0, tops-one levels before earlier t ∙ and_then-ok _ tt (λ _. read_placed levels placed (elements_of t)) entered.0 ∙ sym same ∙ read.1, read.2),
      after-more earlier t (about_in g.first) (about_in c.first_about-gathered.result) g.names c.add_names.new.names after c.first_about-gathered.ensures entered.1,
    )
