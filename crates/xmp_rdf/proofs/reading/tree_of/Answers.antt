use Rattle.std.proofs.Common.{ℕ, ◌∙◌, ap, sym, Ok, List, lit≤}
use Rattle.std.specs.Prelude.{Option}
use Rattle.xmp_values.specs.declared.hints.Hint.{Hint}
use Rattle.rdf_forms.specs.Meaning.{Meaning}
use Rattle.xmp_rdf.specs.Reading.{read_root}
use Rattle.xmp_rdf.specs.Parting.{note_digits}
use Rattle.xmp_rdf.specs.Meanings.{reading, most_levels}
use Rattle.xmp_rdf.proofs.Exits.{exit}
use Rattle.xmp_rdf.proofs.Faults.{and_then-ok, and_then-err}
use Rattle.xmp_rdf.proofs.PartLaws.{made, reading-most, formed-parts, placed-parts}
use Rattle.xmp_rdf.proofs.reading.tree_of.Goals as goal

pub returns-in_err-about : goal.returns-in_err-about
returns-in_err-about c =
    let root = c.args.doc.root in
    let hints = c.args.doc.declared in
    exit c.from_residual.result c.in_err-about.field-0.0 (read_root most_levels c.root.result.now) (reading root hints) c.from_residual.ensures.1 c.in_err-about.ensures
    (λ f halts. reading-most root hints ∙ and_then-err _ f (λ d. Ok (made hints d)) (ap (read_root most_levels) (sym c.root.ensures.root) ∙ halts))

pub invariant_of-tree : goal.invariant_of-tree
invariant_of-tree c =
    let held = c.in_ok-about.field-0 in
    formed-parts most_levels c.args.doc.root held (lit≤ tt) c.root.ensures.sound (ap (read_root most_levels) (sym c.root.ensures.root) ∙ c.in_ok-about.ensures)

pub invariant_of-result : goal.invariant_of-result
invariant_of-result c =
    let held = c.in_ok-about.field-0 in
    placed-parts most_levels c.args.doc.root held (ap (read_root most_levels) (sym c.root.ensures.root) ∙ c.in_ok-about.ensures)

pub returns : goal.returns
returns c =
    let root = c.args.doc.root in
    let hints = c.args.doc.declared in
    let held = c.in_ok-about.field-0 in
    let copied = c.into_declared-hints.ensures in
    let note = c.note_digits-note.ensures ∙ ap note_digits c.as_slice.ensures in
    let meaning = λ (h : List Hint) (n : Option (List ℕ)).
    let m : Meaning = record { tree = record { about = held.about; props = held.parts.props }; hints = h; note = n; places = held.parts.places } in m in
    reading-most root hints ∙ and_then-ok _ held (λ d. Ok (made hints d)) (ap (read_root most_levels) (sym c.root.ensures.root) ∙ c.in_ok-about.ensures)
    ∙ (λ i. Ok (meaning (sym copied i) (sym note i)))
