use Rattle.std.proofs.Common.{◌∙◌, ◌++◌, List, ap, sym, subst, append-nil}
use Rattle.xml_grammar.specs.declared.elements.Element.{Element}
use Rattle.xmp_rdf.specs.Reading.{read_tops}
use Rattle.rdf_forms.specs.FormViews.{about_in}
use Rattle.xmp_rdf.specs.Gathering.{IsAfter}
use Rattle.xmp_rdf.proofs.TopReadings.{tops-none, top-text}
use Rattle.xmp_rdf.proofs.tops.add_top_at.Goals as goal

pub returns-in-Text : goal.returns-in-Text
returns-in-Text c = λ before earlier is after.
    let g = c.args.gathered.now in
    let none = top-text c.args.child.now c.in-Text.field-0 c.in-Text.is in (
      (before, ap (read_tops c.args.levels before earlier) none ∙ tops-none c.args.levels before earlier, is),
      subst (λ (ts : List Element). IsAfter ts (about_in g.first) g.names) (sym (ap (λ (ts : List Element). earlier ++ ts) none ∙ append-nil earlier)) after,
    )
