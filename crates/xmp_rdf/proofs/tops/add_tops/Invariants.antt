use Rattle.std.proofs.Common.{◌≡◌, List, take, Ok, []}
use Rattle.rdf_forms.specs.Parts.{elements_in}
use Rattle.rdf_forms.specs.Meaning.{Placed}
use Rattle.xmp_rdf.specs.Reading.{read_tops}
use Rattle.rdf_forms.specs.FormViews.{about_in}
use Rattle.xmp_rdf.specs.Parting.{parts_of}
use Rattle.xmp_rdf.specs.Gathering.{IsAfter}
use Rattle.xmp_rdf.proofs.tops.add_tops.Given as goal

abbrev pub invariant-loop-child : goal.invariant-loop-child
invariant-loop-child l =
    l.initial.gathered.parts ≡ parts_of [] → IsAfter [] (about_in l.initial.gathered.first) l.initial.gathered.names →
    let tops = elements_in (take l.child-index l.children) in
    (ps : List Placed) × (read_tops l.levels [] [] tops ≡ Ok ps) × (l.gathered.parts ≡ parts_of ps) × IsAfter tops (about_in l.gathered.first) l.gathered.names
