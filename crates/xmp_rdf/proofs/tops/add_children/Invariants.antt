use Rattle.std.proofs.Common.{◌≡◌, List, take, Ok}
use Rattle.rdf_forms.specs.Parts.{elements_in}
use Rattle.rdf_forms.specs.Meaning.{Placed}
use Rattle.xmp_rdf.specs.Reading.{read_placed}
use Rattle.xmp_rdf.specs.Parting.{parts_of}
use Rattle.xmp_rdf.proofs.tops.add_children.Given as goal

abbrev pub invariant-loop-child : goal.invariant-loop-child
invariant-loop-child l =
    (before : List Placed) → l.initial.parts ≡ parts_of before →
    (ps : List Placed) × (read_placed l.levels before (elements_in (take l.child-index l.children)) ≡ Ok ps) × (l.parts ≡ parts_of ps)
