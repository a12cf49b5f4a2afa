use Rattle.std.proofs.Common.{◌≡◌, take}
use Rattle.std.specs.List.{flat_map}
use Rattle.rdf_forms.specs.Parts.{text_at}
use Rattle.xmp_rdf.proofs.texts.joined_texts.Given as goal

abbrev pub invariant-loop-child : goal.invariant-loop-child
invariant-loop-child l = l.bytes.items ≡ flat_map text_at (take l.child-index l.children)
