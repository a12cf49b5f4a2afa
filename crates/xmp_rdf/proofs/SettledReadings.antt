-- What reading a document gives doesn't depend on the number of levels.
use Rattle.std.proofs.Common.{◌≡◌, ◌≤◌, ℕ, List, Option, sym, ◌∙◌, arith}
use Rattle.xmp_values.specs.declared.hints.Hint.{Hint}
use Rattle.xmp_tree.specs.Parts.{Parts}
use Rattle.xml_grammar.specs.declared.elements.Element.{Element}
use Rattle.xml_grammar.specs.Documents.{IsDocument}
use Rattle.xml_grammar.specs.Heights.{height}
use Rattle.xml_grammar.proofs.LowTrees.{low_document}
use Rattle.rdf_forms.specs.Meaning.{Meaning}
use Rattle.rdf_forms.proofs.Settled.{settled_meaning}
use Rattle.xmp_rdf.specs.Meanings.{unless, reading_within, most_levels, reading}

from_height : (root : Element) (hints : List Hint) (levels : ℕ) → height root ≤ levels → reading_within levels root hints ≡ reading_within (height root) root hints
unfolding reading_within
from_height root hints levels high =
    let same = settled_meaning (height root) levels root (omega arith) high in
    λ i. unless (same.fault i) (meant (same.tree i) (same.note i) (same.places i))
  where
    meant : Parts → Option (List ℕ) → List ℕ → Meaning
    meant tree note places = record { tree = tree; hints = hints; note = note; places = places }

pub settled_reading : (text : List ℕ) (root : Element) (hints : List Hint) (levels : ℕ) → IsDocument text root hints → height root ≤ levels →
    reading_within levels root hints ≡ reading root hints
unfolding reading
settled_reading text root hints levels document high =
    from_height root hints levels high ∙ sym (from_height root hints most_levels (low_document text root hints document))
