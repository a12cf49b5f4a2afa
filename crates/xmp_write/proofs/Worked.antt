-- A tree of one property, its text and its least packet: that the definitions say what they are meant to.
use Rattle.std.proofs.Common.{◌≡◌, ℕ, List, [], ◌∷◌, ◌++◌, None, length, refl}
use Rattle.std.specs.Prelude.{codes}
use Rattle.xmp_values.specs.Spaces.{rdf_space, xml_space, meta_space}
use Rattle.xmp_values.specs.declared.hints.Hint.{Hint}
use Rattle.xmp_values.specs.declared.text.Name.{Name}
use Rattle.xmp_tree.specs.declared.nested.Member.{Member'}
use Rattle.xmp_tree.specs.declared.nested.Value.{Value', end_of-Member}
use Rattle.xmp_tree.specs.declared.nested.Shape.{Simple}
use Rattle.xmp_tree.specs.Parts.{Parts}
use Rattle.xmp_write.specs.declared.forms.Form.{Form}
use Rattle.xmp_write.specs.Text.{written_text}
use Rattle.xmp_write.specs.WrittenPackets.{header, trailer, packet}

abbrev dc : Hint
dc = record { space = codes "http://purl.org/dc/elements/1.1/"; prefix = codes "dc" }

abbrev format : Name
format = record { space = dc.space; local = codes "format" }

abbrev tree : Parts
tree = record { about = []; props = Member' format (Value' (Simple (codes "image/jpeg")) [] end_of-Member) ∷ [] }

abbrev whole : Form
whole = record { first = 0; count = 1; note = None }

abbrev text : List ℕ
text = codes "<x:xmpmeta xmlns:x=\"adobe:ns:meta/\">\n<rdf:RDF xmlns:rdf=\"http://www.w3.org/1999/02/22-rdf-syntax-ns#\">\n<rdf:Description rdf:about=\"\" xmlns:dc=\"http://purl.org/dc/elements/1.1/\">\n<dc:format>image/jpeg</dc:format>\n</rdf:Description>\n</rdf:RDF>\n</x:xmpmeta>\n"

the_text : written_text (dc ∷ []) tree whole ≡ text
unfolding written_text rdf_space xml_space meta_space
the_text = refl

its_length : length text ≡ 255
its_length = refl

the_packet : packet (dc ∷ []) tree whole 331 ≡ header ++ text ++ codes "  \n" ++ trailer
unfolding written_text packet rdf_space xml_space meta_space
the_packet = refl

lengths : (length header ≡ 54) × (length trailer ≡ 19)
lengths = (refl, refl)
