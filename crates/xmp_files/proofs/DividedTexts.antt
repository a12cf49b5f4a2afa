-- A tree in two texts: both may be written, where the whole may and they are no longer than a packet.
use Rattle.std.proofs.Common.{ℕ, ◌<◌, ◌≤◌, List, [], ◌∷◌, ◌++◌, codes, length, arith, length-append}
use Rattle.jpeg_extended.specs.Written.{name_text}
use Rattle.jpeg_relocation.specs.NewSegments.{main_limit}
use Rattle.jpeg_relocation.proofs.Names.{name_capitals}
use Rattle.xmp_values.specs.declared.hints.Hint.{Hint}
use Rattle.xmp_tree.specs.Parts.{Parts}
use Rattle.xmp_write.specs.declared.forms.Form.{Form}
use Rattle.xmp_write.specs.Prefixes.{prefixes}
use Rattle.xmp_write.specs.Splits.{rest_form, text_len, IsSplit}
use Rattle.xmp_write.specs.Text.{attribute_text, declared_text, lines_text, open_meta, open_rdf, tree_text, written_text}
use Rattle.xmp_write.specs.Written.{written_members}
use Rattle.round_trip.specs.Law.{IsNote, MayWrite}
use Rattle.xmp_files.specs.Faults.{packet_limit}
use Rattle.xmp_files.specs.Plans.{MayPlan, rest_text, named_front, front_least, front_packet, segment_padded}
use Rattle.xmp_files.proofs.PacketLengths.{length-packet}

-- each prefix takes a byte of the text
declared_more : (ps : List Hint) → length ps ≤ length (declared_text ps)
declared_more [] = omega arith
declared_more (h ∷ hs) =
    let some : 1 ≤ length (attribute_text (codes "xmlns:" ++ h.prefix) h.space) = omega arith in
    omega (arith, some, declared_more hs, length-append (attribute_text (codes "xmlns:" ++ h.prefix) h.space) (declared_text hs))

around_more : (a b c d e about declared f g inside h i j k l : List ℕ) → length declared
    ≤ length ((a ++ ((b ++ ((c ++ ((d ++ (((e ++ (about ++ declared) ++ f) ++ ((g ++ inside) ++ h)) ++ i)) ++ j)) ++ k)) ++ l)))
around_more a b c d e about declared f g inside h i j k l = simp length-append (omega arith)

written_more : (ps : List Hint) (t : Parts) (form : Form) → length ps ≤ length (written_text ps t form)
unfolding written_text
written_more ps t form =
    let inner = around_more open_meta (codes "\n") open_rdf (codes "\n") (codes "<rdf:Description") (attribute_text (codes "rdf:about") t.about) (declared_text ps) (codes ">") (codes "\n")
    (lines_text ps (written_members t form)) (codes "</rdf:Description>") (codes "\n") (codes "</rdf:RDF>") (codes "\n") (codes "</x:xmpmeta>") in
    omega (arith, declared_more ps, inner, length-append (tree_text ps t.about (written_members t form)) (codes "\n"))

module _ (t : Parts) (hints : List Hint) (may : MayPlan t hints) where
  form_may : (form : Form) → text_len t hints form ≤ packet_limit → IsNote form.note → MayWrite t hints form
  form_may form short noted = record {
    formed = may.whole.formed;
    valid = may.whole.valid;
    few = omega (arith, may.few, written_more (prefixes t hints form) t form, short);
    noted = noted;
  }

  module _ (k : ℕ) (split : IsSplit t hints main_limit k) where
    front_fits : front_least t hints k ≤ main_limit
    front_fits = split.fits (name_text (rest_text t hints k)) (name_capitals (rest_text t hints k))

    pub front_may : MayWrite t hints (named_front t hints k)
    front_may = form_may (named_front t hints k) (omega (arith, front_fits)) (name_capitals (rest_text t hints k))

    pub rest_may : length (rest_text t hints k) ≤ packet_limit → MayWrite t hints (rest_form t k)
    rest_may short = form_may (rest_form t k) short tt

pub front_limited : (t : Parts) (hints : List Hint) (k : ℕ) → IsSplit t hints main_limit k → length (front_packet t hints k) ≤ main_limit
front_limited t hints k split =
    let fits : front_least t hints k ≤ main_limit = split.fits (name_text (rest_text t hints k)) (name_capitals (rest_text t hints k)) in
    omega (arith, length-packet (prefixes t hints (named_front t hints k)) t (named_front t hints k) (segment_padded (front_least t hints k)) (omega (arith, fits)))

pub rest_some : (t : Parts) (hints : List Hint) (k : ℕ) → 0 < length (rest_text t hints k)
unfolding written_text
rest_some t hints k = omega arith
