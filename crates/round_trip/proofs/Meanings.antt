-- What the texts of a tree mean, from their documents.
use Rattle.std.proofs.Common.{◌≡◌, ◌≢◌, ℕ, false, List, [], ◌∷◌, ◌++◌, length, get_or, take, drop, Option, Some, None, Ok, refl, ap, sym, subst, ◌∙◌, arith}
use Rattle.std.specs.Prelude.{All, position}
use Rattle.std.proofs.Math.Seq.{take-length}
use Rattle.std.proofs.lemmas.Bool.{or_from, false_from_ne_true, both_ways}
use Rattle.std.proofs.lemmas.List.{take-append-drop, length-drop}
use Rattle.std.proofs.lemmas.List.Quantifiers.{position-Some}
use Rattle.xmp_values.specs.declared.hints.Hint.{Hint}
use Rattle.xml_grammar.proofs.OneMeaning.{one_document}
use Rattle.xmp_tree.specs.declared.nested.Member.{Member}
use Rattle.xmp_tree.specs.Parts.{Parts}
use Rattle.xmp_tree.specs.Wf.{name_of, NamesDiffer, Wf}
use Rattle.xmp_write.specs.declared.forms.Form.{Form}
use Rattle.xmp_write.specs.Prefixes.{prefixes}
use Rattle.xmp_write.specs.Text.{canonical_text}
use Rattle.xmp_write.specs.WrittenPackets.{canonical_packet}
use Rattle.rdf_forms.specs.Words.{same_name}
use Rattle.rdf_forms.specs.Meaning.{Meaning}
use Rattle.rdf_forms.specs.Merging.{both, both_unless, merged, stands_in, first_twice, MergesTo, both_trees}
use Rattle.rdf_soundness.proofs.Words.{same_name_is}
use Rattle.round_trip.specs.Law.{IsNote, MayWrite, HasWriting, text_hints, TextMeans, PacketMeans, whole_form, PacketReadsBack, main_form, rest_form, SplitReadsBack}
use Rattle.round_trip.proofs.Names.{differ_cons}
use Rattle.round_trip.proofs.Notes.{tree_read_back}
use Rattle.round_trip.proofs.WrittenMembers.{part_of, part_formed}
use Rattle.round_trip.proofs.Documents.{written_documents}
use Rattle.round_trip.proofs.Writable.{all_parts}
use Rattle.round_trip.proofs.Payloads.{text_is, may_write_again}

-- ---- one text

text_means : (text : List ℕ) (declared : List Hint) (t : Parts) (form : Form) → Wf t → IsNote form.note → HasWriting text declared t form → TextMeans text declared (part_of t form) form.note
text_means text declared t form wf noted h = record {
  root = h.0;
  document = h.2;
  alone = λ other others d. one_document text other h.0 others declared d h.2;
  unbroken = λ levels enough. (tree_read_back (part_of t form) form.note levels h.0 h.1 (part_formed t form wf) noted enough).0;
  tree_is = λ levels enough. (tree_read_back (part_of t form) form.note levels h.0 h.1 (part_formed t form wf) noted enough).1;
  note_is = λ levels enough. (tree_read_back (part_of t form) form.note levels h.0 h.1 (part_formed t form wf) noted enough).2;
}

canonical_means : (t : Parts) (hints : List Hint) (form : Form) → MayWrite t hints form → TextMeans (canonical_text t hints form) (text_hints t hints form) (part_of t form) form.note
canonical_means t hints form may = text_means (canonical_text t hints form) (text_hints t hints form) t form may.formed may.noted (written_documents t hints form may).0

packet_means : (t : Parts) (hints : List Hint) (form : Form) (len : ℕ) → MayWrite t hints form → PacketMeans (canonical_packet t hints form len) (text_hints t hints form) (part_of t form) form.note
packet_means t hints form len may = record {
  text_is = text_is (prefixes t hints form) t form len;
  means = text_means (canonical_packet t hints form len) (text_hints t hints form) t form may.formed may.noted ((written_documents t hints form may).1 len);
  writable = may_write_again (prefixes t hints form) t form len;
}

-- ---- parts of a tree

abbrev under : List ℕ → List Member → Parts
under about ms = record { about = about; props = ms }

same_about : (about : List ℕ) (ms ns : List Member) → ms ≡ ns → under about ms ≡ under about ns
same_about about ms ns same = ap (under about) same

first_part : (t : Parts) (k : ℕ) (digits : Option (List ℕ)) → part_of t (record { first = 0; count = k; note = digits }) ≡ under t.about (take k t.props)
first_part t k digits = same_about t.about _ (take k t.props) (ap (λ (n : ℕ). take n t.props) (omega arith))

whole_part : (t : Parts) → part_of t (whole_form t) ≡ t
whole_part t = first_part t (length t.props) None ∙ same_about t.about (take (length t.props) t.props) t.props (take-length t.props)

last_part : (t : Parts) (k : ℕ) → part_of t (rest_form t k) ≡ under t.about (drop k t.props)
last_part t k =
    let left = length-drop k t.props in
    same_about t.about _ (drop k t.props) (ap (λ (n : ℕ). take n (drop k t.props)) (omega (arith, left)) ∙ take-length (drop k t.props))

-- ---- two parts merge

-- of members whose names differ no later one stands among earlier ones
none_stands : (xs ys : List Member) → NamesDiffer (xs ++ ys) → All (λ y. stands_in xs y ≡ false) ys
none_stands [] ys h = λ k d within. refl
none_stands (x ∷ xs) ys h =
    let parts = differ_cons x (xs ++ ys) h in
    let others = all_parts (λ n. name_of x ≢ name_of n) xs ys parts.0 in
    let rest = none_stands xs ys parts.1 in
    λ k d within.
    let y = get_or ys k d in
    or_from (same_name (name_of y) (name_of x)) (stands_in xs y)
    (false_from_ne_true (same_name (name_of y) (name_of x)) (λ is. others.1 k d within (sym ((same_name_is (name_of y) (name_of x)).0 is)))) (rest k d within)

none_twice : (main more : List Member) → All (λ y. stands_in main y ≡ false) more → first_twice main more ≡ None
none_twice main [] h = refl
none_twice main (m ∷ ms) h = by (position (stands_in main) (m ∷ ms)) refl
  where
    by : (o : Option ℕ) → position (stands_in main) (m ∷ ms) ≡ o → o ≡ None
    by None is = refl
    by (Some i) is = let at = position-Some (stands_in main) (m ∷ ms) i m is in absurd (both_ways (stands_in main (get_or (m ∷ ms) i m)) (h i m at.0) at.1)

parts_merge : (t : Parts) (k : ℕ) → Wf t → MergesTo (under t.about (take k t.props)) (under t.about (drop k t.props)) t
parts_merge t k wf =
    let whole = take-append-drop k t.props in
    record {
      apart = none_twice (take k t.props) (drop k t.props) (none_stands (take k t.props) (drop k t.props) (subst NamesDiffer (sym whole) wf.props.fields.apart));
      merged_is = same_about t.about (take k t.props ++ drop k t.props) t.props whole;
    }

meanings_merge : (main more t : Parts) → MergesTo main more t → (m n : Meaning) → m.tree ≡ main → n.tree ≡ more → (merged m n ≡ Ok (both m n)) × ((both m n).tree ≡ t)
unfolding merged
meanings_merge main more t h m n first second = (
  ap (λ (o : Option ℕ). both_unless o m n)
      (ap (λ (x : Parts). first_twice x.props n.tree.props) first ∙ ap (λ (x : Parts). first_twice main.props x.props) second ∙ h.apart),
  ap (λ (x : Parts). both_trees x n.tree) first ∙ ap (both_trees main) second ∙ h.merged_is,
)

-- ---- the laws

pub packet_reads_back : PacketReadsBack
packet_reads_back t hints len may =
    subst (λ (x : Parts). PacketMeans (canonical_packet t hints (whole_form t) len) (text_hints t hints (whole_form t)) x None) (whole_part t) (packet_means t hints (whole_form t) len may)

pub split_reads_back : SplitReadsBack
split_reads_back t hints k digits len first rest = record {
  main = under t.about (take k t.props);
  more = under t.about (drop k t.props);
  packet_means = subst (λ (x : Parts). PacketMeans (canonical_packet t hints (main_form k digits) len) (text_hints t hints (main_form k digits)) x (Some digits)) (first_part t k (Some digits)) (packet_means t hints (main_form k digits) len first);
  text_means = subst (λ (x : Parts). TextMeans (canonical_text t hints (rest_form t k)) (text_hints t hints (rest_form t k)) x None) (last_part t k) (canonical_means t hints (rest_form t k) rest);
  merge = parts_merge t k first.formed;
  merged_is = meanings_merge (under t.about (take k t.props)) (under t.about (drop k t.props)) t (parts_merge t k first.formed);
}
