-- The text and the packet of a tree have documents, whose roots are writings of the tree.
use Rattle.std.proofs.Common.{◌≡◌, ℕ, ◌+◌, ◌-◌, ◌%◌, Bool, true, false, cond, ◌||◌, ◌⊎◌, inl, inr, List, [], ◌∷◌, ◌++◌, length, map, refl, ap, sym, subst, ◌∙◌, append_assoc, append-nil, arith}
use Rattle.std.specs.Prelude.{IsTrue, codes, ◌==◌, chars, encode_utf8_all}
use Rattle.std.specs.List.{list_all, range_with_len}
use lib.Utf8.{encode}
use Rattle.std.proofs.lemmas.Bool.{and_parts, and_from, or_cases, eqb-true}
use Rattle.std.proofs.lemmas.Str.{chars-encodes, char_from_byte}
use Rattle.xmp_values.specs.Characters.{is_char, is_blank}
use Rattle.xmp_values.specs.declared.hints.Hint.{Hint}
use Rattle.xml_grammar.specs.declared.elements.Child.TheVariants as child
use Rattle.xml_grammar.specs.declared.elements.Element.{Element}
use Rattle.xml_grammar.specs.Pieces.{Character}
use Rattle.xml_grammar.specs.Nesting.{Nest, start, broken}
use Rattle.xml_grammar.specs.Trees.{events, events_of, first_hints}
use Rattle.xml_grammar.specs.Documents.{mark_width, after_mark, Reads, IsDocument}
use Rattle.round_trip.proofs.Packets.{is_pad, header_chars}
use Rattle.xmp_tree.specs.Parts.{Parts}
use Rattle.xmp_write.specs.declared.forms.Form.{Form}
use Rattle.xmp_write.specs.Prefixes.{prefixes}
use Rattle.xmp_write.specs.PrefixLaws.{PrefixLaw}
use Rattle.xmp_write.specs.Text.{tree_text, written_text, canonical_text}
use Rattle.xmp_write.specs.Written.{written_members}
use Rattle.xmp_write.specs.WrittenPackets.{pad, pad_byte, trailer, least_len, packet, canonical_packet}
use Rattle.xmp_write.proofs.PrefixLaws.{prefix_law}
use Rattle.round_trip.specs.Law.{MayWrite, HasWriting, WrittenDocuments, declared_hints}
use Rattle.round_trip.proofs.Declarable.{are_declarable, hints_apart, all_first}
use Rattle.round_trip.proofs.WrittenMembers.{written_properties}
use Rattle.round_trip.proofs.Spelt.{IsSpeltWith, IsSpelt, Anything, spelt_both, spelt_then, spelt_none, spelt_one}
use Rattle.round_trip.proofs.Frames.{outside}
use Rattle.round_trip.proofs.Texts.{MadeTree, tree_made}
use Rattle.round_trip.proofs.Packets.{header_spelt, trailer_spelt}

abbrev pub around_root : Bool → Nest
around_root rooted = record { first = false; levels = []; rooted = rooted }

pad_one : (rooted : Bool) (at c : ℕ) → (c ≡ 0x20) ⊎ (c ≡ 0xA) → IsSpelt Anything (around_root rooted) at (c ∷ []) (λ es. es) (around_root rooted)
unfolding broken is_char is_blank encode
pad_one rooted at c (inl is) = subst (λ (c : ℕ). IsSpelt Anything (around_root rooted) at (c ∷ []) (λ es. es) (around_root rooted)) (sym is)
    (spelt_one [] (around_root rooted) at (Character 0x20) (codes " ") (λ es. es) (λ left. record { spelled = (refl, λ e. omega arith, λ e. omega arith, λ e. omega arith, refl); fits = λ mode is. absurd (omega arith) }) refl refl refl (λ more. refl))
pad_one rooted at c (inr is) = subst (λ (c : ℕ). IsSpelt Anything (around_root rooted) at (c ∷ []) (λ es. es) (around_root rooted)) (sym is)
    (spelt_one [] (around_root rooted) at (Character 0xA) (codes "\n") (λ es. es) (λ left. record { spelled = (refl, λ e. omega arith, λ e. omega arith, λ e. omega arith, refl); fits = λ mode is. absurd (omega arith) }) refl refl refl (λ more. refl))

each_pads : (many : ℕ) (is : List ℕ) → list_all is_pad (map (pad_byte many) is) ≡ true
each_pads many [] = refl
each_pads many (i ∷ is) = and_from (is_pad (pad_byte many i)) (list_all is_pad (map (pad_byte many) is)) (one (((i + 1) % 100 == 0) || (i + 1 == many))) (each_pads many is)
  where
    one : (b : Bool) → is_pad (cond b 0xA 0x20) ≡ true
    one true = refl
    one false = refl

-- a line feed and padding
pad_pads : (many : ℕ) → list_all is_pad (codes "\n" ++ pad many) ≡ true
pad_pads many = each_pads many (range_with_len 0 many)

pub pad_spelt : (rooted : Bool) (at : ℕ) (cs : List ℕ) → IsTrue (list_all is_pad cs) → IsSpelt Anything (around_root rooted) at cs (λ es. es) (around_root rooted)
pad_spelt rooted at [] h = spelt_none (around_root rooted) at
pad_spelt rooted at (c ∷ cs) h =
    let parts = and_parts (is_pad c) (list_all is_pad cs) h in
    spelt_then Anything Anything (around_root rooted) (around_root rooted) (around_root rooted) at (c ∷ []) cs (λ es. es) (λ es. es)
    (pad_one rooted at c (by (or_cases (c == 0x20) (c == 0xA) parts.0))) (pad_spelt rooted (at + length (c ∷ [])) cs parts.1) (λ left any. tt)
  where
    by : ((c == 0x20) ≡ true) ⊎ ((c == 0xA) ≡ true) → (c ≡ 0x20) ⊎ (c ≡ 0xA)
    by (inl h) = inl (eqb-true c 0x20 h)
    by (inr h) = inr (eqb-true c 0xA h)

-- a text that begins with `<` has no mark
no_mark : (cs rest : List ℕ) → encode_utf8_all cs ≡ 0x3C ∷ rest → (mark_width cs ≡ 0) × (after_mark cs ≡ cs)
no_mark [] rest is = absurd cc
no_mark (c ∷ cs) rest is =
    let one : c ≡ 0x3C = char_from_byte (0x3C ∷ rest) (encode_utf8_all cs) c (sym is) (omega arith) (omega arith) in
    subst (λ (c : ℕ). (mark_width (c ∷ cs) ≡ 0) × (after_mark (c ∷ cs) ≡ c ∷ cs)) (sym one) (refl, refl)

-- a text from `<` on that pieces spell to its end, and whose events are those of an element, has that document
document_of : (hs : List Hint) (text rest : List ℕ) (root : Element) → text ≡ 0x3C ∷ rest → IsSpeltWith hs Anything start 0 text (λ es. events (child.Element root) ++ es) (around_root true)
    → first_hints hs ≡ hs → IsDocument text root hs
document_of hs text rest root first h apart =
    let read : chars text ≡ h.chars = ap chars h.utf8 ∙ chars-encodes h.chars h.scalar in
    let mark = no_mark h.chars rest (sym h.utf8 ∙ first) in
    let all : Reads start 0 h.pieces h.chars [] = subst (λ (x : List ℕ). Reads start 0 h.pieces x []) (append-nil h.chars) (h.read [] tt) in
    let begun : Reads start (mark_width h.chars) h.pieces (after_mark h.chars) [] =
    subst (λ (n : ℕ). Reads start n h.pieces (after_mark h.chars) []) (sym mark.0) (subst (λ (x : List ℕ). Reads start 0 h.pieces x []) (sym mark.1) all) in
    record {
      utf8 = (h.chars, (h.scalar, sym h.utf8));
      pieces = h.pieces;
      read = subst (λ (x : List ℕ). Reads start (mark_width x) h.pieces (after_mark x) []) (sym read) begun;
      closed = ap (λ (n : Nest). n.levels) h.ends;
      rooted = ap (λ (n : Nest). n.rooted) h.ends;
      tree = ap (events_of start) (sym (append-nil h.pieces)) ∙ h.means [] ∙ append-nil (events (child.Element root));
      hinted = sym (ap first_hints h.hinted ∙ apart);
    }

-- ---- the text and the packet of a form

module _ (t : Parts) (hints : List Hint) (form : Form) (may : MayWrite t hints form) where
  abbrev ps : List Hint
  ps = prefixes t hints form

  law : PrefixLaw t hints form
  law = prefix_law t hints form may.formed may.valid may.few

  abbrev text : List ℕ
  text = tree_text ps t.about (written_members t form)

  made : (first : Bool) (at : ℕ) → MadeTree ps t.about (written_members t form) first at
  made first at = tree_made ps t.about (written_members t form) first at may.formed.about (are_declarable ps law.declared) (written_properties ps t form may.formed may.noted law.bound)

  firsts : first_hints (declared_hints ps) ≡ declared_hints ps
  firsts = all_first (declared_hints ps) (hints_apart ps law.declared)

  text_document : HasWriting (canonical_text t hints form) (declared_hints ps) t form
  unfolding written_text
  text_document =
      let m = made true 0 in
      let all = spelt_both (declared_hints ps) [] Anything Anything start (around_root true) (around_root true) 0 text (codes "\n") (λ es. events (child.Element m.root) ++ es) (λ es. es)
      m.spelt (pad_spelt true (0 + length text) (codes "\n") refl) (λ left any. tt) in
      (m.root, m.is, document_of (declared_hints ps) (canonical_text t hints form) _ m.root refl (subst (λ (x : List Hint). IsSpeltWith x Anything start 0 (text ++ codes "\n") (λ es. events (child.Element m.root) ++ es) (around_root true)) (append-nil (declared_hints ps)) all) firsts)

  packet_parts : (len : ℕ) → canonical_packet t hints form len
      ≡ encode_utf8_all header_chars ++ (codes "\n" ++ (text ++ ((codes "\n" ++ pad (len - least_len ps t form)) ++ trailer)))
  unfolding encode packet written_text
  packet_parts len = regroup (encode_utf8_all header_chars) (codes "\n") text (pad (len - least_len ps t form)) trailer
    where
      regroup : (a l t p e : List ℕ) → (((a ++ l) ++ (t ++ l)) ++ p) ++ e ≡ a ++ (l ++ (t ++ ((l ++ p) ++ e)))
      regroup a l t p e = simp append_assoc

  packet_document : (len : ℕ) → HasWriting (canonical_packet t hints form len) (declared_hints ps) t form
  unfolding encode
  packet_document len =
      let a : List ℕ = encode_utf8_all header_chars in
      let p : List ℕ = codes "\n" ++ pad (len - least_len ps t form) in
      let m = made false (0 + length a + length (codes "\n")) in
      let on : ℕ = 0 + length a + length (codes "\n") + length text in
      let end = spelt_then Anything Anything (around_root true) (around_root true) (around_root true) on p trailer (λ es. es) (λ es. es)
      (pad_spelt true on p (pad_pads (len - least_len ps t form))) (trailer_spelt (on + length p)) (λ left any. tt) in
      let back = spelt_both (declared_hints ps) [] Anything Anything outside (around_root true) (around_root true) (0 + length a + length (codes "\n")) text (p ++ trailer) (λ es. events (child.Element m.root) ++ es) (λ es. es) m.spelt end (λ left any. tt) in
      let line = spelt_both [] (declared_hints ps) Anything Anything outside outside (around_root true) (0 + length a) (codes "\n") (text ++ (p ++ trailer)) (λ es. es) (λ es. events (child.Element m.root) ++ es)
      (pad_spelt false (0 + length a) (codes "\n") refl)
      (subst (λ (x : List Hint). IsSpeltWith x Anything outside (0 + length a + length (codes "\n")) (text ++ (p ++ trailer)) (λ es. events (child.Element m.root) ++ es) (around_root true)) (append-nil (declared_hints ps)) back) (λ left any. tt) in
      let all = spelt_both [] (declared_hints ps) Anything Anything start outside (around_root true) 0 a (codes "\n" ++ (text ++ (p ++ trailer))) (λ es. es) (λ es. events (child.Element m.root) ++ es) (header_spelt 0) line (λ left any. tt) in
      let d = document_of (declared_hints ps) (a ++ (codes "\n" ++ (text ++ (p ++ trailer)))) _ m.root refl all firsts in
      (m.root, m.is, subst (λ (x : List ℕ). IsDocument x m.root (declared_hints ps)) (sym (packet_parts len)) d)

pub written_documents : WrittenDocuments
written_documents t hints form may = (text_document t hints form may, packet_document t hints form may)
