-- The length of a front's text as a sum, which grows with each property.
use Rattle.std.proofs.Common.{◌≡◌, ℕ, ◌+◌, ◌-◌, ◌≤◌, false, ◌||◌, List, [], ◌∷◌, ◌++◌, length, take, drop, fold, Some, refl, sym, ap, subst, ◌∙◌, ⊎_elim, length-append, arith}
use Rattle.std.specs.Prelude.{codes, All, IsTrue, ◌==◌, nat_le, ◌&&◌}
use Rattle.std.specs.List.{flat_map}
use Rattle.std.proofs.Math.Seq.{take-add}
use Rattle.std.proofs.lemmas.Bool.{or_from, or_cases, and_parts, ne_eqb, leb-true}
use Rattle.std.proofs.lemmas.List.Elements.{All-head, All-tail}
use Rattle.xmp_values.specs.Digits.{AreCapitals, is_capital}
use Rattle.xmp_values.specs.declared.hints.Hint.{Hint}
use Rattle.xmp_tree.specs.declared.nested.Member.{Member}
use Rattle.xmp_tree.specs.Parts.{Parts}
use Rattle.xmp_tree.specs.Wf.{note_name}
use Rattle.xmp_write.specs.declared.forms.Form.{Form}
use Rattle.xmp_write.specs.Prefixes.{prefixes, written_prefix, spelled, with_use}
use Rattle.xmp_write.specs.Written.{member_spaces, note_members, written_props}
use Rattle.xmp_write.specs.Text.{open_meta, open_rdf, text_byte, text_escaped, attribute_text, element_text, declared_text, lines_text, written_text}
use Rattle.xmp_write.specs.Splits.{front_form, text_len, front_spaces, front_len, base_len, zeros, all_spaces, given_to}
use Rattle.xmp_lanes.specs.Runs.{is_escaped_in_text}
use Rattle.xmp_write.proofs.EscapedRuns.{text_plain}
use Rattle.xmp_write.proofs.SameTexts.{lines_alike}
use Rattle.xmp_write.proofs.TextParts.{text_pieces, note_line, lines_text-append, declared_text-append}
use Rattle.xmp_write.proofs.FrontTexts.{front_given, front_alike, later_spaces}

-- ---- the note has one length, whatever its digits are

digit_plain : (b : ℕ) → 48 ≤ b → b ≤ 57 → is_escaped_in_text b ≡ false
digit_plain b low high =
    or_from ((b == 0x26) || (b == 0x3C) || (b == 0x3E)) (b == 0xD)
    (or_from ((b == 0x26) || (b == 0x3C)) (b == 0x3E) (or_from (b == 0x26) (b == 0x3C) (ne_eqb b 0x26 (λ e. omega arith)) (ne_eqb b 0x3C (λ e. omega arith))) (ne_eqb b 0x3E (λ e. omega arith)))
    (ne_eqb b 0xD (λ e. omega arith))

letter_plain : (b : ℕ) → 65 ≤ b → is_escaped_in_text b ≡ false
letter_plain b low =
    or_from ((b == 0x26) || (b == 0x3C) || (b == 0x3E)) (b == 0xD)
    (or_from ((b == 0x26) || (b == 0x3C)) (b == 0x3E) (or_from (b == 0x26) (b == 0x3C) (ne_eqb b 0x26 (λ e. omega arith)) (ne_eqb b 0x3C (λ e. omega arith))) (ne_eqb b 0x3E (λ e. omega arith)))
    (ne_eqb b 0xD (λ e. omega arith))

capital_plain : (b : ℕ) → IsTrue (is_capital b) → text_byte b ≡ b ∷ []
unfolding is_capital
capital_plain b is =
    text_plain b
    (⊎_elim
    (λ digit. let both = and_parts (nat_le 48 b) (nat_le b 57) digit in digit_plain b (leb-true 48 b both.0) (leb-true b 57 both.1))
    (λ letter. let both = and_parts (nat_le 65 b) (nat_le b 70) letter in letter_plain b (leb-true 65 b both.0))
    (or_cases (nat_le 48 b && nat_le b 57) (nat_le 65 b && nat_le b 70) is))

capitals_plain : (bs : List ℕ) → All (λ b. IsTrue (is_capital b)) bs → text_escaped bs ≡ bs
capitals_plain [] all = refl
capitals_plain (b ∷ bs) all =
    ap (λ front. front ++ text_escaped bs) (capital_plain b (All-head (λ b. IsTrue (is_capital b)) b bs all)) ∙ ap (λ rest. b ∷ rest) (capitals_plain bs (All-tail (λ b. IsTrue (is_capital b)) b bs all))

element_len : (name text : List ℕ) → length (element_text name [] text ++ codes "\n") ≡ length name + length name + length text + 6
element_len name text = simp length-append (omega arith)

note_len : (ps : List Hint) (digits : List ℕ) → length (text_escaped digits) ≡ 32 → length (lines_text ps (note_members (Some digits))) ≡ length (lines_text ps (note_members (Some zeros)))
note_len ps digits long =
    ap length (note_line ps digits) ∙ element_len (spelled ps note_name) (text_escaped digits) ∙ ap (λ n. length (spelled ps note_name) + length (spelled ps note_name) + n + 6) long
    ∙ sym (ap length (note_line ps zeros) ∙ element_len (spelled ps note_name) (text_escaped zeros))

-- ---- a text's length is the sum of its parts

pieces_len : (front about declared close note lines end : List ℕ) → length ((((front ++ (about ++ declared)) ++ close) ++ (note ++ lines)) ++ end)
    ≡ length front + length close + length end + length about + length note + length lines + length declared
pieces_len front about declared close note lines end = simp length-append (omega arith)

written_len : (ps : List Hint) (t : Parts) (form : Form) → length (written_text ps t form)
    ≡ 164 + length (attribute_text (codes "rdf:about") t.about) + length (lines_text ps (note_members form.note)) + length (lines_text ps (written_props t form)) + length (declared_text ps)
written_len ps t form =
    ap length (sym (text_pieces ps t form))
    ∙ pieces_len (open_meta ++ codes "\n" ++ open_rdf ++ codes "\n" ++ codes "<rdf:Description") (attribute_text (codes "rdf:about") t.about) (declared_text ps) (codes ">\n")
    (lines_text ps (note_members form.note)) (lines_text ps (written_props t form)) (codes "</rdf:Description>\n</rdf:RDF>\n</x:xmpmeta>\n")

module _ (t : Parts) (hints : List Hint) where
  abbrev pub whole : List Hint
  whole = given_to hints (all_spaces t.props)

  part_is : (digits : List ℕ) (k : ℕ) → written_props t (front_form digits k) ≡ take k t.props
  part_is digits k = let same : 0 + k - 0 ≡ k = omega arith in ap (λ n. take n t.props) same

  own_prefixes : (digits : List ℕ) (k : ℕ) → prefixes t hints (front_form digits k) ≡ given_to hints (front_spaces t.props k)
  own_prefixes digits k =
      ap (λ (ms : List Member). given_to hints (fold with_use [] (note_name.space ∷ flat_map member_spaces ms))) (part_is digits k)

  note_of : (digits : List ℕ) → AreCapitals digits → length (lines_text whole (note_members (Some digits))) ≡ length (lines_text whole (note_members (Some zeros)))
  note_of digits capitals = note_len whole digits (ap length (capitals_plain digits capitals.1) ∙ capitals.0)

  -- the lines of a front with its own prefixes and with the whole's
  front_lines : (digits : List ℕ) (k : ℕ) → let own = given_to hints (front_spaces t.props k) in
      length (lines_text own (note_members (Some digits))) + length (lines_text own (take k t.props)) ≡ length (lines_text whole (note_members (Some digits))) + length (lines_text whole (take k t.props))
  front_lines digits k =
      let own = given_to hints (front_spaces t.props k) in
      let P = λ (space : List ℕ). written_prefix own space ≡ written_prefix whole space in
      let alike = front_alike hints t.props k in
      let note = note_line own digits
      ∙ ap (λ prefix. element_text (prefix ++ codes ":" ++ note_name.local) [] (text_escaped digits) ++ codes "\n") (All-head P note_name.space (flat_map member_spaces (take k t.props)) alike)
      ∙ sym (note_line whole digits) in
      let lines = lines_alike own whole (take k t.props) (All-tail P note_name.space (flat_map member_spaces (take k t.props)) alike) in
      ap (λ text. length text + length (lines_text own (take k t.props))) note ∙ ap (λ text. length (lines_text whole (note_members (Some digits))) + length text) lines

  -- the text of a front with its own prefixes is as long as the sum says
  pub front_len_is : (digits : List ℕ) (k : ℕ) → AreCapitals digits → text_len t hints (front_form digits k) ≡ front_len whole t k
  unfolding front_len base_len
  front_len_is digits k capitals =
      let form = front_form digits k in
      let own = given_to hints (front_spaces t.props k) in
      let own_len = ap (λ ps. length (written_text ps t form)) (own_prefixes digits k) ∙ written_len own t form in
      let part = ap (λ ms. length (lines_text own ms)) (part_is digits k) in
      let declared = ap (λ ps. length (declared_text ps)) (front_given hints t.props k) in
      omega (arith, own_len, part, declared, front_lines digits k, note_of digits capitals)

-- ---- the sum grows

lines_grow : (ps : List Hint) (ms : List Member) (k j : ℕ) → length (lines_text ps (take k ms)) ≤ length (lines_text ps (take (k + j) ms))
lines_grow ps ms k j =
    let parts = ap length (ap (lines_text ps) (take-add k j ms) ∙ lines_text-append ps (take k ms) (take j (drop k ms))) in
    omega (arith, parts, length-append (lines_text ps (take k ms)) (lines_text ps (take j (drop k ms))))

declared_grow : (ps : List Hint) (k j : ℕ) → length (declared_text (take k ps)) ≤ length (declared_text (take (k + j) ps))
declared_grow ps k j =
    let parts = ap length (ap declared_text (take-add k j ps) ∙ declared_text-append (take k ps) (take j (drop k ps))) in
    omega (arith, parts, length-append (declared_text (take k ps)) (declared_text (take j (drop k ps))))

pub front_grows : (hints ps : List Hint) (t : Parts) (k m : ℕ) → k ≤ m → front_len ps t k ≤ front_len ps t m
unfolding front_len base_len
front_grows hints ps t k m le =
    let j = m - k in
    let whole : k + j ≡ m = omega arith in
    let more = later_spaces hints t.props k j in
    let longer = ap length more.1 ∙ length-append (front_spaces t.props k) more.0 in
    let spaces : length (front_spaces t.props m) ≡ length (front_spaces t.props k) + length more.0 = ap (λ n. length (front_spaces t.props n)) (sym whole) ∙ longer in
    let declared = subst (λ n. length (declared_text (take (length (front_spaces t.props k)) ps)) ≤ length (declared_text (take n ps))) (sym spaces) (declared_grow ps (length (front_spaces t.props k)) (length more.0)) in
    let lines = subst (λ n. length (lines_text ps (take k t.props)) ≤ length (lines_text ps (take n t.props))) whole (lines_grow ps t.props k j) in
    omega (arith, declared, lines)
