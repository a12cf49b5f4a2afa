-- The parts of a tree's text.
use Rattle.std.proofs.Common.{◌≡◌, ℕ, ◌+◌, ◌<◌, List, [], ◌∷◌, ◌++◌, length, take, get_or, Some, cond, refl, sym, ap, ◌∙◌}
use Rattle.std.specs.Prelude.{codes}
use Rattle.std.proofs.lemmas.List.{append_assoc, append-nil, take_more}
use Rattle.xmp_values.specs.declared.hints.Hint.{Hint}
use Rattle.xmp_tree.specs.declared.nested.Value.{out-Value, out-roll-Value}
use Rattle.xmp_tree.specs.declared.nested.Member.{Member, rolls-Member'}
use Rattle.xmp_tree.specs.declared.nested.Shape.{Simple}
use Rattle.xmp_tree.specs.Parts.{Parts, simple}
use Rattle.xmp_tree.specs.Wf.{note_name}
use Rattle.xmp_write.specs.declared.forms.Form.{Form}
use Rattle.xmp_write.specs.Prefixes.{spelled, written_prefix}
use Rattle.xmp_write.specs.Written.{note_members, written_props}
use Rattle.xmp_write.specs.Text.{open_meta, open_rdf, top_text, attribute_text, declared_text, lines_text, member_text, element_text, text_escaped, written_text}
use Rattle.xmp_write.specs.Placing.{Puts, others_of}
use Rattle.xmp_write.proofs.PlacedPieces.{◌▸◌, puts_as}
use Rattle.xmp_write.proofs.TextLevels.{value_text-out, plain_text, qualified_text, is_some_member}

module _ (ps : List Hint) where
  pub lines_text-append : (xs ys : List Member) → lines_text ps (xs ++ ys) ≡ lines_text ps xs ++ lines_text ps ys
  lines_text-append [] ys = refl
  lines_text-append (m ∷ ms) ys =
      ap (λ rest. member_text ps m ++ (codes "\n" ++ rest)) (lines_text-append ms ys)
      ∙ ap (λ rest. member_text ps m ++ rest) (sym (append_assoc (codes "\n") (lines_text ps ms) (lines_text ps ys)))
      ∙ sym (append_assoc (member_text ps m) (codes "\n" ++ lines_text ps ms) (lines_text ps ys))

  -- one property more
  pub line_put : (ms : List Member) (i : ℕ) (m : Member) {old one two new : List ℕ} {at j k n : ℕ} → i < length ms → m ≡ get_or ms i m → Puts old one at j (lines_text ps (take i ms))
      → Puts one two j k (member_text ps m) → Puts two new k n (codes "\n") → Puts old new at n (lines_text ps (take (i + 1) ms))
  line_put ms i m within here lines put end =
      puts_as (lines_text ps (take (i + 1) ms)) (lines ▸ (put ▸ end))
      (sym (ap (lines_text ps) (take_more ms i m within ∙ ap (λ x. take i ms ++ x ∷ []) (sym here)) ∙ lines_text-append (take i ms) (m ∷ [])))

  -- the note's line
  note_value : (name digits : List ℕ) → plain_text ps name (simple digits) ≡ element_text name [] (text_escaped digits)
  note_value name digits = rw (out-roll-Value record { shape = Simple digits; quals = [] }) refl

  pub note_line : (digits : List ℕ) → lines_text ps (note_members (Some digits)) ≡ element_text (spelled ps note_name) [] (text_escaped digits) ++ codes "\n"
  note_line digits =
      let name = spelled ps note_name in
      let v = simple digits in
      let none : (out-Value v).quals ≡ [] = rw (out-roll-Value record { shape = Simple digits; quals = [] }) refl in
      ap (λ text. text ++ codes "\n")
      (ap (member_text ps) (rolls-Member' record { name = note_name; value = v }) ∙ value_text-out ps name v
      ∙ ap (λ quals. cond (is_some_member (others_of quals)) (qualified_text ps name v) (plain_text ps name v)) none ∙ note_value name digits)

  -- the note's line, as it is put under its prefix
  pub note_put : (prefix digits text : List ℕ) {old mid new : List ℕ} {at j k : ℕ} → prefix ≡ written_prefix ps (codes "http://ns.adobe.com/xmp/note/") → text ≡ digits
      → Puts old mid at j (element_text (prefix ++ codes ":" ++ codes "HasExtendedXMP") [] (text_escaped text)) → Puts mid new j k (codes "\n") → Puts old new at k (lines_text ps (note_members (Some digits)))
  unfolding note_name
  note_put prefix digits text named is first second =
      puts_as (lines_text ps (note_members (Some digits))) (first ▸ second)
      (ap (λ p. element_text (p ++ codes ":" ++ codes "HasExtendedXMP") [] (text_escaped text) ++ codes "\n") named
      ∙ ap (λ d. element_text (spelled ps note_name) [] (text_escaped d) ++ codes "\n") is ∙ sym (note_line digits))

pub declared_text-append : (xs ys : List Hint) → declared_text (xs ++ ys) ≡ declared_text xs ++ declared_text ys
declared_text-append [] ys = refl
declared_text-append (h ∷ hs) ys =
    ap (λ rest. attribute_text (codes "xmlns:" ++ h.prefix) h.space ++ rest) (declared_text-append hs ys) ∙ sym (append_assoc (attribute_text (codes "xmlns:" ++ h.prefix) h.space) (declared_text hs) (declared_text ys))

pub declaration_put : (hs : List Hint) (i : ℕ) (h : Hint) (prefix space : List ℕ) {old mid new : List ℕ} {at j k : ℕ} → i < length hs → h ≡ get_or hs i h → prefix ≡ h.prefix → space ≡ h.space
    → Puts old mid at j (declared_text (take i hs)) → Puts mid new j k (attribute_text (codes "xmlns:" ++ prefix) space) → Puts old new at k (declared_text (take (i + 1) hs))
declaration_put hs i h prefix space within here of_prefix of_space first second =
    puts_as (declared_text (take (i + 1) hs)) (first ▸ second)
    (ap (λ p. declared_text (take i hs) ++ attribute_text (codes "xmlns:" ++ p) space) of_prefix ∙ ap (λ s. declared_text (take i hs) ++ attribute_text (codes "xmlns:" ++ h.prefix) s) of_space
    ∙ ap (λ last. declared_text (take i hs) ++ last) (sym (append-nil (attribute_text (codes "xmlns:" ++ h.prefix) h.space)))
    ∙ sym (ap declared_text (take_more hs i h within ∙ ap (λ x. take i hs ++ x ∷ []) (sym here)) ∙ declared_text-append (take i hs) (h ∷ [])))

-- the pieces of a tree's text as they are put
regroup : (meta line rdf top attributes close lines end_top end_rdf end_meta : List ℕ)
    → ((((meta ++ line ++ rdf ++ line ++ top) ++ attributes) ++ (close ++ line)) ++ lines) ++ (end_top ++ line ++ end_rdf ++ line ++ end_meta ++ line)
    ≡ (meta ++ ((line ++ ((rdf ++ ((line ++ (((top ++ attributes ++ close) ++ ((line ++ lines) ++ end_top)) ++ line)) ++ end_rdf)) ++ line)) ++ end_meta)) ++ line
regroup meta line rdf top attributes close lines end_top end_rdf end_meta = simp append_assoc

pub text_pieces : (ps : List Hint) (t : Parts) (form : Form)
    → ((((open_meta ++ codes "\n" ++ open_rdf ++ codes "\n" ++ codes "<rdf:Description") ++ (attribute_text (codes "rdf:about") t.about ++ declared_text ps)) ++ codes ">\n")
    ++ (lines_text ps (note_members form.note) ++ lines_text ps (written_props t form)))
    ++ codes "</rdf:Description>\n</rdf:RDF>\n</x:xmpmeta>\n"
    ≡ written_text ps t form
unfolding written_text
text_pieces ps t form =
    ap (λ lines. ((((open_meta ++ codes "\n" ++ open_rdf ++ codes "\n" ++ codes "<rdf:Description") ++ top_text t.about ps) ++ codes ">\n") ++ lines) ++ codes "</rdf:Description>\n</rdf:RDF>\n</x:xmpmeta>\n")
    (sym (lines_text-append ps (note_members form.note) (written_props t form)))
    ∙ regroup open_meta (codes "\n") open_rdf (codes "<rdf:Description") (top_text t.about ps) (codes ">") (lines_text ps (note_members form.note ++ written_props t form)) (codes "</rdf:Description>")
    (codes "</rdf:RDF>") (codes "</x:xmpmeta>")

pub text_put : (ps : List Hint) (t : Parts) (form : Form) (name about : List ℕ) (part : List Member) {a b c d e f g h : List ℕ} {i j k l m n o p : ℕ}
    → name ≡ codes "rdf:about" → about ≡ t.about → part ≡ written_props t form
    → Puts a b i j (open_meta ++ codes "\n" ++ open_rdf ++ codes "\n" ++ codes "<rdf:Description") → Puts b c j k (attribute_text name about) → Puts c d k l (declared_text ps)
    → Puts d e l m (codes ">\n") → Puts e f m n (lines_text ps (note_members form.note)) → Puts f g n o (lines_text ps part)
    → Puts g h o p (codes "</rdf:Description>\n</rdf:RDF>\n</x:xmpmeta>\n") → Puts a h i p (written_text ps t form)
text_put ps t form name about part named is are front top declarations close note lines end =
    let at_top = puts_as (attribute_text (codes "rdf:about") t.about) top (ap (λ name. attribute_text name about) named ∙ ap (attribute_text (codes "rdf:about")) is) in
    let props = puts_as (lines_text ps (written_props t form)) lines (ap (lines_text ps) are) in
    puts_as (written_text ps t form) (front ▸ (at_top ▸ declarations) ▸ close ▸ (note ▸ props) ▸ end) (text_pieces ps t form)
