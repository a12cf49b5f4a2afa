-- A text has one meaning or one first fault.
use Rattle.std.proofs.Common.{◌≡◌, ◌∙◌, ℕ, List, Ok, Err, Some, None, inl, inr, arith, sym, ap}
use Rattle.std.specs.declared.option.Option.{Option}
use Rattle.std.specs.declared.result.Result.{Result}
use Rattle.xmp_values.specs.declared.hints.Hint.{Hint}
use Rattle.xmp_values.specs.declared.rules.Rule.{Rule}
use Rattle.xml_grammar.specs.declared.elements.Element.{Element}
use Rattle.xml_grammar.specs.Documents.{IsDocument}
use Rattle.xml_grammar.proofs.OneMeaning.{one_document, one_fault, no_fault}
use Rattle.xmp_rdf.specs.declared.meanings.Meaning.{Meaning}
use Rattle.xmp_rdf.specs.Meanings.{reading}
use Rattle.xmp_packets.specs.Packets.{packet_text}
use Rattle.xmp_files.specs.Keeping.{Piece}
use Rattle.xmp_files.specs.Meanings.{Means, IsNote, IsNoteOf, note_in}

-- the readings of a text's documents are one
same_reading : (text : List ℕ) (e f : Element) (g h : List Hint) (a b : Result Meaning (Rule × ℕ)) → IsDocument text e g → IsDocument text f h
    → reading e g ≡ a → reading f h ≡ b → a ≡ b
same_reading text e f g h a b d k i j =
    let same = one_document text e f g h d k in
    sym i ∙ ap (λ x. reading x g) same.0 ∙ ap (λ x. reading f x) same.1 ∙ j

pub one_meaning : (text : List ℕ) (a b : Result Meaning (Rule × ℕ)) → Means text a → Means text b → a ≡ b
one_meaning text (Ok m) (Ok n) p q = same_reading text p.0 q.0 p.1 q.1 (Ok m) (Ok n) p.2 q.2 p.3 q.3
one_meaning text (Ok m) (Err (r, place)) p (inl f) = absurd (no_fault text p.0 p.1 r place p.2 f)
one_meaning text (Ok m) (Err (r, place)) p (inr q) = same_reading text p.0 q.0 p.1 q.1 (Ok m) (Err (r, place)) p.2 q.2 p.3 q.3
one_meaning text (Err (r, place)) (Ok n) (inl f) q = absurd (no_fault text q.0 q.1 r place q.2 f)
one_meaning text (Err (r, place)) (Ok n) (inr p) q = same_reading text p.0 q.0 p.1 q.1 (Err (r, place)) (Ok n) p.2 q.2 p.3 q.3
one_meaning text (Err (r, place)) (Err (s, other)) (inl f) (inl g) =
    let same = one_fault text r s place other f g in
    ap (λ x. let e : Result Meaning (Rule × ℕ) = Err (x, place) in e) same.0 ∙ ap (λ x. let e : Result Meaning (Rule × ℕ) = Err (s, x) in e) same.1
one_meaning text (Err (r, place)) (Err (s, other)) (inl f) (inr q) = absurd (no_fault text q.0 q.1 r place q.2 f)
one_meaning text (Err (r, place)) (Err (s, other)) (inr p) (inl g) = absurd (no_fault text p.0 p.1 s other p.2 g)
one_meaning text (Err (r, place)) (Err (s, other)) (inr p) (inr q) = same_reading text p.0 q.0 p.1 q.1 (Err (r, place)) (Err (s, other)) p.2 q.2 p.3 q.3

-- Notes.

one_note_of : (payload : List ℕ) (a b : Option (List ℕ)) → IsNoteOf payload a → IsNoteOf payload b → a ≡ b
one_note_of payload a b p q = p.2 ∙ ap note_in (one_meaning (packet_text payload) p.0 q.0 p.1 q.1) ∙ sym q.2

pub one_note : (payload : Option Piece) (a b : Option (List ℕ)) → IsNote payload a → IsNote payload b → a ≡ b
one_note None a b p q = p ∙ sym q
one_note (Some piece) a b (inl p) (inl q) = p.1 ∙ sym q.1
one_note (Some piece) a b (inl p) (inr q) = absurd (omega (arith, p.0, q.0))
one_note (Some piece) a b (inr p) (inl q) = absurd (omega (arith, p.0, q.0))
one_note (Some piece) a b (inr p) (inr q) = one_note_of piece.bytes a b p.1 q.1
