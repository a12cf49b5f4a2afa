-- A text is read as one list of pieces.
use Rattle.std.proofs.Common.{◌≡◌, ℕ, ◌+◌, ◌<◌, ◌≤◌, List, [], ◌∷◌, length, refl, sym, ap, subst, ◌∙◌, length-append, arith}
use Rattle.xml_grammar.specs.Pieces.{Piece}
use Rattle.xml_grammar.specs.Nesting.{Nest, mode_of, enter}
use Rattle.xml_grammar.specs.Trees.{Placed}
use Rattle.xml_grammar.specs.Documents.{width, Reads}
use Rattle.xml_grammar.proofs.OnePiece.{one_piece, stands_some}

-- what is left is a part of the text
pub reads_within : (s : Nest) (at : ℕ) (ps : List Placed) (text left : List ℕ) → Reads s at ps text left → length left ≤ length text
reads_within s at [] text left h = let e : length text ≡ length left = ap length h in omega arith
reads_within s at (p ∷ ps) text left (place, front, back, stands, good, more, is) =
    let r = reads_within (enter s p.1) (at + width front) ps back left more in
    let e : length text ≡ length front + length back = ap length is ∙ length-append front back in
    omega arith

pub reads_less : (s : Nest) (at : ℕ) (p : Placed) (ps : List Placed) (text left : List ℕ) → Reads s at (p ∷ ps) text left → length left < length text
reads_less s at p ps text left (place, front, back, stands, good, more, is) =
    let r = reads_within (enter s p.1) (at + width front) ps back left more in
    let e : length text ≡ length front + length back = ap length is ∙ length-append front back in
    let f = stands_some (mode_of s) p.1 front back stands in
    omega arith

-- two readings that leave as much are one
pub same_reads : (s : Nest) (at : ℕ) (ps qs : List Placed) (text l r : List ℕ) → Reads s at ps text l → Reads s at qs text r → length l ≡ length r → (ps ≡ qs) × (l ≡ r)
same_reads s at [] [] text l r h k e = (refl, sym h ∙ k)
same_reads s at [] (q ∷ qs) text l r h k e =
    let less = reads_less s at q qs text r k in
    let same : length text ≡ length l = ap length h in
    absurd (omega arith)
same_reads s at (p ∷ ps) [] text l r h k e =
    let less = reads_less s at p ps text l h in
    let same : length text ≡ length r = ap length k in
    absurd (omega arith)
same_reads s at (p ∷ ps) (q ∷ qs) text l r (place, front, back, stands, good, more, is) (place', front', back', stands', good', more', is') e =
    let one = one_piece (mode_of s) p.1 q.1 front front' back back' stands stands' (sym is ∙ is') in
    let more'' : Reads (enter s p.1) (at + width front) qs back r =
    subst (λ (z : Piece). Reads (enter s z) (at + width front) qs back r) (sym one.0)
    (subst (λ (z : List ℕ). Reads (enter s q.1) (at + width z) qs back r) (sym one.1)
    (subst (λ (z : List ℕ). Reads (enter s q.1) (at + width front') qs z r) (sym one.2) more')) in
    let rest = same_reads (enter s p.1) (at + width front) ps qs back l r more more'' e in
    let place_same : p.0 ≡ q.0 = place ∙ sym place' in
    (λ i. ((place_same i, one.0 i) ∷ rest.0 i), rest.1)
