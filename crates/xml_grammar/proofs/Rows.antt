-- Lists of pieces one after the other, and texts that meet.
use Rattle.std.proofs.Common.{◌≡◌, ℕ, ◌+◌, List, [], ◌∷◌, ◌++◌, length, None, refl, sym, ap, subst, ◌∙◌, append_assoc, append-nil, length-append, arith}
use Rattle.std.specs.Prelude.{encode_utf8_all}
use Rattle.std.proofs.lemmas.Str.{encodes-append}
use Rattle.xml_grammar.specs.Pieces.{Piece, Stands}
use Rattle.xml_grammar.specs.Nesting.{Level, Nest, mode_of, enter, broken}
use Rattle.xml_grammar.specs.Trees.{Placed, Event, Opens, Words, Closes, put, put_inside}
use Rattle.xml_grammar.specs.Documents.{width, Reads, nest_after}

pub width-append : (a b : List ℕ) → width (a ++ b) ≡ width a + width b
width-append a b = ap length (encodes-append a b) ∙ length-append (encode_utf8_all a) (encode_utf8_all b)

-- a list of pieces and then another, which begins where the first ends
pub reads_append : (s : Nest) (at on : ℕ) (ps qs : List Placed) (text middle left : List ℕ)
    → Reads s at ps text middle → Reads (nest_after s ps) on qs middle left → on + width middle ≡ at + width text → Reads s at (ps ++ qs) text left
reads_append s at on [] qs text middle left h k e =
    let w : width text ≡ width middle = ap width h in
    let same : on ≡ at = omega arith in
    subst (λ (z : ℕ). Reads s z qs text left) same (subst (λ (z : List ℕ). Reads s on qs z left) (sym h) k)
reads_append s at on (p ∷ ps) qs text middle left (place, front, back, stands, good, more, is) k e =
    let w : width text ≡ width front + width back = ap width is ∙ width-append front back in
    let r = reads_append (enter s p.1) (at + width front) on ps qs back middle left more k (omega arith) in
    (place, front, back, stands, good, r, is)

pub nest-append : (s : Nest) (ps qs : List Placed) → nest_after s (ps ++ qs) ≡ nest_after (nest_after s ps) qs
nest-append s [] qs = refl
nest-append s (p ∷ ps) qs = nest-append (enter s p.1) ps qs

-- one piece more at the end
pub reads_one : (s : Nest) (at on : ℕ) (ps : List Placed) (p : Piece) (text front back : List ℕ)
    → Reads s at ps text (front ++ back) → Stands (mode_of (nest_after s ps)) p front back → broken (nest_after s ps) p ≡ None
    → on + width (front ++ back) ≡ at + width text → Reads s at (ps ++ (on, p) ∷ []) text back
reads_one s at on ps p text front back h stands good e =
    reads_append s at on ps ((on, p) ∷ []) text (front ++ back) back h (refl, front, back, stands, good, refl, refl) e

-- texts that meet are one
put-append : (a b : List ℕ) (es : List Event) → put a (put b es) ≡ put (a ++ b) es
put-append [] b es = refl
put-append (x ∷ a) [] es = ap (λ (t : List ℕ). put (x ∷ t) es) (sym (append-nil a))
put-append (x ∷ a) (y ∷ b) [] = refl
put-append (x ∷ a) (y ∷ b) (Opens at name attributes ∷ es) = refl
put-append (x ∷ a) (y ∷ b) (Words text ∷ es) = ap (λ (t : List ℕ). Words (x ∷ t) ∷ es) (sym (append_assoc a (y ∷ b) text))
put-append (x ∷ a) (y ∷ b) (Closes ∷ es) = refl

pub put_inside-append : (ls : List Level) (a b : List ℕ) (es : List Event) → put_inside ls a (put_inside ls b es) ≡ put_inside ls (a ++ b) es
put_inside-append [] a b es = refl
put_inside-append (l ∷ ls) a b es = put-append a b es
