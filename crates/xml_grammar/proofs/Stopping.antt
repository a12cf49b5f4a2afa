-- A list of pieces that leaves a text for which a rule holds is the longest one: what a reader has to show of a fault.
use Rattle.std.proofs.Common.{◌≡◌, ℕ, ◌+◌, ◌≤◌, List, [], ◌∷◌, ◌++◌, length, None, sym, ap, subst, ◌∙◌, inl, inr, arith}
use Rattle.std.specs.Prelude.{chars}
use Rattle.std.specs.Str.{IsUtf8}
use Rattle.xmp_values.specs.declared.rules.Rule.{Rule}
use Rattle.xml_grammar.specs.Pieces.{Piece, Stands}
use Rattle.xml_grammar.specs.Nesting.{Nest, start, mode_of, enter, breaks, broken}
use Rattle.xml_grammar.specs.Trees.{Placed}
use Rattle.xml_grammar.specs.Documents.{width, mark_width, after_mark, Reads, nest_after, Begins, Holds, IsRule, IsPieceFault}
use Rattle.xml_grammar.proofs.Splits.{not_both}
use Rattle.xml_grammar.proofs.LeastRule.{unbroken_none}
use Rattle.xml_grammar.proofs.OnePiece.{one_piece}
use Rattle.xml_grammar.proofs.Readings.{reads_less}
use Rattle.xml_grammar.proofs.OneMeaning.{NoneStands, Says, says, told_rule, IsBroken, broken_rule}

-- no piece that breaks no rule stands at the front of what is left
abbrev pub IsStop : Nest → List ℕ → Type 0
IsStop s left = (p : Piece) (front back : List ℕ) → Stands (mode_of s) p front back → left ≡ front ++ back → broken s p ≡ None → ⊥

-- where pieces stop no others go on
pub goes_no_further : (s : Nest) (at : ℕ) (ps qs : List Placed) (text left rest : List ℕ) → Reads s at ps text left → IsStop (nest_after s ps) left → Reads s at qs text rest → length left ≤ length rest
goes_no_further s at [] [] text left rest h stop k = let e : length left ≡ length rest = ap length (sym h ∙ k) in omega arith
goes_no_further s at [] (q ∷ qs) text left rest h stop (place, front, back, stands, good, more, is) = absurd (stop q.1 front back stands (sym h ∙ is) good)
goes_no_further s at (p ∷ ps) [] text left rest h stop k =
    let less = reads_less s at p ps text left h in
    let e : length text ≡ length rest = ap length k in
    omega arith
goes_no_further s at (p ∷ ps) (q ∷ qs) text left rest (place, front, back, stands, good, more, is) stop (place', front', back', stands', good', more', is') =
    let one = one_piece (mode_of s) p.1 q.1 front front' back back' stands stands' (sym is ∙ is') in
    let more'' : Reads (enter s p.1) (at + width front) qs back rest =
    subst (λ (z : Piece). Reads (enter s z) (at + width front) qs back rest) (sym one.0)
    (subst (λ (z : List ℕ). Reads (enter s q.1) (at + width z) qs back rest) (sym one.1)
    (subst (λ (z : List ℕ). Reads (enter s q.1) (at + width front') qs z rest) (sym one.2) more')) in
    goes_no_further (enter s p.1) (at + width front) ps qs back left rest more stop more''

said_stops : (s : Nest) (left : List ℕ) (r : Rule) → Says s left r → IsStop s left
said_stops s left r (inl (p, front, back, stands, is, broke)) p' front' back' stands' is' good =
    let one = one_piece (mode_of s) p p' front front' back back' stands stands' (sym is ∙ is') in
    not_both (breaks s p r) broke (unbroken_none s p r (ap (broken s) one.0 ∙ good))
said_stops s left r (inr t) p front back stands is good = t.none (p, front, back, stands, is)

-- where a rule holds pieces stop
pub rule_stops : (s : Nest) (left : List ℕ) (r : Rule) → IsRule s left r → IsStop s left
rule_stops s left r h = said_stops s left r (says s left r h.0)

-- so the pieces, their end and the rule make the fault
pub fault_made : (text : List ℕ) (r : Rule) (place : ℕ) (ps : List Placed) (left : List ℕ) → IsUtf8 text → Begins text ps left → place + width left ≡ length text → IsRule (nest_after start ps) left r → IsPieceFault text r place
fault_made text r place ps left utf8 read ends rule = record {
  utf8 = utf8;
  pieces = ps;
  left = left;
  read = read;
  longest = λ others rest other. goes_no_further start (mark_width (chars text)) ps others (after_mark (chars text)) left rest read (rule_stops (nest_after start ps) left r rule) other;
  ends = ends;
  rule = rule;
}

-- a fault that the text tells where no piece stands
pub told_fault : (text : List ℕ) (r : Rule) (place : ℕ) (ps : List Placed) (left : List ℕ) → IsUtf8 text → Begins text ps left → place + width left ≡ length text → NoneStands (nest_after start ps) left → Holds (nest_after start ps) left r → IsPieceFault text r place
told_fault text r place ps left utf8 read ends none h = fault_made text r place ps left utf8 read ends (told_rule (nest_after start ps) left r none h)

-- a fault of a whole piece
pub broken_fault : (text : List ℕ) (r : Rule) (place : ℕ) (ps : List Placed) (left : List ℕ) → IsUtf8 text → Begins text ps left → place + width left ≡ length text → IsBroken (nest_after start ps) left r → IsPieceFault text r place
broken_fault text r place ps left utf8 read ends h = fault_made text r place ps left utf8 read ends (broken_rule (nest_after start ps) left r h)
