-- How a text begins tells the kind of the piece that may stand at its front, so "no piece" is "no comment" after `<!--`
-- and so on.
use Rattle.std.proofs.Common.{◌≡◌, ℕ, ◌⊎◌, List, ◌∷◌, ◌++◌, Option, refl, sym, ap, ◌∙◌, inl, inr, arith}
use Rattle.std.specs.Prelude.{codes}
use Rattle.xml_grammar.specs.declared.tags.QName.{QName}
use Rattle.xml_grammar.specs.declared.tags.Tag.{Tag}
use Rattle.xml_grammar.specs.declared.tokens.Mode.{Mode}
use Rattle.xml_grammar.specs.Spelling.{BeginsWith}
use Rattle.xml_grammar.specs.Pieces.{Piece, Declaration, Instruction, Comment, Cdata, Start, End, Reference, LineEnd, Character, Spells, Stands}
use Rattle.xml_grammar.proofs.Splits.{head_same}
use Rattle.xml_grammar.proofs.ValueParts.{reference_begins}
use Rattle.xml_grammar.proofs.OnePiece.{kind_at, kind, kind_is, kind_some}

-- the kind of a piece by the text that it begins
kind_by : (mode : Mode) (p : Piece) (front back text : List ℕ) → Stands mode p front back → front ++ back ≡ text → kind p ≡ kind_at text
kind_by mode p front back text h e = sym (kind_is p front back h.spelled) ∙ ap kind_at e

abbrev IsHead : Piece → Type 0
IsHead p = (p ≡ Instruction) ⊎ ((encoding : Option (List ℕ)) × (p ≡ Declaration encoding))

abbrev IsTagPiece : Piece → Type 0
IsTagPiece p = ((tag : Tag) × (p ≡ Start tag)) ⊎ ((name : QName) × (p ≡ End name))

comment_of : (p : Piece) → kind p ≡ 1 → p ≡ Comment
comment_of Comment e = refl
comment_of p e = absurd (omega arith)

cdata_of : (p : Piece) → kind p ≡ 2 → (text : List ℕ) × (p ≡ Cdata text)
cdata_of (Cdata text) e = (text, refl)
cdata_of p e = absurd (omega arith)

head_of : (p : Piece) → kind p ≡ 0 → IsHead p
head_of (Declaration encoding) e = inr (encoding, refl)
head_of Instruction e = inl refl
head_of p e = absurd (omega arith)

reference_of : (p : Piece) → kind p ≡ 5 → (c : ℕ) × (p ≡ Reference c)
reference_of (Reference c) e = (c, refl)
reference_of p e = absurd (omega arith)

pub comment_begins : (mode : Mode) (p : Piece) (front back : List ℕ) → Stands mode p front back → BeginsWith (codes "<!--") (front ++ back) → p ≡ Comment
comment_begins mode p front back h (rest, e) = comment_of p (kind_by mode p front back (codes "<!--" ++ rest) h e)

pub cdata_begins : (mode : Mode) (p : Piece) (front back : List ℕ) → Stands mode p front back → BeginsWith (codes "<![CDATA[") (front ++ back) → (text : List ℕ) × (p ≡ Cdata text)
cdata_begins mode p front back h (rest, e) = cdata_of p (kind_by mode p front back (codes "<![CDATA[" ++ rest) h e)

pub head_begins : (mode : Mode) (p : Piece) (front back : List ℕ) → Stands mode p front back → BeginsWith (codes "<?") (front ++ back) → IsHead p
head_begins mode p front back h (rest, e) = head_of p (kind_by mode p front back (codes "<?" ++ rest) h e)

pub ampersand_begins : (mode : Mode) (p : Piece) (front back : List ℕ) → Stands mode p front back → BeginsWith (codes "&") (front ++ back) → (c : ℕ) × (p ≡ Reference c)
ampersand_begins mode p front back h (rest, e) = reference_of p (kind_by mode p front back (codes "&" ++ rest) h e)

pub doctype_begins : (mode : Mode) (p : Piece) (front back : List ℕ) → Stands mode p front back → BeginsWith (codes "<!DOCTYPE") (front ++ back) → ⊥
doctype_begins mode p front back h (rest, e) = kind_some p (kind_by mode p front back (codes "<!DOCTYPE" ++ rest) h e)

-- a piece that begins with `<` and in none of the other ways is a tag
tag_of : (p : Piece) (front back rest : List ℕ) → Spells p front → front ++ back ≡ 0x3C ∷ rest
    → (BeginsWith (codes "<!--") (front ++ back) → ⊥) → (BeginsWith (codes "<?") (front ++ back) → ⊥) → (BeginsWith (codes "<![CDATA[") (front ++ back) → ⊥) → IsTagPiece p
tag_of (Declaration encoding) front back rest (version, named, alone, gap, hv, hn, ha, hg, at) e comment head cdata =
    absurd (head (codes "xml" ++ version ++ named ++ alone ++ gap ++ codes "?>" ++ back, ap (λ (t : List ℕ). t ++ back) at))
tag_of Instruction front back rest (target, inside, ht, hi, at) e comment head cdata = absurd (head (target ++ inside ++ codes "?>" ++ back, ap (λ (t : List ℕ). t ++ back) at))
tag_of Comment front back rest (inside, chars, lacks, at) e comment head cdata = absurd (comment (inside ++ codes "-->" ++ back, ap (λ (t : List ℕ). t ++ back) at))
tag_of (Cdata text) front back rest (inside, chars, lacks, is, at) e comment head cdata = absurd (cdata (inside ++ codes "]]>" ++ back, ap (λ (t : List ℕ). t ++ back) at))
tag_of (Start tag) front back rest h e comment head cdata = inl (tag, refl)
tag_of (End name) front back rest h e comment head cdata = inr (name, refl)
tag_of (Reference c) front back rest h e comment head cdata =
    let r = reference_begins c front h in
    let x = head_same 0x26 0x3C (r.0 ++ back) rest (ap (λ (t : List ℕ). t ++ back) (sym r.1) ∙ e) in
    absurd (omega arith)
tag_of LineEnd front back rest (inl at) e comment head cdata =
    let x = head_same 0xD 0x3C (0xA ∷ back) rest (ap (λ (t : List ℕ). t ++ back) (sym at) ∙ e) in absurd (omega arith)
tag_of LineEnd front back rest (inr at) e comment head cdata =
    let x = head_same 0xD 0x3C back rest (ap (λ (t : List ℕ). t ++ back) (sym at) ∙ e) in absurd (omega arith)
tag_of (Character c) front back rest (char, less, amp, cr, at) e comment head cdata =
    absurd (less (head_same c 0x3C back rest (ap (λ (t : List ℕ). t ++ back) (sym at) ∙ e)))

pub tag_begins : (mode : Mode) (p : Piece) (front back : List ℕ) → Stands mode p front back → BeginsWith (codes "<") (front ++ back)
    → (BeginsWith (codes "<!--") (front ++ back) → ⊥) → (BeginsWith (codes "<?") (front ++ back) → ⊥) → (BeginsWith (codes "<![CDATA[") (front ++ back) → ⊥) → IsTagPiece p
tag_begins mode p front back h (rest, e) comment head cdata = tag_of p front back rest h.spelled e comment head cdata
