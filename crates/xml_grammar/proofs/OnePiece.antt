-- At one place at most one piece stands.
use Rattle.std.proofs.Common.{◌≡◌, ◌≢◌, ℕ, true, false, List, [], ◌∷◌, ◌++◌, length, ◌<◌, refl, sym, ap, ◌∙◌, inl, inr, arith}
use Rattle.std.specs.Prelude.{codes, ◌==◌, if◌then◌else◌, encode_utf8_all}
use Rattle.std.proofs.lemmas.Bool.{eqb-true}
use Rattle.std.proofs.lemmas.List.{append_cancel_left}
use Rattle.xmp_values.specs.Characters.{is_name_start}
use Rattle.xml_grammar.specs.declared.tokens.Mode.{Mode}
use Rattle.xml_grammar.specs.Spelling.{line_ends}
use Rattle.xml_grammar.specs.Pieces.{Piece, Declaration, Instruction, Comment, Cdata, Start, End, Reference, LineEnd, Character, Spells, Fits, Stands, tag_close}
use Rattle.xml_grammar.proofs.Splits.{head_same, tail_same, not_both, cdata_ended, comment_ended}
use Rattle.xml_grammar.proofs.Parts.{qname_starts, apart}
use Rattle.xml_grammar.proofs.ValueParts.{reference_row, reference_begins}
use Rattle.xml_grammar.proofs.TagParts.{tag_row, end_row}
use Rattle.xml_grammar.proofs.HeadParts.{head_row, instruction_row, no_head}

-- ---- which kind of piece a text begins with: 8 is none

abbrev pub bang_kind : List ℕ → ℕ
bang_kind [] = 8
bang_kind (c ∷ cs) = if c == 0x2D then 1 else if c == 0x5B then 2 else 8

abbrev pub mark_kind : List ℕ → ℕ
mark_kind [] = 8
mark_kind (c ∷ cs) = if c == 0x3F then 0 else if c == 0x2F then 3 else if c == 0x21 then bang_kind cs else 4

abbrev pub kind_at : List ℕ → ℕ
kind_at [] = 8
kind_at (c ∷ cs) = if c == 0x3C then mark_kind cs else if c == 0x26 then 5 else if c == 0xD then 6 else 7

-- XML declarations and instructions begin alike
abbrev pub kind : Piece → ℕ
kind (Declaration encoding) = 0
kind Instruction = 0
kind Comment = 1
kind (Cdata text) = 2
kind (Start tag) = 4
kind (End name) = 3
kind (Reference c) = 5
kind LineEnd = 6
kind (Character c) = 7

ne_false : (x y : ℕ) → x ≢ y → (x == y) ≡ false
ne_false x y ne = apart (x == y) (λ e. ne (eqb-true x y e))

start_ne : (y : ℕ) → is_name_start y ≡ false → (c : ℕ) → is_name_start c ≡ true → (c == y) ≡ false
start_ne y fails c h = apart (c == y) (λ e. not_both (is_name_start c) h (ap is_name_start (eqb-true c y e) ∙ fails))

tag_kind : (c : ℕ) (cs : List ℕ) → is_name_start c ≡ true → kind_at (0x3C ∷ c ∷ cs) ≡ 4
unfolding is_name_start
tag_kind c cs h =
    let a : (c == 0x3F) ≡ false = start_ne 0x3F refl c h in
    let b : (c == 0x2F) ≡ false = start_ne 0x2F refl c h in
    let d : (c == 0x21) ≡ false = start_ne 0x21 refl c h in
    rw (a, b, d) refl

pub plain_kind : (c : ℕ) (cs : List ℕ) → c ≢ 0x3C → c ≢ 0x26 → c ≢ 0xD → kind_at (c ∷ cs) ≡ 7
plain_kind c cs less amp cr =
    let a : (c == 0x3C) ≡ false = ne_false c 0x3C less in
    let b : (c == 0x26) ≡ false = ne_false c 0x26 amp in
    let d : (c == 0xD) ≡ false = ne_false c 0xD cr in
    rw (a, b, d) refl

pub kind_is : (p : Piece) (front back : List ℕ) → Spells p front → kind_at (front ++ back) ≡ kind p
kind_is (Declaration encoding) front back (version, named, alone, gap, hv, hn, ha, hg, at) = ap (λ (t : List ℕ). kind_at (t ++ back)) at
kind_is Instruction front back (target, inside, ht, hi, at) = ap (λ (t : List ℕ). kind_at (t ++ back)) at
kind_is Comment front back (inside, chars, lacks, at) = ap (λ (t : List ℕ). kind_at (t ++ back)) at
kind_is (Cdata text) front back (inside, chars, lacks, is, at) = ap (λ (t : List ℕ). kind_at (t ++ back)) at
kind_is (Start tag) front back (name, inside, gap, hn, hi, hg, at) =
    let s = qname_starts tag.name name hn in
    ap (λ (t : List ℕ). kind_at (t ++ back)) at ∙ ap (λ (t : List ℕ). kind_at (0x3C ∷ (t ++ inside ++ gap ++ tag_close tag.empty ++ back))) s.3 ∙ tag_kind s.0 (s.1 ++ inside ++ gap ++ tag_close tag.empty ++ back) s.2
kind_is (End name) front back (text, gap, hn, hg, at) = ap (λ (t : List ℕ). kind_at (t ++ back)) at
kind_is (Reference c) front back h = let r = reference_begins c front h in ap (λ (t : List ℕ). kind_at (t ++ back)) r.1
kind_is LineEnd front back (inl at) = ap (λ (t : List ℕ). kind_at (t ++ back)) at
kind_is LineEnd front back (inr at) = ap (λ (t : List ℕ). kind_at (t ++ back)) at
kind_is (Character c) front back (char, less, amp, cr, at) = ap (λ (t : List ℕ). kind_at (t ++ back)) at ∙ plain_kind c back less amp cr

-- ---- pieces of one kind

abbrev Row : Piece → List ℕ → List ℕ → Piece → List ℕ → List ℕ → Type 0
Row p a c q b d = (p ≡ q) × (a ≡ b) × (c ≡ d)

comment_row : (a b c d : List ℕ) → Spells Comment a → Spells Comment b → a ++ c ≡ b ++ d → (a ≡ b) × (c ≡ d)
comment_row a b c d (inside, chars, lacks, at) (inside', chars', lacks', at') e =
    let row : codes "<!--" ++ (inside ++ codes "-->" ++ c) ≡ codes "<!--" ++ (inside' ++ codes "-->" ++ d) = ap (λ (t : List ℕ). t ++ c) (sym at) ∙ e ∙ ap (λ (t : List ℕ). t ++ d) at' in
    let r = comment_ended inside c inside' d lacks lacks' (append_cancel_left (codes "<!--") (inside ++ codes "-->" ++ c) (inside' ++ codes "-->" ++ d) row) in
    (at ∙ ap (λ (t : List ℕ). codes "<!--" ++ t ++ codes "-->") r.0 ∙ sym at', r.1)

cdata_row : (x y a b c d : List ℕ) → Spells (Cdata x) a → Spells (Cdata y) b → a ++ c ≡ b ++ d → (x ≡ y) × (a ≡ b) × (c ≡ d)
cdata_row x y a b c d (inside, chars, lacks, is, at) (inside', chars', lacks', is', at') e =
    let row : codes "<![CDATA[" ++ (inside ++ codes "]]>" ++ c) ≡ codes "<![CDATA[" ++ (inside' ++ codes "]]>" ++ d) = ap (λ (t : List ℕ). t ++ c) (sym at) ∙ e ∙ ap (λ (t : List ℕ). t ++ d) at' in
    let r = cdata_ended inside c inside' d lacks lacks' (append_cancel_left (codes "<![CDATA[") (inside ++ codes "]]>" ++ c) (inside' ++ codes "]]>" ++ d) row) in
    (is ∙ ap (λ (t : List ℕ). encode_utf8_all (line_ends t)) r.0 ∙ sym is', at ∙ ap (λ (t : List ℕ). codes "<![CDATA[" ++ t ++ codes "]]>") r.0 ∙ sym at', r.1)

line_end_row : (mode : Mode) (a b c d : List ℕ) → Spells LineEnd a → Spells LineEnd b → Fits mode LineEnd a c → Fits mode LineEnd b d → a ++ c ≡ b ++ d → (a ≡ b) × (c ≡ d)
line_end_row mode a b c d (inl at) (inl at') fa fb e =
    (at ∙ sym at', append_cancel_left (0xD ∷ 0xA ∷ []) c d (ap (λ (t : List ℕ). t ++ c) (sym at) ∙ e ∙ ap (λ (t : List ℕ). t ++ d) at'))
line_end_row mode a b c d (inr at) (inr at') fa fb e =
    (at ∙ sym at', append_cancel_left (0xD ∷ []) c d (ap (λ (t : List ℕ). t ++ c) (sym at) ∙ e ∙ ap (λ (t : List ℕ). t ++ d) at'))
line_end_row mode a b c d (inl at) (inr at') fa fb e =
    absurd (fb at' (c, sym (append_cancel_left (0xD ∷ []) (0xA ∷ c) d (ap (λ (t : List ℕ). t ++ c) (sym at) ∙ e ∙ ap (λ (t : List ℕ). t ++ d) at'))))
line_end_row mode a b c d (inr at) (inl at') fa fb e =
    absurd (fa at (d, append_cancel_left (0xD ∷ []) c (0xA ∷ d) (ap (λ (t : List ℕ). t ++ c) (sym at) ∙ e ∙ ap (λ (t : List ℕ). t ++ d) at')))

character_row : (x y : ℕ) (a b c d : List ℕ) → a ≡ x ∷ [] → b ≡ y ∷ [] → a ++ c ≡ b ++ d → (x ≡ y) × (a ≡ b) × (c ≡ d)
character_row x y a b c d at at' e =
    let row : x ∷ c ≡ y ∷ d = ap (λ (t : List ℕ). t ++ c) (sym at) ∙ e ∙ ap (λ (t : List ℕ). t ++ d) at' in
    let h = head_same x y c d row in
    (h, at ∙ ap (λ (z : ℕ). z ∷ []) h ∙ sym at', tail_same x y c d row)

row_of : (mode : Mode) (p q : Piece) (a b c d : List ℕ) → kind p ≡ kind q → Spells p a → Spells q b → Fits mode p a c → Fits mode q b d → a ++ c ≡ b ++ d → Row p a c q b d
row_of mode (Declaration x) (Declaration y) a b c d k h j fh fj e = let r = head_row x y a b c d h j e in (ap Declaration r.0, r.1, r.2)
row_of mode (Declaration x) Instruction a b c d k h j fh fj e = absurd (no_head x a b c d h j e)
row_of mode Instruction (Declaration y) a b c d k h j fh fj e = absurd (no_head y b a d c j h (sym e))
row_of mode Instruction Instruction a b c d k h j fh fj e = let r = instruction_row a b c d h j e in (refl, r.0, r.1)
row_of mode Comment Comment a b c d k h j fh fj e = let r = comment_row a b c d h j e in (refl, r.0, r.1)
row_of mode (Cdata x) (Cdata y) a b c d k h j fh fj e = let r = cdata_row x y a b c d h j e in (ap Cdata r.0, r.1, r.2)
row_of mode (Start x) (Start y) a b c d k h j fh fj e = let r = tag_row x y a b c d h j e in (ap Start r.0, r.1, r.2)
row_of mode (End x) (End y) a b c d k h j fh fj e = let r = end_row x y a b c d h j e in (ap End r.0, r.1, r.2)
row_of mode (Reference x) (Reference y) a b c d k h j fh fj e = let r = reference_row x y a b c d h j e in (ap Reference r.0, r.1, r.2)
row_of mode LineEnd LineEnd a b c d k h j fh fj e = let r = line_end_row mode a b c d h j fh fj e in (refl, r.0, r.1)
row_of mode (Character x) (Character y) a b c d k h j fh fj e = let r = character_row x y a b c d h.4 j.4 e in (ap Character r.0, r.1, r.2)
row_of mode p q a b c d k h j fh fj e = absurd (omega arith)

-- At one place at most one piece stands, whatever the two are said to be followed by.
pub one_piece : (mode : Mode) (p q : Piece) (a b c d : List ℕ) → Stands mode p a c → Stands mode q b d → a ++ c ≡ b ++ d → (p ≡ q) × (a ≡ b) × (c ≡ d)
one_piece mode p q a b c d h j e =
    row_of mode p q a b c d (sym (kind_is p a c h.spelled) ∙ ap kind_at e ∙ kind_is q b d j.spelled) h.spelled j.spelled h.fits j.fits e

-- a piece isn't spelled by nothing
pub kind_some : (p : Piece) → kind p ≡ 8 → ⊥
kind_some (Declaration encoding) e = omega arith
kind_some Instruction e = omega arith
kind_some Comment e = omega arith
kind_some (Cdata text) e = omega arith
kind_some (Start tag) e = omega arith
kind_some (End name) e = omega arith
kind_some (Reference c) e = omega arith
kind_some LineEnd e = omega arith
kind_some (Character c) e = omega arith

pub stands_some : (mode : Mode) (p : Piece) (front back : List ℕ) → Stands mode p front back → 0 < length front
stands_some mode p [] back h = absurd (kind_some p (sym (kind_is p [] [] h.spelled)))
stands_some mode p (c ∷ cs) back h = omega arith
