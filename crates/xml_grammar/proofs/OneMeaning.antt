-- A text has at most one document and at most one first fault, and not both.
use Rattle.std.proofs.Common.{◌≡◌, ◌≢◌, ℕ, ◌+◌, ◌/◌, ◌%◌, ltb, cond, ◌≤◌, Bool, true, false, ◌⊎◌, List, [], ◌∷◌, ◌++◌, length, Some, refl, sym, ap, subst, ◌∙◌, inl, inr, arith}
use Rattle.std.specs.Prelude.{codes, encode_utf8_all, IsTrue, IsFalse, chars, ◌==◌, ◌&&◌, if◌then◌else◌}
use Rattle.std.proofs.lemmas.Bool.{eqb-true}
use Rattle.std.specs.Str.{IsUtf8}
use Rattle.std.specs.Str.Lossy.{utf8_valid_len}
use Rattle.std.proofs.lemmas.Bool.{ltb-true}
use lib.Utf8.{encode, next}
use Rattle.xmp_values.specs.Characters.{is_char}
use Rattle.xmp_values.specs.declared.hints.Hint.{Hint}
use Rattle.xmp_values.specs.Rules.{number_of}
use Rattle.xmp_values.specs.declared.rules.Rule.{Rule}
use Rattle.xmp_values.specs.declared.rules.Rule.TheVariants.{Utf16, NotUtf8, BadChar, Doctype, BadReference, BadTag, BadComment, BadInstruction, Encoding, BadCdata, OutsideRoot, Mismatch, BadNamespace, UnboundPrefix, TwiceAttribute, TooDeep, Unfinished}
use Rattle.xml_grammar.specs.declared.tokens.Mode.{Mode}
use Rattle.xml_grammar.specs.declared.tokens.Mode.TheVariants as modes
use Rattle.xml_grammar.specs.declared.elements.Element.{Element}
use Rattle.xml_grammar.specs.Spelling.{BeginsWith}
use Rattle.xml_grammar.specs.Pieces.{Piece, Declaration, Instruction, Comment, Cdata, Start, End, Reference, LineEnd, Character, Fits, Stands, HasPiece}
use Rattle.xml_grammar.specs.Nesting.{Nest, start, mode_of, breaks, piece_rules, broken}
use Rattle.xml_grammar.specs.Trees.{Placed, events_of, hints_of}
use Rattle.xml_grammar.specs.Documents.{width, mark_width, after_mark, Breaks, Holds, IsDocument, IsRule, IsPieceFault, IsUtf16, IsFault, nest_after}
use Rattle.xml_grammar.proofs.Splits.{both, cons_same, head_same, tail_same, not_both}
use Rattle.xml_grammar.proofs.Parts.{apart}
use Rattle.xml_grammar.proofs.LeastRule.{one_in, rules_grow, is_piece_rule, broken_breaks, broken_least}
use Rattle.xml_grammar.proofs.OnePiece.{kind_at, kind, kind_is, kind_some, plain_kind, one_piece}
use Rattle.xml_grammar.proofs.Readings.{same_reads}
use Rattle.xml_grammar.proofs.TreeEvents.{same_element}

-- ---- what a text begins with, as a test

abbrev pub begins : List ℕ → List ℕ → Bool
begins [] text = true
begins (n ∷ ns) [] = false
begins (n ∷ ns) (c ∷ cs) = n == c && begins ns cs

begins_with : (needle text : List ℕ) → begins needle text ≡ true → BeginsWith needle text
begins_with [] text e = (text, refl)
begins_with (n ∷ ns) [] e = absurd cc
begins_with (n ∷ ns) (c ∷ cs) e =
    let p = both (n == c) (begins ns cs) e in
    let r = begins_with ns cs p.1 in
    (r.0, cons_same c n cs (ns ++ r.0) (sym (eqb-true n c p.0)) r.1)

begins_not : (needle text : List ℕ) → (BeginsWith needle text → ⊥) → begins needle text ≡ false
begins_not needle text h = apart (begins needle text) (λ e. h (begins_with needle text e))

abbrev pub is_empty : List ℕ → Bool
is_empty [] = true
is_empty (c ∷ cs) = false

-- the rule where no piece stands
abbrev pub rule_at : List ℕ → Rule
rule_at left =
    if begins (codes "<!DOCTYPE") left then Doctype
    else if begins (codes "<!--") left then BadComment
    else if begins (codes "<?") left then BadInstruction
    else if begins (codes "<![CDATA[") left then BadCdata
    else if begins (codes "<") left then BadTag
    else if begins (codes "&") left then BadReference
    else if is_empty left then Unfinished
    else BadChar

-- ---- the rule for what is left

-- no piece stands there
abbrev pub NoneStands : Nest → List ℕ → Type 0
NoneStands s left = HasPiece (mode_of s) left → ⊥

abbrev pub IsOpen : Nest → Type 0
IsOpen s = (s.levels ≢ []) ⊎ (s.rooted ≡ false)

-- a rule that holds is the one that a piece breaks, or the text tells it
pub record Tells (s : Nest) (left : List ℕ) (r : Rule) : Type 0 where
  pub none : NoneStands s left
  pub rule : r ≡ rule_at left
  pub ends : left ≡ [] → IsOpen s

abbrev pub Says : Nest → List ℕ → Rule → Type 0
Says s left r = Breaks s left r ⊎ Tells s left r

not_empty : (s : Nest) (c : ℕ) (rest left : List ℕ) → left ≡ c ∷ rest → left ≡ [] → IsOpen s
not_empty s c rest left e f = absurd cc

-- no piece begins so
pub kind_none : (s : Nest) (left : List ℕ) → kind_at left ≡ 8 → NoneStands s left
kind_none s left e (p, front, back, stands, is) = kind_some p (sym (kind_is p front back stands.spelled) ∙ ap kind_at (sym is) ∙ e)

-- each piece begins with a Char
lesser_char : is_char 0x3C ≡ true
unfolding is_char
lesser_char = refl

ampersand_char : is_char 0x26 ≡ true
unfolding is_char
ampersand_char = refl

return_char : is_char 0xD ≡ true
unfolding is_char
return_char = refl

bad_begins : (y : ℕ) → is_char y ≡ true → (c : ℕ) → IsFalse (is_char c) → (y == c) ≡ false
bad_begins y h c f = apart (y == c) (λ e. not_both (is_char c) (ap is_char (sym (eqb-true y c e)) ∙ h) f)

bad_kind : (c : ℕ) (rest : List ℕ) → IsFalse (is_char c) → kind_at (c ∷ rest) ≡ 7
bad_kind c rest f = plain_kind c rest (other 0x3C lesser_char) (other 0x26 ampersand_char) (other 0xD return_char)
  where
    other : (y : ℕ) → is_char y ≡ true → c ≢ y
    other y h e = not_both (is_char y) h (ap is_char (sym e) ∙ f)

-- where the text begins with another character than markup, a piece is that character
plain_piece : (mode : Mode) (p : Piece) (front back : List ℕ) (c : ℕ) (rest : List ℕ) → Stands mode p front back → front ++ back ≡ c ∷ rest → kind p ≡ 7 → IsTrue (is_char c) × Fits mode (Character c) (c ∷ []) rest
plain_piece mode (Declaration encoding) front back c rest h e k = absurd (omega arith)
plain_piece mode Instruction front back c rest h e k = absurd (omega arith)
plain_piece mode Comment front back c rest h e k = absurd (omega arith)
plain_piece mode (Cdata text) front back c rest h e k = absurd (omega arith)
plain_piece mode (Start tag) front back c rest h e k = absurd (omega arith)
plain_piece mode (End name) front back c rest h e k = absurd (omega arith)
plain_piece mode (Reference d) front back c rest h e k = absurd (omega arith)
plain_piece mode LineEnd front back c rest h e k = absurd (omega arith)
plain_piece mode (Character d) front back c rest h e k =
    let row : d ∷ back ≡ c ∷ rest = ap (λ (t : List ℕ). t ++ back) (sym h.spelled.4) ∙ e in
    let same : d ≡ c = head_same d c back rest row in
    let later : back ≡ rest = tail_same d c back rest row in
    (ap is_char (sym same) ∙ h.spelled.0, λ inside is begins. h.fits inside (same ∙ is) (subst (BeginsWith (codes "]>")) (sym later) begins))

bad_none : (s : Nest) (c : ℕ) (rest left : List ℕ) → IsFalse (is_char c) → left ≡ c ∷ rest → NoneStands s left
bad_none s c rest left f at (p, front, back, stands, is) =
    let k : kind p ≡ 7 = sym (kind_is p front back stands.spelled) ∙ ap kind_at (sym is ∙ at) ∙ bad_kind c rest f in
    let h = plain_piece (mode_of s) p front back c rest stands (sym is ∙ at) k in
    not_both (is_char c) h.0 f

bad_rule : (c : ℕ) (rest : List ℕ) → IsFalse (is_char c) → rule_at (c ∷ rest) ≡ BadChar
bad_rule c rest f =
    let a : (0x3C == c) ≡ false = bad_begins 0x3C lesser_char c f in
    let b : (0x26 == c) ≡ false = bad_begins 0x26 ampersand_char c f in
    rw (a, b) refl

pub bracket_none : (s : Nest) (left : List ℕ) → mode_of s ≡ modes.Inside → BeginsWith (codes "]]>") left → NoneStands s left
bracket_none s left inside (rest, at) (p, front, back, stands, is) =
    let k : kind p ≡ 7 = sym (kind_is p front back stands.spelled) ∙ ap kind_at (sym is ∙ at) in
    let h = plain_piece (mode_of s) p front back 0x5D (codes "]>" ++ rest) stands (sym is ∙ at) k in
    h.1 inside refl (rest, refl)

pub says : (s : Nest) (left : List ℕ) (r : Rule) → Holds s left r → Says s left r
says s left BadChar (inl (c, rest, f, at)) = inr (record { none = bad_none s c rest left f at; rule = sym (ap rule_at at ∙ bad_rule c rest f); ends = not_empty s c rest left at })
says s left BadChar (inr (inside, begins)) = inr (record { none = bracket_none s left inside begins; rule = sym (ap rule_at begins.1); ends = not_empty s 0x5D (codes "]>" ++ begins.0) left begins.1 })
says s left Doctype (rest, at) = inr (record { none = kind_none s left (ap kind_at at); rule = sym (ap rule_at at); ends = not_empty s 0x3C (codes "!DOCTYPE" ++ rest) left at })
says s left BadReference ((rest, at), none) = inr (record { none = none; rule = sym (ap rule_at at); ends = not_empty s 0x26 rest left at })
says s left BadTag (((rest, at), none), doctype, comment, instruction, cdata) =
    let a = begins_not (codes "<!DOCTYPE") left doctype in
    let b = begins_not (codes "<!--") left comment in
    let c = begins_not (codes "<?") left instruction in
    let d = begins_not (codes "<![CDATA[") left cdata in
    let e : begins (codes "<") left ≡ true = ap (begins (codes "<")) at in
    inr (record { none = none; rule = sym (rw (a, b, c, d, e) refl); ends = not_empty s 0x3C rest left at })
says s left BadComment ((rest, at), none) = inr (record { none = none; rule = sym (ap rule_at at); ends = not_empty s 0x3C (codes "!--" ++ rest) left at })
says s left BadInstruction ((rest, at), none) = inr (record { none = none; rule = sym (ap rule_at at); ends = not_empty s 0x3C (codes "?" ++ rest) left at })
says s left BadCdata ((rest, at), none) = inr (record { none = none; rule = sym (ap rule_at at); ends = not_empty s 0x3C (codes "![CDATA[" ++ rest) left at })
says s left Unfinished (at, open_still) = inr (record { none = kind_none s left (ap kind_at at); rule = sym (ap rule_at at); ends = λ e. open_still })
says s left r h = inl h

-- a rule that the text tells is the only one that holds
pub told_rule : (s : Nest) (left : List ℕ) (r : Rule) → NoneStands s left → Holds s left r → IsRule s left r
told_rule s left r none h = (h, λ q k. only q (says s left r h) (says s left q k))
  where
    only : (q : Rule) → Says s left r → Says s left q → number_of r ≤ number_of q
    only q (inl (p, front, back, stands, is, broke)) k = absurd (none (p, front, back, stands, is))
    only q (inr t) (inl (p, front, back, stands, is, broke)) = absurd (none (p, front, back, stands, is))
    only q (inr t) (inr u) = let same : number_of r ≡ number_of q = ap number_of (t.rule ∙ sym u.rule) in omega arith

-- a whole piece stands at the front, and r is the first rule that it breaks
abbrev pub IsBroken : Nest → List ℕ → Rule → Type 0
IsBroken s left r = (piece : Piece) × (front : List ℕ) × (back : List ℕ) × Stands (mode_of s) piece front back × (left ≡ front ++ back) × (broken s piece ≡ Some r)

-- that rule is the one for what is left
pub broken_rule : (s : Nest) (left : List ℕ) (r : Rule) → IsBroken s left r → IsRule s left r
broken_rule s left r (p, front, back, stands, is, broke) = (held r (p, front, back, stands, is, broken_breaks s p r broke), λ q k. least q (says s left q k))
  where
    held : (c : Rule) → Breaks s left c → Holds s left c
    held Encoding b = b
    held OutsideRoot b = b
    held Mismatch b = b
    held BadNamespace b = b
    held UnboundPrefix b = b
    held TwiceAttribute b = b
    held TooDeep b = b
    held c (piece, before, after, h, k, none) = absurd cc

    least : (q : Rule) → Says s left q → number_of r ≤ number_of q
    least q (inl (p', front', back', stands', is', broke')) =
        let one = one_piece (mode_of s) p p' front front' back back' stands stands' (sym is ∙ is') in
        broken_least s p r broke q (ap (λ (z : Piece). breaks s z q) one.0 ∙ broke')
    least q (inr t) = absurd (t.none (p, front, back, stands, is))

one_says : (s : Nest) (left : List ℕ) (q r : Rule) → number_of q ≡ number_of r → Says s left q → Says s left r → q ≡ r
one_says s left q r same (inl (p, front, back, stands, is, broke)) (inl (p', front', back', stands', is', broke')) =
    one_in piece_rules rules_grow q r (is_piece_rule s p q broke) (is_piece_rule s p' r broke') same
one_says s left q r same (inl (p, front, back, stands, is, broke)) (inr t) = absurd (t.none (p, front, back, stands, is))
one_says s left q r same (inr t) (inl (p, front, back, stands, is, broke)) = absurd (t.none (p, front, back, stands, is))
one_says s left q r same (inr t) (inr u) = t.rule ∙ sym u.rule

-- at most one rule is the one for what is left
one_rule : (s : Nest) (left : List ℕ) (q r : Rule) → IsRule s left q → IsRule s left r → q ≡ r
one_rule s left q r h k =
    let low = h.1 r k.0 in
    let high = k.1 q h.0 in
    one_says s left q r (omega arith) (says s left q h.0) (says s left r k.0)

-- nothing is left, so no piece breaks a rule
says_open : (s : Nest) (r : Rule) → Says s [] r → IsOpen s
says_open s r (inl (p, front, back, stands, is, broke)) = absurd (kind_none s [] refl (p, front, back, stands, is))
says_open s r (inr t) = t.ends refl

-- ---- UTF-16 and UTF-8

-- no character has two bytes of which the first two are that high
high_bytes : (c x y : ℕ) (more rest : List ℕ) → encode c ++ more ≡ x ∷ y ∷ rest → 0xFE ≤ x → 0xFE ≤ y → ⊥
unfolding encode
high_bytes c x y more rest e hx hy = one (ltb c 128) refl e
  where
    second : (p k : ℕ) (tail : List ℕ) → p ∷ (128 + k % 64) ∷ tail ≡ x ∷ y ∷ rest → ⊥
    second p k tail e = let h = head_same (128 + k % 64) y tail rest (tail_same p x ((128 + k % 64) ∷ tail) (y ∷ rest) e) in omega arith

    three : (b : Bool) → cond b ((224 + c / 4096) ∷ next (c / 64) ∷ next c ∷ []) ((240 + c / 262144) ∷ next (c / 4096) ∷ next (c / 64) ∷ next c ∷ []) ++ more ≡ x ∷ y ∷ rest → ⊥
    three true e = second (224 + c / 4096) (c / 64) (next c ∷ more) e
    three false e = second (240 + c / 262144) (c / 4096) (next (c / 64) ∷ next c ∷ more) e

    two : (b : Bool) → cond b ((192 + c / 64) ∷ next c ∷ []) (cond (ltb c 65536) ((224 + c / 4096) ∷ next (c / 64) ∷ next c ∷ []) ((240 + c / 262144) ∷ next (c / 4096) ∷ next (c / 64) ∷ next c ∷ [])) ++ more ≡ x ∷ y ∷ rest → ⊥
    two true e = second (192 + c / 64) c more e
    two false e = three (ltb c 65536) e

    one : (b : Bool) → ltb c 128 ≡ b → cond b (c ∷ []) (cond (ltb c 2048) ((192 + c / 64) ∷ next c ∷ []) (cond (ltb c 65536) ((224 + c / 4096) ∷ next (c / 64) ∷ next c ∷ []) ((240 + c / 262144) ∷ next (c / 4096) ∷ next (c / 64) ∷ next c ∷ []))) ++ more ≡ x ∷ y ∷ rest → ⊥
    one true t e = let h = head_same c x more (y ∷ rest) e in let low = ltb-true c 128 t in omega arith
    one false t e = two (ltb c 2048) e

high_text : (cs : List ℕ) (x y : ℕ) (rest : List ℕ) → encode_utf8_all cs ≡ x ∷ y ∷ rest → 0xFE ≤ x → 0xFE ≤ y → ⊥
high_text [] x y rest e hx hy = cc
high_text (c ∷ cs) x y rest e hx hy = high_bytes c x y (encode_utf8_all cs) rest e hx hy

not_both_texts : (text : List ℕ) → IsUtf16 text → IsUtf8 text → ⊥
not_both_texts text (inl (rest, at)) (cs, (scalar, is)) = high_text cs 0xFE 0xFF rest (is ∙ at) (omega arith) (omega arith)
not_both_texts text (inr (rest, at)) (cs, (scalar, is)) = high_text cs 0xFF 0xFE rest (is ∙ at) (omega arith) (omega arith)

-- ---- documents and faults

pub one_document : (text : List ℕ) (e f : Element) (g h : List Hint) → IsDocument text e g → IsDocument text f h → (e ≡ f) × (g ≡ h)
one_document text e f g h d k =
    let same = same_reads start (mark_width (chars text)) d.pieces k.pieces (after_mark (chars text)) [] [] d.read k.read refl in
    (same_element e f (sym d.tree ∙ ap (events_of start) same.0 ∙ k.tree), d.hinted ∙ ap hints_of same.0 ∙ sym k.hinted)

-- the three ways in which a fault is one
abbrev Faulty : List ℕ → Rule → ℕ → Type 0
Faulty text r place =
    ((r ≡ Utf16) × IsUtf16 text × (place ≡ 0))
    ⊎ (((r ≡ NotUtf8) × (IsUtf16 text → ⊥) × (IsUtf8 text → ⊥) × (place ≡ utf8_valid_len text)) ⊎ IsPieceFault text r place)

faulty : (text : List ℕ) (r : Rule) (place : ℕ) → IsFault text r place → Faulty text r place
faulty text Utf16 place (h, at) = inl (refl, h, at)
faulty text NotUtf8 place (h, k, at) = inr (inl (refl, h, k, at))
faulty text r place h = inr (inr h)

one_piece_fault : (text : List ℕ) (q r : Rule) (m n : ℕ) → IsPieceFault text q m → IsPieceFault text r n → (q ≡ r) × (m ≡ n)
one_piece_fault text q r m n f g =
    let low = f.longest g.pieces g.left g.read in
    let high = g.longest f.pieces f.left f.read in
    let same = same_reads start (mark_width (chars text)) f.pieces g.pieces (after_mark (chars text)) f.left g.left f.read g.read (omega arith) in
    let rule : IsRule (nest_after start g.pieces) g.left q =
    subst (λ (z : List Placed). IsRule (nest_after start z) g.left q) same.0 (subst (λ (z : List ℕ). IsRule (nest_after start f.pieces) z q) same.1 f.rule) in
    let w : width f.left ≡ width g.left = ap width same.1 in
    let a = f.ends in
    let b = g.ends in
    let place : m ≡ n = omega arith in
    (one_rule (nest_after start g.pieces) g.left q r rule g.rule, place)

one_faulty : (text : List ℕ) (q r : Rule) (m n : ℕ) → Faulty text q m → Faulty text r n → (q ≡ r) × (m ≡ n)
one_faulty text q r m n (inl (is, h, at)) (inl (is', h', at')) = (is ∙ sym is', at ∙ sym at')
one_faulty text q r m n (inl (is, h, at)) (inr (inl (is', no16, no8, at'))) = absurd (no16 h)
one_faulty text q r m n (inl (is, h, at)) (inr (inr f)) = absurd (not_both_texts text h f.utf8)
one_faulty text q r m n (inr (inl (is', no16, no8, at'))) (inl (is, h, at)) = absurd (no16 h)
one_faulty text q r m n (inr (inl (is, no16, no8, at))) (inr (inl (is', no16', no8', at'))) = (is ∙ sym is', at ∙ sym at')
one_faulty text q r m n (inr (inl (is, no16, no8, at))) (inr (inr f)) = absurd (no8 f.utf8)
one_faulty text q r m n (inr (inr f)) (inl (is, h, at)) = absurd (not_both_texts text h f.utf8)
one_faulty text q r m n (inr (inr f)) (inr (inl (is, no16, no8, at))) = absurd (no8 f.utf8)
one_faulty text q r m n (inr (inr f)) (inr (inr g)) = one_piece_fault text q r m n f g

pub one_fault : (text : List ℕ) (q r : Rule) (m n : ℕ) → IsFault text q m → IsFault text r n → (q ≡ r) × (m ≡ n)
one_fault text q r m n f g = one_faulty text q r m n (faulty text q m f) (faulty text r n g)

nothing_left : (left : List ℕ) → length left ≡ 0 → left ≡ []
nothing_left [] e = refl
nothing_left (c ∷ cs) e = absurd (omega arith)

document_closed : (s : Nest) → s.levels ≡ [] → s.rooted ≡ true → IsOpen s → ⊥
document_closed s closed rooted (inl h) = h closed
document_closed s closed rooted (inr e) = not_both s.rooted rooted e

no_piece_fault : (text : List ℕ) (e : Element) (h : List Hint) (r : Rule) (place : ℕ) → IsDocument text e h → IsPieceFault text r place → ⊥
no_piece_fault text e h r place d f =
    let low = f.longest d.pieces [] d.read in
    let none : f.left ≡ [] = nothing_left f.left (omega arith) in
    let same = same_reads start (mark_width (chars text)) d.pieces f.pieces (after_mark (chars text)) [] f.left d.read f.read (sym (ap length none)) in
    let rule : IsRule (nest_after start d.pieces) [] r =
    subst (λ (z : List Placed). IsRule (nest_after start z) [] r) (sym same.0) (subst (λ (z : List ℕ). IsRule (nest_after start f.pieces) z r) none f.rule) in
    document_closed (nest_after start d.pieces) d.closed d.rooted (says_open (nest_after start d.pieces) r (says (nest_after start d.pieces) [] r rule.0))

no_faulty : (text : List ℕ) (e : Element) (h : List Hint) (r : Rule) (place : ℕ) → IsDocument text e h → Faulty text r place → ⊥
no_faulty text e h r place d (inl (is, utf16, at)) = not_both_texts text utf16 d.utf8
no_faulty text e h r place d (inr (inl (is, no16, no8, at))) = no8 d.utf8
no_faulty text e h r place d (inr (inr f)) = no_piece_fault text e h r place d f

pub no_fault : (text : List ℕ) (e : Element) (h : List Hint) (r : Rule) (place : ℕ) → IsDocument text e h → IsFault text r place → ⊥
no_fault text e h r place d f = no_faulty text e h r place d (faulty text r place f)
