-- A text whose second byte is `?` has a document only where its first is `<`.
use Rattle.std.proofs.Common.{◌≡◌, ◌≢◌, ℕ, ◌+◌, ◌/◌, ◌%◌, ◌<◌, ◌≤◌, Bool, true, false, cond, not, ltb, List, [], ◌∷◌, ◌++◌, None, refl, sym, ap, ◌∙◌, inl, inr, arith}
use Rattle.std.specs.Prelude.{codes, chars, encode_utf8_all, ◌==◌}
use Rattle.std.proofs.lemmas.Bool.{eqb-true, eqb-false, ltb-true}
use Rattle.std.proofs.lemmas.Str.{encodes-chars}
use lib.Utf8.{encode, next}
use Rattle.xmp_values.specs.Characters.{is_blank}
use Rattle.xmp_values.specs.declared.hints.Hint.{Hint}
use Rattle.xml_grammar.specs.declared.elements.Element.{Element}
use Rattle.xml_grammar.specs.Pieces.{Piece, Declaration, Instruction, Comment, Cdata, Start, End, Reference, LineEnd, Character, Spells, tag_close}
use Rattle.xml_grammar.specs.Nesting.{start, enter, broken}
use Rattle.xml_grammar.specs.Trees.{Placed}
use Rattle.xml_grammar.specs.Documents.{width, mark_width, after_mark, Reads, IsDocument}
use Rattle.xml_grammar.proofs.Splits.{head_same, tail_same, cons_same, not_both}
use Rattle.xml_grammar.proofs.Unbroken.{unbroken}
use Rattle.xml_grammar.proofs.OnePiece.{kind_at, kind, kind_is}

question_no_blank : is_blank 0x3F ≡ false
unfolding is_blank
question_no_blank = refl

-- a character that is no white space can't stand outside the root
outside_blank : (first rooted : Bool) (c : ℕ) → broken (record { first = first; levels = []; rooted = rooted }) (Character c) ≡ None → is_blank c ≡ true
outside_blank first rooted c good = by (is_blank c) (unbroken (record { first = first; levels = []; rooted = rooted }) (Character c) good).placed
  where
    by : (b : Bool) → not b ≡ false → b ≡ true
    by true e = refl
    by false e = absurd cc

outside_no_reference : (first rooted : Bool) (c : ℕ) → broken (record { first = first; levels = []; rooted = rooted }) (Reference c) ≡ None → ⊥
outside_no_reference first rooted c good =
    let e : true ≡ false = (unbroken (record { first = first; levels = []; rooted = rooted }) (Reference c) good).placed in cc

-- `?` can't be read outside the root
question_piece : (first rooted : Bool) (p : Piece) (front back rest : List ℕ) → Spells p front → front ++ back ≡ 0x3F ∷ rest → kind p ≡ 7 → broken (record { first = first; levels = []; rooted = rooted }) p ≡ None → ⊥
question_piece first rooted (Character c) front back rest h e k good =
    let same : c ≡ 0x3F = head_same c 0x3F back rest (ap (λ (t : List ℕ). t ++ back) (sym h.4) ∙ e) in
    not_both (is_blank 0x3F) (ap is_blank (sym same) ∙ outside_blank first rooted c good) question_no_blank
question_piece first rooted p front back rest h e k good = omega arith

no_question : (first rooted : Bool) (at : ℕ) (ps : List Placed) (text rest : List ℕ) → text ≡ 0x3F ∷ rest → Reads (record { first = first; levels = []; rooted = rooted }) at ps text [] → ⊥
no_question first rooted at [] text rest is h = let e : [] ≡ 0x3F ∷ rest = sym h ∙ is in cc
no_question first rooted at (p ∷ ps) text rest is (place, front, back, stands, good, more, at') =
    let k : kind p.1 ≡ 7 = sym (kind_is p.1 front back stands.spelled) ∙ ap kind_at (sym at' ∙ is) in
    question_piece first rooted p.1 front back rest stands.spelled (sym at' ∙ is) k good

-- what may stand first before `?`
first_piece : (p : Piece) (front back rest : List ℕ) (b : ℕ) (ps : List Placed) (at : ℕ) → Spells p front → front ++ back ≡ b ∷ 0x3F ∷ rest → b ≢ 0x3C → broken start p ≡ None → Reads (enter start p) at ps back [] → ⊥
first_piece (Declaration encoding) front back rest b ps at (version, named, alone, gap, hv, hn, ha, hg, is) e less good more =
    less (sym (head_same 0x3C b (codes "?xml" ++ version ++ named ++ alone ++ gap ++ codes "?>" ++ back) (0x3F ∷ rest) (ap (λ (t : List ℕ). t ++ back) (sym is) ∙ e)))
first_piece Instruction front back rest b ps at (target, inside, ht, hi, is) e less good more =
    less (sym (head_same 0x3C b (codes "?" ++ target ++ inside ++ codes "?>" ++ back) (0x3F ∷ rest) (ap (λ (t : List ℕ). t ++ back) (sym is) ∙ e)))
first_piece Comment front back rest b ps at (inside, chars, lacks, is) e less good more =
    less (sym (head_same 0x3C b (codes "!--" ++ inside ++ codes "-->" ++ back) (0x3F ∷ rest) (ap (λ (t : List ℕ). t ++ back) (sym is) ∙ e)))
first_piece (Cdata text) front back rest b ps at (inside, chars, lacks, is', is) e less good more =
    less (sym (head_same 0x3C b (codes "![CDATA[" ++ inside ++ codes "]]>" ++ back) (0x3F ∷ rest) (ap (λ (t : List ℕ). t ++ back) (sym is) ∙ e)))
first_piece (Start tag) front back rest b ps at (name, inside, gap, hn, hi, hg, is) e less good more =
    less (sym (head_same 0x3C b (name ++ inside ++ gap ++ tag_close tag.empty ++ back) (0x3F ∷ rest) (ap (λ (t : List ℕ). t ++ back) (sym is) ∙ e)))
first_piece (End name) front back rest b ps at (text, gap, hn, hg, is) e less good more =
    less (sym (head_same 0x3C b (codes "/" ++ text ++ gap ++ codes ">" ++ back) (0x3F ∷ rest) (ap (λ (t : List ℕ). t ++ back) (sym is) ∙ e)))
first_piece (Reference c) front back rest b ps at h e less good more = outside_no_reference true false c good
first_piece LineEnd front back rest b ps at (inl is) e less good more =
    let row : 0xD ∷ 0xA ∷ back ≡ b ∷ 0x3F ∷ rest = ap (λ (t : List ℕ). t ++ back) (sym is) ∙ e in
    let x = head_same 0xA 0x3F back rest (tail_same 0xD b (0xA ∷ back) (0x3F ∷ rest) row) in
    omega arith
first_piece LineEnd front back rest b ps at (inr is) e less good more =
    let row : 0xD ∷ back ≡ b ∷ 0x3F ∷ rest = ap (λ (t : List ℕ). t ++ back) (sym is) ∙ e in
    no_question false false at ps back rest (tail_same 0xD b back (0x3F ∷ rest) row) more
first_piece (Character c) front back rest b ps at (char, amp, lt, cr, is) e less good more =
    let row : c ∷ back ≡ b ∷ 0x3F ∷ rest = ap (λ (t : List ℕ). t ++ back) (sym is) ∙ e in
    no_question false false at ps back rest (tail_same c b back (0x3F ∷ rest) row) more

no_start : (at : ℕ) (ps : List Placed) (text rest : List ℕ) (b : ℕ) → text ≡ b ∷ 0x3F ∷ rest → b ≢ 0x3C → Reads start at ps text [] → ⊥
no_start at [] text rest b is less h = let e : [] ≡ b ∷ 0x3F ∷ rest = sym h ∙ is in cc
no_start at (p ∷ ps) text rest b is less (place, front, back, stands, good, more, at') =
    first_piece p.1 front back rest b ps (at + width front) stands.spelled (sym at' ∙ is) less good more

-- ---- characters and bytes

-- a low byte that begins a text is its first character
low_first : (c y : ℕ) (more rest : List ℕ) → encode c ++ more ≡ y ∷ rest → y < 128 → (c ≡ y) × (more ≡ rest)
unfolding encode
low_first c y more rest e low = one (ltb c 128) e
  where
    high : (p : ℕ) (tail : List ℕ) → 128 ≤ p → p ∷ tail ≡ y ∷ rest → (c ≡ y) × (more ≡ rest)
    high p tail big e = let h = head_same p y tail rest e in absurd (omega arith)

    three : (b : Bool) → cond b ((224 + c / 4096) ∷ next (c / 64) ∷ next c ∷ []) ((240 + c / 262144) ∷ next (c / 4096) ∷ next (c / 64) ∷ next c ∷ []) ++ more ≡ y ∷ rest → (c ≡ y) × (more ≡ rest)
    three true e = high (224 + c / 4096) (next (c / 64) ∷ next c ∷ more) (omega arith) e
    three false e = high (240 + c / 262144) (next (c / 4096) ∷ next (c / 64) ∷ next c ∷ more) (omega arith) e

    two : (b : Bool) → cond b ((192 + c / 64) ∷ next c ∷ []) (cond (ltb c 65536) ((224 + c / 4096) ∷ next (c / 64) ∷ next c ∷ []) ((240 + c / 262144) ∷ next (c / 4096) ∷ next (c / 64) ∷ next c ∷ [])) ++ more ≡ y ∷ rest → (c ≡ y) × (more ≡ rest)
    two true e = high (192 + c / 64) (next c ∷ more) (omega arith) e
    two false e = three (ltb c 65536) e

    one : (b : Bool) → cond b (c ∷ []) (cond (ltb c 2048) ((192 + c / 64) ∷ next c ∷ []) (cond (ltb c 65536) ((224 + c / 4096) ∷ next (c / 64) ∷ next c ∷ []) ((240 + c / 262144) ∷ next (c / 4096) ∷ next (c / 64) ∷ next c ∷ []))) ++ more ≡ y ∷ rest → (c ≡ y) × (more ≡ rest)
    one true e = (head_same c y more rest e, tail_same c y more rest e)
    one false e = two (ltb c 2048) e

-- a byte before `?` that begins a text is its first character
question_second : (c y : ℕ) (more rest : List ℕ) → encode c ++ more ≡ y ∷ 0x3F ∷ rest → (c ≡ y) × (more ≡ 0x3F ∷ rest) × (c < 128)
unfolding encode
question_second c y more rest e = one (ltb c 128) refl e
  where
    high : (p k : ℕ) (tail : List ℕ) → p ∷ (128 + k % 64) ∷ tail ≡ y ∷ 0x3F ∷ rest → (c ≡ y) × (more ≡ 0x3F ∷ rest) × (c < 128)
    high p k tail e = let h = head_same (128 + k % 64) 0x3F tail rest (tail_same p y ((128 + k % 64) ∷ tail) (0x3F ∷ rest) e) in absurd (omega arith)

    three : (b : Bool) → cond b ((224 + c / 4096) ∷ next (c / 64) ∷ next c ∷ []) ((240 + c / 262144) ∷ next (c / 4096) ∷ next (c / 64) ∷ next c ∷ []) ++ more ≡ y ∷ 0x3F ∷ rest → (c ≡ y) × (more ≡ 0x3F ∷ rest) × (c < 128)
    three true e = high (224 + c / 4096) (c / 64) (next c ∷ more) e
    three false e = high (240 + c / 262144) (c / 4096) (next (c / 64) ∷ next c ∷ more) e

    two : (b : Bool) → cond b ((192 + c / 64) ∷ next c ∷ []) (cond (ltb c 65536) ((224 + c / 4096) ∷ next (c / 64) ∷ next c ∷ []) ((240 + c / 262144) ∷ next (c / 4096) ∷ next (c / 64) ∷ next c ∷ [])) ++ more ≡ y ∷ 0x3F ∷ rest → (c ≡ y) × (more ≡ 0x3F ∷ rest) × (c < 128)
    two true e = high (192 + c / 64) c more e
    two false e = three (ltb c 65536) e

    one : (b : Bool) → ltb c 128 ≡ b → cond b (c ∷ []) (cond (ltb c 2048) ((192 + c / 64) ∷ next c ∷ []) (cond (ltb c 65536) ((224 + c / 4096) ∷ next (c / 64) ∷ next c ∷ []) ((240 + c / 262144) ∷ next (c / 4096) ∷ next (c / 64) ∷ next c ∷ []))) ++ more ≡ y ∷ 0x3F ∷ rest → (c ≡ y) × (more ≡ 0x3F ∷ rest) × (c < 128)
    one true t e = (head_same c y more (0x3F ∷ rest) e, tail_same c y more (0x3F ∷ rest) e, ltb-true c 128 t)
    one false t e = two (ltb c 2048) e

-- the characters of such a text
question_chars : (cs : List ℕ) (y : ℕ) (rest : List ℕ) → encode_utf8_all cs ≡ y ∷ 0x3F ∷ rest → (more : List ℕ) × (cs ≡ y ∷ 0x3F ∷ more) × (y < 128)
question_chars [] y rest e = absurd cc
question_chars (c ∷ []) y rest e =
    let q = question_second c y [] rest e in
    let bad : [] ≡ 0x3F ∷ rest = q.1 in
    absurd cc
question_chars (c ∷ d ∷ cs) y rest e =
    let q = question_second c y (encode_utf8_all (d ∷ cs)) rest e in
    let r = low_first d 0x3F (encode_utf8_all cs) rest q.1 (omega arith) in
    let qc : c ≡ y = q.0 in
    let low = q.2 in
    (cs, cons_same c y (d ∷ cs) (0x3F ∷ cs) qc (cons_same d 0x3F cs cs r.0 refl), omega arith)

low_mark : (b : ℕ) (cs : List ℕ) → b < 128 → after_mark (b ∷ cs) ≡ b ∷ cs
low_mark b cs low = by (b == 0xFEFF) refl
  where
    by : (t : Bool) → (b == 0xFEFF) ≡ t → cond t cs (b ∷ cs) ≡ b ∷ cs
    by true e = let h = eqb-true b 0xFEFF e in absurd (omega arith)
    by false e = refl

pub gate : (b : ℕ) (rest : List ℕ) (e : Element) (h : List Hint) → IsDocument (b ∷ 0x3F ∷ rest) e h → b ≡ 0x3C
gate b rest e h d = by (b == 0x3C) refl
  where
    by : (t : Bool) → (b == 0x3C) ≡ t → b ≡ 0x3C
    by true is = eqb-true b 0x3C is
    by false is =
        let q = question_chars (chars (b ∷ 0x3F ∷ rest)) b rest (encodes-chars (b ∷ 0x3F ∷ rest) d.utf8) in
        let body : after_mark (chars (b ∷ 0x3F ∷ rest)) ≡ b ∷ 0x3F ∷ q.0 = ap after_mark q.1 ∙ low_mark b (0x3F ∷ q.0) q.2 in
        absurd (no_start (mark_width (chars (b ∷ 0x3F ∷ rest))) d.pieces (after_mark (chars (b ∷ 0x3F ∷ rest))) q.0 b body (eqb-false b 0x3C is) d.read)
