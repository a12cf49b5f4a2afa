-- What is read as a comment, a CDATA section or an instruction is spelled so, and what is spelled so is read.
use Rattle.std.proofs.Common.{◌≡◌, ◌≢◌, ℕ, ◌+◌, ◌<◌, Bool, true, false, cond, eqb, ltb, List, [], ◌∷◌, ◌++◌, map, length, Option, Some, None, refl, sym, ap, subst, ◌∙◌, append_assoc, append-nil, length-append, arith, inl, inr}
use Rattle.std.specs.Prelude.{IsTrue, codes, encode_utf8_all}
use Rattle.std.specs.Char.{to_ascii_lowercase}
use Rattle.std.specs.List.{list_all}
use Rattle.std.specs.Str.{bytes_eq, str_eq_ignore_ascii_case}
use Rattle.std.proofs.lemmas.Bool.{eqb-true, ltb-true, lt-ltb}
use Rattle.std.proofs.lemmas.Bool.Decides.{nat_tests}
use Rattle.std.proofs.lemmas.Str.{encodes-IsAscii, encodes_same}
use Rattle.xmp_values.specs.Characters.{is_char, is_blank, is_name_start, is_name_char}
use Rattle.xml_grammar.specs.Spelling.{Lacks, AreChars, AreBlank, IsGap, IsTarget, IsInstructionText, line_ends}
use Rattle.xml_grammar.proofs.Splits.{both, all_cons, all_append, all_weaker, cons_same, head_same, tail_same, Stops}
use Rattle.xml_grammar.proofs.Parts.{blank_no_qname}
use Rattle.xml_grammar.proofs.ValueParts.{gap_blank}
use Rattle.xml_tokenizer.specs.Names.{name_at}
use Rattle.xml_tokenizer.specs.Runs.{after, is_ascii, up_to, found_or, with_front}
use Rattle.xml_tokenizer.specs.Sections.{comment_at, cdata_at, starts_blank, body_at, instruction_at}
use Rattle.xml_tokenizer.specs.Steps.{◌>>=◌}
use Rattle.xml_tokenizer.proofs.NameLaws.{name_takes, name_again}
use Rattle.xml_tokenizer.proofs.Steps.{or_false, bind_some, some_is, passed, not_stopped}
use Rattle.xml_tokenizer.proofs.Words.{and_parts, word_bytes, after_takes, after_again}

-- ---- text up to a word

-- The word is a front and a rest; the text before the word lacks the word, also if the front follows it.
pub record TakesUpTo (word front : List ℕ) (cs : List ℕ) (x : List ℕ × List ℕ) : Type 0 where
  pub chars : AreChars x.0
  pub parts : cs ≡ x.0 ++ (word ++ x.1)
  pub lacks : Lacks word (x.0 ++ front)

lacks_short : (word text : List ℕ) → length text < length word → Lacks word text
lacks_short word text short before later e = omega (arith, ap length e, length-append (before ++ word) later, length-append before word)

lacks_more : (word text rest : List ℕ) (c : ℕ) → after word (c ∷ (text ++ rest)) ≡ None → Lacks word text → Lacks word (c ∷ text)
lacks_more word text rest c none lacks [] later e =
    let at : c ∷ (text ++ rest) ≡ word ++ (later ++ rest) = ap (λ (t : List ℕ). t ++ rest) e ∙ append_assoc word later rest in
    let found : after word (c ∷ (text ++ rest)) ≡ Some (later ++ rest) = ap (after word) at ∙ after_again word (later ++ rest) in
    absurd cc
lacks_more word text rest c none lacks (b ∷ before) later e = lacks before later (tail_same c b text (before ++ word ++ later) e)

found_takes : (word front back : List ℕ) (c : ℕ) (cs : List ℕ) (x : List ℕ × List ℕ) (o : Option (List ℕ)) → word ≡ front ++ back → length front < length word → after word (c ∷ cs) ≡ o
    → found_or c o (up_to word cs) ≡ Some x → ((y : List ℕ × List ℕ) → up_to word cs ≡ Some y → TakesUpTo word front cs y) → TakesUpTo word front (c ∷ cs) x
found_takes word front back c cs x (Some rest) is short found e ih =
    subst (TakesUpTo word front (c ∷ cs)) (some_is ([], rest) x e) (record { chars = refl; parts = after_takes word (c ∷ cs) rest found; lacks = lacks_short word front short })
found_takes word front back c cs x None is short found e ih =
    let g = passed (is_char c) (with_front (c ∷ []) (up_to word cs)) x e in
    let a = bind_some (up_to word cs) (λ y. Some (c ∷ y.0, y.1)) x g.1 in
    let t = ih a.0 a.1 in
    let inside : List ℕ = a.0.0 ++ front in
    let at : cs ≡ inside ++ (back ++ a.0.1) = t.parts ∙ ap (λ (w : List ℕ). a.0.0 ++ (w ++ a.0.1)) is ∙ regroup a.0.0 front back a.0.1 in
    let none : after word (c ∷ (inside ++ (back ++ a.0.1))) ≡ None = ap (λ (s : List ℕ). after word (c ∷ s)) (sym at) ∙ found in
    subst (TakesUpTo word front (c ∷ cs)) (some_is (c ∷ a.0.0, a.0.1) x a.2)
    (record { chars = all_cons is_char c a.0.0 g.0 t.chars; parts = ap (λ (s : List ℕ). c ∷ s) t.parts; lacks = lacks_more word inside (back ++ a.0.1) c none t.lacks })
  where
    regroup : (a b c d : List ℕ) → a ++ ((b ++ c) ++ d) ≡ (a ++ b) ++ (c ++ d)
    regroup a b c d = simp append_assoc

pub up_to_takes : (word front back : List ℕ) → word ≡ front ++ back → length front < length word → (cs : List ℕ) (x : List ℕ × List ℕ) → up_to word cs ≡ Some x → TakesUpTo word front cs x
up_to_takes word front back is short [] x e = absurd cc
up_to_takes word front back is short (c ∷ cs) x e = found_takes word front back c cs x (after word (c ∷ cs)) is short refl e (λ y h. up_to_takes word front back is short cs y h)

-- no word begins before the end of what is inside
abbrev pub Ends : List ℕ → List ℕ → List ℕ → Type 0
Ends word inside rest = (a more y : List ℕ) → inside ≡ a ++ more → word ++ y ≡ more ++ (word ++ rest) → more ≡ []

pub up_to_again : (w : ℕ) (ws inside rest : List ℕ) → Ends (w ∷ ws) inside rest → (more a : List ℕ) → inside ≡ a ++ more → AreChars more → up_to (w ∷ ws) (more ++ ((w ∷ ws) ++ rest)) ≡ Some (more, rest)
up_to_again w ws inside rest ends [] a is chars = ap (λ (o : Option (List ℕ)). found_or w o (up_to (w ∷ ws) (ws ++ rest))) (after_again (w ∷ ws) rest)
up_to_again w ws inside rest ends (c ∷ more) a is chars =
    let k = both (is_char c) (list_all is_char more) chars in
    let ih = up_to_again w ws inside rest ends more (a ++ c ∷ []) (is ∙ sym (append_assoc a (c ∷ []) more)) k.1 in
    by_found (after (w ∷ ws) (c ∷ (more ++ ((w ∷ ws) ++ rest)))) refl k.0 ih
  where
    by_found : (o : Option (List ℕ)) → after (w ∷ ws) (c ∷ (more ++ ((w ∷ ws) ++ rest))) ≡ o → is_char c ≡ true → up_to (w ∷ ws) (more ++ ((w ∷ ws) ++ rest)) ≡ Some (more, rest)
        → found_or c o (up_to (w ∷ ws) (more ++ ((w ∷ ws) ++ rest))) ≡ Some (c ∷ more, rest)
    by_found (Some y) found char ih =
        let none : c ∷ more ≡ [] = ends a (c ∷ more) y is (sym (after_takes (w ∷ ws) (c ∷ (more ++ ((w ∷ ws) ++ rest))) y found)) in
        absurd cc
    by_found None found char ih = rw (char, ih) refl

two_ends : (m n : ℕ) (inside rest : List ℕ) → m ≢ n → Lacks (m ∷ n ∷ []) inside → Ends (m ∷ n ∷ []) inside rest
two_ends m n inside rest ne lacks a [] y is e = refl
two_ends m n inside rest ne lacks a (x ∷ []) y is e = absurd (ne (sym (head_same n m y (n ∷ rest) (tail_same m x (n ∷ y) (m ∷ n ∷ rest) e))))
two_ends m n inside rest ne lacks a (x ∷ z ∷ more) y is e =
    let later : List ℕ = more ++ (m ∷ n ∷ rest) in
    let t : n ∷ y ≡ z ∷ later = tail_same m x (n ∷ y) (z ∷ later) e in
    let hx : m ≡ x = head_same m x (n ∷ y) (z ∷ later) e in
    let hz : n ≡ z = head_same n z y later t in
    absurd (lacks a more (is ∙ ap (λ (t : List ℕ). a ++ t) (cons_same x m (z ∷ more) (n ∷ more) (sym hx) (cons_same z n more more (sym hz) refl)) ∙ sym (append_assoc a (m ∷ n ∷ []) more)))

three_ends : (m n : ℕ) (inside rest : List ℕ) → m ≢ n → Lacks (m ∷ m ∷ n ∷ []) inside → Ends (m ∷ m ∷ n ∷ []) inside rest
three_ends m n inside rest ne lacks a [] y is e = refl
three_ends m n inside rest ne lacks a (x ∷ []) y is e = absurd (ne (sym (head_same n m y (n ∷ rest) (tail_same m m (n ∷ y) (m ∷ n ∷ rest) (tail_same m x (m ∷ n ∷ y) (m ∷ m ∷ n ∷ rest) e)))))
three_ends m n inside rest ne lacks a (x ∷ z ∷ []) y is e = absurd (ne (sym (head_same n m y (m ∷ n ∷ rest) (tail_same m z (n ∷ y) (m ∷ m ∷ n ∷ rest) (tail_same m x (m ∷ n ∷ y) (z ∷ m ∷ m ∷ n ∷ rest) e)))))
three_ends m n inside rest ne lacks a (x ∷ z ∷ v ∷ more) y is e =
    let later : List ℕ = more ++ (m ∷ m ∷ n ∷ rest) in
    let t : m ∷ n ∷ y ≡ z ∷ v ∷ later = tail_same m x (m ∷ n ∷ y) (z ∷ v ∷ later) e in
    let u : n ∷ y ≡ v ∷ later = tail_same m z (n ∷ y) (v ∷ later) t in
    let hx : m ≡ x = head_same m x (m ∷ n ∷ y) (z ∷ v ∷ later) e in
    let hz : m ≡ z = head_same m z (n ∷ y) (v ∷ later) t in
    let hv : n ≡ v = head_same n v y later u in
    absurd (lacks a more (is ∙ ap (λ (t : List ℕ). a ++ t) (cons_same x m (z ∷ v ∷ more) (m ∷ n ∷ more) (sym hx) (cons_same z m (v ∷ more) (n ∷ more) (sym hz) (cons_same v n more more (sym hv) refl))) ∙ sym (append_assoc a (m ∷ m ∷ n ∷ []) more)))

twin_ends : (m : ℕ) (inside rest : List ℕ) → Lacks (m ∷ m ∷ []) (inside ++ m ∷ []) → Ends (m ∷ m ∷ []) inside rest
twin_ends m inside rest lacks a [] y is e = refl
twin_ends m inside rest lacks a (x ∷ []) y is e =
    let hx : m ≡ x = head_same m x (m ∷ y) (m ∷ m ∷ rest) e in
    absurd (lacks a [] (ap (λ (t : List ℕ). t ++ m ∷ []) is ∙ append_assoc a (x ∷ []) (m ∷ []) ∙ ap (λ (t : List ℕ). a ++ t) (cons_same x m (m ∷ []) (m ∷ []) (sym hx) refl) ∙ sym (append-nil (a ++ m ∷ m ∷ []))))
twin_ends m inside rest lacks a (x ∷ z ∷ more) y is e =
    let later : List ℕ = more ++ (m ∷ m ∷ rest) in
    let t : m ∷ y ≡ z ∷ later = tail_same m x (m ∷ y) (z ∷ later) e in
    let hx : m ≡ x = head_same m x (m ∷ y) (z ∷ later) e in
    let hz : m ≡ z = head_same m z y later t in
    absurd (lacks a (more ++ m ∷ []) (ap (λ (t : List ℕ). t ++ m ∷ []) is ∙ append_assoc a (x ∷ z ∷ more) (m ∷ [])
    ∙ ap (λ (t : List ℕ). a ++ t) (cons_same x m (z ∷ (more ++ m ∷ [])) (m ∷ (more ++ m ∷ [])) (sym hx) (cons_same z m (more ++ m ∷ []) (more ++ m ∷ []) (sym hz) refl)) ∙ sym (append_assoc a (m ∷ m ∷ []) (more ++ m ∷ []))))

-- ---- comments

abbrev pub TakesComment : List ℕ → List ℕ → Type 0
TakesComment cs rest = (inside : List ℕ) × AreChars inside × Lacks (codes "--") (inside ++ codes "-") × (cs ≡ inside ++ (codes "-->" ++ rest))

pub comment_takes : (cs rest : List ℕ) → comment_at cs ≡ Some rest → TakesComment cs rest
unfolding comment_at
comment_takes cs rest e =
    let a = bind_some (up_to (codes "--") cs) (λ x. after (codes ">") x.1) rest e in
    let t = up_to_takes (codes "--") (codes "-") (codes "-") refl (omega arith) cs a.0 a.1 in
    (a.0.0, t.chars, t.lacks, t.parts ∙ ap (λ (s : List ℕ). a.0.0 ++ (codes "--" ++ s)) (after_takes (codes ">") a.0.1 rest a.2))

pub comment_again : (inside rest : List ℕ) → AreChars inside → Lacks (codes "--") (inside ++ codes "-") → comment_at (inside ++ (codes "-->" ++ rest)) ≡ Some rest
unfolding comment_at
comment_again inside rest chars lacks =
    let k = up_to_again 0x2D (0x2D ∷ []) inside (0x3E ∷ rest) (twin_ends 0x2D inside (0x3E ∷ rest) lacks) inside [] refl chars in
    rw k refl

-- ---- CDATA sections

abbrev pub TakesCdata : List ℕ → List ℕ × List ℕ → Type 0
TakesCdata cs x = (inside : List ℕ) × AreChars inside × Lacks (codes "]]>") inside × (x.0 ≡ encode_utf8_all (line_ends inside)) × (cs ≡ inside ++ (codes "]]>" ++ x.1))

pub cdata_takes : (cs : List ℕ) (x : List ℕ × List ℕ) → cdata_at cs ≡ Some x → TakesCdata cs x
unfolding cdata_at
cdata_takes cs x e =
    let a = bind_some (up_to (codes "]]>") cs) (λ y. Some (encode_utf8_all (line_ends y.0), y.1)) x e in
    let t = up_to_takes (codes "]]>") [] (codes "]]>") refl (omega arith) cs a.0 a.1 in
    subst (TakesCdata cs) (some_is (encode_utf8_all (line_ends a.0.0), a.0.1) x a.2) (a.0.0, t.chars, subst (Lacks (codes "]]>")) (append-nil a.0.0) t.lacks, refl, t.parts)

pub cdata_again : (inside rest : List ℕ) → AreChars inside → Lacks (codes "]]>") inside → cdata_at (inside ++ (codes "]]>" ++ rest)) ≡ Some (encode_utf8_all (line_ends inside), rest)
unfolding cdata_at
cdata_again inside rest chars lacks =
    let k = up_to_again 0x5D (0x5D ∷ 0x3E ∷ []) inside rest (three_ends 0x5D 0x3E inside rest (λ q. omega arith) lacks) inside [] refl chars in
    rw k refl

-- ---- `xml` in any case, of characters or of their bytes

low_lower : (b w : ℕ) → eqb (to_ascii_lowercase b) w ≡ true → w < 128 → b < 128
low_lower b w e lt = let k : to_ascii_lowercase b ≡ w = eqb-true (to_ascii_lowercase b) w e in by_size (ltb b 65) (ltb b 91) (ltb b 123) refl refl k
  where
    by_size : (u v z : Bool) → ltb b 65 ≡ u → ltb b 91 ≡ v → cond u b (cond v (b + 32) b) ≡ w → b < 128
    by_size true v z f g h = let m = ltb-true b 65 f in omega arith
    by_size false true z f g h = let m = ltb-true b 91 g in omega arith
    by_size false false z f g h = omega arith

spelled_low : (bs ws : List ℕ) → is_ascii ws ≡ true → bytes_eq (map to_ascii_lowercase bs) ws ≡ true → is_ascii bs ≡ true
spelled_low [] ws a e = refl
spelled_low (b ∷ bs) [] a e = absurd cc
spelled_low (b ∷ bs) (w ∷ ws) a e =
    let k = and_parts (ltb w 128) (is_ascii ws) a in
    let h = and_parts (eqb (to_ascii_lowercase b) w) (bytes_eq (map to_ascii_lowercase bs) ws) e in
    let low : ltb b 128 ≡ true = lt-ltb b 128 (low_lower b w h.0 (ltb-true w 128 k.0)) in
    rw low (spelled_low bs ws k.1 h.1)

pub xml_test : (cs : List ℕ) → str_eq_ignore_ascii_case (encode_utf8_all cs) (codes "xml") ≡ str_eq_ignore_ascii_case cs (codes "xml")
xml_test cs = by_both (str_eq_ignore_ascii_case (encode_utf8_all cs) (codes "xml")) (str_eq_ignore_ascii_case cs (codes "xml")) refl refl
  where
    by_both : (v w : Bool) → str_eq_ignore_ascii_case (encode_utf8_all cs) (codes "xml") ≡ v → str_eq_ignore_ascii_case cs (codes "xml") ≡ w → v ≡ w
    by_both true true e f = refl
    by_both false false e f = refl
    by_both true false e f =
        let twice : encode_utf8_all (encode_utf8_all cs) ≡ encode_utf8_all cs = encodes-IsAscii (encode_utf8_all cs) (word_bytes (encode_utf8_all cs) (spelled_low (encode_utf8_all cs) (codes "xml") refl e)) in
        let same : encode_utf8_all cs ≡ cs = encodes_same (encode_utf8_all cs) cs twice in
        sym e ∙ ap (λ (t : List ℕ). str_eq_ignore_ascii_case t (codes "xml")) same ∙ f
    by_both false true e f =
        let same : encode_utf8_all cs ≡ cs = encodes-IsAscii cs (word_bytes cs (spelled_low cs (codes "xml") refl f)) in
        sym e ∙ ap (λ (t : List ℕ). str_eq_ignore_ascii_case t (codes "xml")) same ∙ f

-- ---- instructions

blank_char : (c : ℕ) → IsTrue (is_blank c) → IsTrue (is_char c)
unfolding is_blank is_char
blank_char c h = grind (arith, nat_tests)

question_blank : is_blank 0x3F ≡ false
unfolding is_blank
question_blank = refl

question_name : is_name_char 0x3F ≡ false
unfolding is_name_char is_name_start
question_name = refl

abbrev pub TakesBody : List ℕ → List ℕ → Type 0
TakesBody cs rest = (inside : List ℕ) × IsInstructionText inside × (cs ≡ inside ++ (codes "?>" ++ rest))

lacks_tail : (c : ℕ) (cs : List ℕ) → Lacks (codes "?>") (c ∷ cs) → Lacks (codes "?>") cs
lacks_tail c cs h before later e = h (c ∷ before) later (ap (λ (t : List ℕ). c ∷ t) e)

-- a body that white space begins is one blank and the rest
body_parts : (inside cs rest : List ℕ) → cs ≡ inside ++ (codes "?>" ++ rest) → starts_blank cs ≡ true → AreChars inside → Lacks (codes "?>") inside → IsInstructionText inside
body_parts [] cs rest at s chars lacks = let bad : is_blank 0x3F ≡ true = ap starts_blank (sym at) ∙ s in let no = question_blank in absurd cc
body_parts (c ∷ inside) cs rest at s chars lacks =
    let blank : is_blank c ≡ true = ap starts_blank (sym at) ∙ s in
    let k = both (is_char c) (list_all is_char inside) chars in
    inr (c ∷ [], inside, all_cons is_blank c [] blank refl, k.1, lacks_tail c inside lacks, refl)

body_takes : (cs rest : List ℕ) (o : Option (List ℕ)) → after (codes "?>") cs ≡ o → body_at cs o ≡ Some rest → TakesBody cs rest
body_takes cs rest (Some later) found e = ([], inl refl, subst (λ (t : List ℕ). cs ≡ codes "?>" ++ t) (some_is later rest e) (after_takes (codes "?>") cs later found))
body_takes cs rest None found e =
    let g = passed (starts_blank cs) (up_to (codes "?>") cs >>= λ x. Some x.1) rest e in
    let a = bind_some (up_to (codes "?>") cs) (λ x. Some x.1) rest g.1 in
    let t = up_to_takes (codes "?>") [] (codes "?>") refl (omega arith) cs a.0 a.1 in
    let lacks : Lacks (codes "?>") a.0.0 = subst (Lacks (codes "?>")) (append-nil a.0.0) t.lacks in
    (a.0.0, body_parts a.0.0 cs a.0.1 t.parts g.0 t.chars lacks, t.parts ∙ ap (λ (s : List ℕ). a.0.0 ++ (codes "?>" ++ s)) (some_is a.0.1 rest a.2))

abbrev pub TakesInstruction : List ℕ → List ℕ → Type 0
TakesInstruction cs rest = (target : List ℕ) × (inside : List ℕ) × IsTarget target × IsInstructionText inside × (cs ≡ target ++ (inside ++ (codes "?>" ++ rest)))

pub instruction_takes : (cs rest : List ℕ) → instruction_at cs ≡ Some rest → TakesInstruction cs rest
unfolding instruction_at
instruction_takes cs rest e =
    let a = bind_some (name_at cs) (λ x. cond (str_eq_ignore_ascii_case x.0 (codes "xml")) None (body_at x.1 (after (codes "?>") x.1))) rest e in
    let n = name_takes cs a.0 a.1 in
    let g = not_stopped (str_eq_ignore_ascii_case a.0.0 (codes "xml")) (body_at a.0.1 (after (codes "?>") a.0.1)) rest a.2 in
    let b = body_takes a.0.1 rest (after (codes "?>") a.0.1) refl g.1 in
    let other : str_eq_ignore_ascii_case n.0 (codes "xml") ≡ false = sym (xml_test n.0) ∙ ap (λ (t : List ℕ). str_eq_ignore_ascii_case t (codes "xml")) (sym n.1.1) ∙ g.0 in
    (n.0, b.0, (n.1.0, other), b.1, n.2 ∙ ap (λ (t : List ℕ). n.0 ++ t) b.2)

gap_no_question : (gap rest : List ℕ) → IsGap gap → (after (codes "?>") (gap ++ rest) ≡ None) × (starts_blank (gap ++ rest) ≡ true) × Stops is_name_char (gap ++ rest)
gap_no_question [] rest h = absurd h
gap_no_question (c ∷ gap) rest h =
    let k = both (is_blank c) (list_all is_blank gap) h in
    let apart_ : eqb c 0x3F ≡ false = by_test (eqb c 0x3F) refl k.0 in
    (rw apart_ refl, k.0, name_stops k.0)
  where
    by_test : (v : Bool) → eqb c 0x3F ≡ v → is_blank c ≡ true → v ≡ false
    by_test true e blank = let bad : is_blank 0x3F ≡ true = ap is_blank (sym (eqb-true c 0x3F e)) ∙ blank in let no = question_blank in absurd cc
    by_test false e blank = refl

    name_stops : is_blank c ≡ true → is_name_char c ≡ false
    name_stops blank = (or_false (is_name_char c) (eqb c 0x3A) (blank_no_qname c blank)).0

lacks_gap : (gap body : List ℕ) → AreBlank gap → Lacks (codes "?>") body → Lacks (codes "?>") (gap ++ body)
lacks_gap [] body h lacks = lacks
lacks_gap (c ∷ gap) body h lacks = by_before (lacks_gap gap body (both (is_blank c) (list_all is_blank gap) h).1 lacks)
  where
    by_before : Lacks (codes "?>") (gap ++ body) → Lacks (codes "?>") (c ∷ (gap ++ body))
    by_before ih [] later e =
        let at : c ≡ 0x3F = head_same c 0x3F (gap ++ body) (0x3E ∷ later) e in
        let bad : is_blank 0x3F ≡ true = ap is_blank (sym at) ∙ (both (is_blank c) (list_all is_blank gap) h).0 in
        let no = question_blank in
        absurd cc
    by_before ih (b ∷ before) later e = ih before later (tail_same c b (gap ++ body) (before ++ codes "?>" ++ later) e)

body_again : (inside rest : List ℕ) → IsInstructionText inside → body_at (inside ++ (codes "?>" ++ rest)) (after (codes "?>") (inside ++ (codes "?>" ++ rest))) ≡ Some rest
body_again inside rest (inl none) = ap (λ (t : List ℕ). body_at (t ++ (codes "?>" ++ rest)) (after (codes "?>") (t ++ (codes "?>" ++ rest)))) none
body_again inside rest (inr (gap, body, hg, chars, lacks, at)) =
    let tail : List ℕ = codes "?>" ++ rest in
    let split : inside ++ tail ≡ gap ++ (body ++ tail) = ap (λ (t : List ℕ). t ++ tail) at ∙ append_assoc gap body tail in
    let none = gap_no_question gap (body ++ tail) hg in
    let all : AreChars inside = subst AreChars (sym at) (all_append is_char gap body (all_weaker is_blank is_char blank_char gap (gap_blank gap hg)) chars) in
    let k = up_to_again 0x3F (0x3E ∷ []) inside rest (two_ends 0x3F 0x3E inside rest (λ q. omega arith) (subst (Lacks (codes "?>")) (sym at) (lacks_gap gap body (gap_blank gap hg) lacks))) inside [] refl all in
    rw (ap (after (codes "?>")) split ∙ none.0, ap starts_blank split ∙ none.1, k) refl

pub instruction_again : (target inside rest : List ℕ) → IsTarget target → IsInstructionText inside → instruction_at (target ++ (inside ++ (codes "?>" ++ rest))) ≡ Some rest
unfolding instruction_at
instruction_again target inside rest (named, other) h =
    let n = name_again target (inside ++ (codes "?>" ++ rest)) named (inside_stops inside h) in
    rw (n, xml_test target, other) (body_again inside rest h)
  where
    inside_stops : (inside : List ℕ) → IsInstructionText inside → Stops is_name_char (inside ++ (codes "?>" ++ rest))
    inside_stops inside (inl none) = subst (λ (t : List ℕ). Stops is_name_char (t ++ (codes "?>" ++ rest))) (sym none) question_name
    inside_stops inside (inr (gap, body, hg, chars, lacks, at)) =
        subst (Stops is_name_char) (sym (ap (λ (t : List ℕ). t ++ (codes "?>" ++ rest)) at ∙ append_assoc gap body (codes "?>" ++ rest))) (gap_no_question gap (body ++ (codes "?>" ++ rest)) hg).2
