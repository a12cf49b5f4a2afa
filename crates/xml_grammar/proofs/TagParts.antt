-- At one place at most one tag is spelled.
use Rattle.std.proofs.Common.{◌≡◌, ℕ, Bool, true, false, List, [], ◌∷◌, ◌++◌, refl, sym, ap, subst, ◌∙◌, append_assoc, arith}
use Rattle.std.specs.Prelude.{IsFalse, codes}
use Rattle.std.proofs.lemmas.List.{append_cancel_left}
use Rattle.xmp_values.specs.Characters.{is_blank, is_name_start, is_name_char}
use Rattle.xml_grammar.specs.declared.tags.QName.{QName}
use Rattle.xml_grammar.specs.declared.tags.RawAttribute.{RawAttribute}
use Rattle.xml_grammar.specs.declared.tags.Tag.{Tag}
use Rattle.xml_grammar.specs.Spelling.{AreBlank, IsGap, IsEquals, SpellsQName, SpellsAttribute, SpellsAttributes}
use Rattle.xml_grammar.specs.Pieces.{tag_close}
use Rattle.xml_grammar.proofs.Splits.{all_head, head_same, tail_same, not_both, Stops, run_same}
use Rattle.xml_grammar.proofs.Parts.{is_qname_char, blank_no_qname, start_no_blank, Starts, qname_starts, qname_row}
use Rattle.xml_grammar.proofs.ValueParts.{gap_blank, equals_row, value_row, value_stops}

-- ---- attributes

blank_stops : (gap rest : List ℕ) → AreBlank gap → Stops is_qname_char rest → Stops is_qname_char (gap ++ rest)
blank_stops [] rest h s = s
blank_stops (c ∷ cs) rest h s = blank_no_qname c (all_head is_blank c cs h)

equals_stops : (a rest : List ℕ) → IsEquals a → Stops is_qname_char (a ++ rest)
unfolding is_name_char is_name_start
equals_stops a rest (before, after, ba, bb, is) =
    let e : before ++ codes "=" ++ after ++ rest ≡ before ++ (codes "=" ++ (after ++ rest)) = append_assoc (before ++ codes "=") after rest ∙ append_assoc before (codes "=") (after ++ rest) in
    subst (λ (t : List ℕ). Stops is_qname_char t) (sym e ∙ ap (λ (t : List ℕ). t ++ rest) (sym is)) (blank_stops before (codes "=" ++ (after ++ rest)) ba refl)

attribute_row : (x y : RawAttribute) (a b c d : List ℕ) → SpellsAttribute x a → SpellsAttribute y b → a ++ c ≡ b ++ d → (x ≡ y) × (a ≡ b) × (c ≡ d)
attribute_row x y a b c d (name, equals, value, hn, he, hv, at) (name', equals', value', hn', he', hv', at') e =
    let shape : (n q v z : List ℕ) → n ++ q ++ v ++ z ≡ n ++ (q ++ (v ++ z)) = λ n q v z. append_assoc (n ++ q) v z ∙ append_assoc n q (v ++ z) in
    let row : name ++ (equals ++ (value ++ c)) ≡ name' ++ (equals' ++ (value' ++ d)) =
    sym (shape name equals value c) ∙ ap (λ (t : List ℕ). t ++ c) (sym at) ∙ e ∙ ap (λ (t : List ℕ). t ++ d) at' ∙ shape name' equals' value' d in
    let n = qname_row x.name y.name name name' (equals ++ (value ++ c)) (equals' ++ (value' ++ d)) hn hn' (equals_stops equals (value ++ c) he) (equals_stops equals' (value' ++ d) he') row in
    let q = equals_row equals equals' (value ++ c) (value' ++ d) he he' (value_stops x.value value c hv) (value_stops y.value value' d hv') n.2 in
    let v = value_row x.value y.value value value' c d hv hv' q.1 in
    let n1 : name ≡ name' = n.1 in
    let q0 : equals ≡ equals' = q.0 in
    let v1 : value ≡ value' = v.1 in
    let same : name ++ equals ++ value ≡ name' ++ equals' ++ value' = cc in
    (λ i. record { name = n.0 i; value = v.0 i }, at ∙ same ∙ sym at', v.2)

attribute_starts : (x : RawAttribute) (a : List ℕ) → SpellsAttribute x a → Starts a
attribute_starts x a (name, equals, value, hn, he, hv, at) =
    let s = qname_starts x.name name hn in
    (s.0, s.1 ++ equals ++ value, s.2, at ∙ ap (λ (t : List ℕ). t ++ equals ++ value) s.3)

-- white space and then what begins no attribute
abbrev pub EndsTag : List ℕ → Type 0
EndsTag text = (gap : List ℕ) × (z : ℕ) × (rest : List ℕ) × AreBlank gap × IsFalse (is_blank z) × IsFalse (is_name_start z) × (text ≡ gap ++ z ∷ rest)

-- an attribute can't stand where a tag ends
no_attribute : (x : RawAttribute) (gap front more c : List ℕ) → IsGap gap → SpellsAttribute x front → EndsTag c → c ≡ gap ++ (front ++ more) → ⊥
no_attribute x gap front more c hg hf (gap', z, rest, blank, not_blank, not_start, at) e =
    let s = attribute_starts x front hf in
    let begins : front ++ more ≡ s.0 ∷ (s.1 ++ more) = ap (λ (t : List ℕ). t ++ more) s.3 in
    let r = run_same is_blank gap' gap (z ∷ rest) (s.0 ∷ (s.1 ++ more)) blank (gap_blank gap hg) not_blank (start_no_blank s.0 s.2) (sym at ∙ e ∙ ap (λ (t : List ℕ). gap ++ t) begins) in
    not_both (is_name_start z) (ap is_name_start (head_same z s.0 rest (s.1 ++ more) r.1) ∙ s.2) not_start

pub attributes_row : (xs ys : List RawAttribute) (a b c d : List ℕ) → SpellsAttributes xs a → SpellsAttributes ys b → EndsTag c → EndsTag d → a ++ c ≡ b ++ d → (xs ≡ ys) × (a ≡ b) × (c ≡ d)
attributes_row [] [] a b c d ha hb ec ed e =
    (refl, ha ∙ sym hb, ap (λ (t : List ℕ). t ++ c) (sym ha) ∙ e ∙ ap (λ (t : List ℕ). t ++ d) hb)
attributes_row [] (y ∷ ys) a b c d ha (gap, front, back, hg, hf, hb, at) ec ed e =
    absurd (no_attribute y gap front (back ++ d) c hg hf ec
    (ap (λ (t : List ℕ). t ++ c) (sym ha) ∙ e ∙ ap (λ (t : List ℕ). t ++ d) at ∙ append_assoc (gap ++ front) back d ∙ append_assoc gap front (back ++ d)))
attributes_row (x ∷ xs) [] a b c d (gap, front, back, hg, hf, hb, at) ha ec ed e =
    absurd (no_attribute x gap front (back ++ c) d hg hf ed
    (ap (λ (t : List ℕ). t ++ d) (sym ha) ∙ sym e ∙ ap (λ (t : List ℕ). t ++ c) at ∙ append_assoc (gap ++ front) back c ∙ append_assoc gap front (back ++ c)))
attributes_row (x ∷ xs) (y ∷ ys) a b c d (gap, front, back, hg, hf, hb, at) (gap', front', back', hg', hf', hb', at') ec ed e =
    let shape : (n q v z : List ℕ) → n ++ q ++ v ++ z ≡ n ++ (q ++ (v ++ z)) = λ n q v z. append_assoc (n ++ q) v z ∙ append_assoc n q (v ++ z) in
    let row : gap ++ (front ++ (back ++ c)) ≡ gap' ++ (front' ++ (back' ++ d)) =
    sym (shape gap front back c) ∙ ap (λ (t : List ℕ). t ++ c) (sym at) ∙ e ∙ ap (λ (t : List ℕ). t ++ d) at' ∙ shape gap' front' back' d in
    let g = run_same is_blank gap gap' (front ++ (back ++ c)) (front' ++ (back' ++ d)) (gap_blank gap hg) (gap_blank gap' hg') (starts_stop x front (back ++ c) hf) (starts_stop y front' (back' ++ d) hf') row in
    let f = attribute_row x y front front' (back ++ c) (back' ++ d) hf hf' g.1 in
    let m = attributes_row xs ys back back' c d hb hb' ec ed f.2 in
    let g0 : gap ≡ gap' = g.0 in
    let f1 : front ≡ front' = f.1 in
    let m1 : back ≡ back' = m.1 in
    let f0 : x ≡ y = f.0 in
    let m0 : xs ≡ ys = m.0 in
    let same : gap ++ front ++ back ≡ gap' ++ front' ++ back' = cc in
    let all : x ∷ xs ≡ y ∷ ys = cc in
    (all, at ∙ same ∙ sym at', m.2)
  where
    starts_stop : (x : RawAttribute) (front rest : List ℕ) → SpellsAttribute x front → Stops is_blank (front ++ rest)
    starts_stop x front rest h =
        let s = attribute_starts x front h in
        subst (λ (t : List ℕ). Stops is_blank (t ++ rest)) (sym s.3) (start_no_blank s.0 s.2)

-- ---- tags

close_begins : (empty : Bool) (rest : List ℕ) → (z : ℕ) × (more : List ℕ) × (tag_close empty ++ rest ≡ z ∷ more) × IsFalse (is_blank z) × IsFalse (is_name_start z) × IsFalse (is_qname_char z)
unfolding is_blank is_name_start is_name_char
close_begins true rest = (0x2F, 0x3E ∷ rest, refl, refl, refl, refl)
close_begins false rest = (0x3E, rest, refl, refl, refl, refl)

close_ends : (gap : List ℕ) (empty : Bool) (rest : List ℕ) → AreBlank gap → EndsTag (gap ++ (tag_close empty ++ rest))
close_ends gap empty rest blank = let z = close_begins empty rest in (gap, z.0, z.1, blank, z.3, z.4, ap (λ (t : List ℕ). gap ++ t) z.2)

close_stops_blank : (empty : Bool) (rest : List ℕ) → Stops is_blank (tag_close empty ++ rest)
close_stops_blank empty rest = let z = close_begins empty rest in subst (λ (t : List ℕ). Stops is_blank t) (sym z.2) z.3

close_stops : (empty : Bool) (rest : List ℕ) → Stops is_qname_char (tag_close empty ++ rest)
close_stops empty rest = let z = close_begins empty rest in subst (λ (t : List ℕ). Stops is_qname_char t) (sym z.2) z.5

close_row : (p q : Bool) (c d : List ℕ) → tag_close p ++ c ≡ tag_close q ++ d → (p ≡ q) × (c ≡ d)
close_row true true c d e = (refl, append_cancel_left (codes "/>") c d e)
close_row false false c d e = (refl, append_cancel_left (codes ">") c d e)
close_row true false c d e = let h = head_same 0x2F 0x3E (0x3E ∷ c) d e in absurd (omega arith)
close_row false true c d e = let h = head_same 0x3E 0x2F c (0x3E ∷ d) e in absurd (omega arith)

-- what stands after a tag's name
inside_stops : (xs : List RawAttribute) (inside rest : List ℕ) → SpellsAttributes xs inside → Stops is_qname_char rest → Stops is_qname_char (inside ++ rest)
inside_stops [] inside rest h s = subst (λ (t : List ℕ). Stops is_qname_char (t ++ rest)) (sym h) s
inside_stops (x ∷ xs) inside rest (gap, front, back, hg, hf, hb, at) s = subst (λ (t : List ℕ). Stops is_qname_char (t ++ rest)) (sym at) (gap_stops gap hg)
  where
    gap_stops : (gap : List ℕ) → IsGap gap → Stops is_qname_char (gap ++ front ++ back ++ rest)
    gap_stops [] h = absurd h
    gap_stops (c ∷ cs) h = blank_no_qname c (all_head is_blank c cs h)

-- a start tag or an empty one, after `<`
abbrev pub TagText : Tag → List ℕ → Type 0
TagText tag text =
    (name : List ℕ) × (inside : List ℕ) × (gap : List ℕ) × SpellsQName tag.name name × SpellsAttributes tag.attributes inside × AreBlank gap
    × (text ≡ codes "<" ++ name ++ inside ++ gap ++ tag_close tag.empty)

pub tag_row : (x y : Tag) (a b c d : List ℕ) → TagText x a → TagText y b → a ++ c ≡ b ++ d → (x ≡ y) × (a ≡ b) × (c ≡ d)
tag_row x y a b c d (name, inside, gap, hn, hi, hg, at) (name', inside', gap', hn', hi', hg', at') e =
    let shape : (n i g z r : List ℕ) → codes "<" ++ n ++ i ++ g ++ z ++ r ≡ codes "<" ++ (n ++ (i ++ (g ++ (z ++ r)))) =
    λ n i g z r. append_assoc (codes "<" ++ n ++ i ++ g) z r ∙ append_assoc (codes "<" ++ n ++ i) g (z ++ r) ∙ append_assoc (codes "<" ++ n) i (g ++ (z ++ r)) in
    let row : codes "<" ++ (name ++ (inside ++ (gap ++ (tag_close x.empty ++ c)))) ≡ codes "<" ++ (name' ++ (inside' ++ (gap' ++ (tag_close y.empty ++ d)))) =
    sym (shape name inside gap (tag_close x.empty) c) ∙ ap (λ (t : List ℕ). t ++ c) (sym at) ∙ e ∙ ap (λ (t : List ℕ). t ++ d) at' ∙ shape name' inside' gap' (tag_close y.empty) d in
    let p = gap ++ (tag_close x.empty ++ c) in
    let q = gap' ++ (tag_close y.empty ++ d) in
    let n = qname_row x.name y.name name name' (inside ++ p) (inside' ++ q) hn hn'
    (inside_stops x.attributes inside p hi (blank_stops gap (tag_close x.empty ++ c) hg (close_stops x.empty c)))
    (inside_stops y.attributes inside' q hi' (blank_stops gap' (tag_close y.empty ++ d) hg' (close_stops y.empty d)))
    (append_cancel_left (codes "<") (name ++ (inside ++ p)) (name' ++ (inside' ++ q)) row) in
    let i = attributes_row x.attributes y.attributes inside inside' p q hi hi' (close_ends gap x.empty c hg) (close_ends gap' y.empty d hg') n.2 in
    let g = run_same is_blank gap gap' (tag_close x.empty ++ c) (tag_close y.empty ++ d) hg hg' (close_stops_blank x.empty c) (close_stops_blank y.empty d) i.2 in
    let z = close_row x.empty y.empty c d g.1 in
    let n1 : name ≡ name' = n.1 in
    let i1 : inside ≡ inside' = i.1 in
    let g0 : gap ≡ gap' = g.0 in
    let z0 : tag_close x.empty ≡ tag_close y.empty = ap tag_close z.0 in
    let same : codes "<" ++ name ++ inside ++ gap ++ tag_close x.empty ≡ codes "<" ++ name' ++ inside' ++ gap' ++ tag_close y.empty =
    ap (λ (t : List ℕ). codes "<" ++ t ++ inside ++ gap ++ tag_close x.empty) n1 ∙ ap (λ (t : List ℕ). codes "<" ++ name' ++ t ++ gap ++ tag_close x.empty) i1
    ∙ ap (λ (t : List ℕ). codes "<" ++ name' ++ inside' ++ t ++ tag_close x.empty) g0 ∙ ap (λ (t : List ℕ). codes "<" ++ name' ++ inside' ++ gap' ++ t) z0 in
    (λ k. record { name = n.0 k; attributes = i.0 k; empty = z.0 k }, at ∙ same ∙ sym at', z.1)

abbrev pub EndText : QName → List ℕ → Type 0
EndText end_name text = (name : List ℕ) × (gap : List ℕ) × SpellsQName end_name name × AreBlank gap × (text ≡ codes "</" ++ name ++ gap ++ codes ">")

pub end_row : (x y : QName) (a b c d : List ℕ) → EndText x a → EndText y b → a ++ c ≡ b ++ d → (x ≡ y) × (a ≡ b) × (c ≡ d)
unfolding is_blank is_name_start is_name_char
end_row x y a b c d (name, gap, hn, hg, at) (name', gap', hn', hg', at') e =
    let shape : (n g r : List ℕ) → codes "</" ++ n ++ g ++ codes ">" ++ r ≡ codes "</" ++ (n ++ (g ++ (codes ">" ++ r))) =
    λ n g r. append_assoc (codes "</" ++ n ++ g) (codes ">") r ∙ append_assoc (codes "</" ++ n) g (codes ">" ++ r) in
    let row : codes "</" ++ (name ++ (gap ++ (codes ">" ++ c))) ≡ codes "</" ++ (name' ++ (gap' ++ (codes ">" ++ d))) =
    sym (shape name gap c) ∙ ap (λ (t : List ℕ). t ++ c) (sym at) ∙ e ∙ ap (λ (t : List ℕ). t ++ d) at' ∙ shape name' gap' d in
    let n = qname_row x y name name' (gap ++ (codes ">" ++ c)) (gap' ++ (codes ">" ++ d)) hn hn' (blank_stops gap (codes ">" ++ c) hg refl) (blank_stops gap' (codes ">" ++ d) hg' refl)
    (append_cancel_left (codes "</") (name ++ (gap ++ (codes ">" ++ c))) (name' ++ (gap' ++ (codes ">" ++ d))) row) in
    let g = run_same is_blank gap gap' (codes ">" ++ c) (codes ">" ++ d) hg hg' refl refl n.2 in
    let same : codes "</" ++ name ++ gap ++ codes ">" ≡ codes "</" ++ name' ++ gap' ++ codes ">" =
    ap (λ (t : List ℕ). codes "</" ++ t ++ gap ++ codes ">") n.1 ∙ ap (λ (t : List ℕ). codes "</" ++ name' ++ t ++ codes ">") g.0 in
    (n.0, at ∙ same ∙ sym at', tail_same 0x3E 0x3E c d g.1)
