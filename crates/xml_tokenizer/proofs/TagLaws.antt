-- What is read as a tag is spelled so, and what is spelled so is read.
use Rattle.std.proofs.Common.{◌≡◌, ◌≢◌, ℕ, zero, suc, ◌+◌, ◌<◌, ◌≤◌, Bool, true, false, eqb, ◌⊎◌, List, [], ◌∷◌, ◌++◌, length, Option, Some, None, refl, sym, ap, subst, ◌∙◌, append_assoc, length-append, arith, inl, inr}
use Rattle.std.specs.Prelude.{codes, encode_utf8_all}
use Rattle.std.proofs.lemmas.Bool.{eqb-true, eqb-false, ne_eqb}
use Rattle.std.proofs.lemmas.Str.{length-le-encodes, encodes-append}
use Rattle.xmp_values.specs.Characters.{is_blank, is_name_start, is_name_char}
use Rattle.xml_grammar.specs.declared.tags.QName.{QName}
use Rattle.xml_grammar.specs.declared.tags.RawAttribute.{RawAttribute}
use Rattle.xml_grammar.specs.declared.tags.Tag.{Tag}
use Rattle.xml_grammar.specs.Spelling.{AreBlank, IsGap, IsEquals, quoted, SpellsQName, SpellsAttribute, SpellsAttributes}
use Rattle.xml_grammar.specs.Pieces.{tag_close}
use Rattle.xml_grammar.proofs.Splits.{all_head, not_both, Stops}
use Rattle.xml_grammar.proofs.Parts.{is_qname_char, blank_no_qname, start_no_blank, apart, either, qname_starts}
use Rattle.xml_grammar.proofs.ValueParts.{gap_blank, value_stops}
use Rattle.xml_grammar.proofs.TagParts.{TagText, EndText}
use Rattle.xml_tokenizer.specs.Names.{qname_at}
use Rattle.xml_tokenizer.specs.Runs.{taken, past, after, width}
use Rattle.xml_tokenizer.specs.Steps.{◌>>=◌}
use Rattle.xml_tokenizer.specs.Tags.{attribute_at, closes, attributes_at, empty_at, close_at, start_at, end_at}
use Rattle.xml_tokenizer.specs.Values.{equals_at, quote_at, value_at}
use Rattle.xml_tokenizer.proofs.NameLaws.{qname_takes, qname_again}
use Rattle.xml_tokenizer.proofs.Sought.{taken_past}
use Rattle.xml_tokenizer.proofs.Steps.{bind_some, some_is, not_stopped, chosen, run_again, taken_all}
use Rattle.xml_tokenizer.proofs.ValueLaws.{equals_takes, equals_again, quote_takes, quote_again, value_takes, value_again}
use Rattle.xml_tokenizer.proofs.Words.{after_takes}

-- ---- attributes

abbrev pub TakesAttribute : List ℕ → RawAttribute × List ℕ → Type 0
TakesAttribute cs x = (text : List ℕ) × SpellsAttribute x.0 text × (cs ≡ text ++ x.1)

pub attribute_takes : (cs : List ℕ) (x : RawAttribute × List ℕ) → attribute_at cs ≡ Some x → TakesAttribute cs x
unfolding attribute_at
attribute_takes cs x e =
    let a = bind_some (qname_at cs) (λ name. equals_at name.1 >>= λ equals. quote_at equals >>= λ quote. value_at quote.0 quote.1 >>= λ value. Some (record { name = name.0; value = value.0 }, value.1)) x e in
    let b = bind_some (equals_at a.0.1) (λ equals. quote_at equals >>= λ quote. value_at quote.0 quote.1 >>= λ value. Some (record { name = a.0.0; value = value.0 }, value.1)) x a.2 in
    let d = bind_some (quote_at b.0) (λ quote. value_at quote.0 quote.1 >>= λ value. Some (record { name = a.0.0; value = value.0 }, value.1)) x b.2 in
    let f = bind_some (value_at d.0.0 d.0.1) (λ value. Some (record { name = a.0.0; value = value.0 }, value.1)) x d.2 in
    let n = qname_takes cs a.0 a.1 in
    let q = equals_takes a.0.1 b.0 b.1 in
    let k = quote_takes b.0 d.0 d.1 in
    let v = value_takes d.0.0 d.0.1 f.0 k.0 f.1 in
    let text : List ℕ = quoted d.0.0 v.0 in
    let inside : d.0.1 ≡ v.0 ++ (d.0.0 ∷ f.0.1) = v.4 in
    let e1 : b.0 ≡ text ++ f.0.1 = k.1 ∙ ap (λ (t : List ℕ). d.0.0 ∷ t) (inside ∙ sym (append_assoc v.0 (d.0.0 ∷ []) f.0.1)) in
    let e2 : cs ≡ (n.0 ++ q.0 ++ text) ++ f.0.1 = n.2 ∙ ap (λ (t : List ℕ). n.0 ++ t) (q.2 ∙ ap (λ (t : List ℕ). q.0 ++ t) e1) ∙ regroup n.0 q.0 text f.0.1 in
    subst (TakesAttribute cs) (some_is (record { name = a.0.0; value = f.0.0 }, f.0.1) x f.2) (n.0 ++ q.0 ++ text, (n.0, q.0, text, n.1, q.1, (d.0.0, v.0, v.1, k.0, v.2, v.3, refl), refl), e2)
  where
    regroup : (a b c d : List ℕ) → a ++ (b ++ (c ++ d)) ≡ (a ++ b ++ c) ++ d
    regroup a b c d = simp append_assoc

blank_stops : (gap rest : List ℕ) → AreBlank gap → Stops is_qname_char rest → Stops is_qname_char (gap ++ rest)
blank_stops [] rest h s = s
blank_stops (c ∷ cs) rest h s = blank_no_qname c (all_head is_blank c cs h)

equal_sign : is_qname_char 61 ≡ false
unfolding is_name_char is_name_start
equal_sign = refl

equals_stops : (text rest : List ℕ) → IsEquals text → Stops is_qname_char (text ++ rest)
equals_stops text rest (before, later, ba, bb, e) =
    let split : text ++ rest ≡ before ++ (61 ∷ (later ++ rest)) = rw e (simp append_assoc) in
    subst (Stops is_qname_char) (sym split) (blank_stops before (61 ∷ (later ++ rest)) ba equal_sign)

pub attribute_again : (a : RawAttribute) (text rest : List ℕ) → SpellsAttribute a text → attribute_at (text ++ rest) ≡ Some (a, rest)
unfolding attribute_at
attribute_again a text rest (name, equals, value, hn, he, (quote, inside, vs, hq, hv, iv, av), at) =
    let later : List ℕ = inside ++ (quote ∷ rest) in
    let tail : value ++ rest ≡ quote ∷ later = rw av (ap (λ (t : List ℕ). quote ∷ t) (append_assoc inside (quote ∷ []) rest)) in
    let split : text ++ rest ≡ name ++ (equals ++ (quote ∷ later)) = rw at (append_assoc (name ++ equals) value rest ∙ append_assoc name equals (value ++ rest)) ∙ ap (λ (t : List ℕ). name ++ (equals ++ t)) tail in
    let stops : Stops is_blank (quote ∷ later) = subst (Stops is_blank) tail (value_stops a.value value rest (quote, inside, vs, hq, hv, iv, av)) in
    let one = qname_again a.name name (equals ++ (quote ∷ later)) hn (equals_stops equals (quote ∷ later) he) in
    let two = equals_again equals (quote ∷ later) he stops in
    let three = quote_again quote later hq in
    let four = value_again quote inside vs rest hq hv in
    ap attribute_at split ∙ rw (one, two, three, four) (ap (λ (v : List ℕ). Some (record { name = a.name; value = v }, rest)) (sym iv))

-- ---- the list of attributes

closed_char : (c : ℕ) (cs : List ℕ) → closes (c ∷ cs) ≡ true → (c ≡ 62) ⊎ (c ≡ 47)
closed_char c cs e = elim (either (eqb c 62) (eqb c 47) e) [ inl k ↦ inl (eqb-true c 62 k) | inr k ↦ inr (eqb-true c 47 k) ]

closed_fails : (p : ℕ → Bool) → p 62 ≡ false → p 47 ≡ false → (cs : List ℕ) → closes cs ≡ true → Stops p cs
closed_fails p a b [] e = tt
closed_fails p a b (c ∷ cs) e = elim (closed_char c cs e) [ inl k ↦ ap p k ∙ a | inr k ↦ ap p k ∙ b ]

closed_blank : (cs : List ℕ) → closes cs ≡ true → Stops is_blank cs
unfolding is_blank
closed_blank cs e = closed_fails is_blank refl refl cs e

closed_qname : (cs : List ℕ) → closes cs ≡ true → Stops is_qname_char cs
unfolding is_name_char is_name_start
closed_qname cs e = closed_fails is_qname_char refl refl cs e

start_differs : (n : ℕ) → is_name_start n ≡ false → (c : ℕ) → is_name_start c ≡ true → eqb c n ≡ false
start_differs n fails c h = apart (eqb c n) (λ e. not_both (is_name_start c) h (ap is_name_start (eqb-true c n e) ∙ fails))

start_open : (c : ℕ) (cs : List ℕ) → is_name_start c ≡ true → closes (c ∷ cs) ≡ false
unfolding is_name_start
start_open c cs h = rw (start_differs 62 refl c h, start_differs 47 refl c h) refl

attribute_starts : (a : RawAttribute) (text rest : List ℕ) → SpellsAttribute a text → (closes (text ++ rest) ≡ false) × Stops is_blank (text ++ rest)
attribute_starts a text rest (name, equals, value, hn, he, hv, at) =
    let s = qname_starts a.name name hn in
    let begins : text ++ rest ≡ s.0 ∷ (s.1 ++ equals ++ value ++ rest) = ap (λ (t : List ℕ). t ++ rest) at ∙ ap (λ (t : List ℕ). t ++ equals ++ value ++ rest) s.3 in
    (ap closes begins ∙ start_open s.0 (s.1 ++ equals ++ value ++ rest) s.2, subst (Stops is_blank) (sym begins) (start_no_blank s.0 s.2))

-- what attributes are read from
pub record TakesAttributes (cs : List ℕ) (attributes : List RawAttribute) (rest : List ℕ) : Type 0 where
  pub inside : List ℕ
  pub gap : List ℕ
  pub spelled : SpellsAttributes attributes inside
  pub blank : AreBlank gap
  pub parts : cs ≡ inside ++ (gap ++ rest)
  pub closed : closes rest ≡ true

gap_from : (gap later cs : List ℕ) → cs ≡ gap ++ later → width later ≢ width cs → AreBlank gap → IsGap gap
gap_from [] later cs e h s = h (ap width (sym e))
gap_from (c ∷ gap) later cs e h s = s

pub attributes_takes : (n : ℕ) (cs : List ℕ) (x : List RawAttribute × List ℕ) → attributes_at n cs ≡ Some x → TakesAttributes cs x.0 x.1
unfolding attributes_at
attributes_takes zero cs x e = absurd cc
attributes_takes (suc n) cs x e =
    let later = past is_blank cs in
    let gap = taken is_blank cs in
    let split : cs ≡ gap ++ later = taken_past is_blank cs in
    elim (chosen (closes later) _ _ (Some x) e) [
      | inl y ↦ subst (λ (z : List RawAttribute × List ℕ). TakesAttributes cs z.0 z.1) (some_is ([], later) x y.1) (record { inside = []; gap = gap; spelled = refl; blank = taken_all is_blank cs; parts = split; closed = y.0 })
      | inr y ↦
          let z = not_stopped (eqb (width later) (width cs)) _ x y.1 in
          let a = bind_some (attribute_at later) (λ first. attributes_at n first.1 >>= λ more. Some (first.0 ∷ more.0, more.1)) x z.1 in
          let b = bind_some (attributes_at n a.0.1) (λ more. Some (a.0.0 ∷ more.0, more.1)) x a.2 in
          let t = attribute_takes later a.0 a.1 in
          let u = attributes_takes n a.0.1 b.0 b.1 in
          let made : List RawAttribute × List ℕ = (a.0.0 ∷ b.0.0, b.0.1) in
          let full : IsGap gap = gap_from gap later cs split (eqb-false _ _ z.0) (taken_all is_blank cs) in
          let inside : List ℕ = gap ++ t.0 ++ u.inside in
          let parts : cs ≡ inside ++ (u.gap ++ b.0.1) = split ∙ ap (λ (s : List ℕ). gap ++ s) (t.2 ∙ ap (λ (s : List ℕ). t.0 ++ s) u.parts) ∙ regroup gap t.0 u.inside (u.gap ++ b.0.1) in
          subst (λ (w : List RawAttribute × List ℕ). TakesAttributes cs w.0 w.1) (some_is made x b.2)
          (record { inside = inside; gap = u.gap; spelled = (gap, t.0, u.inside, full, t.1, u.spelled, refl); blank = u.blank; parts = parts; closed = u.closed })
    ]
  where
    regroup : (a b c d : List ℕ) → a ++ (b ++ (c ++ d)) ≡ (a ++ b ++ c) ++ d
    regroup a b c d = simp append_assoc

gap_moves : (gap later : List ℕ) → IsGap gap → eqb (width later) (width (gap ++ later)) ≡ false
gap_moves [] later h = absurd h
gap_moves (c ∷ gap) later h =
    let all : width ((c ∷ gap) ++ later) ≡ width (c ∷ gap) + width later = ap length (encodes-append (c ∷ gap) later) ∙ length-append (encode_utf8_all (c ∷ gap)) (encode_utf8_all later) in
    ne_eqb _ _ (λ e. omega (arith, all, length-le-encodes (c ∷ gap)))

pub attributes_long : (attributes : List RawAttribute) (text : List ℕ) → SpellsAttributes attributes text → length attributes ≤ length text
attributes_long [] text e = omega arith
attributes_long (a ∷ others) text (gap, front, back, hg, first, more, e) = by_gap gap hg e (attributes_long others back more)
  where
    by_gap : (gap : List ℕ) → IsGap gap → text ≡ gap ++ front ++ back → length others ≤ length back → length (a ∷ others) ≤ length text
    by_gap [] h e k = absurd h
    by_gap (c ∷ cs) h e k = omega (arith, ap length e, length-append ((c ∷ cs) ++ front) back, length-append (c ∷ cs) front)

pub attributes_again : (n : ℕ) (attributes : List RawAttribute) (inside gap rest : List ℕ) → SpellsAttributes attributes inside → AreBlank gap → closes rest ≡ true → length attributes < n
    → attributes_at n (inside ++ (gap ++ rest)) ≡ Some (attributes, rest)
unfolding attributes_at
attributes_again zero attributes inside gap rest h blank shut lt = absurd (omega arith)
attributes_again (suc n) [] inside gap rest h blank shut lt =
    let k = run_again is_blank gap rest blank (closed_blank rest shut) in
    rw (h, k.1, shut) refl
attributes_again (suc n) (a ∷ others) inside gap rest (gap1, front, back, full, first, more, e) blank shut lt =
    let later : List ℕ = front ++ (back ++ (gap ++ rest)) in
    let at : inside ++ (gap ++ rest) ≡ gap1 ++ later = rw e (append_assoc (gap1 ++ front) back (gap ++ rest) ∙ append_assoc gap1 front (back ++ (gap ++ rest))) in
    let s = attribute_starts a front (back ++ (gap ++ rest)) first in
    let k = run_again is_blank gap1 later (gap_blank gap1 full) s.1 in
    let again = attribute_again a front (back ++ (gap ++ rest)) first in
    let ih = attributes_again n others back gap rest more blank shut (omega arith) in
    ap (attributes_at (suc n)) at ∙ rw (k.1, s.0, gap_moves gap1 later full, again, ih) refl

-- ---- tags

empty_takes : (cs : List ℕ) (o : Option (List ℕ)) (x : Bool × List ℕ) → after (codes "/>") cs ≡ o → empty_at cs o ≡ Some x → cs ≡ tag_close x.0 ++ x.1
empty_takes cs (Some rest) x found e = subst (λ (y : Bool × List ℕ). cs ≡ tag_close y.0 ++ y.1) (some_is (true, rest) x e) (after_takes (codes "/>") cs rest found)
empty_takes cs None x found e =
    let a = bind_some (after (codes ">") cs) (λ rest. Some (false, rest)) x e in
    subst (λ (y : Bool × List ℕ). cs ≡ tag_close y.0 ++ y.1) (some_is (false, a.0) x a.2) (after_takes (codes ">") cs a.0 a.1)

close_takes : (cs : List ℕ) (x : Bool × List ℕ) → close_at cs ≡ Some x → cs ≡ tag_close x.0 ++ x.1
unfolding close_at
close_takes cs x e = empty_takes cs (after (codes "/>") cs) x refl e

close_again : (empty : Bool) (rest : List ℕ) → close_at (tag_close empty ++ rest) ≡ Some (empty, rest)
unfolding close_at
close_again true rest = refl
close_again false rest = refl

close_closes : (empty : Bool) (rest : List ℕ) → closes (tag_close empty ++ rest) ≡ true
close_closes true rest = refl
close_closes false rest = refl

abbrev pub TakesStart : List ℕ → Tag × List ℕ → Type 0
TakesStart cs x = (front : List ℕ) × TagText x.0 (60 ∷ front) × (cs ≡ front ++ x.1)

pub start_takes : (cs : List ℕ) (x : Tag × List ℕ) → start_at cs ≡ Some x → TakesStart cs x
unfolding start_at
start_takes cs x e =
    let a = bind_some (qname_at cs) (λ name. attributes_at (width name.1) name.1 >>= λ attributes. close_at attributes.1 >>= λ end. Some (record { name = name.0; attributes = attributes.0; empty = end.0 }, end.1)) x e in
    let b = bind_some (attributes_at (width a.0.1) a.0.1) (λ attributes. close_at attributes.1 >>= λ end. Some (record { name = a.0.0; attributes = attributes.0; empty = end.0 }, end.1)) x a.2 in
    let d = bind_some (close_at b.0.1) (λ end. Some (record { name = a.0.0; attributes = b.0.0; empty = end.0 }, end.1)) x b.2 in
    let n = qname_takes cs a.0 a.1 in
    let t = attributes_takes (width a.0.1) a.0.1 b.0 b.1 in
    let k = close_takes b.0.1 d.0 d.1 in
    let front : List ℕ = n.0 ++ t.inside ++ t.gap ++ tag_close d.0.0 in
    let all : cs ≡ front ++ d.0.1 = n.2 ∙ ap (λ (s : List ℕ). n.0 ++ s) (t.parts ∙ ap (λ (s : List ℕ). t.inside ++ (t.gap ++ s)) k) ∙ regroup n.0 t.inside t.gap (tag_close d.0.0) d.0.1 in
    subst (TakesStart cs) (some_is (record { name = a.0.0; attributes = b.0.0; empty = d.0.0 }, d.0.1) x d.2) (front, (n.0, t.inside, t.gap, n.1, t.spelled, t.blank, refl), all)
  where
    regroup : (a b c d e : List ℕ) → a ++ (b ++ (c ++ (d ++ e))) ≡ (a ++ b ++ c ++ d) ++ e
    regroup a b c d e = simp append_assoc

inside_stops : (attributes : List RawAttribute) (inside rest : List ℕ) → SpellsAttributes attributes inside → Stops is_qname_char rest → Stops is_qname_char (inside ++ rest)
inside_stops [] inside rest h s = subst (λ (t : List ℕ). Stops is_qname_char (t ++ rest)) (sym h) s
inside_stops (x ∷ xs) inside rest (gap, front, back, hg, hf, hb, at) s = subst (λ (t : List ℕ). Stops is_qname_char (t ++ rest)) (sym at) (gap_stops gap hg)
  where
    gap_stops : (gap : List ℕ) → IsGap gap → Stops is_qname_char (gap ++ front ++ back ++ rest)
    gap_stops [] h = absurd h
    gap_stops (c ∷ cs) h = blank_no_qname c (all_head is_blank c cs h)

-- after `<`
pub start_again : (tag : Tag) (name inside gap rest : List ℕ) → SpellsQName tag.name name → SpellsAttributes tag.attributes inside → AreBlank gap
    → start_at (name ++ (inside ++ (gap ++ (tag_close tag.empty ++ rest)))) ≡ Some (tag, rest)
unfolding start_at
start_again tag name inside gap rest hn hi blank =
    let shut = close_closes tag.empty rest in
    let later : List ℕ = inside ++ (gap ++ (tag_close tag.empty ++ rest)) in
    let n = qname_again tag.name name later hn (inside_stops tag.attributes inside (gap ++ (tag_close tag.empty ++ rest)) hi (blank_stops gap (tag_close tag.empty ++ rest) blank (closed_qname (tag_close tag.empty ++ rest) shut))) in
    let lt : length tag.attributes < width later = omega (arith, attributes_long tag.attributes inside hi, length-le-encodes later, length-append inside (gap ++ (tag_close tag.empty ++ rest)), length-append gap (tag_close tag.empty ++ rest), close_long tag.empty rest) in
    let a = attributes_again (width later) tag.attributes inside gap (tag_close tag.empty ++ rest) hi blank shut lt in
    rw (n, a, close_again tag.empty rest) refl
  where
    close_long : (empty : Bool) (rest : List ℕ) → 0 < length (tag_close empty ++ rest)
    close_long true rest = omega arith
    close_long false rest = omega arith

abbrev pub TakesEnd : List ℕ → QName × List ℕ → Type 0
TakesEnd cs x = (front : List ℕ) × EndText x.0 (60 ∷ 47 ∷ front) × (cs ≡ front ++ x.1)

pub end_takes : (cs : List ℕ) (x : QName × List ℕ) → end_at cs ≡ Some x → TakesEnd cs x
unfolding end_at
end_takes cs x e =
    let a = bind_some (qname_at cs) (λ name. after (codes ">") (past is_blank name.1) >>= λ rest. Some (name.0, rest)) x e in
    let b = bind_some (after (codes ">") (past is_blank a.0.1)) (λ rest. Some (a.0.0, rest)) x a.2 in
    let n = qname_takes cs a.0 a.1 in
    let gap = taken is_blank a.0.1 in
    let all : cs ≡ (n.0 ++ gap ++ codes ">") ++ b.0 = n.2 ∙ ap (λ (s : List ℕ). n.0 ++ s) (taken_past is_blank a.0.1 ∙ ap (λ (s : List ℕ). gap ++ s) (after_takes (codes ">") (past is_blank a.0.1) b.0 b.1)) ∙ regroup n.0 gap b.0 in
    subst (TakesEnd cs) (some_is (a.0.0, b.0) x b.2) (n.0 ++ gap ++ codes ">", (n.0, gap, n.1, taken_all is_blank a.0.1, refl), all)
  where
    regroup : (a b c : List ℕ) → a ++ (b ++ (62 ∷ c)) ≡ (a ++ b ++ codes ">") ++ c
    regroup a b c = simp append_assoc

-- after `</`
pub end_again : (end_name : QName) (name gap rest : List ℕ) → SpellsQName end_name name → AreBlank gap → end_at (name ++ (gap ++ (62 ∷ rest))) ≡ Some (end_name, rest)
unfolding end_at
end_again end_name name gap rest hn blank =
    let n = qname_again end_name name (gap ++ (62 ∷ rest)) hn (blank_stops gap (62 ∷ rest) blank (closed_qname (62 ∷ rest) refl)) in
    let k = run_again is_blank gap (62 ∷ rest) blank (closed_blank (62 ∷ rest) refl) in
    rw (n, k.1) refl
