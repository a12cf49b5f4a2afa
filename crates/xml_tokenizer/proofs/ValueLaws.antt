-- What is read as a value is spelled so, and what is spelled so is read.
use Rattle.std.proofs.Common.{◌≡◌, ◌≢◌, ℕ, zero, suc, ◌+◌, ◌<◌, Bool, true, false, cond, eqb, ◌||◌, ◌⊎◌, List, [], ◌∷◌, ◌++◌, length, Option, Some, None, refl, sym, ap, subst, ◌∙◌, append_assoc, length-append, arith, inl, inr}
use Rattle.std.specs.Prelude.{IsTrue, codes, encode_utf8, encode_utf8_all}
use Rattle.std.specs.List.{list_all}
use Rattle.std.proofs.lemmas.Bool.{eqb-true, eqb-false, ne_eqb, eq-eqb}
use Rattle.std.proofs.lemmas.Str.{length-le-encodes}
use Rattle.xmp_values.specs.Characters.{is_char, is_blank}
use Rattle.xml_grammar.specs.Spelling.{IsQuote, IsEquals, line_ends, line_ends_after, normal, SpellsReference, SpellsValueChar, SpellsValueChars}
use Rattle.xml_grammar.proofs.Splits.{both, head_same, tail_same, Stops}
use Rattle.xml_grammar.proofs.Parts.{IsOneBlank, blank_is, apart, either}
use Rattle.xml_grammar.proofs.ValueParts.{is_not, NotAmong, reference_all}
use Rattle.xml_tokenizer.specs.Classes.{is_value}
use Rattle.xml_tokenizer.specs.References.{reference_at}
use Rattle.xml_tokenizer.specs.Runs.{taken, past, after, width, with_front}
use Rattle.xml_tokenizer.specs.Steps.{◌>>=◌}
use Rattle.xml_tokenizer.specs.Values.{equals_at, quote_at, past_feed, special_at, ended, tail_at, value_at}
use Rattle.xml_tokenizer.proofs.LineEnds.{ends_other, ends_feed, ends_front_again}
use Rattle.xml_tokenizer.proofs.ReferenceLaws.{reference_takes, reference_again}
use Rattle.xml_tokenizer.proofs.Sought.{with_both, with_nothing, taken_past}
use Rattle.xml_tokenizer.proofs.Steps.{or_false, not_true, bind_some, some_is, passed, run_again, taken_all}
use Rattle.xml_tokenizer.proofs.Words.{after_takes}

-- ---- tests

pub record Plain (quote c : ℕ) : Type 0 where
  pub char : IsTrue (is_char c)
  pub less : eqb c 60 ≡ false
  pub amp : eqb c 38 ≡ false
  pub apart : eqb c quote ≡ false
  pub tab : eqb c 9 ≡ false
  pub feed : eqb c 10 ≡ false
  pub return : eqb c 13 ≡ false

pub plain_facts : (quote c : ℕ) → is_value quote c ≡ true → Plain quote c
unfolding is_value
plain_facts quote c h =
    let k = both (is_char c) _ h in
    let n = not_true _ k.1 in
    let a = or_false _ _ n in
    let b = or_false _ _ a.0 in
    let d = or_false _ _ b.0 in
    let e = or_false _ _ d.0 in
    let f = or_false _ _ e.0 in
    record { char = k.0; less = f.0; amp = f.1; apart = e.1; tab = d.1; feed = b.1; return = a.1 }

plain_from : (quote c : ℕ) → Plain quote c → is_value quote c ≡ true
unfolding is_value
plain_from quote c p = rw (p.char, p.less, p.amp, p.apart, p.tab, p.feed, p.return) refl

quote_no_value : (quote : ℕ) → is_value quote quote ≡ false
unfolding is_value
quote_no_value quote = apart _ (λ e. both_false (plain_facts quote quote e).apart)
  where
    both_false : eqb quote quote ≡ false → ⊥
    both_false e = let k = eq-eqb quote quote refl in cc

special_no_value : (quote c : ℕ) → (c ≡ 38) ⊎ ((c ≡ 9) ⊎ ((c ≡ 10) ⊎ (c ≡ 13))) → is_value quote c ≡ false
special_no_value quote c h = apart _ (λ e. not_plain (plain_facts quote c e) h)
  where
    differ : (n : ℕ) → eqb c n ≡ false → c ≡ n → ⊥
    differ n e f = let k = eq-eqb c n f in cc

    not_plain : Plain quote c → (c ≡ 38) ⊎ ((c ≡ 9) ⊎ ((c ≡ 10) ⊎ (c ≡ 13))) → ⊥
    not_plain p (inl e) = differ 38 p.amp e
    not_plain p (inr (inl e)) = differ 9 p.tab e
    not_plain p (inr (inr (inl e))) = differ 10 p.feed e
    not_plain p (inr (inr (inr e))) = differ 13 p.return e

quote_differs : (quote n : ℕ) → IsQuote quote → eqb n 0x22 ≡ false → eqb n 0x27 ≡ false → eqb n quote ≡ false
quote_differs quote n (inl e) f g = ap (eqb n) e ∙ f
quote_differs quote n (inr e) f g = ap (eqb n) e ∙ g

quote_not : (quote n : ℕ) → IsQuote quote → eqb 0x22 n ≡ false → eqb 0x27 n ≡ false → eqb quote n ≡ false
quote_not quote n (inl e) f g = ap (λ (q : ℕ). eqb q n) e ∙ f
quote_not quote n (inr e) f g = ap (λ (q : ℕ). eqb q n) e ∙ g

-- ---- a value's run and what follows it

abbrev pub value_run : ℕ → ℕ → List ℕ → Option (List ℕ × List ℕ)
value_run n quote cs = with_front (encode_utf8_all (taken (is_value quote) cs)) (tail_at n quote (past (is_value quote) cs))

run_plain : (n quote c : ℕ) (cs : List ℕ) → is_value quote c ≡ true → value_run n quote (c ∷ cs) ≡ with_front (encode_utf8 c) (value_run n quote cs)
run_plain n quote c cs h = rw h (sym (with_both (encode_utf8 c) (encode_utf8_all (taken (is_value quote) cs)) (tail_at n quote (past (is_value quote) cs))))

run_special : (n quote c : ℕ) (cs : List ℕ) (s : ℕ × List ℕ) → is_value quote c ≡ false → eqb c quote ≡ false → special_at (c ∷ cs) ≡ Some s → value_run (suc n) quote (c ∷ cs) ≡ with_front (encode_utf8 s.0) (value_run n quote s.1)
unfolding tail_at
run_special n quote c cs s h apart_ e =
    rw (h, apart_, e) (with_nothing _ ∙ sym (with_both (encode_utf8 s.0) (encode_utf8_all (taken (is_value quote) s.1)) (tail_at n quote (past (is_value quote) s.1))))

run_end : (n quote : ℕ) (rest : List ℕ) → value_run (suc n) quote (quote ∷ rest) ≡ Some ([], rest)
unfolding tail_at
run_end n quote rest = rw (quote_no_value quote, eq-eqb quote quote refl) refl

-- ---- line ends

ends_nil : (inside : List ℕ) → line_ends inside ≡ [] → inside ≡ []
ends_nil [] e = refl
ends_nil (c ∷ cs) e = by_test (eqb c 13) e
  where
    by_test : (v : Bool) → cond v (10 ∷ line_ends_after true cs) (c ∷ line_ends_after false cs) ≡ [] → c ∷ cs ≡ []
    by_test true h = absurd cc
    by_test false h = absurd cc

-- after CR a text that LF doesn't begin is read as ever
ends_after : (cs : List ℕ) → past_feed cs ≡ cs → line_ends_after true cs ≡ line_ends cs
ends_after cs e = ends_feed cs ∙ ap line_ends e

pub feed_is : (c : ℕ) (cs : List ℕ) → eqb c 10 ≡ false → past_feed (c ∷ cs) ≡ c ∷ cs
feed_is c cs e = rw e refl

not_is : (y c : ℕ) → is_not y c ≡ true → eqb c y ≡ false
not_is y c e = not_true (eqb c y) e

-- a front without line ends
ends_front : (front inside back : List ℕ) → IsTrue (list_all (is_not 13) front) → IsTrue (list_all (is_not 10) front) → line_ends inside ≡ front ++ back
    → (more : List ℕ) × (inside ≡ front ++ more) × (back ≡ line_ends more)
ends_front [] inside back r l e = (inside, refl, sym e)
ends_front (f ∷ front) [] back r l e = absurd cc
ends_front (f ∷ front) (c ∷ cs) back r l e = by_test (eqb c 13) refl e (λ h. ends_front front cs back (both (is_not 13 f) _ r).1 (both (is_not 10 f) _ l).1 h)
  where
    by_test : (v : Bool) → eqb c 13 ≡ v → cond v (10 ∷ line_ends_after true cs) (c ∷ line_ends_after false cs) ≡ f ∷ (front ++ back)
        → (line_ends cs ≡ front ++ back → (more : List ℕ) × (cs ≡ front ++ more) × (back ≡ line_ends more)) → (more : List ℕ) × (c ∷ cs ≡ f ∷ (front ++ more)) × (back ≡ line_ends more)
    by_test true k h ih =
        let same : 10 ≡ f = head_same 10 f (line_ends_after true cs) (front ++ back) h in
        let no = not_is 10 f (both (is_not 10 f) _ l).0 in
        let yes_ : eqb f 10 ≡ true = eq-eqb f 10 (sym same) in
        absurd cc
    by_test false k h ih =
        let t = ih (tail_same c f (line_ends cs) (front ++ back) h) in
        let same : c ≡ f = head_same c f (line_ends cs) (front ++ back) h in
        let is : cs ≡ front ++ t.0 = t.1 in
        (t.0, cc, t.2)

among_return : NotAmong 13
among_return = record { lt = refl; gt = refl; amp = refl; apos = refl; quot = refl; decimal = refl; hexadecimal = refl; no_digit = refl; no_hexadecimal = refl }

among_feed : NotAmong 10
among_feed = record { lt = refl; gt = refl; amp = refl; apos = refl; quot = refl; decimal = refl; hexadecimal = refl; no_digit = refl; no_hexadecimal = refl }

-- ---- normal characters

normal_plain : (c : ℕ) → eqb c 9 ≡ false → eqb c 10 ≡ false → eqb c 13 ≡ false → normal c ≡ c
normal_plain c t l r = by_blank (is_blank c) refl
  where
    differ : (n : ℕ) → eqb c n ≡ false → c ≡ n → ⊥
    differ n e f = let k = eq-eqb c n f in cc

    of_blank : IsOneBlank c → 0x20 ≡ c
    of_blank (inl e) = absurd (differ 9 t e)
    of_blank (inr (inl e)) = absurd (differ 10 l e)
    of_blank (inr (inr (inl e))) = absurd (differ 13 r e)
    of_blank (inr (inr (inr e))) = sym e

    by_blank : (v : Bool) → is_blank c ≡ v → cond v 0x20 c ≡ c
    by_blank true e = of_blank (blank_is c e)
    by_blank false e = refl

normal_blank : (c : ℕ) → (c ≡ 9) ⊎ ((c ≡ 10) ⊎ (c ≡ 13)) → normal c ≡ 32
unfolding is_blank
normal_blank c (inl e) = ap normal e
normal_blank c (inr (inl e)) = ap normal e
normal_blank c (inr (inr e)) = ap normal e

-- ---- what is spelled so is read

special_return : (cs : List ℕ) → special_at (13 ∷ cs) ≡ Some (32, past_feed cs)
unfolding special_at
special_return cs = refl

special_blank : (c : ℕ) (cs : List ℕ) → (c ≡ 9) ⊎ (c ≡ 10) → special_at (c ∷ cs) ≡ Some (32, cs)
unfolding special_at
special_blank c cs (inl e) = ap (λ (d : ℕ). special_at (d ∷ cs)) e
special_blank c cs (inr e) = ap (λ (d : ℕ). special_at (d ∷ cs)) e

special_reference : (cs : List ℕ) (s : ℕ × List ℕ) → reference_at cs ≡ Some s → special_at (38 ∷ cs) ≡ Some s
unfolding special_at
special_reference cs s e = e

abbrev Reads : ℕ → ℕ → List ℕ → List ℕ → Type 0
Reads n quote vs inside = (rest : List ℕ) → value_run n quote (inside ++ (quote ∷ rest)) ≡ Some (encode_utf8_all vs, rest)

reads_plain : (n quote : ℕ) (vs : List ℕ) (c v : ℕ) (inside : List ℕ) → is_value quote c ≡ true → v ≡ c → Reads n quote vs inside → Reads n quote (v ∷ vs) (c ∷ inside)
reads_plain n quote vs c v inside h is more rest =
    run_plain n quote c (inside ++ (quote ∷ rest)) h ∙ ap (with_front (encode_utf8 c)) (more rest) ∙ ap (λ (d : ℕ). Some (encode_utf8 d ++ encode_utf8_all vs, rest)) (sym is)

reads_special : (n quote : ℕ) (vs : List ℕ) (c v : ℕ) (cs inside rest : List ℕ) → is_value quote c ≡ false → eqb c quote ≡ false → special_at (c ∷ cs) ≡ Some (v, inside ++ (quote ∷ rest)) → Reads n quote vs inside
    → value_run (suc n) quote (c ∷ cs) ≡ Some (encode_utf8_all (v ∷ vs), rest)
reads_special n quote vs c v cs inside rest h apart_ e more =
    run_special n quote c cs (v, inside ++ (quote ∷ rest)) h apart_ e ∙ ap (with_front (encode_utf8 v)) (more rest)

abbrev Follow : ℕ → ℕ → List ℕ → List ℕ → Type 0
Follow n quote vs back = (more : List ℕ) → back ≡ line_ends more → length more < n → Reads n quote vs more

feed_quote : (quote : ℕ) (rest : List ℕ) → IsQuote quote → past_feed (quote ∷ rest) ≡ quote ∷ rest
feed_quote quote rest q = feed_is quote rest (quote_not quote 10 q refl refl)

reads_return : (n quote : ℕ) (vs : List ℕ) (ds : List ℕ) (v : ℕ) → IsQuote quote → v ≡ 32 → length ds < n → Follow n quote vs (line_ends_after true ds) → Reads (suc n) quote (v ∷ vs) (13 ∷ ds)
reads_return n quote vs [] v q is less follow rest =
    reads_special n quote vs 13 v (quote ∷ rest) [] rest (special_no_value quote 13 (inr (inr (inr refl)))) (quote_differs quote 13 q refl refl)
    (special_return (quote ∷ rest) ∙ ap (λ (t : List ℕ). Some (32, t)) (feed_quote quote rest q) ∙ ap (λ (d : ℕ). Some (d, quote ∷ rest)) (sym is)) (follow [] refl less)
reads_return n quote vs (e ∷ es) v q is less follow rest = by_feed (eqb e 10) refl
  where
    no : is_value quote 13 ≡ false
    no = special_no_value quote 13 (inr (inr (inr refl)))

    by_feed : (w : Bool) → eqb e 10 ≡ w → value_run (suc n) quote (13 ∷ e ∷ (es ++ (quote ∷ rest))) ≡ Some (encode_utf8_all (v ∷ vs), rest)
    by_feed true h =
        let at : e ≡ 10 = eqb-true e 10 h in
        let back : line_ends_after true (e ∷ es) ≡ line_ends es = ap (λ (d : ℕ). line_ends_after true (d ∷ es)) at in
        let feed : past_feed (e ∷ (es ++ (quote ∷ rest))) ≡ es ++ (quote ∷ rest) = ap (λ (d : ℕ). past_feed (d ∷ (es ++ (quote ∷ rest)))) at in
        reads_special n quote vs 13 v (e ∷ (es ++ (quote ∷ rest))) es rest no (quote_differs quote 13 q refl refl)
        (special_return (e ∷ (es ++ (quote ∷ rest))) ∙ ap (λ (t : List ℕ). Some (32, t)) feed ∙ ap (λ (d : ℕ). Some (d, es ++ (quote ∷ rest))) (sym is)) (follow es back (omega arith))
    by_feed false h =
        let back : line_ends_after true (e ∷ es) ≡ line_ends (e ∷ es) = ends_after (e ∷ es) (feed_is e es h) in
        reads_special n quote vs 13 v (e ∷ (es ++ (quote ∷ rest))) (e ∷ es) rest no (quote_differs quote 13 q refl refl)
        (special_return (e ∷ (es ++ (quote ∷ rest))) ∙ ap (λ (t : List ℕ). Some (32, t)) (feed_is e (es ++ (quote ∷ rest)) h) ∙ ap (λ (d : ℕ). Some (d, e ∷ (es ++ (quote ∷ rest)))) (sym is)) (follow (e ∷ es) back less)

reads_blank : (n quote : ℕ) (vs : List ℕ) (d : ℕ) (ds : List ℕ) (v : ℕ) → IsQuote quote → v ≡ 32 → (d ≡ 9) ⊎ (d ≡ 10) → length ds < n → Follow n quote vs (line_ends ds) → Reads (suc n) quote (v ∷ vs) (d ∷ ds)
reads_blank n quote vs d ds v q is at less follow rest =
    reads_special n quote vs d v (ds ++ (quote ∷ rest)) ds rest (special_no_value quote d (which at)) (differs_at at)
    (special_blank d (ds ++ (quote ∷ rest)) at ∙ ap (λ (e : ℕ). Some (e, ds ++ (quote ∷ rest))) (sym is)) (follow ds refl less)
  where
    which : (d ≡ 9) ⊎ (d ≡ 10) → (d ≡ 38) ⊎ ((d ≡ 9) ⊎ ((d ≡ 10) ⊎ (d ≡ 13)))
    which (inl e) = inr (inl e)
    which (inr e) = inr (inr (inl e))

    differs_at : (d ≡ 9) ⊎ (d ≡ 10) → eqb d quote ≡ false
    differs_at (inl e) = ap (λ (x : ℕ). eqb x quote) e ∙ quote_differs quote 9 q refl refl
    differs_at (inr e) = ap (λ (x : ℕ). eqb x quote) e ∙ quote_differs quote 10 q refl refl

-- a literal character
reads_literal : (n quote : ℕ) (vs : List ℕ) (c v : ℕ) (inside back : List ℕ) → IsQuote quote → IsTrue (is_char c) → c ≢ 60 → c ≢ 38 → c ≢ quote → v ≡ normal c → line_ends inside ≡ c ∷ back → length inside < suc n
    → Follow n quote vs back → ((more : List ℕ) → back ≡ line_ends more → length more < suc n → Reads (suc n) quote vs more) → Reads (suc n) quote (v ∷ vs) inside
reads_literal n quote vs c v [] back q char less amp other is e lt follow again = absurd cc
reads_literal n quote vs c v (d ∷ ds) back q char less amp other is e lt follow again = by_return (eqb d 13) refl e
  where
    ordinary : c ≡ d → line_ends ds ≡ back → eqb d 13 ≡ false → (t l : Bool) → eqb d 9 ≡ t → eqb d 10 ≡ l → Reads (suc n) quote (v ∷ vs) (d ∷ ds)
    ordinary same tail r true l ht hl = reads_blank n quote vs d ds v q (is ∙ ap normal same ∙ normal_blank d (inl (eqb-true d 9 ht))) (inl (eqb-true d 9 ht)) (omega arith) (λ more h k. follow more (sym tail ∙ h) k)
    ordinary same tail r false true ht hl = reads_blank n quote vs d ds v q (is ∙ ap normal same ∙ normal_blank d (inr (inl (eqb-true d 10 hl)))) (inr (eqb-true d 10 hl)) (omega arith) (λ more h k. follow more (sym tail ∙ h) k)
    ordinary same tail r false false ht hl =
        let plain : is_value quote d ≡ true = plain_from quote d (record { char = subst (λ (x : ℕ). IsTrue (is_char x)) same char; less = ne_eqb d 60 (λ k. less (same ∙ k)); amp = ne_eqb d 38 (λ k. amp (same ∙ k)); apart = ne_eqb d quote (λ k. other (same ∙ k)); tab = ht; feed = hl; return = r }) in
        reads_plain (suc n) quote vs d v ds plain (is ∙ ap normal same ∙ normal_plain d ht hl r) (again ds (sym tail) (omega arith))

    by_return : (w : Bool) → eqb d 13 ≡ w → cond w (10 ∷ line_ends_after true ds) (d ∷ line_ends_after false ds) ≡ c ∷ back → Reads (suc n) quote (v ∷ vs) (d ∷ ds)
    by_return true h k =
        let same : 10 ≡ c = head_same 10 c (line_ends_after true ds) back k in
        let tail : line_ends_after true ds ≡ back = tail_same 10 c (line_ends_after true ds) back k in
        let at : d ≡ 13 = eqb-true d 13 h in
        subst (λ (x : ℕ). Reads (suc n) quote (v ∷ vs) (x ∷ ds)) (sym at) (reads_return n quote vs ds v q (is ∙ normal_blank c (inr (inl (sym same)))) (omega arith) (λ more j i. follow more (sym tail ∙ j) i))
    by_return false h k = ordinary (sym (head_same d c (line_ends_after false ds) back k)) (tail_same d c (line_ends_after false ds) back k) h (eqb d 9) (eqb d 10) refl refl

reads_reference : (n quote : ℕ) (vs : List ℕ) (v : ℕ) (inside front back : List ℕ) → IsQuote quote → SpellsReference v front → line_ends inside ≡ front ++ back → length inside < suc n → Follow n quote vs back → Reads (suc n) quote (v ∷ vs) inside
reads_reference n quote vs v inside front back q h e lt follow rest =
    let r = ends_front front inside back (reference_all 13 v front among_return refl h) (reference_all 10 v front among_feed refl h) e in
    let a = reference_again v front h in
    let at : inside ++ (quote ∷ rest) ≡ 38 ∷ (a.0 ++ (r.0 ++ (quote ∷ rest))) = ap (λ (t : List ℕ). t ++ (quote ∷ rest)) (r.1 ∙ ap (λ (t : List ℕ). t ++ r.0) a.1) ∙ ap (λ (t : List ℕ). 38 ∷ t) (append_assoc a.0 r.0 (quote ∷ rest)) in
    let long : length inside ≡ suc (length a.0) + length r.0 = ap length (r.1 ∙ ap (λ (t : List ℕ). t ++ r.0) a.1) ∙ length-append (38 ∷ a.0) r.0 in
    ap (value_run (suc n) quote) at
    ∙ reads_special n quote vs 38 v (a.0 ++ (r.0 ++ (quote ∷ rest))) r.0 rest (special_no_value quote 38 (inl refl)) (quote_differs quote 38 q refl refl)
    (special_reference (a.0 ++ (r.0 ++ (quote ∷ rest))) (v, r.0 ++ (quote ∷ rest)) (a.2 (r.0 ++ (quote ∷ rest)))) (follow r.0 r.2 (omega arith))

reads_one : (n quote : ℕ) (vs : List ℕ) (v : ℕ) (inside front back : List ℕ) → IsQuote quote → SpellsValueChar quote v front → line_ends inside ≡ front ++ back → length inside < suc n
    → ((m : ℕ) (text : List ℕ) → back ≡ line_ends text → length text < m → Reads m quote vs text) → Reads (suc n) quote (v ∷ vs) inside
reads_one n quote vs v inside front back q (inl h) is lt follow = reads_reference n quote vs v inside front back q h is lt (follow n)
reads_one n quote vs v inside front back q (inr (c, char, less, amp, other, norm, at)) is lt follow =
    reads_literal n quote vs c v inside back q char less amp other norm (is ∙ ap (λ (t : List ℕ). t ++ back) at) lt (follow n) (follow (suc n))

pub values_again : (vs : List ℕ) (n quote : ℕ) (inside : List ℕ) → IsQuote quote → SpellsValueChars quote vs (line_ends inside) → length inside < n → Reads n quote vs inside
values_again vs zero quote inside q h lt = absurd (omega arith)
values_again [] (suc n) quote inside q h lt = λ rest. ap (λ (t : List ℕ). value_run (suc n) quote (t ++ (quote ∷ rest))) (ends_nil inside h) ∙ run_end n quote rest
values_again (v ∷ vs) (suc n) quote inside q (front, back, one, more, is) lt =
    reads_one n quote vs v inside front back q one is lt (λ m text e k. values_again vs m quote text q (subst (SpellsValueChars quote vs) e more) k)

-- ---- what is read is spelled so

abbrev pub TakesValue : ℕ → List ℕ → List ℕ × List ℕ → Type 0
TakesValue quote cs x = (inside : List ℕ) × (vs : List ℕ) × SpellsValueChars quote vs (line_ends inside) × (x.0 ≡ encode_utf8_all vs) × (cs ≡ inside ++ (quote ∷ x.1))

takes_plain : (quote c : ℕ) (cs : List ℕ) (x : List ℕ × List ℕ) → is_value quote c ≡ true → TakesValue quote cs x → TakesValue quote (c ∷ cs) (encode_utf8 c ++ x.0, x.1)
takes_plain quote c cs x h (inside, vs, spelled, value, at) =
    let p = plain_facts quote c h in
    let ends : line_ends (c ∷ inside) ≡ c ∷ line_ends inside = ends_other c inside p.return in
    let one : SpellsValueChar quote c (c ∷ []) = inr (c, p.char, eqb-false c 60 p.less, eqb-false c 38 p.amp, eqb-false c quote p.apart, sym (normal_plain c p.tab p.feed p.return), refl) in
    (c ∷ inside, c ∷ vs, (c ∷ [], line_ends inside, one, spelled, ends), ap (λ (t : List ℕ). encode_utf8 c ++ t) value, ap (λ (t : List ℕ). c ∷ t) at)

takes_run : (quote : ℕ) (cs : List ℕ) (x : List ℕ × List ℕ) → TakesValue quote (past (is_value quote) cs) x → TakesValue quote cs (encode_utf8_all (taken (is_value quote) cs) ++ x.0, x.1)
takes_run quote [] x h = h
takes_run quote (c ∷ cs) x h = by_test (is_value quote c) refl h (takes_run quote cs x)
  where
    by_test : (v : Bool) → is_value quote c ≡ v → TakesValue quote (cond v (past (is_value quote) cs) (c ∷ cs)) x
        → (TakesValue quote (past (is_value quote) cs) x → TakesValue quote cs (encode_utf8_all (taken (is_value quote) cs) ++ x.0, x.1))
        → TakesValue quote (c ∷ cs) (encode_utf8_all (cond v (c ∷ taken (is_value quote) cs) []) ++ x.0, x.1)
    by_test true e k ih =
        let t = takes_plain quote c cs (encode_utf8_all (taken (is_value quote) cs) ++ x.0, x.1) e (ih k) in
        subst (λ (y : List ℕ). TakesValue quote (c ∷ cs) (y, x.1)) (sym (append_assoc (encode_utf8 c) (encode_utf8_all (taken (is_value quote) cs)) x.0)) t
    by_test false e k ih = k

-- what a special character is, before more of a value
abbrev pub Prepends : ℕ → List ℕ → ℕ × List ℕ → Type 0
Prepends quote cs s = (front : List ℕ) × (cs ≡ front ++ s.1) × ((inside vs rest : List ℕ) → s.1 ≡ inside ++ (quote ∷ rest) → SpellsValueChars quote vs (line_ends inside) → SpellsValueChars quote (s.0 ∷ vs) (line_ends (front ++ inside)))

space_is : (quote d : ℕ) → IsQuote quote → (d ≡ 9) ⊎ (d ≡ 10) → SpellsValueChar quote 32 (d ∷ [])
unfolding is_char
space_is quote d q (inl e) = inr (d, ap is_char e, (λ k. let m : 9 ≡ 60 = sym e ∙ k in omega arith), (λ k. let m : 9 ≡ 38 = sym e ∙ k in omega arith), (λ k. eqb-false 9 quote (quote_differs quote 9 q refl refl) (sym e ∙ k)), sym (normal_blank d (inl e)), refl)
space_is quote d q (inr e) = inr (d, ap is_char e, (λ k. let m : 10 ≡ 60 = sym e ∙ k in omega arith), (λ k. let m : 10 ≡ 38 = sym e ∙ k in omega arith), (λ k. eqb-false 10 quote (quote_differs quote 10 q refl refl) (sym e ∙ k)), sym (normal_blank d (inr (inl e))), refl)

prepends_reference : (quote : ℕ) (cs : List ℕ) (s : ℕ × List ℕ) → reference_at cs ≡ Some s → Prepends quote (38 ∷ cs) s
prepends_reference quote cs s e =
    let r = reference_takes cs s e in
    let front : List ℕ = 38 ∷ r.0 in
    (front, ap (λ (t : List ℕ). 38 ∷ t) r.2, λ inside vs rest at h. (front, line_ends inside, inl r.1, h, ends_front_again front inside (reference_all 13 s.0 front among_return refl r.1)))

prepends_blank : (quote d : ℕ) (cs : List ℕ) → IsQuote quote → (d ≡ 9) ⊎ (d ≡ 10) → Prepends quote (d ∷ cs) (32, cs)
prepends_blank quote d cs q at = (d ∷ [], refl, λ inside vs rest e h. (d ∷ [], line_ends inside, space_is quote d q at, h, ends_other d inside (no_return at)))
  where
    no_return : (d ≡ 9) ⊎ (d ≡ 10) → eqb d 13 ≡ false
    no_return (inl e) = ap (λ (x : ℕ). eqb x 13) e
    no_return (inr e) = ap (λ (x : ℕ). eqb x 13) e

feed_inside : (quote : ℕ) (inside rest : List ℕ) → IsQuote quote → past_feed (inside ++ (quote ∷ rest)) ≡ inside ++ (quote ∷ rest) → past_feed inside ≡ inside
feed_inside quote [] rest q e = refl
feed_inside quote (c ∷ cs) rest q e = by_test (eqb c 10) refl e
  where
    by_test : (v : Bool) → eqb c 10 ≡ v → cond v (cs ++ (quote ∷ rest)) (c ∷ (cs ++ (quote ∷ rest))) ≡ c ∷ (cs ++ (quote ∷ rest)) → past_feed (c ∷ cs) ≡ c ∷ cs
    by_test true f h = let k = ap length h in absurd (omega arith)
    by_test false f h = feed_is c cs f

prepends_return : (quote : ℕ) (cs : List ℕ) → IsQuote quote → Prepends quote (13 ∷ cs) (32, past_feed cs)
prepends_return quote cs q = by_feed cs
  where
    alone : (ds : List ℕ) → past_feed ds ≡ ds → Prepends quote (13 ∷ ds) (32, ds)
    alone ds e = (
      13 ∷ [],
      refl,
      λ inside vs rest at h.
          let is : past_feed inside ≡ inside = feed_inside quote inside rest q (ap past_feed (sym at) ∙ e ∙ at) in
          (10 ∷ [], line_ends inside, space_is quote 10 q (inr refl), h, ap (λ (t : List ℕ). 10 ∷ t) (ends_after inside is)),
    )

    by_test : (c : ℕ) (ds : List ℕ) (v : Bool) → eqb c 10 ≡ v → Prepends quote (13 ∷ c ∷ ds) (32, cond v ds (c ∷ ds))
    by_test c ds true f =
        let at : c ≡ 10 = eqb-true c 10 f in
        (13 ∷ 10 ∷ [], ap (λ (x : ℕ). 13 ∷ x ∷ ds) at, λ inside vs rest e h. (10 ∷ [], line_ends inside, space_is quote 10 q (inr refl), h, refl))
    by_test c ds false f = alone (c ∷ ds) (feed_is c ds f)

    by_feed : (ds : List ℕ) → Prepends quote (13 ∷ ds) (32, past_feed ds)
    by_feed [] = alone [] refl
    by_feed (c ∷ ds) = by_test c ds (eqb c 10) refl

special_takes : (quote : ℕ) (cs : List ℕ) (s : ℕ × List ℕ) → IsQuote quote → special_at cs ≡ Some s → Prepends quote cs s
unfolding special_at
special_takes quote [] s q e = absurd cc
special_takes quote (c ∷ cs) s q e = by_amp (eqb c 38) refl e
  where
    by_blank : (v : Bool) → (eqb c 9 || eqb c 10) ≡ v → cond v (Some (32, cs)) None ≡ Some s → Prepends quote (c ∷ cs) s
    by_blank true f h = subst (Prepends quote (c ∷ cs)) (some_is (32, cs) s h) (prepends_blank quote c cs q (which f))
      where
        which : (eqb c 9 || eqb c 10) ≡ true → (c ≡ 9) ⊎ (c ≡ 10)
        which f = elim (either (eqb c 9) (eqb c 10) f) [ inl k ↦ inl (eqb-true c 9 k) | inr k ↦ inr (eqb-true c 10 k) ]
    by_blank false f h = absurd cc

    by_return : (v : Bool) → eqb c 13 ≡ v → cond v (Some (32, past_feed cs)) (cond (eqb c 9 || eqb c 10) (Some (32, cs)) None) ≡ Some s → Prepends quote (c ∷ cs) s
    by_return true f h = subst (λ (x : ℕ). Prepends quote (x ∷ cs) s) (sym (eqb-true c 13 f)) (subst (Prepends quote (13 ∷ cs)) (some_is (32, past_feed cs) s h) (prepends_return quote cs q))
    by_return false f h = by_blank (eqb c 9 || eqb c 10) refl h

    by_amp : (v : Bool) → eqb c 38 ≡ v → cond v (reference_at cs) (cond (eqb c 13) (Some (32, past_feed cs)) (cond (eqb c 9 || eqb c 10) (Some (32, cs)) None)) ≡ Some s → Prepends quote (c ∷ cs) s
    by_amp true f h = subst (λ (x : ℕ). Prepends quote (x ∷ cs) s) (sym (eqb-true c 38 f)) (prepends_reference quote cs s h)
    by_amp false f h = by_return (eqb c 13) refl h

front_gave : (front : List ℕ) (read : Option (List ℕ × List ℕ)) (x : List ℕ × List ℕ) → with_front front read ≡ Some x → (y : List ℕ × List ℕ) × (read ≡ Some y) × (x ≡ (front ++ y.0, y.1))
front_gave front None x e = absurd cc
front_gave front (Some y) x e = (y, refl, sym (some_is (front ++ y.0, y.1) x e))

takes_special : (quote : ℕ) (cs : List ℕ) (s : ℕ × List ℕ) (y : List ℕ × List ℕ) → Prepends quote cs s → TakesValue quote s.1 y → TakesValue quote cs (encode_utf8 s.0 ++ y.0, y.1)
takes_special quote cs s y (front, at, spells) (inside, vs, spelled, value, rest) =
    (front ++ inside, s.0 ∷ vs, spells inside vs y.1 rest spelled, ap (λ (t : List ℕ). encode_utf8 s.0 ++ t) value, at ∙ ap (λ (t : List ℕ). front ++ t) rest ∙ sym (append_assoc front inside (quote ∷ y.1)))

-- one of what isn't read as it is written, a run, and the rest of the value
tail_step : (quote : ℕ) (cs run : List ℕ) (s : ℕ × List ℕ) (y x : List ℕ × List ℕ) → Prepends quote cs s → TakesValue quote s.1 (run ++ y.0, y.1)
    → x ≡ ((encode_utf8 s.0 ++ run) ++ y.0, y.1) → TakesValue quote cs x
tail_step quote cs run s y x special value is =
    subst (TakesValue quote cs) (ap (λ (t : List ℕ). (t, y.1)) (sym (append_assoc (encode_utf8 s.0) run y.0)) ∙ sym is) (takes_special quote cs s (run ++ y.0, y.1) special value)

tail_after : (n quote : ℕ) (cs : List ℕ) (x : List ℕ × List ℕ) → IsQuote quote → ((ds : List ℕ) (y : List ℕ × List ℕ) → tail_at n quote ds ≡ Some y → TakesValue quote ds y)
    → (s : ℕ × List ℕ) → special_at cs ≡ Some s → with_front (encode_utf8 s.0 ++ encode_utf8_all (taken (is_value quote) s.1)) (tail_at n quote (past (is_value quote) s.1)) ≡ Some x → TakesValue quote cs x
tail_after n quote cs x q ih s special read =
    from (front_gave (encode_utf8 s.0 ++ encode_utf8_all (taken (is_value quote) s.1)) (tail_at n quote (past (is_value quote) s.1)) x read)
  where
    from : (y : List ℕ × List ℕ) × (tail_at n quote (past (is_value quote) s.1) ≡ Some y) × (x ≡ ((encode_utf8 s.0 ++ encode_utf8_all (taken (is_value quote) s.1)) ++ y.0, y.1)) → TakesValue quote cs x
    from (y, more, is) =
        tail_step quote cs (encode_utf8_all (taken (is_value quote) s.1)) s y x (special_takes quote cs s q special) (takes_run quote s.1 y (ih (past (is_value quote) s.1) y more)) is

tail_takes : (n quote : ℕ) (cs : List ℕ) (x : List ℕ × List ℕ) → IsQuote quote → tail_at n quote cs ≡ Some x → TakesValue quote cs x
unfolding tail_at
tail_takes zero quote cs x q e = absurd cc
tail_takes (suc n) quote cs x q e = by_end (after (quote ∷ []) cs) refl e (λ ds y h. tail_takes n quote ds y q h)
  where
    from : ((ds : List ℕ) (y : List ℕ × List ℕ) → tail_at n quote ds ≡ Some y → TakesValue quote ds y)
        → (s : ℕ × List ℕ) × (special_at cs ≡ Some s) × (with_front (encode_utf8 s.0 ++ encode_utf8_all (taken (is_value quote) s.1)) (tail_at n quote (past (is_value quote) s.1)) ≡ Some x) → TakesValue quote cs x
    from ih (s, special, read) = tail_after n quote cs x q ih s special read

    by_end : (o : Option (List ℕ)) → after (quote ∷ []) cs ≡ o → ended o (special_at cs >>= λ s. with_front (encode_utf8 s.0 ++ encode_utf8_all (taken (is_value quote) s.1)) (tail_at n quote (past (is_value quote) s.1))) ≡ Some x
        → ((ds : List ℕ) (y : List ℕ × List ℕ) → tail_at n quote ds ≡ Some y → TakesValue quote ds y) → TakesValue quote cs x
    by_end (Some rest) found h ih = subst (TakesValue quote cs) (some_is ([], rest) x h) ([], [], refl, refl, after_takes (quote ∷ []) cs rest found)
    by_end None found h ih = from ih (bind_some (special_at cs) (λ s. with_front (encode_utf8 s.0 ++ encode_utf8_all (taken (is_value quote) s.1)) (tail_at n quote (past (is_value quote) s.1))) x h)

-- ---- values, and what stands before them

pub value_takes : (quote : ℕ) (cs : List ℕ) (x : List ℕ × List ℕ) → IsQuote quote → value_at quote cs ≡ Some x → TakesValue quote cs x
unfolding value_at
value_takes quote cs x q e =
    let b = front_gave (encode_utf8_all (taken (is_value quote) cs)) (tail_at (width cs) quote (past (is_value quote) cs)) x e in
    subst (TakesValue quote cs) (sym b.2) (takes_run quote cs b.0 (tail_takes (width cs) quote (past (is_value quote) cs) b.0 q b.1))

pub value_again : (quote : ℕ) (inside vs rest : List ℕ) → IsQuote quote → SpellsValueChars quote vs (line_ends inside) → value_at quote (inside ++ (quote ∷ rest)) ≡ Some (encode_utf8_all vs, rest)
unfolding value_at
value_again quote inside vs rest q h =
    let long : length inside < width (inside ++ (quote ∷ rest)) = omega (arith, length-le-encodes (inside ++ (quote ∷ rest)), length-append inside (quote ∷ rest)) in
    values_again vs (width (inside ++ (quote ∷ rest))) quote inside q h long rest

pub quote_takes : (cs : List ℕ) (x : ℕ × List ℕ) → quote_at cs ≡ Some x → IsQuote x.0 × (cs ≡ x.0 ∷ x.1)
unfolding quote_at
quote_takes [] x e = absurd cc
quote_takes (c ∷ cs) x e =
    let g = passed (eqb c 0x22 || eqb c 0x27) (Some (c, cs)) x e in
    subst (λ (y : ℕ × List ℕ). IsQuote y.0 × (c ∷ cs ≡ y.0 ∷ y.1)) (some_is (c, cs) x g.1) (which g.0, refl)
  where
    which : (eqb c 0x22 || eqb c 0x27) ≡ true → IsQuote c
    which f = elim (either (eqb c 0x22) (eqb c 0x27) f) [ inl k ↦ inl (eqb-true c 0x22 k) | inr k ↦ inr (eqb-true c 0x27 k) ]

pub quote_again : (quote : ℕ) (rest : List ℕ) → IsQuote quote → quote_at (quote ∷ rest) ≡ Some (quote, rest)
unfolding quote_at
quote_again quote rest (inl e) = ap (λ (q : ℕ). quote_at (q ∷ rest)) e ∙ ap (λ (q : ℕ). Some (q, rest)) (sym e)
quote_again quote rest (inr e) = ap (λ (q : ℕ). quote_at (q ∷ rest)) e ∙ ap (λ (q : ℕ). Some (q, rest)) (sym e)

pub equals_takes : (cs rest : List ℕ) → equals_at cs ≡ Some rest → (text : List ℕ) × IsEquals text × (cs ≡ text ++ rest)
unfolding equals_at
equals_takes cs rest e =
    let a = bind_some (after (codes "=") (past is_blank cs)) (λ x. Some (past is_blank x)) rest e in
    let at : past is_blank cs ≡ 61 ∷ a.0 = after_takes (codes "=") (past is_blank cs) a.0 a.1 in
    let before = taken is_blank cs in
    let later = taken is_blank a.0 in
    let all : cs ≡ (before ++ codes "=" ++ later) ++ past is_blank a.0 = taken_past is_blank cs ∙ ap (λ (t : List ℕ). before ++ t) (at ∙ ap (λ (t : List ℕ). 61 ∷ t) (taken_past is_blank a.0)) ∙ regroup before later (past is_blank a.0) in
    (before ++ codes "=" ++ later, (before, later, taken_all is_blank cs, taken_all is_blank a.0, refl), all ∙ ap (λ (t : List ℕ). (before ++ codes "=" ++ later) ++ t) (some_is (past is_blank a.0) rest a.2))
  where
    regroup : (a b c : List ℕ) → a ++ (61 ∷ (b ++ c)) ≡ (a ++ codes "=" ++ b) ++ c
    regroup a b c = simp append_assoc

equals_stops : is_blank 61 ≡ false
unfolding is_blank
equals_stops = refl

pub equals_again : (text rest : List ℕ) → IsEquals text → Stops is_blank rest → equals_at (text ++ rest) ≡ Some rest
unfolding equals_at
equals_again text rest (before, later, ba, bb, e) s =
    let split : text ++ rest ≡ before ++ (61 ∷ (later ++ rest)) = rw e (simp append_assoc) in
    let one = run_again is_blank before (61 ∷ (later ++ rest)) ba equals_stops in
    let two = run_again is_blank later rest bb s in
    ap (λ (t : List ℕ). after (codes "=") (past is_blank t) >>= λ x. Some (past is_blank x)) split ∙ rw (one.1, two.1) refl
