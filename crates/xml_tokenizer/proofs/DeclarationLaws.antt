-- What is read as an XML declaration is spelled so, and what is spelled so is read.
use Rattle.std.proofs.Common.{◌≡◌, ◌≢◌, ℕ, Bool, true, false, cond, ◌⊎◌, List, [], ◌∷◌, ◌++◌, Option, Some, None, refl, sym, ap, subst, ◌∙◌, append_assoc, inl, inr}
use Rattle.std.specs.Prelude.{IsTrue, codes, encode_utf8_all}
use Rattle.std.specs.List.{list_all}
use Rattle.xmp_values.specs.Characters.{is_blank, is_name_start, is_name_char}
use Rattle.xml_grammar.specs.Spelling.{AreBlank, IsGap, IsEquals, IsQuote, quoted, is_digit, SpellsGiven, IsVersion, SpellsEncoding, IsStandalone}
use Rattle.xml_grammar.proofs.Splits.{both, all_head, Stops}
use Rattle.xml_grammar.proofs.ValueParts.{gap_blank, quote_stops}
use Rattle.xml_grammar.proofs.HeadParts.{HeadText}
use Rattle.xml_tokenizer.specs.Declarations.{given_at, quoted_run_at, version_at, encoding_at, optional, answer_at, standalone_at, or_here, declaration_at}
use Rattle.xml_tokenizer.specs.Runs.{taken, past, after, starts_with}
use Rattle.xml_tokenizer.specs.Sections.{starts_blank}
use Rattle.xml_tokenizer.specs.Steps.{◌>>=◌}
use Rattle.xml_tokenizer.specs.Values.{equals_at, quote_at}
use Rattle.xml_tokenizer.proofs.Sought.{taken_past}
use Rattle.xml_tokenizer.proofs.Steps.{bind_some, some_is, passed, either_gave, run_again, taken_all}
use Rattle.xml_tokenizer.proofs.ValueLaws.{equals_takes, equals_again, quote_takes, quote_again}
use Rattle.xml_tokenizer.proofs.Words.{after_takes, after_again}

-- ---- a word, `=` and a quote

abbrev pub TakesGiven : List ℕ → List ℕ → ℕ × List ℕ → Type 0
TakesGiven word cs x = (gap : List ℕ) × (equals : List ℕ) × IsGap gap × IsEquals equals × IsQuote x.0 × (cs ≡ gap ++ (word ++ (equals ++ (x.0 ∷ x.1))))

gap_of : (cs : List ℕ) → starts_blank cs ≡ true → IsGap (taken is_blank cs)
gap_of [] e = absurd cc
gap_of (c ∷ cs) e =
    let k : taken is_blank (c ∷ cs) ≡ c ∷ taken is_blank cs = rw e refl in
    subst IsGap (sym k) (subst AreBlank k (taken_all is_blank (c ∷ cs)))

given_takes : (word cs : List ℕ) (x : ℕ × List ℕ) → given_at word cs ≡ Some x → TakesGiven word cs x
unfolding given_at
given_takes word cs x e =
    let g = passed (starts_blank cs) (after word (past is_blank cs) >>= λ y. equals_at y >>= λ z. quote_at z) x e in
    let a = bind_some (after word (past is_blank cs)) (λ y. equals_at y >>= λ z. quote_at z) x g.1 in
    let b = bind_some (equals_at a.0) (λ z. quote_at z) x a.2 in
    let w = after_takes word (past is_blank cs) a.0 a.1 in
    let q = equals_takes a.0 b.0 b.1 in
    let k = quote_takes b.0 x b.2 in
    let gap = taken is_blank cs in
    (gap, q.0, gap_of cs g.0, q.1, k.0, taken_past is_blank cs ∙ ap (λ (t : List ℕ). gap ++ t) (w ∙ ap (λ (t : List ℕ). word ++ t) (q.2 ∙ ap (λ (t : List ℕ). q.0 ++ t) k.1)))

-- a word that no blank begins
abbrev Bare : List ℕ → Type 0
Bare word = (rest : List ℕ) → Stops is_blank (word ++ rest)

gap_starts : (gap rest : List ℕ) → IsGap gap → starts_blank (gap ++ rest) ≡ true
gap_starts [] rest h = absurd h
gap_starts (c ∷ gap) rest h = all_head is_blank c gap h

given_again : (word gap equals rest : List ℕ) (quote : ℕ) → Bare word → IsGap gap → IsEquals equals → IsQuote quote → given_at word (gap ++ (word ++ (equals ++ (quote ∷ rest)))) ≡ Some (quote, rest)
unfolding given_at
given_again word gap equals rest quote bare hg he hq =
    let k = run_again is_blank gap (word ++ (equals ++ (quote ∷ rest))) (gap_blank gap hg) (bare (equals ++ (quote ∷ rest))) in
    let q = equals_again equals (quote ∷ rest) he (quote_stops quote rest hq) in
    rw (gap_starts gap (word ++ (equals ++ (quote ∷ rest))) hg, k.1, after_again word (equals ++ (quote ∷ rest)), q) (quote_again quote rest hq)

-- another word stands there
given_other : (word gap rest : List ℕ) → AreBlank gap → Stops is_blank rest → after word rest ≡ None → given_at word (gap ++ rest) ≡ None
unfolding given_at
given_other word gap rest h s none =
    let k = run_again is_blank gap rest h s in
    let m : after word (past is_blank (gap ++ rest)) ≡ None = ap (after word) k.1 ∙ none in
    by_blank (starts_blank (gap ++ rest)) (after word (past is_blank (gap ++ rest))) m
  where
    by_blank : (v : Bool) (o : Option (List ℕ)) → o ≡ None → cond v (o >>= λ x. equals_at x >>= λ y. quote_at y) None ≡ None
    by_blank true None e = refl
    by_blank true (Some x) e = absurd cc
    by_blank false o e = refl

-- ---- a run in quotes

abbrev pub TakesQuoted : (ℕ → Bool) → ℕ → List ℕ → List ℕ × List ℕ → Type 0
TakesQuoted p quote cs x = (run : List ℕ) × (run ≢ []) × IsTrue (list_all p run) × (x.0 ≡ encode_utf8_all run) × (cs ≡ run ++ (quote ∷ x.1))

pub some_taken : (p : ℕ → Bool) (cs : List ℕ) → starts_with p cs ≡ true → taken p cs ≢ []
some_taken p [] e h = absurd cc
some_taken p (c ∷ cs) e h = let k : taken p (c ∷ cs) ≡ c ∷ taken p cs = rw e refl in absurd cc

quoted_takes : (p : ℕ → Bool) (quote : ℕ) (cs : List ℕ) (x : List ℕ × List ℕ) → quoted_run_at p quote cs ≡ Some x → TakesQuoted p quote cs x
unfolding quoted_run_at
quoted_takes p quote cs x e =
    let g = passed (starts_with p cs) (after (quote ∷ []) (past p cs) >>= λ rest. Some (encode_utf8_all (taken p cs), rest)) x e in
    let a = bind_some (after (quote ∷ []) (past p cs)) (λ rest. Some (encode_utf8_all (taken p cs), rest)) x g.1 in
    subst (TakesQuoted p quote cs) (some_is (encode_utf8_all (taken p cs), a.0) x a.2)
    (taken p cs, some_taken p cs g.0, taken_all p cs, refl, taken_past p cs ∙ ap (λ (t : List ℕ). taken p cs ++ t) (after_takes (quote ∷ []) (past p cs) a.0 a.1))

some_starts : (p : ℕ → Bool) (run rest : List ℕ) → run ≢ [] → IsTrue (list_all p run) → starts_with p (run ++ rest) ≡ true
some_starts p [] rest some h = absurd (some refl)
some_starts p (c ∷ cs) rest some h = (both (p c) (list_all p cs) h).0

quoted_again : (p : ℕ → Bool) (quote : ℕ) (run rest : List ℕ) → p quote ≡ false → run ≢ [] → IsTrue (list_all p run) → quoted_run_at p quote (run ++ (quote ∷ rest)) ≡ Some (encode_utf8_all run, rest)
unfolding quoted_run_at
quoted_again p quote run rest fails some h =
    let k = run_again p run (quote ∷ rest) h fails in
    rw (some_starts p run (quote ∷ rest) some h, k.0, k.1, after_again (quote ∷ []) rest) refl

at_quotes : (p : ℕ → Bool) → p 0x22 ≡ false → p 0x27 ≡ false → (quote : ℕ) → IsQuote quote → p quote ≡ false
at_quotes p a b quote (inl e) = ap p e ∙ a
at_quotes p a b quote (inr e) = ap p e ∙ b

quote_no_name : (quote : ℕ) → IsQuote quote → is_name_char quote ≡ false
unfolding is_name_char is_name_start
quote_no_name quote q = at_quotes is_name_char refl refl quote q

-- the shape of a word with a value
given_shape : (gap word equals value rest : List ℕ) (quote : ℕ) → (gap ++ word ++ equals ++ quoted quote value) ++ rest ≡ gap ++ (word ++ (equals ++ (quote ∷ (value ++ (quote ∷ rest)))))
given_shape gap word equals value rest quote = simp append_assoc

-- ---- version

bare_version : Bare (codes "version")
unfolding is_blank
bare_version rest = refl

bare_encoding : Bare (codes "encoding")
unfolding is_blank
bare_encoding rest = refl

bare_standalone : Bare (codes "standalone")
unfolding is_blank
bare_standalone rest = refl

version_takes : (cs rest : List ℕ) → version_at cs ≡ Some rest → (text : List ℕ) × IsVersion text × (cs ≡ text ++ rest)
unfolding version_at
version_takes cs rest e =
    let a = bind_some (given_at (codes "version") cs) (λ quote. after (codes "1.") quote.1 >>= λ digits. quoted_run_at (is_digit 10) quote.0 digits >>= λ version. Some version.1) rest e in
    let b = bind_some (after (codes "1.") a.0.1) (λ digits. quoted_run_at (is_digit 10) a.0.0 digits >>= λ version. Some version.1) rest a.2 in
    let d = bind_some (quoted_run_at (is_digit 10) a.0.0 b.0) (λ version. Some version.1) rest b.2 in
    let g = given_takes (codes "version") cs a.0 a.1 in
    let r = quoted_takes (is_digit 10) a.0.0 b.0 d.0 d.1 in
    let value : List ℕ = codes "1." ++ r.0 in
    let text : List ℕ = g.0 ++ codes "version" ++ g.1 ++ quoted a.0.0 value in
    let inside : a.0.1 ≡ value ++ (a.0.0 ∷ d.0.1) = after_takes (codes "1.") a.0.1 b.0 b.1 ∙ ap (λ (t : List ℕ). codes "1." ++ t) r.4 in
    let all : cs ≡ text ++ d.0.1 = g.5 ∙ ap (λ (t : List ℕ). g.0 ++ (codes "version" ++ (g.1 ++ (a.0.0 ∷ t)))) inside ∙ sym (given_shape g.0 (codes "version") g.1 value d.0.1 a.0.0) in
    (text, (r.0, r.1, r.2, (g.0, g.1, a.0.0, g.2, g.3, g.4, refl)), all ∙ ap (λ (t : List ℕ). text ++ t) (some_is d.0.1 rest d.2))

version_again : (text rest : List ℕ) → IsVersion text → version_at (text ++ rest) ≡ Some rest
unfolding version_at
version_again text rest (digits, some, all, (gap, equals, quote, hg, he, hq, at)) =
    let value : List ℕ = codes "1." ++ digits in
    let split : text ++ rest ≡ gap ++ (codes "version" ++ (equals ++ (quote ∷ (value ++ (quote ∷ rest))))) = ap (λ (t : List ℕ). t ++ rest) at ∙ given_shape gap (codes "version") equals value rest quote in
    let g = given_again (codes "version") gap equals (value ++ (quote ∷ rest)) quote bare_version hg he hq in
    let r = quoted_again (is_digit 10) quote digits rest (at_quotes (is_digit 10) refl refl quote hq) some all in
    ap version_at split ∙ rw (g, r) refl

-- ---- encoding

abbrev pub TakesEncoding : List ℕ → List ℕ × List ℕ → Type 0
TakesEncoding cs x = (text : List ℕ) × SpellsEncoding (Some x.0) text × (cs ≡ text ++ x.1)

encoding_takes : (cs : List ℕ) (x : List ℕ × List ℕ) → encoding_at cs ≡ Some x → TakesEncoding cs x
unfolding encoding_at
encoding_takes cs x e =
    let a = bind_some (given_at (codes "encoding") cs) (λ quote. quoted_run_at is_name_char quote.0 quote.1) x e in
    let g = given_takes (codes "encoding") cs a.0 a.1 in
    let r = quoted_takes is_name_char a.0.0 a.0.1 x a.2 in
    let text : List ℕ = g.0 ++ codes "encoding" ++ g.1 ++ quoted a.0.0 r.0 in
    let all : cs ≡ text ++ x.1 = g.5 ∙ ap (λ (t : List ℕ). g.0 ++ (codes "encoding" ++ (g.1 ++ (a.0.0 ∷ t)))) r.4 ∙ sym (given_shape g.0 (codes "encoding") g.1 r.0 x.1 a.0.0) in
    (text, (r.0, r.1, r.2, r.3, (g.0, g.1, a.0.0, g.2, g.3, g.4, refl)), all)

encoding_again : (encoding text rest : List ℕ) → SpellsEncoding (Some encoding) text → encoding_at (text ++ rest) ≡ Some (encoding, rest)
unfolding encoding_at
encoding_again encoding text rest (name, some, all, is, (gap, equals, quote, hg, he, hq, at)) =
    let split : text ++ rest ≡ gap ++ (codes "encoding" ++ (equals ++ (quote ∷ (name ++ (quote ∷ rest))))) = ap (λ (t : List ℕ). t ++ rest) at ∙ given_shape gap (codes "encoding") equals name rest quote in
    let g = given_again (codes "encoding") gap equals (name ++ (quote ∷ rest)) quote bare_encoding hg he hq in
    let r = quoted_again is_name_char quote name rest (quote_no_name quote hq) some all in
    ap encoding_at split ∙ rw (g, r) (ap (λ (t : List ℕ). Some (t, rest)) (sym is))

encoding_none : (gap rest : List ℕ) → AreBlank gap → Stops is_blank rest → after (codes "encoding") rest ≡ None → encoding_at (gap ++ rest) ≡ None
unfolding encoding_at
encoding_none gap rest h s none = rw (given_other (codes "encoding") gap rest h s none) refl

-- ---- standalone

abbrev pub TakesStandalone : List ℕ → List ℕ → Type 0
TakesStandalone cs rest = (text : List ℕ) × IsStandalone text × (cs ≡ text ++ rest)

answer_takes : (cs rest : List ℕ) → answer_at cs ≡ Some rest → (word : List ℕ) × ((word ≡ codes "yes") ⊎ (word ≡ codes "no")) × (cs ≡ word ++ rest)
answer_takes cs rest e = from (either_gave (after (codes "yes") cs) (after (codes "no") cs) rest e)
  where
    from : (after (codes "yes") cs ≡ Some rest) ⊎ ((after (codes "yes") cs ≡ None) × (after (codes "no") cs ≡ Some rest)) → (word : List ℕ) × ((word ≡ codes "yes") ⊎ (word ≡ codes "no")) × (cs ≡ word ++ rest)
    from (inl h) = (codes "yes", inl refl, after_takes (codes "yes") cs rest h)
    from (inr h) = (codes "no", inr refl, after_takes (codes "no") cs rest h.1)

standalone_takes : (cs rest : List ℕ) → standalone_at cs ≡ Some rest → TakesStandalone cs rest
unfolding standalone_at
standalone_takes cs rest e =
    let a = bind_some (given_at (codes "standalone") cs) (λ quote. answer_at quote.1 >>= λ x. after (quote.0 ∷ []) x) rest e in
    let b = bind_some (answer_at a.0.1) (λ x. after (a.0.0 ∷ []) x) rest a.2 in
    let g = given_takes (codes "standalone") cs a.0 a.1 in
    let w = answer_takes a.0.1 b.0 b.1 in
    let inside : a.0.1 ≡ w.0 ++ (a.0.0 ∷ rest) = w.2 ∙ ap (λ (t : List ℕ). w.0 ++ t) (after_takes (a.0.0 ∷ []) b.0 rest b.2) in
    let text : List ℕ = g.0 ++ codes "standalone" ++ g.1 ++ quoted a.0.0 w.0 in
    let all : cs ≡ text ++ rest = g.5 ∙ ap (λ (t : List ℕ). g.0 ++ (codes "standalone" ++ (g.1 ++ (a.0.0 ∷ t)))) inside ∙ sym (given_shape g.0 (codes "standalone") g.1 w.0 rest a.0.0) in
    let given : SpellsGiven (codes "standalone") w.0 text = (g.0, g.1, a.0.0, g.2, g.3, g.4, refl) in
    (text, by_word w.0 text w.1 given, all)
  where
    by_word : (word text : List ℕ) → (word ≡ codes "yes") ⊎ (word ≡ codes "no") → SpellsGiven (codes "standalone") word text → IsStandalone text
    by_word word text (inl e) h = inr (inl (subst (λ (w : List ℕ). SpellsGiven (codes "standalone") w text) e h))
    by_word word text (inr e) h = inr (inr (subst (λ (w : List ℕ). SpellsGiven (codes "standalone") w text) e h))

given_standalone : (word text rest : List ℕ) → ((later : List ℕ) → answer_at (word ++ later) ≡ Some later) → SpellsGiven (codes "standalone") word text → standalone_at (text ++ rest) ≡ Some rest
unfolding standalone_at
given_standalone word text rest answer (gap, equals, quote, hg, he, hq, at) =
    let split : text ++ rest ≡ gap ++ (codes "standalone" ++ (equals ++ (quote ∷ (word ++ (quote ∷ rest))))) = ap (λ (t : List ℕ). t ++ rest) at ∙ given_shape gap (codes "standalone") equals word rest quote in
    let g = given_again (codes "standalone") gap equals (word ++ (quote ∷ rest)) quote bare_standalone hg he hq in
    ap standalone_at split ∙ rw (g, answer (quote ∷ rest)) (after_again (quote ∷ []) rest)

-- after `standalone` or without it, up to the end
standalone_again : (text gap rest : List ℕ) → IsStandalone text → AreBlank gap → or_here (text ++ (gap ++ (codes "?>" ++ rest))) (standalone_at (text ++ (gap ++ (codes "?>" ++ rest)))) ≡ gap ++ (codes "?>" ++ rest)
unfolding standalone_at is_blank
standalone_again text gap rest (inl none) h =
    let later : List ℕ = gap ++ (codes "?>" ++ rest) in
    let g = given_other (codes "standalone") gap (codes "?>" ++ rest) h refl refl in
    ap (λ (t : List ℕ). or_here (t ++ later) (standalone_at (t ++ later))) none ∙ rw g refl
standalone_again text gap rest (inr (inl given)) h = rw (given_standalone (codes "yes") text (gap ++ (codes "?>" ++ rest)) (λ later. refl) given) refl
standalone_again text gap rest (inr (inr given)) h = rw (given_standalone (codes "no") text (gap ++ (codes "?>" ++ rest)) (λ later. refl) given) refl

-- what stands after the version begins with no `encoding`
no_encoding : (alone gap rest : List ℕ) → IsStandalone alone → AreBlank gap → encoding_at (alone ++ (gap ++ (codes "?>" ++ rest))) ≡ None
unfolding is_blank
no_encoding alone gap rest (inl none) h = ap (λ (t : List ℕ). encoding_at (t ++ (gap ++ (codes "?>" ++ rest)))) none ∙ encoding_none gap (codes "?>" ++ rest) h refl refl
no_encoding alone gap rest (inr (inl given)) h = given_no_encoding (codes "yes") alone (gap ++ (codes "?>" ++ rest)) given
  where
    given_no_encoding : (word text rest : List ℕ) → SpellsGiven (codes "standalone") word text → encoding_at (text ++ rest) ≡ None
    given_no_encoding word text rest (gap, equals, quote, hg, he, hq, at) =
        ap encoding_at (ap (λ (t : List ℕ). t ++ rest) at ∙ given_shape gap (codes "standalone") equals word rest quote) ∙ encoding_none gap (codes "standalone" ++ (equals ++ (quote ∷ (word ++ (quote ∷ rest))))) (gap_blank gap hg) refl refl
no_encoding alone gap rest (inr (inr given)) h = given_no_encoding (codes "no") alone (gap ++ (codes "?>" ++ rest)) given
  where
    given_no_encoding : (word text rest : List ℕ) → SpellsGiven (codes "standalone") word text → encoding_at (text ++ rest) ≡ None
    given_no_encoding word text rest (gap, equals, quote, hg, he, hq, at) =
        ap encoding_at (ap (λ (t : List ℕ). t ++ rest) at ∙ given_shape gap (codes "standalone") equals word rest quote) ∙ encoding_none gap (codes "standalone" ++ (equals ++ (quote ∷ (word ++ (quote ∷ rest))))) (gap_blank gap hg) refl refl

optional_again : (encoding : Option (List ℕ)) (named alone gap rest : List ℕ) → SpellsEncoding encoding named → IsStandalone alone → AreBlank gap
    → optional (named ++ (alone ++ (gap ++ (codes "?>" ++ rest)))) (encoding_at (named ++ (alone ++ (gap ++ (codes "?>" ++ rest))))) ≡ (encoding, alone ++ (gap ++ (codes "?>" ++ rest)))
optional_again None named alone gap rest h a b =
    ap (λ (t : List ℕ). optional (t ++ (alone ++ (gap ++ (codes "?>" ++ rest)))) (encoding_at (t ++ (alone ++ (gap ++ (codes "?>" ++ rest)))))) h ∙ rw (no_encoding alone gap rest a b) refl
optional_again (Some encoding) named alone gap rest h a b = rw (encoding_again encoding named (alone ++ (gap ++ (codes "?>" ++ rest))) h) refl

-- ---- the declaration, after `<?xml`

abbrev pub TakesDeclaration : List ℕ → Option (List ℕ) × List ℕ → Type 0
TakesDeclaration cs x = (front : List ℕ) × HeadText x.0 (codes "<?xml" ++ front) × (cs ≡ front ++ x.1)

optional_takes : (cs : List ℕ) (o : Option (List ℕ × List ℕ)) → encoding_at cs ≡ o → (text : List ℕ) × SpellsEncoding (optional cs o).0 text × (cs ≡ text ++ (optional cs o).1)
optional_takes cs None e = ([], refl, refl)
optional_takes cs (Some x) e = encoding_takes cs x e

here_takes : (cs : List ℕ) (o : Option (List ℕ)) → standalone_at cs ≡ o → TakesStandalone cs (or_here cs o)
here_takes cs None e = ([], inl refl, refl)
here_takes cs (Some rest) e = standalone_takes cs rest e

pub declaration_takes : (cs : List ℕ) (x : Option (List ℕ) × List ℕ) → declaration_at cs ≡ Some x → TakesDeclaration cs x
unfolding declaration_at
declaration_takes cs x e =
    let a = bind_some (version_at cs) (λ y. after (codes "?>") (past is_blank (or_here (optional y (encoding_at y)).1 (standalone_at (optional y (encoding_at y)).1))) >>= λ rest. Some ((optional y (encoding_at y)).0, rest)) x e in
    let named = optional a.0 (encoding_at a.0) in
    let alone = or_here named.1 (standalone_at named.1) in
    let b = bind_some (after (codes "?>") (past is_blank alone)) (λ rest. Some (named.0, rest)) x a.2 in
    let v = version_takes cs a.0 a.1 in
    let n = optional_takes a.0 (encoding_at a.0) refl in
    let s = here_takes named.1 (standalone_at named.1) refl in
    let gap = taken is_blank alone in
    let end : alone ≡ gap ++ (codes "?>" ++ b.0) = taken_past is_blank alone ∙ ap (λ (t : List ℕ). gap ++ t) (after_takes (codes "?>") (past is_blank alone) b.0 b.1) in
    let front : List ℕ = v.0 ++ n.0 ++ s.0 ++ gap ++ codes "?>" in
    let all : cs ≡ front ++ b.0 = v.2 ∙ ap (λ (t : List ℕ). v.0 ++ t) (n.2 ∙ ap (λ (t : List ℕ). n.0 ++ t) (s.2 ∙ ap (λ (t : List ℕ). s.0 ++ t) end)) ∙ regroup v.0 n.0 s.0 gap (codes "?>") b.0 in
    let text : codes "<?xml" ++ front ≡ codes "<?xml" ++ v.0 ++ n.0 ++ s.0 ++ gap ++ codes "?>" = regroup_front v.0 n.0 s.0 gap in
    subst (TakesDeclaration cs) (some_is (named.0, b.0) x b.2) (front, (v.0, n.0, s.0, gap, v.1, n.1, s.1, taken_all is_blank alone, text), all)
  where
    regroup : (a b c d e f : List ℕ) → a ++ (b ++ (c ++ (d ++ (e ++ f)))) ≡ (a ++ b ++ c ++ d ++ e) ++ f
    regroup a b c d e f = simp append_assoc

    regroup_front : (a b c d : List ℕ) → codes "<?xml" ++ (a ++ b ++ c ++ d ++ codes "?>") ≡ codes "<?xml" ++ a ++ b ++ c ++ d ++ codes "?>"
    regroup_front a b c d = refl

pub declaration_again : (encoding : Option (List ℕ)) (text : List ℕ) → HeadText encoding text → (front : List ℕ) × (text ≡ codes "<?xml" ++ front) × ((rest : List ℕ) → declaration_at (front ++ rest) ≡ Some (encoding, rest))
unfolding declaration_at is_blank
declaration_again encoding text (version, named, alone, gap, hv, hn, ha, hg, at) =
    let front : List ℕ = version ++ named ++ alone ++ gap ++ codes "?>" in (
      front,
      at,
      λ rest.
          let tail : List ℕ = gap ++ (codes "?>" ++ rest) in
          let split : front ++ rest ≡ version ++ (named ++ (alone ++ tail)) = simp append_assoc in
          let v = version_again version (named ++ (alone ++ tail)) hv in
          let n = optional_again encoding named alone gap rest hn ha hg in
          let s = standalone_again alone gap rest ha hg in
          let k = run_again is_blank gap (codes "?>" ++ rest) hg refl in
          ap declaration_at split ∙ rw (v, n, s, k.1) refl,
    )
