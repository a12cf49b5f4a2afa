-- At one place at most one XML declaration or instruction is spelled, and not both.
use Rattle.std.proofs.Common.{◌≡◌, ℕ, Bool, false, not, ◌⊎◌, List, [], ◌∷◌, ◌++◌, Option, Some, None, refl, sym, ap, subst, ◌∙◌, append_assoc, inl, inr, arith}
use Rattle.std.specs.Prelude.{IsTrue, IsFalse, codes, encode_utf8_all}
use Rattle.std.specs.List.{list_all}
use Rattle.std.specs.Str.{str_eq_ignore_ascii_case}
use Rattle.std.proofs.lemmas.Bool.{eq-eqb}
use Rattle.std.proofs.lemmas.List.{append_cancel_left}
use Rattle.xmp_values.specs.Characters.{is_blank, is_name_start, is_name_char, is_name_of}
use Rattle.xml_grammar.specs.Spelling.{Lacks, AreBlank, IsGap, IsQuote, quoted, is_digit, SpellsGiven, IsVersion, SpellsEncoding, IsStandalone, IsTarget, IsInstructionText}
use Rattle.xml_grammar.proofs.Splits.{all_head, all_tail, all_weaker, head_same, not_both, Stops, run_same, Longer, overlap, question_ended}
use Rattle.xml_grammar.proofs.Parts.{fails_blank, differs, name_all}
use Rattle.xml_grammar.proofs.ValueParts.{is_not, gap_blank, equals_row, quoted_same, quote_stops}

-- ---- words with a value in quotes

pub record NoQuotes (text : List ℕ) : Type 0 where
  pub double : IsTrue (list_all (is_not 0x22) text)
  pub single : IsTrue (list_all (is_not 0x27) text)

neither_quote : (quote : ℕ) (text : List ℕ) → IsQuote quote → NoQuotes text → IsTrue (list_all (is_not quote) text)
neither_quote quote text (inl e) n = subst (λ (q : ℕ). IsTrue (list_all (is_not q) text)) (sym e) n.double
neither_quote quote text (inr e) n = subst (λ (q : ℕ). IsTrue (list_all (is_not q) text)) (sym e) n.single

-- a word that no blank begins
abbrev Bare : List ℕ → Type 0
Bare word = (rest : List ℕ) → Stops is_blank (word ++ rest)

given_shape : (g w q v z : List ℕ) → g ++ w ++ q ++ v ++ z ≡ g ++ (w ++ (q ++ (v ++ z)))
given_shape g w q v z = append_assoc (g ++ w ++ q) v z ∙ append_assoc (g ++ w) q (v ++ z) ∙ append_assoc g w (q ++ (v ++ z))

given_row : (word v w a b c d : List ℕ) → Bare word → NoQuotes v → NoQuotes w → SpellsGiven word v a → SpellsGiven word w b → a ++ c ≡ b ++ d → (v ≡ w) × (a ≡ b) × (c ≡ d)
given_row word v w a b c d bare nv nw (gap, equals, quote, hg, he, hq, at) (gap', equals', quote', hg', he', hq', at') e =
    let row : gap ++ (word ++ (equals ++ (quoted quote v ++ c))) ≡ gap' ++ (word ++ (equals' ++ (quoted quote' w ++ d))) =
    sym (given_shape gap word equals (quoted quote v) c) ∙ ap (λ (t : List ℕ). t ++ c) (sym at) ∙ e ∙ ap (λ (t : List ℕ). t ++ d) at' ∙ given_shape gap' word equals' (quoted quote' w) d in
    let g = run_same is_blank gap gap' (word ++ (equals ++ (quoted quote v ++ c))) (word ++ (equals' ++ (quoted quote' w ++ d))) (gap_blank gap hg) (gap_blank gap' hg') (bare (equals ++ (quoted quote v ++ c))) (bare (equals' ++ (quoted quote' w ++ d))) row in
    let q = equals_row equals equals' (quoted quote v ++ c) (quoted quote' w ++ d) he he' (quote_stops quote (v ++ quote ∷ [] ++ c) hq) (quote_stops quote' (w ++ quote' ∷ [] ++ d) hq')
    (append_cancel_left word (equals ++ (quoted quote v ++ c)) (equals' ++ (quoted quote' w ++ d)) g.1) in
    let s = quoted_same quote quote' v w c d (neither_quote quote v hq nv) (neither_quote quote' w hq' nw) q.1 in
    let g0 : gap ≡ gap' = g.0 in
    let q0 : equals ≡ equals' = q.0 in
    let s0 : quote ≡ quote' = s.0 in
    let s1 : v ≡ w = s.1 in
    let same : gap ++ word ++ equals ++ quoted quote v ≡ gap' ++ word ++ equals' ++ quoted quote' w =
    ap (λ (t : List ℕ). t ++ word ++ equals ++ quoted quote v) g0 ∙ ap (λ (t : List ℕ). gap' ++ word ++ t ++ quoted quote v) q0
    ∙ ap (λ (t : ℕ). gap' ++ word ++ equals' ++ quoted t v) s0 ∙ ap (λ (t : List ℕ). gap' ++ word ++ equals' ++ quoted quote' t) s1 in
    (s.1, at ∙ same ∙ sym at', s.2)

-- white space, and then a character that is none
abbrev Leads : ℕ → List ℕ → Type 0
Leads z text = (gap : List ℕ) × (rest : List ℕ) × AreBlank gap × IsFalse (is_blank z) × (text ≡ gap ++ z ∷ rest)

leads_same : (y z : ℕ) (a b : List ℕ) → Leads y a → Leads z b → a ≡ b → y ≡ z
leads_same y z a b (gap, rest, blank, no_blank, at) (gap', rest', blank', no_blank', at') e =
    head_same y z rest rest' (run_same is_blank gap gap' (y ∷ rest) (z ∷ rest') blank blank' no_blank no_blank' (sym at ∙ e ∙ at')).1

given_leads : (z : ℕ) (word v a c : List ℕ) → IsFalse (is_blank z) → SpellsGiven (z ∷ word) v a → Leads z (a ++ c)
given_leads z word v a c bare (gap, equals, quote, hg, he, hq, at) =
    (gap, word ++ (equals ++ (quoted quote v ++ c)), gap_blank gap hg, bare, ap (λ (t : List ℕ). t ++ c) at ∙ given_shape gap (z ∷ word) equals (quoted quote v) c)

-- ---- an XML declaration

digits_no_quotes : (digits : List ℕ) → IsTrue (list_all (is_digit 10) digits) → NoQuotes digits
digits_no_quotes digits h = record {
  double = all_weaker (is_digit 10) (is_not 0x22) (λ x k. differs (is_digit 10) 0x22 refl x k) digits h;
  single = all_weaker (is_digit 10) (is_not 0x27) (λ x k. differs (is_digit 10) 0x27 refl x k) digits h;
}

version_no_quotes : (digits : List ℕ) → IsTrue (list_all (is_digit 10) digits) → NoQuotes (codes "1." ++ digits)
version_no_quotes digits h = let n = digits_no_quotes digits h in record { double = n.double; single = n.single }

name_no_quotes : (name : List ℕ) → IsTrue (list_all is_name_char name) → NoQuotes name
unfolding is_name_char is_name_start
name_no_quotes name h = record {
  double = all_weaker is_name_char (is_not 0x22) (λ x k. differs is_name_char 0x22 refl x k) name h;
  single = all_weaker is_name_char (is_not 0x27) (λ x k. differs is_name_char 0x27 refl x k) name h;
}

letters_bare : IsFalse (is_blank 0x76) × IsFalse (is_blank 0x65) × IsFalse (is_blank 0x73) × IsFalse (is_blank 0x3F)
unfolding is_blank
letters_bare = (refl, refl, refl, refl)

version_row : (a b c d : List ℕ) → IsVersion a → IsVersion b → a ++ c ≡ b ++ d → (a ≡ b) × (c ≡ d)
version_row a b c d (digits, some, all, h) (digits', some', all', k) e =
    let r = given_row (codes "version") (codes "1." ++ digits) (codes "1." ++ digits') a b c d (λ rest. letters_bare.0) (version_no_quotes digits all) (version_no_quotes digits' all') h k e in
    (r.1, r.2)

-- what may stand after the encoding
abbrev HeadEnds : List ℕ → Type 0
HeadEnds text = (alone : List ℕ) × (gap : List ℕ) × (more : List ℕ) × IsStandalone alone × AreBlank gap × (text ≡ alone ++ (gap ++ (codes "?>" ++ more)))

head_ends_leads : (text : List ℕ) → HeadEnds text → Leads 0x3F text ⊎ Leads 0x73 text
head_ends_leads text (alone, gap, more, inl none, blank, at) =
    inl (gap, 0x3E ∷ more, blank, letters_bare.3, at ∙ ap (λ (t : List ℕ). t ++ (gap ++ (codes "?>" ++ more))) none)
head_ends_leads text (alone, gap, more, inr (inl given), blank, at) =
    inr (subst (λ (t : List ℕ). Leads 0x73 t) (sym at) (given_leads 0x73 (codes "tandalone") (codes "yes") alone (gap ++ (codes "?>" ++ more)) letters_bare.2 given))
head_ends_leads text (alone, gap, more, inr (inr given), blank, at) =
    inr (subst (λ (t : List ℕ). Leads 0x73 t) (sym at) (given_leads 0x73 (codes "tandalone") (codes "no") alone (gap ++ (codes "?>" ++ more)) letters_bare.2 given))

no_encoding : (v a c d : List ℕ) → HeadEnds c → SpellsGiven (codes "encoding") v a → c ≡ a ++ d → ⊥
no_encoding v a c d h k e = from (head_ends_leads c h)
  where
    from : Leads 0x3F c ⊎ Leads 0x73 c → ⊥
    from (inl l) = let n = leads_same 0x3F 0x65 c (a ++ d) l (given_leads 0x65 (codes "ncoding") v a d letters_bare.1 k) e in omega arith
    from (inr l) = let n = leads_same 0x73 0x65 c (a ++ d) l (given_leads 0x65 (codes "ncoding") v a d letters_bare.1 k) e in omega arith

some_same : (p q : List ℕ) → p ≡ q → Some p ≡ Some q
some_same p q e = cc

encoding_row : (p q : Option (List ℕ)) (a b c d : List ℕ) → SpellsEncoding p a → SpellsEncoding q b → HeadEnds c → HeadEnds d → a ++ c ≡ b ++ d → (p ≡ q) × (a ≡ b) × (c ≡ d)
encoding_row None None a b c d h k hc hd e = (refl, h ∙ sym k, ap (λ (t : List ℕ). t ++ c) (sym h) ∙ e ∙ ap (λ (t : List ℕ). t ++ d) k)
encoding_row None (Some q) a b c d h (name, some, all, is, given) hc hd e = absurd (no_encoding name b c d hc given (ap (λ (t : List ℕ). t ++ c) (sym h) ∙ e))
encoding_row (Some p) None a b c d (name, some, all, is, given) h hc hd e = absurd (no_encoding name a d c hd given (ap (λ (t : List ℕ). t ++ d) (sym h) ∙ sym e))
encoding_row (Some p) (Some q) a b c d (name, some, all, is, given) (name', some', all', is', given') hc hd e =
    let r = given_row (codes "encoding") name name' a b c d (λ rest. letters_bare.1) (name_no_quotes name all) (name_no_quotes name' all') given given' e in
    (some_same p q (is ∙ ap encode_utf8_all r.0 ∙ sym is'), r.1, r.2)

-- nothing, or `standalone` with some value
abbrev Alone : List ℕ → Type 0
Alone text = (text ≡ []) ⊎ ((v : List ℕ) × NoQuotes v × SpellsGiven (codes "standalone") v text)

alone_of : (text : List ℕ) → IsStandalone text → Alone text
alone_of text (inl none) = inl none
alone_of text (inr (inl given)) = inr (codes "yes", record { double = refl; single = refl }, given)
alone_of text (inr (inr given)) = inr (codes "no", record { double = refl; single = refl }, given)

no_standalone : (v a c d : List ℕ) → Leads 0x3F c → SpellsGiven (codes "standalone") v a → c ≡ a ++ d → ⊥
no_standalone v a c d l k e = let n = leads_same 0x3F 0x73 c (a ++ d) l (given_leads 0x73 (codes "tandalone") v a d letters_bare.2 k) e in omega arith

standalone_row : (a b c d : List ℕ) → Alone a → Alone b → Leads 0x3F c → Leads 0x3F d → a ++ c ≡ b ++ d → (a ≡ b) × (c ≡ d)
standalone_row a b c d (inl h) (inl k) lc ld e = (h ∙ sym k, ap (λ (t : List ℕ). t ++ c) (sym h) ∙ e ∙ ap (λ (t : List ℕ). t ++ d) k)
standalone_row a b c d (inl h) (inr (v, no_quotes, given)) lc ld e = absurd (no_standalone v b c d lc given (ap (λ (t : List ℕ). t ++ c) (sym h) ∙ e))
standalone_row a b c d (inr (v, no_quotes, given)) (inl k) lc ld e = absurd (no_standalone v a d c ld given (ap (λ (t : List ℕ). t ++ d) (sym k) ∙ sym e))
standalone_row a b c d (inr (v, nv, given)) (inr (w, nw, given')) lc ld e =
    let r = given_row (codes "standalone") v w a b c d (λ rest. letters_bare.2) nv nw given given' e in
    (r.1, r.2)

abbrev pub HeadText : Option (List ℕ) → List ℕ → Type 0
HeadText encoding text =
    (version : List ℕ) × (named : List ℕ) × (alone : List ℕ) × (gap : List ℕ) × IsVersion version × SpellsEncoding encoding named × IsStandalone alone × AreBlank gap
    × (text ≡ codes "<?xml" ++ version ++ named ++ alone ++ gap ++ codes "?>")

head_shape : (v n s g r : List ℕ) → codes "<?xml" ++ v ++ n ++ s ++ g ++ codes "?>" ++ r ≡ codes "<?xml" ++ (v ++ (n ++ (s ++ (g ++ (codes "?>" ++ r)))))
head_shape v n s g r =
    append_assoc (codes "<?xml" ++ v ++ n ++ s ++ g) (codes "?>") r ∙ append_assoc (codes "<?xml" ++ v ++ n ++ s) g (codes "?>" ++ r)
    ∙ append_assoc (codes "<?xml" ++ v ++ n) s (g ++ (codes "?>" ++ r)) ∙ append_assoc (codes "<?xml" ++ v) n (s ++ (g ++ (codes "?>" ++ r)))

pub head_row : (p q : Option (List ℕ)) (a b c d : List ℕ) → HeadText p a → HeadText q b → a ++ c ≡ b ++ d → (p ≡ q) × (a ≡ b) × (c ≡ d)
head_row p q a b c d (version, named, alone, gap, hv, hn, ha, hg, at) (version', named', alone', gap', hv', hn', ha', hg', at') e =
    let end = gap ++ (codes "?>" ++ c) in
    let end' = gap' ++ (codes "?>" ++ d) in
    let row : codes "<?xml" ++ (version ++ (named ++ (alone ++ end))) ≡ codes "<?xml" ++ (version' ++ (named' ++ (alone' ++ end'))) =
    sym (head_shape version named alone gap c) ∙ ap (λ (t : List ℕ). t ++ c) (sym at) ∙ e ∙ ap (λ (t : List ℕ). t ++ d) at' ∙ head_shape version' named' alone' gap' d in
    let v = version_row version version' (named ++ (alone ++ end)) (named' ++ (alone' ++ end')) hv hv' (append_cancel_left (codes "<?xml") (version ++ (named ++ (alone ++ end))) (version' ++ (named' ++ (alone' ++ end'))) row) in
    let n = encoding_row p q named named' (alone ++ end) (alone' ++ end') hn hn' (alone, gap, c, ha, hg, refl) (alone', gap', d, ha', hg', refl) v.1 in
    let s = standalone_row alone alone' end end' (alone_of alone ha) (alone_of alone' ha') (gap, 0x3E ∷ c, hg, letters_bare.3, refl) (gap', 0x3E ∷ d, hg', letters_bare.3, refl) n.2 in
    let g = run_same is_blank gap gap' (codes "?>" ++ c) (codes "?>" ++ d) hg hg' letters_bare.3 letters_bare.3 s.1 in
    let same : codes "<?xml" ++ version ++ named ++ alone ++ gap ++ codes "?>" ≡ codes "<?xml" ++ version' ++ named' ++ alone' ++ gap' ++ codes "?>" =
    ap (λ (t : List ℕ). codes "<?xml" ++ t ++ named ++ alone ++ gap ++ codes "?>") v.0 ∙ ap (λ (t : List ℕ). codes "<?xml" ++ version' ++ t ++ alone ++ gap ++ codes "?>") n.1
    ∙ ap (λ (t : List ℕ). codes "<?xml" ++ version' ++ named' ++ t ++ gap ++ codes "?>") s.0 ∙ ap (λ (t : List ℕ). codes "<?xml" ++ version' ++ named' ++ alone' ++ t ++ codes "?>") g.0 in
    (n.0, at ∙ same ∙ sym at', append_cancel_left (codes "?>") c d g.1)

-- ---- an instruction

suffix_all : (p : ℕ → Bool) (u v : List ℕ) → IsTrue (list_all p (u ++ v)) → IsTrue (list_all p v)
suffix_all p [] v h = h
suffix_all p (x ∷ u) v h = suffix_all p u v (all_tail p x (u ++ v) h)

not_itself : (m : ℕ) → is_not m m ≡ false
not_itself m = ap not (eq-eqb m m refl)

-- a needle that begins with m stands in no text without m, and so not across its end
lacks_after : (m : ℕ) (needle u v : List ℕ) → IsTrue (list_all (is_not m) u) → Lacks (m ∷ needle) v → Lacks (m ∷ needle) (u ++ v)
lacks_after m needle u v none lacks before after e = from (overlap u v before (m ∷ needle ++ after) (e ∙ append_assoc before (m ∷ needle) after))
  where
    inside : (more : List ℕ) → u ≡ before ++ more → m ∷ needle ++ after ≡ more ++ v → ⊥
    inside [] is e = lacks [] after (sym e)
    inside (x ∷ more) is e =
        let h : m ≡ x = head_same m x (needle ++ after) (more ++ v) e in
        let k : IsTrue (list_all (is_not m) (x ∷ more)) = suffix_all (is_not m) before (x ∷ more) (subst (λ (t : List ℕ). IsTrue (list_all (is_not m) t)) is none) in
        not_both (is_not m x) (all_head (is_not m) x more k) (ap (is_not m) (sym h) ∙ not_itself m)

    from : Longer u v before (m ∷ needle ++ after) ⊎ Longer before (m ∷ needle ++ after) u v → ⊥
    from (inl (more, is, left)) = lacks more after (left ∙ sym (append_assoc more (m ∷ needle) after))
    from (inr (more, is, left)) = inside more is left

nothing_lacks : (m : ℕ) (needle : List ℕ) → Lacks (m ∷ needle) []
nothing_lacks m needle [] after e = cc
nothing_lacks m needle (x ∷ before) after e = cc

blank_no_mark : (gap : List ℕ) → AreBlank gap → IsTrue (list_all (is_not 0x3F) gap)
blank_no_mark gap h = all_weaker is_blank (is_not 0x3F) (λ x k. differs is_blank 0x3F letters_bare.3 x k) gap h

name_no_mark : (name : List ℕ) → IsTrue (is_name_of name) → IsTrue (list_all (is_not 0x3F) name)
unfolding is_name_char is_name_start
name_no_mark name h = all_weaker is_name_char (is_not 0x3F) (λ x k. differs is_name_char 0x3F refl x k) name (name_all name h)

abbrev pub InstructionText : List ℕ → Type 0
InstructionText text = (target : List ℕ) × (inside : List ℕ) × IsTarget target × IsInstructionText inside × (text ≡ codes "<?" ++ target ++ inside ++ codes "?>")

inside_lacks : (inside : List ℕ) → IsInstructionText inside → Lacks (codes "?>") inside
inside_lacks inside (inl none) = subst (Lacks (codes "?>")) (sym none) (nothing_lacks 0x3F (codes ">"))
inside_lacks inside (inr (gap, body, hg, chars, lacks, at)) = subst (Lacks (codes "?>")) (sym at) (lacks_after 0x3F (codes ">") gap body (blank_no_mark gap (gap_blank gap hg)) lacks)

pub instruction_row : (a b c d : List ℕ) → InstructionText a → InstructionText b → a ++ c ≡ b ++ d → (a ≡ b) × (c ≡ d)
instruction_row a b c d (target, inside, ht, hi, at) (target', inside', ht', hi', at') e =
    let row : codes "<?" ++ (target ++ inside ++ codes "?>" ++ c) ≡ codes "<?" ++ (target' ++ inside' ++ codes "?>" ++ d) = ap (λ (t : List ℕ). t ++ c) (sym at) ∙ e ∙ ap (λ (t : List ℕ). t ++ d) at' in
    let r = question_ended (target ++ inside) c (target' ++ inside') d
    (lacks_after 0x3F (codes ">") target inside (name_no_mark target ht.0) (inside_lacks inside hi))
    (lacks_after 0x3F (codes ">") target' inside' (name_no_mark target' ht'.0) (inside_lacks inside' hi'))
    (append_cancel_left (codes "<?") (target ++ inside ++ codes "?>" ++ c) (target' ++ inside' ++ codes "?>" ++ d) row) in
    (at ∙ ap (λ (t : List ℕ). codes "<?" ++ (t ++ codes "?>")) r.0 ∙ sym at', r.1)

-- an instruction's target isn't `xml`, so it is no XML declaration
blank_no_name : (c : ℕ) → IsTrue (is_blank c) → is_name_char c ≡ false
unfolding is_name_char is_name_start
blank_no_name c h = fails_blank is_name_char c refl refl refl refl h

version_stops : (version rest : List ℕ) → IsVersion version → Stops is_name_char (version ++ rest)
version_stops version rest (digits, some, all, (gap, equals, quote, hg, he, hq, at)) =
    subst (λ (t : List ℕ). Stops is_name_char t) (ap (λ (t : List ℕ). t ++ rest) (sym at)) (assoc gap hg)
  where
    assoc : (gap : List ℕ) → IsGap gap → Stops is_name_char (gap ++ codes "version" ++ equals ++ quoted quote (codes "1." ++ digits) ++ rest)
    assoc [] h = absurd h
    assoc (c ∷ cs) h = blank_no_name c (all_head is_blank c cs h)

inside_stops : (inside rest : List ℕ) → IsInstructionText inside → Stops is_name_char rest → Stops is_name_char (inside ++ rest)
inside_stops inside rest (inl none) s = subst (λ (t : List ℕ). Stops is_name_char (t ++ rest)) (sym none) s
inside_stops inside rest (inr (gap, body, hg, chars, lacks, at)) s = subst (λ (t : List ℕ). Stops is_name_char (t ++ rest)) (sym at) (assoc gap hg)
  where
    assoc : (gap : List ℕ) → IsGap gap → Stops is_name_char (gap ++ body ++ rest)
    assoc [] h = absurd h
    assoc (c ∷ cs) h = blank_no_name c (all_head is_blank c cs h)

pub no_head : (p : Option (List ℕ)) (a b c d : List ℕ) → HeadText p a → InstructionText b → a ++ c ≡ b ++ d → ⊥
unfolding is_name_char is_name_start
no_head p a b c d (version, named, alone, gap, hv, hn, ha, hg, at) (target, inside, ht, hi, at') e =
    let rest = named ++ (alone ++ (gap ++ (codes "?>" ++ c))) in
    let row : codes "<?" ++ (codes "xml" ++ (version ++ rest)) ≡ codes "<?" ++ (target ++ (inside ++ (codes "?>" ++ d))) =
    sym (head_shape version named alone gap c) ∙ ap (λ (t : List ℕ). t ++ c) (sym at) ∙ e ∙ ap (λ (t : List ℕ). t ++ d) at'
    ∙ append_assoc (codes "<?" ++ target ++ inside) (codes "?>") d ∙ append_assoc (codes "<?" ++ target) inside (codes "?>" ++ d) in
    let r = run_same is_name_char (codes "xml") target (version ++ rest) (inside ++ (codes "?>" ++ d)) refl (name_all target ht.0)
    (version_stops version rest hv) (inside_stops inside (codes "?>" ++ d) hi refl)
    (append_cancel_left (codes "<?") (codes "xml" ++ (version ++ rest)) (target ++ (inside ++ (codes "?>" ++ d))) row) in
    not_both (str_eq_ignore_ascii_case target (codes "xml")) (ap (λ (t : List ℕ). str_eq_ignore_ascii_case t (codes "xml")) (sym r.0)) ht.1
