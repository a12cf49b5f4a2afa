-- At one place at most one reference or value is spelled.
use Rattle.std.proofs.Common.{◌≡◌, ◌≢◌, ℕ, Bool, true, false, not, ◌&&◌, ◌⊎◌, List, [], ◌∷◌, ◌++◌, refl, sym, ap, subst, ◌∙◌, append_assoc, inl, inr, arith}
use Rattle.std.specs.Prelude.{IsTrue, codes, ◌==◌, encode_utf8_all, if◌then◌else◌}
use Rattle.std.specs.List.{list_all}
use Rattle.std.proofs.lemmas.Bool.{eqb-true, eq-eqb}
use Rattle.std.proofs.lemmas.List.{append_cancel_left}
use Rattle.xmp_values.specs.Characters.{is_blank}
use Rattle.xml_grammar.specs.Spelling.{AreBlank, IsGap, IsEquals, IsQuote, quoted, Entity, Lt, Gt, Amp, Apos, Quot, entity_name, entity_char, is_digit, number_from, SpellsReference, line_ends_after, line_ends, normal, SpellsValueChar, SpellsValueChars, SpellsValue}
use Rattle.xml_grammar.proofs.Splits.{both, all_head, all_tail, all_cons, all_append, all_weaker, head_same, tail_same, cons_same, not_both, Stops, run_same}
use Rattle.xml_grammar.proofs.Parts.{differs}

-- all but one character
abbrev pub is_not : ℕ → ℕ → Bool
is_not y x = not (x == y)

-- ---- gaps and Eq

pub gap_blank : (gap : List ℕ) → IsGap gap → AreBlank gap
gap_blank [] h = absurd h
gap_blank (c ∷ cs) h = h

pub equals_row : (a b c d : List ℕ) → IsEquals a → IsEquals b → Stops is_blank c → Stops is_blank d → a ++ c ≡ b ++ d → (a ≡ b) × (c ≡ d)
unfolding is_blank
equals_row a b c d (before, after, ba, bb, is) (before', after', ba', bb', is') sc sd e =
    let shape : (x y z : List ℕ) → x ++ codes "=" ++ y ++ z ≡ x ++ (codes "=" ++ (y ++ z)) = λ x y z. append_assoc (x ++ codes "=") y z ∙ append_assoc x (codes "=") (y ++ z) in
    let row : before ++ (codes "=" ++ (after ++ c)) ≡ before' ++ (codes "=" ++ (after' ++ d)) =
    sym (shape before after c) ∙ ap (λ (t : List ℕ). t ++ c) (sym is) ∙ e ∙ ap (λ (t : List ℕ). t ++ d) is' ∙ shape before' after' d in
    let r = run_same is_blank before before' (codes "=" ++ (after ++ c)) (codes "=" ++ (after' ++ d)) ba ba' refl refl row in
    let s = run_same is_blank after after' c d bb bb' sc sd (tail_same 0x3D 0x3D (after ++ c) (after' ++ d) r.1) in
    let r0 : before ≡ before' = r.0 in
    let s0 : after ≡ after' = s.0 in
    let same : before ++ codes "=" ++ after ≡ before' ++ codes "=" ++ after' = cc in
    (is ∙ same ∙ sym is', s.1)

-- ---- references

-- digits of which the number is the character
abbrev pub Counts : ℕ → List ℕ → ℕ → List ℕ → Type 0
Counts base mark c inner = (digits : List ℕ) × (digits ≢ []) × IsTrue (list_all (is_digit base) digits) × (c ≡ number_from base 0 digits) × (inner ≡ mark ++ digits)

-- what a reference names, between `&` and `;`
abbrev pub Names : ℕ → List ℕ → Type 0
Names c inner = ((e : Entity) × (c ≡ entity_char e) × (inner ≡ codes "&" ++ entity_name e)) ⊎ (Counts 10 (codes "&#") c inner ⊎ Counts 16 (codes "&#x") c inner)

-- none of the characters of a reference but `;` is y
pub record NotAmong (y : ℕ) : Type 0 where
  pub lt : IsTrue (list_all (is_not y) (codes "&lt"))
  pub gt : IsTrue (list_all (is_not y) (codes "&gt"))
  pub amp : IsTrue (list_all (is_not y) (codes "&amp"))
  pub apos : IsTrue (list_all (is_not y) (codes "&apos"))
  pub quot : IsTrue (list_all (is_not y) (codes "&quot"))
  pub decimal : IsTrue (list_all (is_not y) (codes "&#"))
  pub hexadecimal : IsTrue (list_all (is_not y) (codes "&#x"))
  pub no_digit : is_digit 10 y ≡ false
  pub no_hexadecimal : is_digit 16 y ≡ false

pub semicolon : NotAmong 0x3B
semicolon = record { lt = refl; gt = refl; amp = refl; apos = refl; quot = refl; decimal = refl; hexadecimal = refl; no_digit = refl; no_hexadecimal = refl }

pub double_quote : NotAmong 0x22
double_quote = record { lt = refl; gt = refl; amp = refl; apos = refl; quot = refl; decimal = refl; hexadecimal = refl; no_digit = refl; no_hexadecimal = refl }

pub single_quote : NotAmong 0x27
single_quote = record { lt = refl; gt = refl; amp = refl; apos = refl; quot = refl; decimal = refl; hexadecimal = refl; no_digit = refl; no_hexadecimal = refl }

entity_all : (y : ℕ) → NotAmong y → (e : Entity) → IsTrue (list_all (is_not y) (codes "&" ++ entity_name e))
entity_all y n Lt = n.lt
entity_all y n Gt = n.gt
entity_all y n Amp = n.amp
entity_all y n Apos = n.apos
entity_all y n Quot = n.quot

digits_all : (base : ℕ) (y : ℕ) → is_digit base y ≡ false → (mark digits : List ℕ) → IsTrue (list_all (is_not y) mark) → IsTrue (list_all (is_digit base) digits) → IsTrue (list_all (is_not y) (mark ++ digits))
digits_all base y fails mark digits m h = all_append (is_not y) mark digits m (all_weaker (is_digit base) (is_not y) (λ x k. differs (is_digit base) y fails x k) digits h)

pub inner_all : (y c : ℕ) (inner : List ℕ) → NotAmong y → Names c inner → IsTrue (list_all (is_not y) inner)
inner_all y c inner n (inl (e, is, at)) = subst (λ (t : List ℕ). IsTrue (list_all (is_not y) t)) (sym at) (entity_all y n e)
inner_all y c inner n (inr (inl (digits, some, all, is, at))) = subst (λ (t : List ℕ). IsTrue (list_all (is_not y) t)) (sym at) (digits_all 10 y n.no_digit (codes "&#") digits n.decimal all)
inner_all y c inner n (inr (inr (digits, some, all, is, at))) = subst (λ (t : List ℕ). IsTrue (list_all (is_not y) t)) (sym at) (digits_all 16 y n.no_hexadecimal (codes "&#x") digits n.hexadecimal all)

-- a reference is what it names and `;`
pub reference_parts : (c : ℕ) (text : List ℕ) → SpellsReference c text → (inner : List ℕ) × Names c inner × (text ≡ inner ++ codes ";")
reference_parts c text (inl (e, is, at)) = (codes "&" ++ entity_name e, inl (e, is, refl), at)
reference_parts c text (inr (inl (digits, some, all, is, char, at))) = (codes "&#" ++ digits, inr (inl (digits, some, all, is, refl)), at)
reference_parts c text (inr (inr (digits, some, all, is, char, at))) = (codes "&#x" ++ digits, inr (inr (digits, some, all, is, refl)), at)

-- the character of an entity, by its name
char_of : List ℕ → ℕ
char_of [] = 0
char_of (c ∷ []) = 0
char_of (c ∷ d ∷ cs) = if c == 0x6C then 0x3C else if c == 0x67 then 0x3E else if c == 0x71 then 0x22 else if d == 0x6D then 0x26 else 0x27

char_is : (e : Entity) → char_of (entity_name e) ≡ entity_char e
unfolding char_of
char_is Lt = refl
char_is Gt = refl
char_is Amp = refl
char_is Apos = refl
char_is Quot = refl

-- an entity's name doesn't begin with `#`
pub no_hash : (e : Entity) (rest : List ℕ) → entity_name e ≡ 0x23 ∷ rest → ⊥
no_hash Lt rest e = let h = head_same 0x6C 0x23 (codes "t") rest e in omega arith
no_hash Gt rest e = let h = head_same 0x67 0x23 (codes "t") rest e in omega arith
no_hash Amp rest e = let h = head_same 0x61 0x23 (codes "mp") rest e in omega arith
no_hash Apos rest e = let h = head_same 0x61 0x23 (codes "pos") rest e in omega arith
no_hash Quot rest e = let h = head_same 0x71 0x23 (codes "uot") rest e in omega arith

-- decimal digits don't begin with `x`
no_x : (digits rest : List ℕ) → IsTrue (list_all (is_digit 10) digits) → digits ≡ 0x78 ∷ rest → ⊥
no_x digits rest h e =
    let d : is_digit 10 0x78 ≡ true = all_head (is_digit 10) 0x78 rest (subst (λ (t : List ℕ). IsTrue (list_all (is_digit 10) t)) e h) in
    not_both (is_digit 10 0x78) d refl

names_same : (c d : ℕ) (inner other : List ℕ) → Names c inner → Names d other → inner ≡ other → c ≡ d
names_same c d inner other (inl (e, is, at)) (inl (e', is', at')) same =
    let n : entity_name e ≡ entity_name e' = append_cancel_left (codes "&") (entity_name e) (entity_name e') (sym at ∙ same ∙ at') in
    is ∙ sym (char_is e) ∙ ap char_of n ∙ char_is e' ∙ sym is'
names_same c d inner other (inl (e, is, at)) (inr (inl (digits, some, all, is', at'))) same =
    absurd (no_hash e digits (append_cancel_left (codes "&") (entity_name e) (codes "#" ++ digits) (sym at ∙ same ∙ at')))
names_same c d inner other (inl (e, is, at)) (inr (inr (digits, some, all, is', at'))) same =
    absurd (no_hash e (codes "x" ++ digits) (append_cancel_left (codes "&") (entity_name e) (codes "#x" ++ digits) (sym at ∙ same ∙ at')))
names_same c d inner other (inr (inl (digits, some, all, is', at'))) (inl (e, is, at)) same =
    absurd (no_hash e digits (append_cancel_left (codes "&") (entity_name e) (codes "#" ++ digits) (sym at ∙ sym same ∙ at')))
names_same c d inner other (inr (inr (digits, some, all, is', at'))) (inl (e, is, at)) same =
    absurd (no_hash e (codes "x" ++ digits) (append_cancel_left (codes "&") (entity_name e) (codes "#x" ++ digits) (sym at ∙ sym same ∙ at')))
names_same c d inner other (inr (inl (digits, some, all, is, at))) (inr (inl (digits', some', all', is', at'))) same =
    is ∙ ap (number_from 10 0) (append_cancel_left (codes "&#") digits digits' (sym at ∙ same ∙ at')) ∙ sym is'
names_same c d inner other (inr (inr (digits, some, all, is, at))) (inr (inr (digits', some', all', is', at'))) same =
    is ∙ ap (number_from 16 0) (append_cancel_left (codes "&#x") digits digits' (sym at ∙ same ∙ at')) ∙ sym is'
names_same c d inner other (inr (inl (digits, some, all, is, at))) (inr (inr (digits', some', all', is', at'))) same =
    absurd (no_x digits digits' all (append_cancel_left (codes "&#") digits (codes "x" ++ digits') (sym at ∙ same ∙ at')))
names_same c d inner other (inr (inr (digits', some', all', is', at'))) (inr (inl (digits, some, all, is, at))) same =
    absurd (no_x digits digits' all (append_cancel_left (codes "&#") digits (codes "x" ++ digits') (sym at ∙ sym same ∙ at')))

pub reference_row : (v w : ℕ) (a b c d : List ℕ) → SpellsReference v a → SpellsReference w b → a ++ c ≡ b ++ d → (v ≡ w) × (a ≡ b) × (c ≡ d)
reference_row v w a b c d h k e =
    let p = reference_parts v a h in
    let q = reference_parts w b k in
    let r = run_same (is_not 0x3B) p.0 q.0 (codes ";" ++ c) (codes ";" ++ d) (inner_all 0x3B v p.0 semicolon p.1) (inner_all 0x3B w q.0 semicolon q.1) refl refl
    (sym (append_assoc p.0 (codes ";") c) ∙ ap (λ (t : List ℕ). t ++ c) (sym p.2) ∙ e ∙ ap (λ (t : List ℕ). t ++ d) q.2 ∙ append_assoc q.0 (codes ";") d) in
    (names_same v w p.0 q.0 p.1 q.1 r.0, p.2 ∙ ap (λ (t : List ℕ). t ++ codes ";") r.0 ∙ sym q.2, tail_same 0x3B 0x3B c d r.1)

pub reference_all : (y v : ℕ) (a : List ℕ) → NotAmong y → is_not y 0x3B ≡ true → SpellsReference v a → IsTrue (list_all (is_not y) a)
reference_all y v a n s h =
    let p = reference_parts v a h in
    subst (λ (t : List ℕ). IsTrue (list_all (is_not y) t)) (sym p.2) (all_append (is_not y) p.0 (codes ";") (inner_all y v p.0 n p.1) (all_cons (is_not y) 0x3B [] s refl))

-- a reference begins with `&`
pub reference_begins : (v : ℕ) (a : List ℕ) → SpellsReference v a → (rest : List ℕ) × (a ≡ 0x26 ∷ rest)
reference_begins v a (inl (e, is, at)) = (entity_name e ++ codes ";", at)
reference_begins v a (inr (inl (digits, some, all, is, char, at))) = (codes "#" ++ digits ++ codes ";", at)
reference_begins v a (inr (inr (digits, some, all, is, char, at))) = (codes "#x" ++ digits ++ codes ";", at)

-- ---- values

value_char_row : (quote v w : ℕ) (a b c d : List ℕ) → SpellsValueChar quote v a → SpellsValueChar quote w b → a ++ c ≡ b ++ d → (v ≡ w) × (a ≡ b) × (c ≡ d)
value_char_row quote v w a b c d (inl h) (inl k) e = reference_row v w a b c d h k e
value_char_row quote v w a b c d (inl h) (inr (x, char, less, amp, other, is, at)) e =
    let r = reference_begins v a h in
    absurd (amp (sym (head_same 0x26 x (r.0 ++ c) d (ap (λ (t : List ℕ). t ++ c) (sym r.1) ∙ e ∙ ap (λ (t : List ℕ). t ++ d) at))))
value_char_row quote v w a b c d (inr (x, char, less, amp, other, is, at)) (inl k) e =
    let r = reference_begins w b k in
    absurd (amp (head_same x 0x26 c (r.0 ++ d) (ap (λ (t : List ℕ). t ++ c) (sym at) ∙ e ∙ ap (λ (t : List ℕ). t ++ d) r.1)))
value_char_row quote v w a b c d (inr (x, char, less, amp, other, is, at)) (inr (y, char', less', amp', other', is', at')) e =
    let row : x ∷ c ≡ y ∷ d = ap (λ (t : List ℕ). t ++ c) (sym at) ∙ e ∙ ap (λ (t : List ℕ). t ++ d) at' in
    let h : x ≡ y = head_same x y c d row in
    (is ∙ ap normal h ∙ sym is', at ∙ ap (λ (z : ℕ). z ∷ []) h ∙ sym at', tail_same x y c d row)

-- it isn't empty
value_char_some : (quote v : ℕ) (a b : List ℕ) → SpellsValueChar quote v a → [] ≡ a ++ b → ⊥
value_char_some quote v a b (inl h) e = let r = reference_begins v a h in let bad : [] ≡ 0x26 ∷ (r.0 ++ b) = e ∙ ap (λ (t : List ℕ). t ++ b) r.1 in cc
value_char_some quote v a b (inr (x, char, less, amp, other, is, at)) e = let bad : [] ≡ x ∷ b = e ∙ ap (λ (t : List ℕ). t ++ b) at in cc

value_chars_same : (quote : ℕ) (vs ws : List ℕ) (text other : List ℕ) → SpellsValueChars quote vs text → SpellsValueChars quote ws other → text ≡ other → vs ≡ ws
value_chars_same quote [] [] text other h k e = refl
value_chars_same quote [] (w ∷ ws) text other h (front, back, one, more, is) e = absurd (value_char_some quote w front back one (sym h ∙ e ∙ is))
value_chars_same quote (v ∷ vs) [] text other (front, back, one, more, is) k e = absurd (value_char_some quote v front back one (sym k ∙ sym e ∙ is))
value_chars_same quote (v ∷ vs) (w ∷ ws) text other (front, back, one, more, is) (front', back', one', more', is') e =
    let r = value_char_row quote v w front front' back back' one one' (sym is ∙ e ∙ is') in
    cons_same v w vs ws r.0 (value_chars_same quote vs ws back back' more more' r.2)

-- no character of a value is the quote
quote_facts : (quote : ℕ) → IsQuote quote → NotAmong quote × (is_not quote 0x3B ≡ true) × (is_not quote 0xA ≡ true) × (is_not quote 0xD ≡ true) × (is_blank quote ≡ false)
unfolding is_blank
quote_facts quote (inl e) = subst (λ (q : ℕ). NotAmong q × (is_not q 0x3B ≡ true) × (is_not q 0xA ≡ true) × (is_not q 0xD ≡ true) × (is_blank q ≡ false)) (sym e) (double_quote, refl, refl, refl, refl)
quote_facts quote (inr e) = subst (λ (q : ℕ). NotAmong q × (is_not q 0x3B ≡ true) × (is_not q 0xA ≡ true) × (is_not q 0xD ≡ true) × (is_blank q ≡ false)) (sym e) (single_quote, refl, refl, refl, refl)

ne_not : (x y : ℕ) → x ≢ y → is_not y x ≡ true
ne_not x y ne = by (x == y) refl
  where
    by : (b : Bool) → (x == y) ≡ b → not b ≡ true
    by true e = absurd (ne (eqb-true x y e))
    by false e = refl

value_char_all : (quote v : ℕ) (a : List ℕ) → IsQuote quote → SpellsValueChar quote v a → IsTrue (list_all (is_not quote) a)
value_char_all quote v a q (inl h) = let f = quote_facts quote q in reference_all quote v a f.0 f.1 h
value_char_all quote v a q (inr (x, char, less, amp, other, is, at)) =
    subst (λ (t : List ℕ). IsTrue (list_all (is_not quote) t)) (sym at) (all_cons (is_not quote) x [] (ne_not x quote other) refl)

value_chars_all : (quote : ℕ) (vs text : List ℕ) → IsQuote quote → SpellsValueChars quote vs text → IsTrue (list_all (is_not quote) text)
value_chars_all quote [] text q h = subst (λ (t : List ℕ). IsTrue (list_all (is_not quote) t)) (sym h) refl
value_chars_all quote (v ∷ vs) text q (front, back, one, more, is) =
    subst (λ (t : List ℕ). IsTrue (list_all (is_not quote) t)) (sym is) (all_append (is_not quote) front back (value_char_all quote v front q one) (value_chars_all quote vs back q more))

abbrev EndsRest : (ℕ → Bool) → ℕ → List ℕ → Bool → Bool → Type 0
EndsRest p c cs b d = IsTrue (list_all p (if b then 0xA ∷ line_ends_after true cs else if d then line_ends_after false cs else c ∷ line_ends_after false cs))

-- what line ends are read as tells nothing of other characters
ends_all : (p : ℕ → Bool) → p 0xD ≡ true → p 0xA ≡ true → (after_cr : Bool) (text : List ℕ) → IsTrue (list_all p (line_ends_after after_cr text)) → IsTrue (list_all p text)
ends_all p r l after_cr [] h = refl
ends_all p r l after_cr (c ∷ cs) h = first (λ after k. ends_all p r l after cs k) (c == 0xD) refl h
  where
    second : (more : (after : Bool) → IsTrue (list_all p (line_ends_after after cs)) → IsTrue (list_all p cs)) (d : Bool) → (after_cr && c == 0xA) ≡ d → EndsRest p c cs false d → IsTrue (list_all p (c ∷ cs))
    second more true e k = all_cons p c cs (ap p (eqb-true c 0xA (both after_cr (c == 0xA) e).1) ∙ l) (more false k)
    second more false e k = all_cons p c cs (all_head p c (line_ends_after false cs) k) (more false (all_tail p c (line_ends_after false cs) k))

    first : (more : (after : Bool) → IsTrue (list_all p (line_ends_after after cs)) → IsTrue (list_all p cs)) (b : Bool) → (c == 0xD) ≡ b → EndsRest p c cs b (after_cr && c == 0xA) → IsTrue (list_all p (c ∷ cs))
    first more true e k = all_cons p c cs (ap p (eqb-true c 0xD e) ∙ r) (more true (all_tail p 0xA (line_ends_after true cs) k))
    first more false e k = second more (after_cr && c == 0xA) refl k

quoted_row : (q r : ℕ) (i j c d : List ℕ) → IsTrue (list_all (is_not q) i) → IsTrue (list_all (is_not r) j) → quoted q i ++ c ≡ quoted r j ++ d → (q ≡ r) × (i ≡ j) × (c ≡ d)
quoted_row q r i j c d hi hj e =
    let same : q ≡ r = head_same q r (i ++ q ∷ [] ++ c) (j ++ r ∷ [] ++ d) e in
    let row : i ++ q ∷ c ≡ j ++ r ∷ d = sym (append_assoc i (q ∷ []) c) ∙ tail_same q r (i ++ q ∷ [] ++ c) (j ++ r ∷ [] ++ d) e ∙ append_assoc j (r ∷ []) d in
    let hj' : IsTrue (list_all (is_not q) j) = subst (λ (z : ℕ). IsTrue (list_all (is_not z) j)) (sym same) hj in
    let row' : i ++ q ∷ c ≡ j ++ q ∷ d = row ∙ ap (λ (z : ℕ). j ++ z ∷ d) (sym same) in
    let s = run_same (is_not q) i j (q ∷ c) (q ∷ d) hi hj' (not_itself q) (not_itself q) row' in
    (same, s.0, tail_same q q c d s.1)
  where
    not_itself : (q : ℕ) → is_not q q ≡ false
    not_itself q = ap not (eq-eqb q q refl)

-- a value in a row ends with its quote
pub value_row : (v w a b c d : List ℕ) → SpellsValue v a → SpellsValue w b → a ++ c ≡ b ++ d → (v ≡ w) × (a ≡ b) × (c ≡ d)
value_row v w a b c d (q, i, vs, hq, hv, iv, at) (r, j, ws, hr, hw, iw, at') e =
    let fq = quote_facts q hq in
    let fr = quote_facts r hr in
    let hi = ends_all (is_not q) fq.3 fq.2 false i (value_chars_all q vs (line_ends i) hq hv) in
    let hj = ends_all (is_not r) fr.3 fr.2 false j (value_chars_all r ws (line_ends j) hr hw) in
    let s = quoted_row q r i j c d hi hj (ap (λ (t : List ℕ). t ++ c) (sym at) ∙ e ∙ ap (λ (t : List ℕ). t ++ d) at') in
    let hw' : SpellsValueChars q ws (line_ends j) = subst (λ (z : ℕ). SpellsValueChars z ws (line_ends j)) (sym s.0) hw in
    let same : vs ≡ ws = value_chars_same q vs ws (line_ends i) (line_ends j) hv hw' (ap line_ends s.1) in
    let sq : q ≡ r = s.0 in
    let si : i ≡ j = s.1 in
    let sa : quoted q i ≡ quoted r j = cc in
    (iv ∙ ap encode_utf8_all same ∙ sym iw, at ∙ sa ∙ sym at', s.2)

pub quoted_same : (q r : ℕ) (i j c d : List ℕ) → IsTrue (list_all (is_not q) i) → IsTrue (list_all (is_not r) j) → quoted q i ++ c ≡ quoted r j ++ d → (q ≡ r) × (i ≡ j) × (c ≡ d)
quoted_same = quoted_row

-- a quote is no blank
pub quote_stops : (quote : ℕ) (rest : List ℕ) → IsQuote quote → Stops is_blank (quote ∷ rest)
quote_stops quote rest q = (quote_facts quote q).4

pub value_stops : (v a rest : List ℕ) → SpellsValue v a → Stops is_blank (a ++ rest)
value_stops v a rest (q, i, vs, hq, hv, iv, at) = subst (λ (t : List ℕ). Stops is_blank (t ++ rest)) (sym at) (quote_stops q (i ++ q ∷ [] ++ rest) hq)
