-- At one place at most one name, gap, reference or value is spelled.
use Rattle.std.proofs.Common.{◌≡◌, ℕ, ◌≤◌, Bool, true, false, not, ◌&&◌, ◌||◌, ◌⊎◌, List, [], ◌∷◌, ◌++◌, Option, Some, None, refl, sym, ap, subst, ◌∙◌, append_assoc, append-nil, inl, inr, arith}
use Rattle.std.specs.Prelude.{IsTrue, codes, ◌==◌, encode_utf8_all, nat_le}
use Rattle.std.specs.List.{list_all}
use Rattle.std.proofs.lemmas.Bool.{eqb-true, eqb-false, leb-true}
use Rattle.xmp_values.specs.Characters.{is_within, is_blank, is_name_start, is_name_char, is_name_of}
use Rattle.xml_grammar.specs.declared.tags.QName.{QName}
use Rattle.xml_grammar.specs.Spelling.{SpellsPrefixed, SpellsQName}
use Rattle.xml_grammar.proofs.Splits.{both, all_cons, all_append, all_weaker, tail_same, not_both, Stops, run_same}

-- ---- classes of characters

pub either : (a b : Bool) → (a || b) ≡ true → (a ≡ true) ⊎ (b ≡ true)
either true b e = inl refl
either false b e = inr e

abbrev pub is_qname_char : ℕ → Bool
is_qname_char c = is_name_char c || c == 0x3A

or_left : (a b : Bool) → a ≡ true → (a || b) ≡ true
or_left true b e = refl
or_left false b e = absurd cc

pub start_is_name : (c : ℕ) → is_name_start c ≡ true → is_name_char c ≡ true
unfolding is_name_char
start_is_name c h = or_left (is_name_start c) (is_within ((0x2D, 0x2E) ∷ (0x30, 0x39) ∷ (0xB7, 0xB7) ∷ (0x300, 0x36F) ∷ (0x203F, 0x2040) ∷ []) c) h

pub name_is_qname : (c : ℕ) → is_name_char c ≡ true → is_qname_char c ≡ true
name_is_qname c h = or_left (is_name_char c) (c == 0x3A) h

within_one : (low high : ℕ) (c : ℕ) → (nat_le low c && nat_le c high) ≡ true → (low ≤ c) × (c ≤ high)
within_one low high c h = let p = both (nat_le low c) (nat_le c high) h in (leb-true low c p.0, leb-true c high p.1)

-- the four blanks
abbrev pub IsOneBlank : ℕ → Type 0
IsOneBlank c = (c ≡ 0x9) ⊎ ((c ≡ 0xA) ⊎ ((c ≡ 0xD) ⊎ (c ≡ 0x20)))

tab_or : (c : ℕ) (b : Bool) → (c == 0x9) ≡ b → 0x9 ≤ c → c ≤ 0xA → IsOneBlank c
tab_or c true e low high = inl (eqb-true c 0x9 e)
tab_or c false e low high = inr (inl (not_tab c e low high))
  where
    not_tab : (c : ℕ) → (c == 0x9) ≡ false → 0x9 ≤ c → c ≤ 0xA → c ≡ 0xA
    not_tab c e low high = omega (arith, eqb-false c 0x9 e)

pub blank_is : (c : ℕ) → IsTrue (is_blank c) → IsOneBlank c
unfolding is_blank
blank_is c h = first (either (nat_le 0x9 c && nat_le c 0xA) (is_within ((0xD, 0xD) ∷ (0x20, 0x20) ∷ []) c) h)
  where
    third : (nat_le 0x20 c && nat_le c 0x20 ≡ true) ⊎ (false ≡ true) → IsOneBlank c
    third (inl k) = let w = within_one 0x20 0x20 c k in inr (inr (inr (omega arith)))
    third (inr k) = absurd cc

    second : (nat_le 0xD c && nat_le c 0xD ≡ true) ⊎ (is_within ((0x20, 0x20) ∷ []) c ≡ true) → IsOneBlank c
    second (inl k) = let w = within_one 0xD 0xD c k in inr (inr (inl (omega arith)))
    second (inr k) = third (either (nat_le 0x20 c && nat_le c 0x20) false k)

    first : (nat_le 0x9 c && nat_le c 0xA ≡ true) ⊎ (is_within ((0xD, 0xD) ∷ (0x20, 0x20) ∷ []) c ≡ true) → IsOneBlank c
    first (inl k) = let w = within_one 0x9 0xA c k in tab_or c (c == 0x9) refl w.0 w.1
    first (inr k) = second (either (nat_le 0xD c && nat_le c 0xD) (is_within ((0x20, 0x20) ∷ []) c) k)

-- a test that fails at the four blanks fails at a blank
pub fails_blank : (p : ℕ → Bool) (c : ℕ) → p 0x9 ≡ false → p 0xA ≡ false → p 0xD ≡ false → p 0x20 ≡ false → IsTrue (is_blank c) → p c ≡ false
fails_blank p c t l r s h = from (blank_is c h)
  where
    from : IsOneBlank c → p c ≡ false
    from (inl e) = ap p e ∙ t
    from (inr (inl e)) = ap p e ∙ l
    from (inr (inr (inl e))) = ap p e ∙ r
    from (inr (inr (inr e))) = ap p e ∙ s

pub blank_no_qname : (c : ℕ) → IsTrue (is_blank c) → is_qname_char c ≡ false
unfolding is_name_char is_name_start
blank_no_qname c h = fails_blank is_qname_char c refl refl refl refl h

pub blank_no_start : (c : ℕ) → IsTrue (is_blank c) → is_name_start c ≡ false
unfolding is_name_start
blank_no_start c h = fails_blank is_name_start c refl refl refl refl h

-- where one test holds another that is never met with it fails
pub apart : (b : Bool) → (b ≡ true → ⊥) → b ≡ false
apart true h = absurd (h refl)
apart false h = refl

pub start_no_blank : (c : ℕ) → is_name_start c ≡ true → is_blank c ≡ false
start_no_blank c h = apart (is_blank c) (λ k. not_both (is_name_start c) h (blank_no_start c k))

-- a test that fails at y tells what passes it from y
pub differs : (p : ℕ → Bool) (y : ℕ) → p y ≡ false → (x : ℕ) → p x ≡ true → not (x == y) ≡ true
differs p y fails x holds = by (x == y) refl
  where
    by : (b : Bool) → (x == y) ≡ b → not b ≡ true
    by true e = absurd (not_both (p x) holds (ap p (eqb-true x y e) ∙ fails))
    by false e = refl

-- ---- names

pub name_all : (text : List ℕ) → IsTrue (is_name_of text) → IsTrue (list_all is_name_char text)
name_all [] h = absurd cc
name_all (c ∷ cs) h = let p = both (is_name_start c) (list_all is_name_char cs) h in all_cons is_name_char c cs (start_is_name c p.0) p.1

-- the text begins with a name start
abbrev pub Starts : List ℕ → Type 0
Starts text = (c : ℕ) × (rest : List ℕ) × (is_name_start c ≡ true) × (text ≡ c ∷ rest)

pub name_starts : (text : List ℕ) → IsTrue (is_name_of text) → Starts text
name_starts [] h = absurd cc
name_starts (c ∷ cs) h = (c, cs, (both (is_name_start c) (list_all is_name_char cs) h).0, refl)

colon_is_qname : is_qname_char 0x3A ≡ true
unfolding is_name_char is_name_start
colon_is_qname = refl

pub colon_no_name : is_name_char 0x3A ≡ false
unfolding is_name_char is_name_start
colon_no_name = refl

qname_chars : (text : List ℕ) → IsTrue (is_name_of text) → IsTrue (list_all is_qname_char text)
qname_chars text h = all_weaker is_name_char is_qname_char name_is_qname text (name_all text h)

prefixed_all : (prefix : Option (List ℕ)) (local text : List ℕ) → SpellsPrefixed prefix local text → IsTrue (list_all is_qname_char text)
prefixed_all None local text (named, e) = qname_chars text named
prefixed_all (Some prefix) local text (front, back, (named, e), (named', e'), is) =
    subst (λ (t : List ℕ). IsTrue (list_all is_qname_char t)) (sym is)
    (all_append is_qname_char (front ++ codes ":") back (all_append is_qname_char front (codes ":") (qname_chars front named) (all_cons is_qname_char 0x3A [] colon_is_qname refl)) (qname_chars back named'))

pub qname_all : (name : QName) (text : List ℕ) → SpellsQName name text → IsTrue (list_all is_qname_char text)
qname_all name text h = prefixed_all name.prefix name.local text h

prefixed_starts : (prefix : Option (List ℕ)) (local text : List ℕ) → SpellsPrefixed prefix local text → Starts text
prefixed_starts None local text (named, e) = name_starts text named
prefixed_starts (Some prefix) local text (front, back, (named, e), (named', e'), is) =
    let s = name_starts front named in
    (s.0, s.1 ++ codes ":" ++ back, s.2, is ∙ ap (λ (t : List ℕ). t ++ codes ":" ++ back) s.3)

pub qname_starts : (name : QName) (text : List ℕ) → SpellsQName name text → Starts text
qname_starts name text h = prefixed_starts name.prefix name.local text h

-- what a text can be read as: a prefix and a local part
abbrev SamePrefixed : Option (List ℕ) → List ℕ → Option (List ℕ) → List ℕ → Type 0
SamePrefixed p m q n = (p ≡ q) × (m ≡ n)

one_colon : (a front back : List ℕ) → IsTrue (is_name_of a) → IsTrue (is_name_of front) → a ≡ front ++ codes ":" ++ back → ⊥
one_colon a front back na nf e =
    let r = run_same is_name_char a front [] (codes ":" ++ back) (name_all a na) (name_all front nf) tt colon_no_name (append-nil a ∙ e ∙ append_assoc front (codes ":") back) in
    let bad : [] ≡ codes ":" ++ back = r.1 in
    cc

some_same : (p q : List ℕ) → p ≡ q → Some p ≡ Some q
some_same p q e = cc

prefixed_same : (p : Option (List ℕ)) (m : List ℕ) (q : Option (List ℕ)) (n text : List ℕ) → SpellsPrefixed p m text → SpellsPrefixed q n text → SamePrefixed p m q n
prefixed_same None m None n text (named, e) (named', e') = (refl, e ∙ sym e')
prefixed_same None m (Some q) n text (named, e) (front, back, (nf, ef), (nb, eb), is) = absurd (one_colon text front back named nf is)
prefixed_same (Some p) m None n text (front, back, (nf, ef), (nb, eb), is) (named, e) = absurd (one_colon text front back named nf is)
prefixed_same (Some p) m (Some q) n text (front, back, (nf, ef), (nb, eb), is) (front', back', (nf', ef'), (nb', eb'), is') =
    let r = run_same is_name_char front front' (codes ":" ++ back) (codes ":" ++ back') (name_all front nf) (name_all front' nf') colon_no_name colon_no_name
    (sym (append_assoc front (codes ":") back) ∙ sym is ∙ is' ∙ append_assoc front' (codes ":") back') in
    let s : back ≡ back' = tail_same 0x3A 0x3A back back' r.1 in
    (some_same p q (ef ∙ ap encode_utf8_all r.0 ∙ sym ef'), eb ∙ ap encode_utf8_all s ∙ sym eb')

pub qname_same : (m n : QName) (text : List ℕ) → SpellsQName m text → SpellsQName n text → m ≡ n
qname_same m n text h k = let r = prefixed_same m.prefix m.local n.prefix n.local text h k in λ i. record { prefix = r.0 i; local = r.1 i }

-- a name in a row ends with its characters
pub qname_row : (m n : QName) (a b c d : List ℕ) → SpellsQName m a → SpellsQName n b → Stops is_qname_char c → Stops is_qname_char d → a ++ c ≡ b ++ d → (m ≡ n) × (a ≡ b) × (c ≡ d)
qname_row m n a b c d h k sc sd e =
    let r = run_same is_qname_char a b c d (qname_all m a h) (qname_all n b k) sc sd e in
    (qname_same m n a h (subst (SpellsQName n) (sym r.0) k), r.0, r.1)
