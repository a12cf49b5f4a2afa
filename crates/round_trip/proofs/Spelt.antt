-- Parts of a text inside an element that whole pieces spell, and what those pieces are: parts compose.
use Rattle.std.proofs.Common.{◌≡◌, ◌≢◌, ℕ, ◌+◌, Bool, true, false, cond, inl, inr, List, [], ◌∷◌, ◌++◌, length, None, refl, ap, sym, subst, ◌∙◌, append_assoc, append-nil, arith}
use Rattle.std.specs.Prelude.{IsTrue, codes, ◌==◌, encode_utf8, encode_utf8_all}
use Rattle.std.specs.List.{list_all}
use Rattle.std.proofs.lemmas.Bool.{eqb-true, eqb-false}
use Rattle.std.proofs.lemmas.Str.{encodes-append}
use Rattle.xmp_values.specs.Characters.{is_char}
use Rattle.xmp_values.specs.declared.hints.Hint.{Hint}
use Rattle.xml_grammar.specs.declared.tokens.Mode.TheVariants as modes
use Rattle.xml_grammar.specs.Spelling.{BeginsWith, SpellsReference, Lt, Gt, Amp}
use Rattle.xml_grammar.specs.Pieces.{Piece, Reference, Character, Stands}
use Rattle.xml_grammar.specs.Nesting.{Level, Nest, mode_of, enter, broken}
use Rattle.xml_grammar.specs.Trees.{Placed, Event, put, events_of, piece_hints, all_hints}
use Rattle.xml_grammar.specs.Documents.{width, Reads, nest_after}
use Rattle.xml_grammar.proofs.Splits.{all_head, all_tail, head_same, tail_same}
use Rattle.xml_grammar.proofs.Rows.{width-append, reads_append, nest-append, put_inside-append}
use Rattle.xmp_write.specs.Text.{text_byte, text_escaped}
use Rattle.round_trip.proofs.Escapes.{text_escapes, escaped_chars, scalars_append, text_scalars}
use Rattle.std.proofs.Math.Utf8.{scalars}

-- the nest inside open elements, the innermost first
abbrev pub inside : List Level → Nest
inside ls = record { first = false; levels = ls; rooted = true }

-- Bytes at a place that pieces spell whatever follows that is so, the prefixes that the pieces declare, what they add before later
-- events, and the nest after.
pub record IsSpeltWith (hs : List Hint) (Before : List ℕ → Type 0) (s : Nest) (at : ℕ) (bytes : List ℕ) (adds : List Event → List Event) (t : Nest) : Type 0 where
  pub chars : List ℕ
  pub utf8 : bytes ≡ encode_utf8_all chars
  pub scalar : scalars chars ≡ true
  pub pieces : List Placed
  pub read : (left : List ℕ) → Before left → Reads s at pieces (chars ++ left) left
  pub ends : nest_after s pieces ≡ t
  pub means : (more : List Placed) → events_of s (pieces ++ more) ≡ adds (events_of t more)
  pub hinted : all_hints pieces ≡ hs

-- pieces that declare nothing
abbrev pub IsSpelt : (List ℕ → Type 0) → Nest → ℕ → List ℕ → (List Event → List Event) → Nest → Type 0
IsSpelt Before s at bytes adds t = IsSpeltWith [] Before s at bytes adds t

abbrev pub Anything : List ℕ → Type 0
Anything left = Unit {0}

-- before a tag
abbrev pub Tagged : List ℕ → Type 0
Tagged left = BeginsWith (codes "<") left

events_assoc : (s : Nest) (ps qs more : List Placed) → events_of s ((ps ++ qs) ++ more) ≡ events_of s (ps ++ (qs ++ more))
events_assoc s ps qs more = ap (events_of s) (append_assoc ps qs more)

hints-append : (ps qs : List Placed) → all_hints (ps ++ qs) ≡ all_hints ps ++ all_hints qs
hints-append [] qs = refl
hints-append (p ∷ ps) qs = ap (λ (hs : List Hint). piece_hints p.1 ++ hs) (hints-append ps qs) ∙ sym (append_assoc (piece_hints p.1) (all_hints ps) (all_hints qs))

-- one part and then another, of which the second makes what the first asks for
pub spelt_both : (hs gs : List Hint) (First Second : List ℕ → Type 0) (s t u : Nest) (at : ℕ) (a b : List ℕ) (f g : List Event → List Event) (h : IsSpeltWith hs First s at a f t)
    (k : IsSpeltWith gs Second t (at + length a) b g u) → ((left : List ℕ) → Second left → First (k.chars ++ left))
    → IsSpeltWith (hs ++ gs) Second s at (a ++ b) (λ es. f (g es)) u
spelt_both hs gs First Second s t u at a b f g h k fits = record {
  chars = h.chars ++ k.chars;
  utf8 = ap (λ (x : List ℕ). x ++ b) h.utf8 ∙ ap (λ (x : List ℕ). encode_utf8_all h.chars ++ x) k.utf8 ∙ sym (encodes-append h.chars k.chars);
  scalar = scalars_append h.chars k.chars h.scalar k.scalar;
  pieces = h.pieces ++ k.pieces;
  read = λ left before.
      let one : Reads s at h.pieces (h.chars ++ (k.chars ++ left)) (k.chars ++ left) = h.read (k.chars ++ left) (fits left before) in
      let two : Reads (nest_after s h.pieces) (at + length a) k.pieces (k.chars ++ left) left =
      subst (λ (z : Nest). Reads z (at + length a) k.pieces (k.chars ++ left) left) (sym h.ends) (k.read left before) in
      let wide : length a ≡ width h.chars = ap length h.utf8 in
      let all : width (h.chars ++ (k.chars ++ left)) ≡ width h.chars + width (k.chars ++ left) = width-append h.chars (k.chars ++ left) in
      subst (λ (x : List ℕ). Reads s at (h.pieces ++ k.pieces) x left) (sym (append_assoc h.chars k.chars left))
      (reads_append s at (at + length a) h.pieces k.pieces (h.chars ++ (k.chars ++ left)) (k.chars ++ left) left one two (omega (arith, wide, all)));
  ends = nest-append s h.pieces k.pieces ∙ ap (λ (z : Nest). nest_after z k.pieces) h.ends ∙ k.ends;
  means = λ more. events_assoc s h.pieces k.pieces more ∙ h.means (k.pieces ++ more) ∙ ap f (k.means more);
  hinted = hints-append h.pieces k.pieces ∙ ap (λ (x : List Hint). x ++ all_hints k.pieces) h.hinted ∙ ap (λ (x : List Hint). hs ++ x) k.hinted;
}

pub spelt_then : (First Second : List ℕ → Type 0) (s t u : Nest) (at : ℕ) (a b : List ℕ) (f g : List Event → List Event) (h : IsSpelt First s at a f t)
    (k : IsSpelt Second t (at + length a) b g u) → ((left : List ℕ) → Second left → First (k.chars ++ left))
    → IsSpelt Second s at (a ++ b) (λ es. f (g es)) u
spelt_then First Second s t u at a b f g h k fits = spelt_both [] [] First Second s t u at a b f g h k fits

-- nothing
pub spelt_none : (s : Nest) (at : ℕ) → IsSpelt Anything s at [] (λ es. es) s
spelt_none s at = record { chars = []; utf8 = refl; scalar = refl; pieces = []; read = λ left before. refl; ends = refl; means = λ more. refl; hinted = refl }

-- one piece
pub spelt_one : (hs : List Hint) (s : Nest) (at : ℕ) (p : Piece) (text : List ℕ) (f : List Event → List Event) → ((left : List ℕ) → Stands (mode_of s) p text left) → broken s p ≡ None → scalars text ≡ true → piece_hints p ≡ hs
    → ((more : List Placed) → events_of s ((at, p) ∷ more) ≡ f (events_of (enter s p) more)) → IsSpeltWith hs Anything s at (encode_utf8_all text) f (enter s p)
spelt_one hs s at p text f stands good plain declares means = record {
  chars = text;
  utf8 = refl;
  scalar = plain;
  pieces = (at, p) ∷ [];
  read = λ left before. (refl, text, left, stands left, good, refl, refl);
  ends = refl;
  means = means;
  hinted = append-nil (piece_hints p) ∙ declares;
}

-- ---- text

-- the piece that spells a character of a text
abbrev pub text_piece : ℕ → Piece
text_piece c =
    cond (c == 0x26) (Reference c) (cond (c == 0x3C) (Reference c) (cond (c == 0x3E) (Reference c) (cond (c == 0xD) (Reference c) (Character c))))

-- what the escape of a character begins with
record IsFront (c : ℕ) : Type 0 where
  head : ℕ
  rest : List ℕ
  is : text_byte c ≡ head ∷ rest
  open_end : head ≢ 0x3E
  one : head ≡ 0x5D → rest ≡ []

front_of : (c : ℕ) → IsFront c
front_of c = by (c == 0x26) (c == 0x3C) (c == 0x3E) (c == 0xD) refl refl refl refl
  where
    by : (x y z w : Bool) → (c == 0x26) ≡ x → (c == 0x3C) ≡ y → (c == 0x3E) ≡ z → (c == 0xD) ≡ w → IsFront c
    by true y z w p q r t = record { head = 0x26; rest = codes "amp;"; is = rw p refl; open_end = λ e. omega arith; one = λ e. absurd (omega arith) }
    by false true z w p q r t = record { head = 0x26; rest = codes "lt;"; is = rw (p, q) refl; open_end = λ e. omega arith; one = λ e. absurd (omega arith) }
    by false false true w p q r t = record { head = 0x26; rest = codes "gt;"; is = rw (p, q, r) refl; open_end = λ e. omega arith; one = λ e. absurd (omega arith) }
    by false false false true p q r t = record { head = 0x26; rest = codes "#xD;"; is = rw (p, q, r, t) refl; open_end = λ e. omega arith; one = λ e. absurd (omega arith) }
    by false false false false p q r t = let k = eqb-false c 0x3E r in record { head = c; rest = []; is = rw (p, q, r, t) refl; open_end = k; one = λ e. refl }

-- a text before a tag begins with no `>`, and with no `]>`
no_end : (cs left : List ℕ) → Tagged left → BeginsWith (codes ">") (text_escaped cs ++ left) → ⊥
no_end [] left (rest, is) (more, at) = let k = head_same 0x3C 0x3E rest more (sym is ∙ at) in omega arith
no_end (c ∷ cs) left tagged (more, at) =
    let f = front_of c in
    let e : f.head ∷ ((f.rest ++ text_escaped cs) ++ left) ≡ 0x3E ∷ more = ap (λ (t : List ℕ). (t ++ text_escaped cs) ++ left) (sym f.is) ∙ at in
    f.open_end (head_same f.head 0x3E ((f.rest ++ text_escaped cs) ++ left) more e)

no_close : (cs left : List ℕ) → Tagged left → BeginsWith (codes "]>") (text_escaped cs ++ left) → ⊥
no_close [] left (rest, is) (more, at) = let k = head_same 0x3C 0x5D rest (0x3E ∷ more) (sym is ∙ at) in omega arith
no_close (c ∷ cs) left tagged (more, at) =
    let f = front_of c in
    let e : f.head ∷ ((f.rest ++ text_escaped cs) ++ left) ≡ 0x5D ∷ 0x3E ∷ more = ap (λ (t : List ℕ). (t ++ text_escaped cs) ++ left) (sym f.is) ∙ at in
    let none = f.one (head_same f.head 0x5D ((f.rest ++ text_escaped cs) ++ left) (0x3E ∷ more) e) in
    let after : (f.rest ++ text_escaped cs) ++ left ≡ 0x3E ∷ more = tail_same f.head 0x5D ((f.rest ++ text_escaped cs) ++ left) (0x3E ∷ more) e in
    no_end cs left tagged (more, ap (λ (t : List ℕ). (t ++ text_escaped cs) ++ left) (sym none) ∙ after)

-- the piece stands there, breaks no rule, and is the character
record IsTextPiece (l : Level) (ls : List Level) (at c : ℕ) (p : Piece) (front : List ℕ) : Type 0 where
  stands : (back : List ℕ) → (BeginsWith (codes "]>") back → ⊥) → Stands modes.Inside p front back
  good : broken (inside (l ∷ ls)) p ≡ None
  same : enter (inside (l ∷ ls)) p ≡ inside (l ∷ ls)
  means : (more : List Placed) → events_of (inside (l ∷ ls)) ((at, p) ∷ more) ≡ put (encode_utf8 c) (events_of (inside (l ∷ ls)) more)
  quiet : piece_hints p ≡ []

module _ (l : Level) (ls : List Level) (at : ℕ) where
  referred : (c : ℕ) (front : List ℕ) → SpellsReference c front → IsTextPiece l ls at c (Reference c) front
  unfolding broken
  referred c front h = record { stands = λ back free. record { spelled = h; fits = tt }; good = refl; same = refl; means = λ more. refl; quiet = refl }

  plain : (c : ℕ) → is_char c ≡ true → c ≢ 0x3C → c ≢ 0x26 → c ≢ 0xD → IsTextPiece l ls at c (Character c) (c ∷ [])
  unfolding broken
  plain c char less amp cr = record {
    stands = λ back free. record { spelled = (char, less, amp, cr, refl); fits = λ mode is. free };
    good = refl;
    same = refl;
    means = λ more. refl;
    quiet = refl;
  }

  text_piece_is : (c : ℕ) → is_char c ≡ true → IsTextPiece l ls at c (text_piece c) (text_byte c)
  unfolding is_char
  text_piece_is c char = by (c == 0x26) (c == 0x3C) (c == 0x3E) (c == 0xD) (eqb-true c 0x26) (eqb-true c 0x3C) (eqb-true c 0x3E) (eqb-true c 0xD) (eqb-false c 0x26) (eqb-false c 0x3C) (eqb-false c 0xD)
    where
      by : (x y z w : Bool) → (x ≡ true → c ≡ 0x26) → (y ≡ true → c ≡ 0x3C) → (z ≡ true → c ≡ 0x3E) → (w ≡ true → c ≡ 0xD) → (x ≡ false → c ≢ 0x26) → (y ≡ false → c ≢ 0x3C) → (w ≡ false → c ≢ 0xD)
          → IsTextPiece l ls at c (cond x (Reference c) (cond y (Reference c) (cond z (Reference c) (cond w (Reference c) (Character c)))))
          (cond x (codes "&amp;") (cond y (codes "&lt;") (cond z (codes "&gt;") (cond w (codes "&#xD;") (c ∷ [])))))
      by true y z w p q r t np nq nt = referred c (codes "&amp;") (inl (Amp, p refl, refl))
      by false true z w p q r t np nq nt = referred c (codes "&lt;") (inl (Lt, q refl, refl))
      by false false true w p q r t np nq nt = referred c (codes "&gt;") (inl (Gt, r refl, refl))
      by false false false true p q r t np nq nt = referred c (codes "&#xD;") (inr (inr (codes "D", λ e. cc, refl, t refl, char, refl)))
      by false false false false p q r t np nq nt = plain c char (nq refl) (np refl) (nt refl)

abbrev pub text_pieces : ℕ → List ℕ → List Placed
text_pieces at [] = []
text_pieces at (c ∷ cs) = (at, text_piece c) ∷ text_pieces (at + width (text_byte c)) cs

module _ (l : Level) (ls : List Level) where
  text_reads : (at : ℕ) (cs left : List ℕ) → IsTrue (list_all is_char cs) → Tagged left → Reads (inside (l ∷ ls)) at (text_pieces at cs) (text_escaped cs ++ left) left
  text_reads at [] left h tagged = refl
  text_reads at (c ∷ cs) left h tagged =
      let p = text_piece_is l ls at c (all_head is_char c cs h) in (
        refl,
        text_byte c,
        text_escaped cs ++ left,
        p.stands (text_escaped cs ++ left) (no_close cs left tagged),
        p.good,
        subst (λ (s : Nest). Reads s (at + width (text_byte c)) (text_pieces (at + width (text_byte c)) cs) (text_escaped cs ++ left) left) (sym p.same)
            (text_reads (at + width (text_byte c)) cs left (all_tail is_char c cs h) tagged),
        append_assoc (text_byte c) (text_escaped cs) left,
      )

  text_ends : (at : ℕ) (cs : List ℕ) → IsTrue (list_all is_char cs) → nest_after (inside (l ∷ ls)) (text_pieces at cs) ≡ inside (l ∷ ls)
  text_ends at [] h = refl
  text_ends at (c ∷ cs) h =
      ap (λ (s : Nest). nest_after s (text_pieces (at + width (text_byte c)) cs)) (text_piece_is l ls at c (all_head is_char c cs h)).same
      ∙ text_ends (at + width (text_byte c)) cs (all_tail is_char c cs h)

  text_means : (at : ℕ) (cs : List ℕ) (more : List Placed) → IsTrue (list_all is_char cs)
      → events_of (inside (l ∷ ls)) (text_pieces at cs ++ more) ≡ put (encode_utf8_all cs) (events_of (inside (l ∷ ls)) more)
  text_means at [] more h = refl
  text_means at (c ∷ cs) more h =
      (text_piece_is l ls at c (all_head is_char c cs h)).means (text_pieces (at + width (text_byte c)) cs ++ more)
      ∙ ap (put (encode_utf8 c)) (text_means (at + width (text_byte c)) cs more (all_tail is_char c cs h))
      ∙ put_inside-append (l ∷ ls) (encode_utf8 c) (encode_utf8_all cs) (events_of (inside (l ∷ ls)) more)

  text_quiet : (at : ℕ) (cs : List ℕ) → IsTrue (list_all is_char cs) → all_hints (text_pieces at cs) ≡ []
  text_quiet at [] h = refl
  text_quiet at (c ∷ cs) h =
      ap (λ (hs : List Hint). hs ++ all_hints (text_pieces (at + width (text_byte c)) cs)) (text_piece_is l ls at c (all_head is_char c cs h)).quiet
      ∙ text_quiet (at + width (text_byte c)) cs (all_tail is_char c cs h)

  -- a text inside an element, before a tag
  pub text_spelt : (at : ℕ) (cs : List ℕ) → IsTrue (list_all is_char cs)
      → IsSpelt Tagged (inside (l ∷ ls)) at (text_escaped (encode_utf8_all cs)) (put (encode_utf8_all cs)) (inside (l ∷ ls))
  text_spelt at cs h = record {
    chars = text_escaped cs;
    utf8 = escaped_chars text_byte text_escapes cs;
    scalar = text_scalars cs h;
    pieces = text_pieces at cs;
    read = λ left tagged. text_reads at cs left h tagged;
    ends = text_ends at cs h;
    means = λ more. text_means at cs more h;
    hinted = text_quiet at cs h;
  }
