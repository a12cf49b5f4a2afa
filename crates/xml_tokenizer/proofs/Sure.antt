-- Runs by bytes: bytes that tell by themselves that their characters are of the class.
use Rattle.std.proofs.Common.{◌≡◌, ◌≢◌, ℕ, ◌+◌, ◌/◌, ◌%◌, ◌<◌, ◌≤◌, Bool, true, false, eqb, ltb, not, ◌&&◌, List, [], ◌∷◌, ◌++◌, length, drop, refl, sym, ap, subst, ◌∙◌, length-append, length-drop, append-nil, arith}
use Rattle.std.specs.Prelude.{IsTrue, encode_utf8, encode_utf8_all}
use Rattle.std.specs.List.{list_all, prefix_len}
use Rattle.std.specs.Str.{chars, all_scalars, IsUtf8, IsCharBoundary}
use Rattle.std.proofs.lemmas.Bool.{eqb-false, ne_eqb, ltb-true, ltb-false, lt-ltb, le-ltb}
use Rattle.std.proofs.lemmas.Bool.Decides.{nat_tests}
use Rattle.std.proofs.lemmas.Str.{encode_ascii, chars-nil, encodes-chars, scalars-chars, encodes-append, chars-encodes, IsCharBoundary-at_seam}
use Rattle.std.proofs.lemmas.List.{drop_at, nil_from_length}
use lib.Utf8.{encode, scalar}
use Rattle.xmp_values.specs.Characters.{is_char}
use Rattle.xml_grammar.proofs.Splits.{both, all_cons}
use Rattle.xml_tokenizer.specs.declared.classes.Class.{Class}
use Rattle.xml_tokenizer.specs.declared.classes.Class.TheVariants as classes
use Rattle.xml_tokenizer.specs.Runs.{Passes}
use Rattle.xml_tokenizer.specs.Classes.{has, is_wide, is_sure, is_plain, is_value}

sure_wide : (class : Class) (b : ℕ) → 128 ≤ b → is_sure class b ≡ (is_wide class && not (eqb b 0xEF))
unfolding is_sure
sure_wide class b h = rw (le-ltb b 128 h) refl

sure_low : (class : Class) (b : ℕ) → b < 128 → is_sure class b ≡ has class b
unfolding is_sure
sure_low class b h = rw (lt-ltb b 128 h) refl

-- a byte after a first one
sure_next : (class : Class) (x : ℕ) → is_wide class ≡ true → is_sure class (128 + x % 64) ≡ true
sure_next class x w =
    let k : eqb (128 + x % 64) 0xEF ≡ false = ne_eqb (128 + x % 64) 0xEF (λ e. omega arith) in
    sure_wide class (128 + x % 64) (omega arith) ∙ rw (w, k) refl

-- a Char from 128 on that isn't of the last sixteenth of the plane
wide_char : (c : ℕ) → scalar c ≡ true → 128 ≤ c → c ≢ 0xFFFE → c ≢ 0xFFFF → is_char c ≡ true
unfolding is_char
wide_char c s low a b = grind (arith, nat_tests)

wide_has : (class : Class) (c : ℕ) → is_wide class ≡ true → 128 ≤ c → is_char c ≡ true → has class c ≡ true
unfolding is_plain is_value
wide_has classes.NameChar c w low h = absurd cc
wide_has classes.Blank c w low h = absurd cc
wide_has classes.Decimal c w low h = absurd cc
wide_has classes.Char c w low h = h
wide_has classes.Plain c w low h = grind (arith, nat_tests)
wide_has (classes.Value quote) c w low h = grind (arith, nat_tests)

-- the first byte of a character from 128 on, and the bytes after it
pub record Wide (class : Class) (c : ℕ) : Type 0 where
  pub first : ℕ
  pub more : List ℕ
  pub is : encode_utf8 c ≡ first ∷ more
  pub low : 128 ≤ first
  pub sure : is_wide class ≡ true → IsTrue (list_all (is_sure class) more)
  pub char : first ≢ 0xEF → is_char c ≡ true

wide : (class : Class) (c : ℕ) → scalar c ≡ true → 128 ≤ c → Wide class c
unfolding encode
wide class c s low = by_size (ltb c 2048) (ltb c 65536) refl refl
  where
    no : ltb c 128 ≡ false
    no = le-ltb c 128 low

    by_size : (u v : Bool) → ltb c 2048 ≡ u → ltb c 65536 ≡ v → Wide class c
    by_size true v e f =
        let k = ltb-true c 2048 e in
        record { first = 192 + c / 64; more = (128 + c % 64) ∷ []; is = rw (no, e) refl; low = omega arith; sure = λ w. all_cons (is_sure class) (128 + c % 64) [] (sure_next class c w) refl; char = λ n. wide_char c s low (λ q. omega arith) (λ q. omega arith) }
    by_size false true e f =
        let k = ltb-true c 65536 f in
        record {
          first = 224 + c / 4096;
          more = (128 + c / 64 % 64) ∷ (128 + c % 64) ∷ [];
          is = rw (no, e, f) refl;
          low = omega arith;
          sure = λ w. all_cons (is_sure class) (128 + c / 64 % 64) ((128 + c % 64) ∷ []) (sure_next class (c / 64) w) (all_cons (is_sure class) (128 + c % 64) [] (sure_next class c w) refl);
          char = λ n. wide_char c s low (λ q. n (ap (λ (x : ℕ). 224 + x / 4096) q)) (λ q. n (ap (λ (x : ℕ). 224 + x / 4096) q));
        }
    by_size false false e f =
        let k = ltb-false c 65536 f in
        record {
          first = 240 + c / 262144;
          more = (128 + c / 4096 % 64) ∷ (128 + c / 64 % 64) ∷ (128 + c % 64) ∷ [];
          is = rw (no, e, f) refl;
          low = omega arith;
          sure = λ w. all_cons (is_sure class) (128 + c / 4096 % 64) ((128 + c / 64 % 64) ∷ (128 + c % 64) ∷ []) (sure_next class (c / 4096) w) (all_cons (is_sure class) (128 + c / 64 % 64) ((128 + c % 64) ∷ []) (sure_next class (c / 64) w) (all_cons (is_sure class) (128 + c % 64) [] (sure_next class c w) refl));
          char = λ n. wide_char c s low (λ q. omega arith) (λ q. omega arith);
        }

prefix_all : (p : ℕ → Bool) (xs ys : List ℕ) → IsTrue (list_all p xs) → prefix_len p (xs ++ ys) ≡ length xs + prefix_len p ys
prefix_all p [] ys h = omega arith
prefix_all p (x ∷ xs) ys h = let k = both (p x) (list_all p xs) h in rw (k.0) (omega (arith, prefix_all p xs ys k.1))

-- a front of characters of the class, whose bytes are those that are sure
pub record Front (class : Class) (cs : List ℕ) : Type 0 where
  pub front : List ℕ
  pub rest : List ℕ
  pub parts : cs ≡ front ++ rest
  pub all : IsTrue (list_all (has class) front)
  pub bytes : prefix_len (is_sure class) (encode_utf8_all cs) ≡ length (encode_utf8_all front)

front_none : (class : Class) (c : ℕ) (cs : List ℕ) (b : ℕ) (more : List ℕ) → encode_utf8 c ≡ b ∷ more → is_sure class b ≡ false → Front class (c ∷ cs)
front_none class c cs b more e h =
    record { front = []; rest = c ∷ cs; parts = refl; all = refl; bytes = ap (λ (t : List ℕ). prefix_len (is_sure class) (t ++ encode_utf8_all cs)) e ∙ rw h refl }

front_more : (class : Class) (c : ℕ) (cs : List ℕ) → has class c ≡ true → IsTrue (list_all (is_sure class) (encode_utf8 c)) → Front class cs → Front class (c ∷ cs)
front_more class c cs h s f =
    record {
      front = c ∷ f.front;
      rest = f.rest;
      parts = ap (λ (t : List ℕ). c ∷ t) f.parts;
      all = all_cons (has class) c f.front h f.all;
      bytes = prefix_all (is_sure class) (encode_utf8 c) (encode_utf8_all cs) s ∙ ap (λ (n : ℕ). length (encode_utf8 c) + n) f.bytes ∙ sym (length-append (encode_utf8 c) (encode_utf8_all f.front));
    }

front_low : (class : Class) (c : ℕ) (cs : List ℕ) → c < 128 → Front class cs → Front class (c ∷ cs)
front_low class c cs low f = by_has (has class c) refl
  where
    by_has : (v : Bool) → has class c ≡ v → Front class (c ∷ cs)
    by_has true h = front_more class c cs h (subst (λ (t : List ℕ). IsTrue (list_all (is_sure class) t)) (sym (encode_ascii c low)) (all_cons (is_sure class) c [] (sure_low class c low ∙ h) refl)) f
    by_has false h = front_none class c cs c [] (encode_ascii c low) (sure_low class c low ∙ h)

front_wide : (class : Class) (c : ℕ) (cs : List ℕ) → 128 ≤ c → Wide class c → Front class cs → Front class (c ∷ cs)
front_wide class c cs low w f = by_wide (is_wide class) (eqb w.first 0xEF) refl refl
  where
    by_wide : (u v : Bool) → is_wide class ≡ u → eqb w.first 0xEF ≡ v → Front class (c ∷ cs)
    by_wide false v h k = front_none class c cs w.first w.more w.is (sure_wide class w.first w.low ∙ rw h refl)
    by_wide true true h k = front_none class c cs w.first w.more w.is (sure_wide class w.first w.low ∙ rw (h, k) refl)
    by_wide true false h k =
        let first : is_sure class w.first ≡ true = sure_wide class w.first w.low ∙ rw (h, k) refl in
        let char = w.char (eqb-false w.first 0xEF k) in
        front_more class c cs (wide_has class c h low char) (subst (λ (t : List ℕ). IsTrue (list_all (is_sure class) t)) (sym w.is) (all_cons (is_sure class) w.first w.more first (w.sure h))) f

pub front_of : (class : Class) (cs : List ℕ) → all_scalars cs ≡ true → Front class cs
front_of class [] h = record { front = []; rest = []; parts = refl; all = refl; bytes = refl }
front_of class (c ∷ cs) h = by_size (ltb c 128) refl (both (scalar c) (all_scalars cs) h).0 (front_of class cs (both (scalar c) (all_scalars cs) h).1)
  where
    by_size : (v : Bool) → ltb c 128 ≡ v → scalar c ≡ true → Front class cs → Front class (c ∷ cs)
    by_size true e s f = front_low class c cs (ltb-true c 128 e) f
    by_size false e s f = front_wide class c cs (ltb-false c 128 e) (wide class c s (ltb-false c 128 e)) f

pub scalars_after : (front rest : List ℕ) → all_scalars (front ++ rest) ≡ true → all_scalars rest ≡ true
scalars_after [] rest h = h
scalars_after (c ∷ front) rest h = scalars_after front rest (both (scalar c) (all_scalars (front ++ rest)) h).1

pub scalars_before : (front rest : List ℕ) → all_scalars (front ++ rest) ≡ true → all_scalars front ≡ true
scalars_before [] rest h = refl
scalars_before (c ∷ front) rest h = let k = both (scalar c) (all_scalars (front ++ rest)) h in rw (k.0) (scalars_before front rest k.1)

-- what is left after the bytes that are sure
pub record Skips (class : Class) (text : List ℕ) (n : ℕ) : Type 0 where
  pub boundary : IsCharBoundary text n
  pub passes : Passes (has class) text (drop n text)

pub skips_of : (class : Class) (text : List ℕ) (n : ℕ) → IsUtf8 text → n ≡ prefix_len (is_sure class) text → Skips class text n
skips_of class text n u is =
    let scalars = scalars-chars text u in
    let f = front_of class (chars text) scalars in
    let spelled = encodes-chars text u in
    let at : text ≡ encode_utf8_all f.front ++ encode_utf8_all f.rest = sym spelled ∙ ap encode_utf8_all f.parts ∙ encodes-append f.front f.rest in
    let long : length (encode_utf8_all f.front) ≡ n = sym f.bytes ∙ ap (prefix_len (is_sure class)) spelled ∙ sym is in
    let rest_scalars : all_scalars f.rest ≡ true = scalars_after f.front f.rest (ap all_scalars (sym f.parts) ∙ scalars) in
    let rest_text : IsUtf8 (encode_utf8_all f.rest) = (f.rest, (rest_scalars, refl)) in
    let dropped : drop n text ≡ encode_utf8_all f.rest = ap (drop n) at ∙ drop_at (encode_utf8_all f.front) (encode_utf8_all f.rest) n long in
    record {
      boundary = subst (IsCharBoundary text) long (IsCharBoundary-at_seam text (encode_utf8_all f.front) (encode_utf8_all f.rest) at rest_text);
      passes = (f.front, f.all, at ∙ ap (λ (t : List ℕ). encode_utf8_all f.front ++ t) (sym dropped), f.parts ∙ ap (λ (t : List ℕ). f.front ++ t) (sym (ap chars dropped ∙ chars-encodes f.rest rest_scalars)));
    }

-- bytes that are all sure are of characters of the class
pub all_sure : (class : Class) (text : List ℕ) → IsUtf8 text → list_all (is_sure class) text ≡ true → list_all (has class) (chars text) ≡ true
all_sure class text u h =
    let whole : prefix_len (is_sure class) text ≡ length text = ap (prefix_len (is_sure class)) (sym (append-nil text)) ∙ prefix_all (is_sure class) text [] h ∙ omega arith in
    let p = (skips_of class text (length text) u (sym whole)).passes in
    let none : chars (drop (length text) text) ≡ [] = ap chars (nil_from_length (drop (length text) text) (omega (arith, length-drop (length text) text))) ∙ chars-nil in
    ap (list_all (has class)) (p.3 ∙ ap (λ (t : List ℕ). p.0 ++ t) none ∙ append-nil p.0) ∙ p.1
