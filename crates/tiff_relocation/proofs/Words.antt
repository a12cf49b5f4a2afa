-- What the words of a layout hold.
use Rattle.std.proofs.Common.{◌≡◌, ℕ, zero, suc, ◌+◌, ◌-◌, ◌^◌, ◌<◌, ◌≤◌, Bool, true, false, sym, ap, subst, arith, inl, inr}
use Rattle.std.specs.Prelude.{◌&&◌, ◌==◌, nat_le}
use Rattle.std.proofs.Math.Nat.{pow-suc}
use Rattle.std.proofs.lemmas.Bool.{eqb-true, leb-false, leb-true, or_cases}
use Rattle.tiff_dirs.specs.declared.layout.Layout.{Layout}
use Rattle.tiff_dirs.specs.Layouts.{Widths}
use Rattle.tiff_relocation.specs.Relocation.{tells, most_classic}

pub pow_more : (k : ℕ) → 4294967296 ≤ 256 ^ (k + 4)
pow_more zero = omega arith
pow_more (suc k) = let less = pow_more k in let e : suc k + 4 ≡ suc (k + 4) = omega arith in omega (arith, less, ap (λ (n : ℕ). 256 ^ n) e, pow-suc 256 (k + 4))

pub pow_word : (w : ℕ) → 4 ≤ w → 4294967296 ≤ 256 ^ w
pow_word w least = subst (λ (n : ℕ). 4294967296 ≤ 256 ^ n) (let e : (w - 4) + 4 ≡ w = omega (arith, least) in e) (pow_more (w - 4))

pub pow_count : (w : ℕ) → 2 ≤ w → 65536 ≤ 256 ^ w
pow_count w least = subst (λ (n : ℕ). 65536 ≤ 256 ^ n) (let e : (w - 2) + 2 ≡ w = omega (arith, least) in e) (more (w - 2))
  where
    more : (k : ℕ) → 65536 ≤ 256 ^ (k + 2)
    more zero = omega arith
    more (suc k) = let less = more k in let e : suc k + 2 ≡ suc (k + 2) = omega arith in omega (arith, less, ap (λ (n : ℕ). 256 ^ n) e, pow-suc 256 (k + 2))

-- a length that a layout tells is a number of its words
pub held_by_words : (l : Layout) (len : ℕ) → Widths l → len < 2 ^ 64 → tells l len ≡ true → len < 256 ^ l.word
held_by_words l len w short h =
    elim (or_cases (l.word == 8) (nat_le len most_classic) h) [
      | inl e ↦ (let wide : l.word ≡ 8 = eqb-true l.word 8 e in subst (λ (n : ℕ). len < 256 ^ n) (sym wide) (omega (arith, short)))
      | inr e ↦ (let low = leb-true len most_classic e in omega (arith, pow_word l.word w.least_word, low))
    ]

-- a count that is one more is a number of its bytes, where there is room
pub room_left : (copied : Bool) (entries count : ℕ) → copied ≡ true → (copied && nat_le 65535 entries) ≡ false → 2 ≤ count → entries + 1 < 256 ^ count
room_left true entries count e h least = let few = leb-false 65535 entries h in omega (arith, few, pow_count count least)
room_left false entries count e h least = absurd (cc e)

-- one that 32 bits hold is a number of a word
pub word_left : (len word : ℕ) → len ≤ 4294967295 → 4 ≤ word → len < 256 ^ word
word_left len word few least = omega (arith, few, pow_word word least)
