-- A namespace more has a number of its own.
use Rattle.std.proofs.Common.{◌≡◌, ◌≢◌, ◌⊎◌, ℕ, ◌+◌, ◌<◌, ◌≤◌, ◌^◌, Bool, true, false, List, [], ◌∷◌, Option, Some, None, refl, sym, ap, subst, ◌∙◌, inl, inr, ⊎_elim, arith}
use Rattle.std.specs.Prelude.{if◌then◌else◌, Vec}
use Rattle.std.specs.declared.alloc.Global.{Global}
use Rattle.std.specs.Int.{w64, to_be_bytes, from_be_bytes}
use Rattle.std.specs.Option.{option_map}
use Rattle.std.specs.Str.{bytes_eq}
use Rattle.std.specs.BTreeMap.{BTreeMap, btree_map_len}
use Rattle.std.proofs.lemmas.Nat.{from_be_bytes-to_be_bytes_8}
use Rattle.xml_grammar.proofs.SoundPieces.{same_bytes, bytes_same}
use Rattle.xmp_xml.specs.Named.{named_at}
use Rattle.xmp_xml.specs.Numbers.{number_in, mark_in}
use Rattle.xmp_xml.proofs.Naming.{named_none}

abbrev Numbering : Type 0
Numbering = BTreeMap (Vec ℕ Global) ℕ

abbrev pub Below : Numbering → Type 0
Below m = (q : List ℕ) (n : ℕ) → number_in m q ≡ Some n → n ≤ btree_map_len m

abbrev pub Small : Numbering → Type 0
Small m = (q : List ℕ) (n : ℕ) → number_in m q ≡ Some n → n < 2 ^ 64

abbrev pub Distinct : Numbering → Type 0
Distinct m = (x y : List ℕ) (n : ℕ) → number_in m x ≡ Some n → number_in m y ≡ Some n → x ≡ y

some_is : {X : Type 0} (x y : X) → Some x ≡ Some y → x ≡ y
some_is x y e = cc

-- ---- nothing was met

none_numbered : (m : Numbering) → m.entries ≡ [] → (q : List ℕ) (n : ℕ) → number_in m q ≡ Some n → (q ≡ []) × (n ≡ 0)
none_numbered m none [] n e = (refl, sym (some_is 0 n e))
none_numbered m none (b ∷ bs) n e = let bad : None ≡ Some n = sym (named_none m none (b ∷ bs)) ∙ e in absurd cc

pub no_below : (m : Numbering) → m.entries ≡ [] → Below m
no_below m none q n e = let h = none_numbered m none q n e in omega (arith, h.1)

pub no_small : (m : Numbering) → m.entries ≡ [] → Small m
no_small m none q n e = let h = none_numbered m none q n e in omega (arith, h.1)

pub no_distinct : (m : Numbering) → m.entries ≡ [] → Distinct m
no_distinct m none x y n e f = (none_numbered m none x n e).0 ∙ sym (none_numbered m none y n f).0

-- ---- one more

pub number_named : (m : Numbering) (space : List ℕ) → space ≢ [] → number_in m space ≡ named_at m space
number_named m [] some = absurd (some refl)
number_named m (b ∷ bs) some = refl

module _ (m next : Numbering) (space : List ℕ) (number : ℕ) (some : space ≢ []) (absent : named_at m space ≡ None)
    (puts : (q : List ℕ) → named_at next q ≡ (if bytes_eq space q then Some number else named_at m q)) where
  pub numbered_new : number_in next space ≡ Some number
  numbered_new = number_named next space some ∙ puts space ∙ rw (bytes_same space space refl) refl

  pub numbered_old : (q : List ℕ) (n : ℕ) → number_in m q ≡ Some n → number_in next q ≡ Some n
  numbered_old [] n e = e
  numbered_old (b ∷ bs) n e = by (bytes_eq space (b ∷ bs)) refl
    where
      by : (t : Bool) → bytes_eq space (b ∷ bs) ≡ t → named_at next (b ∷ bs) ≡ Some n
      by true same = let bad : None ≡ Some n = sym absent ∙ ap (named_at m) (same_bytes space (b ∷ bs) same) ∙ e in absurd cc
      by false same = puts (b ∷ bs) ∙ rw same e

  numbered : (q : List ℕ) (n : ℕ) → number_in next q ≡ Some n → ((q ≡ space) × (n ≡ number)) ⊎ (number_in m q ≡ Some n)
  numbered [] n e = inr e
  numbered (b ∷ bs) n e = by (bytes_eq space (b ∷ bs)) refl
    where
      by : (t : Bool) → bytes_eq space (b ∷ bs) ≡ t → (((b ∷ bs) ≡ space) × (n ≡ number)) ⊎ (named_at m (b ∷ bs) ≡ Some n)
      by true same = let is : Some number ≡ Some n = sym (puts (b ∷ bs) ∙ rw same refl) ∙ e in inl (sym (same_bytes space (b ∷ bs) same), sym (some_is number n is))
      by false same = inr (sym (puts (b ∷ bs) ∙ rw same refl) ∙ e)

  module _ (size : number ≡ btree_map_len m + 1) (below : Below m) where
    pub below_more : btree_map_len next ≡ btree_map_len m + 1 → Below next
    below_more long q n e = ⊎_elim (λ new. omega (arith, new.1, size, long)) (λ old. let k = below q n old in omega (arith, k, long)) (numbered q n e)

    pub small_more : number < 2 ^ 64 → Small m → Small next
    small_more fits small q n e = ⊎_elim (λ new. subst (λ (k : ℕ). k < 2 ^ 64) (sym new.1) fits) (λ old. small q n old) (numbered q n e)

    clash : (q : List ℕ) (n : ℕ) → n ≡ number → number_in m q ≡ Some n → ⊥
    clash q n new old = let k = below q n old in omega (arith, new, k, size)

    pub distinct_more : Distinct m → Distinct next
    distinct_more distinct x y n e f = by (numbered x n e) (numbered y n f)
      where
        by : ((x ≡ space) × (n ≡ number)) ⊎ (number_in m x ≡ Some n) → ((y ≡ space) × (n ≡ number)) ⊎ (number_in m y ≡ Some n) → x ≡ y
        by (inl (one, a)) (inl (other, b)) = one ∙ sym other
        by (inl (one, a)) (inr old) = absurd (clash y n a old)
        by (inr old) (inl (other, b)) = absurd (clash x n b old)
        by (inr old) (inr also) = distinct x y n old also

-- ---- marks

pub mark_new : (m : Numbering) (space : List ℕ) (number : ℕ) (mark : List ℕ) → number_in m space ≡ Some number → mark ≡ to_be_bytes w64 number → mark_in m space ≡ Some mark
mark_new m space number mark e is = ap (option_map (to_be_bytes w64)) e ∙ ap Some (sym is)

pub mark_old : (m next : Numbering) → ((q : List ℕ) (n : ℕ) → number_in m q ≡ Some n → number_in next q ≡ Some n) → (q t : List ℕ) → mark_in m q ≡ Some t → mark_in next q ≡ Some t
mark_old m next keeps q t e = by (number_in m q) refl e
  where
    by : (o : Option ℕ) → number_in m q ≡ o → option_map (to_be_bytes w64) o ≡ Some t → mark_in next q ≡ Some t
    by None is e = absurd cc
    by (Some n) is e = ap (option_map (to_be_bytes w64)) (keeps q n is) ∙ e

-- two namespaces with one mark are one
pub mark_tells : (m : Numbering) → Small m → Distinct m → (x y t : List ℕ) → mark_in m x ≡ Some t → mark_in m y ≡ Some t → x ≡ y
mark_tells m small distinct x y t e f = by (number_in m x) (number_in m y) refl refl e f
  where
    by : (o p : Option ℕ) → number_in m x ≡ o → number_in m y ≡ p → option_map (to_be_bytes w64) o ≡ Some t → option_map (to_be_bytes w64) p ≡ Some t → x ≡ y
    by None p a b e f = absurd cc
    by (Some n) None a b e f = absurd cc
    by (Some n) (Some k) a b e f =
        let one : to_be_bytes w64 n ≡ t = some_is (to_be_bytes w64 n) t e in
        let other : to_be_bytes w64 k ≡ t = some_is (to_be_bytes w64 k) t f in
        let same : n ≡ k = sym (from_be_bytes-to_be_bytes_8 n (small x n a)) ∙ ap (from_be_bytes w64) (one ∙ sym other) ∙ from_be_bytes-to_be_bytes_8 k (small y k b) in
        distinct x y n a (b ∙ ap Some (sym same))
