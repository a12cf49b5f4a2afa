-- That a list repeats nothing, as a test and as a fact.
use Rattle.std.proofs.Common.{◌≡◌, ◌≢◌, ℕ, suc, Bool, true, false, ◌||◌, ◌↔◌, List, [], ◌∷◌, Option, Some, None, refl, ap, arith}
use Rattle.std.specs.Prelude.{All, AllPairs}
use Rattle.std.specs.List.{list_any}
use Rattle.std.specs.Str.{bytes_eq}
use Rattle.std.proofs.lemmas.List.Elements.{All-nil, All-cons, All-head, All-tail}
use Rattle.std.proofs.lemmas.List.Kept.{AllPairs-cons}
use Rattle.xmp_values.specs.declared.text.Name.{Name}
use Rattle.xml_grammar.specs.declared.elements.Attribute.{Attribute}
use Rattle.xml_grammar.specs.declared.tags.QName.{QName}
use Rattle.xmp_values.specs.Names.{same_name}
use Rattle.xmp_values.proofs.SameNames.{same_name_is}
use Rattle.xml_grammar.specs.Scopes.{same_prefix, same_qname}
use Rattle.xml_grammar.specs.Nesting.{has_twice}
use Rattle.xml_grammar.proofs.Splits.{both, both_again, not_both}
use Rattle.xml_grammar.proofs.Parts.{apart}
use Rattle.xml_grammar.proofs.SoundPieces.{neither, same_bytes, bytes_same}

-- ---- equality of names

some_is : (p q : List ℕ) → Some p ≡ Some q → p ≡ q
some_is p q e = cc

pub same_prefix_is : (p q : Option (List ℕ)) → (same_prefix p q ≡ true) ↔ (p ≡ q)
same_prefix_is None None = (λ e. refl, λ e. refl)
same_prefix_is None (Some q) = (λ e. absurd cc, λ e. absurd cc)
same_prefix_is (Some p) None = (λ e. absurd cc, λ e. absurd cc)
same_prefix_is (Some p) (Some q) = (λ e. ap Some (same_bytes p q e), λ e. bytes_same p q (some_is p q e))

pub same_qname_is : (m n : QName) → (same_qname m n ≡ true) ↔ (m ≡ n)
same_qname_is m n = (
  λ e. let p = both (same_prefix m.prefix n.prefix) (bytes_eq m.local n.local) e in
      let s = (same_prefix_is m.prefix n.prefix).0 p.0 in
      let l = same_bytes m.local n.local p.1 in
      λ i. record { prefix = s i; local = l i },
  λ e. both_again (same_prefix m.prefix n.prefix) (bytes_eq m.local n.local) ((same_prefix_is m.prefix n.prefix).1 (ap (λ (z : QName). z.prefix) e)) (bytes_same m.local n.local (ap (λ (z : QName). z.local) e)),
)

-- ---- lists

module _ (A : Type 0) (same : A → A → Bool) (R : A → A → Type 0) (tells : (a b : A) → (same a b ≡ false) ↔ R a b) where
  none_same : (x : A) (xs : List A) → list_any (same x) xs ≡ false → All (R x) xs
  none_same x [] h = All-nil (R x)
  none_same x (y ∷ ys) h =
      let n = neither (same x y) (list_any (same x) ys) h in
      All-cons (R x) y ys ((tells x y).0 n.0) (none_same x ys n.1)

  neither_again : (a b : Bool) → a ≡ false → b ≡ false → (a || b) ≡ false
  neither_again true b e f = absurd cc
  neither_again false b e f = f

  same_none : (x : A) (xs : List A) → All (R x) xs → list_any (same x) xs ≡ false
  same_none x [] h = refl
  same_none x (y ∷ ys) h = neither_again (same x y) (list_any (same x) ys) ((tells x y).1 (All-head (R x) y ys h)) (same_none x ys (All-tail (R x) y ys h))

  pub apart_from_test : (xs : List A) → has_twice same xs ≡ false → AllPairs R xs
  apart_from_test [] h = λ i j d below within. absurd (omega arith)
  apart_from_test (x ∷ xs) h =
      let n = neither (list_any (same x) xs) (has_twice same xs) h in
      AllPairs-cons R x xs (none_same x xs n.0) (apart_from_test xs n.1)

  pub test_from_apart : (xs : List A) → AllPairs R xs → has_twice same xs ≡ false
  test_from_apart [] h = refl
  test_from_apart (x ∷ xs) h =
      neither_again (list_any (same x) xs) (has_twice same xs)
      (same_none x xs (λ k d within. h 0 (suc k) d (omega arith) (omega arith)))
      (test_from_apart xs (λ i j d below within. h (suc i) (suc j) d (omega arith) (omega arith)))

-- where a test tells equality it fails where the two differ
pub fails_differ : (A : Type 0) (same : Bool) (a b : A) → (same ≡ true) ↔ (a ≡ b) → (same ≡ false) ↔ (a ≢ b)
fails_differ A same a b tells = (λ e is. not_both same (tells.1 is) e, λ differ. apart same (λ e. differ (tells.0 e)))

-- attributes whose expanded names differ
pub expanded_apart : (xs : List Attribute) → (has_twice (λ (a b : Attribute). same_name a.name b.name) xs ≡ false) ↔ AllPairs (λ (a b : Attribute). a.name ≢ b.name) xs
expanded_apart xs = (
  apart_from_test Attribute (λ a b. same_name a.name b.name) (λ a b. a.name ≢ b.name) (λ a b. fails_differ Name (same_name a.name b.name) a.name b.name (same_name_is a.name b.name)) xs,
  test_from_apart Attribute (λ a b. same_name a.name b.name) (λ a b. a.name ≢ b.name) (λ a b. fails_differ Name (same_name a.name b.name) a.name b.name (same_name_is a.name b.name)) xs,
)
