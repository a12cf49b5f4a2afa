-- What is kept while prefixes are given, namespace by namespace.
use Rattle.std.specs.Prelude.{◌≡◌, ℕ, ◌≤◌, ◌<◌, ◌^◌, Bool, true, false, List, Vec}
use Rattle.std.specs.declared.alloc.Global.{Global}
use Rattle.std.specs.Ordering.{nat_cmp}
use Rattle.std.specs.Cmp.Lexicographic.{slice_cmp}
use Rattle.std.specs.BTreeSet.{BTreeSet, contains_by}
use Rattle.xmp_values.specs.declared.hints.Hint.{Hint}
use Rattle.xmp_write.specs.declared.giving.Given.{Given}
use Rattle.xmp_write.specs.Prefixes.{has_prefix, is_free, numbered}

-- whether a set that owns its texts has a text
abbrev pub owns_text : BTreeSet (Vec ℕ Global) → List ℕ → Bool
owns_text texts text = contains_by (λ key. slice_cmp nat_cmp text key.items) texts

-- a set tells of a prefix whether a list has it
abbrev pub HasGiven : BTreeSet (Vec ℕ Global) → List Hint → List ℕ → Type 0
HasGiven taken given prefix = owns_text taken prefix ≡ has_prefix given prefix

-- What is given is at hand: a set that tells of the hints' prefixes and of later numbers, and a number below which none
-- is free. Prefixes that were numbered needn't be in the set, since no hint has them and later numbers differ.
pub record IsGiven (hints : List Hint) (g : Given) : Type 0 where
  pub hinted : (prefix : List ℕ) → has_prefix hints prefix ≡ true → HasGiven g.taken g.list prefix
  pub later : (n : ℕ) → g.next ≤ n → n < 2 ^ 64 → HasGiven g.taken g.list (numbered n)
  pub from : 1 ≤ g.next
  pub tried : (n : ℕ) → 1 ≤ n → n < g.next → is_free hints g.list (numbered n) ≡ false
