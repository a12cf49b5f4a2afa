-- Maps from names in bytes.
use Rattle.std.specs.Prelude.{ℕ, List, Option, Vec}
use Rattle.std.specs.Ordering.{nat_cmp}
use Rattle.std.specs.Cmp.Lexicographic.{slice_cmp}
use Rattle.std.specs.BTreeMap.{BTreeMap, get_by}
use Rattle.std.specs.declared.alloc.Global.{Global}

-- what a map has at a name
abbrev pub named_at : {X : Type 0} → BTreeMap (Vec ℕ Global) X → List ℕ → Option X
named_at m name = get_by (λ k. slice_cmp nat_cmp name k.items) m
