-- The map from prefixes to the lines that bind them. None of this need be believed: it says what a private part of a type holds.
use Prim.Native.Nat.{suc}
use Rattle.std.specs.Prelude.{◌≡◌, ℕ, if◌then◌else◌, List, [], ◌∷◌, Option, Some, None, option_map, Vec}
use Rattle.std.specs.declared.alloc.Global.{Global}
use Rattle.std.specs.Ordering.{nat_cmp}
use Rattle.std.specs.Cmp.Lexicographic.{slice_cmp}
use Rattle.std.specs.BTreeMap.{BTreeMap, get_by}
use Rattle.std.specs.Str.{bytes_eq}
use Rattle.xmp_values.specs.declared.hints.Hint.{Hint}

-- where the first line of a prefix stands, from 0
abbrev pub line_place : List Hint → List ℕ → Option ℕ
line_place [] prefix = None
line_place (h ∷ hs) prefix = if bytes_eq prefix h.prefix then Some 0 else option_map (λ i. suc i) (line_place hs prefix)

-- what a map has for a prefix
abbrev pub place_at : BTreeMap (Vec ℕ Global) ℕ → List ℕ → Option ℕ
place_at places prefix = get_by (λ k. slice_cmp nat_cmp prefix k.items) places

-- a map has the first line of each prefix
abbrev pub HasLinePlaces : BTreeMap (Vec ℕ Global) ℕ → List Hint → Type 0
HasLinePlaces places lines = (prefix : List ℕ) → place_at places prefix ≡ line_place lines prefix
