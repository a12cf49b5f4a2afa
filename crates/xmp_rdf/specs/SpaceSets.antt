-- Sets of namespaces. None of this need be believed: it says what private functions hand on.
use Rattle.std.specs.Prelude.{◌≡◌, ℕ, List}
use Rattle.std.specs.List.{list_any}
use Rattle.std.specs.Str.{bytes_eq}
use Rattle.xmp_values.specs.declared.hints.Hint.{Hint}
use Rattle.xmp_values.specs.Hints.{has_space}

-- the set has the namespaces of these hints
abbrev pub HasSpaces : List (List ℕ) → List Hint → Type 0
HasSpaces spaces hints = (space : List ℕ) → list_any (bytes_eq space) spaces ≡ has_space hints space
