-- Hints: namespaces, each with the prefix under which a writer may declare it.
use Rattle.std.specs.Prelude.{ℕ, Bool, ◌≢◌, if◌then◌else◌, List, [], ◌∷◌, Option, Some, None, All, AllPairs}
use Rattle.std.specs.List.{list_any}
use Rattle.std.specs.Str.{bytes_eq}
use Rattle.xmp_values.specs.declared.hints.Hint.{Hint}
use Rattle.xmp_values.specs.Characters.{IsCharText, IsName}
unfoldable pub use Rattle.xmp_values.specs.Spaces.{xmlns_space}

pub record IsValidHint (h : Hint) : Type 0 where
  pub spaced : h.space ≢ []
  pub chars : IsCharText h.space
  pub bound : h.space ≢ xmlns_space
  pub named : IsName h.prefix

-- Namespaces differ, aren't empty and are made of Chars, none is that of `xmlns`, and each prefix
-- is a name without colon.
pub record AreValid (hs : List Hint) : Type 0 where
  pub apart : AllPairs (λ g h. g.space ≢ h.space) hs
  pub each : All IsValidHint hs

-- whether a hint is of the namespace
abbrev pub has_space : List Hint → List ℕ → Bool
has_space hs space = list_any (λ h. bytes_eq space h.space) hs

-- the prefix of the first hint of a namespace
abbrev pub prefix_in : List Hint → List ℕ → Option (List ℕ)
prefix_in [] space = None
prefix_in (h ∷ hs) space = if bytes_eq space h.space then Some h.prefix else prefix_in hs space

-- the namespace of the first hint with a prefix
abbrev pub space_in : List Hint → List ℕ → Option (List ℕ)
space_in [] prefix = None
space_in (h ∷ hs) prefix = if bytes_eq prefix h.prefix then Some h.space else space_in hs prefix

-- whether a hint has the prefix
abbrev pub has_prefix : List Hint → List ℕ → Bool
has_prefix hs prefix = list_any (λ h. bytes_eq prefix h.prefix) hs
