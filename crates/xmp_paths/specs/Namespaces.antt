-- From prefixes to namespaces.
use Rattle.std.specs.Prelude.{ℕ, Bool, List, Option, All}
use Rattle.std.specs.Option.{option_or}
use Rattle.xmp_values.specs.Hints.{IsValidHint, AreValid, space_in, has_prefix}
use Rattle.known_prefixes.specs.Prefixes.{known_space}
use Rattle.xmp_paths.specs.Parts.{Bindings}

-- the namespace of a prefix: a line's, else the known one, else the file's
abbrev pub space_of : Bindings → List ℕ → Option (List ℕ)
space_of b prefix = option_or (space_in b.lines prefix) (option_or (known_space prefix) (space_in b.hints prefix))

-- whether a line binds the prefix
abbrev pub is_bound : Bindings → List ℕ → Bool
is_bound b prefix = has_prefix b.lines prefix

-- each line's binding is a valid hint by itself; two lines may bind one namespace
pub record AreBound (b : Bindings) : Type 0 where
  pub lines : All IsValidHint b.lines
  pub hints : AreValid b.hints
