-- What the maps over a list of hints hold. None of this need be believed: it says what a private part of a type holds.
use Rattle.std.specs.Prelude.{◌≡◌, ℕ, List}
use Rattle.std.specs.Option.{option_copied}
use Rattle.std.specs.Borrow.{Bor}
use Rattle.std.specs.BTreeMap.{BTreeMap}
use Rattle.xmp_values.specs.declared.hints.Hint.{Hint}
use Rattle.xmp_values.specs.Hints.{prefix_in, space_in}
use Rattle.xmp_values.specs.Texts.{text_in}

-- the prefix of each namespace
abbrev pub HasPrefixes : BTreeMap (Bor (List ℕ)) (Bor (List ℕ)) → List Hint → Type 0
HasPrefixes prefixes hints = (space : List ℕ) → option_copied (text_in prefixes space) ≡ prefix_in hints space

-- the namespace of each prefix
abbrev pub HasSpaces : BTreeMap (Bor (List ℕ)) (Bor (List ℕ)) → List Hint → Type 0
HasSpaces spaces hints = (prefix : List ℕ) → option_copied (text_in spaces prefix) ≡ space_in hints prefix
