-- Where prefixes are bound.
use Rattle.std.specs.Prelude.{ℕ, List, Option, Some, None}
use Rattle.xmp_xml.specs.declared.places.Places.{Places}
use Rattle.xmp_xml.specs.Named.{named_at}

-- the place of a prefix, or of the default namespace
abbrev pub place_at : Places → Option (List ℕ) → Option ℕ
place_at s None = s.default
place_at s (Some name) = named_at s.named name
