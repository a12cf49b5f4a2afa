-- The bytes of a text that grows.
use Rattle.std.specs.Prelude.{ℕ, List}
use Rattle.xmp_xml.specs.declared.pending.Kept.{Kept}
use Rattle.xmp_xml.specs.declared.pending.Kept.TheVariants.{One, Many}

abbrev pub bytes_of : Kept → List ℕ
bytes_of (One text) = text
bytes_of (Many bytes) = bytes
