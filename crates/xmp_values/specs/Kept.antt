use Rattle.std.specs.Prelude.{ℕ, List}
use Rattle.xmp_values.specs.declared.text.Kept.{Kept}
use Rattle.xmp_values.specs.declared.text.Kept.TheVariants.{Raw, Own}

-- the bytes of a text, wherever they are
abbrev pub bytes_of : Kept → List ℕ
bytes_of (Raw bytes) = bytes.now
bytes_of (Own bytes) = bytes.value
