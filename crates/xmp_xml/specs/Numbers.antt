-- Numbers that stand for namespaces.
use Rattle.std.specs.Prelude.{ℕ, List, [], ◌∷◌, Option, Some, Vec}
use Rattle.std.specs.Int.{w64, to_be_bytes}
use Rattle.std.specs.Option.{option_map}
use Rattle.std.specs.BTreeMap.{BTreeMap}
use Rattle.xmp_xml.specs.Named.{named_at}
use Rattle.std.specs.declared.alloc.Global.{Global}

-- the number of a namespace that was met; nothing is met, and has 0
abbrev pub number_in : BTreeMap (Vec ℕ Global) ℕ → List ℕ → Option ℕ
number_in m [] = Some 0
number_in m (b ∷ bs) = named_at m (b ∷ bs)

-- the number in bytes
abbrev pub mark_in : BTreeMap (Vec ℕ Global) ℕ → List ℕ → Option (List ℕ)
mark_in m space = option_map (to_be_bytes w64) (number_in m space)
