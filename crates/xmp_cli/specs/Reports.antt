-- The report of a command that writes a file.
use Rattle.std.specs.Prelude.{ℕ, List, ◌++◌, codes, decimal}
use Rattle.xmp_files.specs.Planning.{Plan, Same, InPlace, Relocated, parts_len}

-- a word and the length of the file, which stays
abbrev pub one_length : List ℕ → ℕ → List ℕ
one_length word size = word ++ codes " " ++ decimal size ++ codes "\n"

-- a word, the old length and the new one
abbrev pub two_lengths : List ℕ → ℕ → ℕ → List ℕ
two_lengths word old new = word ++ codes " " ++ decimal old ++ codes " " ++ decimal new ++ codes "\n"

-- what became of a file of this length
abbrev pub report : ℕ → Plan → List ℕ
report size Same = one_length (codes "same") size
report size (InPlace pieces) = one_length (codes "in-place") size
report size (Relocated parts) = two_lengths (codes "relocated") size (parts_len parts)
