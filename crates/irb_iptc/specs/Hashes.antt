-- Numbers for texts, by which lists without a repeated text are told fast.
use Rattle.std.specs.Prelude.{ℕ, List}
use Rattle.std.specs.Hash.FoldHasher.{initial, write, finish}

-- std's hash of a text; nothing rests on texts that differ having hashes that do
abbrev pub hash_of : List ℕ → ℕ
hash_of text = finish (write initial text)
