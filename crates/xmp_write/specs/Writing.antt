-- What a step of writing lines does.
use Rattle.std.specs.Prelude.{◌≡◌, ℕ, ◌+◌, List, [], ◌∷◌, ◌++◌}
use Rattle.xmp_values.specs.declared.hints.Hint.{Hint}
use Rattle.xmp_tree.specs.declared.nested.Value.{Value}
use Rattle.xmp_write.specs.Lines.{value_lines, item_path}
use Rattle.xmp_write.specs.declared.listing.Writer.{Writer}

-- these lines are put at the end, and the path is again as it was
pub record Adds (old new : Writer) (lines : List ℕ) : Type 0 where
  pub text : new.text.items ≡ old.text.items ++ lines
  pub path : new.path.items ≡ old.path.items

-- the lines of items in a list, of which the first is counted as n
abbrev pub items_from : List Hint → List ℕ → ℕ → List Value → List ℕ
items_from ps path n [] = []
items_from ps path n (item ∷ items) = value_lines ps (item_path path n) item ++ items_from ps path (n + 1) items
