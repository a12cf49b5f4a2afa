-- Which hints of a list are kept.
use Rattle.std.specs.Prelude.{Bool, false, List, [], ◌∷◌, if◌then◌else◌}
use Rattle.xmp_values.specs.declared.hints.Hint.{Hint}

-- the first mark; none after the last
abbrev pub first_mark : List Bool → Bool
first_mark [] = false
first_mark (b ∷ bs) = b

abbrev pub later_marks : List Bool → List Bool
later_marks [] = []
later_marks (b ∷ bs) = bs

-- the hints with a mark, in their order
abbrev pub marked : List Bool → List Hint → List Hint
marked marks [] = []
marked marks (h ∷ hs) = if first_mark marks then h ∷ marked (later_marks marks) hs else marked (later_marks marks) hs
