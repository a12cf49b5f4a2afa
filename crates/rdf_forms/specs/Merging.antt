-- Two meanings merged: that of a packet and that of its extended text (XMP Specification, Part 3, Storage in Files, 1.1.3.1).
use Rattle.std.specs.Prelude.{◌≡◌, ℕ, Bool, not, List, ◌++◌, map, filter, position, slice_index, Option, Some, None, Result, Ok, Err}
use Rattle.std.specs.List.{list_any}
use Rattle.xmp_values.specs.declared.hints.Hint.{Hint}
use Rattle.xmp_values.specs.Hints.{has_space}
use Rattle.xmp_tree.specs.declared.nested.Member.{Member}
use Rattle.xmp_tree.specs.Parts.{Parts}
use Rattle.xmp_tree.specs.Wf.{name_of}
use Rattle.rdf_forms.specs.Words.{same_name}
use Rattle.rdf_forms.specs.Meaning.{Meaning}

-- a property of the same name stands among these
abbrev pub stands_in : List Member → Member → Bool
stands_in props p = list_any (same_name (name_of p)) (map name_of props)

-- the number of the second's first property that stands in the first
abbrev pub first_twice : List Member → List Member → Option ℕ
first_twice main more = position (stands_in main) more

-- the second's properties after the first's, under the first's about
abbrev pub both_trees : Parts → Parts → Parts
both_trees main more = record { about = main.about; props = main.props ++ more.props }

-- Two trees merge to a third, which is both: no property of the second stands in the first.
pub record MergesTo (main more merged : Parts) : Type 0 where
  pub apart : first_twice main.props more.props ≡ None
  pub merged_is : both_trees main more ≡ merged

-- the hints of namespaces that the first ones lack
abbrev pub new_hints : List Hint → List Hint → List Hint
new_hints main more = filter (λ h. not (has_space main h.space)) more

-- Both trees in one, with the second's places and new hints after the first's. The note is the first's.
abbrev pub both : Meaning → Meaning → Meaning
both main more = record {
  tree = both_trees main.tree more.tree;
  hints = main.hints ++ new_hints main.hints more.hints;
  note = main.note;
  places = main.places ++ more.places;
}

-- the place of a property of the second that stands in the first, else both
abbrev pub both_unless : Option ℕ → Meaning → Meaning → Result Meaning ℕ
both_unless None main more = Ok (both main more)
both_unless (Some n) main more = Err (slice_index more.places n)

unfoldable pub merged : Meaning → Meaning → Result Meaning ℕ
merged main more = both_unless (first_twice main.tree.props more.tree.props) main more
