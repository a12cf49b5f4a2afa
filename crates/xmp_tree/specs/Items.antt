-- What is done at a place of a list: a value put in, or taken out. Nothing else of the list changes.
use Rattle.std.specs.Prelude.{ℕ, Bool, if◌then◌else◌, List, [], ◌∷◌, ◌++◌, Option, Some, None, slice_set, remove}
use Rattle.xmp_tree.specs.declared.nested.Value.{Value}
use Rattle.xmp_tree.specs.declared.nested.Member.{Member}
use Rattle.xmp_tree.specs.Parts.{member}
use Rattle.xmp_tree.specs.Wf.{name_of}

-- members in which the member at a place gets a value under its name, or is taken out
abbrev pub member_put : List Member → ℕ → Member → Option Value → List Member
member_put ms i m (Some v) = slice_set ms i (member (name_of m) v)
member_put ms i m None = remove ms i

-- items in which the one at a place becomes a value, or is taken out
abbrev pub item_put : List Value → ℕ → Option Value → List Value
item_put vs i (Some v) = slice_set vs i v
item_put vs i None = remove vs i

-- a new member is put in front of the others, or after them
abbrev pub joined : Bool → List Member → Member → List Member
joined front ms m = if front then m ∷ ms else ms ++ m ∷ []
