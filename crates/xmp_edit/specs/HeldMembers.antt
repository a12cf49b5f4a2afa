-- Members as they are held while edits are made. None of this need be believed: it says what private parts of
-- a type hold.
use Rattle.std.specs.Prelude.{Bool, if◌then◌else◌, List, ◌++◌, Option, None, option_map, option_to_list, Result, Ok, Err}
use Rattle.xmp_values.specs.declared.text.Name.{Name}
use Rattle.xmp_values.specs.declared.rules.Rule.{Rule}
use Rattle.xmp_values.specs.declared.rules.Rule.TheVariants.{NoSuchPlace}
use Rattle.xmp_values.specs.declared.stops.RuleStop.{RuleStop}
use Rattle.xmp_tree.specs.declared.nested.Member.{Member}
use Rattle.xmp_tree.specs.Parts.{member}
use Rattle.xmp_edit.specs.declared.held_members.Found.{Found}
use Rattle.xmp_edit.specs.declared.held_members.Found.TheVariants.{Scanned, Mapped}
use Rattle.xmp_edit.specs.Edits.{Change, ok_map}

-- the members
abbrev pub listed : Found → List Member
listed (Scanned members edits) = members
listed (Mapped first fields) = option_to_list first ++ fields

-- what a call that returns them gave
abbrev pub lists_in : Result Found RuleStop → Result (List Member) RuleStop
lists_in (Ok f) = Ok (listed f)
lists_in (Err stop) = Err stop

-- what an edit makes in front of the others
abbrev pub first_made : Change → Bool → Name → Result (Option Member) Rule
first_made change makes n = if makes then ok_map (option_map (member n)) (change None) else Err NoSuchPlace
