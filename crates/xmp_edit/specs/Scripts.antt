-- Edits one after the other.
use Rattle.std.specs.Prelude.{ℕ, List, [], ◌∷◌, Result, Ok, Err}
use Rattle.xmp_values.specs.declared.rules.Rule.{Rule}
use Rattle.xmp_tree.specs.Parts.{Parts}
use Rattle.xmp_edit.specs.declared.edit.Edit.{Edit}
use Rattle.xmp_edit.specs.Edits.{changed}
use Rattle.xmp_edit.specs.Actions.{change_of, makes}

-- the tree that an edit makes, or the rule that refuses it
abbrev pub edited : Edit → Parts → Result Parts Rule
edited e t = changed e.path (change_of e.action) (makes e.action) t

abbrev pub carried : (Parts → Result Parts (Rule × ℕ)) → ℕ → Result Parts Rule → Result Parts (Rule × ℕ)
carried next line (Ok t) = next t
carried next line (Err rule) = Err (rule, line)

-- edits in their order, up to the first that is refused, with its line's number
abbrev pub edits_made : List Edit → Parts → Result Parts (Rule × ℕ)
edits_made [] t = Ok t
edits_made (e ∷ es) t = carried (edits_made es) e.line (edited e t)
