use Rattle.std.proofs.Common.{◌&&◌, ◌∙◌, sym, subst}
use Rattle.std.specs.Prelude.{List, Result}
use Rattle.xmp_values.specs.declared.rules.Rule.{Rule}
use Rattle.xmp_values.specs.Stops.{Gives, rule_of}
use Rattle.xmp_tree.specs.declared.nested.Member.{Member}
use Rattle.xmp_paths.specs.Paths.{is_end}
use Rattle.xmp_edit.specs.Actions.{change_of, makes}
use Rattle.xmp_edit.specs.Edits.{at_place}
use Rattle.xmp_edit.specs.HeldMembers.{lists_in}
use Rattle.xmp_edit.proofs.Fronts.{new_first}
use Rattle.xmp_edit.proofs.held_members.with_no_first.Goals as goal

pub returns-then-branch : goal.returns-then-branch
returns-then-branch c =
    let made = makes c.args.action.now in
    let change = at_place c.args.rest.now (change_of c.args.action.now) made in
    let new = sym c.in_ok-moves.ensures ∙ c.if-branch.true in
    subst (λ (r : Result (List Member) Rule). Gives rule_of (lists_in c.new_first.result) r)
    (sym (new_first change c.args.name.now c.args.fields (made && is_end c.args.rest.now) c.args.front new)) c.new_first.ensures
