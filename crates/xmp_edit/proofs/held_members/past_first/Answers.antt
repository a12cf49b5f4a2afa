use Rattle.std.proofs.Common.{◌&&◌, ◌∙◌, sym, subst}
use Rattle.std.specs.Prelude.{List, Result}
use Rattle.xmp_values.specs.declared.rules.Rule.{Rule}
use Rattle.xmp_values.specs.Stops.{Gives, rule_of}
use Rattle.xmp_tree.specs.declared.nested.Member.{Member}
use Rattle.xmp_paths.specs.Paths.{is_end}
use Rattle.xmp_edit.specs.Actions.{change_of, makes}
use Rattle.xmp_edit.specs.Edits.{at_place}
use Rattle.xmp_edit.specs.HeldMembers.{lists_in}
use Rattle.xmp_edit.proofs.Fronts.{past_first}
use Rattle.xmp_edit.proofs.held_members.past_first.Goals as goal

pub returns-else-branch : goal.returns-else-branch
returns-else-branch c =
    let made = makes c.args.action.now in
    let change = at_place c.args.rest.now (change_of c.args.action.now) made in
    let stays = sym c.in_ok-moves.ensures ∙ c.if-branch.false in
    subst (λ (r : Result (List Member) Rule). Gives rule_of (lists_in c.behind_first.result) r)
    (sym (past_first change (made && is_end c.args.rest.now) c.args.name.now c.args.member c.args.fields c.args.front c.requires stays)) c.behind_first.ensures
