use Rattle.std.proofs.Common.{◌≡◌, ◌++◌, map, [], subst, Some}
use Rattle.std.specs.Prelude.{OnOk}
use Rattle.std.specs.List.{cons_option}
use Rattle.rdf_forms.specs.Parts.{name_of, element_at}
use Rattle.rdf_forms.specs.Entering.{Holds, entered}
use Rattle.rdf_forms.proofs.member_names.enter_child.Goals as goal

pub returns-in-Some-clause-holds : goal.returns-in-Some-clause-holds
returns-in-Some-clause-holds c =
    let there : Some c.in-Some.element.now ≡ element_at c.args.child.now = c.in-Some.ensures in
    subst (λ o. OnOk c.enter_name.result (Holds c.enter_name.new.seen (c.args.seen.now ++ entered c.args.without_value (map name_of (cons_option o [])))))
    there c.enter_name.ensures.holds
