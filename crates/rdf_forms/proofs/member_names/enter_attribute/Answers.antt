use Rattle.std.proofs.Common.{◌≡◌, ◌++◌, ◌∷◌, [], cond, true, subst}
use Rattle.std.specs.Prelude.{OnOk}
use Rattle.rdf_forms.specs.Words.{is_member_name}
use Rattle.rdf_forms.specs.MemberRules.{attribute_names}
use Rattle.rdf_forms.specs.Entering.{Holds, entered}
use Rattle.rdf_forms.proofs.member_names.enter_attribute.Goals as goal

pub returns-then-is_member_name-clause-holds : goal.returns-then-is_member_name-clause-holds
returns-then-is_member_name-clause-holds c =
    let a = c.args.attribute.now in
    let own : true ≡ is_member_name a.name = cc in
    subst (λ b. OnOk c.enter_name.result (Holds c.enter_name.new.seen (c.args.seen.now ++ entered c.args.without_value (attribute_names (cond b (a ∷ []) [])))))
    own c.enter_name.ensures.holds
