use Rattle.std.proofs.Common.{◌≡◌, sym, ap, subst, ◌∙◌, None}
use Rattle.rdf_forms.specs.declared.roles.Role.TheVariants as roles
use Rattle.rdf_forms.specs.NameRules.{name_rule}
use Rattle.rdf_forms.specs.FormRules.{form_rule}
use Rattle.rdf_forms.specs.MemberRules.{member_names, twice_value}
use Rattle.rdf_forms.specs.Entering.{Enters}
use Rattle.rdf_forms.proofs.Tops.{by_value, by_clash, unbroken}
use Rattle.rdf_forms.proofs.rules.broken_top.Goals as goal

pub returns-then-twice_value : goal.returns-then-twice_value
returns-then-twice_value c = λ names held.
    let t = c.args.top.now in
    let same = ap (twice_value roles.Top) (sym c.of-formed.ensures) in
    let no_name : None ≡ name_rule roles.Top t c.args.first.now = cc in
    let no_form : None ≡ form_rule roles.Top t = cc in
    by_value t c.args.first.now names no_name no_form (same ∙ sym c.twice_value.ensures ∙ c.if-twice_value.true)

pub returns-then-branch : goal.returns-then-branch
returns-then-branch c = λ names held.
    let t = c.args.top.now in
    let same = ap (twice_value roles.Top) (sym c.of-formed.ensures) in
    let no_name : None ≡ name_rule roles.Top t c.args.first.now = cc in
    let no_form : None ≡ form_rule roles.Top t = cc in
    unbroken t c.args.first.now names no_name no_form c.args.seen.now held (same ∙ sym c.twice_value.ensures ∙ c.if-twice_value.false) c.enter_top.new.seen
    (subst (Enters c.args.seen.now (member_names t) c.enter_top.new.seen) c.if-branch.true c.in_ok-enter_top.ensures)

pub returns-else-branch : goal.returns-else-branch
returns-else-branch c = λ names held.
    let t = c.args.top.now in
    let same = ap (twice_value roles.Top) (sym c.of-formed.ensures) in
    let no_name : None ≡ name_rule roles.Top t c.args.first.now = cc in
    let no_form : None ≡ form_rule roles.Top t = cc in
    by_clash t c.args.first.now names no_name no_form c.args.seen.now held (same ∙ sym c.twice_value.ensures ∙ c.if-twice_value.false)
    (subst (Enters c.args.seen.now (member_names t) c.enter_top.new.seen) c.if-branch.false c.in_ok-enter_top.ensures)
