use Rattle.std.proofs.Common.{[], fold, length, take, sym, ap, subst, ◌∙◌, arith}
use Rattle.std.specs.Prelude.{IfOk}
use Rattle.std.proofs.lemmas.List.{length-map}
use Rattle.xmp_values.specs.declared.hints.Hint.{Hint}
use Rattle.xmp_write.specs.Prefixes.{spaces_in, with_prefix, with_use}
use Rattle.xmp_write.specs.Grown.{IsGrown}
use Rattle.xmp_write.specs.Written.{member_spaces}
use Rattle.xmp_write.proofs.GrownPrefixes.{first_uses, more_long}
use Rattle.xmp_write.proofs.prefixes.Growing.with_member.Goals as goal

pub of-requires-clause-many : goal.of-requires-clause-many
of-requires-clause-many c =
    let same = ap length c.prefixes.invariant ∙ length-map c.prefixes.inside.list (λ (h : Hint). h.space) in
    omega (arith, same, ap length c.in_ok-use_member.ensures, more_long c.prefixes.inside.spaces (member_spaces c.args.member.now))

pub of-requires-clause-first : goal.of-requires-clause-first
of-requires-clause-first c =
    let list = c.prefixes.inside.list in
    let spaces = c.prefixes.inside.spaces in
    let same = ap length c.prefixes.invariant ∙ length-map list (λ (h : Hint). h.space) in
    let first = ap (take (length list)) c.in_ok-use_member.ensures ∙ first_uses spaces (member_spaces c.args.member.now) (length list) (sym same) in
    c.prefixes.view_is ∙ c.requires.list ∙ ap (fold (with_prefix c.args.hints.now) []) (ap spaces_in (sym c.prefixes.view_is) ∙ sym c.prefixes.invariant ∙ sym first)

pub returns : goal.returns
returns c =
    let uses = c.in_ok-use_member.ensures ∙ ap (λ spaces. fold with_use spaces (member_spaces c.args.member.now)) (c.prefixes.invariant ∙ ap spaces_in c.prefixes.view_is) in
    subst (λ spaces. IfOk c.of.result (λ g. IsGrown c.args.hints.now spaces g)) uses c.of.ensures
