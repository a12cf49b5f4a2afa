use Rattle.std.proofs.Common.{◌≡◌, ◌++◌, ◌∙◌, ap, sym, None}
use Rattle.std.specs.Prelude.{position}
use Rattle.std.proofs.lemmas.Result.{IfOk-weaker}
use Rattle.xmp_tree.specs.declared.nested.Member.{out-Member}
use Rattle.xmp_tree.specs.declared.nested.Value.{Value, out-Value}
use Rattle.xmp_tree.specs.declared.nested.Shape.{Struct}
use Rattle.xmp_tree.specs.Parts.{value}
use Rattle.rdf_forms.specs.Values.{is_value_member, other_members}
use Rattle.xmp_rdf.proofs.Composed.{by_members-none, by_members-at}
use Rattle.xmp_rdf.proofs.values.by_members.Goals as goal

pub returns-in_default : goal.returns-in_default
returns-in_default c =
    let none : None ≡ position is_value_member c.args.members = cc in
    ap (value (Struct c.args.members)) c.in_ok-append.ensures.ok ∙ sym (by_members-none c.args.lang c.args.types c.args.members none)

pub returns : goal.returns
returns c =
    let lang = c.args.lang in
    let types = c.args.types in
    let v = c.value_of-value.result in
    let read = by_members-at lang types c.args.members c.in-Some.at c.remove.result (cc) c.remove.ensures.item in
    let others = c.other_members.ensures ∙ ap other_members c.remove.ensures.rest in
    IfOk-weaker c.qualified.result _ _ (λ (x : Value) is.
    is
    ∙ ap (λ v. value (out-Value v).shape (lang ++ ((out-Value v).quals ++ (types ++ c.other_members.result)))) c.value_of-value.ensures
    ∙ ap (λ ms. value (out-Value (out-Member c.remove.result).value).shape (lang ++ ((out-Value (out-Member c.remove.result).value).quals ++ (types ++ ms)))) others
    ∙ sym read)
    c.qualified.ensures
