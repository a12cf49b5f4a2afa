use Rattle.std.proofs.Common.{rules, ◌≡◌, ◌∙◌, sym, ap, subst, None}
use Rattle.std.specs.Str.{chars, IsUtf8}
use Rattle.xml_grammar.specs.declared.tokens.Mode.{Mode}
use Rattle.xml_grammar.specs.Documents.{IsRule}
use Rattle.xml_tokenizer.specs.Faults.{rule_at}
use Rattle.xml_tokenizer.specs.Tokens.{token_at}
use Rattle.xml_tokenizer.proofs.FaultLaws.{fails_by}
use Rattle.xml_tokenizer.proofs.TokenLaws.{token_takes, token_spelled, token_none, after_row}
use Rattle.xml_tokenizer.proofs.tokens.token_of.Goals as goal

pub returns-in-Ok-clause-stands : goal.returns-in-Ok-clause-stands
returns-in-Ok-clause-stands c = (token_takes c.args.mode (chars c.args.text.now) _ c.in-Ok.ensures).0

pub returns-in-Ok-clause-some : goal.returns-in-Ok-clause-some
returns-in-Ok-clause-some c =
    let t = token_takes c.args.mode (chars c.args.text.now) _ c.in-Ok.ensures in
    let u : IsUtf8 c.in-Ok.rest.now = search rules in
    (t.1, after_row c.args.mode _ c.args.text.now c.in-Ok.rest.now c.utf8.text u t)

pub returns-in-Ok-clause-spelled : goal.returns-in-Ok-clause-spelled
returns-in-Ok-clause-spelled c = token_spelled c.args.mode (chars c.args.text.now) _ c.in-Ok.ensures

pub returns-in-Err-Nothing-clause-fault : goal.returns-in-Err-Nothing-clause-fault
returns-in-Err-Nothing-clause-fault c =
    let none : token_at c.args.mode (chars c.args.text.now) ≡ None = rw c.in-Err-Nothing.field-0-is at c.in-Err-Nothing.ensures in
    (token_none c.args.mode (chars c.args.text.now) none, λ some s is. subst (IsRule s (chars c.args.text.now)) (sym c.rule_of.ensures) (fails_by s (chars c.args.text.now) some (ap (λ (m : Mode). token_at m (chars c.args.text.now)) is ∙ none)))

pub returns-in-Err-Nothing-clause-ended : goal.returns-in-Err-Nothing-clause-ended
unfolding rule_at
returns-in-Err-Nothing-clause-ended c = λ empty. c.rule_of.ensures ∙ ap rule_at empty
