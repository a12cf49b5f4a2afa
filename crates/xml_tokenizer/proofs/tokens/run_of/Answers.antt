use Rattle.std.proofs.Common.{◌≡◌, ◌∙◌, false, not, refl, ap, sym}
use Rattle.std.specs.Str.{chars}
use Rattle.xml_tokenizer.specs.Tokens.{starts_plain, run_at}
use Rattle.xml_tokenizer.proofs.PlainLaws.{empty_run}
use Rattle.xml_tokenizer.proofs.tokens.run_of.Goals as goal

pub returns-then-is_empty : goal.returns-then-is_empty
unfolding run_at
returns-then-is_empty c =
    let stops : starts_plain c.args.inside (chars c.args.text.now) ≡ false = empty_run c.args.inside (chars c.args.text.now) c.plain_run.result.0.now c.plain_run.ensures.front ∙ ap not (sym c.is_empty.ensures ∙ c.if-is_empty.true) in
    rw stops refl
