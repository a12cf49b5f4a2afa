use Rattle.std.proofs.Common.{◌∙◌, sym, ap}
use Rattle.std.specs.Option.{option_copied}
use Rattle.xmp_cli.proofs.Counts.{four_words, five_words}
use Rattle.xmp_cli.proofs.commands.named_command.Goals as goal

pub returns-in_ok-get-in-4-2 : goal.returns-in_ok-get-in-4-2
returns-in_ok-get-in-4-2 c = c.three_operands.ensures ∙ four_words c.args.words.now _ _ _ _ (sym c.len.ensures ∙ c.in-4.is)
    (sym c.get.ensures ∙ ap option_copied c.in_ok-verb.was)
    (sym c.get-2.ensures ∙ ap option_copied c.in_ok-first.was)
    (sym c.get-in-4.ensures ∙ ap option_copied c.in_ok-get-in-4.was)
    (sym c.get-in-4-2.ensures ∙ ap option_copied c.in_ok-get-in-4-2.was)

pub returns-in_ok-get-in-5-3 : goal.returns-in_ok-get-in-5-3
returns-in_ok-get-in-5-3 c = c.four_operands.ensures ∙ five_words c.args.words.now _ _ _ _ _ (sym c.len.ensures ∙ c.in-5.is)
    (sym c.get.ensures ∙ ap option_copied c.in_ok-verb.was)
    (sym c.get-2.ensures ∙ ap option_copied c.in_ok-first.was)
    (sym c.get-in-5.ensures ∙ ap option_copied c.in_ok-get-in-5.was)
    (sym c.get-in-5-2.ensures ∙ ap option_copied c.in_ok-get-in-5-2.was)
    (sym c.get-in-5-3.ensures ∙ ap option_copied c.in_ok-get-in-5-3.was)
