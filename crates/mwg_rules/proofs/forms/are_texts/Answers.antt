use Rattle.std.proofs.Common.{sym}
use Rattle.mwg_rules.proofs.Items.{are_texts-other}
use Rattle.mwg_rules.proofs.forms.are_texts.Goals as goal

pub returns-then-texts-items : goal.returns-then-texts-items
returns-then-texts-items c = sym (are_texts-other c.args.texts.now c.args.items.now c.if-texts-items.true)
