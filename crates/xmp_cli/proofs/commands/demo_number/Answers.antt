use Rattle.xmp_cli.proofs.Numbers.{demo_number_some, demo_number_other, demo_number_err}
use Rattle.xmp_cli.proofs.commands.demo_number.Goals as goal

pub returns-in_default : goal.returns-in_default
returns-in_default c = demo_number_err c.args.word.now _ _ c.parse.ensures.value.0 c.in_default.is

pub returns-then-is_demo_number : goal.returns-then-is_demo_number
returns-then-is_demo_number c = demo_number_some c.args.word.now _ c.if-is_demo_number.ensures

pub returns-else-is_demo_number : goal.returns-else-is_demo_number
returns-else-is_demo_number c = demo_number_other c.args.word.now _ _ c.parse.ensures.value.0 c.in-Ok.is c.if-is_demo_number.ensures
