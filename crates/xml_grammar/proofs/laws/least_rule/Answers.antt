use Rattle.xml_grammar.proofs.LeastRule.{broken_breaks, broken_least, unbroken_none}
use Rattle.xml_grammar.proofs.laws.least_rule.Goals as goal

pub returns-clause-least : goal.returns-clause-least
returns-clause-least c = λ s p r e. (broken_breaks s p r e, broken_least s p r e)

pub returns-clause-none : goal.returns-clause-none
returns-clause-none c = unbroken_none
