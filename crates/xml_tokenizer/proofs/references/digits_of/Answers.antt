use Rattle.std.proofs.Common.{◌∙◌, ap, arith}
use Rattle.std.proofs.lemmas.List.{nil_from_length}
use Rattle.std.proofs.lemmas.Str.{chars-nil}
use Rattle.std.specs.Str.{chars}
use Rattle.xml_tokenizer.proofs.Digits.{counts_end}
use Rattle.xml_tokenizer.proofs.references.digits_of.Goals as goal

pub returns-clause-number : goal.returns-clause-number
returns-clause-number c = (counts_end c.args.base c.args.text.now c.loop.number c.loop.rest.now c.loop.invariant.counts (ap chars (nil_from_length c.loop.rest.now (omega (arith, c.loop.invariant.fuel))) ∙ chars-nil)).number_is

pub returns-clause-rest : goal.returns-clause-rest
returns-clause-rest c = (counts_end c.args.base c.args.text.now c.loop.number c.loop.rest.now c.loop.invariant.counts (ap chars (nil_from_length c.loop.rest.now (omega (arith, c.loop.invariant.fuel))) ∙ chars-nil)).same
