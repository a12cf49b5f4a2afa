use Rattle.std.proofs.Common.{◌∙◌, sym}
use Rattle.xmp_paths.proofs.NameTests.{prefixed-no_colon}
use Rattle.xmp_paths.proofs.spelling.prefixed_name.Goals as goal

pub returns-then-colon-text : goal.returns-then-colon-text
returns-then-colon-text c = sym (prefixed-no_colon c.args.text.now (sym c.colon_at-colon.ensures.first ∙ c.if-colon-text.true))
