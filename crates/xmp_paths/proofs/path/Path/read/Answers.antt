use Rattle.std.proofs.Common.{◌∙◌, sym}
use Rattle.xmp_paths.specs.Allowed.{IsSpelling}
use Rattle.xmp_paths.specs.Grammar.{spelled}
use Rattle.xmp_paths.proofs.Options.{some_at}
use Rattle.xmp_paths.proofs.SpelledNames.{spelled_names}
use Rattle.xmp_paths.proofs.path.Path.read.Goals as goal

pub named-requires : goal.named-requires
named-requires c = some_at IsSpelling (spelled c.args.text.now) c.in-Some.spelling (spelled_names c.args.text.now) (sym c.in_ok-spelling.ensures ∙ c.in-Some.is)
