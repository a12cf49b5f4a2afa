use Rattle.std.proofs.Common.{◌∙◌, sym}
use Rattle.xmp_paths.specs.Allowed.{IsSpelling}
use Rattle.xmp_paths.proofs.Options.{some_at}
use Rattle.xmp_edit.specs.Judging.{spelling_of}
use Rattle.xmp_edit.proofs.Judged.{spelling_names}
use Rattle.xmp_edit.proofs.judging.edit_of.Goals as goal

pub named-requires : goal.named-requires
named-requires c = some_at IsSpelling (spelling_of c.args.path.now c.args.qualifier.now) c.in-Some.spelling (spelling_names c.args.path.now c.args.qualifier.now) (sym c.in_ok-spelling.ensures ∙ c.in-Some.is)
