use Rattle.xmp_edit.proofs.LanguageLemmas.{languages_said_at}
use Rattle.xmp_edit.proofs.languages.replaced.Goals as goal

pub returns-clause-known : goal.returns-clause-known
returns-clause-known c =
    languages_said_at c.args.spoken.items c.args.spoken.places c.requires.known c.args.text.now c.args.at c.in_ok-items.items c.in_ok-items.ensures
