use Rattle.std.proofs.Common.{◌∙◌, sym}
use Rattle.xmp_edit.proofs.LanguageLemmas.{languages_said_last}
use Rattle.xmp_edit.proofs.languages.one_more.Goals as goal

pub returns-clause-known : goal.returns-clause-known
returns-clause-known c =
    languages_said_last c.args.spoken.items c.args.spoken.places c.requires.known c.args.key c.args.tag.now c.args.text.now c.len-at.result c.in_ok-places.places c.in_ok-items.items
    c.requires.keyed c.len-at.ensures c.in_ok-places.ensures (sym c.is_default.ensures ∙ c.if-is_default.false) c.in_ok-items.ensures
