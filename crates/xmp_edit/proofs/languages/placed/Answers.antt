use Rattle.std.proofs.Common.{◌∙◌, sym}
use Rattle.std.specs.BTreeMap.{get}
use Rattle.xmp_edit.specs.Languages.{lower_cmp}
use Rattle.xmp_edit.proofs.LanguageLemmas.{more_again, more_put, absent_key}
use Rattle.xmp_edit.proofs.languages.placed.Goals as goal

pub returns-then-contains_key : goal.returns-then-contains_key
returns-then-contains_key c = more_again c.args.key c.args.at c.args.places (sym c.contains_key.ensures ∙ c.if-contains_key.true)

pub returns : goal.returns
returns c =
    let absent = absent_key (get lower_cmp c.args.places c.args.key) c.contains_key.result c.contains_key.ensures c.if-contains_key.false in
    more_put c.args.key c.args.at c.args.places c.insert.new.self absent c.in_ok-insert.ensures.updates
