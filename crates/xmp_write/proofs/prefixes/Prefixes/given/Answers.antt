use Rattle.std.proofs.Common.{[], fold, sym, ap, ◌∙◌}
use Rattle.xmp_values.specs.Texts.{texts_of}
use Rattle.xmp_write.specs.Prefixes.{spaces_in, with_prefix}
use Rattle.xmp_write.proofs.PlaceMaps.{spaces_in-given}
use Rattle.xmp_write.proofs.prefixes.Prefixes.given.Goals as goal

pub push_spaces-requires : goal.push_spaces-requires
push_spaces-requires c = c.new-given.ensures.given c.args.hints.now

pub invariant_of-result : goal.invariant_of-result
invariant_of-result c =
    let hints = c.args.hints.now in
    let list = c.in_ok-push_spaces.ensures.given ∙ ap (λ list. fold (with_prefix hints) list (texts_of c.as_slice.result.now)) c.new-given.ensures.list ∙ ap (fold (with_prefix hints) []) c.as_slice.ensures in
    sym (ap spaces_in list ∙ spaces_in-given hints [] c.args.spaces)

pub returns : goal.returns
returns c =
    let hints = c.args.hints.now in
    c.in_ok-push_spaces.ensures.given ∙ ap (λ list. fold (with_prefix hints) list (texts_of c.as_slice.result.now)) c.new-given.ensures.list ∙ ap (fold (with_prefix hints) []) c.as_slice.ensures
