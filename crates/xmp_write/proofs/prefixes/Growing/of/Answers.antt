use Rattle.std.proofs.Common.{[], sym, ap, ◌∙◌}
use Rattle.xmp_write.specs.Prefixes.{spaces_in}
use Rattle.xmp_write.proofs.PlaceMaps.{spaces_in-given}
use Rattle.xmp_write.proofs.GrownPrefixes.{rest_given}
use Rattle.xmp_write.proofs.prefixes.Growing.of.Goals as goal

pub invariant_of-result : goal.invariant_of-result
invariant_of-result c =
    let hints = c.args.hints.now in
    let list = rest_given hints c.args.given.list c.push_spaces.new.self.list c.args.spaces c.as_slice.result.now c.len-first.result
    c.as_slice.ensures c.len-first.ensures c.requires.first c.in_ok-push_spaces.ensures.given in
    sym (ap spaces_in list ∙ spaces_in-given hints [] c.args.spaces)

pub returns : goal.returns
returns c =
    let hints = c.args.hints.now in
    let list = rest_given hints c.args.given.list c.push_spaces.new.self.list c.args.spaces c.as_slice.result.now c.len-first.result
    c.as_slice.ensures c.len-first.ensures c.requires.first c.in_ok-push_spaces.ensures.given in
    record { list = list; kept = c.in_ok-push_spaces.ensures.kept }
