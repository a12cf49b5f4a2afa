use Rattle.std.proofs.Common.{◌≡◌}
use Rattle.xmp_tree.specs.Wf.{name_of}
use Rattle.xmp_tree.specs.Places.{same_name}
use Rattle.xmp_tree.proofs.PlaceLemmas.{same_name_is}
use Rattle.xmp_edit.proofs.Fronts.{tests_agree}
use Rattle.xmp_edit.proofs.held_members.has_name.Goals as goal

pub returns : goal.returns
returns c =
    let m = name_of c.args.member.now in
    let n = c.args.name.now in
    tests_agree (m ≡ n) c.same_name.result (same_name m n) c.same_name.ensures (same_name_is m n)
