use Rattle.std.proofs.Common.{◌≡◌, fold, take}
use Rattle.std.specs.List.{flat_map}
use Rattle.xmp_write.specs.Written.{value_spaces, member_spaces}
use Rattle.xmp_write.specs.Prefixes.{with_use}
use Rattle.xmp_write.proofs.uses.+uses.Given as goal

abbrev pub invariant-use_items-loop-item : goal.invariant-use_items-loop-item
invariant-use_items-loop-item l = l.uses ≡ fold with_use l.fn.uses (flat_map value_spaces (take l.item-index l.items))

abbrev pub invariant-use_members-loop-member : goal.invariant-use_members-loop-member
invariant-use_members-loop-member l = l.uses ≡ fold with_use l.fn.uses (flat_map member_spaces (take l.member-index l.members))
