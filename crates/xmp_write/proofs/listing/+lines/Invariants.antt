use Rattle.std.proofs.Common.{◌++◌, take}
use Rattle.std.specs.List.{flat_map}
use Rattle.xmp_write.specs.Lines.{member_lines}
use Rattle.xmp_write.specs.Writing.{Adds, items_from}
use Rattle.xmp_write.proofs.listing.+lines.Given as goal

abbrev pub invariant-push_members-loop-member : goal.invariant-push_members-loop-member
invariant-push_members-loop-member l =
    Adds l.initial.writer l.writer (flat_map (member_lines l.prefixes (l.fn.writer.path.items ++ l.separator)) (take l.member-index l.members))

abbrev pub invariant-push_items-loop-at : goal.invariant-push_items-loop-at
invariant-push_items-loop-at l = Adds l.fn.writer l.writer (items_from l.prefixes l.fn.writer.path.items 1 (take l.at l.items))
