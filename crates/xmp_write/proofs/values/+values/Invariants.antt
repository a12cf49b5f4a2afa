use Rattle.std.proofs.Common.{take}
use Rattle.std.specs.Prelude.{codes}
use Rattle.std.specs.List.{flat_map}
use Rattle.xmp_write.specs.Text.{value_text, member_text}
use Rattle.xmp_write.specs.Placing.{Puts}
use Rattle.xmp_write.proofs.values.+values.Given as goal

abbrev pub invariant-put_members-loop-member : goal.invariant-put_members-loop-member
invariant-put_members-loop-member l = Puts l.fn.to l.to l.at l.after (flat_map (member_text l.prefixes) (take l.member-index l.members))

abbrev pub invariant-put_items-loop-item : goal.invariant-put_items-loop-item
invariant-put_items-loop-item l = Puts l.fn.to l.to l.at l.after (flat_map (value_text l.prefixes (codes "rdf:li")) (take l.item-index l.items))
