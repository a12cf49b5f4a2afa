use Rattle.jpeg_extended.proofs.DeskPortions.{TextSoFar}
use Rattle.jpeg_extended.proofs.from_desk.text_from.Given as goal

abbrev pub invariant-loop-head : goal.invariant-loop-head
invariant-loop-head g l = TextSoFar (g.D.Desk.state l.initial.desk) (g.D.Desk.state l.desk) l.file l.payloads l.heads l.head-index l.text.items
