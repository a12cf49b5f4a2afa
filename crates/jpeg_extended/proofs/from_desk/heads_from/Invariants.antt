use Rattle.jpeg_extended.proofs.DeskPortions.{HeadsSoFar}
use Rattle.jpeg_extended.proofs.from_desk.heads_from.Given as goal

abbrev pub invariant-loop-payload : goal.invariant-loop-payload
invariant-loop-payload g l = HeadsSoFar (g.D.Desk.state l.initial.desk) (g.D.Desk.state l.desk) l.file l.name l.payloads l.payload-index l.heads.items
