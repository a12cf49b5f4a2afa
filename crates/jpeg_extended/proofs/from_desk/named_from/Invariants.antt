use Rattle.jpeg_extended.proofs.NamedPortions.{NamedSoFar}
use Rattle.jpeg_extended.proofs.from_desk.named_from.Given as goal

abbrev pub invariant-loop-payload : goal.invariant-loop-payload
invariant-loop-payload g l = NamedSoFar (g.D.Desk.state l.initial.desk) (g.D.Desk.state l.desk) l.file l.name l.len l.payloads l.payload-index l.named.items
