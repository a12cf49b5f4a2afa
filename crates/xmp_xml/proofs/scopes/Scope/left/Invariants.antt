use Rattle.std.proofs.Common.{◌≡◌, drop}
use Rattle.xmp_xml.proofs.scopes.Scope.left.Given as goal

abbrev pub invariant-loop : goal.invariant-loop
invariant-loop l = l.scope ≡ drop l.counter l.fn.self
