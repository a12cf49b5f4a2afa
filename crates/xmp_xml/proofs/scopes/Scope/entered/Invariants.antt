use Rattle.std.proofs.Common.{◌≡◌, ◌++◌}
use Rattle.std.specs.Prelude.{reverse}
use Rattle.xml_grammar.specs.Nesting.{has_twice}
use Rattle.xmp_xml.specs.Bounds.{bindings_in}
use Rattle.xmp_xml.specs.Tagging.{same_binding}
use Rattle.xmp_xml.proofs.scopes.Scope.entered.Given as goal

abbrev pub invariant-loop-bound : goal.invariant-loop-bound
invariant-loop-bound l = record {
  scope : l.scope ≡ bindings_in (reverse l.yielded) ++ l.fn.self;
  twice : l.twice ≡ has_twice same_binding (bindings_in (reverse l.yielded));
}
