use Rattle.std.proofs.Common.{◌≡◌, ℕ, ◌<◌, ◌++◌, take, map, get_or, false}
use Rattle.xmp_tree.specs.declared.nested.Member.{Member}
use Rattle.xmp_tree.specs.Wf.{name_of}
use Rattle.rdf_forms.specs.Entering.{Holds}
use Rattle.rdf_forms.specs.Merging.{stands_in}
use Rattle.xmp_rdf.proofs.merging.first_twice.Given as goal

abbrev pub invariant-loop-at : goal.invariant-loop-at
invariant-loop-at l = record {
  holds : Holds l.names (map name_of l.main ++ map name_of (take l.at l.more));
  before : (k : ℕ) (d : Member) → k < l.at → stands_in l.main (get_or l.more k d) ≡ false;
}
