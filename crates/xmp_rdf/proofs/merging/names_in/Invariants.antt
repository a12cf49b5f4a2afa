use Rattle.std.proofs.Common.{take, map}
use Rattle.xmp_tree.specs.Wf.{name_of}
use Rattle.rdf_forms.specs.Entering.{Holds}
use Rattle.xmp_rdf.proofs.merging.names_in.Given as goal

abbrev pub invariant-loop-prop : goal.invariant-loop-prop
invariant-loop-prop l = Holds l.names (map name_of (take l.prop-index l.props))
