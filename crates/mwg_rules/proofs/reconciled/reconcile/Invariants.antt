use Rattle.std.proofs.Common.{◌≡◌, drop}
use Rattle.mwg_rules.specs.Properties.{properties}
use Rattle.mwg_rules.specs.Reconciled.{put_all}
use Rattle.mwg_rules.proofs.Formed.{AreProperties}
use Rattle.mwg_rules.proofs.reconciled.reconcile.Given as goal

abbrev pub invariant-loop-property : goal.invariant-loop-property
invariant-loop-property l = record {
  formed : AreProperties l.props;
  rest : put_all (drop l.property-index properties) l.c l.props ≡ put_all properties l.c l.initial.props;
}
