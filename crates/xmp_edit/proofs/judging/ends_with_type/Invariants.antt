use Rattle.std.proofs.Common.{◌≡◌, drop}
use Rattle.std.specs.List.{fold}
use Rattle.xmp_tree.specs.Wf.{type_name}
use Rattle.xmp_edit.specs.Allowed.{last_step}
use Rattle.xmp_edit.specs.Judging.{is_qualifier}
use Rattle.xmp_edit.proofs.judging.ends_with_type.Given as goal

abbrev pub invariant-loop-step : goal.invariant-loop-step
invariant-loop-step l = fold (λ _ s. is_qualifier type_name s) l.ends (drop l.step-index l.step-items) ≡ is_qualifier type_name (last_step l.path)
