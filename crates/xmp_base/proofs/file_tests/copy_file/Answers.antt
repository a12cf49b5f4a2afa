use Rattle.std.proofs.Common.{arith, ap, sym, ◌∙◌, ℕ, is_some}
use Rattle.std.specs.declared.option.Option.{Option}
use Rattle.std.specs.Option.{unwrap_or}
use Rattle.xmp_base.proofs.Calls.{now_known}
use Rattle.xmp_base.proofs.Ends.{created_known, created_len, created_other}
use Rattle.xmp_base.proofs.file_tests.copy_file.Goals as goal

pub copy_range-requires-clause-source : goal.copy_range-requires-clause-source
copy_range-requires-clause-source g c = ap is_some (created_other _ _ _ c.in_ok-create.ensures.call _ c.requires.apart ∙ now_known _ _ _ _ 0 c.in-Ok.ensures.call)

pub copy_range-requires-clause-target : goal.copy_range-requires-clause-target
copy_range-requires-clause-target g c = created_known _ _ _ c.in_ok-create.ensures.call

pub copy_range-requires-clause-within : goal.copy_range-requires-clause-within
copy_range-requires-clause-within g c =
    let size = ap (λ (o : Option ℕ). unwrap_or o 0) (created_other _ _ _ c.in_ok-create.ensures.call _ c.requires.apart ∙ now_known _ _ _ _ 0 c.in-Ok.ensures.call) in
    omega (arith, size)

pub copy_range-requires-clause-at_end : goal.copy_range-requires-clause-at_end
copy_range-requires-clause-at_end g c = sym (created_len _ _ _ c.in_ok-create.ensures.call)
