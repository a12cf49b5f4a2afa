use Rattle.std.proofs.Common.{◌≡◌, ◌∙◌, ℕ, List, [], length, Ok, Some, None, sym, arith}
use Rattle.std.specs.declared.option.Option.{Option}
use Rattle.std.specs.FinMap.{get}
use Rattle.std.specs.Option.{unwrap_or}
use Rattle.xmp_base.specs.Device.{size_of}
use Rattle.xmp_base.proofs.Calls.{size_known, size_len}
use Rattle.irb_iptc.proofs.scan_tests.scanned.Goals as goal

told_len : (found : Option (List ℕ)) (n : ℕ) → Ok n ≡ size_of found → length (unwrap_or found []) ≡ n
told_len None n e = absurd (cc)
told_len (Some bytes) n e = cc

pub scan-requires-clause-known : goal.scan-requires-clause-known
scan-requires-clause-known g c = size_known _ _ _ _ 0 c.in-Ok.ensures.call

pub scan-requires-clause-within : goal.scan-requires-clause-within
scan-requires-clause-within g c = let len = size_len _ _ _ _ 0 c.in-Ok.ensures.call in omega (arith, len)

pub scan-requires-clause-told : goal.scan-requires-clause-told
scan-requires-clause-told g c = λ files now.
    let size = c.in-Ok.ensures.call in
    let len = told_len (get files c.args.name.now) c.in-Ok.size (size.told files (sym size.same.files ∙ now) (λ e. cc)) in
    omega (arith, len)
