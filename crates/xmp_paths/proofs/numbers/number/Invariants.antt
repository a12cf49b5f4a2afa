use Rattle.std.proofs.Common.{◌≡◌, ◌+◌, ◌-◌, ◌*◌, ◌^◌, ◌<◌, drop}
use Rattle.std.specs.List.{fold}
use Rattle.std.specs.Str.{byte}
use Rattle.xmp_paths.specs.Grammar.{number}
use Rattle.xmp_paths.proofs.numbers.number.Given as goal

abbrev pub invariant-loop-digit : goal.invariant-loop-digit
invariant-loop-digit l = record {
  value : fold (λ n d. 10 * n + (d - byte "0")) l.number (drop l.digit-index l.digits) ≡ number l.digits;
  small : l.number < 10 ^ l.digit-index;
}
