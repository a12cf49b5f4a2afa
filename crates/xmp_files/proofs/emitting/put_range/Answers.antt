use Rattle.std.proofs.Common.{arith}
use Rattle.xmp_files.proofs.Emits.{first_failed, half_from, half_to, half_len, half_size, second_put}
use Rattle.xmp_files.proofs.emitting.put_range.Goals as goal

pub returns-in_err-copy_range : goal.returns-in_err-copy_range
returns-in_err-copy_range g c = record {
  call = first_failed _ _ _ _ c.args.range c.first_end-mid.result c.requires.apart c.requires.target c.first_end-mid.ensures.from c.first_end-mid.ensures.to _ c.requires.small c.in_err-copy_range.field-0.0 _
      c.in_err-copy_range.ensures.call c.from_residual.ensures.0;
}

pub copy_range-requires-2-clause-source : goal.copy_range-requires-2-clause-source
copy_range-requires-2-clause-source g c =
    half_from _ _ _ _ c.args.range c.first_end-mid.result c.requires.apart c.requires.target c.first_end-mid.ensures.from c.first_end-mid.ensures.to _ c.requires.small c.in_ok-copy_range.ensures.call c.requires.source

pub copy_range-requires-2-clause-target : goal.copy_range-requires-2-clause-target
copy_range-requires-2-clause-target g c =
    half_to _ _ _ _ c.args.range c.first_end-mid.result c.requires.apart c.requires.target c.first_end-mid.ensures.from c.first_end-mid.ensures.to _ c.requires.small c.in_ok-copy_range.ensures.call

pub copy_range-requires-2-clause-within : goal.copy_range-requires-2-clause-within
copy_range-requires-2-clause-within g c =
    omega (
      arith,
      half_size _ _ _ _ c.args.range c.first_end-mid.result c.requires.apart c.requires.target c.first_end-mid.ensures.from c.first_end-mid.ensures.to _ c.requires.small c.in_ok-copy_range.ensures.call,
      c.first_end-mid.ensures.to,
      c.requires.inside,
    )

pub copy_range-requires-2-clause-at_end : goal.copy_range-requires-2-clause-at_end
copy_range-requires-2-clause-at_end g c =
    omega (
      arith,
      half_len _ _ _ _ c.args.range c.first_end-mid.result c.requires.apart c.requires.target c.first_end-mid.ensures.from c.first_end-mid.ensures.to _ c.requires.small c.in_ok-copy_range.ensures.call,
      c.requires.at_end,
    )

pub returns : goal.returns
returns g c = record {
  call = second_put _ _ _ _ c.args.range c.first_end-mid.result c.requires.apart c.requires.target c.first_end-mid.ensures.from c.first_end-mid.ensures.to _ c.requires.small c.in_ok-copy_range.ensures.call _ _
      c.copy_range-2.result (omega (arith, c.copy_range.auto.buffer, c.requires.small)) c.copy_range-2.ensures.call;
}
