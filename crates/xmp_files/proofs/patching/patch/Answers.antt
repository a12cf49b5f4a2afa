use Rattle.std.proofs.Common.{arith, ap}
use Rattle.std.specs.Option.{unwrap_or}
use Rattle.std.specs.declared.option.Option.{Option}
use Rattle.std.specs.Prelude.{ℕ}
use Rattle.xmp_files.proofs.Patches.{patch_facts}
use Rattle.xmp_files.proofs.patching.patch.Goals as goal

pub exchange_packet-requires-clause-within : goal.exchange_packet-requires-clause-within
exchange_packet-requires-clause-within g c =
    let facts = patch_facts c.args.held.now c.args.plan.now.plan _ _ _ c.requires.planned c.requires.lies c.payload_place-at.ensures c.in-Some-Some.ensures c.in-Some-Some.ensures' in
    let size = ap (λ (o : Option ℕ). unwrap_or o 0) c.requires.known in
    omega (arith, facts.within, size)

pub exchange_packet-requires-clause-fits : goal.exchange_packet-requires-clause-fits
exchange_packet-requires-clause-fits g c =
    let facts = patch_facts c.args.held.now c.args.plan.now.plan _ _ _ c.requires.planned c.requires.lies c.payload_place-at.ensures c.in-Some-Some.ensures c.in-Some-Some.ensures' in
    omega (arith, facts.within, c.size.ensures)

pub exchange_packet-requires-clause-as_long : goal.exchange_packet-requires-clause-as_long
exchange_packet-requires-clause-as_long g c =
    (patch_facts c.args.held.now c.args.plan.now.plan _ _ _ c.requires.planned c.requires.lies c.payload_place-at.ensures c.in-Some-Some.ensures c.in-Some-Some.ensures').as_long

pub exchange_packet-requires-clause-old_opens : goal.exchange_packet-requires-clause-old_opens
exchange_packet-requires-clause-old_opens g c =
    (patch_facts c.args.held.now c.args.plan.now.plan _ _ _ c.requires.planned c.requires.lies c.payload_place-at.ensures c.in-Some-Some.ensures c.in-Some-Some.ensures').old_opens

pub exchange_packet-requires-clause-new_opens : goal.exchange_packet-requires-clause-new_opens
exchange_packet-requires-clause-new_opens g c =
    (patch_facts c.args.held.now c.args.plan.now.plan _ _ _ c.requires.planned c.requires.lies c.payload_place-at.ensures c.in-Some-Some.ensures c.in-Some-Some.ensures').new_opens

pub returns-in-Some-Some : goal.returns-in-Some-Some
returns-in-Some-Some g c = record {
  whole = c.file_is_patched.ensures;
  call = (patch_facts c.args.held.now c.args.plan.now.plan _ _ _ c.requires.planned c.requires.lies c.payload_place-at.ensures c.in-Some-Some.ensures c.in-Some-Some.ensures').call
      _ _ c.args.name.now c.exchange_packet.result c.exchange_packet.ensures.call;
}
