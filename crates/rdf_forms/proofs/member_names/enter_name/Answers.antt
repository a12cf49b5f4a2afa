use Rattle.std.proofs.Common.{◌≡◌, refl}
use Rattle.xmp_values.specs.Names.{named}
use Rattle.xmp_values.proofs.NameSets.{named_same}
use Rattle.rdf_forms.proofs.Entered.{in-apart, in-holds}
use Rattle.rdf_forms.proofs.member_names.enter_name.Goals as goal

pub returns-clause-apart : goal.returns-clause-apart
returns-clause-apart c =
    let n = c.args.name.now in
    let key = named c.bytes.result.now c.bytes-2.result.now in
    let keyed : key ≡ n = named_same n n c.bytes.result.now c.bytes-2.result.now c.bytes.ensures c.bytes-2.ensures refl in
    in-apart c.args.without_value n (cc) key keyed c.args.seen.now c.in_ok-is_new.is_new c.in_ok-is_new.ensures.added

pub returns-clause-holds : goal.returns-clause-holds
returns-clause-holds c =
    let n = c.args.name.now in
    let key = named c.bytes.result.now c.bytes-2.result.now in
    let keyed : key ≡ n = named_same n n c.bytes.result.now c.bytes-2.result.now c.bytes.ensures c.bytes-2.ensures refl in
    in-holds c.args.without_value n (cc) key keyed c.args.seen.now c.insert.new.self c.in_ok-is_new.ensures.holds
