use Rattle.std.proofs.Common.{◌≡◌, ◌∷◌, ◌++◌, [], not, ap, subst, refl, ◌∙◌}
use Rattle.xmp_values.specs.Names.{named}
use Rattle.xmp_values.proofs.NameSets.{named_same}
use Rattle.xmp_tree.specs.Wf.{name_of}
use Rattle.rdf_forms.specs.Entering.{Holds}
use Rattle.rdf_forms.proofs.Clashes.{stands}
use Rattle.rdf_forms.proofs.Entered.{is_new, holds_more}
use Rattle.xmp_rdf.proofs.merging.enter.Goals as goal

pub returns-clause-is_new : goal.returns-clause-is_new
returns-clause-is_new c =
    let n = name_of c.args.prop.now in
    let key = named c.bytes.result.now c.bytes-2.result.now in
    let keyed : key ≡ n = named_same n n c.bytes.result.now c.bytes-2.result.now c.bytes.ensures c.bytes-2.ensures refl in
    is_new c.in_ok-is_new.is_new key c.args.names.now c.in_ok-is_new.ensures.added ∙ ap (λ m. not (stands m c.args.names.now)) keyed

pub returns-clause-holds : goal.returns-clause-holds
returns-clause-holds c =
    let n = name_of c.args.prop.now in
    let key = named c.bytes.result.now c.bytes-2.result.now in
    let keyed : key ≡ n = named_same n n c.bytes.result.now c.bytes-2.result.now c.bytes.ensures c.bytes-2.ensures refl in
    subst (λ m. Holds c.insert.new.self (c.args.names.now ++ m ∷ [])) keyed (holds_more key c.args.names.now c.insert.new.self c.in_ok-is_new.ensures.holds)
