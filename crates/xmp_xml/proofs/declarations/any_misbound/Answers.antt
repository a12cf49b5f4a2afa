use Rattle.std.proofs.Common.{◌≡◌, Bool, false, true, sym, ap, ◌∙◌, List, ℕ}
use Rattle.std.specs.List.{list_any}
use Rattle.xml_grammar.specs.Scopes.{is_misbound, is_misbound_to}
use Rattle.xmp_xml.specs.declared.declarations.Bound.{Bound}
use Rattle.xmp_xml.specs.Bounds.{binding_in, bindings_in}
use Rattle.xmp_xml.proofs.Scans.{any_next, any_here, any_not, any_binding}
use Rattle.xmp_xml.proofs.declarations.any_misbound.Goals as goal

abbrev test : Bound → Bool
test b = is_misbound (binding_in b)

pub loop-bound-init : goal.loop-bound-init
loop-bound-init c = sym (any_binding c.args.list.now)

pub loop-bound-preserved : goal.loop-bound-preserved
loop-bound-preserved c =
    let fails : is_misbound_to c.bound-item.result.prefix c.bound-item.result.space ≡ false = ap (λ (s : List ℕ). is_misbound_to c.bound-item.result.prefix s) (sym c.bytes.ensures) ∙ sym c.is_misbound.ensures ∙ c.if-is_misbound.false in
    any_next test c.args.list.now (list_any is_misbound (bindings_in c.args.list.now)) c.loop-bound.bound-index c.loop-bound.invariant c.bound-item.result c.loop-bound-test.true c.bound-item.is fails

pub returns-then-is_misbound : goal.returns-then-is_misbound
returns-then-is_misbound c =
    let passes : is_misbound_to c.bound-item.result.prefix c.bound-item.result.space ≡ true = ap (λ (s : List ℕ). is_misbound_to c.bound-item.result.prefix s) (sym c.bytes.ensures) ∙ sym c.is_misbound.ensures ∙ c.if-is_misbound.true in
    any_here test c.args.list.now (list_any is_misbound (bindings_in c.args.list.now)) c.loop-bound.bound-index c.loop-bound.invariant c.bound-item.result c.loop-bound-test.true c.bound-item.is passes

pub returns : goal.returns
returns c = any_not test c.args.list.now (list_any is_misbound (bindings_in c.args.list.now)) c.loop-bound.bound-index c.loop-bound.invariant c.loop-bound-test.false
