use Rattle.std.proofs.Common.{◌≡◌, ◌∷◌, ◌++◌, ◌||◌, ◌∙◌, [], List, Bool, ap, sym}
use Rattle.std.specs.Prelude.{reverse}
use Rattle.std.proofs.lemmas.List.{reverse-append}
use Rattle.xml_grammar.specs.Scopes.{Binding}
use Rattle.xml_grammar.specs.Nesting.{has_twice}
use Rattle.xmp_xml.specs.declared.declarations.Bound.{Bound}
use Rattle.xmp_xml.specs.Bounds.{binding_in, bindings_in}
use Rattle.xmp_xml.specs.Tagging.{same_binding}
use Rattle.xmp_xml.proofs.InForce.{twice_more}
use Rattle.xmp_xml.proofs.scopes.Scope.entered.Goals.{then-binds_inside, else-binds_inside}
use Rattle.xmp_xml.proofs.scopes.Scope.entered.Goals as goal

pub loop-bound-preserved : goal.loop-bound-preserved
loop-bound-preserved c =
    let own : List Binding = bindings_in (reverse c.loop-bound.yielded) in
    let b : Bound = c.in-Some.bound in
    let turned : reverse (c.loop-bound.yielded ++ b ∷ []) ≡ b ∷ reverse c.loop-bound.yielded = reverse-append c.loop-bound.yielded (b ∷ []) in
    let either : c.if-binds_inside.twice ≡ (c.binds_inside.result || c.loop-bound.twice) = elim c.if-binds_inside.branch [
      | then-binds_inside w ↦ w.twice-is ∙ w.if-binds_inside.true ∙ sym (ap (λ (t : Bool). t || c.loop-bound.twice) w.if-binds_inside.true)
      | else-binds_inside w ↦ w.twice-is ∙ sym (ap (λ (t : Bool). t || c.loop-bound.twice) w.if-binds_inside.false)
    ] in
    record {
      scope = c.in_ok-scope.ensures ∙ ap (λ (bs : List Binding). binding_in b ∷ bs) c.loop-bound.invariant.scope ∙ sym (ap (λ (bs : List Bound). bindings_in bs ++ c.args.self) turned);
      twice = either
          ∙ twice_more (binding_in b) own c.binds_inside.result c.loop-bound.twice (c.binds_inside.ensures own c.args.self c.loop-bound.invariant.scope c.len-outermost.ensures) c.loop-bound.invariant.twice
          ∙ sym (ap (λ (bs : List Bound). has_twice same_binding (bindings_in bs)) turned);
    }
