use Rattle.std.proofs.Common.{◌≡◌, ◌∷◌, ◌∙◌, List, Some, ap, sym, subst}
use Rattle.xmp_xml.specs.declared.scopes.Scoped.{Scoped}
use Rattle.xmp_xml.specs.Numbers.{mark_in}
use Rattle.xmp_xml.specs.Scopes.{IsIndexed, AreMarked}
use Rattle.xmp_xml.proofs.InForce.{index_more, marked_more}
use Rattle.xmp_xml.proofs.scopes.Scope.with.Goals as goal

pub invariant_of-result : goal.invariant_of-result
invariant_of-result c =
    let bs : List Scoped = c.self.inside.stack in
    let b : Scoped = record { prefix = c.args.prefix; space = c.args.space; mark = c.in_ok-numbers.mark; outer = c.get-outer.result } in
    let numbers = c.in_ok-numbers.numbers.named in
    let next : c.push.new.self ≡ b ∷ bs = c.in_ok-push.ensures.ok in
    let here : mark_in numbers c.args.space ≡ Some c.in_ok-numbers.mark = ap (mark_in numbers) (sym c.bytes.ensures) ∙ c.in_ok-numbers.ensures.mark in (
      subst (λ (cs : List Scoped). IsIndexed cs c.in_ok-places.places) (sym next)
          (index_more bs b c.self.inside.places c.in_ok-places.places c.len.result c.self.invariant.0 c.len.ensures c.get-outer.ensures c.in_ok-places.ensures),
      subst (λ (cs : List Scoped). AreMarked cs numbers) (sym next)
          (here, marked_more bs c.self.inside.numbers.named numbers c.in_ok-numbers.ensures.kept c.self.invariant.1),
    )
