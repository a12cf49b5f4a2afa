use Rattle.std.proofs.Common.{◌≡◌, ◌++◌, ◌∙◌, ℕ, List, Some, None, ap, sym}
use Rattle.std.specs.Prelude.{nat_le}
use Rattle.xml_grammar.specs.Scopes.{Binding}
use Rattle.xmp_xml.specs.Scopes.{place_in}
use Rattle.xmp_xml.proofs.InForce.{inside_some, inside_none}
use Rattle.xmp_xml.proofs.scopes.Scope.binds_inside.Goals as goal

pub returns-in-Some : goal.returns-in-Some
returns-in-Some c = λ inside outer e n.
    let p = c.args.prefix.now in
    let at : place_in (inside ++ outer) p ≡ Some c.in-Some.place =
    ap (λ (bs : List Binding). place_in bs p) (sym e ∙ sym c.self.view_is) ∙ sym (c.self.invariant.0.found p) ∙ sym c.in-Some.ensures in
    ap (λ (k : ℕ). nat_le k c.in-Some.place) n ∙ inside_some inside outer p c.in-Some.place at

pub returns-in-None : goal.returns-in-None
returns-in-None c = λ inside outer e n.
    let p = c.args.prefix.now in
    let at : place_in (inside ++ outer) p ≡ None =
    ap (λ (bs : List Binding). place_in bs p) (sym e ∙ sym c.self.view_is) ∙ sym (c.self.invariant.0.found p) ∙ sym c.in-None.ensures in
    inside_none inside outer p at
