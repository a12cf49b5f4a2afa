-- A piece breaks no rule exactly where each test fails.
use Rattle.std.proofs.Common.{◌≡◌, Bool, true, false, not, ◌&&◌, Option, Some, None, refl}
use Rattle.std.specs.Prelude.{if◌then◌else◌}
use Rattle.xmp_values.specs.declared.rules.Rule.{Rule}
use Rattle.xmp_values.specs.declared.rules.Rule.TheVariants.{Encoding, OutsideRoot, Mismatch, BadNamespace, UnboundPrefix, TwiceAttribute, TooDeep}
use Rattle.xml_grammar.specs.Pieces.{Piece}
use Rattle.xml_grammar.specs.Nesting.{Nest, is_foreign, is_outside, is_allowed_outside, ends_other, misbinds, unbinds, repeats, is_too_deep, broken}

pub record IsUnbroken (s : Nest) (p : Piece) : Type 0 where
  pub local_encoding : is_foreign p ≡ false
  pub placed : (is_outside s.levels && not (is_allowed_outside s.rooted p)) ≡ false
  pub matched : ends_other s.levels p ≡ false
  pub binds : misbinds p ≡ false
  pub bound : unbinds s p ≡ false
  pub once : repeats s p ≡ false
  pub shallow : is_too_deep s p ≡ false

passed : (b : Bool) (r : Rule) (o : Option Rule) → (if b then Some r else o) ≡ None → (b ≡ false) × (o ≡ None)
passed true r o e = absurd cc
passed false r o e = (refl, e)

pub unbroken : (s : Nest) (p : Piece) → broken s p ≡ None → IsUnbroken s p
unfolding broken
unbroken s p e =
    let deep : Option Rule = if is_too_deep s p then Some TooDeep else None in
    let twice : Option Rule = if repeats s p then Some TwiceAttribute else deep in
    let unbound : Option Rule = if unbinds s p then Some UnboundPrefix else twice in
    let bad : Option Rule = if misbinds p then Some BadNamespace else unbound in
    let mismatch : Option Rule = if ends_other s.levels p then Some Mismatch else bad in
    let outside : Option Rule = if is_outside s.levels && not (is_allowed_outside s.rooted p) then Some OutsideRoot else mismatch in
    let a = passed (is_foreign p) Encoding outside e in
    let b = passed (is_outside s.levels && not (is_allowed_outside s.rooted p)) OutsideRoot mismatch a.1 in
    let c = passed (ends_other s.levels p) Mismatch bad b.1 in
    let d = passed (misbinds p) BadNamespace unbound c.1 in
    let f = passed (unbinds s p) UnboundPrefix twice d.1 in
    let g = passed (repeats s p) TwiceAttribute deep f.1 in
    let h = passed (is_too_deep s p) TooDeep None g.1 in
    record { local_encoding = a.0; placed = b.0; matched = c.0; binds = d.0; bound = f.0; once = g.0; shallow = h.0 }
