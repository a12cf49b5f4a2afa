-- Declarations apart.
use Rattle.std.proofs.Common.{◌≡◌, ℕ, true, false, List, [], ◌∷◌, ◌++◌, Option, Some, None, refl, sym, ap, ◌∙◌, append-nil}
use Rattle.std.specs.Prelude.{is_none}
use Rattle.std.specs.Option.{option_map}
use Rattle.std.proofs.lemmas.List.Elements.{filter_map-append, filter-append}
use Rattle.xml_grammar.specs.declared.tags.RawAttribute.{RawAttribute}
use Rattle.xml_grammar.specs.Scopes.{Binding, binding_at, binding_of, bindings_of, plain_attributes}
use Rattle.xmp_xml.specs.declared.tags.Parts.{Parts}
use Rattle.xmp_xml.specs.Tagging.{declares, with_plain, placed_in, with_attribute, divided}

-- ---- one attribute more

abbrev parts : List Binding → List RawAttribute → Parts
parts declared plain = record { declared = declared; plain = plain }

pub divided_next : (xs : List RawAttribute) (a : RawAttribute) → with_attribute (divided xs) a ≡ divided (xs ++ a ∷ [])
divided_next xs a = by (binding_of a) refl
  where
    declared_push : bindings_of (xs ++ a ∷ []) ≡ bindings_of xs ++ bindings_of (a ∷ [])
    declared_push = filter_map-append binding_of xs (a ∷ [])

    plain_push : plain_attributes (xs ++ a ∷ []) ≡ plain_attributes xs ++ plain_attributes (a ∷ [])
    plain_push = filter-append (λ (b : RawAttribute). is_none (binding_of b)) xs (a ∷ [])

    by : (o : Option Binding) → binding_of a ≡ o → placed_in (divided xs) a o ≡ divided (xs ++ a ∷ [])
    by None e =
        let d : bindings_of (xs ++ a ∷ []) ≡ bindings_of xs = declared_push ∙ ap (λ (z : List Binding). bindings_of xs ++ z) (rw e refl) ∙ append-nil (bindings_of xs) in
        let p : plain_attributes (xs ++ a ∷ []) ≡ plain_attributes xs ++ a ∷ [] = plain_push ∙ ap (λ (z : List RawAttribute). plain_attributes xs ++ z) (rw e refl) in
        sym (λ i. parts (d i) (p i))
    by (Some b) e =
        let d : bindings_of (xs ++ a ∷ []) ≡ bindings_of xs ++ b ∷ [] = declared_push ∙ ap (λ (z : List Binding). bindings_of xs ++ z) (rw e refl) in
        let p : plain_attributes (xs ++ a ∷ []) ≡ plain_attributes xs = plain_push ∙ ap (λ (z : List RawAttribute). plain_attributes xs ++ z) (rw e refl) ∙ append-nil (plain_attributes xs) in
        sym (λ i. parts (d i) (p i))

-- ---- which attribute declares

pub bound_declared : (prefix : Option (List ℕ)) (local value : List ℕ) (b : Binding) → b ≡ record { prefix = option_map (λ p. local) prefix; space = value } → declares prefix local ≡ true → binding_at prefix local value ≡ Some b
bound_declared None local value b is e = rw e (sym (ap Some is))
bound_declared (Some p) local value b is e = rw e (sym (ap Some is))

none_declared : (prefix : Option (List ℕ)) (local value : List ℕ) → declares prefix local ≡ false → binding_at prefix local value ≡ None
none_declared None local value e = rw e refl
none_declared (Some p) local value e = rw e refl

pub plain_added : (p : Parts) (a : RawAttribute) → declares a.name.prefix a.name.local ≡ false → with_plain p a ≡ with_attribute p a
plain_added p a e = ap (placed_in p a) (sym (none_declared a.name.prefix a.name.local a.value e))

pub declaration_added : (p : Parts) (a : RawAttribute) (b : Binding) → binding_of a ≡ Some b → record { declared = p.declared ++ b ∷ []; plain = p.plain } ≡ with_attribute p a
declaration_added p a b e = ap (placed_in p a) (sym e)
