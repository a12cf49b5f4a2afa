-- Levels of elements: an element has as many as it is high.
use Rattle.std.proofs.Common.{◌≡◌, ℕ, zero, suc, ◌+◌, ◌≤◌, List, [], ◌∷◌, map, ap, sym, ◌∙◌, arith}
use Rattle.std.specs.Prelude.{All}
use Rattle.std.specs.List.{cons_option}
use Rattle.std.proofs.lemmas.List.Elements.{All-nil, All-cons, All-weaker}
use Rattle.xml_grammar.specs.declared.elements.Child.{Child, Child-F, out-Child, roll-Child, roll-out-Child, fold-roll-Child}
use Rattle.xml_grammar.specs.declared.elements.Child.TheFolds.{fold-roll-Element}
use Rattle.xml_grammar.specs.declared.elements.Child.TheViews.{roll-Element}
use Rattle.xml_grammar.specs.declared.elements.Child.TheViews as views
use Rattle.xml_grammar.specs.declared.elements.Child.TheOpen as layer
use Rattle.xml_grammar.specs.declared.elements.Element.{Element, out-Element}
use Rattle.xml_grammar.specs.Heights.{greatest, child_height, element_height, height_of, height}
use Rattle.rdf_forms.specs.Parts.{element_in, elements_in, elements_of}

-- at most so many levels of elements, the element itself counted
abbrev pub HasLevels : ℕ → Element → Type 0
HasLevels zero e = ⊥
HasLevels (suc levels) e = All (HasLevels levels) (elements_of e)

height_is : (e : Element) → height e ≡ 1 + greatest (map height_of (out-Element e).children)
height_is e =
    ap height (sym (views.roll-out-Element e)) ∙ ap height_of (sym (views.rolls-Element (roll-Element (out-Element e))))
    ∙ fold-roll-Child ℕ ℕ child_height element_height (layer.Element (roll-Element (out-Element e)))
    ∙ fold-roll-Element ℕ ℕ child_height element_height (out-Element e)

height-Element : (e : Element) → height_of (roll-Child (layer.Element e)) ≡ height e
height-Element e = ap height_of (views.rolls-Element e)

-- the elements among children are no higher than the highest of them
no_higher : (levels : ℕ) (cs : List Child) → greatest (map height_of cs) ≤ levels → All (λ c. height c ≤ levels) (elements_in cs)
no_higher levels [] h = All-nil (λ c. height c ≤ levels)
no_higher levels (c ∷ cs) h = by (out-Child c) (roll-out-Child c) (no_higher levels cs (omega arith))
  where
    by : (x : Child-F Child Element) → roll-Child x ≡ c → All (λ c. height c ≤ levels) (elements_in cs) → All (λ c. height c ≤ levels) (cons_option (element_in x) (elements_in cs))
    by (layer.Element e) is rest =
        let high : height e ≡ height_of c = sym (height-Element e) ∙ ap height_of is in
        All-cons (λ c. height c ≤ levels) e (elements_in cs) (omega (arith, high, h)) rest
    by (layer.Text t) is rest = rest

pub has_levels : (levels : ℕ) (e : Element) → height e ≤ levels → HasLevels levels e
has_levels zero e h = absurd (let high = height_is e in omega (arith, high, h))
has_levels (suc levels) e h =
    let high = height_is e in
    let lower = no_higher levels (out-Element e).children (omega (arith, high, h)) in
    All-weaker (λ c. height c ≤ levels) (HasLevels levels) (λ c k. has_levels levels c k) (elements_of e) lower
