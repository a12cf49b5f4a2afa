use Rattle.std.proofs.Common.{◌≡◌, ◌∙◌, ◌++◌, ap, sym, take, List, ℕ, Option}
use Rattle.std.specs.Option.{option_copied}
use Rattle.xmp_values.specs.declared.text.Name.{Name}
use Rattle.xmp_tree.specs.declared.nested.Value.{Value}
use Rattle.mwg_rules.specs.declared.choices.Choice.{Choice}
use Rattle.std.specs.Prelude.{flat_map}
use Rattle.xmp_tree.specs.Places.{value_named}
use Rattle.mwg_rules.specs.declared.properties.Property.{Property}
use Rattle.mwg_rules.specs.Properties.{name_of, properties}
use Rattle.mwg_rules.specs.Reconciled.{chosen}
use Rattle.mwg_rules.specs.Stale.{stale_line, stale_lines}
use Rattle.mwg_rules.proofs.Steps.{flat_map_one_more, property_at, take_whole}
use Rattle.mwg_rules.proofs.lines.stale.Goals as goal

pub loop-property-preserved : goal.loop-property-preserved
unfolding properties
loop-property-preserved c =
    let i = c.loop-property.property-index in
    let f : Property → List ℕ = λ p. stale_line p (chosen c.args.c.now p) (value_named (name_of p) c.args.t.now.props) in
    let p = property_at i in
    let props = c.args.t.now.props in
    let there : option_copied c.value_named-there.result ≡ value_named (name_of p) props =
    c.value_named-there.ensures ∙ ap (value_named c.name.result) (c.as_slice.ensures ∙ ap (λ t. t.props) c.t.view_is) ∙ ap (λ (n : Name). value_named n props) c.name.ensures in
    let before = flat_map f (take i properties) in
    c.in_ok-push_line.ensures
    ∙ ap (λ (l : List ℕ). l ++ stale_line p (option_copied c.get.result) (option_copied c.value_named-there.result)) c.loop-property.invariant
    ∙ ap (λ (o : Option Choice). before ++ stale_line p o (option_copied c.value_named-there.result)) c.get.ensures.value
    ∙ ap (λ (o : Option Value). before ++ stale_line p (chosen c.args.c.now p) o) there
    ∙ sym (flat_map_one_more f i c.loop-property-test.true)

pub returns : goal.returns
unfolding stale_lines
returns c =
    let f : Property → List ℕ = λ p. stale_line p (chosen c.args.c.now p) (value_named (name_of p) c.args.t.now.props) in
    c.from_vec.ensures ∙ c.loop-property.invariant ∙ ap (flat_map f) (take_whole c.loop-property.property-index c.loop-property-test.false)
