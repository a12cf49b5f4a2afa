use Rattle.std.proofs.Common.{◌≡◌, ◌∙◌, ◌++◌, ◌∷◌, [], ℕ, Bool, ap, sym, subst, take, length, List, Option, Some, arith}
use Rattle.std.specs.Prelude.{All, map, slice_get}
use Rattle.std.specs.List.{remove}
use Rattle.std.proofs.lemmas.List.{length-drop}
use Rattle.std.specs.Option.{option_and_then, option_copied, option_flatten}
use Rattle.xmp_values.specs.declared.text.Name.{Name}
use Rattle.xmp_tree.specs.Places.{value_named}
use Rattle.mwg_rules.specs.declared.properties.Property.{Property}
use Rattle.irb_iptc.specs.Fields.{fields_of}
use Rattle.mwg_rules.specs.declared.choices.Choice.{Choice}
use Rattle.mwg_rules.specs.Properties.{name_of, number_of, properties}
use Rattle.mwg_rules.specs.Sources.{Texts, choice_for, choices_for, has_value, if_chars, preferred, value_at}
use Rattle.mwg_rules.specs.Reconciled.{HasChars}
use Rattle.mwg_rules.proofs.Chars.{choices_for-chars}
use Rattle.mwg_rules.proofs.Steps.{fields-length, first_left, map_one_more, number_at, property_at, rest_left, take_whole}
use Rattle.mwg_rules.proofs.choices.prefer.Goals as goal

pub remove-told-requires : goal.remove-told-requires
remove-told-requires c =
    let i = c.loop-property.property-index in
    let fs = fields_of c.args.s.now.iptc in
    let left = ap length c.loop-property.invariant.left in
    omega (arith, left, length-drop i fs, fields-length c.args.s.now.iptc)

pub loop-property-preserved : goal.loop-property-preserved
unfolding properties value_at
loop-property-preserved c =
    let i = c.loop-property.property-index in
    let p = property_at i in
    let within = c.loop-property-test.true in
    let exif = c.args.s.now.exif in
    let changed = c.differs-changed.result in
    let iptc = fields_of c.args.s.now.iptc in
    let props = c.args.t.now.props in
    let inv = c.loop-property.invariant in
    let f : Property → Option Choice = choice_for exif changed iptc props in
    let there : option_copied c.value_named.result ≡ value_named (name_of p) props =
    c.value_named.ensures ∙ ap (value_named c.name.result) (c.as_slice.ensures ∙ ap (λ t. t.props) c.t.view_is) ∙ ap (λ (n : Name). value_named n props) c.name.ensures in
    let xmp : c.has_value-xmp.result ≡ has_value (value_named (name_of p) props) = c.has_value-xmp.ensures ∙ ap has_value there in
    let first : c.if_chars.result ≡ value_at exif (number_of p) =
    c.if_chars.ensures ∙ ap (option_and_then if_chars) (c.in_ok-exif.ensures ∙ c.value.ensures ∙ ap (λ (n : ℕ). option_flatten (slice_get exif n)) c.number.ensures) in
    let told : slice_get iptc (number_of p) ≡ Some c.remove-told.result =
    ap (slice_get iptc) (number_at i within) ∙ sym (first_left iptc i) ∙ ap (λ (l : List (Option Texts)). slice_get l 0) (sym inv.left) ∙ c.remove-told.ensures.item in
    let last : c.if_chars-in-loop-property.result ≡ value_at iptc (number_of p) =
    c.if_chars-in-loop-property.ensures ∙ ap (λ (o : Option (Option Texts)). option_and_then if_chars (option_flatten o)) (sym told) in
    let choice : c.preferred-choice.result ≡ f p =
    c.preferred-choice.ensures ∙ ap (λ (o : Option Texts). preferred o changed c.has_value-xmp.result c.if_chars-in-loop-property.result) first
    ∙ ap (λ (b : Bool). preferred (value_at exif (number_of p)) changed b c.if_chars-in-loop-property.result) xmp
    ∙ ap (λ (o : Option Texts). preferred (value_at exif (number_of p)) changed (has_value (value_named (name_of p) props)) o) last in
    record {
      chosen = c.in_ok-push.ensures.ok ∙ ap (λ (l : List (Option Choice)). l ++ c.preferred-choice.result ∷ []) inv.chosen
          ∙ ap (λ (o : Option Choice). map f (take i properties) ++ o ∷ []) choice ∙ sym (map_one_more f i within);
      left = c.remove-told.ensures.rest ∙ ap (λ (l : List (Option Texts)). remove l 0) inv.left ∙ rest_left iptc i;
    }

pub invariant_of-result : goal.invariant_of-result
unfolding choices_for
invariant_of-result c =
    let e = c.loop-property.invariant.chosen ∙ ap (map (choice_for c.args.s.now.exif c.differs-changed.result (fields_of c.args.s.now.iptc) c.args.t.now.props)) (take_whole c.loop-property.property-index c.loop-property-test.false) in
    subst (λ (cs : List (Option Choice)). All HasChars cs) (sym e) (choices_for-chars c.args.s.now.exif c.differs-changed.result (fields_of c.args.s.now.iptc) c.args.t.now.props)

pub returns : goal.returns
unfolding choices_for
returns c =
    c.loop-property.invariant.chosen ∙ ap (map (choice_for c.args.s.now.exif c.differs-changed.result (fields_of c.args.s.now.iptc) c.args.t.now.props)) (take_whole c.loop-property.property-index c.loop-property-test.false)
    ∙ ap (λ b. choices_for c.args.s.now.exif b (fields_of c.args.s.now.iptc) c.args.t.now.props) c.differs-changed.ensures
