use Rattle.std.proofs.Common.{◌≡◌, ◌∙◌, ap, sym, subst, Some, None}
use Rattle.std.specs.Option.{option_copied}
use Rattle.mwg_rules.specs.Properties.{properties}
use Rattle.mwg_rules.specs.Reconciled.{chosen, put_all, reconciled, texts_of}
use Rattle.mwg_rules.proofs.Chars.{texts-chars}
use Rattle.mwg_rules.proofs.Formed.{AreProperties, put_formed}
use Rattle.mwg_rules.proofs.Steps.{drop_past, property_at, put_all-step}
use Rattle.mwg_rules.proofs.reconciled.reconcile.Goals as goal
use Rattle.mwg_rules.proofs.reconciled.reconcile.Goals.{in-Some+in_ok-props, in_default}

pub loop-property-preserved : goal.loop-property-preserved
unfolding properties
loop-property-preserved c =
    let i = c.loop-property.property-index in
    let p = property_at i in
    let cs = c.args.c.now in
    let is : option_copied c.texts_of.result ≡ texts_of (chosen cs p) = c.texts_of.ensures ∙ ap texts_of c.get.ensures.value in
    elim c.match-texts_of.branch [
      | in-Some+in_ok-props w ↦
          let texts : texts_of (chosen cs p) ≡ Some w.in-Some.texts.now = sym is ∙ ap option_copied w.in-Some.is in
          let chars = texts-chars (option_copied c.get.result) w.in-Some.texts.now c.get.ensures.chars (sym c.texts_of.ensures ∙ ap option_copied w.in-Some.is) in
          let made = w.props-is ∙ w.in_ok-props.ensures in
          record {
            formed = subst AreProperties (sym made) (put_formed p w.in-Some.texts.now chars c.loop-property.props c.loop-property.invariant.formed);
            rest = put_all-step cs c.loop-property.props c.match-texts_of.props i (Some w.in-Some.texts.now) c.loop-property-test.true texts made ∙ c.loop-property.invariant.rest;
          }
      | in_default w ↦
          let none : texts_of (chosen cs p) ≡ None = sym is ∙ ap option_copied w.in_default.is in
          record {
            formed = subst AreProperties (sym w.props-is) c.loop-property.invariant.formed;
            rest = put_all-step cs c.loop-property.props c.match-texts_of.props i None c.loop-property-test.true none w.props-is ∙ c.loop-property.invariant.rest;
          }
    ]

pub returns : goal.returns
unfolding reconciled
returns c =
    let about = ap (λ t. t.about) c.t.view_is in
    let props = ap (λ t. t.props) c.t.view_is in
    let cs = c.args.c.now in
    let done : c.loop-property.props ≡ put_all properties cs c.args.t.props =
    ap (λ ps. put_all ps cs c.loop-property.props) (sym (drop_past c.loop-property.property-index c.loop-property-test.false)) ∙ c.loop-property.invariant.rest ∙ ap (put_all properties cs) props in
    λ i. record { about = about i; props = done i }
