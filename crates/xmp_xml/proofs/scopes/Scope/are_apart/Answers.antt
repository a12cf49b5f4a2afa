use Rattle.std.proofs.Common.{◌∙◌, List, not, refl, sym, ap, subst, map, arith}
use Rattle.std.specs.Prelude.{Contains}
use Rattle.std.proofs.lemmas.Bool.{MatchBool-at_true, MatchBool-at_false}
use Rattle.xmp_values.specs.Names.{named}
use Rattle.xmp_values.proofs.NameSets.{Sees, sees_none, sees_more, apart_more, apart_not, named_same}
use Rattle.xml_grammar.specs.Scopes.{Binding, expanded}
use Rattle.xml_grammar.specs.Nesting.{has_twice}
use Rattle.xmp_xml.specs.Tagging.{same_attribute}
use Rattle.xmp_xml.proofs.InForce.{marked_name, all_apart, not_apart}
use Rattle.xmp_xml.proofs.scopes.Scope.are_apart.Goals as goal

pub loop-attribute-init : goal.loop-attribute-init
loop-attribute-init c = record {
  apart = λ j k d lt none. absurd (omega arith);
  sees = subst (λ seen. Sees (marked_name c.self.inside.stack) c.args.plain.now seen 0) (sym c.new-seen.ensures) (sees_none (marked_name c.self.inside.stack) c.args.plain.now);
}

pub returns-then-not-branch : goal.returns-then-not-branch
returns-then-not-branch c =
    let name = marked_name c.self.inside.stack in
    let key = named c.mark_of-mark.result.now c.bytes.result.now in
    let keyed = named_same (name c.attribute-item.result) (name c.attribute-item.result) c.mark_of-mark.result.now c.bytes.result.now c.mark_of-mark.ensures c.bytes.ensures refl in
    let old = MatchBool-at_false (Contains c.loop-attribute.seen key → ⊥) (Contains c.loop-attribute.seen key) c.if-not-branch.true c.in_ok-insert.ensures.added in
    not_apart c.self.inside.stack c.self.inside.numbers.named c.self.invariant.1 c.self.inside.numbers.small c.self.inside.numbers.distinct c.args.plain.now
    (λ apart. apart_not name c.args.plain.now c.loop-attribute.attribute-index c.attribute-item.result c.loop-attribute-test.true c.attribute-item.is key keyed
    c.loop-attribute.seen c.loop-attribute.invariant.sees old apart)
    ∙ ap (λ (bs : List Binding). not (has_twice same_attribute (map (expanded bs) c.args.plain.now))) c.self.view_is

pub loop-attribute-preserved : goal.loop-attribute-preserved
loop-attribute-preserved c =
    let name = marked_name c.self.inside.stack in
    let key = named c.mark_of-mark.result.now c.bytes.result.now in
    let keyed = named_same (name c.attribute-item.result) (name c.attribute-item.result) c.mark_of-mark.result.now c.bytes.result.now c.mark_of-mark.ensures c.bytes.ensures refl in
    let new = MatchBool-at_true (Contains c.loop-attribute.seen key → ⊥) (Contains c.loop-attribute.seen key) c.if-not-branch.false c.in_ok-insert.ensures.added in record {
      apart = apart_more name c.args.plain.now c.loop-attribute.attribute-index c.attribute-item.result c.loop-attribute-test.true c.attribute-item.is key keyed
          c.loop-attribute.seen c.loop-attribute.invariant.sees new c.loop-attribute.invariant.apart;
      sees = sees_more name c.args.plain.now c.loop-attribute.attribute-index c.attribute-item.result c.loop-attribute-test.true c.attribute-item.is key keyed
          c.loop-attribute.seen c.insert.new.self c.loop-attribute.invariant.sees c.in_ok-insert.ensures.holds;
    }

pub returns : goal.returns
returns c =
    all_apart c.self.inside.stack c.self.inside.numbers.named c.self.invariant.1 c.self.inside.numbers.small c.self.inside.numbers.distinct c.args.plain.now
    (λ j k d lt within. c.loop-attribute.invariant.apart j k d lt (omega (arith, c.loop-attribute-test.false, within)))
    ∙ ap (λ (bs : List Binding). not (has_twice same_attribute (map (expanded bs) c.args.plain.now))) c.self.view_is
