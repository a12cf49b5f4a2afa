use Rattle.std.proofs.Common.{◌++◌, ◌∷◌, ◌∙◌, [], map, take, ap, sym, subst, arith, append-nil, append_assoc}
use Rattle.xmp_tree.specs.Wf.{name_of}
use Rattle.rdf_forms.specs.Entering.{Holds}
use Rattle.xmp_rdf.proofs.Twice.{names_more, holds_more, found_here, none_yet, none_found, told_new, told_old}
use Rattle.xmp_rdf.proofs.merging.first_twice.Goals as goal

pub loop-at-init : goal.loop-at-init
loop-at-init c = record {
  holds = subst (Holds c.in_ok-names.names) (sym (append-nil (map name_of c.args.main.now))) c.in_ok-names.ensures;
  before = λ k d lt. absurd (omega arith);
}

pub returns-then-not-branch : goal.returns-then-not-branch
returns-then-not-branch c =
    let main = c.args.main.now in
    let more = c.args.more.now in
    let at = c.loop-at.at in
    let p = c.index-more-at.result in
    let stands = told_old main more c.requires at p c.loop-at-test.true c.index-more-at.is c.loop-at.names c.loop-at.invariant.holds c.in_ok-enter.field-0 c.in_ok-enter.ensures.is_new c.if-not-branch.true in
    found_here main more at p c.loop-at-test.true c.index-more-at.is c.loop-at.invariant.before stands

pub loop-at-preserved : goal.loop-at-preserved
loop-at-preserved c =
    let main = c.args.main.now in
    let more = c.args.more.now in
    let at = c.loop-at.at in
    let p = c.index-more-at.result in
    let names = map name_of main ++ map name_of (take at more) in
    let lacks = told_new main more c.requires at p c.loop-at-test.true c.index-more-at.is c.loop-at.names c.loop-at.invariant.holds c.in_ok-enter.field-0 c.in_ok-enter.ensures.is_new c.if-not-branch.false in
    let next = append_assoc (map name_of main) (map name_of (take at more)) (name_of p ∷ []) ∙ ap (λ ns. map name_of main ++ ns) (names_more more at p c.loop-at-test.true c.index-more-at.is) in
    record {
      holds = subst (Holds c.enter.new.names) next (holds_more names c.loop-at.names c.enter.new.names (name_of p) c.loop-at.invariant.holds c.in_ok-enter.ensures.holds);
      before = none_yet main more at p c.loop-at-test.true c.index-more-at.is c.loop-at.invariant.before lacks;
    }

pub returns : goal.returns
returns c = none_found c.args.main.now c.args.more.now c.loop-at.at c.loop-at.auto.at-end c.loop-at-test.false c.loop-at.invariant.before
