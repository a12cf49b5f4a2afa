use Rattle.std.proofs.Common.{rules, arith, ◌≢◌, ◌<◌, ◌∙◌, sym, length, get_or-set_other, get_or-set_same, below_more}
use Rattle.std.proofs.lemmas.Grind.{same_number_lists, get_or_default_zero}
use Rattle.std.proofs.lemmas.List.{get_or-map, length-map}
use Rattle.xmp_values.specs.Digits.{capital}
use Rattle.xmp_values.proofs.digits.Digits.read.Goals as goal

pub loop-i-preserved : goal.loop-i-preserved
loop-i-preserved c =
    let i = c.loop-i in
    let lt : c.loop-i.i < length c.loop-i.held = omega (arith, c.loop-i.invariant.full) in
    record {
      many = c.loop-i.invariant.many;
      full = search (rules, c.loop-i.invariant.full);
      tested = below_more _ _ c.loop-i.invariant.tested (search rules);
      put = below_more _ _
          (λ k h. let ne : k ≢ c.loop-i.i = omega arith in rw get_or-set_other (c.loop-i.invariant.put k h))
          (rw get_or-set_same c.capital_of.ensures.value);
      capitals = below_more _ _
          (λ k h. let ne : k ≢ c.loop-i.i = omega arith in rw get_or-set_other (c.loop-i.invariant.capitals k h))
          (rw get_or-set_same c.capital_of.ensures.capital);
    }

pub returns : goal.returns
returns c =
    let n = c.loop-i.invariant in (
      (
        n.many,
        λ k d h. rw (get_or_default_zero c.args.bytes.now k d h) (n.tested k (omega (arith, n.many))),
      ),
      same_number_lists _ _ (n.full ∙ sym n.many ∙ sym (length-map c.args.bytes.now capital))
          (λ k h. n.put k (omega (arith, n.full)) ∙ sym (get_or-map capital c.args.bytes.now k 0 0 (omega (arith, n.full, n.many)))),
    )
