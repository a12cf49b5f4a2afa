use Rattle.std.proofs.Common.{◌≡◌, ◌≢◌, ◌+◌, ◌<◌, ◌^◌, ◌∙◌, ℕ, List, [], Bool, eqb, length, Option, None, true, false, ap, sym, arith}
use Rattle.std.specs.Prelude.{is_some, if◌then◌else◌}
use Rattle.std.specs.BTreeMap.{btree_map_len}
use Rattle.xmp_xml.specs.Named.{named_at}
use Rattle.xmp_xml.proofs.Numbering.{below_more, small_more, distinct_more}
use Rattle.xmp_xml.proofs.numbers.Numbers.numbered.Goals as goal

nonempty : (xs : List ℕ) (b : Bool) → b ≡ eqb (length xs) 0 → b ≡ false → xs ≢ []
nonempty xs b e f none = let bad : true ≡ false = sym (ap (λ (ys : List ℕ). eqb (length ys) 0) none) ∙ sym e ∙ f in cc

pub invariant_of-result : goal.invariant_of-result
invariant_of-result c =
    let m = c.args.self.named in
    let space = c.args.space.now in
    let number = c.len-number.result + 1 in
    let some : space ≢ [] = nonempty c.args.space.now c.is_empty.result c.is_empty.ensures c.if-is_empty.false in
    let absent : named_at m space ≡ None = sym c.in_default.ensures.value in
    let long : btree_map_len c.in_ok-with_name.field-0 ≡ btree_map_len m + 1 =
    c.in_ok-with_name.ensures.len ∙ ap (λ (o : Option ℕ). btree_map_len m + (if is_some o then 0 else 1)) absent in
    let size : number ≡ btree_map_len m + 1 = omega (arith, c.len-number.ensures.len) in
    let fits : number < 2 ^ 64 = omega (arith, c.len-number.ensures.small) in
    record {
      below = below_more m c.in_ok-with_name.field-0 space number some absent c.in_ok-with_name.ensures.puts size c.args.self.below long;
      small = small_more m c.in_ok-with_name.field-0 space number some absent c.in_ok-with_name.ensures.puts size c.args.self.below fits c.args.self.small;
      distinct = distinct_more m c.in_ok-with_name.field-0 space number some absent c.in_ok-with_name.ensures.puts size c.args.self.below c.args.self.distinct;
    }
