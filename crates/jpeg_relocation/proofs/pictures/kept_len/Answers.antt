use Rattle.std.proofs.Common.{ℕ, ◌+◌, ◌∙◌, ap, sym, subst, Some, arith}
use Rattle.jpeg_relocation.specs.Pictures.{pictures_len}
use Rattle.jpeg_relocation.specs.Roles.{IsNext}
use Rattle.jpeg_relocation.proofs.Steps.{kept_next, main_next, joined_next, joined_within}
use Rattle.jpeg_relocation.proofs.Indexes.{any_index, gone_main, gone_joined, sum_seen, seen_still, seen_now, sum_unseen, kept_small, range_order}
use Rattle.jpeg_relocation.proofs.pictures.kept_len.Goals as goal
use Rattle.jpeg_relocation.proofs.pictures.kept_len.Goals.{in-Kept, in-Kept-2, in-Main, in-Joined}

pub loop-i-preserved : goal.loop-i-preserved
loop-i-preserved c =
    let joined = c.args.joined.now in
    let regions = c.args.regions.now in
    let i = c.loop-i.i in
    let portion = c.loop-i.portion in
    let inv = c.loop-i.invariant in
    elim c.match-role_of.branch [
      | in-Kept w ↦
          let role_is = c.role_of.ensures ∙ ap Some w.in-Kept.is in
          let seen = sym inv.seen ∙ w.if-seen.true in
          record {
            next = subst (λ (n : ℕ). IsNext joined regions (i + 1) n) (sym w.portion-is) (kept_next joined regions i portion inv.next role_is);
            seen = w.seen-is ∙ w.if-seen.true ∙ seen_still joined regions i role_is seen;
            sum = w.sum-is ∙ sum_seen joined regions i role_is c.loop-i.sum w.range-range.result seen w.range-range.ensures inv.sum;
          }
      | in-Kept-2 w ↦
          let role_is = c.role_of.ensures ∙ ap Some w.in-Kept-2.is in
          let unseen = sym inv.seen ∙ w.if-seen.false in
          record {
            next = subst (λ (n : ℕ). IsNext joined regions (i + 1) n) (sym w.portion-is) (kept_next joined regions i portion inv.next role_is);
            seen = w.seen-is ∙ w.is_index-seen.ensures ∙ seen_now joined regions i role_is w.kind.result unseen w.kind.ensures;
            sum = w.sum-is ∙ sum_unseen joined regions i role_is c.loop-i.sum unseen inv.sum;
          }
      | in-Main w ↦
          let role_is = c.role_of.ensures ∙ ap Some w.in-Main.is in
          record {
            next = subst (λ (n : ℕ). IsNext joined regions (i + 1) n) (sym w.portion-is) (main_next joined regions i portion inv.next role_is);
            seen = w.seen-is ∙ inv.seen ∙ ap any_index (gone_main joined regions i role_is);
            sum = w.sum-is ∙ inv.sum ∙ ap pictures_len (gone_main joined regions i role_is);
          }
      | in-Joined w ↦
          let role_is = c.role_of.ensures ∙ ap Some w.in-Joined.is in
          record {
            next = subst (λ (n : ℕ). IsNext joined regions (i + 1) n) (sym w.portion-is) (joined_next joined regions i portion inv.next role_is);
            seen = w.seen-is ∙ inv.seen ∙ ap any_index (gone_joined joined regions i role_is);
            sum = w.sum-is ∙ inv.sum ∙ ap pictures_len (gone_joined joined regions i role_is);
          }
    ]

pub overflow_add-portion : goal.overflow_add-portion
overflow_add-portion c =
    omega (arith, joined_within c.args.joined.now c.args.regions.now c.loop-i.i c.loop-i.portion c.loop-i.invariant.next (c.role_of.ensures ∙ ap Some c.in-Joined.is))

pub overflow_sub-sum : goal.overflow_sub-sum
overflow_sub-sum c = range_order c.args.size c.loop-i.i c.args.regions.now c.range-range.result c.requires.tiles c.range-range.ensures

pub overflow_add-sum : goal.overflow_add-sum
overflow_add-sum c =
    let sum = sum_seen c.args.joined.now c.args.regions.now c.loop-i.i (c.role_of.ensures ∙ ap Some c.in-Kept.is) c.loop-i.sum c.range-range.result
    (sym c.loop-i.invariant.seen ∙ c.if-seen.true) c.range-range.ensures c.loop-i.invariant.sum in
    omega (arith, sum, kept_small c.args.joined.now c.args.regions.now c.args.size (c.loop-i.i + 1) c.requires.tiles)
