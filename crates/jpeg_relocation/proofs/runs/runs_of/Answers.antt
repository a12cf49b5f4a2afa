use Rattle.std.proofs.Common.{ℕ, ◌+◌, ◌∙◌, ap, sym, subst, arith, Some, Vec, Global}
use Rattle.xmp_base.specs.declared.file_span.FileSpan.{FileSpan}
use Rattle.jpeg_relocation.specs.Roles.{IsNext}
use Rattle.jpeg_relocation.proofs.Steps.{kept_next, main_next, joined_next, joined_within, part_none, runs_kept, runs_main, runs_joined}
use Rattle.jpeg_relocation.proofs.runs.runs_of.Goals as goal
use Rattle.jpeg_relocation.proofs.runs.runs_of.Goals.{in-Kept+in_ok-add_range-in-Kept, in-Main, in-Joined}

pub loop-i-init : goal.loop-i-init
loop-i-init c = record { next = c.requires.next; spans = c.new-spans.ensures.items ∙ sym (part_none c.args.joined.now c.args.regions.now c.args.from.region) }

pub loop-i-preserved : goal.loop-i-preserved
loop-i-preserved c =
    let joined = c.args.joined.now in
    let regions = c.args.regions.now in
    let i = c.loop-i.i in
    let portion = c.loop-i.portion in
    let next = c.loop-i.invariant.next in
    elim c.match-role_of.branch [
      | in-Kept+in_ok-add_range-in-Kept w ↦
          let role_is = c.role_of.ensures ∙ ap Some w.in-Kept.is in
          record {
            next = subst (λ (n : ℕ). IsNext joined regions (i + 1) n) (sym w.portion-is) (kept_next joined regions i portion next role_is);
            spans = ap (λ (v : Vec FileSpan Global). v.items) w.spans-is ∙ w.in_ok-add_range-in-Kept.ensures
                ∙ runs_kept joined regions c.args.from.region i c.loop-i.auto.i c.loop-i.spans.items c.loop-i.invariant.spans w.range.result role_is w.range.ensures;
          }
      | in-Main w ↦
          let role_is = c.role_of.ensures ∙ ap Some w.in-Main.is in
          record {
            next = subst (λ (n : ℕ). IsNext joined regions (i + 1) n) (sym w.portion-is) (main_next joined regions i portion next role_is);
            spans = ap (λ (v : Vec FileSpan Global). v.items) w.spans-is
                ∙ runs_main joined regions c.args.from.region i c.loop-i.auto.i c.loop-i.spans.items c.loop-i.invariant.spans role_is;
          }
      | in-Joined w ↦
          let role_is = c.role_of.ensures ∙ ap Some w.in-Joined.is in
          record {
            next = subst (λ (n : ℕ). IsNext joined regions (i + 1) n) (sym w.portion-is) (joined_next joined regions i portion next role_is);
            spans = ap (λ (v : Vec FileSpan Global). v.items) w.spans-is
                ∙ runs_joined joined regions c.args.from.region i c.loop-i.auto.i c.loop-i.spans.items c.loop-i.invariant.spans role_is;
          }
    ]

pub overflow_add-portion : goal.overflow_add-portion
overflow_add-portion c =
    omega (arith, joined_within c.args.joined.now c.args.regions.now c.loop-i.i c.loop-i.portion c.loop-i.invariant.next (c.role_of.ensures ∙ ap Some c.in-Joined.is))
