use Rattle.std.proofs.Common.{ℕ, ◌≡◌, ◌+◌, ◌∙◌, ap, sym, subst, Some, arith, not, Bool, true, false, length, ◌≤◌}
use Rattle.std.proofs.lemmas.List.Sums.{prefix_len-drop_all}
use Rattle.jpeg_relocation.specs.Relocation.{has_main}
use Rattle.jpeg_relocation.specs.Roles.{IsNext, goes_before, stops}
use Rattle.jpeg_relocation.proofs.Steps.{joined_next, joined_within, other_next}
use Rattle.jpeg_relocation.proofs.Places.{first_told, passes, halts}
use Rattle.jpeg_relocation.proofs.kept.place_of.Goals as goal
use Rattle.jpeg_relocation.proofs.kept.place_of.Goals.{in-Joined, in_default}

pub loop-i-init : goal.loop-i-init
loop-i-init c = record {
  next = record { chosen = c.requires.chosen; whole = c.requires.is; rest = c.requires.is };
  first = first_told c.args.regions.now c.main.result c.is_none-first.result c.main.ensures c.is_none-first.ensures;
  passed = omega arith;
}

pub loop-i-preserved : goal.loop-i-preserved
loop-i-preserved c =
    let joined = c.args.joined.now in
    let regions = c.args.regions.now in
    let i = c.loop-i.i in
    let first = not (has_main regions) in
    let goes : stops first c.role_of-role.result c.kind.result ≡ false = ap (λ (b : Bool). stops b c.role_of-role.result c.kind.result) (sym c.loop-i.invariant.first) ∙ sym c.stops.ensures ∙ c.if-stops.false in
    let passed = sym (passes joined first regions i c.role_of-role.result c.kind.result c.role_of-role.ensures c.kind.ensures goes) ∙ c.loop-i.invariant.passed in
    elim c.match-role.branch [
      | in-Joined w ↦ record {
        next = subst (λ (n : ℕ). IsNext joined regions (i + 1) n) (sym w.portion-is)
            (joined_next joined regions i c.loop-i.portion c.loop-i.invariant.next (c.role_of-role.ensures ∙ ap Some w.in-Joined.is));
        first = c.loop-i.invariant.first;
        passed = passed;
      }
      | in_default w ↦ record {
        next = subst (λ (n : ℕ). IsNext joined regions (i + 1) n) (sym w.portion-is)
            (other_next joined regions i c.loop-i.portion c.role_of-role.result c.loop-i.invariant.next c.role_of-role.ensures w.in_default.not-Joined);
        first = c.loop-i.invariant.first;
        passed = passed;
      }
    ]

pub overflow_add-portion : goal.overflow_add-portion
overflow_add-portion c =
    omega (arith, joined_within c.args.joined.now c.args.regions.now c.loop-i.i c.loop-i.portion c.loop-i.invariant.next (c.role_of-role.ensures ∙ ap Some c.in-Joined.is))

pub returns-then-stops-clause-is : goal.returns-then-stops-clause-is
returns-then-stops-clause-is c =
    let first = not (has_main c.args.regions.now) in
    let stop : stops first c.role_of-role.result c.kind.result ≡ true = ap (λ (b : Bool). stops b c.role_of-role.result c.kind.result) (sym c.loop-i.invariant.first) ∙ sym c.stops.ensures ∙ c.if-stops.true in
    sym (halts c.args.joined.now first c.args.regions.now c.loop-i.i c.role_of-role.result c.kind.result c.role_of-role.ensures c.kind.ensures stop) ∙ c.loop-i.invariant.passed

pub returns-clause-is : goal.returns-clause-is
returns-clause-is c =
    let first = not (has_main c.args.regions.now) in
    let over : length c.args.regions.now ≤ c.loop-i.i = omega arith in
    let none = prefix_len-drop_all (goes_before c.args.joined.now first) c.args.regions.now c.loop-i.i over in
    omega (arith, none, c.loop-i.invariant.passed)
