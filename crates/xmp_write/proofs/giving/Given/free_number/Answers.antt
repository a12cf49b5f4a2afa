use Rattle.std.proofs.Common.{◌≡◌, ◌+◌, true, length, sym, ap, subst, ◌∙◌, arith}
use Rattle.xmp_write.specs.Prefixes.{is_free, numbered, free_number}
use Rattle.xmp_write.proofs.FreeNumbers.{free_number-free}
use Rattle.xmp_write.proofs.Numbers.{least_is, least_past}
use Rattle.xmp_write.proofs.giving.Given.free_number.Goals as goal

pub returns-then-is_free-clause-least : goal.returns-then-is_free-clause-least
returns-then-is_free-clause-least c =
    let hints = c.args.hints.now in
    let given = c.args.self.now.list in
    let counted = ap length c.as_slice.ensures in
    least_is hints given c.loop-number.number c.loop-number.invariant.some (omega arith) c.loop-number.invariant.tried
    (ap (is_free hints given) (sym c.in_ok-prefix.ensures ∙ sym c.as_slice-in-loop-number.ensures.value) ∙ sym c.is_free.ensures ∙ c.if-is_free.true)

pub returns-clause-least : goal.returns-clause-least
returns-clause-least c =
    let hints = c.args.hints.now in
    let given = c.args.self.now.list in
    let counted : c.len.result + length c.as_slice.result.now ≡ length hints + length given = ap (λ n. n + length c.as_slice.result.now) c.len.ensures.count ∙ ap (λ hs. length hints + length hs) c.as_slice.ensures in
    subst (λ n. n + 1 ≡ free_number hints given) (sym counted)
    (least_past hints given c.loop-number.number (omega (arith, counted)) c.loop-number.invariant.tried)

pub returns-clause-free : goal.returns-clause-free
returns-clause-free c =
    let hints = c.args.hints.now in
    let given = c.args.self.now.list in
    let counted : c.len.result + length c.as_slice.result.now ≡ length hints + length given = ap (λ n. n + length c.as_slice.result.now) c.len.ensures.count ∙ ap (λ hs. length hints + length hs) c.as_slice.ensures in
    let least : c.len.result + length c.as_slice.result.now + 1 ≡ free_number hints given =
    subst (λ n. n + 1 ≡ free_number hints given) (sym counted)
    (least_past hints given c.loop-number.number (omega (arith, counted)) c.loop-number.invariant.tried) in
    subst (λ n. is_free hints given (numbered n) ≡ true) (sym least) (free_number-free hints given (omega (arith, counted)))
