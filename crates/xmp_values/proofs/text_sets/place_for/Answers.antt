use Rattle.std.proofs.Common.{arith, Bor, List, ℕ}
use Rattle.std.proofs.lemmas.Map.Text.{is_eq-slice_cmp}
use Rattle.xmp_values.proofs.text_sets.place_for.Goals as goal

pub returns-clause-ok : goal.returns-clause-ok
returns-clause-ok c text =
    let key : Bor (List ℕ) = record { ref_ptr = (0, 0); now = text } in
    let written = (c.in_ok-places.ensures.update.0 c.or_insert.result.now).0 key in
    grind (arith, written, is_eq-slice_cmp)
