use Rattle.std.proofs.Common.{ℕ, List, Bor, [], fold, take, get_or, sym, ap, ◌∙◌}
use Rattle.std.proofs.lemmas.List.Sums.{fold_push}
use Rattle.xmp_values.specs.Texts.{texts_of}
use Rattle.xmp_write.specs.Prefixes.{with_prefix}
use Rattle.xmp_write.proofs.GivingSteps.{texts_of-take}
use Rattle.xmp_write.proofs.giving.Given.push_spaces.Goals as goal

pub loop-space-preserved : goal.loop-space-preserved
loop-space-preserved c =
    let hints = c.args.hints.now in
    let old = c.args.self.now.list in
    let spaces = c.args.spaces.now in
    let at = c.loop-space.space-index in
    let none : Bor (List ℕ) = record { ref_ptr = (0, 0); now = [] } in
    let space = (get_or spaces at none).now in record {
      kept = c.in_ok-push_space.ensures.kept;
      list = c.in_ok-push_space.ensures.given ∙ ap (λ given. with_prefix hints given space) c.loop-space.invariant.list
          ∙ sym (ap (fold (with_prefix hints) old) (texts_of-take spaces at none c.loop-space-test.true) ∙ fold_push (with_prefix hints) old (texts_of (take at spaces)) space);
    }
