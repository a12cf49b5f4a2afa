use Rattle.std.proofs.Common.{◌+◌, ◌<◌, ℕ, List, ◌++◌, length, drop, sym, ap, ◌∙◌, arith, append_assoc}
use Rattle.std.specs.Option.{option_to_list}
use Rattle.irb_iptc.specs.Fields.{texts_of}
use Rattle.irb_iptc.proofs.Values.{texts_step}
use Rattle.irb_iptc.proofs.fields.texts_of.Goals as goal

pub loop-i-preserved : goal.loop-i-preserved
loop-i-preserved c =
    let fs = c.args.datasets.now in
    let n = c.args.number in
    let i = c.loop-i.i in
    let below : i < length fs = omega arith in
    let rest = texts_of n (drop (i + 1) fs) in
    ap (λ (ts : List (List ℕ)). ts ++ rest) c.in_ok-push_some.ensures
    ∙ append_assoc c.loop-i.texts (option_to_list c.in_ok-text.text) rest
    ∙ ap (λ (ts : List (List ℕ)). c.loop-i.texts ++ ts) (sym (texts_step n fs i c.in_ok-text.text below c.in_ok-text.ensures))
    ∙ c.loop-i.invariant
