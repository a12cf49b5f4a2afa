use Rattle.std.proofs.Common.{ℕ, List, IsPermutation, subst}
use Rattle.std.specs.List.Sorted.{IsStrictlyIncreasing}
use Rattle.irb_iptc.specs.Hashes.{hash_of}
use Rattle.irb_iptc.proofs.Hashed.{no_repeat, on_true}
use Rattle.irb_iptc.proofs.repeats.has_no_repeat.Goals as goal

pub returns : goal.returns
returns c =
    let sorted : List ℕ = c.sort_unstable.new.self.items in
    let moved = subst (λ (ns : List ℕ). IsPermutation ns sorted) c.in_ok-hashes.ensures c.sort_unstable.ensures.permutation in
    on_true c.is_rising.result (λ rising. no_repeat hash_of c.args.texts.now sorted moved (subst IsStrictlyIncreasing c.as_slice.ensures.value rising)) c.is_rising.ensures
