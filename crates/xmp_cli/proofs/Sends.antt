-- How the writes of a text make up its sending.
use Rattle.std.proofs.Common.{ℕ, ◌+◌, List, ◌++◌, take, drop, sym, ap, ◌∙◌, arith, Ok, Some, append_assoc}
use Rattle.std.specs.Option.{option_map}
use Rattle.std.proofs.Math.Seq.{take-add}
use Rattle.xmp_base.specs.Device.{SinkState, SendCall}
use Rattle.xmp_cli.specs.Sending.{Sent}

pub sent_more : (o p q : SinkState) (text : List ℕ) (done n : ℕ) → Sent o p text done → SendCall p q (drop done text) (Ok n) → Sent o q text (done + n)
sent_more o p q text done n a b = record {
  count = omega (arith, a.count, b.count);
  plan = b.plan ∙ a.plan;
  sent = λ sent told. b.sent ∙ ap (option_map (λ (l : List ℕ). l ++ take n (drop done text))) (a.sent sent told)
      ∙ ap (λ (l : List ℕ). Some l) (append_assoc sent (take done text) (take n (drop done text)) ∙ ap (λ (l : List ℕ). sent ++ l) (sym (take-add done n text)));
}
