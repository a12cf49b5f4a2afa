use Rattle.std.proofs.Common.{◌≡◌, [], ◌∷◌, Some, ◌∙◌, sym, ap, subst, List, ℕ}
use Rattle.std.specs.Str.{chars}
use Rattle.xml_tokenizer.specs.Runs.{after}
use Rattle.xml_tokenizer.proofs.Tails.{value_plain}
use Rattle.xml_tokenizer.proofs.values.value_of.Goals as goal

pub returns-in-Some : goal.returns-in-Some
returns-in-Some c =
    let e = c.raw.ensures ∙ c.as_bytes.ensures.value ∙ c.value_text.ensures.front in
    let h : chars c.value_text.result.1.now ≡ _ = c.value_text.ensures.rest in
    let k = value_plain c.args.quote (chars c.args.text.now) (chars c.in-Some.next.now) (subst (λ (x : List ℕ). after (c.args.quote ∷ []) x ≡ Some (chars c.in-Some.next.now)) h c.in-Some.ensures) in
    k ∙ ap (λ (x : List ℕ). Some (x, chars c.in-Some.next.now)) (sym e)
