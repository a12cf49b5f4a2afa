-- The steps of a text are read from its front to its end.
use Rattle.std.proofs.Common.{◌≡◌, ◌∙◌, ◌+◌, ◌<◌, ℕ, suc, true, false, List, [], ◌∷◌, ◌++◌, Some, None, length, get_or, take, drop, drop-cons, ap, sym, cond, arith}
use Rattle.std.specs.List.{position_or_len, before_first}
use Rattle.xmp_paths.specs.declared.spelling.SpelledStep.{SpelledStep}
use Rattle.xmp_paths.specs.Grammar.{spelled_step, is_mark, pieces, consed, spelled_steps}
use Rattle.xmp_paths.proofs.Collected.{after, after_more}

module _ (text : List ℕ) (at : ℕ) (within : at < length text) where
  abbrev here : ℕ
  here = get_or text at 0

  abbrev pub piece : List ℕ
  piece = take (1 + position_or_len is_mark (drop (1 + at) text)) (drop at text)

  piece_is : piece ≡ here ∷ before_first is_mark (drop (at + 1) text)
  piece_is =
      let front : 1 + at ≡ suc at = omega arith in
      let back : at + 1 ≡ suc at = omega arith in
      let n = position_or_len is_mark (drop (suc at) text) in
      let one : 1 + n ≡ suc n = omega arith in
      ap (λ k. take (1 + position_or_len is_mark (drop k text)) (drop at text)) front ∙ ap (λ k. take k (drop at text)) one
      ∙ ap (take (suc n)) (drop-cons text at 0 within) ∙ ap (λ k. here ∷ before_first is_mark (drop k text)) (sym back)

  cut : pieces (drop at text) ≡ cond (is_mark here) (piece ∷ pieces (drop (at + 1) text)) (pieces (drop (at + 1) text))
  cut =
      let back : at + 1 ≡ suc at = omega arith in
      ap pieces (drop-cons text at 0 within)
      ∙ ap (λ k. cond (is_mark here) ((here ∷ before_first is_mark (drop k text)) ∷ pieces (drop k text)) (pieces (drop k text))) (sym back)
      ∙ ap (λ p. cond (is_mark here) (p ∷ pieces (drop (at + 1) text)) (pieces (drop (at + 1) text))) (sym piece_is)

  marked : is_mark here ≡ true → pieces (drop at text) ≡ piece ∷ pieces (drop (at + 1) text)
  marked mark = cut ∙ ap (λ b. cond b (piece ∷ pieces (drop (at + 1) text)) (pieces (drop (at + 1) text))) mark

  module _ (steps : List SpelledStep) where
    pub steps_none : is_mark here ≡ true → spelled_step piece ≡ None → after steps (spelled_steps (pieces (drop at text))) ≡ None
    steps_none mark none = ap (λ ps. after steps (spelled_steps ps)) (marked mark) ∙ ap (λ o. after steps (consed o (spelled_steps (pieces (drop (at + 1) text))))) none

    pub steps_more : (s : SpelledStep) → is_mark here ≡ true → spelled_step piece ≡ Some s →
        after steps (spelled_steps (pieces (drop at text))) ≡ after (steps ++ s ∷ []) (spelled_steps (pieces (drop (at + 1) text)))
    steps_more s mark is =
        ap (λ ps. after steps (spelled_steps ps)) (marked mark) ∙ ap (λ o. after steps (consed o (spelled_steps (pieces (drop (at + 1) text))))) is
        ∙ sym (after_more steps s (spelled_steps (pieces (drop (at + 1) text))))

    pub steps_same : is_mark here ≡ false → after steps (spelled_steps (pieces (drop at text))) ≡ after steps (spelled_steps (pieces (drop (at + 1) text)))
    steps_same other =
        ap (λ ps. after steps (spelled_steps ps)) (cut ∙ ap (λ b. cond b (piece ∷ pieces (drop (at + 1) text)) (pieces (drop (at + 1) text))) other)
