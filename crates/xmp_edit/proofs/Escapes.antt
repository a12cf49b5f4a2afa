-- A text with escapes is read from its front to its end.
use Rattle.std.proofs.Common.{◌≡◌, ◌∙◌, ◌+◌, ◌<◌, ℕ, suc, Bool, true, false, List, [], ◌∷◌, ◌++◌, Some, length, get_or, drop, drop-cons, ap, sym, cond, arith}
use Rattle.std.proofs.lemmas.Bool.{eq-eqb, ne_eqb}
use Rattle.xmp_paths.specs.Grammar.{consed}
use Rattle.xmp_paths.proofs.Collected.{after, after_more}
use Rattle.xmp_edit.specs.Lines.{escape_of, unescaped_from}

module _ (text : List ℕ) (i : ℕ) (within : i < length text) (bytes : List ℕ) where
  abbrev here : ℕ
  here = get_or text i 0

  abbrev rest : List ℕ
  rest = drop (i + 1) text

  cut : (e : Bool) → after bytes (unescaped_from e (drop i text)) ≡ after bytes (unescaped_from e (here ∷ rest))
  cut e =
      let next : suc i ≡ i + 1 = omega arith in
      ap (λ xs. after bytes (unescaped_from e xs)) (drop-cons text i 0 within ∙ ap (λ k. here ∷ drop k text) next)

  pub escape_more : (told : ℕ) → escape_of here ≡ Some told → after bytes (unescaped_from true (drop i text)) ≡ after (bytes ++ told ∷ []) (unescaped_from false rest)
  escape_more told is = cut true ∙ ap (λ o. after bytes (consed o (unescaped_from false rest))) is ∙ sym (after_more bytes told (unescaped_from false rest))

  pub escape_begins : here ≡ 92 → after bytes (unescaped_from false (drop i text)) ≡ after bytes (unescaped_from true rest)
  escape_begins is = cut false ∙ ap (λ b. after bytes (cond b (unescaped_from true rest) (consed (Some here) (unescaped_from false rest)))) (eq-eqb here 92 is)

  pub plain_more : (here ≡ 92 → ⊥) → after bytes (unescaped_from false (drop i text)) ≡ after (bytes ++ here ∷ []) (unescaped_from false rest)
  plain_more other =
      cut false ∙ ap (λ b. after bytes (cond b (unescaped_from true rest) (consed (Some here) (unescaped_from false rest)))) (ne_eqb here 92 other)
      ∙ sym (after_more bytes here (unescaped_from false rest))
