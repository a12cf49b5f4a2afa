-- A text that is put on a line by runs of bytes that stand for themselves.
use Rattle.std.proofs.Common.{◌≡◌, ℕ, ◌+◌, ◌-◌, ◌<◌, ◌≤◌, List, [], ◌∷◌, ◌++◌, length, take, drop, get_or, sym, ap, ◌∙◌, arith}
use Rattle.std.specs.Prelude.{slice_range}
use Rattle.std.proofs.lemmas.List.{append_assoc, append-nil, take_more, get_or-drop, length-drop, flat_map_more}
use Rattle.xmp_write.specs.Lines.{shown_byte, shown}

module _ (text front out : List ℕ) (from at : ℕ) (within : from ≤ at) (inside : at < length text) (put : out ++ slice_range text from at ≡ front ++ shown (take at text)) where
  put_more : (out ++ slice_range text from at) ++ shown_byte (get_or text at 0) ≡ front ++ shown (take (at + 1) text)
  put_more =
      ap (λ bytes. bytes ++ shown_byte (get_or text at 0)) put
      ∙ flat_map_more shown_byte front (take at text) (get_or text at 0)
      ∙ ap (λ bytes. front ++ shown bytes) (sym (take_more text at 0 inside))

  longer : slice_range text from (at + 1) ≡ slice_range text from at ++ get_or text at 0 ∷ []
  longer =
      let more : (at + 1) - from ≡ (at - from) + 1 = omega (arith, within) in
      let there : from + (at - from) ≡ at = omega (arith, within) in
      ap (λ n. take n (drop from text)) more
      ∙ take_more (drop from text) (at - from) 0 (omega (arith, within, inside, length-drop from text))
      ∙ ap (λ byte. slice_range text from at ++ byte ∷ []) (get_or-drop from text (at - from) 0 ∙ ap (λ n. get_or text n 0) there)

  -- a byte that stands for itself is one more of the run
  pub run_more : get_or text at 0 ∷ [] ≡ shown_byte (get_or text at 0) → out ++ slice_range text from (at + 1) ≡ front ++ shown (take (at + 1) text)
  run_more same =
      ap (λ run. out ++ run) longer
      ∙ sym (append_assoc out (slice_range text from at) (get_or text at 0 ∷ []))
      ∙ ap (λ bytes. (out ++ slice_range text from at) ++ bytes) same
      ∙ put_more

  -- another byte ends the run, which is put there before what stands for the byte
  pub run_ended : (one new escape : List ℕ) → escape ≡ shown_byte (get_or text at 0) → one ≡ out ++ slice_range text from at → new ≡ one ++ escape
      → new ++ slice_range text (at + 1) (at + 1) ≡ front ++ shown (take (at + 1) text)
  run_ended one new escape stands first second =
      let none : (at + 1) - (at + 1) ≡ 0 = omega arith in
      ap (λ n. new ++ take n (drop (at + 1) text)) none
      ∙ append-nil new ∙ second
      ∙ ap (λ bytes. bytes ++ escape) first
      ∙ ap (λ bytes. (out ++ slice_range text from at) ++ bytes) stands
      ∙ put_more
