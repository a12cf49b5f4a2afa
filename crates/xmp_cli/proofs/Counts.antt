-- Words by their count.
use Rattle.std.proofs.Common.{◌≡◌, ℕ, List, [], ◌∷◌, length, slice_get, Some, arith}
use Rattle.xmp_cli.specs.Commands.{command, with_three, with_four}

pub four_words : (ws : List (List ℕ)) (v a b c : List ℕ) → length ws ≡ 4 → slice_get ws 0 ≡ Some v → slice_get ws 1 ≡ Some a → slice_get ws 2 ≡ Some b → slice_get ws 3 ≡ Some c
    → with_three v a b c ≡ command ws
four_words [] v a b c n p q r s = cc
four_words (v' ∷ []) v a b c n p q r s = cc
four_words (v' ∷ a' ∷ []) v a b c n p q r s = cc
four_words (v' ∷ a' ∷ b' ∷ []) v a b c n p q r s = cc
four_words (v' ∷ a' ∷ b' ∷ c' ∷ []) v a b c n p q r s = cc
four_words (v' ∷ a' ∷ b' ∷ c' ∷ d' ∷ ws) v a b c n p q r s = absurd (omega (arith, n))

pub five_words : (ws : List (List ℕ)) (v a b c d : List ℕ) → length ws ≡ 5 → slice_get ws 0 ≡ Some v → slice_get ws 1 ≡ Some a → slice_get ws 2 ≡ Some b → slice_get ws 3 ≡ Some c → slice_get ws 4 ≡ Some d
    → with_four v a b c d ≡ command ws
five_words [] v a b c d n p q r s t = cc
five_words (v' ∷ []) v a b c d n p q r s t = cc
five_words (v' ∷ a' ∷ []) v a b c d n p q r s t = cc
five_words (v' ∷ a' ∷ b' ∷ []) v a b c d n p q r s t = cc
five_words (v' ∷ a' ∷ b' ∷ c' ∷ []) v a b c d n p q r s t = cc
five_words (v' ∷ a' ∷ b' ∷ c' ∷ d' ∷ []) v a b c d n p q r s t = cc
five_words (v' ∷ a' ∷ b' ∷ c' ∷ d' ∷ e' ∷ ws) v a b c d n p q r s t = absurd (omega (arith, n))
