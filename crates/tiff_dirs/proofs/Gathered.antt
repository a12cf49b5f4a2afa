-- Pieces that are put together.
use Rattle.std.proofs.Common.{◌≡◌, ℕ, zero, suc, ◌+◌, ◌<◌, ◌≤◌, ◌⊎◌, inl, inr, List, [], ◌∷◌, ◌++◌, length, get_or, sym, subst, arith, Contains}
use Rattle.std.specs.Prelude.{IsPermutation}
use Rattle.std.specs.List.{All, remove}
use Rattle.std.proofs.lemmas.List.Elements.{All-head, All-tail, Contains-append_left, Contains-append_cases, Contains-push}
use Rattle.std.proofs.lemmas.List.Sorted.{All-permutation, Contains-permutation, IsPermutation-remove}
use Rattle.tiff_dirs.specs.declared.pieces.Piece.{Piece}
use Rattle.tiff_dirs.specs.Kept.{Covers, InPiece}

-- a piece that begins no later and ends no earlier
pub covers_more : (a b : Piece) (from to : ℕ) → b.start ≤ a.start → a.start + length a.bytes.items ≤ b.start + length b.bytes.items → Covers a from to → Covers b from to
covers_more a b from to begins ends c = let low = c.0 in let high = c.1 in (omega (arith, begins, low), omega (arith, ends, high))

only : (p q : Piece) → Contains (p ∷ []) q → p ≡ q
only p q (zero, low, is) = is
only p q (suc k, low, is) = absurd (omega arith)

-- what lies in a piece still does where one was taken out, or it lies in that one
pub in_taken : (old new : List Piece) (p : Piece) (from to : ℕ) → IsPermutation old (p ∷ new) → InPiece old from to → InPiece new from to ⊎ Covers p from to
in_taken old new p from to perm i =
    elim (Contains-append_cases (p ∷ []) new i.0 (Contains-permutation old (p ∷ new) i.0 perm i.1)) [
      | inl h ↦ inr (subst (λ (q : Piece). Covers q from to) (sym (only p i.0 h)) i.2)
      | inr h ↦ inl (i.0, h, i.2)
    ]

pub all_taken : (P : Piece → Type 0) (old new : List Piece) (p : Piece) → IsPermutation old (p ∷ new) → All P old → P p × All P new
all_taken P old new p perm all = let k = All-permutation P old (p ∷ new) perm all in (All-head P p new k, All-tail P p new k)

-- one piece more was appended to another
pub in_absorbed : (old rest : List Piece) (run new p : Piece) (from to : ℕ) → IsPermutation old (p ∷ rest) → new.start ≡ run.start → run.start ≤ p.start
    → length run.bytes.items ≤ length new.bytes.items → p.start + length p.bytes.items ≤ new.start + length new.bytes.items
    → InPiece old from to ⊎ Covers run from to → InPiece rest from to ⊎ Covers new from to
in_absorbed old rest run new p from to perm start begins longer all (inr h) = inr (covers_more run new from to (omega arith) (omega arith) h)
in_absorbed old rest run new p from to perm start begins longer all (inl h) =
    elim (in_taken old rest p from to perm h) [
      | inl i ↦ inl i
      | inr i ↦ inr (covers_more p new from to (omega arith) all i)
    ]

pub in_more : (old new : List Piece) (run : Piece) (from to : ℕ) → new ≡ old ++ run ∷ [] → InPiece old from to ⊎ Covers run from to → InPiece new from to
in_more old new run from to e (inl h) = subst (λ (ps : List Piece). InPiece ps from to) (sym e) (h.0, Contains-append_left old (run ∷ []) h.0 h.1, h.2)
in_more old new run from to e (inr h) = subst (λ (ps : List Piece). InPiece ps from to) (sym e) (run, Contains-push old run, h)

pub removed : (old : List Piece) (k : ℕ) (p : Piece) (new : List Piece) → k < length old → p ≡ get_or old k p → new ≡ remove old k → IsPermutation old (p ∷ new)
removed old k p new h e is = subst (λ (t : List Piece). IsPermutation old (p ∷ t)) (sym is) (IsPermutation-remove old k p h e)
