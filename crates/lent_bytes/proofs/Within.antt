-- Elements of a slice are lent on as an array, and the lender follows the new name.
use mathlib.Core.Path.{◌≡◌, refl, sym, ap, ◌∙◌}
use Prim.Native.Nat.{ℕ, zero, suc, ◌+◌, ◌-◌, ◌*◌, ◌^◌, ◌<◌}
use native.Mathlib.Nat.{suc-mul, zero-mul}
use native.Mathlib.Omega.{arith}
use mathlib.Core.List.{List, [], ◌∷◌, ◌++◌}
use lib.ListN.{length, length-append}
use seplogic.Ra.Ura.{Ura}
use mir.Syntax.{Lifetime}
use mir.Val.{Val, vptr}
use base.Logic.{SProp, ent, sep, ex, guard}
use base.Fraction.{full_share}
use base.Stored.{coded_list}
use base.Fml.{Lft, GName, Share, fsep, feq, flft, fobs, fbor}
use prog.Memory.{capped}
use prog.Capped.{capped_is}
use types.Logic.{Logic, sem}
use types.Kit.{Item, ‵, ◌⊛◌, ◌$◌, ◌∵◌, !, qed, by, move, drop, fsplit, fsplit3, fjoin, updating, await, later, some, use1, group, pick, now, show, done, split3, fjoin3, rewrite, feq_l, feq_i, split, join, use2, given, learn, check}
use types.SemTy.{cells, Arr, Body}
use types.Follow.{takes_part}
use types.Mut.{open_ref}
use denote.RattleType.{RattleType}
use denote.Memory.{mem, part_at}
use denote.ArrayMemory.{Single, Array-apart, Array-whole}
use denote.Index.{row, whole_in, whole_out}
use denote.Ref.{MutRef}
use denote.Array.{Array}
use denote.Slice.{MutSlice}
use denote.Follow.{follows}
use denote.FollowSlice.{heres_id}
use borrow.Table.Elements.{at, cut_app, join_app}

-- where the product fits a word, the count is zero or the size fits too
pub uncapped : (i k : ℕ) → i * k < 2 ^ 64 → i * capped k ≡ i * k
uncapped zero k h = zero-mul (capped k) ∙ sym (zero-mul k)
uncapped (suc i) k h = let step = suc-mul i k in ap (λ (j : ℕ). suc i * j) (capped_is k (omega arith))

-- an array in memory is its elements
module _ {M : Type 1} {𝓤 : Ura M} (𝓛 : Logic 𝓤) (R : RattleType) (single : Single R.mir) (n b : ℕ) where
  abbrev s : ℕ
  s = (mem R).size

  pub array_out : (ws : List R.Denot) (o : ℕ) → ent 𝓤 (sem 𝓛 ((mem (Array R n)).own_at ws b o)) (guard 𝓤 (length ws ≡ n) (sem 𝓛 (cells (mem R) ws b o)))
  array_out ws o = qed 𝓛 (‵ (part_at (Array R n) full_share ws b o) ∷ []) ∵
      use1 𝓛 (‵ (fsep (feq ℕ (length ws) n) (row R full_share ws b o))) (Array-apart 𝓛 R full_share single n ws b o) $ fsplit ! $ feq_l ! (λ e.
      use1 𝓛 (‵ (cells (mem R) ws b o)) (whole_in 𝓛 R ws b o) $ check ! e $ done !)

  pub array_in : (ws : List R.Denot) (o : ℕ) → length ws ≡ n → ent 𝓤 (sem 𝓛 (cells (mem R) ws b o)) (sem 𝓛 ((mem (Array R n)).own_at ws b o))
  array_in ws o e = qed 𝓛 (‵ (cells (mem R) ws b o) ∷ []) ∵ use1 𝓛 (‵ (row R full_share ws b o)) (whole_out 𝓛 R ws b o) $
      feq_i ! ℕ (length ws) n e $ fjoin ! $ by ! (Array-whole 𝓛 R full_share n ws b o)

module _ {M : Type 1} {𝓤 : Ura M} (𝓛 : Logic 𝓤) (ℓ : Lifetime) (κ : Lft) (q : Share) (b o : ℕ) (γ : GName) where
  open 𝓛 use {H, A}

  module _ (R : RattleType) (single : Single R.mir) (n : ℕ) (xs front mid back : List R.Denot) (cut : xs ≡ front ++ (mid ++ back)) (long : length mid ≡ n) (p : ℕ) (on : at o (mem R).size (length front) ≡ p) where
    abbrev around : List R.Denot → List R.Denot
    around ws = front ++ (ws ++ back)

    abbrev pub within_lent : GName → Item 𝓤
    within_lent δ = ‵ ((MutRef ℓ κ (Array R n)).own_val (record { ref_ptr = (b, p); ghost_name = δ; now = mid }) (vptr b p ∷ [])) ⊛ ‵ (flft κ q) ⊛ ‵ (follows (Array R 0) (Array R 0) γ δ around)

    abbrev pub WithinLent : GName → SProp 𝓤
    WithinLent δ = sep 𝓤 (sem 𝓛 ((MutRef ℓ κ (Array R n)).own_val (record { ref_ptr = (b, p); ghost_name = δ; now = mid }) (vptr b p ∷ []))) (sep 𝓤 (A.lft κ q) (sem 𝓛 (follows (Array R 0) (Array R 0) γ δ around)))

    abbrev Others : SProp 𝓤
    Others = sep 𝓤 (sem 𝓛 (cells (mem R) front b o)) (sem 𝓛 (cells (mem R) back b (at p (mem R).size n)))

    put_within : (ws : List R.Denot) → ent 𝓤 (sep 𝓤 (sem 𝓛 ((mem (Array R n)).own_at ws b p)) Others) (sem 𝓛 ((Arr (mem R) (length xs)).own_at (around ws) b o))
    put_within ws = qed 𝓛 (‵ ((mem (Array R n)).own_at ws b p) ∷ ‵ (cells (mem R) front b o) ∷ ‵ (cells (mem R) back b (at p (mem R).size n)) ∷ []) ∵
        use1 𝓛 (given (length ws ≡ n) (‵ (cells (mem R) ws b p))) (array_out 𝓛 R single n b ws p) $ learn ! (λ e.
        let whole : length xs ≡ length front + length (mid ++ back) = ap length cut ∙ length-append front (mid ++ back) in
        let inner : length (mid ++ back) ≡ length mid + length back = length-append mid back in
        let now_whole : length (around ws) ≡ length front + length (ws ++ back) = length-append front (ws ++ back) in
        let now_inner : length (ws ++ back) ≡ length ws + length back = length-append ws back in
        rewrite ! 2 (λ (k : ℕ). ‵ (cells (mem R) back b (at p (mem R).size k))) (sym e) refl $ move ! (0 ∷ 2 ∷ []) $
        use2 𝓛 (‵ (cells (mem R) (ws ++ back) b p)) (join_app 𝓛 (mem R) ws back b p) $
        rewrite ! 0 (λ (k : ℕ). ‵ (cells (mem R) (ws ++ back) b k)) (sym on) refl $ move ! (1 ∷ 0 ∷ []) $
        use2 𝓛 (‵ (cells (mem R) (around ws) b o)) (join_app 𝓛 (mem R) front (ws ++ back) b o) $
        feq_i ! ℕ (length (around ws)) (length xs) (omega arith) $ fjoin ! $ done !)

    pub lends_within : (vs : List Val)
        → ent 𝓤 (sep 𝓤 (sem 𝓛 ((MutSlice ℓ κ R).own_val (record { ref_ptr = (b, o); ghost_name = γ; now = xs }) vs)) (A.lft κ q)) (H.⇛ (ex 𝓤 WithinLent))
    lends_within vs = qed 𝓛 (‵ ((MutSlice ℓ κ R).own_val (record { ref_ptr = (b, o); ghost_name = γ; now = xs }) vs) ∷ ‵ (flft κ q) ∷ []) ∵ updating ! $ fsplit3 ! $ drop ! $
        rewrite ! 0 (λ (l : List R.Denot). ‵ (fobs γ ((coded_list R.coded).code l))) (heres_id R xs) refl $ open_ref ! tt (Arr (mem R) (length xs)) {b = b} {o = o} $ fsplit ! $ drop ! $
        rewrite ! 0 (λ (l : List R.Denot). ‵ (cells (mem R) l b o)) cut refl $
        use1 𝓛 (‵ (cells (mem R) front b o) ⊛ ‵ (cells (mem R) (mid ++ back) b (at o (mem R).size (length front)))) (cut_app 𝓛 (mem R) front (mid ++ back) b o) $ split ! $ move ! (1 ∷ []) $
        rewrite ! 0 (λ (k : ℕ). ‵ (cells (mem R) (mid ++ back) b k)) on refl $
        use1 𝓛 (‵ (cells (mem R) mid b p) ⊛ ‵ (cells (mem R) back b (at p (mem R).size (length mid)))) (cut_app 𝓛 (mem R) mid back b p) $ split ! $
        rewrite ! 1 (λ (k : ℕ). ‵ (cells (mem R) back b (at p (mem R).size k))) long refl $
        use1 𝓛 (‵ ((mem (Array R n)).own_at mid b p)) (array_in 𝓛 R single n b mid p long) $ move ! (2 ∷ 1 ∷ []) $ join ! $ move ! (2 ∷ 3 ∷ 4 ∷ 1 ∷ 0 ∷ []) $ group ! 5 $
        use1 𝓛 (later (some (λ (δ : GName). ‵ (fobs δ ((coded_list R.coded).code mid)) ⊛ ‵ (fbor κ (Body (mem (Array R n)) b p δ)) ⊛ ‵ (flft κ q) ⊛ ‵ (follows (Array R 0) (Array R 0) γ δ around))))
        (takes_part 𝓛 (Arr (mem R) (length xs)) (mem (Array R n)) around κ q b o b p γ Others put_within ((coded_list R.coded).code xs) ((coded_list R.coded).code xs) mid) $ await ! tt $ pick ! (λ δ. split3 ! $
        feq_i ! (List Val) (vptr b p ∷ []) (vptr b p ∷ []) refl $ fjoin3 ! $ now ! $ show ! WithinLent δ $ done !)
