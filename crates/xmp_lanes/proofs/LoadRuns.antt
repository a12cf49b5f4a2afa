-- From the lanes of a load to a run of bytes, and from loads to the whole.
use Rattle.std.proofs.Common.{◌≡◌, ℕ, suc, ◌+◌, ◌%◌, ◌^◌, ◌<◌, ◌≤◌, eqb, Bool, true, false, not, cond, List, [], ◌∷◌, ◌++◌, map, length, drop, get_or, min, length-drop, Fits, w8, refl, sym, ap, subst, ◌∙◌, arith}
use Rattle.std.specs.Prelude.{◌==◌}
use Rattle.std.specs.List.{prefix_len, common_prefix_len}
use Rattle.std.proofs.lemmas.Bool.{agree_below, agree_below_at, eq-eqb, ne_eqb}
use Rattle.std.proofs.lemmas.List.{length-map}
use Rattle.std.proofs.lemmas.List.Folds.{prefix_len-append}
use Rattle.std.proofs.lemmas.List.Sums.{prefix_len-le-length, common_prefix_len-le}
use Rattle.std.proofs.lemmas.Simd.{map-map, mask_l-mod, length-chunk, chunk-drop, get_or-chunk, first_set_mask_l, length-zip2, tops_compared}
use lib.Lanes.{chunk, mask_l, top, zip2}
use Rattle.xmp_lanes.specs.Loads.{first_set}
use Rattle.xmp_lanes.specs.Runs.{same_run}

-- tests that agree on each item have one run
same_prefix : (p q : ℕ → Bool) (xs : List ℕ) → ((k : ℕ) → k < length xs → p (get_or xs k 0) ≡ q (get_or xs k 0)) → prefix_len p xs ≡ prefix_len q xs
same_prefix p q [] same = refl
same_prefix p q (x ∷ xs) same =
    ap (λ b. cond b (1 + prefix_len p xs) 0) (same 0 (omega arith))
    ∙ ap (λ n. cond (q x) (1 + n) 0) (same_prefix p q xs (λ k within. same (suc k) (omega arith)))

module _ (q : ℕ → Bool) (bytes : List ℕ) (at run : ℕ) (z : List ℕ) (room : at + 32 ≤ length bytes) (fits : (k : ℕ) → Fits w8 (get_or bytes k 0))
    (found : run ≡ first_set (mask_l (map (top 7) z) % 2 ^ 64)) (f : ℕ → ℕ) (lanes : z ≡ map f (chunk at 32 bytes)) where
  abbrev stops : ℕ → Bool
  stops x = top 7 (f x)

  -- a lane stops just where the test fails
  pub load_run : agree_below (λ x. not (stops x)) q 256 ≡ true → run ≡ prefix_len q (chunk at 32 bytes)
  load_run all =
      let v = chunk at 32 bytes in
      let long = length-chunk at 32 bytes room in
      let mask = ap (λ l. mask_l l % 2 ^ 64) (ap (map (top 7)) lanes ∙ map-map (top 7) f v) ∙ mask_l-mod (map stops v) 64 (omega (arith, length-map v stops, long)) in
      found ∙ ap first_set mask ∙ first_set_mask_l stops v 32 long (omega arith)
      ∙ same_prefix (λ x. not (stops x)) q v
      (λ k within.
      let here : get_or v k 0 ≡ get_or bytes (at + k) 0 = get_or-chunk at 32 bytes k 0 (omega (arith, within, long)) in
      agree_below_at (λ x. not (stops x)) q 256 (get_or v k 0) all (subst (λ b. b < 256) (sym here) (fits (at + k)).fits))

-- one load more
module _ (q : ℕ → Bool) (bytes : List ℕ) (at run : ℕ) (room : at + 32 ≤ length bytes) (is : run ≡ prefix_len q (chunk at 32 bytes)) where
  parts : prefix_len q (drop at bytes) ≡ cond (eqb run 32) (32 + prefix_len q (drop (at + 32) bytes)) run
  parts =
      let v = chunk at 32 bytes in
      ap (prefix_len q) (chunk-drop at 32 bytes) ∙ prefix_len-append q v (drop (at + 32) bytes)
      ∙ ap (λ n. cond (eqb n (length v)) (length v + prefix_len q (drop (at + 32) bytes)) n) (sym is)
      ∙ ap (λ n. cond (eqb run n) (n + prefix_len q (drop (at + 32) bytes)) run) (length-chunk at 32 bytes room)

  pub run_bound : run ≤ 32
  run_bound = omega (arith, is, prefix_len-le-length q (chunk at 32 bytes), length-chunk at 32 bytes room)

  pub goes_on : run ≡ 32 → prefix_len q (drop at bytes) ≡ 32 + prefix_len q (drop (at + 32) bytes)
  goes_on all = parts ∙ ap (λ b. cond b (32 + prefix_len q (drop (at + 32) bytes)) run) (eq-eqb run 32 all)

  pub stops_here : run < 32 → prefix_len q (drop at bytes) ≡ run
  stops_here few = parts ∙ ap (λ b. cond b (32 + prefix_len q (drop (at + 32) bytes)) run) (ne_eqb run 32 (λ same. omega arith))

-- ---- two texts

abbrev equals : ℕ → ℕ → Bool
equals x y = x == y

-- where two loads differ first
differ_first : (t : ℕ → ℕ → Bool) (xs ys : List ℕ) → ((x y : ℕ) → not (t x y) ≡ equals x y) → length xs ≡ length ys → prefix_len (λ b. not b) (zip2 t xs ys) ≡ common_prefix_len equals xs ys
differ_first t [] ys tells long = refl
differ_first t (x ∷ xs) [] tells long = absurd (omega arith)
differ_first t (x ∷ xs) (y ∷ ys) tells long =
    ap (λ b. cond b (1 + prefix_len (λ b. not b) (zip2 t xs ys)) 0) (tells x y) ∙ ap (λ n. cond (equals x y) (1 + n) 0) (differ_first t xs ys tells (omega arith))

itself : (bs : List Bool) → map (λ b. b) bs ≡ bs
itself [] = refl
itself (b ∷ bs) = ap (λ rest. b ∷ rest) (itself bs)

module _ (a b : List ℕ) (at run : ℕ) (a_room : at + 32 ≤ length a) (b_room : at + 32 ≤ length b) where
  abbrev va : List ℕ
  va = chunk at 32 a

  abbrev vb : List ℕ
  vb = chunk at 32 b

  pub pair_run : (t : ℕ → ℕ → Bool) → ((x y : ℕ) → not (t x y) ≡ equals x y) → run ≡ first_set (mask_l (map (top 7) (zip2 (λ x y. cond (t x y) 255 0) va vb)) % 2 ^ 64) → run ≡ same_run va vb
  pair_run t tells found =
      let a_long = length-chunk at 32 a a_room in
      let b_long = length-chunk at 32 b b_room in
      let many = length-zip2 t va vb (a_long ∙ sym b_long) in
      let mask = ap (λ l. mask_l l % 2 ^ 64) (tops_compared w8 t va vb) ∙ mask_l-mod (zip2 t va vb) 64 (omega (arith, many, a_long)) in
      found ∙ ap first_set mask ∙ ap (λ bs. first_set (mask_l bs)) (sym (itself (zip2 t va vb))) ∙ first_set_mask_l (λ b. b) (zip2 t va vb) 32 (many ∙ a_long) (omega arith)
      ∙ differ_first t va vb tells (a_long ∙ sym b_long)

-- one load more of both
common_all : (xs ys more less : List ℕ) → common_prefix_len equals xs ys ≡ length xs → length xs ≡ length ys → common_prefix_len equals (xs ++ more) (ys ++ less) ≡ length xs + common_prefix_len equals more less
common_all [] [] more less all long = omega arith
common_all [] (y ∷ ys) more less all long = absurd (omega arith)
common_all (x ∷ xs) [] more less all long = absurd (omega arith)
common_all (x ∷ xs) (y ∷ ys) more less all long = by (equals x y) all (common_all xs ys more less)
  where
    by : (b : Bool) → cond b (1 + common_prefix_len equals xs ys) 0 ≡ length (x ∷ xs)
        → (common_prefix_len equals xs ys ≡ length xs → length xs ≡ length ys → common_prefix_len equals (xs ++ more) (ys ++ less) ≡ length xs + common_prefix_len equals more less)
        → cond b (1 + common_prefix_len equals (xs ++ more) (ys ++ less)) 0 ≡ length (x ∷ xs) + common_prefix_len equals more less
    by true all rest = let told = rest (omega arith) (omega arith) in omega (arith, told)
    by false all rest = absurd (omega arith)

common_stop : (xs ys more less : List ℕ) → common_prefix_len equals xs ys < length xs → length xs ≡ length ys → common_prefix_len equals (xs ++ more) (ys ++ less) ≡ common_prefix_len equals xs ys
common_stop [] ys more less few long = absurd (omega arith)
common_stop (x ∷ xs) [] more less few long = absurd (omega arith)
common_stop (x ∷ xs) (y ∷ ys) more less few long = by (equals x y) few (common_stop xs ys more less)
  where
    by : (b : Bool) → cond b (1 + common_prefix_len equals xs ys) 0 < length (x ∷ xs)
        → (common_prefix_len equals xs ys < length xs → length xs ≡ length ys → common_prefix_len equals (xs ++ more) (ys ++ less) ≡ common_prefix_len equals xs ys)
        → cond b (1 + common_prefix_len equals (xs ++ more) (ys ++ less)) 0 ≡ cond b (1 + common_prefix_len equals xs ys) 0
    by true few rest = ap (λ n. 1 + n) (rest (omega arith) (omega arith))
    by false few rest = refl

module _ (a b : List ℕ) (at run : ℕ) (a_room : at + 32 ≤ length a) (b_room : at + 32 ≤ length b) (is : run ≡ same_run (chunk at 32 a) (chunk at 32 b)) where
  pair_parts : same_run (drop at a) (drop at b) ≡ same_run (chunk at 32 a ++ drop (at + 32) a) (chunk at 32 b ++ drop (at + 32) b)
  pair_parts = ap (λ xs. same_run xs (drop at b)) (chunk-drop at 32 a) ∙ ap (same_run (chunk at 32 a ++ drop (at + 32) a)) (chunk-drop at 32 b)

  pub pair_bound : run ≤ 32
  pair_bound = omega (arith, is, (common_prefix_len-le equals (chunk at 32 a) (chunk at 32 b)).0, length-chunk at 32 a a_room)

  pub pair_goes_on : run ≡ 32 → same_run (drop at a) (drop at b) ≡ 32 + same_run (drop (at + 32) a) (drop (at + 32) b)
  pair_goes_on all =
      let a_long = length-chunk at 32 a a_room in
      pair_parts ∙ common_all (chunk at 32 a) (chunk at 32 b) (drop (at + 32) a) (drop (at + 32) b) (sym is ∙ all ∙ sym a_long) (a_long ∙ sym (length-chunk at 32 b b_room))
      ∙ ap (λ n. n + same_run (drop (at + 32) a) (drop (at + 32) b)) a_long

  pub pair_stops : run < 32 → same_run (drop at a) (drop at b) ≡ run
  pair_stops few =
      let a_long = length-chunk at 32 a a_room in
      pair_parts ∙ common_stop (chunk at 32 a) (chunk at 32 b) (drop (at + 32) a) (drop (at + 32) b) (omega (arith, is, few, a_long)) (a_long ∙ sym (length-chunk at 32 b b_room)) ∙ sym is

-- nothing is common after the end of one
pub nothing_after : (a b : List ℕ) (at : ℕ) → at ≡ min (length a) (length b) → same_run (drop at a) (drop at b) ≡ 0
nothing_after a b at end =
    let bounds = common_prefix_len-le equals (drop at a) (drop at b) in
    omega (arith, bounds.0, bounds.1, length-drop at a, length-drop at b, end)

pub twice_not : (b : Bool) → not (not b) ≡ b
twice_not true = refl
twice_not false = refl
