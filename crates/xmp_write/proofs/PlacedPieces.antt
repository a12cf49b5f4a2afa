-- Pieces that are put into a slice after one another.
use Rattle.std.proofs.Common.{◌≡◌, ℕ, zero, suc, ◌+◌, ◌-◌, ◌^◌, ◌<◌, ◌≤◌, List, [], ◌∷◌, ◌++◌, length, take, drop, get_or, min, refl, sym, ap, subst, ◌∙◌, ⊎_elim, length-append, arith}
use Rattle.std.specs.Prelude.{codes}
use borrow.Rule.Slice.PartMut.{put_mid}
use Rattle.std.specs.Simd.Lanes.{put_chunk}
use Rattle.std.proofs.lemmas.Bool.{cases_lt}
use Rattle.std.specs.List.{flat_map}
use Rattle.std.proofs.lemmas.Grind.{flat_map-append}
use Rattle.std.proofs.lemmas.List.{append_assoc, append-nil, take_more, take_all, length-take-le}
use Rattle.std.proofs.lemmas.Simd.{put_chunk_is, put_chunk_whole, length-put_chunk}
use Rattle.xmp_write.specs.Placing.{Puts}

-- nothing is put past the end
pub put_past : (i : ℕ) (xs ys : List ℕ) → length xs ≤ i → put_chunk i xs ys ≡ xs
put_past i [] ys past = refl
put_past zero (x ∷ xs) ys past = absurd (omega arith)
put_past (suc i) (x ∷ xs) ys past = ap (λ rest. x ∷ rest) (put_past i xs ys (omega arith))

-- as much is put as there is room for
put_cut : (i n : ℕ) (xs ys : List ℕ) → i + n ≡ length xs → put_chunk i xs (take n ys) ≡ put_chunk i xs ys
put_cut i n [] ys fits = refl
put_cut zero zero (x ∷ xs) ys fits = absurd (omega arith)
put_cut zero (suc n) (x ∷ xs) [] fits = refl
put_cut zero (suc n) (x ∷ xs) (y ∷ ys) fits = ap (λ rest. y ∷ rest) (put_cut zero n xs ys (omega arith))
put_cut (suc i) n (x ∷ xs) ys fits = ap (λ rest. x ∷ rest) (put_cut i n xs ys (omega arith))

-- one piece after another
put_then : (i j : ℕ) (xs a b : List ℕ) → j ≡ i + length a → put_chunk j (put_chunk i xs a) b ≡ put_chunk i xs (a ++ b)
put_then i j [] a b at = refl
put_then zero j (x ∷ xs) [] b at = let same : j ≡ 0 = omega arith in ap (λ k. put_chunk k (x ∷ xs) b) same
put_then zero zero (x ∷ xs) (y ∷ ys) b at = absurd (omega arith)
put_then zero (suc j) (x ∷ xs) (y ∷ ys) b at = ap (λ rest. y ∷ rest) (put_then zero j xs ys b (omega arith))
put_then (suc i) zero (x ∷ xs) a b at = absurd (omega arith)
put_then (suc i) (suc j) (x ∷ xs) a b at = ap (λ rest. x ∷ rest) (put_then i j xs a b (omega arith))

-- what a slice holds after a piece
pub piece_within : (i w n : ℕ) (xs ys zs : List ℕ) → i < length xs → w ≡ min (length ys) (length xs - i) → n ≡ w → zs ≡ take w ys → put_mid i n xs zs ≡ put_chunk i xs ys
piece_within i w n xs ys zs inside within same is =
    let fits : length zs ≡ w = ap length is ∙ length-take-le w ys (omega arith) in
    let cut = ⊎_elim
    (λ past. put_cut i w xs ys (omega (arith, past)))
    (λ room. ap (put_chunk i xs) (take_all w ys (omega (arith, room))))
    (cases_lt (length xs - i) (length ys)) in
    let all : n ≡ length zs = same ∙ sym fits in
    ap (λ m. take i xs ++ (zs ++ drop m (drop i xs))) all ∙ sym (put_chunk_is i xs zs (omega (arith, fits))) ∙ ap (put_chunk i xs) is ∙ cut

put_nothing : (i : ℕ) (xs : List ℕ) → put_chunk i xs [] ≡ xs
put_nothing i [] = refl
put_nothing zero (x ∷ xs) = refl
put_nothing (suc i) (x ∷ xs) = ap (λ rest. x ∷ rest) (put_nothing i xs)

pub puts_none : (old : List ℕ) (at : ℕ) → length old < 2 ^ 64 → at < 2 ^ 64 → Puts old old at at []
puts_none old at held low = record { after_is = omega arith; written = sym (put_nothing at old); held = held }

-- one piece put after another
infixl 20 ◌▸◌
pub ◌▸◌ : {a b c : List ℕ} {i j k : ℕ} {xs ys : List ℕ} → Puts a b i j xs → Puts b c j k ys → Puts a c i k (xs ++ ys)
◌▸◌ {a} {b} {c} {i} {j} {k} {xs} {ys} first second = record {
  after_is = omega (arith, length-append xs ys, first.after_is, second.after_is);
  written = ⊎_elim
      (λ low.
      let at : j ≡ i + length xs = omega (arith, first.after_is) in
      second.written ∙ ap (λ list. put_chunk j list ys) first.written ∙ put_then i j a xs ys at)
      (λ high.
      let held = length-put_chunk i a xs in
      let past : length (put_chunk i a xs) ≤ j = omega (arith, first.after_is, first.held, held) in
      second.written ∙ ap (λ list. put_chunk j list ys) first.written ∙ put_past j (put_chunk i a xs) ys past
      ∙ sym (put_past (i + length xs) (put_chunk i a xs) ys (omega (arith, first.held, held))) ∙ put_then i (i + length xs) a xs ys refl)
      (cases_lt (i + length xs) (2 ^ 64));
  held = first.held;
}

pub puts_as : {a b : List ℕ} {i j : ℕ} {xs : List ℕ} (ys : List ℕ) → Puts a b i j xs → xs ≡ ys → Puts a b i j ys
puts_as {a} {b} {i} {j} ys put same = subst (λ (text : List ℕ). Puts a b i j text) same put

-- an element's end after what stands before it
pub ended : {a b c : List ℕ} {i j k : ℕ} {xs : List ℕ} (name : List ℕ) → Puts a b i j xs → Puts b c j k (codes "</" ++ name ++ codes ">") → Puts a c i k (xs ++ codes "</" ++ name ++ codes ">")
ended {a} {b} {c} {i} {j} {k} {xs} name first second =
    puts_as (xs ++ codes "</" ++ name ++ codes ">") (first ▸ second)
    (sym (append_assoc xs (codes "</" ++ name) (codes ">")) ∙ ap (λ front. front ++ codes ">") (sym (append_assoc xs (codes "</") name)))

-- one item more of a list
pub more_put : {X : Type 0} (f : X → List ℕ) (xs : List X) (i : ℕ) (x : X) {old mid new : List ℕ} {at j k : ℕ} → i < length xs → x ≡ get_or xs i x
    → Puts old mid at j (flat_map f (take i xs)) → Puts mid new j k (f x) → Puts old new at k (flat_map f (take (i + 1) xs))
more_put f xs i x within here first second =
    puts_as (flat_map f (take (i + 1) xs)) (first ▸ second)
    (ap (λ last. flat_map f (take i xs) ++ last) (sym (append-nil (f x))) ∙ sym (flat_map-append f (take i xs) (x ∷ []))
    ∙ ap (λ y. flat_map f (take i xs ++ y ∷ [])) here ∙ ap (flat_map f) (sym (take_more xs i x within)))

-- what a text that is put from the front measures, and what a slice of its length holds
pub measured : {a b : List ℕ} {j : ℕ} {text : List ℕ} → Puts a b 0 j text → j ≡ min (length text) (2 ^ 64 - 1)
measured {a} {b} {j} {text} put = omega (arith, put.after_is)

pub filled : {a b : List ℕ} {j : ℕ} {text : List ℕ} → Puts a b 0 j text → length a ≡ length text → b ≡ text
filled {a} {b} {j} {text} put room = put.written ∙ put_chunk_whole a text room
