-- Portions join to one text, and have one first fault or none.
use Rattle.std.proofs.Common.{◌≡◌, ℕ, suc, ◌+◌, ◌<◌, ◌==◌, List, [], ◌∷◌, ◌++◌, map, length, take, drop, refl, sym, ap, ◌∙◌, subst, arith, IsTrue, Some, append_assoc}
use Rattle.std.specs.List.{All}
use Rattle.std.specs.Prelude.{flat_map}
use Rattle.std.proofs.lemmas.Bool.{eqb-true}
use Rattle.std.proofs.lemmas.List.{drop-drop, drop_all, length-map, drop_at, length-append, take-append-drop, take_at}
use Rattle.std.proofs.lemmas.List.Elements.{All-cons, All-nil}
use Rattle.std.proofs.lemmas.List.Sorted.{All-permutation, IsPermutation-sym}
use Rattle.std.proofs.lemmas.List.Sums.{AllPass-from_list_all}
use Rattle.jpeg_extended.specs.Tiling.{Extent, Tiles, Tiled, IsTooLong, IsGap, all_say, first_full}
use Rattle.jpeg_extended.specs.Portions.{Portion, extent}
use Rattle.jpeg_extended.specs.Joined.{Joined}
use Rattle.jpeg_extended.proofs.Orders.{orders_agree, reach_agrees, tiles_agree, tiles_rise}

-- the text has the portion's bytes at its place
abbrev pub Stands : List ℕ → Portion → Type 0
Stands text p = take (length p.bytes) (drop p.offset text) ≡ p.bytes

abbrev pub text_of : List Portion → List ℕ
text_of ps = flat_map (λ (p : Portion). p.bytes) ps

pub stand_in : (at end : ℕ) (front : List ℕ) (ps : List Portion) → length front ≡ at → Tiles at end (map extent ps) → All (Stands (front ++ text_of ps)) ps
stand_in at end front [] size t = All-nil (Stands (front ++ []))
stand_in at end front (p ∷ ps) size t =
    let rest = text_of ps in
    let here : Stands (front ++ (p.bytes ++ rest)) p =
    ap (λ (k : ℕ). take (length p.bytes) (drop k (front ++ (p.bytes ++ rest)))) t.0
    ∙ ap (take (length p.bytes)) (drop_at front (p.bytes ++ rest) at size) ∙ take_at p.bytes rest (length p.bytes) refl in
    let later : All (Stands ((front ++ p.bytes) ++ rest)) ps = stand_in (at + length p.bytes) end (front ++ p.bytes) ps (omega (arith, size, length-append front p.bytes)) t.1 in
    All-cons (Stands (front ++ (p.bytes ++ rest))) p ps here (subst (λ (l : List ℕ). All (Stands l) ps) (append_assoc front p.bytes rest) later)

pub text_from : (at end : ℕ) (text : List ℕ) (ps : List Portion) → length text ≡ end → Tiles at end (map extent ps) → All (Stands text) ps → text_of ps ≡ drop at text
text_from at end text [] size t all = sym (drop_all at text (omega (arith, size, t)))
text_from at end text (p ∷ ps) size t all =
    let here : take (length p.bytes) (drop at text) ≡ p.bytes = ap (λ (k : ℕ). take (length p.bytes) (drop k text)) (sym t.0) ∙ all 0 p (omega arith) in
    let rest = text_from (at + length p.bytes) end text ps size t.1 (λ k d less. all (suc k) d (omega (arith, less))) in
    (λ i. sym here i ++ rest i)
    ∙ ap (λ (l : List ℕ). take (length p.bytes) (drop at text) ++ l) (sym (drop-drop (length p.bytes) at text))
    ∙ take-append-drop (length p.bytes) (drop at text)

-- what all say is what the first says
say_first : (es : List Extent) (m : ℕ) → 0 < length es → IsTrue (all_say m es) → first_full es ≡ Some m
say_first [] m some same = absurd (omega (arith, some))
say_first (e ∷ es) m some same = ap Some (eqb-true e.full m (AllPass-from_list_all (λ (x : Extent). x.full == m) (e ∷ es) same 0 e (omega arith)))

one_some : (m n : ℕ) → Some m ≡ Some n → m ≡ n
one_some m n e = cc e

pub one_length : (es : List Extent) (m n : ℕ) → Tiled es m → Tiled es n → m ≡ n
one_length es m n a b = one_some m n (sym (say_first es m a.some a.same) ∙ say_first es n b.some b.same)

pub one_text : (ps : List Portion) (a b : List ℕ) → Joined ps a → Joined ps b → a ≡ b
one_text ps a b x y =
    let some : 0 < length (map extent ps) = omega (arith, x.some, length-map ps extent) in
    let size : length b ≡ length a = one_some (length b) (length a) (sym (say_first (map extent ps) (length b) some y.same) ∙ say_first (map extent ps) (length a) some x.same) in
    let there : All (Stands b) y.ordered = subst (λ (l : List ℕ). All (Stands l) y.ordered) (sym y.text_is) (stand_in 0 (length b) [] y.ordered refl y.tiles) in
    let all : All (Stands b) ps = All-permutation (Stands b) y.ordered ps (IsPermutation-sym ps y.ordered y.shuffled) there in
    x.text_is ∙ text_from 0 (length a) b x.ordered size x.tiles (All-permutation (Stands b) ps x.ordered x.shuffled all)

pub one_over : (es : List Extent) (m n : ℕ) → IsTooLong es m → IsTooLong es n → m ≡ n
one_over es m n a b = one_some m n (sym a.first ∙ b.first)

pub one_place : (es : List Extent) (m n : ℕ) → IsGap es m → IsGap es n → m ≡ n
one_place es m n a b = a.reaches ∙ reach_agrees 0 a.ordered b.ordered (orders_agree es a.ordered b.ordered a.order b.order) ∙ sym b.reaches

pub not_over : (es : List Extent) (m n : ℕ) → Tiled es m → IsTooLong es n → ⊥
not_over es m n a b = let same = one_some m n (sym (say_first es m a.some a.same) ∙ b.first) in omega (arith, same, a.within, b.over)

pub not_gap : (es : List Extent) (m n : ℕ) → Tiled es m → IsGap es n → ⊥
not_gap es m n a b =
    let same : m ≡ b.full = one_some m b.full (sym (say_first es m a.some a.same) ∙ b.first) in
    let agree = orders_agree es a.ordered b.ordered (record { shuffled = a.shuffled; rises = tiles_rise 0 m a.ordered a.tiles }) b.order in
    b.untiled (subst (λ (k : ℕ). IsTrue (all_say k es)) same a.same) (subst (λ (k : ℕ). Tiles 0 k b.ordered) same (tiles_agree 0 m a.ordered b.ordered agree a.tiles))

pub over_or_gap : (es : List Extent) (m n : ℕ) → IsTooLong es m → IsGap es n → ⊥
over_or_gap es m n a b = let same = one_some m b.full (sym a.first ∙ b.first) in omega (arith, same, a.over, b.within)
