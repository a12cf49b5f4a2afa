-- The pieces of bytes that are read.
use Rattle.std.proofs.Common.{◌≡◌, ℕ, ◌+◌, ◌-◌, ◌≤◌, min, List, length, take, drop, sym, ap, ◌∙◌, arith}
use Rattle.std.proofs.lemmas.List.{take_rest, take_min, length-drop, length-take-le, drop-drop, drop-take, take-take}
use Rattle.irb_iptc.specs.Scanning.{range_of}

-- the first bytes of the rest of a slice
pub front_piece : (n start : ℕ) (bytes : List ℕ) → take (min (length (take (length bytes - start) (drop start bytes))) n) (take (length bytes - start) (drop start bytes)) ≡ take n (drop start bytes)
front_piece n start bytes =
    ap (λ (l : List ℕ). take (min (length l) n) l) (take_rest bytes start)
    ∙ ap (λ (k : ℕ). take k (drop start bytes)) (let e : min (length (drop start bytes)) n ≡ min n (length (drop start bytes)) = omega arith in e)
    ∙ take_min n (drop start bytes)

pub length-rest : (start : ℕ) (bytes : List ℕ) → length (take (length bytes - start) (drop start bytes)) ≡ length bytes - start
length-rest start bytes = ap length (take_rest bytes start) ∙ length-drop start bytes

-- some bytes further on
pub piece_after : (n at start : ℕ) (bytes : List ℕ) → take (at + n - at) (drop at (take (length bytes - start) (drop start bytes))) ≡ take n (drop at (drop start bytes))
piece_after n at start bytes =
    ap (λ (l : List ℕ). take (at + n - at) (drop at l)) (take_rest bytes start)
    ∙ ap (λ (k : ℕ). take k (drop at (drop start bytes))) (let e : at + n - at ≡ n = omega arith in e)

-- the bytes of a range that lies in the file
pub length-range : (file : List ℕ) (start end : ℕ) → start ≤ end → end ≤ length file → start + length (range_of file start end) ≡ end
length-range file start end a b = omega (arith, length-take-le (end - start) (drop start file) (omega (arith, length-drop start file)), length-drop start file)

-- a piece of the file in a range is a piece of the range
pub range_piece : (file : List ℕ) (start n k end : ℕ) → start + n + k ≤ end → take k (drop (start + n) file) ≡ take k (drop n (range_of file start end))
range_piece file start n k end h =
    sym (ap (λ (j : ℕ). take k (drop n (take j (drop start file)))) (let e : end - start ≡ n + (end - start - n) = omega arith in e)
    ∙ ap (take k) (drop-take n (end - start - n) (drop start file))
    ∙ take-take k (end - start - n) (drop n (drop start file)) (omega arith)
    ∙ ap (take k) (drop-drop n start file))

-- the first bytes of a range
pub range_front : (file piece : List ℕ) (start n end : ℕ) → start ≤ end → end ≤ length file → length piece ≡ min n (end - start) → piece ≡ take (length piece) (drop start file)
    → piece ≡ take n (range_of file start end)
range_front file piece start n end a b size e =
    e ∙ ap (λ (k : ℕ). take k (drop start file)) size
    ∙ ap (λ (k : ℕ). take (min n (end - start)) (drop k file)) (let z : start ≡ start + 0 = omega arith in z)
    ∙ range_piece file start 0 (min n (end - start)) end (omega arith)
    ∙ ap (λ (k : ℕ). take k (range_of file start end)) (let z : min n (end - start) ≡ min n (length (range_of file start end)) = omega (arith, length-range file start end a b) in z)
    ∙ take_min n (range_of file start end)
