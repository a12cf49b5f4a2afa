-- The pieces of a segment, one after another.
use Rattle.std.proofs.Common.{◌≡◌, ℕ, ◌+◌, ◌-◌, ◌*◌, ◌≤◌, min, List, ◌++◌, length, take, drop, sym, ap, ◌∙◌, arith, append_assoc}
use Rattle.std.proofs.lemmas.List.{take-take, take_all, length-take, length-drop}
use Rattle.jpeg_extended.specs.Written.{part_len, part_size}

pub flat : (a b c d e f g : List ℕ) → (((((a ++ b) ++ c) ++ d) ++ e) ++ f) ++ g ≡ a ++ (b ++ (c ++ (d ++ (e ++ (f ++ g)))))
flat a b c d e f g =
    append_assoc ((((a ++ b) ++ c) ++ d) ++ e) f g
    ∙ append_assoc (((a ++ b) ++ c) ++ d) e (f ++ g)
    ∙ append_assoc ((a ++ b) ++ c) d (e ++ (f ++ g))
    ∙ append_assoc (a ++ b) c (d ++ (e ++ (f ++ g)))
    ∙ append_assoc a b (c ++ (d ++ (e ++ (f ++ g))))

-- the part of a text that a portion has
pub part_is : (text : List ℕ) (k end : ℕ) → end ≡ min (length text) (part_size * k + part_size) → part_size * k ≤ length text
    → take (end - part_size * k) (drop (part_size * k) text) ≡ take part_size (drop (part_size * k) text)
part_is text k end is within =
    let rest = drop (part_size * k) text in
    sym (take-take (end - part_size * k) part_size rest (omega (arith, is)))
    ∙ take_all (end - part_size * k) (take part_size rest) (omega (arith, is, within, length-take part_size rest, length-drop (part_size * k) text))

pub part_length : (text : List ℕ) (k : ℕ) → length (take part_size (drop (part_size * k) text)) ≡ part_len (length text) k
part_length text k = omega (arith, length-take part_size (drop (part_size * k) text), length-drop (part_size * k) text)

-- one piece more after those that were put
pub next : (n m : ℕ) (t u front piece : List ℕ) → take m u ≡ take n t ++ piece → take n t ≡ front → take m u ≡ front ++ piece
next n m t u front piece put before = put ∙ ap (λ (l : List ℕ). l ++ piece) before
