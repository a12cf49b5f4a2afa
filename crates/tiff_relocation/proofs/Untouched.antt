-- Bytes of a file in which some are exchanged in their place, and to which more are added: those outside the exchanged ones stay.
use Rattle.std.proofs.Common.{◌≡◌, ◌∙◌, ℕ, zero, suc, ◌+◌, ◌-◌, ◌<◌, ◌≤◌, ◌⊎◌, inl, inr, List, [], ◌++◌, length, take, drop, refl, sym, ap, arith, append_assoc}
use Rattle.std.proofs.lemmas.List.{drop-drop, drop-take, drop_at, length-append, length-drop, length-take-le, take-append-le, take-take, take_at}
use Rattle.xmp_base.specs.Device.{put_at}
use Rattle.xmp_base.specs.declared.file_span.FileSpan.{FileSpan}
use Rattle.xmp_base.proofs.Ranges.{put_length}
use Rattle.tiff_dirs.specs.Directories.{span}
use Rattle.tiff_dirs.specs.Frames.{bytes_in}
use Rattle.tiff_dirs.specs.Overlaps.{Meets}
use Rattle.tiff_relocation.proofs.Copied.{behind}

pub order : (m n : ℕ) → (m ≤ n) ⊎ (n < m)
order zero n = inl (omega arith)
order (suc m) zero = inr (omega arith)
order (suc m) (suc n) = elim (order m n) [ inl h ↦ inl (omega arith) | inr h ↦ inr (omega arith) ]

-- ranges that share no byte
pub apart_spans : (a b : FileSpan) → (Meets a b → ⊥) → (b.end ≤ a.start) ⊎ (a.end ≤ b.start)
apart_spans a b none =
    elim (order b.end a.start) [
      | inl h ↦ inl h
      | inr h ↦ (elim (order a.end b.start) [ inl i ↦ inr i | inr i ↦ absurd (none (h, i)) ])
    ]

-- a range is told by the bytes up to a place behind it
pub front_same : (a b : List ℕ) (r : FileSpan) (at : ℕ) → take at b ≡ take at a → r.start ≤ r.end → r.end ≤ at → bytes_in b r ≡ bytes_in a r
front_same a b r at same ordered before = front b ∙ ap (λ (t : List ℕ). drop r.start (take r.end t)) same ∙ sym (front a)
  where
    front : (x : List ℕ) → bytes_in x r ≡ drop r.start (take r.end (take at x))
    front x =
        let whole : r.start + (r.end - r.start) ≡ r.end = omega (arith, ordered) in
        sym (drop-take r.start (r.end - r.start) x) ∙ ap (λ (n : ℕ). drop r.start (take n x)) whole ∙ ap (drop r.start) (sym (take-take r.end at x before))

-- and by so many of those from a place before it
pub back_same : (a b : List ℕ) (r : FileSpan) (past n : ℕ) → take n (drop past b) ≡ take n (drop past a) → past ≤ r.start → r.start ≤ r.end → r.end ≤ past + n → bytes_in b r ≡ bytes_in a r
back_same a b r past n same low ordered high = back b ∙ ap (λ (t : List ℕ). drop (r.start - past) (take (r.end - past) t)) same ∙ sym (back a)
  where
    back : (x : List ℕ) → bytes_in x r ≡ drop (r.start - past) (take (r.end - past) (take n (drop past x)))
    back x =
        let start : past + (r.start - past) ≡ r.start = omega (arith, low) in
        let whole : (r.start - past) + (r.end - r.start) ≡ r.end - past = omega (arith, low, ordered) in
        ap (λ (k : ℕ). take (r.end - r.start) (drop k x)) (sym start)
        ∙ ap (take (r.end - r.start)) (sym (drop-drop (r.start - past) past x))
        ∙ sym (drop-take (r.start - past) (r.end - r.start) (drop past x))
        ∙ ap (λ (k : ℕ). drop (r.start - past) (take k (drop past x))) whole
        ∙ ap (drop (r.start - past)) (sym (take-take (r.end - past) n (drop past x) (omega (arith, high))))

pub empty : (x : List ℕ) (r : FileSpan) → r.end ≤ r.start → bytes_in x r ≡ []
empty x r h = let none : r.end - r.start ≡ 0 = omega (arith, h) in ap (λ (n : ℕ). take n (drop r.start x)) none

module _ (file : List ℕ) (at : ℕ) (now more : List ℕ) (inside : at + length now ≤ length file) where
  abbrev pub file_now : List ℕ
  file_now = put_at file at now ++ more

  abbrev rest : List ℕ
  rest = drop (at + length now) file

  front_size : length (take at file) ≡ at
  front_size = length-take-le at file (omega (arith, inside))

  parts : file_now ≡ take at file ++ (now ++ (rest ++ more))
  parts =
      append_assoc (take at file ++ now) rest more ∙ append_assoc (take at file) now (rest ++ more)

  pub front : take at file_now ≡ take at file
  front = ap (take at) parts ∙ take_at (take at file) (now ++ (rest ++ more)) at front_size

  -- the exchanged bytes, and what stands behind them
  pub exchanged : drop at file_now ≡ now ++ (rest ++ more)
  exchanged = ap (drop at) parts ∙ drop_at (take at file) (now ++ (rest ++ more)) at front_size

  back : take (length file - (at + length now)) (drop (at + length now) file_now) ≡ take (length file - (at + length now)) rest
  back =
      ap (take (length file - (at + length now))) (behind file_now now (rest ++ more) at (at + length now) (length now) exchanged refl refl)
      ∙ take-append-le (length file - (at + length now)) rest more (omega (arith, length-drop (at + length now) file))

  pub untouched : (r : FileSpan) → r.end ≤ length file → (Meets (span at (at + length now)) r → ⊥) → bytes_in file_now r ≡ bytes_in file r
  untouched r high apart =
      elim (order r.start r.end) [
        | inl ordered ↦
            (elim (apart_spans (span at (at + length now)) r apart) [
              | inl h ↦ front_same file file_now r at front ordered h
              | inr h ↦ back_same file file_now r (at + length now) (length file - (at + length now)) back h ordered (omega (arith, high, inside))
            ])
        | inr h ↦ empty file_now r (omega (arith, h)) ∙ sym (empty file r (omega (arith, h)))
      ]

  -- the added bytes stand at the old end
  pub put_size : length (put_at file at now) ≡ length file
  put_size = put_length at (length now) file now inside refl

  pub added : drop (length file) file_now ≡ more
  added = drop_at (put_at file at now) more (length file) put_size

  pub now_size : length file_now ≡ length file + length more
  now_size = omega (arith, length-append (put_at file at now) more, put_size)
