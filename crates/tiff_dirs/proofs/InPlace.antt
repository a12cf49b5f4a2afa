-- A packet that is exchanged in its place leaves the directories and the pictures as they are.
use Rattle.std.proofs.Common.{◌≡◌, ℕ, zero, suc, ◌+◌, ◌-◌, ◌<◌, ◌≤◌, ◌⊎◌, inl, inr, ◌&&◌, Bool, true, false, if◌then◌else◌, List, [], ◌∷◌, ◌++◌, length, take, drop, refl, sym, ap, ◌∙◌, arith, append_assoc, Some, None, All, Contains}
use Rattle.std.proofs.lemmas.List.{drop-drop, drop-take, take-take, drop_at, take_at, length-take-le}
use Rattle.std.proofs.lemmas.List.Elements.{All-nil, All-cons, All-contains, Contains-append_right}
use Rattle.xmp_base.specs.Device.{put_at}
use Rattle.xmp_base.specs.declared.file_span.FileSpan.{FileSpan}
use Rattle.xmp_base.proofs.Ranges.{put_length}
use Rattle.tiff_dirs.specs.Types.{is_packet}
use Rattle.tiff_dirs.specs.Layouts.{layout_of}
use Rattle.tiff_dirs.specs.Directories.{is_apart}
use Rattle.tiff_dirs.specs.Model.{Found}
use Rattle.tiff_dirs.specs.Tables.{tables_of}
use Rattle.tiff_dirs.specs.Frames.{bytes_in}
use Rattle.tiff_dirs.specs.Overlaps.{Meets, others, own, own_of}
use Rattle.tiff_dirs.specs.Standing.{PacketInPlace}
use Rattle.tiff_dirs.proofs.Framed.{framed}
use Rattle.tiff_dirs.proofs.Standing.{table_within, entry_stands}

order : (m n : ℕ) → (m ≤ n) ⊎ (n < m)
order zero n = inl (omega arith)
order (suc m) zero = inr (omega arith)
order (suc m) (suc n) = elim (order m n) [ inl h ↦ inl (omega arith) | inr h ↦ inr (omega arith) ]

-- A range before a place, or after it.

front_part : (x : List ℕ) (r : FileSpan) (at : ℕ) → r.start ≤ r.end → r.end ≤ at → bytes_in x r ≡ drop r.start (take r.end (take at x))
front_part x r at ordered before =
    let whole : r.start + (r.end - r.start) ≡ r.end = omega (arith, ordered) in
    sym (drop-take r.start (r.end - r.start) x) ∙ ap (λ (n : ℕ). drop r.start (take n x)) whole ∙ ap (drop r.start) (sym (take-take r.end at x before))

same_front : (a b : List ℕ) (r : FileSpan) (at : ℕ) → take at b ≡ take at a → r.start ≤ r.end → r.end ≤ at → bytes_in b r ≡ bytes_in a r
same_front a b r at same ordered before =
    front_part b r at ordered before ∙ ap (λ (l : List ℕ). drop r.start (take r.end l)) same ∙ sym (front_part a r at ordered before)

back_part : (x : List ℕ) (r : FileSpan) (past : ℕ) → past ≤ r.start → bytes_in x r ≡ take (r.end - r.start) (drop (r.start - past) (drop past x))
back_part x r past after =
    let whole : past + (r.start - past) ≡ r.start = omega (arith, after) in
    ap (λ (n : ℕ). take (r.end - r.start) (drop n x)) (sym whole) ∙ ap (take (r.end - r.start)) (sym (drop-drop (r.start - past) past x))

same_back : (a b : List ℕ) (r : FileSpan) (past : ℕ) → drop past b ≡ drop past a → past ≤ r.start → bytes_in b r ≡ bytes_in a r
same_back a b r past same after =
    back_part b r past after ∙ ap (λ (l : List ℕ). take (r.end - r.start) (drop (r.start - past) l)) same ∙ sym (back_part a r past after)

empty : (x : List ℕ) (r : FileSpan) → r.end ≤ r.start → bytes_in x r ≡ []
empty x r h = let none : r.end - r.start ≡ 0 = omega (arith, h) in ap (λ (n : ℕ). take n (drop r.start x)) none

module _ (file : List ℕ) (at : ℕ) (now : List ℕ) (inside : at + length now ≤ length file) where
  abbrev file_now : List ℕ
  file_now = put_at file at now

  abbrev rest : List ℕ
  rest = drop (at + length now) file

  front_size : length (take at file) ≡ at
  front_size = length-take-le at file (omega (arith, inside))

  parts : file_now ≡ take at file ++ (now ++ rest)
  parts = append_assoc (take at file) now rest

  front : take at file_now ≡ take at file
  front = ap (take at) parts ∙ take_at (take at file) (now ++ rest) at front_size

  back : drop (at + length now) file_now ≡ rest
  back =
      sym (drop-drop (length now) at file_now)
      ∙ ap (λ (l : List ℕ). drop (length now) (drop at l)) parts
      ∙ ap (drop (length now)) (drop_at (take at file) (now ++ rest) at front_size)
      ∙ drop_at now rest (length now) refl

  outside : (r : FileSpan) → (r.end ≤ at) ⊎ (at + length now ≤ r.start) → bytes_in file_now r ≡ bytes_in file r
  outside r (inl before) =
      elim (order r.start r.end) [
        | inl h ↦ same_front file file_now r at front h before
        | inr h ↦ empty file_now r (omega (arith, h)) ∙ sym (empty file r (omega (arith, h)))
      ]
  outside r (inr after) = same_back file file_now r (at + length now) back after

-- ranges that share no byte
apart_spans : (a b : FileSpan) → (Meets a b → ⊥) → (b.end ≤ a.start) ⊎ (a.end ≤ b.start)
apart_spans a b none =
    elim (order b.end a.start) [
      | inl h ↦ inl h
      | inr h ↦ (elim (order a.end b.start) [ inl i ↦ inr i | inr i ↦ absurd (none (h, i)) ])
    ]

agree_by : (P : FileSpan → Type 0) (rs : List FileSpan) → ((r : FileSpan) → Contains rs r → P r) → All P rs
agree_by P [] h = All-nil P
agree_by P (x ∷ xs) h = All-cons P x xs (h x (0, omega arith, refl)) (agree_by P xs (λ r k. h r (Contains-append_right (x ∷ []) xs r k)))

own_by : (packet apart : Bool) (v : FileSpan) → packet ≡ true → apart ≡ true → (if packet && apart then Some v else None) ≡ Some v
own_by true true v p a = refl
own_by false apart v p a = absurd (cc p)
own_by true false v p a = absurd (cc a)

pub packet_in_place : PacketInPlace
packet_in_place file tiff e now t is far as_long =
    let found : Found file tiff = t.found in
    let stands = entry_stands file tiff found 700 e is in
    let ordered = stands.order in
    let within = stands.within in
    let at : ℕ = e.value.start in
    let inside : at + length now ≤ length file = omega (arith, ordered, within, as_long) in
    let ends : at + length now ≡ e.value.end = omega (arith, ordered, as_long) in
    let named : own 700 tiff ≡ Some e.value = ap (own_of tiff.layout) is ∙ own_by (is_packet e.code) (is_apart tiff.layout e) e.value (stands.typed refl) far in
    let clear : All (λ r. Meets e.value r → ⊥) (others 700 tiff) = t.clear.0.clear e.value named in
    let away : (r : FileSpan) → Contains (tables_of (layout_of file) file found.offsets) r → (r.end ≤ at) ⊎ (at + length now ≤ r.start) =
    (λ r m.
    let w = table_within file tiff found tiff.pictures r m in
    let low = w.2 in
    let high = w.3 in
    elim (apart_spans e.value w.0 (All-contains (λ s. Meets e.value s → ⊥) (others 700 tiff) w.0 clear w.1)) [
      | inl h ↦ inl (omega (arith, h, high))
      | inr h ↦ inr (omega (arith, h, low, ends))
    ]) in
    let size : length (put_at file at now) ≡ length file = put_length at (length now) file now inside refl in
    let framed_now = framed file (put_at file at now) found.offsets found.walks (omega (arith, size))
    (agree_by (λ r. bytes_in (put_at file at now) r ≡ bytes_in file r) (tables_of (layout_of file) file found.offsets) (λ r m. outside file at now inside r (away r m))) in
    record { found = record { offsets = found.offsets; walks = framed_now.0; is = found.is ∙ sym framed_now.1 }; clear = t.clear }
