-- A file in which a range was exchanged agrees with the old one outside that range.
use Rattle.std.proofs.Common.{◌≡◌, ◌⊎◌, ◌∙◌, ℕ, ◌+◌, ◌-◌, ◌<◌, ◌≤◌, List, [], ◌∷◌, ◌++◌, length, take, drop, get_or, Some, inl, inr, Bool, true, false, refl, arith, ap, sym}
use Rattle.std.specs.Prelude.{slice_get, nat_lt}
use Rattle.std.proofs.lemmas.Bool.{ltb-true, ltb-false}
use Rattle.std.proofs.lemmas.Option.{slice_get_past, slice_get-get_or}
use Rattle.std.proofs.lemmas.List.{get_or_append_left, get_or-append-add, get_or-take, get_or-drop, length-append, length-take-le}
use Rattle.std.proofs.lemmas.List.Elements.{All-head}
use Rattle.xmp_base.specs.Device.{put_at}
use Rattle.xmp_base.proofs.Ranges.{put_length}
use Rattle.xmp_files.specs.Keeping.{Piece}
use Rattle.xmp_files.specs.Planning.{Agree}

module _ (file : List ℕ) (at : ℕ) (now : List ℕ) (inside : at + length now ≤ length file) where
  front : length (take at file) ≡ at
  front = length-take-le at file (omega (arith, inside))

  longer : length (take at file ++ now) ≡ at + length now
  longer = length-append (take at file) now ∙ ap (λ (n : ℕ). n + length now) front

  size : length (put_at file at now) ≡ length file
  size = put_length at (length now) file now inside refl

  before : (place : ℕ) → place < at → slice_get (put_at file at now) place ≡ slice_get file place
  before place below =
      slice_get-get_or (put_at file at now) place 0 (omega (arith, size, below, inside))
      ∙ ap (λ (x : ℕ). Some x)
      (get_or_append_left (take at file ++ now) (drop (at + length now) file) 0 place (omega (arith, longer, below))
      ∙ get_or_append_left (take at file) now 0 place (omega (arith, front, below))
      ∙ get_or-take at file place 0 below)
      ∙ sym (slice_get-get_or file place 0 (omega (arith, below, inside)))

  after_by : (place k : ℕ) → place ≡ length (take at file ++ now) + k → place < length file → slice_get (put_at file at now) place ≡ slice_get file place
  after_by place k is within =
      slice_get-get_or (put_at file at now) place 0 (omega (arith, size, within))
      ∙ ap (λ (x : ℕ). Some x)
      (ap (λ (n : ℕ). get_or (put_at file at now) n 0) is
      ∙ get_or-append-add (take at file ++ now) (drop (at + length now) file) k 0
      ∙ get_or-drop (at + length now) file k 0
      ∙ ap (λ (n : ℕ). get_or file n 0) (omega (arith, is, longer)))
      ∙ sym (slice_get-get_or file place 0 within)

  after : (within : Bool) (place : ℕ) → nat_lt place (length file) ≡ within → at + length now ≤ place → slice_get (put_at file at now) place ≡ slice_get file place
  after true place e past = after_by place (place - (at + length now)) (omega (arith, longer, past)) (ltb-true place (length file) e)
  after false place e past =
      let beyond = ltb-false place (length file) e in slice_get_past (put_at file at now) place (omega (arith, size, beyond)) ∙ sym (slice_get_past file place beyond)

  outside : (q : Piece) (place : ℕ) → q.at ≡ at → length q.bytes ≡ length now → ((place < q.at) ⊎ (q.at + length q.bytes ≤ place)) → slice_get (put_at file at now) place ≡ slice_get file place
  outside q place at_is as_long (inl below) = before place (omega (arith, at_is, below))
  outside q place at_is as_long (inr past) = after (nat_lt place (length file)) place refl (omega (arith, at_is, as_long, past))

  pub put_agrees : (q : Piece) → q.at ≡ at → length q.bytes ≡ length now → Agree file (put_at file at now) (q ∷ [])
  put_agrees q at_is as_long = record {
    size = size;
    outside = λ place out. outside q place at_is as_long (All-head (λ (p : Piece). (place < p.at) ⊎ (p.at + length p.bytes ≤ place)) q [] out);
  }
