-- Runs have the bytes of the regions that they join.
use Rattle.std.proofs.Common.{◌≡◌, ℕ, ◌+◌, ◌-◌, ◌≤◌, ◌==◌, Bool, true, false, cond, List, [], ◌∷◌, ◌++◌, map, take, drop, refl, sym, ap, ◌∙◌, subst, arith, append_assoc}
use Rattle.std.specs.Prelude.{flat_map}
use Rattle.std.specs.List.{AllByRecursion}
use Rattle.std.proofs.Math.Seq.{take-add}
use Rattle.std.proofs.lemmas.Bool.{eqb-true}
use Rattle.std.proofs.lemmas.List.{drop-drop}
use Rattle.xmp_base.specs.declared.file_span.FileSpan.{FileSpan}
use Rattle.jpeg_regions.specs.Jpeg.{span}
use Rattle.jpeg_extended.specs.FromDesk.{payload_at}
use Rattle.jpeg_relocation.specs.Relocation.{part_of}
use Rattle.jpeg_relocation.specs.Runs.{in_front, runs}
use Rattle.jpeg_relocation.specs.Laws.{RunsArePieces}
use Rattle.jpeg_relocation.proofs.Located.{Spot, there, range_is}
use Rattle.jpeg_relocation.proofs.NewFiles.{front, back, before_there, after_there}

abbrev Rises : FileSpan → Type 0
Rises s = s.start ≤ s.end

-- two ranges that meet
meet : (file : List ℕ) (a b c : ℕ) → a ≤ b → b ≤ c → payload_at file (span a c) ≡ payload_at file (span a b) ++ payload_at file (span b c)
meet file a b c h k =
    let size : c - a ≡ (b - a) + (c - b) = omega arith in
    let place : a + (b - a) ≡ b = omega arith in
    ap (λ (n : ℕ). take n (drop a file)) size
    ∙ take-add (b - a) (c - b) (drop a file)
    ∙ ap (λ (l : List ℕ). take (b - a) (drop a file) ++ take (c - b) l) (drop-drop (b - a) a file ∙ ap (λ (n : ℕ). drop n file) place)

front_bytes : (file : List ℕ) (r : FileSpan) (spans : List FileSpan) → Rises r → AllByRecursion Rises spans
    → AllByRecursion Rises (in_front r spans) × (flat_map (payload_at file) (in_front r spans) ≡ payload_at file r ++ flat_map (payload_at file) spans)
front_bytes file r [] h k = ((h, tt), refl)
front_bytes file r (s ∷ spans) h k = by (r.end == s.start) refl
  where
    by : (b : Bool) → (r.end == s.start) ≡ b
        → AllByRecursion Rises (cond b (span r.start s.end ∷ spans) (r ∷ s ∷ spans))
        × (flat_map (payload_at file) (cond b (span r.start s.end ∷ spans) (r ∷ s ∷ spans)) ≡ payload_at file r ++ flat_map (payload_at file) (s ∷ spans))
    by true e =
        let same : r.end ≡ s.start = eqb-true r.end s.start e in
        let joined : payload_at file (span r.start s.end) ≡ payload_at file r ++ payload_at file s =
        meet file r.start r.end s.end h (omega (arith, same, k.0)) ∙ ap (λ (n : ℕ). payload_at file r ++ payload_at file (span n s.end)) same in (
          (omega (arith, h, same, k.0), k.1),
          ap (λ (l : List ℕ). l ++ flat_map (payload_at file) spans) joined ∙ append_assoc (payload_at file r) (payload_at file s) (flat_map (payload_at file) spans),
        )
    by false e = ((h, k), refl)

runs_bytes : (file : List ℕ) (xs : List Spot) → AllByRecursion Rises (runs (map there xs)) × (flat_map (payload_at file) (runs (map there xs)) ≡ flat_map (part_of file) (map there xs))
runs_bytes file [] = (tt, refl)
runs_bytes file (x ∷ xs) =
    let rest = runs_bytes file xs in
    let rises : Rises (there x).range = subst Rises (sym (range_is x)) (omega arith) in
    let one = front_bytes file (there x).range (runs (map there xs)) rises rest.0 in
    (one.0, one.1 ∙ ap (λ (l : List ℕ). part_of file (there x) ++ l) rest.1)

pub runs_are_pieces : RunsArePieces
runs_are_pieces file joined regions cuts =
    let ahead = front file joined regions cuts in
    let behind = back file joined regions cuts in (
      ap (λ rs. flat_map (payload_at file) (runs rs)) (before_there file joined regions cuts) ∙ (runs_bytes file ahead).1 ∙ sym (ap (flat_map (part_of file)) (before_there file joined regions cuts)),
      ap (λ rs. flat_map (payload_at file) (runs rs)) (after_there file joined regions cuts) ∙ (runs_bytes file behind).1 ∙ sym (ap (flat_map (part_of file)) (after_there file joined regions cuts)),
    )
