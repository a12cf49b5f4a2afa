-- Regions that stand one after another in the file are copied in one piece.
use Rattle.std.specs.Prelude.{◌≡◌, ℕ, ◌-◌, ◌==◌, take, drop, if◌then◌else◌, Bool, List, [], ◌∷◌, filter}
use Rattle.xmp_base.specs.declared.file_span.FileSpan.{FileSpan}
use Rattle.jpeg_regions.specs.Jpeg.{Region, span}

-- a range before others, as one with the first of them where it ends at its start
abbrev pub in_front : FileSpan → List FileSpan → List FileSpan
in_front r [] = r ∷ []
in_front r (s ∷ ss) = if r.end == s.start then span r.start s.end ∷ ss else r ∷ s ∷ ss

-- the ranges of regions, those that meet as one
abbrev pub runs : List Region → List FileSpan
runs [] = []
runs (r ∷ rs) = in_front r.range (runs rs)

-- a range after others, as one with the last of them where it begins at its end
abbrev pub with_last : List FileSpan → FileSpan → List FileSpan
with_last [] r = r ∷ []
with_last (s ∷ []) r = if s.end == r.start then span s.start r.end ∷ [] else s ∷ r ∷ []
with_last (s ∷ t ∷ ss) r = s ∷ with_last (t ∷ ss) r

-- the regions from one number up to another
abbrev pub part : List Region → ℕ → ℕ → List Region
part regions from to = take (to - from) (drop from regions)

-- some of a list, in its order
pub record AreAmong (some all : List FileSpan) : Type 0 where
  pub chosen : FileSpan → Bool
  pub is : some ≡ filter chosen all
