-- The index of a multi-picture file (CIPA DC-007, 5.2) tells places of pictures, counted from its own: what stands after it must keep its length.
use Rattle.std.specs.Prelude.{ℕ, ◌+◌, ◌-◌, ◌^◌, ◌==◌, min, if◌then◌else◌, Bool, true, false, List, [], ◌∷◌, find, sum_by, Option, None, Some}
use Rattle.std.specs.List.{list_any, position_from}
use Rattle.xmp_base.specs.declared.file_span.FileSpan.{FileSpan}
use Rattle.jpeg_regions.specs.declared.kind.RegionKind.{RegionKind}
use Rattle.jpeg_regions.specs.declared.kind.RegionKind.TheVariants.{Main, Portion, Exif, Resources, Mpf, App0, Other, Alone, Tail}
use Rattle.jpeg_regions.specs.Jpeg.{Region}
use Rattle.jpeg_relocation.specs.declared.pictures.MovedPictures.{MovedPictures}
use Rattle.jpeg_relocation.specs.declared.pictures.PictureIndex.{PictureIndex}
use Rattle.jpeg_relocation.specs.Relocation.{kept, before}

abbrev pub is_index : RegionKind → Bool
is_index Main = false
is_index Portion = false
is_index Exif = false
is_index Resources = false
is_index Mpf = true
is_index App0 = false
is_index Other = false
is_index Alone = false
is_index Tail = false

abbrev pub size_of : Region → ℕ
size_of r = r.range.end - r.range.start

-- the regions after the first index
abbrev pub after_index : List Region → List Region
after_index [] = []
after_index (r ∷ rs) = if is_index r.kind then rs else after_index rs

-- the sum of their lengths
abbrev pub pictures_len : List Region → ℕ
pictures_len regions = sum_by size_of (after_index regions)

-- A number that is told: lengths that no number of 64 bits holds are told by the greatest.
abbrev pub told : ℕ → ℕ
told n = min n (2 ^ 64 - 1)

-- the number of the first index among the regions
abbrev pub first_index : List Region → Option ℕ
first_index regions = position_from (λ r. is_index r.kind) 0 regions

abbrev pub index_at : List FileSpan → List Region → Option Region → Option PictureIndex
index_at joined regions None = None
index_at joined regions (Some index) = Some (record {
  start = index.range.start;
  old = pictures_len regions;
  kept = pictures_len (kept joined regions);
  pushed = list_any (λ r. is_index r.kind) (before joined regions);
})

-- the first index with its sums; the new segments push what is behind them
abbrev pub index_of : List FileSpan → List Region → Option PictureIndex
index_of joined regions = index_at joined regions (find (λ r. is_index r.kind) regions)

abbrev pub new_len : PictureIndex → ℕ → ℕ
new_len index added = told (index.kept + (if index.pushed then added else 0))

-- its start and both sums, where these differ
abbrev pub moved_by : PictureIndex → ℕ → Option MovedPictures
moved_by index added =
    if new_len index added == index.old then None else Some (record { start = index.start; old = index.old; new = new_len index added })

abbrev pub moved_of : Option PictureIndex → ℕ → Option MovedPictures
moved_of None added = None
moved_of (Some index) added = moved_by index added

-- The index that would be wrong after a relocation, whose new segments have so many bytes.
abbrev pub moved_pictures : List FileSpan → List Region → ℕ → Option MovedPictures
moved_pictures joined regions added = moved_of (index_of joined regions) added
