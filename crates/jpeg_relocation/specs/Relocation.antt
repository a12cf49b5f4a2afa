-- What a relocation keeps of a JPEG file, and where its new segments stand among that (XMP Part 3, section 1.1.3).
use Rattle.std.specs.Prelude.{ℕ, ◌==◌, ◌&&◌, ◌||◌, not, Bool, true, false, if◌then◌else◌, List, ◌∷◌, ◌++◌, length, take, drop, filter, take_while, flat_map}
use Rattle.std.specs.List.{list_any, prefix_len}
use Rattle.xmp_base.specs.declared.file_span.FileSpan.{FileSpan}
use Rattle.jpeg_regions.specs.declared.kind.RegionKind.{RegionKind}
use Rattle.jpeg_regions.specs.declared.kind.RegionKind.TheVariants.{Main, Portion, Exif, Resources, Mpf, App0, Other, Alone, Tail}
use Rattle.jpeg_regions.specs.Jpeg.{Region, is_main, is_extension}
use Rattle.jpeg_extended.specs.FromDesk.{payload_at}

-- the bytes of a region
abbrev pub part_of : List ℕ → Region → List ℕ
part_of file r = payload_at file r.range

abbrev pub same_span : FileSpan → FileSpan → Bool
same_span a b = a.start == b.start && a.end == b.end

-- whether a region is a portion whose payload is one of those that were joined
abbrev pub is_joined : List FileSpan → Region → Bool
is_joined joined r = is_extension r.kind && list_any (same_span r.payload) joined

-- all but the main packet and the joined portions stays
abbrev pub is_kept : List FileSpan → Region → Bool
is_kept joined r = not (is_main r.kind || is_joined joined r)

abbrev pub kept : List FileSpan → List Region → List Region
kept joined regions = filter (is_kept joined) regions

-- the segments of JFIF and of Exif, which want to stand first
abbrev pub is_lead : RegionKind → Bool
is_lead Main = false
is_lead Portion = false
is_lead Exif = true
is_lead Resources = false
is_lead Mpf = false
is_lead App0 = true
is_lead Other = false
is_lead Alone = false
is_lead Tail = false

abbrev pub has_main : List Region → Bool
has_main regions = list_any (λ r. is_main r.kind) regions

-- as many kept regions as stand before the main one
abbrev pub before_main : List FileSpan → List Region → ℕ
before_main joined regions = length (kept joined (take_while (λ r. not (is_main r.kind)) regions))

-- After how many kept regions the new segments stand: as many as stood before the main one, else the longest run of
-- segments of JFIF and of Exif that begins the kept ones.
abbrev pub place : List FileSpan → List Region → ℕ
place joined regions =
    if has_main regions then before_main joined regions
    else prefix_len (λ r. is_lead r.kind) (kept joined regions)

abbrev pub before : List FileSpan → List Region → List Region
before joined regions = take (place joined regions) (kept joined regions)

abbrev pub after : List FileSpan → List Region → List Region
after joined regions = drop (place joined regions) (kept joined regions)

-- FF D8, the kept regions before the place, the new bytes, the other kept regions: each has its old bytes
abbrev pub relocated_file : List ℕ → List FileSpan → List Region → List ℕ → List ℕ
relocated_file file joined regions new =
    0xFF ∷ 0xD8 ∷ (flat_map (part_of file) (before joined regions) ++ (new ++ flat_map (part_of file) (after joined regions)))
