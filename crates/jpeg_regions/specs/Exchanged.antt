-- A file with a run of regions exchanged for other segments, none of which is the tail.
use Rattle.std.specs.Prelude.{◌≡◌, true, ℕ, ◌+◌, ◌-◌, slice_get, Some, List, [], ◌∷◌, ◌++◌, length, take, drop, map, flat_map}
use Rattle.xmp_base.specs.Device.{put_at}
use Rattle.jpeg_regions.specs.Jpeg.{Segment, Region, Jpeg, text, span, placed, is_main}

-- the place where a list begins
abbrev pub start_of : List Region → ℕ
start_of [] = 0
start_of (r ∷ rs) = r.range.start

-- the same region where what stood at one place stands at another
abbrev pub moved : ℕ → ℕ → Region → Region
moved old new r = record {
  kind = r.kind;
  range = span (r.range.start - old + new) (r.range.end - old + new);
  payload = span (r.payload.start - old + new) (r.payload.end - old + new);
}

-- the file with the bytes from one place up to another exchanged for those of segments
abbrev pub exchanged_file : List ℕ → ℕ → ℕ → List Segment → List ℕ
exchanged_file file start end segments = take start file ++ (flat_map text segments ++ drop end file)

-- the regions before that place, those of the segments, and the later ones, moved
abbrev pub exchanged_list : List Region → ℕ → ℕ → List Segment → List Region → List Region
exchanged_list before start end segments after =
    before ++ (placed start segments ++ map (moved end (start + length (flat_map text segments))) after)

-- a file with a packet, after its signature of 29 bytes, exchanged for one of its length
abbrev pub PacketExchanged : Type 0
PacketExchanged =
    (file : List ℕ) (regions : List Region) (i : ℕ) (r : Region) (packet : List ℕ) → Jpeg file regions → slice_get regions i ≡ Some r → is_main r.kind ≡ true
    → r.payload.start + 29 + length packet ≡ r.payload.end → Jpeg (put_at file (r.payload.start + 29) packet) regions
