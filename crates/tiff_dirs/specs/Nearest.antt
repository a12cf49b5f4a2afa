-- Going over ranges once for the first that meets another.
use Rattle.std.specs.Prelude.{ℕ, ◌==◌, nat_lt, nat_le, ◌&&◌, ◌||◌, Bool, if◌then◌else◌, List, [], ◌∷◌, All, Contains, Some, None}
use Rattle.std.specs.declared.option.Option.{Option}
use Rattle.xmp_base.specs.declared.file_span.FileSpan.{FileSpan}
use Rattle.tiff_dirs.specs.declared.stop.TiffStop.{TiffStop}
use Rattle.tiff_dirs.specs.Tiff.{Tiff}
use Rattle.tiff_dirs.specs.Overlaps.{Meets, Before, Met, Clear, Overlaps, NoOverlap}

abbrev pub meets : FileSpan → FileSpan → Bool
meets a b = nat_lt a.start b.end && nat_lt b.start a.end

abbrev pub comes_before : FileSpan → FileSpan → Bool
comes_before a b = nat_lt a.start b.start || (a.start == b.start && nat_le a.end b.end)

abbrev pub lesser : Option FileSpan → FileSpan → FileSpan
lesser None other = other
lesser (Some best) other = if comes_before best other then best else other

-- the best so far, and one range more
unfoldable pub closer : FileSpan → Option FileSpan → FileSpan → Option FileSpan
closer own best other = if meets own other then Some (lesser best other) else best

-- and more of them
abbrev pub closest : FileSpan → Option FileSpan → List FileSpan → Option FileSpan
closest own best [] = best
closest own best (r ∷ rs) = closest own (closer own best r) rs

-- of those that were seen, the least that meets it
abbrev pub Best : FileSpan → List FileSpan → Option FileSpan → Type 0
Best own seen None = All (λ r. Meets own r → ⊥) seen
Best own seen (Some best) = Contains seen best × Meets own best × All (λ r. Meets own r → Before best r) seen

-- the value with the range that it meets
abbrev pub MeetingAnswer : ℕ → Tiff → Option (FileSpan × FileSpan) → Type 0
MeetingAnswer tag tiff None = Clear tag tiff
MeetingAnswer tag tiff (Some m) = Met tag tiff m.0 m.1

-- the first fault of the named ranges, if there is one
abbrev pub OverlapAnswer : Tiff → Option TiffStop → Type 0
OverlapAnswer tiff None = NoOverlap tiff
OverlapAnswer tiff (Some stop) = Overlaps tiff stop
