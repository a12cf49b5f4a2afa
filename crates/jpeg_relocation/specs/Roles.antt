-- What becomes of each region, and how joined portions are met in the order of the file.
use Rattle.std.specs.Prelude.{◌≡◌, ℕ, ◌&&◌, not, Bool, true, false, if◌then◌else◌, List, drop, filter, Option, None, Some}
use Rattle.xmp_base.specs.declared.file_span.FileSpan.{FileSpan}
use Rattle.jpeg_regions.specs.declared.kind.RegionKind.{RegionKind}
use Rattle.jpeg_regions.specs.Jpeg.{Region, is_main, portion_payloads}
use Rattle.jpeg_relocation.specs.declared.roles.Role.{Role}
use Rattle.jpeg_relocation.specs.declared.roles.Role.TheVariants.{Kept, Main, Joined}
use Rattle.jpeg_relocation.specs.Relocation.{same_span, is_joined, is_lead}

abbrev pub role : List FileSpan → Region → Role
role joined r = if is_main r.kind then Main else if is_joined joined r then Joined else Kept

-- whether this payload is there
abbrev pub is_at : Option FileSpan → FileSpan → Bool
is_at None payload = false
is_at (Some next) payload = same_span next payload

-- from a region on, the joined portions are those from a number on
pub record IsNext (joined : List FileSpan) (regions : List Region) (i portion : ℕ) : Type 0 where
  pub chosen : FileSpan → Bool
  pub whole : joined ≡ filter chosen (portion_payloads regions)
  pub rest : drop portion joined ≡ filter chosen (portion_payloads (drop i regions))

-- whether the new segments stand before a region, where no main one stood in the file, or where one did
abbrev pub stops : Bool → Role → RegionKind → Bool
stops first Main kind = true
stops first Joined kind = false
stops first Kept kind = first && not (is_lead kind)

abbrev pub goes_before : List FileSpan → Bool → Region → Bool
goes_before joined first r = not (stops first (role joined r) r.kind)
