-- JPEG files as lists of segments, the regions where these stand, and the first fault (ISO 10918-1, annex B.1).
use Rattle.std.specs.Prelude.{◌≡◌, ◌≢◌, ℕ, ◌+◌, ◌*◌, ◌<◌, ◌≤◌, ◌⊎◌, Bool, true, false, List, [], ◌∷◌, ◌++◌, length, replicate, map, filter, slice_get, flat_map, drop, Some}
use Rattle.std.specs.List.{AllByRecursion}
use Rattle.std.specs.Option.{option_map}
use Rattle.xmp_values.specs.declared.rules.Rule.{Rule}
use Rattle.xmp_values.specs.declared.rules.Rule.TheVariants.{BadMarker, BadLength, Truncated, NoTail, TwoPackets}
use Rattle.xmp_base.specs.declared.file_span.FileSpan.{FileSpan}
use Rattle.jpeg_regions.specs.declared.marker.Class.{Class}
use Rattle.jpeg_regions.specs.declared.marker.Class.TheVariants.{Fill, Refused, Single, Last, Sized}
use Rattle.jpeg_regions.specs.declared.kind.RegionKind.{RegionKind}
use Rattle.jpeg_regions.specs.declared.kind.RegionKind.TheVariants.{Main, Portion, Exif, Resources, Mpf, App0, Other, Alone, Tail}
use Rattle.jpeg_regions.specs.Markers.{class_of}
use Rattle.jpeg_regions.specs.Kinds.{kind_of}

-- A marker with what belongs to it: the number of FF bytes before its second byte, that byte, and the bytes after it.
pub record Segment : Type 0 where
  pub fill : ℕ
  pub marker : ℕ
  pub body : List ℕ

-- its bytes (B.1.1.2: any marker may be preceded by FF bytes)
abbrev pub text : Segment → List ℕ
text s = replicate s.fill 0xFF ++ s.marker ∷ s.body

-- a big-endian length that counts itself, and the payload (B.1.1.4)
abbrev pub HasLength : List ℕ → Type 0
HasLength [] = ⊥
HasLength (high ∷ []) = ⊥
HasLength (high ∷ low ∷ payload) = 256 * high + low ≡ length payload + 2

abbrev pub HasBody : Class → List ℕ → Type 0
HasBody Single body = body ≡ []
HasBody Sized body = HasLength body
HasBody Fill body = ⊥
HasBody Refused body = ⊥
HasBody Last body = ⊥

-- a segment before the tail
pub record IsInner (s : Segment) : Type 0 where
  pub filled : 0 < s.fill
  pub body : HasBody (class_of s.marker) s.body

-- the tail, whose body is the rest of the file
pub record IsTail (s : Segment) : Type 0 where
  pub filled : 0 < s.fill
  pub last : class_of s.marker ≡ Last

-- What a file has at a place: the kind, the whole range, and the range of the payload, which is empty after a marker
-- without length.
pub record Region : Type 0 where
  pub kind : RegionKind
  pub range : FileSpan
  pub payload : FileSpan

abbrev pub span : ℕ → ℕ → FileSpan
span start end = record { start = start; end = end }

-- a region without a payload: its range is empty, after the marker
abbrev pub bare : RegionKind → ℕ → Segment → Region
bare kind at s = record {
  kind = kind;
  range = span at (at + length (text s));
  payload = span (at + s.fill + 1) (at + s.fill + 1);
}

-- a segment that stands at a place
abbrev pub region_by : Class → ℕ → Segment → Region
region_by Sized at s = record {
  kind = kind_of s.marker (drop 2 s.body);
  range = span at (at + length (text s));
  payload = span (at + s.fill + 3) (at + length (text s));
}
region_by Last at s = bare Tail at s
region_by Single at s = bare Alone at s
region_by Fill at s = bare Alone at s
region_by Refused at s = bare Alone at s

abbrev pub region : ℕ → Segment → Region
region at s = region_by (class_of s.marker) at s

-- segments one after another, from a place on
abbrev pub placed : ℕ → List Segment → List Region
placed at [] = []
placed at (s ∷ ss) = region at s ∷ placed (at + length (text s)) ss

-- FF D8 (start of image), and segments of which the last is the tail
pub record Cuts (file : List ℕ) (regions : List Region) : Type 0 where
  pub segments : List Segment
  pub tail : Segment
  pub bytes : file ≡ 0xFF ∷ 0xD8 ∷ flat_map text (segments ++ tail ∷ [])
  pub inner : AllByRecursion IsInner segments
  pub last : IsTail tail
  pub listed : regions ≡ placed 2 (segments ++ tail ∷ [])

abbrev pub is_main : RegionKind → Bool
is_main Main = true
is_main Portion = false
is_main Exif = false
is_main Resources = false
is_main Mpf = false
is_main App0 = false
is_main Other = false
is_main Alone = false
is_main Tail = false

-- the main packets
abbrev pub mains : List Region → List Region
mains regions = filter (λ r. is_main r.kind) regions

abbrev pub is_extension : RegionKind → Bool
is_extension Main = false
is_extension Portion = true
is_extension Exif = false
is_extension Resources = false
is_extension Mpf = false
is_extension App0 = false
is_extension Other = false
is_extension Alone = false
is_extension Tail = false

-- where the payloads of the portions of extended texts stand
abbrev pub portion_payloads : List Region → List FileSpan
portion_payloads regions = map (λ r. r.payload) (filter (λ r. is_extension r.kind) regions)

-- the list of a file: at most one region is Main
pub record Jpeg (file : List ℕ) (regions : List Region) : Type 0 where
  pub cuts : Cuts file regions
  pub one : length (mains regions) ≤ 1

-- Less than a length and its payload.
abbrev pub IsShort : List ℕ → Type 0
IsShort [] = Unit {0}
IsShort (high ∷ []) = Unit {0}
IsShort (high ∷ low ∷ payload) = (2 ≤ 256 * high + low) × (length payload + 2 < 256 * high + low)

-- a length that doesn't count itself
abbrev pub IsLow : List ℕ → Type 0
IsLow [] = ⊥
IsLow (high ∷ []) = ⊥
IsLow (high ∷ low ∷ payload) = 256 * high + low < 2

-- the rest begins with FF bytes and a second byte of a class
pub record Begins (rest : List ℕ) (class : Class) (body : List ℕ) : Type 0 where
  pub fill : ℕ
  pub marker : ℕ
  pub filled : 0 < fill
  pub classed : class_of marker ≡ class
  pub bytes : rest ≡ replicate fill 0xFF ++ marker ∷ body

-- Why no segment stands where the rest of a file begins.
pub data Breaks (rest : List ℕ) : Rule → Type 0 where
  -- the file ends where a segment could begin
  ended : rest ≡ [] → Breaks rest NoTail
  -- no FF stands there
  unmarked : (c : ℕ) (more : List ℕ) → rest ≡ c ∷ more → c ≢ 0xFF → Breaks rest BadMarker
  refused : (body : List ℕ) → Begins rest Refused body → Breaks rest BadMarker
  low : (body : List ℕ) → Begins rest Sized body → IsLow body → Breaks rest BadLength
  -- the file ends inside the FF bytes, the length or the payload
  filling : (fill : ℕ) → 0 < fill → rest ≡ replicate fill 0xFF → Breaks rest Truncated
  short : (body : List ℕ) → Begins rest Sized body → IsShort body → Breaks rest Truncated

-- the first region that is none: before it stand segments that aren't the tail
pub record Broken (file : List ℕ) (rule : Rule) (place : ℕ) : Type 0 where
  pub segments : List Segment
  pub rest : List ℕ
  pub bytes : file ≡ 0xFF ∷ 0xD8 ∷ (flat_map text segments ++ rest)
  pub inner : AllByRecursion IsInner segments
  pub breaks : Breaks rest rule
  pub start : place ≡ 2 + length (flat_map text segments)

-- all is cut, and a second region is Main
pub record SecondMain (file : List ℕ) (rule : Rule) (place : ℕ) : Type 0 where
  pub regions : List Region
  pub cuts : Cuts file regions
  pub named : rule ≡ TwoPackets
  pub second : option_map (λ r. r.range.start) (slice_get (mains regions) 1) ≡ Some place

-- A fault's rule and place in a file of `len` bytes, whatever these are. A missing tail is told at
-- the file's end, and all else at a byte of the file.
pub data FaultIn (len place : ℕ) : Rule → Type 0 where
  no_tail : place ≡ len → FaultIn len place NoTail
  bad_marker : place < len → FaultIn len place BadMarker
  bad_length : place < len → FaultIn len place BadLength
  truncated : place < len → FaultIn len place Truncated
  two_packets : place < len → FaultIn len place TwoPackets

-- the first fault of a file that begins FF D8
abbrev pub FirstFault : List ℕ → Rule → ℕ → Type 0
FirstFault file rule place = Broken file rule place ⊎ SecondMain file rule place
