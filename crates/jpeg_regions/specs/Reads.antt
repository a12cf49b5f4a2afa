-- What a reader of regions knows of a file, and what follows from the bytes that it is given.
use Rattle.std.specs.Prelude.{◌≡◌, ℕ, ◌+◌, ◌*◌, ◌-◌, ◌<◌, ◌≤◌, List, ◌∷◌, ◌++◌, length, drop, replicate, Ok, Err}
use Rattle.std.specs.declared.result.Result.{Result}
use Rattle.xmp_values.specs.declared.rules.Rule.{Rule}
use Rattle.jpeg_regions.specs.declared.marker.Class.TheVariants.{Sized}
use Rattle.jpeg_regions.specs.declared.kind.RegionKind.{RegionKind}
use Rattle.jpeg_regions.specs.declared.kind.RegionKind.TheVariants.{Main, Portion, Exif, Resources, Mpf, App0, Other, Alone, Tail}
use Rattle.jpeg_regions.specs.declared.reading.Wants.{Wants}
use Rattle.jpeg_regions.specs.declared.reading.Wants.TheVariants.{Start, Marker, Length, Payload}
use Rattle.jpeg_regions.specs.declared.reading.Found.{Found}
use Rattle.jpeg_regions.specs.declared.reading.Reading.{Reading}
use Rattle.jpeg_regions.specs.declared.reading.Step.{Step}
use Rattle.jpeg_regions.specs.declared.reading.Step.TheVariants.{More, Inner, Last}
use Rattle.jpeg_regions.specs.Markers.{class_of}
use Rattle.jpeg_regions.specs.Jpeg.{Segment, Region, text, span, region, IsInner, IsTail, Breaks, FaultIn}

-- after the region's start stand FF bytes up to a place
pub record AfterFill (file : List ℕ) (start at : ℕ) : Type 0 where
  pub fill : ℕ
  pub filled : 0 < fill
  pub place : at ≡ start + fill
  pub bytes : drop start file ≡ replicate fill 0xFF ++ drop at file

-- up to a place stand FF bytes and a marker that has a length
pub record AfterMarker (file : List ℕ) (start at marker : ℕ) : Type 0 where
  pub fill : ℕ
  pub filled : 0 < fill
  pub classed : class_of marker ≡ Sized
  pub place : at ≡ start + fill + 1
  pub bytes : drop start file ≡ replicate fill 0xFF ++ marker ∷ drop at file

-- up to a place stand FF bytes, a marker and the length of a payload
pub record AfterLength (file : List ℕ) (start at marker len : ℕ) : Type 0 where
  pub fill : ℕ
  pub high : ℕ
  pub low : ℕ
  pub filled : 0 < fill
  pub classed : class_of marker ≡ Sized
  pub place : at ≡ start + fill + 3
  pub counted : 256 * high + low ≡ len + 2
  pub bytes : drop start file ≡ replicate fill 0xFF ++ marker ∷ high ∷ low ∷ drop at file

-- what the bytes from the region's start up to a place are, by what is wanted there
abbrev pub Reads : List ℕ → ℕ → ℕ → Wants → Type 0
Reads file start at Start = at ≡ start
Reads file start at Marker = AfterFill file start at
Reads file start at (Length marker) = AfterMarker file start at marker
Reads file start at (Payload marker len) = AfterLength file start at marker len

-- what a found region is to contracts; a tail's payload is empty
abbrev pub payload_end : RegionKind → ℕ → ℕ → ℕ
payload_end Tail payload end = payload
payload_end Main payload end = end
payload_end Portion payload end = end
payload_end Exif payload end = end
payload_end Resources payload end = end
payload_end Mpf payload end = end
payload_end App0 payload end = end
payload_end Other payload end = end
payload_end Alone payload end = end

abbrev pub region_of : Found → Region
region_of f = record { kind = f.kind; range = span f.start f.end; payload = span f.payload (payload_end f.kind f.payload f.end) }

-- the file has this segment there, and it is none of the tail
pub record FoundInner (file : List ℕ) (found : Found) : Type 0 where
  pub segment : Segment
  pub inner : IsInner segment
  pub bytes : drop found.start file ≡ text segment ++ drop found.end file
  pub whole : found.end ≡ found.start + length (text segment)
  pub is : region_of found ≡ region found.start segment

-- the file ends with this tail
pub record FoundTail (file : List ℕ) (found : Found) : Type 0 where
  pub segment : Segment
  pub last : IsTail segment
  pub bytes : drop found.start file ≡ text segment
  pub is : region_of found ≡ region found.start segment

-- what a step answers, for a file of which this much is known
abbrev pub Steps : List ℕ → ℕ → Result Step Rule → Type 0
Steps file start (Ok (More next)) = Reads file next.start next.at next.wants
Steps file start (Ok (Inner found)) = FoundInner file found
Steps file start (Ok (Last found)) = FoundTail file found
Steps file start (Err rule) = Breaks (drop start file) rule

-- A step goes on: what is left to do gets less.
abbrev pub weight : Wants → ℕ
weight Start = 0
weight Marker = 0
weight (Length marker) = 0
weight (Payload marker len) = 1

abbrev pub work : ℕ → ℕ → Wants → ℕ
work len at wants = 2 * (len - at) + weight wants

-- the numbers of a step's answer, whatever the file holds
pub record GoesOn (len start at : ℕ) (wants : Wants) (next : Reading) : Type 0 where
  pub same_file : next.len ≡ len
  pub same_start : next.start ≡ start
  pub less : work len next.at next.wants < work len at wants

pub record Finds (len start at : ℕ) (wants : Wants) (found : Found) : Type 0 where
  pub same_start : found.start ≡ start
  pub order : start < found.payload
  pub payload : found.payload ≤ found.end
  pub end : found.end ≤ len
  pub less : 2 * (len - found.end) < work len at wants

pub record Ends (len start : ℕ) (found : Found) : Type 0 where
  pub same_start : found.start ≡ start
  pub order : start < found.payload
  pub payload : found.payload ≤ found.end
  pub end : found.end ≡ len

abbrev pub Progress : ℕ → ℕ → ℕ → Wants → Result Step Rule → Type 0
Progress len start at wants (Ok (More next)) = GoesOn len start at wants next
Progress len start at wants (Ok (Inner found)) = Finds len start at wants found
Progress len start at wants (Ok (Last found)) = Ends len start found
Progress len start at wants (Err rule) = FaultIn len start rule
