-- What loading a file does to a desk, and what it answers.
use Rattle.std.specs.Prelude.{◌≡◌, ◌≢◌, ◌⊎◌, ℕ, Bool, true, false, ◌+◌, ◌≤◌, ◌<◌, List, [], ◌∷◌, ◌++◌, length, map, min, All, IfOk, IsOk, IsTrue, Option, Some, None, Ok, Err}
use Rattle.std.specs.declared.result.Result.{Result}
use Rattle.std.specs.FinMap.{get}
use Rattle.xmp_base.specs.Device.{DeskState, Moved, Told, Rose, bytes_of, len_of, OthersKeep}
use Rattle.xmp_base.specs.Whole.{ReadSome, ReadsOf}
use Rattle.xmp_base.specs.Windows.{MovesInside, ReadInside}
use Rattle.xmp_values.specs.declared.faults.Fault.{Fault}
use Rattle.xmp_values.specs.declared.rules.Rule.{Rule}
use Rattle.xmp_values.specs.declared.rules.Rule.TheVariants.{FileLimit, NotKnown, BigTiff, NotBuilt, XmpLimit}
use Rattle.xmp_values.specs.Stops.{fault_at}
use Rattle.tiff_dirs.specs.declared.stop.WalkStop.{WalkStop}
use Rattle.tiff_dirs.specs.declared.stop.WalkStop.TheVariants as walks
use Rattle.xmp_values.specs.declared.faults.Part.TheVariants.{File}
use Rattle.jpeg_regions.specs.Cutting.{Tiles}
use Rattle.jpeg_regions.specs.Jpeg.{FaultIn, portion_payloads}
use Rattle.xmp_values.specs.declared.stops.DeviceStop.{DeviceStop}
use Rattle.xmp_values.specs.declared.stops.DeviceStop.TheVariants as cuts
use Rattle.xmp_values.specs.declared.stops.FileStop.{FileStop}
use Rattle.xmp_values.specs.declared.stops.FileStop.TheVariants.{Absent, Fault as Refused, Device, Memory}
use Rattle.xmp_files.specs.declared.kinds.Kind.{Kind}
use Rattle.xmp_base.specs.declared.file_span.FileSpan.{FileSpan}
use Rattle.jpeg_extended.specs.declared.from_desk.JoinStop.{JoinStop}
use Rattle.jpeg_extended.specs.declared.from_desk.JoinStop.TheVariants as joins
use Rattle.jpeg_extended.specs.FromDesk.{named_at, portions_at, head_range, ArePicked, InPayload, PayloadCalls}
use Rattle.xmp_files.specs.declared.held.Need.{Need}
use Rattle.xmp_files.specs.declared.held.Extended.{Extended}
use Rattle.xmp_files.specs.declared.held.ExtendedText.{ExtendedText}
use Rattle.xmp_files.specs.Faults.{no_file, file_limit, over_limit, not_known, short_offsets, not_built, packet_limit, over_packet}
use Rattle.xmp_files.specs.Stages.{Followed}
use Rattle.xmp_files.specs.Keeping.{Piece, Container, Text, Segments, Directories, Kept}
use Rattle.xmp_files.specs.Meanings.{IsNoteOf}
use Rattle.xmp_files.specs.Photographs.{IsExtended, IsCut}
use Rattle.xmp_files.specs.Images.{is_walk_rule, image_fault}
use Rattle.xmp_files.specs.Loading.{known, kind_of_file, IsKept, IsLoaded}
use Rattle.xmp_files.specs.Sparing.{Spared}

-- What was answered is a step; a failure of the desk and want of memory have clauses of their own.
abbrev pub LoadGives : Result Kept FileStop → (Result Kept Fault → Type 0) → Type 0
LoadGives (Ok kept) IsStep = IsStep (Ok kept)
LoadGives (Err Absent) IsStep = IsStep (Err no_file)
LoadGives (Err (Refused fault)) IsStep = IsStep (Err fault)
LoadGives (Err Device) IsStep = Unit {0}
LoadGives (Err Memory) IsStep = Unit {0}

-- a refusal of a JPEG file's segments
abbrev pub IsCutRefusal : ℕ → Rule → Fault → Type 0
IsCutRefusal size rule fault = FaultIn size fault.place.at rule × (fault ≡ fault_at rule File fault.place.at)

-- a refusal of a TIFF file's directories
abbrev pub IsWalkRefusal : Rule → Fault → Type 0
IsWalkRefusal rule fault = IsTrue (is_walk_rule rule) × (fault ≡ image_fault rule fault.place.at fault.x fault.y)

-- The refusals, by their rules, of a file of a length. A payload is no longer than its file. All other rules are those of segments and
-- of directories.
abbrev pub IsLoadRefusal : ℕ → Rule → Fault → Type 0
IsLoadRefusal size FileLimit fault = (file_limit < size) × (fault ≡ over_limit size)
IsLoadRefusal size NotKnown fault = fault ≡ not_known
IsLoadRefusal size BigTiff fault = fault ≡ short_offsets
IsLoadRefusal size NotBuilt fault = fault ≡ not_built
IsLoadRefusal size XmpLimit fault = (packet_limit < fault.x) × (fault.x ≤ size) × (fault ≡ over_packet fault.x)
IsLoadRefusal size rule fault = IsCutRefusal size rule fault ⊎ IsWalkRefusal rule fault

-- Of a file that is refused for its length no byte is read, and of one that is refused by its kind the first 16. What else is read
-- of a file is said by what is spared.
abbrev pub read_before : Rule → ℕ → ℕ
read_before FileLimit size = 0
read_before NotKnown size = 16
read_before BigTiff size = 16
read_before NotBuilt size = 16
read_before rule size = size

-- the refusals of a file whose directories were read
abbrev pub follows_walk : Rule → Bool
follows_walk XmpLimit = true
follows_walk rule = is_walk_rule rule

-- no more was read than that; directories are read wherever the file says that they stand
abbrev pub RefusalReads : Rule → ℕ → List ℕ → Option (List Moved) → Option (List Moved) → Type 0
RefusalReads rule size name old new = MovesInside name 0 (read_before rule size) old new ⊎ (IsTrue (follows_walk rule) × ReadsOf name old new)

-- a refusal is one of those above, with the file's length, and no more is read than that
pub record Refusal (s t : DeskState) (name : List ℕ) (fault : Fault) : Type 0 where
  pub numbers : IsLoadRefusal (len_of t name) fault.rule fault
  pub reads : RefusalReads fault.rule (len_of t name) name s.reads t.reads

abbrev pub Refuses : DeskState → DeskState → List ℕ → Result Kept FileStop → Type 0
Refuses s t name result = (fault : Fault) → result ≡ Err (Refused fault) → Refusal s t name fault

-- why a file that isn't cut is refused
abbrev pub cut_stop : DeviceStop → FileStop
cut_stop (cuts.Fault rule place) = Refused (fault_at rule File place)
cut_stop cuts.Device = Device
cut_stop cuts.Memory = Memory

-- Why a file that isn't walked is refused. A walk tells no other rules than those of directories.
abbrev pub walked_stop : Bool → Fault → FileStop
walked_stop true fault = Refused fault
walked_stop false fault = Memory

abbrev pub walk_stop : WalkStop → FileStop
walk_stop (walks.Fault rule place x y) = walked_stop (is_walk_rule rule) (image_fault rule place x y)
walk_stop walks.Device = Device
walk_stop walks.Memory = Memory

-- why portions weren't found or read: the device failed, or memory ran out
abbrev pub join_stop : JoinStop → FileStop
join_stop joins.Device = Device
join_stop (joins.Portions stop) = Memory

-- the name of an extended text, by the note of a packet, which is read where there is a portion at all
abbrev pub IsNoteFor : List FileSpan → List ℕ → Option (List ℕ) → Type 0
IsNoteFor [] packet note = note ≡ None
IsNoteFor (payload ∷ payloads) packet note = IsNoteOf packet note

-- memory ran out, or the device failed and counted it
abbrev pub FailsOnly : {A : Type 0} → DeskState → DeskState → Result A FileStop → Type 0
FailsOnly s t (Ok x) = Unit {0}
FailsOnly s t (Err Absent) = ⊥
FailsOnly s t (Err (Refused fault)) = ⊥
FailsOnly s t (Err Device) = Rose s.faults t.faults
FailsOnly s t (Err Memory) = Unit {0}

-- portions of a file were joined
pub record JoinedCall (s t : DeskState) (name : List ℕ) (portions : List FileSpan) (note : List ℕ) (result : Result (Option Extended) FileStop) : Type 0 where
  pub calls : PayloadCalls s t name portions
  pub told : IfOk result (λ extended. Told s.files (λ files. IsExtended (portions_at (bytes_of files name) note portions) extended))
  pub fails : FailsOnly s t result

-- the bytes that were moved lie in the head of a payload, or in a portion of the text
pub record OfPortions (file note : List ℕ) (payloads : List FileSpan) (name : List ℕ) (m : Moved) : Type 0 where
  pub of_name : m.0 ≡ name
  pub place : InPayload (map head_range payloads) m.1 (m.1 + m.2) ⊎ InPayload (named_at file note payloads) m.1 (m.1 + m.2)

-- the extended text of a name was found among payloads of a known file of this length, and joined
pub record ExtendedCall (s t : DeskState) (name : List ℕ) (size : ℕ) (payloads : List FileSpan) (note : List ℕ) (result : Result ExtendedText FileStop) : Type 0 where
  pub calls : ReadInside s t name 0 size
  pub near : Told s.files (λ files. Told s.reads (λ reads. (more : List Moved) × (t.reads ≡ Some (reads ++ more)) × All (OfPortions (bytes_of files name) note payloads name) more))
  pub among : IfOk result (λ text. ArePicked text.portions.items payloads)
  pub told : IfOk result (λ text. Told s.files (λ files. (text.portions.items ≡ named_at (bytes_of files name) note payloads)
      × IsExtended (portions_at (bytes_of files name) note text.portions.items) text.joined))
  pub fails : FailsOnly s t result

-- a payload lies in its file and is within its limit
abbrev pub PayloadLies : ℕ → Option Piece → Type 0
PayloadLies size None = Unit {0}
PayloadLies size (Some payload) = (payload.at + length payload.bytes ≤ size) × (length payload.bytes ≤ packet_limit)

-- the regions of a JPEG file tile it, and the portions of the extended text are some of its
abbrev pub ContainerLies : ℕ → Container → List FileSpan → Type 0
ContainerLies size Text portions = Unit {0}
ContainerLies size (Segments regions) portions = Tiles 2 size regions × ArePicked portions (portion_payloads regions)
ContainerLies size (Directories len tiff) portions = len ≡ size

-- what is kept has the length of the file, in which its payload and its regions lie
pub record IsOfSize (size : ℕ) (kept : Kept) : Type 0 where
  pub whole : kept.size ≡ size
  pub payload : PayloadLies size kept.payload
  pub container : ContainerLies size kept.container kept.portions

-- A JPEG file of this length was kept, whose regions and packet are known.
pub record KeptCall (need : Need) (s t : DeskState) (name : List ℕ) (size : ℕ) (result : Result Kept FileStop) : Type 0 where
  pub calls : ReadInside s t name 0 size
  pub spared : Spared need s t name
  pub told : IfOk result (λ kept. Told s.files (λ files. IsCut need (bytes_of files name) (Ok kept)))
  pub held : IfOk result (IsOfSize size)
  pub fails : FailsOnly s t result

-- the kind of a file, by its first bytes; or it has none that is read; or the device failed
abbrev pub KindAnswer : DeskState → DeskState → List ℕ → Result Kind FileStop → Type 0
KindAnswer s t name (Ok kind) = Told s.files (λ files. known (bytes_of files name) ≡ Ok kind)
KindAnswer s t name (Err (Refused fault)) = Told s.files (λ files. known (bytes_of files name) ≡ Err fault) × ((fault ≡ not_known) ⊎ (fault ≡ short_offsets))
KindAnswer s t name (Err Device) = Rose s.faults t.faults
KindAnswer s t name (Err Absent) = ⊥
KindAnswer s t name (Err Memory) = ⊥

-- the kind of a known file of this length was read from its first bytes
pub record KindCall (s t : DeskState) (name : List ℕ) (size : ℕ) (result : Result Kind FileStop) : Type 0 where
  pub calls : ReadInside s t name 0 (min size 16)
  pub answer : KindAnswer s t name result

-- some calls that read this name, of known length
pub record ReadKnown (s t : DeskState) (name : List ℕ) : Type 0 where
  pub some : ReadSome s t name
  pub lens : t.lens ≡ s.lens

-- a known file of this length was loaded
pub record SizedCall (need : Need) (s t : DeskState) (name : List ℕ) (size : ℕ) (result : Result Kept FileStop) : Type 0 where
  pub calls : ReadKnown s t name
  pub told : Told s.files (λ files. LoadGives result (Followed (known (bytes_of files name)) (IsKept need (bytes_of files name))))
  pub memory : Told s.files (λ files. result ≡ Err Memory → IsOk (known (bytes_of files name)))
  pub there : result ≡ Err Absent → ⊥
  pub device : result ≡ Err Device → Rose s.faults t.faults
  pub refuses : Refuses s t name result
  -- the length is within the limit of a file
  pub limited : (fault : Fault) → result ≡ Err (Refused fault) → fault.rule ≢ FileLimit
  pub spared : Spared need s t name
  pub held : IfOk result (IsOfSize size)

-- The clauses of `load`, from the desk's state s to t.
pub record LoadCall (need : Need) (s t : DeskState) (name : List ℕ) (result : Result Kept FileStop) : Type 0 where
  -- this file alone was read, and none was changed
  pub calls : ReadSome s t name
  pub others : OthersKeep s.lens t.lens name
  -- over files that are told, each answer is a step; there is at most one
  pub told : Told s.files (λ files. LoadGives result (IsLoaded need (get files name)))
  -- memory is wanted of a file alone that is there, within the limit and of a kind
  pub memory : Told s.files (λ files. result ≡ Err Memory → IsOk (kind_of_file (get files name)))
  -- a file that isn't there was missed
  pub missed : result ≡ Err Absent → Rose s.misses t.misses
  -- a failure of the desk was counted
  pub device : result ≡ Err Device → Rose s.faults t.faults
  -- whatever the desk tells, a refusal has its place and its numbers, and little was read before it
  pub refuses : Refuses s t name result
  -- no byte of a picture alone was read, and none of a payload over its limit
  pub spared : Spared need s t name
  -- the file of what is kept is known with its length
  pub held : IfOk result (λ kept. (get t.lens name ≡ Some kept.size) × IsOfSize kept.size kept)
