-- What joining portions of a file of a device does and answers.
use Rattle.std.specs.Prelude.{◌≡◌, ℕ, ◌+◌, ◌-◌, ◌≤◌, min, Bool, if◌then◌else◌, List, [], ◌∷◌, ◌++◌, length, take, drop, map, filter, flat_map, slice_get, All, IfOk, IfSome, Vec, Option, Some, Ok, Err}
use Rattle.std.specs.declared.result.Result.{Result}
use Rattle.std.specs.declared.alloc.Global.{Global}
use Rattle.xmp_base.specs.Device.{DeskState, Moved, Told, Rose, SameFiles, NotFewer, bytes_of}
use Rattle.xmp_base.specs.declared.file_span.FileSpan.{FileSpan}
use Rattle.jpeg_extended.specs.declared.from_desk.JoinStop.{JoinStop}
use Rattle.jpeg_extended.specs.declared.from_desk.JoinStop.TheVariants.{Portions, Device}
use Rattle.jpeg_extended.specs.declared.tiling.ExtStop.TheVariants as stops
use Rattle.jpeg_extended.specs.declared.tiling.Head.{Head}
use Rattle.jpeg_extended.specs.Heads.{bytes_in}
use Rattle.jpeg_extended.specs.Joined.{JoinAnswer}
use Rattle.jpeg_extended.specs.Portions.{Portion, head_of, is_named, portion_of}

-- the bytes of a range of a file
abbrev pub payload_at : List ℕ → FileSpan → List ℕ
payload_at file range = take (range.end - range.start) (drop range.start file)

-- the portions of a name among payloads of a file, in their order
abbrev pub portions_at : List ℕ → List ℕ → List FileSpan → List Portion
portions_at file name payloads = flat_map (λ p. portion_of name (payload_at file p)) payloads

-- whether the payload at a range of a file is a portion of the text of a name
abbrev pub is_portion_at : List ℕ → List ℕ → FileSpan → Bool
is_portion_at file name payload = is_named name (payload_at file payload) (length (payload_at file payload))

-- those that are, in their order
abbrev pub named_at : List ℕ → List ℕ → List FileSpan → List FileSpan
named_at file name payloads = filter (is_portion_at file name) payloads

-- where the head of a payload stands that tells whether it is a portion
abbrev pub head_range : FileSpan → FileSpan
head_range payload = record { start = payload.start; end = min payload.end (payload.start + 75) }

-- ranges of a file of this length
abbrev pub AreInside : ℕ → List FileSpan → Type 0
AreInside len payloads = All (λ p. (p.start ≤ p.end) × (p.end ≤ len)) payloads

-- a range of a file lies in one of the payloads
pub record InPayload (payloads : List FileSpan) (start end : ℕ) : Type 0 where
  pub number : ℕ
  pub payload : FileSpan
  pub there : slice_get payloads number ≡ Some payload
  pub from : payload.start ≤ start
  pub to : end ≤ payload.end

-- the portions of these heads lie in payloads
abbrev pub AreOf : List FileSpan → List Head → Type 0
AreOf payloads heads = All (λ h. InPayload payloads h.at (h.at + h.len)) heads

-- Some calls that read this name, each inside a payload.
pub record PayloadCalls (s t : DeskState) (name : List ℕ) (payloads : List FileSpan) : Type 0 where
  pub same : SameFiles s t
  pub counts : NotFewer s t
  pub lens : t.lens ≡ s.lens
  pub reads : Told s.reads (λ reads. (more : List Moved) × (t.reads ≡ Some (reads ++ more))
      × All (λ m. (m.0 ≡ name) × InPayload payloads m.1 (m.1 + m.2)) more)

-- what a head that was read of a payload is
abbrev pub HeadIs : List ℕ → List ℕ → FileSpan → Option Head → Type 0
HeadIs name file payload head = head ≡ head_of name (take 75 (drop payload.start file)) payload

-- a head's bytes lie in its payload
abbrev pub HeadLies : FileSpan → Option Head → Type 0
HeadLies payload head = IfSome head (λ h. (payload.start ≤ h.at) × (h.at + h.len ≤ payload.end))

-- memory ran out, or the device failed and counted it
abbrev pub StopsOnly : {A : Type 0} → DeskState → DeskState → Result A JoinStop → Type 0
StopsOnly s t (Ok x) = Unit {0}
StopsOnly s t (Err (Portions stop)) = stop ≡ stops.Memory
StopsOnly s t (Err Device) = Rose s.faults t.faults

-- those with a flag, in their order
abbrev pub picked : List Bool → List FileSpan → List FileSpan
picked [] all = []
picked (flag ∷ flags) [] = []
picked (flag ∷ flags) (payload ∷ payloads) = if flag then payload ∷ picked flags payloads else picked flags payloads

-- some of all payloads, in their order
pub record ArePicked (some all : List FileSpan) : Type 0 where
  pub flags : List Bool
  pub as_many : length flags ≡ length all
  pub is : some ≡ picked flags all

-- The portions of a name were found among payloads, of which the heads alone were read.
pub record NamedCall (s t : DeskState) (file : List ℕ) (len : ℕ) (payloads : List FileSpan) (name : List ℕ) (result : Result (Vec FileSpan Global) JoinStop) : Type 0 where
  pub calls : PayloadCalls s t file (map head_range payloads)
  pub inside : IfOk result (λ named. AreInside len named.items)
  -- they are some of these, whatever the device tells
  pub among : IfOk result (λ named. ArePicked named.items payloads)
  pub told : IfOk result (λ named. Told s.files (λ files. named.items ≡ named_at (bytes_of files file) name payloads))
  pub stops : StopsOnly s t result

-- The text of heads was read.
pub record TextCall (s t : DeskState) (file : List ℕ) (payloads : List FileSpan) (heads : List Head) (result : Result (List ℕ) JoinStop) : Type 0 where
  pub calls : PayloadCalls s t file payloads
  pub told : IfOk result (λ text. Told s.files (λ files. text ≡ flat_map (bytes_in (bytes_of files file)) heads))
  pub stops : StopsOnly s t result

-- the joined text, None without a portion, or the first fault; a failure of the device is free
abbrev pub JoinFromAnswer : List Portion → Result (Option (List ℕ)) JoinStop → Type 0
JoinFromAnswer portions (Ok text) = JoinAnswer portions (Ok text)
JoinFromAnswer portions (Err (Portions stop)) = JoinAnswer portions (Err stop)
JoinFromAnswer portions (Err Device) = Unit {0}

-- The clauses of `joined_from`.
pub record JoinFromCall (s t : DeskState) (file : List ℕ) (payloads : List FileSpan) (name : List ℕ) (result : Result (Option (List ℕ)) JoinStop) : Type 0 where
  pub calls : PayloadCalls s t file payloads
  pub told : Told s.files (λ files. JoinFromAnswer (portions_at (bytes_of files file) name payloads) result)
  pub device : result ≡ Err Device → Rose s.faults t.faults
