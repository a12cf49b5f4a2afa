-- From a file to what is kept of it: the first steps of the one order.
use Rattle.std.specs.Prelude.{◌≡◌, ℕ, List, [], nat_le, nat_lt, not, ◌&&◌, length, take, if◌then◌else◌, Option, None, Some, Ok, Err}
use Rattle.std.specs.Option.{ok_or, unwrap_or}
use Rattle.std.specs.declared.result.Result.{Result}
use Rattle.xmp_values.specs.declared.faults.Fault.{Fault}
use Rattle.xmp_files.specs.declared.kinds.Kind.{Kind}
use Rattle.xmp_files.specs.declared.kinds.Kind.TheVariants.{Jpeg, Tiff, BigTiff, Sidecar}
use Rattle.xmp_files.specs.declared.held.Need.{Need}
use Rattle.xmp_files.specs.Faults.{no_file, file_limit, over_limit, not_known, short_offsets, not_built, packet_limit, over_packet}
use Rattle.xmp_files.specs.Kinds.{kind_of_head, has_long_offsets}
use Rattle.xmp_files.specs.Stages.{followed, Followed}
use Rattle.xmp_files.specs.Keeping.{Piece, Kept, sidecar}
use Rattle.xmp_files.specs.Photographs.{IsCut}
use Rattle.xmp_files.specs.Images.{IsWalked}

-- First FILE is there and within the limit.
abbrev pub within : Option (List ℕ) → Result (List ℕ) Fault
within None = Err no_file
within (Some bytes) = if nat_lt file_limit (length bytes) then Err (over_limit (length bytes)) else Ok bytes

-- Then its kind. A BigTIFF file must have offsets of 8 bytes; one that ends before it says so is a container's fault.
abbrev pub with_offsets : List ℕ → Kind → Result Kind Fault
with_offsets head BigTiff = if nat_le 8 (length head) && not (has_long_offsets head) then Err short_offsets else Ok BigTiff
with_offsets head kind = Ok kind

abbrev pub known_head : List ℕ → Result Kind Fault
known_head head = followed (ok_or (kind_of_head head) not_known) (with_offsets head)

abbrev pub known : List ℕ → Result Kind Fault
known bytes = known_head (take 16 bytes)

-- These are functions of the file, so that contracts can say: memory is wanted only for a file that passes them.
abbrev pub kind_of_file : Option (List ℕ) → Result Kind Fault
kind_of_file file = followed (within file) known

-- Then its container, by a relation, since the containers are given by relations. Other kinds aren't built yet.
abbrev pub IsContained : Need → Kind → List ℕ → Result Kept Fault → Type 0
IsContained need Sidecar bytes step = step ≡ Ok (sidecar need bytes)
IsContained need Jpeg bytes step = IsCut need bytes step
IsContained need Tiff bytes step = IsWalked need bytes step
IsContained need BigTiff bytes step = IsWalked need bytes step
IsContained need other bytes step = step ≡ Err not_built

-- Then the main payload is within the limit.
abbrev pub limited_by : Kept → Option Piece → Result Kept Fault
limited_by kept None = Ok kept
limited_by kept (Some payload) = if nat_lt packet_limit (length payload.bytes) then Err (over_packet (length payload.bytes)) else Ok kept

abbrev pub limited : Kept → Result Kept Fault
limited kept = limited_by kept kept.payload

-- what is kept of a file of these bytes and this kind
abbrev pub IsKept : Need → List ℕ → Kind → Result Kept Fault → Type 0
IsKept need bytes kind step = (held : Result Kept Fault) × IsContained need kind bytes held × (step ≡ followed held limited)

-- what is kept of FILE, or the first fault
abbrev pub IsLoaded : Need → Option (List ℕ) → Result Kept Fault → Type 0
IsLoaded need file step = Followed (kind_of_file file) (IsKept need (unwrap_or file [])) step
