-- What a reader of blocks knows after each step.
use Rattle.std.specs.Prelude.{◌≡◌, ℕ, ◌+◌, ◌-◌, ◌<◌, ◌≤◌, Option, Some, None, Ok, Err, List, ◌∷◌, ◌++◌, length, drop, map}
use Rattle.std.specs.declared.result.Result.{Result}
use Rattle.byteorder.specs.Endian.{big_number}
use Rattle.irb_iptc.specs.declared.block.Block.{Block}
use Rattle.irb_iptc.specs.declared.head.Head.{Head}
use Rattle.irb_iptc.specs.declared.head.Head.TheVariants.{End, Cut, Named}
use Rattle.irb_iptc.specs.declared.reading.Next.{Next}
use Rattle.irb_iptc.specs.declared.reading.Next.TheVariants.{Ended, Short, Found}
use Rattle.irb_iptc.specs.declared.stops.IrbStop.{IrbStop}
use Rattle.irb_iptc.specs.declared.stops.IrbStop.TheVariants.{Fault, Memory}
use Rattle.irb_iptc.specs.Resources.{Resource, Stands, Begins, EndsList, IsCut, signature, name_room}
use Rattle.irb_iptc.specs.Listing.{Placed, Listing, Lists, Broken, place, placed, span}

-- a block of an id begins, and its size stands so many bytes after its start
pub record IsNamed (rest : List ℕ) (id size_at : ℕ) : Type 0 where
  pub code : List ℕ
  pub named : ℕ
  pub name : List ℕ
  pub more : List ℕ
  pub is : rest ≡ signature ++ (code ++ (named ∷ (name ++ more)))
  pub coded : length code ≡ 2
  pub roomy : length name ≡ name_room named
  pub id_is : id ≡ big_number 2 code
  pub place : size_at ≡ 7 + length name
  pub room : 4 ≤ length more

abbrev pub HeadOf : List ℕ → Head → Type 0
HeadOf rest End = EndsList rest
HeadOf rest Cut = IsCut rest
HeadOf rest (Named id size_at) = IsNamed rest id size_at

-- the size is there
abbrev pub HeadFits : ℕ → Head → Type 0
HeadFits left End = Unit {0}
HeadFits left Cut = Unit {0}
HeadFits left (Named id size_at) = size_at + 4 ≤ left

-- a found block is to contracts where it stands
abbrev pub place_of : Block → Placed
place_of b = record { id = b.id; whole = span b.start (b.body + b.size + b.pad); body = span b.body (b.body + b.size) }

-- this block stands at the front of the bytes
pub record IsFound (rest : List ℕ) (start : ℕ) (block : Block) : Type 0 where
  pub resource : Resource
  pub more : List ℕ
  pub stands : Stands resource rest more
  pub is : place_of block ≡ place start resource

abbrev pub BlockOf : List ℕ → ℕ → Option Block → Type 0
BlockOf rest start (Some block) = IsFound rest start block
BlockOf rest start None = IsCut rest

-- what stands next
abbrev pub NextIs : List ℕ → ℕ → Next → Type 0
NextIs rest start Ended = EndsList rest
NextIs rest start Short = IsCut rest
NextIs rest start (Found block) = IsFound rest start block

-- a found block begins here, has its data further on, and lies within the bytes
abbrev pub Further : ℕ → ℕ → Next → Type 0
Further start end Ended = Unit {0}
Further start end Short = Unit {0}
Further start end (Found block) = (block.start ≡ start) × (start < block.body) × (block.body + block.size + block.pad ≤ end)

-- up to a place the bytes, of which the first stands at another place, are these blocks
pub record Underway (bytes : List ℕ) (at : ℕ) (blocks : List Block) (start : ℕ) : Type 0 where
  pub resources : List Resource
  pub begins : Begins bytes resources (drop (start - at) bytes)
  pub listed : map place_of blocks ≡ placed at resources
  pub from : at ≤ start
  pub within : start ≤ at + length bytes

-- the list of the bytes, or the place of the block that they end in
abbrev pub ListAnswer : List ℕ → ℕ → Result Listing IrbStop → Type 0
ListAnswer bytes at (Ok listing) = Lists bytes at listing
ListAnswer bytes at (Err (Fault place)) = Broken bytes at place
ListAnswer bytes at (Err Memory) = Unit {0}
