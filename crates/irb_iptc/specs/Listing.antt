-- Where the blocks of a list stand, and the block that the bytes end in.
use Rattle.std.specs.Prelude.{◌≡◌, ℕ, ◌+◌, ◌<◌, ◌≤◌, ◌==◌, List, [], ◌∷◌, length, filter}
use Rattle.byteorder.specs.Endian.{big_number}
use Rattle.xmp_base.specs.declared.file_span.FileSpan.{FileSpan}
use Rattle.xmp_values.specs.declared.span.Span.{Span}
use Rattle.irb_iptc.specs.Resources.{Resource, Begins, EndsList, IsCut, head, text}

-- A block's id, and where the whole of it and its data stand. The whole reaches to the end of the pad byte, where that stands.
pub record Placed : Type 0 where
  pub id : ℕ
  pub whole : FileSpan
  pub body : FileSpan

abbrev pub span : ℕ → ℕ → FileSpan
span start end = record { start = start; end = end }

-- a block that stands at a place
abbrev pub place : ℕ → Resource → Placed
place at r = record {
  id = big_number 2 r.code;
  whole = span at (at + length (text r));
  body = span (at + length (head r)) (at + length (head r) + length r.body);
}

-- blocks one after another, from a place on
abbrev pub placed : ℕ → List Resource → List Placed
placed at [] = []
placed at (r ∷ rs) = place at r ∷ placed (at + length (text r)) rs

-- the blocks, and the place where their list ends
pub record Listing : Type 0 where
  pub blocks : List Placed
  pub end : ℕ

-- the list of bytes of which the first stands at a place
pub record Lists (bytes : List ℕ) (at : ℕ) (listing : Listing) : Type 0 where
  pub resources : List Resource
  pub tail : List ℕ
  pub begins : Begins bytes resources tail
  pub ends : EndsList tail
  pub placed : listing.blocks ≡ placed at resources
  pub end : listing.end + length tail ≡ at + length bytes

-- the bytes end inside the block that begins at this place, and the blocks before it are whole
pub record Broken (bytes : List ℕ) (at fault : ℕ) : Type 0 where
  pub resources : List Resource
  pub rest : List ℕ
  pub begins : Begins bytes resources rest
  pub cut : IsCut rest
  pub start : fault + length rest ≡ at + length bytes

-- the blocks of an id
abbrev pub of_id : ℕ → List Placed → List Placed
of_id id blocks = filter (λ b. b.id == id) blocks

-- the blocks lie one after another from a place up to another, each with its data after its head
abbrev pub Follow : ℕ → ℕ → List Placed → Type 0
Follow at end [] = at ≡ end
Follow at end (b ∷ bs) =
    (b.whole.start ≡ at) × (at < b.body.start) × (b.body.start ≤ b.body.end) × (b.body.end ≤ b.whole.end) × Follow b.whole.end end bs

-- the list lies in a range
pub record Tiles (at end : ℕ) (listing : Listing) : Type 0 where
  pub follow : Follow at listing.end listing.blocks
  pub within : listing.end ≤ end

-- a range of a list lies where the list lies
abbrev pub Lies : Listing → FileSpan → Type 0
Lies listing s = (at end : ℕ) → Tiles at end listing → (at ≤ s.start) × (s.start ≤ s.end) × (s.end ≤ end)

-- the same range in memory
abbrev pub in_memory : FileSpan → Span
in_memory s = record { start = s.start; end = s.end }
