-- Photoshop's image resource blocks as they are spelled (Adobe Photoshop File Formats Specification, "Image Resource Blocks").
use Rattle.std.specs.Prelude.{◌≡◌, ℕ, ◌+◌, ◌%◌, ◌<◌, ◌⊎◌, nat_eq, false, List, [], ◌∷◌, ◌++◌, length, codes}
use Rattle.std.specs.List.{starts_with}
use Rattle.byteorder.specs.Endian.{big_number}

-- each block begins so
abbrev pub signature : List ℕ
signature = codes "8BIM"

-- A block: its id in two bytes, the length of its Pascal name and the name, the size of its data in four bytes, the data, and
-- the byte that pads it. The name stands here with the byte that pads it.
pub record Resource : Type 0 where
  pub code : List ℕ
  pub named : ℕ
  pub name : List ℕ
  pub size : List ℕ
  pub body : List ℕ
  pub pad : List ℕ

-- the name and its length byte are padded to an even length
abbrev pub name_room : ℕ → ℕ
name_room n = n + (n + 1) % 2

-- the bytes before the data
abbrev pub head : Resource → List ℕ
head r = signature ++ (r.code ++ (r.named ∷ (r.name ++ r.size)))

abbrev pub text : Resource → List ℕ
text r = head r ++ (r.body ++ r.pad)

pub record IsResource (r : Resource) : Type 0 where
  pub code : length r.code ≡ 2
  pub name : length r.name ≡ name_room r.named
  pub size : length r.size ≡ 4
  pub body : big_number 4 r.size ≡ length r.body

-- the data is padded to an even length; where nothing follows it, the pad byte may be missing
abbrev pub IsPadded : Resource → List ℕ → Type 0
IsPadded r more = (length r.pad ≡ length r.body % 2) ⊎ ((r.pad ≡ []) × (more ≡ []))

-- the bytes are a block and what follows it
pub record Stands (r : Resource) (bytes more : List ℕ) : Type 0 where
  pub whole : IsResource r
  pub is : bytes ≡ text r ++ more
  pub padded : IsPadded r more

-- the bytes are blocks, one after another, and what follows them
abbrev pub Begins : List ℕ → List Resource → List ℕ → Type 0
Begins bytes [] rest = bytes ≡ rest
Begins bytes (r ∷ rs) rest = (more : List ℕ) × Stands r bytes more × Begins more rs rest

-- no block begins: fewer than four bytes are left, or four others
abbrev pub EndsList : List ℕ → Type 0
EndsList rest = starts_with nat_eq rest signature ≡ false

-- A block begins, and the bytes end inside it: before the name, before the end of the size, or before the end of the data.
pub data IsCut (rest : List ℕ) : Type 0 where
  in_front : (more : List ℕ) → rest ≡ signature ++ more → length more < 3 → IsCut rest
  in_name : (code more : List ℕ) (named : ℕ) → length code ≡ 2 → rest ≡ signature ++ (code ++ (named ∷ more)) → length more < name_room named + 4 → IsCut rest
  in_body : (code name size more : List ℕ) (named : ℕ) → length code ≡ 2 → length name ≡ name_room named → length size ≡ 4
      → rest ≡ signature ++ (code ++ (named ∷ (name ++ (size ++ more)))) → length more < big_number 4 size → IsCut rest
