-- A tree whose packet is too long for its place is written as two texts (XMP Specification Part 3, 1.1.3.1): the front,
-- which is the note and the first properties, and the rest, which the note names.
use Rattle.std.specs.Prelude.{◌≡◌, ℕ, ◌+◌, ◌-◌, ◌^◌, ◌<◌, ◌≤◌, min, codes, fold, List, [], ◌∷◌, length, take, Some, None, replicate}
use Rattle.std.specs.List.{flat_map}
use Rattle.xmp_values.specs.Digits.{AreCapitals}
use Rattle.xmp_values.specs.declared.hints.Hint.{Hint}
use Rattle.xmp_tree.specs.declared.nested.Member.{Member}
use Rattle.xmp_tree.specs.Parts.{Parts}
use Rattle.xmp_tree.specs.Wf.{note_name}
use Rattle.xmp_write.specs.declared.forms.Form.{Form}
use Rattle.xmp_write.specs.declared.splits.Split.{Split}
use Rattle.xmp_write.specs.declared.splits.Front.{Front}
use Rattle.xmp_write.specs.declared.splits.SplitStop.{SplitStop}
use Rattle.xmp_write.specs.declared.splits.SplitStop.TheVariants.{TooLong, Memory}
use Rattle.xmp_write.specs.Prefixes.{prefixes, with_use, with_prefix}
use Rattle.xmp_write.specs.Written.{note_members, member_spaces}
use Rattle.xmp_write.specs.Text.{attribute_text, declared_text, lines_text, written_text}

-- the note and the first k properties; the properties after them, without a note
abbrev pub front_form : List ℕ → ℕ → Form
front_form digits k = record { first = 0; count = k; note = Some digits }

abbrev pub rest_form : Parts → ℕ → Form
rest_form t k = record { first = k; count = length t.props - k; note = None }

-- the length of the text of a form with its own prefixes
abbrev pub text_len : Parts → List Hint → Form → ℕ
text_len t hints form = length (written_text (prefixes t hints form) t form)

-- The packet of the note and the first k properties needs no more than this many bytes, whatever the note's digits are.
abbrev pub Fits : Parts → List Hint → ℕ → ℕ → Type 0
Fits t hints room k = (digits : List ℕ) → AreCapitals digits → 73 + text_len t hints (front_form digits k) ≤ room

-- the largest number of first properties that fit
pub record IsSplit (t : Parts) (hints : List Hint) (room k : ℕ) : Type 0 where
  pub within : k ≤ length t.props
  pub fits : Fits t hints room k
  pub largest : (m : ℕ) → m ≤ length t.props → Fits t hints room m → m ≤ k

-- what is told of a split: it is the largest, and these are the lengths of its two texts
pub record Tells (t : Parts) (hints : List Hint) (room : ℕ) (s : Split) : Type 0 where
  pub largest : IsSplit t hints room s.count
  pub front : (digits : List ℕ) → AreCapitals digits → s.front ≡ text_len t hints (front_form digits s.count)
  pub rest : s.rest ≡ min (text_len t hints (rest_form t s.count)) (2 ^ 64 - 1)

-- No number of first properties fits, and the packet of the note alone needs so many bytes.
pub record FitsNever (t : Parts) (hints : List Hint) (room least : ℕ) : Type 0 where
  pub never : (k : ℕ) → k ≤ length t.props → Fits t hints room k → ⊥
  pub least_is : (digits : List ℕ) → AreCapitals digits → least ≡ min (73 + text_len t hints (front_form digits 0)) (2 ^ 64 - 1)

abbrev pub Stops : Parts → List Hint → ℕ → SplitStop → Type 0
Stops t hints room (TooLong least) = FitsNever t hints room least
Stops t hints room Memory = Unit {0}

-- ---- None of the following need be believed: private calls alone say it.

-- the namespaces of the note and the first k properties, by first use
abbrev pub front_spaces : List Member → ℕ → List (List ℕ)
front_spaces props k = fold with_use [] (note_name.space ∷ flat_map member_spaces (take k props))

abbrev pub all_spaces : List Member → List (List ℕ)
all_spaces props = fold with_use [] (note_name.space ∷ flat_map member_spaces props)

-- namespaces, each with the prefix that is due to it
abbrev pub given_to : List Hint → List (List ℕ) → List Hint
given_to hints = fold (with_prefix hints) []

abbrev pub zeros : List ℕ
zeros = replicate 32 48

-- The length of a front as a sum: what stands around the properties, the note, the properties and the declarations of the
-- namespaces that are used so far, all with the prefixes of the whole.
unfoldable pub base_len : List Hint → Parts → ℕ
base_len ps t = 164 + length (attribute_text (codes "rdf:about") t.about) + length (lines_text ps (note_members (Some zeros)))

unfoldable pub front_len : List Hint → Parts → ℕ → ℕ
front_len ps t k = base_len ps t + length (lines_text ps (take k t.props)) + length (declared_text (take (length (front_spaces t.props k)) ps))

-- the last front that fits, with the prefixes of the whole, and where none does
pub record IsFront (ps : List Hint) (t : Parts) (room : ℕ) (front : Front) : Type 0 where
  pub within : front.count ≤ length t.props
  pub len_is : front.len ≡ front_len ps t front.count
  pub fits : 73 + front_len ps t front.count ≤ room
  pub last : front.count < length t.props → room < 73 + front_len ps t (front.count + 1)

abbrev pub FrontStops : List Hint → Parts → ℕ → SplitStop → Type 0
FrontStops ps t room (TooLong least) = (room < 73 + front_len ps t 0) × (least ≡ min (73 + front_len ps t 0) (2 ^ 64 - 1))
FrontStops ps t room Memory = Unit {0}
