-- Members in slots, some of them empty, and a map from names to slots. None of this need be believed: it says
-- what private parts of a type hold.
use Prim.Native.Nat.{suc}
use Rattle.std.specs.Prelude.{◌≡◌, ℕ, Bool, false, if◌then◌else◌, List, [], ◌∷◌, Option, Some, None, option_map, Vec, Result, Ok, Err, slice_set}
use Rattle.std.specs.declared.alloc.Global.{Global}
use Rattle.std.specs.declared.cmp.Ordering.{Ordering}
use Rattle.std.specs.Option.{option_or}
use Rattle.std.specs.Ordering.{ordering_then, nat_cmp}
use Rattle.std.specs.Cmp.Lexicographic.{slice_cmp}
use Rattle.std.specs.BTreeMap.{BTreeMap, get}
use Rattle.xmp_values.specs.declared.text.Name.{Name}
use Rattle.xmp_values.specs.declared.rules.Rule.{Rule}
use Rattle.xmp_values.specs.declared.rules.Rule.TheVariants.{NoSuchPlace}
use Rattle.xmp_values.specs.declared.stops.RuleStop.{RuleStop}
use Rattle.xmp_values.specs.Names.{named}
use Rattle.xmp_tree.specs.declared.nested.Value.{Value}
use Rattle.xmp_tree.specs.declared.nested.Member.{Member}
use Rattle.xmp_tree.specs.Parts.{member}
use Rattle.xmp_tree.specs.Wf.{name_of, value_of}
use Rattle.xmp_tree.specs.Places.{same_name}
use Rattle.xmp_edit.specs.declared.slots.Slots.{Slots}
use Rattle.xmp_edit.specs.Edits.{Change, ok_map}

-- the members that are there
abbrev pub present : List (Option Member) → List Member
present [] = []
present (None ∷ ss) = present ss
present (Some m ∷ ss) = m ∷ present ss

abbrev pub has : Name → Option Member → Bool
has n None = false
has n (Some m) = same_name (name_of m) n

-- the first slot of a name
abbrev pub slot_of : Name → List (Option Member) → Option ℕ
slot_of n [] = None
slot_of n (s ∷ ss) = if has n s then Some 0 else option_map (λ i. suc i) (slot_of n ss)

-- a key is a local part and a namespace
abbrev pub Key : Type 0
Key = Vec ℕ Global × Vec ℕ Global

abbrev pub name_at : Key → Name
name_at key = named key.1.items key.0.items

abbrev pub key_cmp : Key → Key → Ordering
key_cmp x y = ordering_then (slice_cmp nat_cmp x.0.items y.0.items) (slice_cmp nat_cmp x.1.items y.1.items)

-- a map has the slot of each name
abbrev pub HasPlaces : BTreeMap Key ℕ → List (Option Member) → Type 0
HasPlaces places ss = (key : Key) → get key_cmp places key ≡ slot_of (name_at key) ss

-- a map with one name more, unless it has it
abbrev pub PlacesMore : Key → ℕ → BTreeMap Key ℕ → BTreeMap Key ℕ → Type 0
PlacesMore key at old new = (q : Key) → get key_cmp new q ≡ option_or (get key_cmp old q) (if same_name (name_at key) (name_at q) then Some at else None)

-- a change of the member in a slot
abbrev pub slot_put : List (Option Member) → ℕ → Member → Option Value → List (Option Member)
slot_put ss i m (Some v) = slice_set ss i (Some (member (name_of m) v))
slot_put ss i m None = slice_set ss i None

abbrev pub slot_changed : Change → List (Option Member) → ℕ → Option (Option Member) → Result (List (Option Member)) Rule
slot_changed change ss i (Some (Some m)) = ok_map (slot_put ss i m) (change (Some (value_of m)))
slot_changed change ss i (Some None) = Err NoSuchPlace
slot_changed change ss i None = Err NoSuchPlace

-- what a call that returns slots gave
abbrev pub lists : Result (Slots Member) RuleStop → Result (List (Option Member)) RuleStop
lists (Ok s) = Ok s.list
lists (Err stop) = Err stop

abbrev pub presented : Result (Slots Member) RuleStop → Result (List Member) RuleStop
presented (Ok s) = Ok (present s.list)
presented (Err stop) = Err stop
