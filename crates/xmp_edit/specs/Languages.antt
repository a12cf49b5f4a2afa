-- The items of an array by their languages, and a map from languages to places. None of this need be believed: it
-- says what private parts of a type hold.
use Rattle.std.specs.Prelude.{◌≡◌, ℕ, ⊤, Bool, false, if◌then◌else◌, List, Option, Some, None, Result, Ok, Err, position, Vec}
use Rattle.std.specs.declared.alloc.Global.{Global}
use Rattle.std.specs.declared.cmp.Ordering.{Ordering}
use Rattle.std.specs.Option.{option_or}
use Rattle.std.specs.Ordering.{nat_cmp}
use Rattle.std.specs.Str.{bytes_eq, str_to_ascii_lowercase}
use Rattle.std.specs.Cmp.Lexicographic.{slice_cmp}
use Rattle.std.specs.BTreeMap.{BTreeMap, get}
use Rattle.xmp_values.specs.declared.stops.RuleStop.{RuleStop}
use Rattle.xmp_tree.specs.declared.nested.Value.{Value}
use Rattle.xmp_tree.specs.Places.{lang_of}
use Rattle.xmp_edit.specs.declared.languages.Languages.{Languages}
use Rattle.xmp_edit.specs.declared.languages.Languages.TheVariants.{Unknown, Known}
use Rattle.xmp_edit.specs.declared.languages.Spoken.{Spoken}

-- a language in lower case
abbrev pub lower : List ℕ → List ℕ
lower tag = str_to_ascii_lowercase tag

-- whether a language, in lower case, is this
abbrev pub is_lower : List ℕ → Option (List ℕ) → Bool
is_lower key None = false
is_lower key (Some lang) = bytes_eq (lower lang) key

-- the place of the first item of a language that is given in lower case
abbrev pub lower_place : List ℕ → List Value → Option ℕ
lower_place key vs = position (λ v. is_lower key (lang_of v)) vs

-- the order of a map's keys, which are languages in lower case
abbrev pub lower_cmp : Vec ℕ Global → Vec ℕ Global → Ordering
lower_cmp x y = slice_cmp nat_cmp x.items y.items

-- a map has the place of each language
abbrev pub HasLanguages : BTreeMap (Vec ℕ Global) ℕ → List Value → Type 0
HasLanguages places vs = (key : Vec ℕ Global) → get lower_cmp places key ≡ lower_place key.items vs

-- a map with one language more, unless it has it
abbrev pub LanguagesMore : Vec ℕ Global → ℕ → BTreeMap (Vec ℕ Global) ℕ → BTreeMap (Vec ℕ Global) ℕ → Type 0
LanguagesMore key at old new = (q : Vec ℕ Global) → get lower_cmp new q ≡ option_or (get lower_cmp old q) (if bytes_eq key.items q.items then Some at else None)

-- the same of an item's language, which may be none
abbrev pub AddsLanguage : Option (List ℕ) → ℕ → BTreeMap (Vec ℕ Global) ℕ → BTreeMap (Vec ℕ Global) ℕ → Type 0
AddsLanguage lang at old new = (q : Vec ℕ Global) → get lower_cmp new q ≡ option_or (get lower_cmp old q) (if is_lower q.items lang then Some at else None)

-- what is known is so
abbrev pub Knows : Languages → List Value → Type 0
Knows (Unknown count) vs = ⊤
Knows (Known places) vs = HasLanguages places vs

-- what a call that returns items with their languages gave
abbrev pub spoken_items : Result Spoken RuleStop → Result (List Value) RuleStop
spoken_items (Ok s) = Ok s.items
spoken_items (Err stop) = Err stop
