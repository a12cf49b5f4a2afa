-- Texts in the order in which they are first seen.
use Rattle.std.specs.Prelude.{◌≡◌, ℕ, if◌then◌else◌, List, [], ◌∷◌, ◌++◌, Option, Some, map}
use Rattle.std.specs.Borrow.{Bor}
use Rattle.std.specs.List.{list_any, position_from}
use Rattle.std.specs.Str.{bytes_eq}
use Rattle.std.specs.Ordering.{nat_cmp}
use Rattle.std.specs.Cmp.Lexicographic.{slice_cmp}
use Rattle.std.specs.BTreeMap.{BTreeMap, get_by}

-- one text more, at the end, unless it is there
abbrev pub with_text : List (List ℕ) → List ℕ → List (List ℕ)
with_text texts text = if list_any (bytes_eq text) texts then texts else texts ++ text ∷ []

-- where a text stands first, from 0
abbrev pub place_in : List (List ℕ) → List ℕ → Option ℕ
place_in texts text = position_from (bytes_eq text) 0 texts

-- the texts that references point to
abbrev pub texts_of : List (Bor (List ℕ)) → List (List ℕ)
texts_of = map (λ text. text.now)

-- what a map has for a text
abbrev pub text_in : {X : Type 0} → BTreeMap (Bor (List ℕ)) X → List ℕ → Option X
text_in entries text = get_by (λ key. slice_cmp nat_cmp text key.now) entries

-- a map has the place of each text of a list
abbrev pub HasPlaces : BTreeMap (Bor (List ℕ)) ℕ → List (List ℕ) → Type 0
HasPlaces places texts = (text : List ℕ) → text_in places text ≡ place_in texts text

-- a map with a place for a text, and with its old places for all others
abbrev pub IsPlaced : BTreeMap (Bor (List ℕ)) ℕ → BTreeMap (Bor (List ℕ)) ℕ → List ℕ → ℕ → Type 0
IsPlaced old new placed place = (text : List ℕ) → text_in new text ≡ (if bytes_eq placed text then Some place else text_in old text)

abbrev pub IsSameMap : BTreeMap (Bor (List ℕ)) ℕ → BTreeMap (Bor (List ℕ)) ℕ → Type 0
IsSameMap old new = (text : List ℕ) → text_in new text ≡ text_in old text
