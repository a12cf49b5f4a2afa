-- The values that were met, the first of each tag.
use Rattle.std.specs.Prelude.{ℕ, ◌==◌, ◌&&◌, not, Bool, if◌then◌else◌, List, [], ◌∷◌, ◌++◌, Option, Some, None}
use Rattle.std.specs.List.{find, list_any}
use Rattle.exif_fields.specs.declared.raw.Met.{Met}
use Rattle.exif_fields.specs.Tags.{is_tag}

abbrev pub has_tag : List Met → ℕ → Bool
has_tag met tag = list_any (λ m. m.tag == tag) met

abbrev pub value_met : Option Met → Option (List ℕ)
value_met None = None
value_met (Some m) = m.value

-- the value of a tag; none where the tag wasn't met, or its first entry has another type than text
unfoldable pub value_in : List Met → ℕ → Option (List ℕ)
value_in met tag = value_met (find (λ m. m.tag == tag) met)

-- one more, unless its tag was met or isn't read
unfoldable pub with_value : List Met → ℕ → Option (List ℕ) → List Met
with_value met tag value =
    if is_tag tag && not (has_tag met tag) then met ++ record { tag = tag; value = value } ∷ [] else met
