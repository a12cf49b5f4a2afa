-- The members of a document with the note apart.
use Rattle.std.specs.Prelude.{ℕ, not, List, [], ◌∷◌, ◌++◌, map, filter, Option, if◌then◌else◌, option_and_then, slice_get}
use Rattle.xmp_tree.specs.declared.nested.Value.{out-Value}
use Rattle.xmp_tree.specs.declared.nested.Member.{Member}
use Rattle.xmp_tree.specs.declared.nested.Shape.{out-Shape}
use Rattle.xmp_tree.specs.Wf.{value_of}
use Rattle.rdf_forms.specs.Meaning.{Placed, is_note, shape_digits}
use Rattle.xmp_rdf.specs.declared.parting.Parted.{Parted}

abbrev pub parts_of : List Placed → Parted
parts_of ps =
    let properties = filter (λ p. not (is_note p)) ps in
    record {
      props = map (λ (p : Placed). p.1) properties;
      places = map (λ (p : Placed). p.0) properties;
      notes = map (λ (p : Placed). p.1) (filter is_note ps);
    }

-- with one more member
abbrev pub with_placed : Parted → Placed → Parted
with_placed parts p =
    if is_note p then record { props = parts.props; places = parts.places; notes = parts.notes ++ p.1 ∷ [] }
    else record { props = parts.props ++ p.1 ∷ []; places = parts.places ++ p.0 ∷ []; notes = parts.notes }

abbrev pub member_digits : Member → Option (List ℕ)
member_digits m = shape_digits (out-Shape (out-Value (value_of m)).shape)

-- the digits of the first note
abbrev pub note_digits : List Member → Option (List ℕ)
note_digits notes = option_and_then member_digits (slice_get notes 0)
