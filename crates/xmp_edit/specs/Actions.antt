-- The kinds of edit: what each makes of what stands at its place, or of none.
use Rattle.std.specs.Prelude.{ℕ, nat_le, length, Bool, true, false, if◌then◌else◌, List, [], ◌∷◌, ◌++◌, Option, Some, None, Result, Ok, Err, insert, slice_get, codes}
use Rattle.std.specs.Str.{str_eq_ignore_ascii_case}
use Rattle.xmp_values.specs.declared.rules.Rule.{Rule}
use Rattle.xmp_values.specs.declared.rules.Rule.TheVariants.{NoSuchPlace, WrongShape, OutOfArray}
use Rattle.xmp_tree.specs.declared.nested.Kind.{Kind}
use Rattle.xmp_tree.specs.declared.nested.Kind.TheVariants.{Bag, Seq, Alt}
use Rattle.xmp_tree.specs.declared.nested.Value.{Value, out-Value}
use Rattle.xmp_tree.specs.declared.nested.Member.{Member}
use Rattle.xmp_tree.specs.declared.nested.Shape.{Shape, Shape-F, out-Shape, Simple, Uri, Struct, Array}
use Rattle.xmp_tree.specs.declared.nested.Shape.TheOpen as layer
use Rattle.xmp_tree.specs.Parts.{member, value, simple}
use Rattle.xmp_tree.specs.Wf.{lang_name}
use Rattle.xmp_tree.specs.Places.{tag_place}
use Rattle.xmp_edit.specs.declared.action.Action.{Action}
use Rattle.xmp_edit.specs.declared.action.Action.TheVariants.{SetText, SetUri, Delete, MakeArray, MakeStruct, Append, Insert, SetLang}
use Rattle.xmp_edit.specs.Edits.{Change, ok_map, item_at}

-- `set` and `seturi`: a text or a URI in the place of one, with its qualifiers
abbrev pub leaf_put : Shape → List Member → Shape-F Shape Member Value → Result (Option Value) Rule
leaf_put new quals (layer.Simple text) = Ok (Some (value new quals))
leaf_put new quals (layer.Uri text) = Ok (Some (value new quals))
leaf_put new quals (layer.Struct fields) = Err WrongShape
leaf_put new quals (layer.Array kind items) = Err WrongShape

abbrev pub set_leaf : Shape → Change
set_leaf new None = Ok (Some (value new []))
set_leaf new (Some v) = leaf_put new (out-Value v).quals (out-Shape (out-Value v).shape)

-- `delete`
abbrev pub taken_out : Change
taken_out None = Err NoSuchPlace
taken_out (Some v) = Ok None

-- `array`: an empty one in a missing place; one of the kind stays
abbrev pub same_kind : Kind → Kind → Bool
same_kind Bag Bag = true
same_kind Seq Seq = true
same_kind Alt Alt = true
same_kind a b = false

abbrev pub array_stays : Kind → Value → Shape-F Shape Member Value → Result (Option Value) Rule
array_stays kind v (layer.Simple text) = Err WrongShape
array_stays kind v (layer.Uri text) = Err WrongShape
array_stays kind v (layer.Struct fields) = Err WrongShape
array_stays kind v (layer.Array k items) = if same_kind kind k then Ok (Some v) else Err WrongShape

abbrev pub make_array : Kind → Change
make_array kind None = Ok (Some (value (Array kind []) []))
make_array kind (Some v) = array_stays kind v (out-Shape (out-Value v).shape)

-- `struct`: an empty one in a missing place; one that is there stays
abbrev pub struct_stays : Value → Shape-F Shape Member Value → Result (Option Value) Rule
struct_stays v (layer.Simple text) = Err WrongShape
struct_stays v (layer.Uri text) = Err WrongShape
struct_stays v (layer.Struct fields) = Ok (Some v)
struct_stays v (layer.Array kind items) = Err WrongShape

abbrev pub make_struct : Change
make_struct None = Ok (Some (value (Struct []) []))
make_struct (Some v) = struct_stays v (out-Shape (out-Value v).shape)

-- a change of an array's items
abbrev pub array_put : (List Value → Result (List Value) Rule) → List Member → Shape-F Shape Member Value → Result (Option Value) Rule
array_put f quals (layer.Simple text) = Err WrongShape
array_put f quals (layer.Uri text) = Err WrongShape
array_put f quals (layer.Struct fields) = Err WrongShape
array_put f quals (layer.Array kind items) = ok_map (λ vs. Some (value (Array kind vs) quals)) (f items)

abbrev pub in_array : (List Value → Result (List Value) Rule) → Change
in_array f None = Err NoSuchPlace
in_array f (Some v) = array_put f (out-Value v).quals (out-Shape (out-Value v).shape)

-- `append` and `insert`: a text at the end, and one before an item or at the end
abbrev pub appended : List ℕ → List Value → Result (List Value) Rule
appended text vs = Ok (vs ++ simple text ∷ [])

abbrev pub inserted : ℕ → List ℕ → List Value → Result (List Value) Rule
inserted at text vs = if nat_le at (length vs) then Ok (insert vs at (simple text)) else Err OutOfArray

-- `setlang`: the first item of the language becomes the text and keeps its qualifiers; else a new item, that
-- of `x-default` in front, is added
abbrev pub spoken : List ℕ → List ℕ → Value
spoken tag text = value (Simple text) (member lang_name (simple tag) ∷ [])

abbrev pub is_default : List ℕ → Bool
is_default tag = str_eq_ignore_ascii_case tag (codes "x-default")

abbrev pub said : List ℕ → List ℕ → List Value → Option ℕ → Result (List Value) Rule
said tag text vs (Some i) = item_at (set_leaf (Simple text)) vs i (slice_get vs i)
said tag text vs None = Ok (if is_default tag then spoken tag text ∷ vs else vs ++ spoken tag text ∷ [])

abbrev pub alt_put : List ℕ → List ℕ → List Member → Shape-F Shape Member Value → Result (Option Value) Rule
alt_put tag text quals (layer.Simple t) = Err WrongShape
alt_put tag text quals (layer.Uri t) = Err WrongShape
alt_put tag text quals (layer.Struct fields) = Err WrongShape
alt_put tag text quals (layer.Array kind items) =
    if same_kind kind Alt then ok_map (λ vs. Some (value (Array Alt vs) quals)) (said tag text items (tag_place tag items)) else Err WrongShape

abbrev pub set_lang : List ℕ → List ℕ → Change
set_lang tag text None = Ok (Some (value (Array Alt (spoken tag text ∷ [])) []))
set_lang tag text (Some v) = alt_put tag text (out-Value v).quals (out-Shape (out-Value v).shape)

abbrev pub change_of : Action → Change
change_of (SetText text) = set_leaf (Simple text)
change_of (SetUri uri) = set_leaf (Uri uri)
change_of Delete = taken_out
change_of (MakeArray kind) = make_array kind
change_of MakeStruct = make_struct
change_of (Append text) = in_array (appended text)
change_of (Insert at text) = in_array (inserted at text)
change_of (SetLang tag text) = set_lang tag text

-- whether a missing place is made
abbrev pub makes : Action → Bool
makes (SetText text) = true
makes (SetUri uri) = true
makes Delete = false
makes (MakeArray kind) = true
makes MakeStruct = true
makes (Append text) = false
makes (Insert at text) = false
makes (SetLang tag text) = true
