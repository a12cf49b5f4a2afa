-- Edits: what a change at the end of a path makes of a value and of a tree. A change takes the value that
-- stands at the place, or none where the place is missing, and gives the value that is to stand there, or
-- none to take it out, or a rule. The steps are tried from the left, and the first that fails gives the rule.
use Rattle.std.specs.Prelude.{ℕ, ◌==◌, nat_lt, length, Bool, false, ◌&&◌, if◌then◌else◌, List, [], ◌∷◌, ◌++◌, Option, Some, None, Result, Ok, Err, slice_get}
use Rattle.xmp_values.specs.declared.text.Name.{Name}
use Rattle.xmp_values.specs.declared.rules.Rule.{Rule}
use Rattle.xmp_values.specs.declared.rules.Rule.TheVariants.{NoSuchPlace, WrongShape, OutOfArray}
use Rattle.xmp_tree.specs.declared.nested.Value.{Value, out-Value}
use Rattle.xmp_tree.specs.declared.nested.Member.{Member}
use Rattle.xmp_tree.specs.declared.nested.Shape.{Shape, Shape-F, out-Shape, Struct, Array}
use Rattle.xmp_tree.specs.declared.nested.Shape.TheOpen as layer
use Rattle.xmp_tree.specs.Parts.{Parts, member, value}
use Rattle.xmp_tree.specs.Wf.{value_of, lang_name}
use Rattle.xmp_tree.specs.Places.{same_name, place_of, tag_place}
use Rattle.xmp_tree.specs.Items.{member_put, item_put, joined}
use Rattle.xmp_paths.specs.declared.step.Step.{Step}
use Rattle.xmp_paths.specs.declared.step.Step.TheVariants.{Field, Qualifier, Item, Tag}
use Rattle.xmp_paths.specs.Parts.{PathParts}
use Rattle.xmp_paths.specs.Paths.{is_end}

abbrev pub Change : Type 0
Change = Option Value → Result (Option Value) Rule

abbrev pub ok_map : {X Y : Type 0} → (X → Y) → Result X Rule → Result Y Rule
ok_map f (Ok x) = Ok (f x)
ok_map f (Err r) = Err r

-- Members: what a change gave goes to the place of the old value; a new member is the last, but `xml:lang`
-- the first.
abbrev pub member_at : Change → List Member → ℕ → Option Member → Result (List Member) Rule
member_at change ms i (Some m) = ok_map (member_put ms i m) (change (Some (value_of m)))
member_at change ms i None = Err NoSuchPlace

abbrev pub with_member : Bool → Name → List Member → Option Value → List Member
with_member front name ms (Some v) = joined front ms (member name v)
with_member front name ms None = ms

abbrev pub member_changed : Change → Bool → Bool → Name → List Member → Option ℕ → Result (List Member) Rule
member_changed change makes front name ms (Some i) = member_at change ms i (slice_get ms i)
member_changed change makes front name ms None = if makes then ok_map (with_member front name ms) (change None) else Err NoSuchPlace

-- the members with a change made at a name
abbrev pub in_members : Change → Bool → Bool → Name → List Member → Result (List Member) Rule
in_members change makes front name ms = member_changed change makes front name ms (place_of name ms)

-- Items: a new one is the last.
abbrev pub item_at : Change → List Value → ℕ → Option Value → Result (List Value) Rule
item_at change vs i (Some v) = ok_map (item_put vs i) (change (Some v))
item_at change vs i None = Err OutOfArray

abbrev pub with_item : List Value → Option Value → List Value
with_item vs (Some v) = vs ++ v ∷ []
with_item vs None = vs

-- the items with a change made at a place, or at the one past the last
abbrev pub in_items : Change → Bool → ℕ → List Value → Result (List Value) Rule
in_items change makes i vs =
    if nat_lt i (length vs) then item_at change vs i (slice_get vs i) else if makes && (i == length vs) then ok_map (with_item vs) (change None) else Err OutOfArray

abbrev pub tag_changed : Change → List Value → Option ℕ → Result (List Value) Rule
tag_changed change vs (Some i) = item_at change vs i (slice_get vs i)
tag_changed change vs None = Err NoSuchPlace

-- the items with a change made at the first of a language
abbrev pub in_tagged : Change → List ℕ → List Value → Result (List Value) Rule
in_tagged change tag vs = tag_changed change vs (tag_place tag vs)

-- One level of a value.
abbrev pub fields_changed : (List Member → Result (List Member) Rule) → Shape-F Shape Member Value → Result Shape Rule
fields_changed f (layer.Simple text) = Err WrongShape
fields_changed f (layer.Uri text) = Err WrongShape
fields_changed f (layer.Struct fields) = ok_map Struct (f fields)
fields_changed f (layer.Array kind items) = Err WrongShape

abbrev pub items_changed : (List Value → Result (List Value) Rule) → Shape-F Shape Member Value → Result Shape Rule
items_changed f (layer.Simple text) = Err WrongShape
items_changed f (layer.Uri text) = Err WrongShape
items_changed f (layer.Struct fields) = Err WrongShape
items_changed f (layer.Array kind items) = ok_map (Array kind) (f items)

abbrev pub shape_changed : (Shape-F Shape Member Value → Result Shape Rule) → Value → Result Value Rule
shape_changed f v = ok_map (λ s. value s (out-Value v).quals) (f (out-Shape (out-Value v).shape))

abbrev pub quals_changed : (List Member → Result (List Member) Rule) → Value → Result Value Rule
quals_changed f v = ok_map (value (out-Value v).shape) (f (out-Value v).quals)

-- the value with a change made after one step
abbrev pub stepped : Change → Bool → Step → Value → Result Value Rule
stepped change makes (Field name) v = shape_changed (fields_changed (in_members change makes false name)) v
stepped change makes (Qualifier name) v = quals_changed (in_members change makes (same_name name lang_name) name) v
stepped change makes (Item i) v = shape_changed (items_changed (in_items change makes i)) v
stepped change makes (Tag tag) v = shape_changed (items_changed (in_tagged change tag)) v

abbrev pub on_value : (Value → Result Value Rule) → Change
on_value f (Some v) = ok_map Some (f v)
on_value f None = Err NoSuchPlace

-- A change made at the end of steps. It `makes` where a missing place is made; only the last place can be.
abbrev pub at_place : List Step → Change → Bool → Change
at_place [] change makes = change
at_place (s ∷ ss) change makes = on_value (stepped (at_place ss change makes) (makes && is_end ss) s)

-- the properties with a change made at a path
abbrev pub in_props : PathParts → Change → Bool → List Member → Result (List Member) Rule
in_props path change makes ms = in_members (at_place path.steps change makes) (makes && is_end path.steps) false path.name ms

-- the tree with a change made at a path, or the rule
abbrev pub changed : PathParts → Change → Bool → Parts → Result Parts Rule
changed path change makes t = ok_map (λ ms. record { about = t.about; props = ms }) (in_props path change makes t.props)
