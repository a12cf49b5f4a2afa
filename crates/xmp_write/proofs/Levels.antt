-- The namespaces that a written value uses, read level by level.
use Rattle.std.proofs.Common.{◌≡◌, List, ◌++◌, refl, ap, ◌∙◌}
use Rattle.std.specs.List.{flat_map}
use mathlib.Core.Former.{Count}
use Rattle.xmp_tree.specs.declared.nested.Value.{Value, Value', out-Value, outs-Value', Row_of-Member, end_of-Member, more_of-Member, items-the_row-Member, items_hidden-the_row-Member-0, items_shown-the_row-Member-0}
use Rattle.xmp_tree.specs.declared.nested.Shape.{Shape, Struct, Struct', Array, Array', Row_of-Value, end_of-Value, more_of-Value, items-the_row-Value, items_hidden-the_row-Value-1}
use Rattle.xmp_tree.specs.declared.nested.Member.{Member}
use Rattle.xmp_tree.specs.declared.nested.Kind.{Kind}
use Rattle.xmp_write.specs.Written.{value_spaces, shape_spaces, member_spaces, members_spaces, items_spaces}

members_spaces-row : (n : _) (row : Row_of-Member n) → members_spaces row ≡ flat_map member_spaces (items-the_row-Member n row)
members_spaces-row n end_of-Member = refl
members_spaces-row n (more_of-Member m rest) = ap (λ spaces. member_spaces m ++ spaces) (members_spaces-row _ rest)

items_spaces-row : (n : _) (row : Row_of-Value n) → items_spaces row ≡ flat_map value_spaces (items-the_row-Value n row)
items_spaces-row n end_of-Value = refl
items_spaces-row n (more_of-Value v rest) = ap (λ spaces. value_spaces v ++ spaces) (items_spaces-row _ rest)

pub value_spaces-out : (v : Value) → value_spaces v ≡ shape_spaces (out-Value v).shape ++ flat_map member_spaces (out-Value v).quals
value_spaces-out (Value' s n q) =
    rw (outs-Value' s n q, items_shown-the_row-Member-0 n q) (ap (λ spaces. shape_spaces s ++ spaces) (members_spaces-row _ q))

-- the rows that a shape holds
abbrev pub fields_of : Shape → (n : Count) × Row_of-Member n
fields_of (Struct' _ row) = (_, row)
fields_of _ = (_, end_of-Member)

abbrev pub items_of : Shape → (n : Count) × Row_of-Value n
items_of (Array' _ _ row) = (_, row)
items_of _ = (_, end_of-Value)

pub shape_spaces-Struct : (fields : List Member) → shape_spaces (Struct fields) ≡ flat_map member_spaces fields
shape_spaces-Struct fields =
    let row = fields_of (Struct fields) in
    members_spaces-row row.0 row.1 ∙ ap (flat_map member_spaces) (items_hidden-the_row-Member-0 fields)

pub shape_spaces-Array : (kind : Kind) (items : List Value) → shape_spaces (Array kind items) ≡ flat_map value_spaces items
shape_spaces-Array kind items =
    let row = items_of (Array kind items) in
    items_spaces-row row.0 row.1 ∙ ap (flat_map value_spaces) (items_hidden-the_row-Value-1 items)
