-- The lines of a value, read level by level.
use Rattle.std.proofs.Common.{◌≡◌, ℕ, ◌+◌, List, ◌++◌, refl, ap, ◌∙◌}
use Rattle.std.specs.Prelude.{codes}
use Rattle.std.specs.List.{flat_map}
use Rattle.xmp_values.specs.declared.hints.Hint.{Hint}
use Rattle.xmp_tree.specs.declared.nested.Value.{Value, Value', out-Value, outs-Value', Row_of-Member, end_of-Member, more_of-Member, items-the_row-Member, items_hidden-the_row-Member-0, items_shown-the_row-Member-0}
use Rattle.xmp_tree.specs.declared.nested.Shape.{out-Shape, Struct, Array, Row_of-Value, end_of-Value, more_of-Value, items-the_row-Value, items_hidden-the_row-Value-1}
use Rattle.xmp_tree.specs.declared.nested.Member.{Member, Member', outs-Member'}
use Rattle.xmp_tree.specs.declared.nested.Kind.{Kind}
use Rattle.xmp_tree.specs.Wf.{name_of, value_of}
use Rattle.xmp_write.specs.Prefixes.{spelled}
use Rattle.xmp_write.specs.Lines.{shape_word, field_path, qualifier_path, item_path, value_lines, shape_lines, member_lines, members_lines, items_lines}
use Rattle.xmp_write.specs.Writing.{items_from}
use Rattle.xmp_write.proofs.Levels.{fields_of, items_of}

module _ (ps : List Hint) where
  members_lines-row : (front : List ℕ) (n : _) (row : Row_of-Member n) → members_lines ps front row ≡ flat_map (member_lines ps front) (items-the_row-Member n row)
  members_lines-row front n end_of-Member = refl
  members_lines-row front n (more_of-Member m rest) = ap (λ lines. member_lines ps front m ++ lines) (members_lines-row front _ rest)

  items_lines-row : (path : List ℕ) (at : ℕ) (n : _) (row : Row_of-Value n) → items_lines ps path at row ≡ items_from ps path at (items-the_row-Value n row)
  items_lines-row path at n end_of-Value = refl
  items_lines-row path at n (more_of-Value v rest) = ap (λ lines. value_lines ps (item_path path at) v ++ lines) (items_lines-row path (at + 1) _ rest)

  -- a value's own line
  abbrev pub line : List ℕ → Value → List ℕ
  line path v = path ++ codes " " ++ shape_word (out-Shape (out-Value v).shape) ++ codes "\n"

  pub value_lines-out : (path : List ℕ) (v : Value) → value_lines ps path v ≡ line path v ++ flat_map (member_lines ps (qualifier_path path)) (out-Value v).quals ++ shape_lines ps path (out-Value v).shape
  value_lines-out path (Value' s n q) =
      rw (outs-Value' s n q, items_shown-the_row-Member-0 n q)
      (ap (λ quals. path ++ codes " " ++ shape_word (out-Shape s) ++ codes "\n" ++ quals ++ shape_lines ps path s) (members_lines-row (qualifier_path path) _ q))

  pub shape_lines-Struct : (path : List ℕ) (fields : List Member) → shape_lines ps path (Struct fields) ≡ flat_map (member_lines ps (field_path path)) fields
  shape_lines-Struct path fields =
      let row = fields_of (Struct fields) in
      members_lines-row (field_path path) row.0 row.1 ∙ ap (flat_map (member_lines ps (field_path path))) (items_hidden-the_row-Member-0 fields)

  pub shape_lines-Array : (path : List ℕ) (kind : Kind) (items : List Value) → shape_lines ps path (Array kind items) ≡ items_from ps path 1 items
  shape_lines-Array path kind items =
      let row = items_of (Array kind items) in
      items_lines-row path 1 row.0 row.1 ∙ ap (items_from ps path 1) (items_hidden-the_row-Value-1 items)

  pub member_lines-out : (front : List ℕ) (m : Member) → member_lines ps front m ≡ value_lines ps (front ++ spelled ps (name_of m)) (value_of m)
  member_lines-out front (Member' name value) = rw (name_of, value_of, outs-Member' name value) refl
