-- The text of a value, read level by level.
use Rattle.std.proofs.Common.{◌≡◌, ℕ, Bool, true, false, cond, List, [], ◌∷◌, ◌++◌, Option, Some, None, length, ◌<◌, refl, ap, sym, ◌∙◌, arith}
use Rattle.std.specs.Prelude.{codes}
use Rattle.std.specs.List.{flat_map}
use Rattle.xmp_values.specs.declared.hints.Hint.{Hint}
use Rattle.xmp_tree.specs.declared.nested.Value.{Value, Value', out-Value, outs-Value', Row_of-Member, end_of-Member, more_of-Member, items-the_row-Member, items_hidden-the_row-Member-0, items_shown-the_row-Member-0}
use Rattle.xmp_tree.specs.declared.nested.Shape.{Shape, out-Shape, Simple, Uri, Struct, Struct', Array, Array', Row_of-Value, end_of-Value, more_of-Value, items-the_row-Value, items_hidden-the_row-Value-1}
use Rattle.xmp_tree.specs.declared.nested.Member.{Member, Member', outs-Member'}
use Rattle.xmp_tree.specs.declared.nested.Kind.{Kind}
use Rattle.xmp_tree.specs.Wf.{name_of, value_of}
use Rattle.xmp_write.specs.Prefixes.{spelled}
use Rattle.xmp_write.specs.Text.{is_lang_name, tag_in, simple_in, lang_in, is_more, has_others, lang_text, parse_text, element_text, kind_name, value_text, shape_text, member_text, members_text, others_text, items_text}
use Rattle.xmp_write.specs.Placing.{simple_layer, lang_of, others_of}
use Rattle.xmp_write.proofs.Levels.{fields_of, items_of}

abbrev pub is_some_member : List Member → Bool
is_some_member [] = false
is_some_member (m ∷ ms) = true

none_there : (ms : List Member) → length ms ≡ 0 → is_some_member ms ≡ false
none_there [] none = refl
none_there (m ∷ ms) none = absurd (omega arith)

some_there : (ms : List Member) → 0 < length ms → is_some_member ms ≡ true
some_there [] some = absurd (omega arith)
some_there (m ∷ ms) some = refl

simple_in-out : (shape : Shape) → simple_in shape ≡ simple_layer (out-Shape shape)
unfolding out-Shape denote.Hole.Carrier.out
simple_in-out (Simple text) = refl
simple_in-out (Uri text) = refl
simple_in-out (Struct' n fields) = refl
simple_in-out (Array' kind n items) = refl

tag_in-out : (v : Value) → tag_in v ≡ simple_layer (out-Shape (out-Value v).shape)
tag_in-out (Value' shape n quals) = rw (outs-Value' shape n quals) (simple_in-out shape)

lang_in-row : (n : _) (row : Row_of-Member n) → lang_in row ≡ lang_of (items-the_row-Member n row)
lang_in-row n end_of-Member = refl
lang_in-row n (more_of-Member (Member' name value) rest) = rw (name_of, value_of, outs-Member' name value) (ap (λ text. cond (is_lang_name name) (Some text) None) (tag_in-out value))

is_more-row : (n : _) (row : Row_of-Member n) → is_more row ≡ is_some_member (items-the_row-Member n row)
is_more-row n end_of-Member = refl
is_more-row n (more_of-Member m rest) = refl

some_choice : (b : Bool) (m : Member) (ms : List Member) → cond b (is_some_member ms) true ≡ is_some_member (cond b ms (m ∷ ms))
some_choice true m ms = refl
some_choice false m ms = refl

has_others-row : (n : _) (row : Row_of-Member n) → has_others row ≡ is_some_member (others_of (items-the_row-Member n row))
has_others-row n end_of-Member = refl
has_others-row n (more_of-Member (Member' name value) rest) =
    rw (name_of, outs-Member' name value)
    (ap (λ more. cond (is_lang_name name) more true) (is_more-row _ rest) ∙ some_choice (is_lang_name name) (Member' name value) (items-the_row-Member _ rest))

module _ (ps : List Hint) where
  members_text-row : (n : _) (row : Row_of-Member n) → members_text ps row ≡ flat_map (member_text ps) (items-the_row-Member n row)
  members_text-row n end_of-Member = refl
  members_text-row n (more_of-Member m rest) = ap (λ text. member_text ps m ++ text) (members_text-row _ rest)

  items_text-row : (n : _) (row : Row_of-Value n) → items_text ps row ≡ flat_map (value_text ps (codes "rdf:li")) (items-the_row-Value n row)
  items_text-row n end_of-Value = refl
  items_text-row n (more_of-Value v rest) = ap (λ text. value_text ps (codes "rdf:li") v ++ text) (items_text-row _ rest)

  text_choice : (b : Bool) (m : Member) (ms : List Member) → cond b (flat_map (member_text ps) ms) (member_text ps m ++ flat_map (member_text ps) ms) ≡ flat_map (member_text ps) (cond b ms (m ∷ ms))
  text_choice true m ms = refl
  text_choice false m ms = refl

  others_text-row : (n : _) (row : Row_of-Member n) → others_text ps row ≡ flat_map (member_text ps) (others_of (items-the_row-Member n row))
  others_text-row n end_of-Member = refl
  others_text-row n (more_of-Member (Member' name value) rest) =
      rw (name_of, outs-Member' name value)
      (ap (λ text. cond (is_lang_name name) text (value_text ps (spelled ps name) value ++ text)) (members_text-row _ rest) ∙ text_choice (is_lang_name name) (Member' name value) (items-the_row-Member _ rest))

  -- a value without qualifiers besides `xml:lang`, and one with others
  abbrev pub plain_text : List ℕ → Value → List ℕ
  plain_text name v = shape_text ps name (lang_of (out-Value v).quals) (out-Value v).shape

  abbrev pub qualified_text : List ℕ → Value → List ℕ
  qualified_text name v =
      element_text name (lang_text (lang_of (out-Value v).quals) ++ parse_text)
      (shape_text ps (codes "rdf:value") None (out-Value v).shape ++ flat_map (member_text ps) (others_of (out-Value v).quals))

  pub value_text-out : (name : List ℕ) (v : Value) → value_text ps name v ≡ cond (is_some_member (others_of (out-Value v).quals)) (qualified_text name v) (plain_text name v)
  value_text-out name (Value' s n q) =
      rw (outs-Value' s n q, items_shown-the_row-Member-0 n q)
      (ap (λ b. cond b (element_text name (lang_text (lang_in q) ++ parse_text) (shape_text ps (codes "rdf:value") None s ++ others_text ps q)) (shape_text ps name (lang_in q) s)) (has_others-row _ q)
      ∙ ap (λ lang. cond (is_some_member (others_of (items-the_row-Member _ q))) (element_text name (lang_text lang ++ parse_text) (shape_text ps (codes "rdf:value") None s ++ others_text ps q)) (shape_text ps name lang s)) (lang_in-row _ q)
      ∙ ap (λ text. cond (is_some_member (others_of (items-the_row-Member _ q))) (element_text name (lang_text (lang_of (items-the_row-Member _ q)) ++ parse_text) (shape_text ps (codes "rdf:value") None s ++ text)) (shape_text ps name (lang_of (items-the_row-Member _ q)) s)) (others_text-row _ q))

  pub shape_text-Struct : (name : List ℕ) (lang : Option (List ℕ)) (fields : List Member) → shape_text ps name lang (Struct fields) ≡ element_text name (lang_text lang ++ parse_text) (flat_map (member_text ps) fields)
  shape_text-Struct name lang fields =
      let row = fields_of (Struct fields) in
      ap (element_text name (lang_text lang ++ parse_text)) (members_text-row row.0 row.1 ∙ ap (flat_map (member_text ps)) (items_hidden-the_row-Member-0 fields))

  pub shape_text-Array : (name : List ℕ) (lang : Option (List ℕ)) (kind : Kind) (items : List Value)
      → shape_text ps name lang (Array kind items) ≡ element_text name (lang_text lang) (element_text (kind_name kind) [] (flat_map (value_text ps (codes "rdf:li")) items))
  shape_text-Array name lang kind items =
      let row = items_of (Array kind items) in
      ap (λ text. element_text name (lang_text lang) (element_text (kind_name kind) [] text)) (items_text-row row.0 row.1 ∙ ap (flat_map (value_text ps (codes "rdf:li"))) (items_hidden-the_row-Value-1 items))

  pub member_text-out : (m : Member) → member_text ps m ≡ value_text ps (spelled ps (name_of m)) (value_of m)
  member_text-out (Member' name value) = rw (name_of, value_of, outs-Member' name value) refl

  -- a value as it is put: plain where there are no other qualifiers
  pub plain_value : (name : List ℕ) (v : Value) (others : List Member) → others ≡ others_of (out-Value v).quals → length others ≡ 0 → plain_text name v ≡ value_text ps name v
  plain_value name v others is none =
      sym (value_text-out name v ∙ ap (λ b. cond b (qualified_text name v) (plain_text name v)) (ap is_some_member (sym is) ∙ none_there others none))

  pub qualified_value : (name : List ℕ) (v : Value) (others : List Member) → others ≡ others_of (out-Value v).quals → 0 < length others → qualified_text name v ≡ value_text ps name v
  qualified_value name v others is some =
      sym (value_text-out name v ∙ ap (λ b. cond b (qualified_text name v) (plain_text name v)) (ap is_some_member (sym is) ∙ some_there others some))
