-- The namespaces of a well-formed tree's names: each that isn't fixed is one of its own, made of Chars.
use Rattle.std.proofs.Common.{◌≡◌, ℕ, ◌+◌, false, List, [], ◌∷◌, length, ◌-◌, drop, get_or, Option, Some, None, refl, sym, ap, subst, ◌∙◌, arith}
use Rattle.std.specs.Prelude.{All}
use lib.Utf8.{encode}
use Rattle.std.proofs.lemmas.List.Sums.{AllPass-from_list_all}
use Rattle.std.specs.List.{flat_map}
use Rattle.std.proofs.lemmas.List.Elements.{All-nil, All-cons, All-head, All-tail, All-append, All-take, All-drop}
use Rattle.xmp_values.specs.Characters.{IsCharText, is_char}
use Rattle.xmp_values.specs.Spaces.{rdf_space, xml_space, xmlns_space}
use Rattle.xmp_values.specs.declared.text.Name.{Name}
use Rattle.known_prefixes.specs.Prefixes.{is_fixed}
use Rattle.xmp_tree.specs.declared.nested.Value.{Value, Value', Row_of-Member, end_of-Member, more_of-Member, items-the_row-Member}
use Rattle.xmp_tree.specs.declared.nested.Member.{Member, Member', outs-Member'}
use Rattle.xmp_tree.specs.declared.nested.Shape.{Shape, Simple, Uri, Struct', Array', Row_of-Value, end_of-Value, more_of-Value}
use Rattle.xmp_tree.specs.Parts.{Parts}
use Rattle.xmp_tree.specs.Wf.{name_of, IsOwnSpace, IsQualifier, IsWfValue, IsWfShape, IsWfMember, AreWfMembers, AreWfValues, Wf, lang_name, type_name, note_name}
use Rattle.xmp_write.specs.declared.forms.Form.{Form}
use Rattle.xmp_write.specs.Written.{value_spaces, shape_spaces, member_spaces, members_spaces, items_spaces, note_spaces, written_props, written_spaces}

-- a namespace that is fixed, or is one of its own and made of Chars
abbrev pub IsOwned : List ℕ → Type 0
IsOwned space = is_fixed space ≡ false → IsOwnSpace space × IsCharText space

-- a name in a namespace of its own, unless that is fixed
abbrev IsOwnNamed : Member → Type 0
IsOwnNamed m = is_fixed (name_of m).space ≡ false → IsOwnSpace (name_of m).space

-- a qualifier's namespace is its own where it isn't fixed: those of `xml:lang` and `rdf:type` are
qualifier_own : (m : Member) → IsQualifier m → IsOwnNamed m
unfolding lang_name type_name rdf_space xml_space
qualifier_own m q unfixed =
    q.own
    (λ same. absurd (let wrong = ap (λ (n : Name). is_fixed n.space) (sym same) ∙ unfixed in cc))
    (λ same. absurd (let wrong = ap (λ (n : Name). is_fixed n.space) (sym same) ∙ unfixed in cc))

named : (name : Name) (value : Value) → name_of (Member' name value) ≡ name
named name value = rw (name_of, outs-Member' name value) refl

mutual
  value_owned : (v : Value) → IsWfValue v → All IsOwned (value_spaces v)
  value_owned (Value' shape n quals) wf =
      All-append IsOwned (shape_spaces shape) (members_spaces quals) (shape_owned shape wf.0)
      (members_owned quals wf.1.0 (λ k d within. qualifier_own (get_or (items-the_row-Member _ quals) k d) (wf.1.1.each k d within)))

  shape_owned : (shape : Shape) → IsWfShape shape → All IsOwned (shape_spaces shape)
  shape_owned (Simple text) wf = All-nil IsOwned
  shape_owned (Uri text) wf = All-nil IsOwned
  shape_owned (Struct' n fields) wf = members_owned fields wf.0 (λ k d within unfixed. wf.1.own k d within)
  shape_owned (Array' kind n items) wf = items_owned items wf

  member_owned : (m : Member) → IsWfMember m → IsOwnNamed m → All IsOwned (member_spaces m)
  member_owned (Member' name value) wf own =
      All-cons IsOwned name.space (value_spaces value)
      (λ unfixed. (subst (λ (n : Name). is_fixed n.space ≡ false → IsOwnSpace n.space) (named name value) own unfixed, wf.0.chars))
      (value_owned value wf.1)

  members_owned : {n : _} (row : Row_of-Member n) → AreWfMembers row → All IsOwnNamed (items-the_row-Member n row) → All IsOwned (members_spaces row)
  members_owned end_of-Member wf own = All-nil IsOwned
  members_owned (more_of-Member m rest) wf own =
      All-append IsOwned (member_spaces m) (members_spaces rest) (member_owned m wf.0 (All-head IsOwnNamed m _ own))
      (members_owned rest wf.1 (All-tail IsOwnNamed m _ own))

  items_owned : {n : _} (row : Row_of-Value n) → AreWfValues row → All IsOwned (items_spaces row)
  items_owned end_of-Value wf = All-nil IsOwned
  items_owned (more_of-Value item rest) wf = All-append IsOwned (value_spaces item) (items_spaces rest) (value_owned item wf.0) (items_owned rest wf.1)

props_owned : (ms : List Member) → All IsWfMember ms → All IsOwnNamed ms → All IsOwned (flat_map member_spaces ms)
props_owned [] wf own = All-nil IsOwned
props_owned (m ∷ ms) wf own =
    All-append IsOwned (member_spaces m) (flat_map member_spaces ms) (member_owned m (All-head IsWfMember m ms wf) (All-head IsOwnNamed m ms own))
    (props_owned ms (All-tail IsWfMember m ms wf) (All-tail IsOwnNamed m ms own))

note_text : IsCharText note_name.space
unfolding note_name encode is_char
note_text = (note_name.space, refl, AllPass-from_list_all is_char note_name.space refl)

note_own : IsOwnSpace note_name.space
unfolding note_name rdf_space xml_space xmlns_space
note_own = record {
  some = λ same. let n = ap length same in omega arith;
  not_rdf = λ same. let n = ap length same in omega arith;
  not_xml = λ same. let n = ap length same in omega arith;
  not_xmlns = λ same. let letters = ap (λ (s : List ℕ). get_or s 7 0) same in omega arith;
}

note_owned : (note : Option (List ℕ)) → All IsOwned (note_spaces note)
note_owned None = All-nil IsOwned
note_owned (Some digits) = All-cons IsOwned note_name.space [] (λ unfixed. (note_own, note_text)) (All-nil IsOwned)

-- the namespaces that are written
pub written_owned : (t : Parts) (form : Form) → Wf t → All IsOwned (written_spaces t form)
written_owned t form wf =
    let part = λ (P : Member → Type 0) (h : All P t.props). All-take P (form.first + form.count - form.first) (drop form.first t.props) (All-drop P form.first t.props h) in
    All-append IsOwned (note_spaces form.note) (flat_map member_spaces (written_props t form)) (note_owned form.note)
    (props_owned (written_props t form) (part IsWfMember wf.props.within.each) (part IsOwnNamed (λ k d within unfixed. wf.props.fields.own k d within)))
