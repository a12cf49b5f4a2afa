-- The namespaces that the writing of a tree uses are those of the tree's names, in their order, but for the fixed ones: by recursion on the tree.
use Rattle.std.proofs.Common.{◌≡◌, ℕ, Bool, true, false, not, cond, ◌||◌, List, [], ◌∷◌, ◌++◌, map, fold, Option, Some, None, refl, ap, sym, subst, ◌∙◌, append-nil}
use Rattle.std.specs.Prelude.{All, codes, filter}
use Rattle.std.specs.List.{cons_option, flat_map, list_any}
use Rattle.std.specs.Str.{bytes_eq}
use Rattle.std.proofs.lemmas.Grind.{flat_map-append}
use Rattle.std.proofs.lemmas.List.Elements.{All-head, All-tail, filter-append}
use denote.Hole.Carrier.{out}
use mathlib.Core.Former.{Count}
use Rattle.xmp_values.specs.Spaces.{meta_space, rdf_space, xml_space}
use Rattle.xmp_values.specs.Texts.{with_text}
use Rattle.xmp_values.specs.declared.hints.Hint.{Hint}
use Rattle.xmp_values.specs.declared.text.Name.{Name}
use Rattle.xml_grammar.specs.declared.elements.Attribute.{Attribute}
use Rattle.xml_grammar.specs.declared.elements.Child.{Child, Child-F, out-Child, roll-Child, roll-out-Child, fold-roll-Child}
use Rattle.xml_grammar.specs.declared.elements.Child.TheFolds.{fold-roll-Element}
use Rattle.xml_grammar.specs.declared.elements.Child.TheViews.{roll-Element}
use Rattle.xml_grammar.specs.declared.elements.Child.TheViews as views
use Rattle.xml_grammar.specs.declared.elements.Child.TheOpen as layer
use Rattle.xml_grammar.specs.declared.elements.Element.{Element, out-Element}
use Rattle.xml_grammar.proofs.OneMeaning.{one_document}
use Rattle.known_prefixes.specs.Prefixes.{is_fixed}
use Rattle.xmp_tree.specs.declared.nested.Kind.{Kind}
use Rattle.xmp_tree.specs.declared.nested.Member.{Member, Member'}
use Rattle.xmp_tree.specs.declared.nested.Value.{Value, Value', outs-Value', Row_of-Member, end_of-Member, more_of-Member, items-the_row-Member, items_shown-the_row-Member-0}
use Rattle.xmp_tree.specs.declared.nested.Shape.{Shape, out-Shape, Simple, Uri, Struct', Array', Row_of-Value, end_of-Value, more_of-Value}
use Rattle.xmp_tree.specs.Parts.{Parts, simple}
use Rattle.xmp_tree.specs.Wf.{IsWfValue, IsWfShape, IsWfMember, AreWfMembers, AreWfValues, AreQualifiers, IsQualifier, IsPlain, Wf, lang_name, note_name}
use Rattle.xmp_tree.specs.Wf as tree
use Rattle.xmp_tree.proofs.Made.{plain_simple}
use Rattle.rdf_forms.specs.Words.{rdf}
use Rattle.rdf_forms.specs.Parts.{name_of, attributes_of, elements_in, element_in, elements_of}
use Rattle.xmp_write.specs.declared.forms.Form.{Form}
use Rattle.xmp_write.specs.Prefixes.{with_use, declared_spaces, spaces_in}
use Rattle.xmp_write.specs.Text.{canonical_text, is_lang_name, lang_in, is_more, has_others}
use Rattle.xmp_write.specs.Written.{value_spaces, shape_spaces, member_spaces, members_spaces, items_spaces, note_members, note_spaces, written_props, written_members, written_spaces}
use Rattle.xmp_write.specs.WrittenPackets.{canonical_packet}
use Rattle.xmp_write.proofs.PlaceMaps.{spaces_in-given}
use Rattle.round_trip.specs.Elements.{lang_attributes, Mark, Plain, Parsed, Resource, mark_attributes, IsMarked, kind_local, Chosen, Begun, IsWritten, IsShape, AreMembers, AreOthers, AreItems, AreProperties}
use Rattle.round_trip.specs.FirstUses.{attribute_spaces, child_spaces, element_spaces, spaces_within, used_spaces, first_uses, TreeUses, DeclaresByUse, TextsDeclareByUse}
use Rattle.round_trip.specs.Law.{MayWrite, HasWriting, text_hints}
use Rattle.round_trip.proofs.Rolled.{Length, count, member_is}
use Rattle.round_trip.proofs.Values.{name_row, value_row, tag_is}
use Rattle.round_trip.proofs.Notes.{after_note}
use Rattle.round_trip.proofs.WrittenMembers.{part_formed}
use Rattle.round_trip.proofs.Documents.{written_documents}

abbrev Spaces : Type 0
Spaces = List (List ℕ)

-- ---- the namespaces of an element are its own and those of its child elements

element_is : (e : Element) → used_spaces e ≡ (name_of e).space ∷ (attribute_spaces (attributes_of e) ++ flat_map (λ (inside : Spaces). inside) (map spaces_within (out-Element e).children))
element_is e =
    ap used_spaces (sym (views.roll-out-Element e)) ∙ ap spaces_within (sym (views.rolls-Element (roll-Element (out-Element e))))
    ∙ fold-roll-Child Spaces Spaces child_spaces element_spaces (layer.Element (roll-Element (out-Element e)))
    ∙ fold-roll-Element Spaces Spaces child_spaces element_spaces (out-Element e)

children_are : (cs : List Child) → flat_map (λ (inside : Spaces). inside) (map spaces_within cs) ≡ flat_map used_spaces (elements_in cs)
children_are [] = refl
children_are (c ∷ cs) = by (out-Child c) (roll-out-Child c) (children_are cs)
  where
    by : (x : Child-F Child Element) → roll-Child x ≡ c → flat_map (λ (inside : Spaces). inside) (map spaces_within cs) ≡ flat_map used_spaces (elements_in cs)
        → spaces_within c ++ flat_map (λ (inside : Spaces). inside) (map spaces_within cs) ≡ flat_map used_spaces (cons_option (element_in x) (elements_in cs))
    by (layer.Element e) is rest =
        let one : spaces_within c ≡ used_spaces e = ap spaces_within (sym is) ∙ ap spaces_within (views.rolls-Element e) in
        ap (λ (front : Spaces). front ++ flat_map (λ (inside : Spaces). inside) (map spaces_within cs)) one ∙ ap (λ (more : Spaces). used_spaces e ++ more) rest
    by (layer.Text text) is rest =
        let none : spaces_within c ≡ [] = ap spaces_within (sym is) ∙ fold-roll-Child Spaces Spaces child_spaces element_spaces (layer.Text text) in
        ap (λ (front : Spaces). front ++ flat_map (λ (inside : Spaces). inside) (map spaces_within cs)) none ∙ rest

-- ---- fixed namespaces change nothing

abbrev unfixed : Spaces → Spaces
unfixed = filter (λ (space : List ℕ). not (is_fixed space))

-- the same namespaces in the same order, but for the fixed ones
record Same (us vs : Spaces) : Type 0 where
  kept : unfixed us ≡ unfixed vs

same : (us : Spaces) → Same us us
same us = record { kept = refl }

same_append : (us vs ws xs : Spaces) → Same us vs → Same ws xs → Same (us ++ ws) (vs ++ xs)
same_append us vs ws xs h k = record {
  kept =
      filter-append (λ (space : List ℕ). not (is_fixed space)) us ws
      ∙ ap (λ (front : Spaces). front ++ unfixed ws) h.kept ∙ ap (λ (back : Spaces). unfixed vs ++ back) k.kept
      ∙ sym (filter-append (λ (space : List ℕ). not (is_fixed space)) vs xs);
}

same_cons : (space : List ℕ) (us vs : Spaces) → Same us vs → Same (space ∷ us) (space ∷ vs)
same_cons space us vs h = same_append (space ∷ []) (space ∷ []) us vs (same (space ∷ [])) h

drop_fixed : (space : List ℕ) (us : Spaces) → is_fixed space ≡ true → Same (space ∷ us) us
drop_fixed space us is = record { kept = ap (λ (b : Bool). cond (not b) (space ∷ unfixed us) (unfixed us)) is }

same_then : (us vs ws : Spaces) → Same us vs → Same vs ws → Same us ws
same_then us vs ws h k = record { kept = h.kept ∙ k.kept }

fold_unfixed : (uses spaces : Spaces) → fold with_use spaces (unfixed uses) ≡ fold with_use spaces uses
fold_unfixed [] spaces = refl
fold_unfixed (space ∷ uses) spaces = by (is_fixed space) refl (fold_unfixed uses)
  where
    by : (b : Bool) → is_fixed space ≡ b → ((spaces : Spaces) → fold with_use spaces (unfixed uses) ≡ fold with_use spaces uses)
        → fold with_use spaces (cond (not b) (space ∷ unfixed uses) (unfixed uses)) ≡ fold with_use (cond (b || list_any (bytes_eq space) spaces) spaces (spaces ++ space ∷ [])) uses
    by true is rest = rest spaces
    by false is rest = rest (with_use spaces space) ∙ ap (λ (b : Bool). fold with_use (cond (b || list_any (bytes_eq space) spaces) spaces (spaces ++ space ∷ [])) uses) is

same_uses : (us vs : Spaces) → Same us vs → fold with_use [] us ≡ fold with_use [] vs
same_uses us vs h = sym (fold_unfixed us []) ∙ ap (fold with_use []) h.kept ∙ fold_unfixed vs []

rdf_fixed : is_fixed rdf_space ≡ true
unfolding rdf_space
rdf_fixed = refl

lang_fixed : is_fixed lang_name.space ≡ true
unfolding lang_name rdf_space xml_space
lang_fixed = refl

-- ---- one element

-- the attributes of a written element are in fixed namespaces
none_attributed : (lang : Option (List ℕ)) (mark : Mark) → Same (attribute_spaces (lang_attributes lang ++ mark_attributes mark)) []
unfolding lang_name rdf_space xml_space
none_attributed None Plain = record { kept = refl }
none_attributed None Parsed = record { kept = refl }
none_attributed None (Resource uri) = record { kept = refl }
none_attributed (Some tag) Plain = record { kept = refl }
none_attributed (Some tag) Parsed = record { kept = refl }
none_attributed (Some tag) (Resource uri) = record { kept = refl }

-- an element whose attributes are in fixed namespaces uses that of its name and then those of its child elements
element_uses : (e : Element) (name : Name) (attributes : List Attribute) (inside : Spaces) → name_of e ≡ name → attributes_of e ≡ attributes
    → Same (attribute_spaces attributes) [] → Same (flat_map used_spaces (elements_of e)) inside → Same (used_spaces e) (name.space ∷ inside)
element_uses e name attributes inside named attributed none h =
    let rest : Spaces = flat_map used_spaces (elements_of e) in
    let is : used_spaces e ≡ name.space ∷ (attribute_spaces attributes ++ rest) =
    element_is e
    ∙ ap (λ (more : Spaces). (name_of e).space ∷ (attribute_spaces (attributes_of e) ++ more)) (children_are (out-Element e).children)
    ∙ ap (λ (n : Name). n.space ∷ (attribute_spaces (attributes_of e) ++ rest)) named
    ∙ ap (λ (xs : List Attribute). name.space ∷ (attribute_spaces xs ++ rest)) attributed in
    subst (λ (us : Spaces). Same us (name.space ∷ inside)) (sym is)
    (same_cons name.space (attribute_spaces attributes ++ rest) inside (same_append (attribute_spaces attributes) [] rest inside none h))

-- the same where the name is fixed too
fixed_uses : (e : Element) (name : Name) (attributes : List Attribute) (inside : Spaces) → name_of e ≡ name → attributes_of e ≡ attributes → is_fixed name.space ≡ true
    → Same (attribute_spaces attributes) [] → Same (flat_map used_spaces (elements_of e)) inside → Same (used_spaces e) inside
fixed_uses e name attributes inside named attributed is none h =
    same_then (used_spaces e) (name.space ∷ inside) inside (element_uses e name attributes inside named attributed none h) (drop_fixed name.space inside is)

marked_uses : (e : Element) (name : Name) (lang : Option (List ℕ)) (mark : Mark) (text : List ℕ) (inside : Spaces) → IsMarked e name lang mark text
    → Same (flat_map used_spaces (elements_of e)) inside → Same (used_spaces e) (name.space ∷ inside)
marked_uses e name lang mark text inside h k =
    element_uses e name (lang_attributes lang ++ mark_attributes mark) inside h.named h.attributed (none_attributed lang mark) k

-- elements of a list that begins with one, and an only one
begun_uses : (es others : List Element) (x : Element) (first more : Spaces) → es ≡ x ∷ others → Same (used_spaces x) first → Same (flat_map used_spaces others) more
    → Same (flat_map used_spaces es) (first ++ more)
begun_uses es others x first more is h k =
    subst (λ (es : List Element). Same (flat_map used_spaces es) (first ++ more)) (sym is) (same_append (used_spaces x) first (flat_map used_spaces others) more h k)

no_elements : (es : List Element) → es ≡ [] → Same (flat_map used_spaces es) []
no_elements es is = subst (λ (es : List Element). Same (flat_map used_spaces es) []) (sym is) (same [])

only_uses : (es : List Element) (x : Element) (inside : Spaces) → es ≡ x ∷ [] → Same (used_spaces x) inside → Same (flat_map used_spaces es) inside
only_uses es x inside is h = subst (Same (flat_map used_spaces es)) (append-nil inside) (begun_uses es [] x inside [] is h (same []))

-- ---- a simple text has no names

no_fields : (s : Shape) → tree.IsSimpleLayer (out-Shape s) → shape_spaces s ≡ []
unfolding out-Shape out
no_fields (Simple text) h = refl
no_fields (Uri text) h = absurd h
no_fields (Struct' n fields) h = absurd h
no_fields (Array' kind n items) h = absurd h

no_members : (n : Count) (row : Row_of-Member n) → items-the_row-Member n row ≡ [] → members_spaces row ≡ []
no_members n end_of-Member none = refl
no_members n (more_of-Member m rest) none = absurd cc

plain_spaces : (v : Value) → IsPlain v → value_spaces v ≡ []
plain_spaces (Value' s n q) p =
    let none : items-the_row-Member _ q ≡ [] = rw (outs-Value' s n q, items_shown-the_row-Member-0 n q) at p.1 in
    let is : tree.IsSimpleLayer (out-Shape s) = rw (outs-Value' s n q) at p.0 in
    ap (λ (us : Spaces). us ++ members_spaces q) (no_fields s is) ∙ no_members _ q none

-- ---- what is claimed of each part

abbrev ShapeUses : Shape → Type 0
ShapeUses s = (e : Element) (name : Name) (lang : Option (List ℕ)) → IsShape e name lang s → IsWfShape s → Same (used_spaces e) (name.space ∷ shape_spaces s)

abbrev ValueUses : Value → Type 0
ValueUses v = (e : Element) (name : Name) → IsWritten e name v → IsWfValue v → Same (used_spaces e) (name.space ∷ value_spaces v)

abbrev MembersUse : (n : Count) → Row_of-Member n → Type 0
MembersUse n row = (es : List Element) → AreMembers es row → AreWfMembers row → Same (flat_map used_spaces es) (members_spaces row)

-- the qualifier `xml:lang` is no element, and its namespace is fixed
abbrev OthersUse : (n : Count) → Row_of-Member n → Type 0
OthersUse n row = (es : List Element) → AreOthers es row → AreWfMembers row → AreQualifiers (items-the_row-Member n row) → Same (flat_map used_spaces es) (members_spaces row)

abbrev ItemsUse : (n : Count) → Row_of-Value n → Type 0
ItemsUse n row = (es : List Element) → AreItems es row → AreWfValues row → Same (flat_map used_spaces es) (items_spaces row)

-- ---- members, items and qualifiers

members_more : (name : Name) (v : Value) (n : Count) (rest : Row_of-Member n) → ValueUses v → MembersUse n rest → MembersUse _ (more_of-Member (Member' name v) rest)
members_more name v n rest ih ihs es h wf =
    begun_uses es h.1 h.0 (name.space ∷ value_spaces v) (members_spaces rest) h.2 (ih h.0 name h.3 wf.0.1) (ihs h.1 h.4 wf.1)

-- an element of RDF's names for what is inside, as `rdf:li` and `rdf:value`
in_rdf : (local : List ℕ) (x : Element) (inside : Spaces) → Same (used_spaces x) ((rdf local).space ∷ inside) → Same (used_spaces x) inside
in_rdf local x inside h = same_then (used_spaces x) (rdf_space ∷ inside) inside h (drop_fixed rdf_space inside rdf_fixed)

items_more : (v : Value) (n : Count) (rest : Row_of-Value n) → ValueUses v → ItemsUse n rest → ItemsUse _ (more_of-Value v rest)
items_more v n rest ih ihs es h wf =
    begun_uses es h.1 h.0 (value_spaces v) (items_spaces rest) h.2 (in_rdf (codes "li") h.0 (value_spaces v) (ih h.0 (rdf (codes "li")) h.3 wf.0)) (ihs h.1 h.4 wf.1)

-- `xml:lang` has no names but its own
lang_spaces : (name : Name) (v : Value) (n : Count) (rest : Row_of-Member n) → is_lang_name name ≡ true → AreQualifiers (Member' name v ∷ items-the_row-Member n rest)
    → Same [] (name.space ∷ value_spaces v)
lang_spaces name v n rest is quals =
    let named = tag_is name is in
    let kept = (All-head IsQualifier (Member' name v) (items-the_row-Member n rest) quals.each).lang (name_row name v ∙ named) in
    let none = plain_spaces v (subst IsPlain (value_row name v) kept) in
    let fixed : is_fixed name.space ≡ true = ap (λ (n : Name). is_fixed n.space) named ∙ lang_fixed in
    record { kept = sym ((drop_fixed name.space (value_spaces v) fixed).kept ∙ ap unfixed none) }

others_more : (name : Name) (v : Value) (n : Count) (rest : Row_of-Member n) → ValueUses v → MembersUse n rest → OthersUse _ (more_of-Member (Member' name v) rest)
others_more name v n rest ih ihs es h wf quals = by (is_lang_name name) refl h
  where
    by : (b : Bool) → is_lang_name name ≡ b → Chosen b (AreMembers es rest) (Begun (λ x. IsWritten x name v) (λ others. AreMembers others rest) es)
        → Same (flat_map used_spaces es) ((name.space ∷ value_spaces v) ++ members_spaces rest)
    by true is h = same_append [] (name.space ∷ value_spaces v) (flat_map used_spaces es) (members_spaces rest) (lang_spaces name v n rest is quals) (ihs es h wf.1)
    by false is h = members_more name v n rest ih ihs es h wf

-- where there are no others, no elements are their writing
none_more : (n : Count) (q : Row_of-Member n) → is_more q ≡ false → AreMembers [] q
none_more n end_of-Member h = refl
none_more n (more_of-Member m rest) h = absurd cc

none_others : (n : Count) (q : Row_of-Member n) → has_others q ≡ false → AreOthers [] q
none_others n end_of-Member h = refl
none_others n (more_of-Member (Member' name v) rest) h = by (is_lang_name name) h
  where
    by : (b : Bool) → cond b (is_more rest) true ≡ false → Chosen b (AreMembers [] rest) (Begun (λ x. IsWritten x name v) (λ others. AreMembers others rest) [])
    by true h = none_more _ rest h
    by false h = absurd cc

-- ---- values

module _ (s : Shape) (n : Length) (q : Row_of-Member (count n)) (ihs : ShapeUses s) (iho : OthersUse (count n) q) where
  value_step : ValueUses (Value' s n q)
  value_step e name h wf = by (has_others q) refl h
    where
      by : (b : Bool) → has_others q ≡ b
          → Chosen b (IsMarked e name (lang_in q) Parsed [] × Begun (λ x. IsShape x (rdf (codes "value")) None s) (λ es. AreOthers es q) (elements_of e)) (IsShape e name (lang_in q) s)
          → Same (used_spaces e) (name.space ∷ (shape_spaces s ++ members_spaces q))
      by true is h =
          let x = h.1.0 in
          let others = h.1.1 in
          marked_uses e name (lang_in q) Parsed [] (shape_spaces s ++ members_spaces q) h.0
          (begun_uses (elements_of e) others x (shape_spaces s) (members_spaces q) h.1.2
          (in_rdf (codes "value") x (shape_spaces s) (ihs x (rdf (codes "value")) None h.1.3 wf.0)) (iho others h.1.4 wf.1.0 wf.1.1))
      by false is h =
          subst (λ (us : Spaces). Same us (name.space ∷ (shape_spaces s ++ members_spaces q))) (append-nil (used_spaces e))
          (same_append (used_spaces e) (name.space ∷ shape_spaces s) [] (members_spaces q) (ihs e name (lang_in q) h wf.0) (iho [] (none_others _ q is) wf.1.0 wf.1.1))

simple_shape : (text : List ℕ) → ShapeUses (Simple text)
simple_shape text e name lang h wf = marked_uses e name lang Plain text [] h.0 (no_elements (elements_of e) h.1)

uri_shape : (text : List ℕ) → ShapeUses (Uri text)
uri_shape text e name lang h wf = marked_uses e name lang (Resource text) [] [] h.0 (no_elements (elements_of e) h.1)

struct_shape : (n : Length) (row : Row_of-Member (count n)) → MembersUse _ row → ShapeUses (Struct' n row)
struct_shape n row ih e name lang h wf = marked_uses e name lang Parsed [] (members_spaces row) h.0 (ih (elements_of e) h.1 wf.0)

array_shape : (kind : Kind) (n : Length) (row : Row_of-Value (count n)) → ItemsUse _ row → ShapeUses (Array' kind n row)
array_shape kind n row ih e name lang h wf =
    let c = h.1.0 in
    let inside = ih (elements_of c) h.1.3 wf in
    marked_uses e name lang Plain [] (items_spaces row) h.0
    (only_uses (elements_of e) c (items_spaces row) h.1.1
    (fixed_uses c (rdf (kind_local kind)) [] (items_spaces row) h.1.2.named h.1.2.attributed rdf_fixed (same []) inside))

mutual
  value_uses : (v : Value) → ValueUses v
  value_uses (Value' s n q) = value_step s n q (shape_uses s) (others_use _ q)

  shape_uses : (s : Shape) → ShapeUses s
  shape_uses (Simple text) = simple_shape text
  shape_uses (Uri text) = uri_shape text
  shape_uses (Struct' n fields) = struct_shape n fields (members_use _ fields)
  shape_uses (Array' kind n items) = array_shape kind n items (items_use _ items)

  members_use : (n : Count) (row : Row_of-Member n) → MembersUse n row
  members_use n end_of-Member = λ es h wf. no_elements es h
  members_use n (more_of-Member (Member' name v) rest) = members_more name v _ rest (value_uses v) (members_use _ rest)

  others_use : (n : Count) (row : Row_of-Member n) → OthersUse n row
  others_use n end_of-Member = λ es h wf quals. no_elements es h
  others_use n (more_of-Member (Member' name v) rest) = others_more name v _ rest (value_uses v) (members_use _ rest)

  items_use : (n : Count) (row : Row_of-Value n) → ItemsUse n row
  items_use n end_of-Value = λ es h wf. no_elements es h
  items_use n (more_of-Value v rest) = items_more v _ rest (value_uses v) (items_use _ rest)

-- ---- the tree

props_use : (ms : List Member) (es : List Element) → AreProperties es ms → All IsWfMember ms → Same (flat_map used_spaces es) (flat_map member_spaces ms)
props_use [] es h wf = no_elements es h
props_use (Member' name v ∷ ms) es h wf =
    begun_uses es h.1 h.0 (name.space ∷ value_spaces v) (flat_map member_spaces ms) h.2
    (value_uses v h.0 name h.3 (All-head IsWfMember (Member' name v) ms wf).1)
    (props_use ms h.1 h.4 (All-tail IsWfMember (Member' name v) ms wf))

note_written : (note : Option (List ℕ)) → flat_map member_spaces (note_members note) ≡ note_spaces note
note_written None = refl
note_written (Some digits) =
    ap (λ (m : Member). member_spaces m ++ []) (member_is note_name (simple digits))
    ∙ ap (λ (us : Spaces). (note_name.space ∷ us) ++ []) (plain_spaces (simple digits) (plain_simple digits))

all_written : (t : Parts) (form : Form) → flat_map member_spaces (written_members t form) ≡ written_spaces t form
all_written t form =
    flat_map-append member_spaces (note_members form.note) (written_props t form)
    ∙ ap (λ (us : Spaces). us ++ flat_map member_spaces (written_props t form)) (note_written form.note)

about_fixed : (about : List ℕ) → Same (attribute_spaces (record { name = rdf (codes "about"); value = about } ∷ [])) []
unfolding rdf_space
about_fixed about = record { kept = refl }

-- an element without attributes around one other
around : (e inner : Element) (name : Name) → name_of e ≡ name → attributes_of e ≡ [] → elements_of e ≡ inner ∷ [] → used_spaces e ≡ name.space ∷ used_spaces inner
around e inner name named bare one =
    element_is e
    ∙ ap (λ (more : Spaces). (name_of e).space ∷ (attribute_spaces (attributes_of e) ++ more)) (children_are (out-Element e).children)
    ∙ ap (λ (n : Name). n.space ∷ (attribute_spaces (attributes_of e) ++ flat_map used_spaces (elements_of e))) named
    ∙ ap (λ (xs : List Attribute). name.space ∷ (attribute_spaces xs ++ flat_map used_spaces (elements_of e))) bare
    ∙ ap (λ (es : List Element). name.space ∷ flat_map used_spaces es) one
    ∙ ap (λ (more : Spaces). name.space ∷ more) (append-nil (used_spaces inner))

-- ---- first uses, with the namespaces of the elements around a tree

abbrev declarable : Spaces → Spaces
declarable = filter (λ (space : List ℕ). not (bytes_eq space xml_space))

abbrev after_root : Spaces → Spaces
after_root spaces = meta_space ∷ rdf_space ∷ spaces

-- one use more: that of `xml` is none, those of the elements around are there, and any other is put at the end unless it is there
used_once : (space : List ℕ) (spaces : Spaces) (is_xml is_rdf is_meta is_there : Bool)
    → cond is_xml (after_root spaces) (cond (is_meta || (is_rdf || is_there)) (after_root spaces) (after_root spaces ++ space ∷ []))
    ≡ after_root (cond ((is_rdf || (is_xml || (is_meta || false))) || is_there) spaces (spaces ++ space ∷ []))
used_once space spaces true true is_meta is_there = refl
used_once space spaces true false is_meta is_there = refl
used_once space spaces false true true is_there = refl
used_once space spaces false true false is_there = refl
used_once space spaces false false true is_there = refl
used_once space spaces false false false true = refl
used_once space spaces false false false false = refl

passed_over : (is_xml : Bool) (space : List ℕ) (spaces uses : Spaces)
    → fold with_text spaces (cond (not is_xml) (space ∷ uses) uses) ≡ fold with_text (cond is_xml spaces (with_text spaces space)) uses
passed_over true space spaces uses = refl
passed_over false space spaces uses = refl

uses_after_root : (uses spaces : Spaces) → fold with_text (after_root spaces) (declarable uses) ≡ after_root (fold with_use spaces uses)
uses_after_root [] spaces = refl
uses_after_root (space ∷ uses) spaces =
    passed_over (bytes_eq space xml_space) space (after_root spaces) (declarable uses)
    ∙ ap (λ (front : Spaces). fold with_text front (declarable uses))
    (used_once space spaces (bytes_eq space xml_space) (bytes_eq space rdf_space) (bytes_eq space meta_space) (list_any (bytes_eq space) spaces))
    ∙ uses_after_root uses (with_use spaces space)

root_first : (uses : Spaces) → fold with_text [] (declarable (after_root uses)) ≡ fold with_text (after_root []) (declarable uses)
unfolding rdf_space xml_space meta_space
root_first uses = refl

pub tree_uses : TreeUses
tree_uses t form root h wf note =
    let written : List Member = written_members t form in
    let formed = after_note form.note (written_props t form) note (part_formed t form wf).props (part_formed t form wf).note in
    let props = props_use written (elements_of h.top) h.listed formed.within.each in
    let inner : Same (used_spaces h.top) (flat_map member_spaces written) =
    fixed_uses h.top (rdf (codes "Description")) (record { name = rdf (codes "about"); value = t.about } ∷ []) (flat_map member_spaces written) h.named h.attributed rdf_fixed (about_fixed t.about) props in
    let outer : used_spaces root ≡ after_root (used_spaces h.top) =
    around root h.described (record { space = meta_space; local = codes "xmpmeta" }) h.meta_is.named h.meta_is.attributed h.one
    ∙ ap (λ (more : Spaces). meta_space ∷ more) (around h.described h.top (rdf (codes "RDF")) h.rdf_is.named h.rdf_is.attributed h.one_top) in
    ap (λ (uses : Spaces). fold with_text [] (declarable uses)) outer
    ∙ root_first (used_spaces h.top)
    ∙ uses_after_root (used_spaces h.top) []
    ∙ ap after_root (same_uses (used_spaces h.top) (flat_map member_spaces written) inner ∙ ap (fold with_use []) (all_written t form))

-- ---- the text

declares : (text : List ℕ) (t : Parts) (hints : List Hint) (form : Form) → MayWrite t hints form → HasWriting text (text_hints t hints form) t form → DeclaresByUse text
declares text t hints form may h root declared d =
    let alone = one_document text root h.0 declared (text_hints t hints form) d h.2 in
    ap spaces_in alone.1
    ∙ ap after_root (spaces_in-given hints [] (declared_spaces t form))
    ∙ sym (tree_uses t form h.0 h.1 may.formed may.noted)
    ∙ ap first_uses (sym alone.0)

pub texts_declare_by_use : TextsDeclareByUse
texts_declare_by_use t hints form may =
    let written = written_documents t hints form may in (
      declares (canonical_text t hints form) t hints form may written.0,
      λ len. declares (canonical_packet t hints form len) t hints form may (written.1 len),
    )
