-- The text of a value inside an element is spelled by pieces that are an element, and that is the writing of the value.
use Rattle.std.proofs.Common.{◌≡◌, ℕ, ◌+◌, ◌*◌, ◌≤◌, Bool, true, false, cond, List, [], ◌∷◌, ◌++◌, length, map, Option, Some, None, refl, ap, sym, subst, ◌∙◌, append_assoc, append-nil, arith}
use Rattle.std.specs.Prelude.{codes}
use lib.Utf8.{encode}
use mathlib.Core.Former.{Count}
use Rattle.xmp_values.specs.Characters.{IsCharText, is_name_start, is_name_char}
use Rattle.xmp_values.proofs.CharacterTexts.{IsCharText-spells}
use Rattle.xmp_values.specs.declared.hints.Hint.{Hint}
use Rattle.xmp_values.specs.declared.text.Name.{Name}
use Rattle.xml_grammar.specs.declared.elements.Child.TheVariants as child
use Rattle.xml_grammar.specs.declared.elements.Element.{Element}
use Rattle.xml_grammar.specs.Scopes.{Binding}
use Rattle.xml_grammar.specs.Nesting.{Level}
use Rattle.xml_grammar.specs.Trees.{Event, Closes, joined, put, events}
use Rattle.xml_grammar.proofs.TreeEvents.{element}
use Rattle.xml_grammar.proofs.SoundPieces.{no_text}
use Rattle.xmp_tree.specs.declared.nested.Kind.{Kind}
use Rattle.xmp_tree.specs.declared.nested.Kind.TheVariants.{Bag, Seq, Alt}
use Rattle.xmp_tree.specs.declared.nested.Member.{Member'}
use Rattle.xmp_tree.specs.declared.nested.Value.{Value, Value', Row_of-Member, end_of-Member, more_of-Member}
use Rattle.xmp_tree.specs.declared.nested.Shape.{Shape, Simple, Uri, Struct', Array', Row_of-Value, end_of-Value, more_of-Value}
use Rattle.xmp_tree.specs.Wf.{IsWfValue, IsWfShape, AreWfMembers, AreWfValues, value_depth, shape_depth, member_depths, value_depths}
use Rattle.rdf_forms.specs.Words.{rdf}
use Rattle.rdf_forms.specs.Parts.{elements_of}
use Rattle.xmp_write.specs.Text.{is_lang_name, simple_in, tag_in, lang_in, has_others, lang_text, parse_text, text_escaped, element_text, kind_name, value_text, shape_text, members_text, others_text, items_text}
use Rattle.xmp_write.specs.Prefixes.{spelled}
use Rattle.round_trip.specs.Elements.{IsMarked, Plain, Parsed, Resource, kind_local, Chosen, Begun, IsWritten, IsShape, AreMembers, AreOthers, AreItems}
use Rattle.round_trip.proofs.Naming.{HasNames, ShapeNames, MembersNames, ItemsNames}
use Rattle.round_trip.proofs.Rolled.{Length, count}
use Rattle.round_trip.proofs.Marked.{row}
use Rattle.round_trip.proofs.Spelt.{inside, IsSpelt, Anything, Tagged, spelt_then, spelt_none, text_spelt}
use Rattle.round_trip.proofs.Tags.{level_of}
use Rattle.round_trip.proofs.Marks.{raws, IsTag, IsBase}
use Rattle.round_trip.proofs.Built.{holding, worded, words, IsTagName, qname, spelt_same, spelt_before, below_bound, built, built_empty, put_words}

-- an element of a kind that bytes at a place inside open elements spell
pub record Made (P : Element → Type 0) (l : Level) (ls : List Level) (at : ℕ) (bytes : List ℕ) : Type 0 where
  pub e : Element
  pub is : P e
  pub spelt : IsSpelt Anything (inside (l ∷ ls)) at bytes (λ es. events (child.Element e) ++ es) (inside (l ∷ ls))

-- elements one after the other
pub record MadeRow (P : List Element → Type 0) (l : Level) (ls : List Level) (at : ℕ) (bytes : List ℕ) : Type 0 where
  pub es : List Element
  pub are : P es
  pub spelt : IsSpelt Anything (inside (l ∷ ls)) at bytes (λ more. joined (map events (map child.Element es)) ++ more) (inside (l ∷ ls))

row_end : (P : List Element → Type 0) (l : Level) (ls : List Level) (at : ℕ) → P [] → MadeRow P l ls at []
row_end P l ls at h = record { es = []; are = h; spelt = spelt_none (inside (l ∷ ls)) at }

row_more : (P : Element → Type 0) (Q : List Element → Type 0) (l : Level) (ls : List Level) (at : ℕ) (a b : List ℕ) → Made P l ls at a → MadeRow Q l ls (at + length a) b
    → MadeRow (Begun P Q) l ls at (a ++ b)
row_more P Q l ls at a b h k = record {
  es = h.e ∷ k.es;
  are = (h.e, k.es, refl, h.is, k.are);
  spelt = spelt_same [] Anything (inside (l ∷ ls)) (inside (l ∷ ls)) at (a ++ b)
      (λ more. events (child.Element h.e) ++ (joined (map events (map child.Element k.es)) ++ more))
      (λ more. joined (map events (map child.Element (h.e ∷ k.es))) ++ more)
      (λ more. sym (append_assoc (events (child.Element h.e)) (joined (map events (map child.Element k.es))) more))
      (spelt_then Anything Anything (inside (l ∷ ls)) (inside (l ∷ ls)) (inside (l ∷ ls)) at a b
      (λ es. events (child.Element h.e) ++ es) (λ more. joined (map events (map child.Element k.es)) ++ more) h.spelt k.spelt (λ left any. tt));
}

kind_tag : (bs : List Binding) (kind : Kind) → IsBase bs → IsTagName bs (rdf (kind_local kind)) (kind_name kind)
unfolding encode is_name_start is_name_char
kind_tag bs Bag base = record { prefix = codes "rdf"; chars = codes "rdf:Bag"; spelled = (codes "rdf", codes "Bag", (refl, refl), (refl, refl), refl); utf8 = refl; scalar = refl; bound = base.rdf }
kind_tag bs Seq base = record { prefix = codes "rdf"; chars = codes "rdf:Seq"; spelled = (codes "rdf", codes "Seq", (refl, refl), (refl, refl), refl); utf8 = refl; scalar = refl; bound = base.rdf }
kind_tag bs Alt base = record { prefix = codes "rdf"; chars = codes "rdf:Alt"; spelled = (codes "rdf", codes "Alt", (refl, refl), (refl, refl), refl); utf8 = refl; scalar = refl; bound = base.rdf }

item_tag : (bs : List Binding) → IsBase bs → IsTagName bs (rdf (codes "li")) (codes "rdf:li")
unfolding encode is_name_start is_name_char
item_tag bs base = record { prefix = codes "rdf"; chars = codes "rdf:li"; spelled = (codes "rdf", codes "li", (refl, refl), (refl, refl), refl); utf8 = refl; scalar = refl; bound = base.rdf }

value_tag : (bs : List Binding) → IsBase bs → IsTagName bs (rdf (codes "value")) (codes "rdf:value")
unfolding encode is_name_start is_name_char
value_tag bs base = record { prefix = codes "rdf"; chars = codes "rdf:value"; spelled = (codes "rdf", codes "value", (refl, refl), (refl, refl), refl); utf8 = refl; scalar = refl; bound = base.rdf }

simple_text : (s : Shape) → IsWfShape s → IsCharText (simple_in s)
simple_text (Simple text) h = h
simple_text (Uri text) h = no_text
simple_text (Struct' n fields) h = no_text
simple_text (Array' kind n items) h = no_text

tag_text : (v : Value) → IsWfValue v → IsCharText (tag_in v)
tag_text (Value' s n q) h = simple_text s h.0

tag_of : (n : Count) (q : Row_of-Member n) → AreWfMembers q → IsTag (lang_in q)
tag_of n end_of-Member h = tt
tag_of n (more_of-Member (Member' name v) rest) h = by (is_lang_name name) (tag_text v h.0.1)
  where
    by : (b : Bool) → IsCharText (tag_in v) → IsTag (cond b (Some (tag_in v)) None)
    by true h = h
    by false h = tt

module _ (ps : List Hint) (P : Name → Type 0) where
  -- the prefixes of the text are bound to their namespaces
  pub record IsScope (bs : List Binding) : Type 0 where
    pub base : IsBase bs
    pub own : (name : Name) → P name → IsTagName bs name (spelled ps name)

  abbrev pub ValueMade : Value → Type 0
  ValueMade v = (l : Level) (ls : List Level) (at : ℕ) (name : Name) (bytes : List ℕ) → IsTagName l.bound name bytes → IsScope l.bound → HasNames P v → IsWfValue v
      → length (l ∷ ls) + 3 * value_depth v ≤ 100 → Made (λ e. IsWritten e name v) l ls at (value_text ps bytes v)

  abbrev ShapeMade : Shape → Type 0
  ShapeMade s = (l : Level) (ls : List Level) (at : ℕ) (name : Name) (bytes : List ℕ) (lang : Option (List ℕ)) → IsTagName l.bound name bytes → IsScope l.bound → ShapeNames P s → IsWfShape s
      → IsTag lang → length (l ∷ ls) + 3 * shape_depth s ≤ 98 → Made (λ e. IsShape e name lang s) l ls at (shape_text ps bytes lang s)

  abbrev MembersMade : (n : Count) → Row_of-Member n → Type 0
  MembersMade n q = (l : Level) (ls : List Level) (at : ℕ) → IsScope l.bound → MembersNames P q → AreWfMembers q
      → length (l ∷ ls) + 3 * member_depths q ≤ 100 → MadeRow (λ es. AreMembers es q) l ls at (members_text ps q)

  abbrev OthersMade : (n : Count) → Row_of-Member n → Type 0
  OthersMade n q = (l : Level) (ls : List Level) (at : ℕ) → IsScope l.bound → MembersNames P q → AreWfMembers q
      → length (l ∷ ls) + 3 * member_depths q ≤ 100 → MadeRow (λ es. AreOthers es q) l ls at (others_text ps q)

  abbrev ItemsMade : (n : Count) → Row_of-Value n → Type 0
  ItemsMade n q = (l : Level) (ls : List Level) (at : ℕ) → IsScope l.bound → ItemsNames P q → AreWfValues q
      → length (l ∷ ls) + 3 * value_depths q ≤ 100 → MadeRow (λ es. AreItems es q) l ls at (items_text ps q)

  -- ---- shapes

  simple_made : (text : List ℕ) → ShapeMade (Simple text)
  simple_made text l ls at name bytes lang h scope names wf tag low =
      let t = (IsCharText-spells text).0 wf in
      let down : Level = level_of l (qname l.bound name bytes h) (raws lang Plain) in
      let off : ℕ = at + length (codes "<" ++ bytes ++ (lang_text lang ++ []) ++ codes ">") in
      let k : IsSpelt Tagged (inside (down ∷ l ∷ ls)) off (text_escaped text) (put text) (inside (down ∷ l ∷ ls)) =
      subst (λ (x : List ℕ). IsSpelt Tagged (inside (down ∷ l ∷ ls)) off (text_escaped x) (put x) (inside (down ∷ l ∷ ls))) (sym t.1) (text_spelt down (l ∷ ls) off t.0 t.2) in
      let e : Element = element at name (row lang Plain) (words text) in
      record {
        e = e;
        is = worded at name (row lang Plain) text;
        spelt = subst (λ (x : List ℕ). IsSpelt Anything (inside (l ∷ ls)) at (element_text bytes x (text_escaped text)) (λ es. events (child.Element e) ++ es) (inside (l ∷ ls))) (append-nil (lang_text lang))
            (built l ls name bytes lang Plain h scope.base tag tt (omega arith) at (words text) (text_escaped text) (put text) k (put_words text));
      }

  uri_made : (uri : List ℕ) → ShapeMade (Uri uri)
  uri_made uri l ls at name bytes lang h scope names wf tag low = record {
    e = element at name (row lang (Resource uri)) [];
    is = holding at name (row lang (Resource uri)) [];
    spelt = built_empty l ls name bytes lang (Resource uri) h scope.base tag wf (omega arith) at;
  }

  struct_made : (n : Length) (q : Row_of-Member (count n)) → MembersMade _ q → ShapeMade (Struct' n q)
  struct_made n q ih l ls at name bytes lang h scope names wf tag low =
      let down : Level = level_of l (qname l.bound name bytes h) (raws lang Parsed) in
      let off : ℕ = at + length (codes "<" ++ bytes ++ (lang_text lang ++ parse_text) ++ codes ">") in
      let bound = below_bound l ls name bytes lang Parsed h scope.base tag tt (omega arith) in
      let fields = ih down (l ∷ ls) off (subst IsScope (sym bound) scope) names wf.0 (omega arith) in
      let held = holding at name (row lang Parsed) fields.es in
      record {
        e = element at name (row lang Parsed) (map child.Element fields.es);
        is = (held.0, subst (λ (es : List Element). AreMembers es q) (sym held.1) fields.are);
        spelt = built l ls name bytes lang Parsed h scope.base tag tt (omega arith) at (map child.Element fields.es) (members_text ps q)
            (λ more. joined (map events (map child.Element fields.es)) ++ more)
            (spelt_before (inside (down ∷ l ∷ ls)) (inside (down ∷ l ∷ ls)) off (members_text ps q) (λ more. joined (map events (map child.Element fields.es)) ++ more) fields.spelt) (λ es. refl);
      }

  array_made : (kind : Kind) (n : Length) (q : Row_of-Value (count n)) → ItemsMade _ q → ShapeMade (Array' kind n q)
  array_made kind n q ih l ls at name bytes lang h scope names wf tag low =
      let down : Level = level_of l (qname l.bound name bytes h) (raws lang Plain) in
      let off : ℕ = at + length (codes "<" ++ bytes ++ (lang_text lang ++ []) ++ codes ">") in
      let bound = below_bound l ls name bytes lang Plain h scope.base tag tt (omega arith) in
      let base : IsBase down.bound = subst IsBase (sym bound) scope.base in
      let k = kind_tag down.bound kind base in
      let deep : Level = level_of down (qname down.bound (rdf (kind_local kind)) (kind_name kind) k) (raws None Plain) in
      let on : ℕ = off + length (codes "<" ++ kind_name kind ++ [] ++ codes ">") in
      let deeper = below_bound down (l ∷ ls) (rdf (kind_local kind)) (kind_name kind) None Plain k base tt tt (omega arith) in
      let items = ih deep (down ∷ l ∷ ls) on (subst IsScope (sym (deeper ∙ bound)) scope) names wf (omega arith) in
      let held = holding off (rdf (kind_local kind)) [] items.es in
      let c : Element = element off (rdf (kind_local kind)) [] (map child.Element items.es) in
      let inner : IsSpelt Anything (inside (down ∷ l ∷ ls)) off (element_text (kind_name kind) [] (items_text ps q)) (λ es. events (child.Element c) ++ es) (inside (down ∷ l ∷ ls)) =
      built down (l ∷ ls) (rdf (kind_local kind)) (kind_name kind) None Plain k base tt tt (omega arith) off (map child.Element items.es) (items_text ps q)
      (λ more. joined (map events (map child.Element items.es)) ++ more)
      (spelt_before (inside (deep ∷ down ∷ l ∷ ls)) (inside (deep ∷ down ∷ l ∷ ls)) on (items_text ps q) (λ more. joined (map events (map child.Element items.es)) ++ more) items.spelt) (λ es. refl) in
      let outer = holding at name (row lang Plain) (c ∷ []) in
      let e : Element = element at name (row lang Plain) (map child.Element (c ∷ [])) in
      record {
        e = e;
        is = (outer.0, (c, outer.1, held.0, subst (λ (es : List Element). AreItems es q) (sym held.1) items.are));
        spelt = subst (λ (x : List ℕ). IsSpelt Anything (inside (l ∷ ls)) at (element_text bytes x (element_text (kind_name kind) [] (items_text ps q))) (λ es. events (child.Element e) ++ es) (inside (l ∷ ls))) (append-nil (lang_text lang))
            (built l ls name bytes lang Plain h scope.base tag tt (omega arith) at (map child.Element (c ∷ [])) (element_text (kind_name kind) [] (items_text ps q))
            (λ es. events (child.Element c) ++ es)
            (spelt_before (inside (down ∷ l ∷ ls)) (inside (down ∷ l ∷ ls)) off (element_text (kind_name kind) [] (items_text ps q)) (λ es. events (child.Element c) ++ es) inner)
            (λ es. ap (λ (xs : List Event). xs ++ (Closes ∷ es)) (sym (append-nil (events (child.Element c))))));
      }

  -- ---- members and items

  members_more_made : (name : Name) (v : Value) (n : Count) (rest : Row_of-Member n) → ValueMade v → MembersMade n rest → MembersMade _ (more_of-Member (Member' name v) rest)
  members_more_made name v n rest ih ihs l ls at scope names wf low =
      row_more (λ e. IsWritten e name v) (λ es. AreMembers es rest) l ls at (value_text ps (spelled ps name) v) (members_text ps rest)
      (ih l ls at name (spelled ps name) (scope.own name names.0.0) scope names.0.1 wf.0.1 (omega arith))
      (ihs l ls (at + length (value_text ps (spelled ps name) v)) scope names.1 wf.1 (omega arith))

  others_more_made : (name : Name) (v : Value) (n : Count) (rest : Row_of-Member n) → ValueMade v → MembersMade n rest → OthersMade _ (more_of-Member (Member' name v) rest)
  others_more_made name v n rest ih ihs l ls at scope names wf low = by (is_lang_name name)
    where
      by : (b : Bool) → MadeRow (λ es. Chosen b (AreMembers es rest) (Begun (λ x. IsWritten x name v) (λ others. AreMembers others rest) es)) l ls at
          (cond b (members_text ps rest) (value_text ps (spelled ps name) v ++ members_text ps rest))
      by true = ihs l ls at scope names.1 wf.1 (omega arith)
      by false = members_more_made name v n rest ih ihs l ls at scope names wf low

  items_more_made : (v : Value) (n : Count) (rest : Row_of-Value n) → ValueMade v → ItemsMade n rest → ItemsMade _ (more_of-Value v rest)
  items_more_made v n rest ih ihs l ls at scope names wf low =
      row_more (λ e. IsWritten e (rdf (codes "li")) v) (λ es. AreItems es rest) l ls at (value_text ps (codes "rdf:li") v) (items_text ps rest)
      (ih l ls at (rdf (codes "li")) (codes "rdf:li") (item_tag l.bound scope.base) scope names.0 wf.0 (omega arith))
      (ihs l ls (at + length (value_text ps (codes "rdf:li") v)) scope names.1 wf.1 (omega arith))

  -- ---- values

  module _ (s : Shape) (n : Length) (q : Row_of-Member (count n)) (ihs : ShapeMade s) (iho : OthersMade (count n) q) where
    qualified_made : (l : Level) (ls : List Level) (at : ℕ) (name : Name) (bytes : List ℕ) → IsTagName l.bound name bytes → IsScope l.bound → HasNames P (Value' s n q) → IsWfValue (Value' s n q)
        → length (l ∷ ls) + 3 * value_depth (Value' s n q) ≤ 100
        → Made (λ e. IsMarked e name (lang_in q) Parsed [] × Begun (λ x. IsShape x (rdf (codes "value")) None s) (λ es. AreOthers es q) (elements_of e)) l ls at
        (element_text bytes (lang_text (lang_in q) ++ parse_text) (shape_text ps (codes "rdf:value") None s ++ others_text ps q))
    qualified_made l ls at name bytes h scope names wf low =
        let lang : Option (List ℕ) = lang_in q in
        let tag = tag_of _ q wf.1.0 in
        let down : Level = level_of l (qname l.bound name bytes h) (raws lang Parsed) in
        let off : ℕ = at + length (codes "<" ++ bytes ++ (lang_text lang ++ parse_text) ++ codes ">") in
        let bound = below_bound l ls name bytes lang Parsed h scope.base tag tt (omega arith) in
        let scoped : IsScope down.bound = subst IsScope (sym bound) scope in
        let x = ihs down (l ∷ ls) off (rdf (codes "value")) (codes "rdf:value") None (value_tag down.bound scoped.base) scoped names.0 wf.0 tt (omega arith) in
        let others = iho down (l ∷ ls) (off + length (shape_text ps (codes "rdf:value") None s)) scoped names.1 wf.1.0 (omega arith) in
        let all = row_more (λ x. IsShape x (rdf (codes "value")) None s) (λ es. AreOthers es q) down (l ∷ ls) off (shape_text ps (codes "rdf:value") None s) (others_text ps q) x others in
        let held = holding at name (row lang Parsed) all.es in
        record {
          e = element at name (row lang Parsed) (map child.Element all.es);
          is = (held.0, subst (Begun (λ x. IsShape x (rdf (codes "value")) None s) (λ es. AreOthers es q)) (sym held.1) all.are);
          spelt = built l ls name bytes lang Parsed h scope.base tag tt (omega arith) at (map child.Element all.es) (shape_text ps (codes "rdf:value") None s ++ others_text ps q)
              (λ more. joined (map events (map child.Element all.es)) ++ more)
              (spelt_before (inside (down ∷ l ∷ ls)) (inside (down ∷ l ∷ ls)) off (shape_text ps (codes "rdf:value") None s ++ others_text ps q)
              (λ more. joined (map events (map child.Element all.es)) ++ more) all.spelt) (λ es. refl);
        }

    value_made_step : ValueMade (Value' s n q)
    value_made_step l ls at name bytes h scope names wf low = by (has_others q)
      where
        by : (b : Bool) → Made (λ e. Chosen b (IsMarked e name (lang_in q) Parsed [] × Begun (λ x. IsShape x (rdf (codes "value")) None s) (λ es. AreOthers es q) (elements_of e)) (IsShape e name (lang_in q) s)) l ls at
            (cond b (element_text bytes (lang_text (lang_in q) ++ parse_text) (shape_text ps (codes "rdf:value") None s ++ others_text ps q)) (shape_text ps bytes (lang_in q) s))
        by true = qualified_made l ls at name bytes h scope names wf low
        by false = ihs l ls at name bytes (lang_in q) h scope names.0 wf.0 (tag_of _ q wf.1.0) (omega arith)

  mutual
    pub value_made : (v : Value) → ValueMade v
    value_made (Value' s n q) = value_made_step s n q (shape_made s) (others_made _ q)

    shape_made : (s : Shape) → ShapeMade s
    shape_made (Simple text) = simple_made text
    shape_made (Uri text) = uri_made text
    shape_made (Struct' n fields) = struct_made n fields (members_made _ fields)
    shape_made (Array' kind n items) = array_made kind n items (items_made _ items)

    members_made : (n : Count) (q : Row_of-Member n) → MembersMade n q
    members_made n end_of-Member = λ l ls at scope names wf low. row_end (λ es. es ≡ []) l ls at refl
    members_made n (more_of-Member (Member' name v) rest) = members_more_made name v _ rest (value_made v) (members_made _ rest)

    others_made : (n : Count) (q : Row_of-Member n) → OthersMade n q
    others_made n end_of-Member = λ l ls at scope names wf low. row_end (λ es. es ≡ []) l ls at refl
    others_made n (more_of-Member (Member' name v) rest) = others_more_made name v _ rest (value_made v) (members_made _ rest)

    items_made : (n : Count) (q : Row_of-Value n) → ItemsMade n q
    items_made n end_of-Value = λ l ls at scope names wf low. row_end (λ es. es ≡ []) l ls at refl
    items_made n (more_of-Value v rest) = items_more_made v _ rest (value_made v) (items_made _ rest)
