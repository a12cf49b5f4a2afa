-- The text of a tree is spelled by pieces whose root is the writing of the tree.
use Rattle.std.proofs.Common.{◌≡◌, ℕ, ◌+◌, ◌≤◌, Bool, true, List, [], ◌∷◌, ◌++◌, length, map, refl, ap, sym, subst, ◌∙◌, append_assoc, append-nil, arith}
use Rattle.std.specs.Prelude.{All, codes}
use Rattle.std.specs.List.{list_all, flat_map, cons_option}
use Rattle.std.proofs.lemmas.List.Elements.{All-head, All-tail}
use Rattle.xmp_values.specs.Characters.{is_blank, IsCharText}
use Rattle.xmp_values.specs.Spaces.{meta_space}
use Rattle.xmp_values.specs.declared.hints.Hint.{Hint}
use Rattle.xmp_values.specs.declared.text.Name.{Name}
use Rattle.xml_grammar.specs.declared.elements.Child.{Child, Child-F}
use Rattle.xml_grammar.specs.declared.elements.Child.TheVariants as child
use Rattle.xml_grammar.specs.declared.elements.Child.TheViews as views
use Rattle.xml_grammar.specs.declared.elements.Element.{Element}
use Rattle.xml_grammar.specs.Nesting.{Level}
use Rattle.xml_grammar.specs.Trees.{Event, Opens, Words, Closes, joined, put, events}
use Rattle.xml_grammar.proofs.TreeEvents.{element, element_is, text_is}
use Rattle.xmp_tree.specs.declared.nested.Member.{Member, Member'}
use Rattle.rdf_forms.specs.Words.{rdf}
use Rattle.rdf_forms.specs.Parts.{element_in, elements_in, elements_of, text_in, text_at, own_text}
use Rattle.round_trip.proofs.Premises.{AreDeclarable, IsWritable, IsProperty}
use Rattle.xmp_write.specs.Text.{member_text, lines_text, tree_text, open_meta, open_rdf, top_text}
use Rattle.xmp_write.specs.Prefixes.{spelled}
use Rattle.round_trip.specs.Elements.{IsElement, AreProperties, IsTree}
use Rattle.round_trip.specs.Law.{meta_hint, rdf_hint, declared_hints}
use Rattle.round_trip.proofs.Spelt.{inside, IsSpeltWith, IsSpelt, Anything, spelt_then, spelt_none}
use Rattle.round_trip.proofs.Built.{spelt_same}
use Rattle.round_trip.proofs.Writing.{IsScope, value_made}
use Rattle.round_trip.proofs.Frames.{line_spelt, before_root, meta_level, rdf_level, top_level, top_scope, meta_start, rdf_start, top_start, about_attribute, meta_end, rdf_end, top_end, frame, lined_between}

-- ---- properties on lines

-- elements, each before a line feed
abbrev pub lines : List Element → List Event → List Event
lines [] more = more
lines (e ∷ es) more = events (child.Element e) ++ put (codes "\n") (lines es more)

abbrev pub lined : List Element → List Child
lined [] = []
lined (e ∷ es) = child.Element e ∷ child.Text (codes "\n") ∷ lined es

pub record MadeLines (ms : List Member) (l : Level) (ls : List Level) (at : ℕ) (bytes : List ℕ) : Type 0 where
  pub es : List Element
  pub are : AreProperties es ms
  pub spelt : IsSpelt Anything (inside (l ∷ ls)) at bytes (lines es) (inside (l ∷ ls))

pub lines_made : (ps : List Hint) (ms : List Member) (l : Level) (ls : List Level) (at : ℕ) → IsScope ps (IsWritable ps) l.bound → All (IsProperty ps) ms
    → length (l ∷ ls) ≤ 28 → MadeLines ms l ls at (lines_text ps ms)
lines_made ps [] l ls at scope h low = record { es = []; are = refl; spelt = spelt_none (inside (l ∷ ls)) at }
lines_made ps (Member' name v ∷ ms) l ls at scope h low =
    let m : Member = Member' name v in
    let one = All-head (IsProperty ps) m ms h in
    let shallow = one.shallow in
    let text : List ℕ = member_text ps m in
    let x = value_made ps (IsWritable ps) v l ls at name (spelled ps name) (scope.own name one.names.0) scope one.names.1 one.formed.1 (omega (arith, shallow, low)) in
    let rest = lines_made ps ms l ls (at + length text + length (codes "\n")) scope (All-tail (IsProperty ps) m ms h) low in
    record {
      es = x.e ∷ rest.es;
      are = (x.e, rest.es, refl, x.is, rest.are);
      spelt = spelt_then Anything Anything (inside (l ∷ ls)) (inside (l ∷ ls)) (inside (l ∷ ls)) at text (codes "\n" ++ lines_text ps ms)
          (λ es. events (child.Element x.e) ++ es) (λ es. put (codes "\n") (lines rest.es es)) x.spelt
          (spelt_then Anything Anything (inside (l ∷ ls)) (inside (l ∷ ls)) (inside (l ∷ ls)) (at + length text) (codes "\n") (lines_text ps ms)
          (put (codes "\n")) (lines rest.es) (line_spelt l ls (at + length text)) rest.spelt (λ left any. tt)) (λ left any. tt);
    }

put_line : (es : List Element) (rest : List Event) → put (codes "\n") (lines es (Closes ∷ rest)) ≡ Words (codes "\n") ∷ lines es (Closes ∷ rest)
put_line [] rest = refl
put_line (e ∷ es) rest =
    let is = element_is e.at e.name e.attributes e.children in
    let more : List Event = put (codes "\n") (lines es (Closes ∷ rest)) in
    ap (λ (x : List Event). put (codes "\n") (x ++ more)) is ∙ ap (λ (x : List Event). Words (codes "\n") ∷ (x ++ more)) (sym is)

lines_are : (es : List Element) (rest : List Event) → lines es (Closes ∷ rest) ≡ joined (map events (lined es)) ++ (Closes ∷ rest)
lines_are [] rest = refl
lines_are (e ∷ es) rest =
    ap (λ (x : List Event). events (child.Element e) ++ x) (put_line es rest ∙ ap (λ (x : List Event). Words (codes "\n") ∷ x) (lines_are es rest)
    ∙ ap (λ (x : List Event). (x ++ joined (map events (lined es))) ++ (Closes ∷ rest)) (sym (text_is (codes "\n"))))
    ∙ sym (append_assoc (events (child.Element e)) (events (child.Text (codes "\n")) ++ joined (map events (lined es))) (Closes ∷ rest))

-- ---- the elements around them

abbrev pub top_of : ℕ → List ℕ → List Element → Element
top_of at about es = element at (rdf (codes "Description")) (about_attribute about ∷ []) (child.Text (codes "\n") ∷ lined es)

abbrev pub around : ℕ → Name → Element → Element
around at name inner = element at name [] (child.Text (codes "\n") ∷ child.Element inner ∷ child.Text (codes "\n") ∷ [])

top_events : (at : ℕ) (about : List ℕ) (es : List Element) (rest : List Event)
    → Opens at (rdf (codes "Description")) (about_attribute about ∷ []) ∷ put (codes "\n") (lines es (Closes ∷ rest)) ≡ events (child.Element (top_of at about es)) ++ rest
top_events at about es rest =
    let o : Event = Opens at (rdf (codes "Description")) (about_attribute about ∷ []) in
    ap (λ (x : List Event). o ∷ x) (put_line es rest ∙ ap (λ (x : List Event). Words (codes "\n") ∷ x) (lines_are es rest)
    ∙ ap (λ (x : List Event). (x ++ joined (map events (lined es))) ++ (Closes ∷ rest)) (sym (text_is (codes "\n")))
    ∙ sym (append_assoc (events (child.Text (codes "\n")) ++ joined (map events (lined es))) (Closes ∷ []) rest))
    ∙ ap (λ (x : List Event). x ++ rest) (sym (element_is at (rdf (codes "Description")) (about_attribute about ∷ []) (child.Text (codes "\n") ∷ lined es)))

around_events : (at : ℕ) (name : Name) (inner : Element) (rest : List Event)
    → Opens at name [] ∷ Words (codes "\n") ∷ (events (child.Element inner) ++ (Words (codes "\n") ∷ Closes ∷ rest)) ≡ events (child.Element (around at name inner)) ++ rest
around_events at name inner rest =
    let w : List Event = Words (codes "\n") ∷ [] in
    ap (λ (x : List Event). Opens at name [] ∷ x) (regroup w (events (child.Element inner)) (Closes ∷ []) rest
    ∙ ap (λ (x : List Event). ((x ++ (events (child.Element inner) ++ (x ++ []))) ++ (Closes ∷ [])) ++ rest) (sym (text_is (codes "\n"))))
    ∙ ap (λ (x : List Event). x ++ rest) (sym (element_is at name [] (child.Text (codes "\n") ∷ child.Element inner ∷ child.Text (codes "\n") ∷ [])))
  where
    regroup : (w i c r : List Event) → w ++ (i ++ (w ++ (c ++ r))) ≡ ((w ++ (i ++ (w ++ []))) ++ c) ++ r
    regroup w i c r = simp (append_assoc, append-nil)

-- ---- their parts

lined_elements : (es : List Element) → elements_in (lined es) ≡ es
lined_elements [] = refl
lined_elements (e ∷ es) =
    ap (λ (x : Child-F Child Element). cons_option (element_in x) (elements_in (child.Text (codes "\n") ∷ lined es))) (views.outs-Element e)
    ∙ ap (λ (x : Child-F Child Element). e ∷ cons_option (element_in x) (elements_in (lined es))) (views.outs-Text (codes "\n"))
    ∙ ap (λ (cs : List Element). e ∷ cs) (lined_elements es)

lined_blank : (es : List Element) → list_all is_blank (flat_map text_at (lined es)) ≡ true
unfolding is_blank
lined_blank [] = refl
lined_blank (e ∷ es) =
    ap (λ (x : Child-F Child Element). list_all is_blank (text_in x ++ flat_map text_at (child.Text (codes "\n") ∷ lined es))) (views.outs-Element e)
    ∙ ap (λ (x : Child-F Child Element). list_all is_blank (text_in x ++ flat_map text_at (lined es))) (views.outs-Text (codes "\n"))
    ∙ lined_blank es

top_elements : (at : ℕ) (about : List ℕ) (es : List Element) → elements_of (top_of at about es) ≡ es
top_elements at about es = ap (λ (x : Child-F Child Element). cons_option (element_in x) (elements_in (lined es))) (views.outs-Text (codes "\n")) ∙ lined_elements es

top_blank : (at : ℕ) (about : List ℕ) (es : List Element) → list_all is_blank (own_text (top_of at about es)) ≡ true
unfolding is_blank
top_blank at about es = ap (λ (x : Child-F Child Element). list_all is_blank (text_in x ++ flat_map text_at (lined es))) (views.outs-Text (codes "\n")) ∙ lined_blank es

around_elements : (at : ℕ) (name : Name) (inner : Element) → elements_of (around at name inner) ≡ inner ∷ []
around_elements at name inner =
    ap (λ (x : Child-F Child Element). cons_option (element_in x) (elements_in (child.Element inner ∷ child.Text (codes "\n") ∷ []))) (views.outs-Text (codes "\n"))
    ∙ ap (λ (x : Child-F Child Element). cons_option (element_in x) (elements_in (child.Text (codes "\n") ∷ []))) (views.outs-Element inner)
    ∙ ap (λ (x : Child-F Child Element). inner ∷ cons_option (element_in x) []) (views.outs-Text (codes "\n"))

around_words : (at : ℕ) (name : Name) (inner : Element) → own_text (around at name inner) ≡ codes "\n\n"
around_words at name inner =
    ap (λ (x : Child-F Child Element). text_in x ++ flat_map text_at (child.Element inner ∷ child.Text (codes "\n") ∷ [])) (views.outs-Text (codes "\n"))
    ∙ ap (λ (x : Child-F Child Element). codes "\n" ++ (text_in x ++ flat_map text_at (child.Text (codes "\n") ∷ []))) (views.outs-Element inner)
    ∙ ap (λ (x : Child-F Child Element). codes "\n" ++ (text_in x ++ [])) (views.outs-Text (codes "\n"))

around_is : (at : ℕ) (name : Name) (inner : Element) → IsElement (around at name inner) name [] (codes "\n\n")
around_is at name inner = record { named = refl; attributed = refl; worded = around_words at name inner }

-- ---- the whole

pub record MadeTree (ps : List Hint) (about : List ℕ) (props : List Member) (first : Bool) (at : ℕ) : Type 0 where
  pub root : Element
  pub is : IsTree root about props
  pub spelt : IsSpeltWith (declared_hints ps) Anything (before_root first) at (tree_text ps about props) (λ es. events (child.Element root) ++ es) (inside [])

pub tree_made : (ps : List Hint) (about : List ℕ) (props : List Member) (before : Bool) (at : ℕ) → IsCharText about → AreDeclarable ps → All (IsProperty ps) props → MadeTree ps about props before at
tree_made ps about props before at text h each =
    let t : Level = top_level about ps in
    let d : List ℕ = codes "<rdf:Description" ++ top_text about ps ++ codes ">" in
    let first : ℕ = at + length open_meta + length (codes "\n") in
    let second : ℕ = first + length open_rdf + length (codes "\n") in
    let third : ℕ = second + length d in
    let body = lines_made ps props t (rdf_level ∷ meta_level ∷ []) (third + length (codes "\n")) (top_scope about ps h) each (omega arith) in
    let es : List Element = body.es in
    let lines_part = spelt_then Anything Anything (inside (t ∷ rdf_level ∷ meta_level ∷ [])) (inside (t ∷ rdf_level ∷ meta_level ∷ [])) (inside (t ∷ rdf_level ∷ meta_level ∷ [])) third (codes "\n") (lines_text ps props)
    (put (codes "\n")) (lines es) (line_spelt t (rdf_level ∷ meta_level ∷ []) third) body.spelt (λ left any. tt) in
    let topped = frame ps [] (inside (rdf_level ∷ meta_level ∷ [])) t (rdf_level ∷ meta_level ∷ []) second d (codes "\n" ++ lines_text ps props) (codes "</rdf:Description>")
    (Opens second (rdf (codes "Description")) (about_attribute about ∷ [])) (λ x. put (codes "\n") (lines es x))
    (top_start about ps second text h) lines_part (top_end about ps (rdf_level ∷ meta_level ∷ []) (third + length (codes "\n" ++ lines_text ps props))) in
    let described = frame (rdf_hint ∷ []) (ps ++ []) (inside (meta_level ∷ [])) rdf_level (meta_level ∷ []) first open_rdf
    (codes "\n" ++ ((d ++ ((codes "\n" ++ lines_text ps props) ++ codes "</rdf:Description>")) ++ codes "\n")) (codes "</rdf:RDF>")
    (Opens first (rdf (codes "RDF")) [])
    (λ x. put (codes "\n") (Opens second (rdf (codes "Description")) (about_attribute about ∷ []) ∷ put (codes "\n") (lines es (Closes ∷ put (codes "\n") x))))
    (rdf_start first)
    (lined_between (ps ++ []) rdf_level (meta_level ∷ []) (first + length open_rdf) (d ++ ((codes "\n" ++ lines_text ps props) ++ codes "</rdf:Description>"))
    (λ x. Opens second (rdf (codes "Description")) (about_attribute about ∷ []) ∷ put (codes "\n") (lines es (Closes ∷ x))) topped)
    (rdf_end (meta_level ∷ []) (first + length open_rdf + length (codes "\n" ++ ((d ++ ((codes "\n" ++ lines_text ps props) ++ codes "</rdf:Description>")) ++ codes "\n")))) in
    let r : List ℕ = open_rdf ++ ((codes "\n" ++ ((d ++ ((codes "\n" ++ lines_text ps props) ++ codes "</rdf:Description>")) ++ codes "\n")) ++ codes "</rdf:RDF>") in
    let whole = frame (meta_hint ∷ []) (rdf_hint ∷ (ps ++ [])) (before_root before) meta_level [] at open_meta (codes "\n" ++ (r ++ codes "\n")) (codes "</x:xmpmeta>")
    (Opens at (record { space = meta_space; local = codes "xmpmeta" }) [])
    (λ x. put (codes "\n") (Opens first (rdf (codes "RDF")) [] ∷ put (codes "\n") (Opens second (rdf (codes "Description")) (about_attribute about ∷ []) ∷ put (codes "\n") (lines es (Closes ∷ put (codes "\n") (Closes ∷ put (codes "\n") x))))))
    (meta_start before at)
    (lined_between (rdf_hint ∷ (ps ++ [])) meta_level [] (at + length open_meta) r
    (λ x. Opens first (rdf (codes "RDF")) [] ∷ put (codes "\n") (Opens second (rdf (codes "Description")) (about_attribute about ∷ []) ∷ put (codes "\n") (lines es (Closes ∷ put (codes "\n") (Closes ∷ x))))) described)
    (meta_end [] (at + length open_meta + length (codes "\n" ++ (r ++ codes "\n")))) in
    let top : Element = top_of second about es in
    let inner : Element = around first (rdf (codes "RDF")) top in
    let root : Element = around at (record { space = meta_space; local = codes "xmpmeta" }) inner in
    record {
      root = root;
      is = record {
        described = inner;
        top = top;
        meta_is = around_is at (record { space = meta_space; local = codes "xmpmeta" }) inner;
        one = around_elements at (record { space = meta_space; local = codes "xmpmeta" }) inner;
        rdf_is = around_is first (rdf (codes "RDF")) top;
        one_top = around_elements first (rdf (codes "RDF")) top;
        named = refl;
        attributed = refl;
        blank = top_blank second about es;
        listed = subst (λ (x : List Element). AreProperties x props) (sym (top_elements second about es)) body.are;
      };
      spelt = subst (λ (x : List Hint). IsSpeltWith (meta_hint ∷ rdf_hint ∷ x) Anything (before_root before) at (tree_text ps about props) (λ x. events (child.Element root) ++ x) (inside [])) (append-nil ps)
          (spelt_same (meta_hint ∷ rdf_hint ∷ (ps ++ [])) Anything (before_root before) (inside []) at (tree_text ps about props)
          (λ x. Opens at (record { space = meta_space; local = codes "xmpmeta" }) [] ∷ put (codes "\n") (Opens first (rdf (codes "RDF")) [] ∷ put (codes "\n") (Opens second (rdf (codes "Description")) (about_attribute about ∷ []) ∷ put (codes "\n") (lines es (Closes ∷ put (codes "\n") (Closes ∷ put (codes "\n") (Closes ∷ x)))))))
          (λ x. events (child.Element root) ++ x)
          (λ x.
          ap (λ (y : List Event). Opens at (record { space = meta_space; local = codes "xmpmeta" }) [] ∷ Words (codes "\n") ∷ Opens first (rdf (codes "RDF")) [] ∷ Words (codes "\n") ∷ y)
          (top_events second about es (Words (codes "\n") ∷ Closes ∷ Words (codes "\n") ∷ Closes ∷ x))
          ∙ ap (λ (y : List Event). Opens at (record { space = meta_space; local = codes "xmpmeta" }) [] ∷ Words (codes "\n") ∷ y) (around_events first (rdf (codes "RDF")) top (Words (codes "\n") ∷ Closes ∷ x))
          ∙ around_events at (record { space = meta_space; local = codes "xmpmeta" }) inner x)
          whole);
    }
