-- Elements that text spells: one element of its tag, its marks and what stands inside it.
use Rattle.std.proofs.Common.{◌≡◌, ℕ, ◌+◌, ◌≤◌, List, [], ◌∷◌, ◌++◌, length, map, Option, Some, refl, ap, sym, ◌∙◌, append_assoc, append-nil, true}
use Rattle.std.specs.Prelude.{codes, is_none, encode_utf8_all}
use Rattle.std.specs.List.{flat_map, cons_option}
use Rattle.xmp_values.specs.declared.hints.Hint.{Hint}
use Rattle.xmp_values.specs.declared.text.Name.{Name}
use Rattle.xml_grammar.specs.declared.elements.Attribute.{Attribute}
use Rattle.xml_grammar.specs.declared.elements.Child.{Child, Child-F}
use Rattle.xml_grammar.specs.declared.elements.Child.TheVariants as child
use Rattle.xml_grammar.specs.declared.elements.Child.TheViews as views
use Rattle.xml_grammar.specs.declared.elements.Element.{Element}
use Rattle.xml_grammar.specs.declared.tags.QName.{QName}
use Rattle.xml_grammar.specs.Spelling.{SpellsQName}
use Rattle.xml_grammar.specs.Scopes.{Binding, bound_to, or_nothing, element_name, expanded_attributes, bindings_of}
use Rattle.xml_grammar.specs.Nesting.{Level, Nest}
use Rattle.xml_grammar.specs.Trees.{Event, Opens, Closes, joined, put, events, events_of}
use Rattle.xml_grammar.proofs.TreeEvents.{element, element_is, text_is}
use Rattle.rdf_forms.specs.Parts.{element_in, elements_in, elements_of, text_in, text_at}
use Rattle.xmp_write.specs.Text.{element_text, empty_text, lang_text}
use Rattle.round_trip.specs.Elements.{IsElement, Mark}
use Rattle.std.proofs.Math.Utf8.{scalars}
use Rattle.round_trip.proofs.Marked.{row}
use Rattle.round_trip.proofs.Spelt.{inside, IsSpeltWith, IsSpelt, Anything, Tagged}
use Rattle.round_trip.proofs.Tags.{level_of, IsSpelledTag, element_spelt, empty_spelt}
use Rattle.round_trip.proofs.Marks.{raws, mark_text, IsTag, IsMark, marks_spelled, IsBase, row_is, declares_none, good_tag}

-- ---- parts of what is built

all_elements : (es : List Element) → elements_in (map child.Element es) ≡ es
all_elements [] = refl
all_elements (e ∷ es) =
    ap (λ (x : Child-F Child Element). cons_option (element_in x) (elements_in (map child.Element es))) (views.outs-Element e) ∙ ap (λ (cs : List Element). e ∷ cs) (all_elements es)

no_words : (es : List Element) → flat_map text_at (map child.Element es) ≡ []
no_words [] = refl
no_words (e ∷ es) = ap (λ (x : Child-F Child Element). text_in x ++ flat_map text_at (map child.Element es)) (views.outs-Element e) ∙ no_words es

abbrev pub words : List ℕ → List Child
words [] = []
words (b ∷ bs) = child.Text (b ∷ bs) ∷ []

words_elements : (t : List ℕ) → elements_in (words t) ≡ []
words_elements [] = refl
words_elements (b ∷ bs) = ap (λ (x : Child-F Child Element). cons_option (element_in x) []) (views.outs-Text (b ∷ bs))

words_text : (t : List ℕ) → flat_map text_at (words t) ≡ t
words_text [] = refl
words_text (b ∷ bs) = ap (λ (x : Child-F Child Element). text_in x ++ []) (views.outs-Text (b ∷ bs)) ∙ append-nil (b ∷ bs)

pub holding : (at : ℕ) (name : Name) (attributes : List Attribute) (es : List Element)
    → IsElement (element at name attributes (map child.Element es)) name attributes [] × (elements_of (element at name attributes (map child.Element es)) ≡ es)
holding at name attributes es = (record { named = refl; attributed = refl; worded = no_words es }, all_elements es)

pub worded : (at : ℕ) (name : Name) (attributes : List Attribute) (t : List ℕ)
    → IsElement (element at name attributes (words t)) name attributes t × (elements_of (element at name attributes (words t)) ≡ [])
worded at name attributes t = (record { named = refl; attributed = refl; worded = words_text t }, words_elements t)

-- ---- a tag's name

-- a name as it is spelled, with a prefix that is bound to its namespace
pub record IsTagName (bs : List Binding) (name : Name) (bytes : List ℕ) : Type 0 where
  pub prefix : List ℕ
  pub chars : List ℕ
  pub spelled : SpellsQName (record { prefix = Some prefix; local = name.local }) chars
  pub utf8 : bytes ≡ encode_utf8_all chars
  pub scalar : scalars chars ≡ true
  pub bound : bound_to bs (Some prefix) ≡ Some name.space

abbrev pub qname : (bs : List Binding) (name : Name) (bytes : List ℕ) → IsTagName bs name bytes → QName
qname bs name bytes h = record { prefix = Some h.prefix; local = name.local }

-- the events of a part are all that matters
pub spelt_same : (hs : List Hint) (Before : List ℕ → Type 0) (s t : Nest) (at : ℕ) (bytes : List ℕ) (f g : List Event → List Event) → ((es : List Event) → f es ≡ g es)
    → IsSpeltWith hs Before s at bytes f t → IsSpeltWith hs Before s at bytes g t
spelt_same hs Before s t at bytes f g same h = record {
  chars = h.chars;
  utf8 = h.utf8;
  scalar = h.scalar;
  pieces = h.pieces;
  read = h.read;
  ends = h.ends;
  means = λ more. h.means more ∙ same (events_of t more);
  hinted = h.hinted;
}

pub spelt_before : (s t : Nest) (at : ℕ) (bytes : List ℕ) (f : List Event → List Event) → IsSpelt Anything s at bytes f t → IsSpelt Tagged s at bytes f t
spelt_before s t at bytes f h = record { chars = h.chars; utf8 = h.utf8; scalar = h.scalar; pieces = h.pieces; read = λ left tagged. h.read left tt; ends = h.ends; means = h.means; hinted = h.hinted }

module _ (l : Level) (ls : List Level) (name : Name) (bytes : List ℕ) (lang : Option (List ℕ)) (mark : Mark) (h : IsTagName l.bound name bytes) (base : IsBase l.bound)
    (tag : IsTag lang) (marked : IsMark mark) (low : length (l ∷ ls) ≤ 99) where
  abbrev pub q : QName
  q = record { prefix = Some h.prefix; local = name.local }

  -- the level inside the element
  abbrev pub below : Level
  below = level_of l q (raws lang mark)

  pub below_bound : below.bound ≡ l.bound
  below_bound = ap (λ (bs : List Binding). bs ++ l.bound) (declares_none lang mark)

  tagged : IsSpelledTag l ls q (raws lang mark) bytes (lang_text lang ++ mark_text mark)
  tagged =
      let m = marks_spelled lang mark tag marked in
      record {
        name_chars = h.chars;
        named = h.spelled;
        name_utf8 = h.utf8;
        name_scalar = h.scalar;
        chars = m.0;
        attributed = m.1;
        utf8 = m.2;
        scalar = m.3;
        good = λ empty. good_tag l.bound q lang mark empty base (ap is_none h.bound);
        low = low;
      }

  opened : (at : ℕ) (es : List Event) → Opens at (element_name (bindings_of (raws lang mark) ++ l.bound) q) (expanded_attributes (bindings_of (raws lang mark) ++ l.bound) (raws lang mark)) ∷ es ≡ Opens at name (row lang mark) ∷ es
  opened at es =
      ap (λ (bs : List Binding). Opens at (element_name bs q) (expanded_attributes bs (raws lang mark)) ∷ es) below_bound
      ∙ ap (λ (o : Option (List ℕ)). Opens at (record { space = or_nothing o; local = name.local }) (expanded_attributes l.bound (raws lang mark)) ∷ es) h.bound
      ∙ ap (λ (xs : List Attribute). Opens at name xs ∷ es) (row_is l.bound lang mark base)

  shown : (at : ℕ) (cs : List Child) (es : List Event) → Opens at name (row lang mark) ∷ (joined (map events cs) ++ (Closes ∷ es)) ≡ events (child.Element (element at name (row lang mark) cs)) ++ es
  shown at cs es =
      ap (λ (xs : List Event). Opens at name (row lang mark) ∷ xs) (sym (append_assoc (joined (map events cs)) (Closes ∷ []) es))
      ∙ ap (λ (xs : List Event). xs ++ es) (sym (element_is at name (row lang mark) cs))

  -- an element with these children, where they are what stands inside it
  pub built : (at : ℕ) (cs : List Child) (inner : List ℕ) (f : List Event → List Event)
      → IsSpelt Tagged (inside (below ∷ l ∷ ls)) (at + length (codes "<" ++ bytes ++ (lang_text lang ++ mark_text mark) ++ codes ">")) inner f (inside (below ∷ l ∷ ls))
      → ((es : List Event) → f (Closes ∷ es) ≡ joined (map events cs) ++ (Closes ∷ es))
      → IsSpelt Anything (inside (l ∷ ls)) at (element_text bytes (lang_text lang ++ mark_text mark) inner)
      (λ es. events (child.Element (element at name (row lang mark) cs)) ++ es) (inside (l ∷ ls))
  built at cs inner f k same =
      spelt_same [] Anything (inside (l ∷ ls)) (inside (l ∷ ls)) at (element_text bytes (lang_text lang ++ mark_text mark) inner)
      (λ es. Opens at (element_name (bindings_of (raws lang mark) ++ l.bound) q) (expanded_attributes (bindings_of (raws lang mark) ++ l.bound) (raws lang mark)) ∷ f (Closes ∷ es))
      (λ es. events (child.Element (element at name (row lang mark) cs)) ++ es)
      (λ es. opened at (f (Closes ∷ es)) ∙ ap (λ (xs : List Event). Opens at name (row lang mark) ∷ xs) (same es) ∙ shown at cs es)
      (element_spelt l ls q (raws lang mark) bytes (lang_text lang ++ mark_text mark) tagged at inner f k)

  pub built_empty : (at : ℕ) → IsSpelt Anything (inside (l ∷ ls)) at (empty_text bytes (lang_text lang ++ mark_text mark))
      (λ es. events (child.Element (element at name (row lang mark) [])) ++ es) (inside (l ∷ ls))
  built_empty at =
      spelt_same [] Anything (inside (l ∷ ls)) (inside (l ∷ ls)) at (empty_text bytes (lang_text lang ++ mark_text mark))
      (λ es. Opens at (element_name (bindings_of (raws lang mark) ++ l.bound) q) (expanded_attributes (bindings_of (raws lang mark) ++ l.bound) (raws lang mark)) ∷ Closes ∷ es)
      (λ es. events (child.Element (element at name (row lang mark) [])) ++ es)
      (λ es. opened at (Closes ∷ es) ∙ shown at [] es)
      (empty_spelt l ls q (raws lang mark) bytes (lang_text lang ++ mark_text mark) tagged at)

-- a text before the end of its element
pub put_words : (t : List ℕ) (es : List Event) → put t (Closes ∷ es) ≡ joined (map events (words t)) ++ (Closes ∷ es)
put_words [] es = refl
put_words (b ∷ bs) es = ap (λ (xs : List Event). (xs ++ []) ++ (Closes ∷ es)) (sym (text_is (b ∷ bs)))
