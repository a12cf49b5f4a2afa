-- The tree of a document that breaks no rule is well-formed.
use Rattle.std.proofs.Common.{◌≡◌, ◌≢◌, ℕ, ◌≤◌, Bool, true, false, not, cond, List, [], ◌∷◌, ◌++◌, map, Option, Some, None, refl, ap, sym, subst, ◌∙◌, append-nil}
use Rattle.std.specs.Prelude.{All, filter, codes}
use Rattle.std.specs.Str.{bytes_eq}
use Rattle.std.specs.List.{flat_map}
use Rattle.std.proofs.lemmas.Bool.{or_parts, both_ways, not-true, not-false}
use Rattle.std.proofs.lemmas.List.{map-append}
use Rattle.std.proofs.lemmas.List.Elements.{All-head, All-tail, All-filter, All-weaker, filter_passes}
use Rattle.std.proofs.lemmas.List.Kept.{AllPairs-filter}
use Rattle.xmp_values.specs.Characters.{IsCharText}
use Rattle.xml_grammar.specs.declared.elements.Attribute.{Attribute}
use Rattle.xml_grammar.specs.declared.elements.Element.{Element}
use Rattle.xml_grammar.specs.Sound.{IsSound}
use Rattle.xml_grammar.proofs.SoundPieces.{no_text}
use Rattle.xmp_tree.specs.declared.nested.Member.{Member}
use Rattle.xmp_tree.specs.Parts.{Parts}
use Rattle.xmp_tree.specs.Wf.{IsOwnSpace, IsWfMember, member_depth, AreWellFormed, note_name, Wf}
use Rattle.xmp_tree.specs.Wf as tree
use Rattle.rdf_forms.specs.declared.roles.Role.TheVariants as roles
use Rattle.rdf_forms.specs.Words.{is_rdf, is_meta, is_bare_about, same_name}
use Rattle.rdf_forms.specs.Parts.{name_of, place_of, elements_of, property_attributes, attribute_value}
use Rattle.rdf_forms.specs.Visits.{Visit, visit, top_visits, rdf_visits, child_visits}
use Rattle.rdf_forms.specs.NameRules.{no_rdf, is_one_rdf, first_of, about_of, first_about}
use Rattle.rdf_forms.specs.Rules.{fault_of}
use Rattle.rdf_forms.specs.Values.{attribute_member, element_member, value_within}
use Rattle.rdf_forms.specs.Meaning.{Placed, placed_in, is_note, tree_of}
use Rattle.rdf_soundness.proofs.Words.{same_name_is}
use Rattle.rdf_soundness.proofs.Lists.{filter-map}
use Rattle.rdf_soundness.proofs.Unbroken.{IsFaultless, faultless_cons, faultless_append}
use Rattle.rdf_soundness.proofs.Attributes.{IsText, text_of}
use Rattle.rdf_soundness.proofs.Elements.{sound_elements}
use Rattle.rdf_soundness.proofs.Tops.{top_members, tops_formed}

-- ---- the about

first_text : (o p : Option (List ℕ)) → IsText o → IsText p → IsCharText (first_of o p)
first_text (Some text) p a b = a
first_text None (Some text) a b = b
first_text None None a b = no_text

about_text : (t : Element) → IsSound t → IsCharText (about_of t)
unfolding about_of
about_text t sound =
    first_text (attribute_value (is_rdf (codes "about")) t) (attribute_value is_bare_about t) (text_of (is_rdf (codes "about")) t sound)
    (text_of is_bare_about t sound)

first_about_text : (ts : List Element) → All IsSound ts → IsCharText (first_about ts)
first_about_text [] sound = no_text
first_about_text (t ∷ ts) sound =
    by (bytes_eq (about_of t) []) (about_text t (All-head IsSound t ts sound)) (first_about_text ts (All-tail IsSound t ts sound))
  where
    by : (b : Bool) → IsCharText (about_of t) → IsCharText (first_about ts) → IsCharText (cond b (first_about ts) (about_of t))
    by true one rest = rest
    by false one rest = one

-- ---- the properties without their places and the note

without_places : {X : Type 0} (place : X → ℕ) (m : X → Member) (xs : List X) → map (λ (p : Placed). p.1) (map (λ x. (place x, m x)) xs) ≡ map m xs
without_places place m [] = refl
without_places place m (x ∷ xs) = ap (λ ms. m x ∷ ms) (without_places place m xs)

members-top : (levels : ℕ) (t : Element) → map (λ (p : Placed). p.1) (placed_in levels t) ≡ top_members levels t
members-top levels t =
    let attributes : List Placed = map (λ (a : Attribute). (place_of t, attribute_member a)) (property_attributes t) in
    let elements : List Placed = map (λ c. (place_of c, element_member (value_within levels) c)) (elements_of t) in
    map-append (λ (p : Placed). p.1) attributes elements
    ∙ ap (λ ms. ms ++ map (λ (p : Placed). p.1) elements) (without_places (λ a. place_of t) attribute_member (property_attributes t))
    ∙ ap (λ ms. map attribute_member (property_attributes t) ++ ms) (without_places place_of (element_member (value_within levels)) (elements_of t))

members-row : (levels : ℕ) (ts : List Element) → map (λ (p : Placed). p.1) (flat_map (placed_in levels) ts) ≡ flat_map (top_members levels) ts
members-row levels [] = refl
members-row levels (t ∷ ts) =
    map-append (λ (p : Placed). p.1) (placed_in levels t) (flat_map (placed_in levels) ts)
    ∙ ap (λ ms. ms ++ map (λ (p : Placed). p.1) (flat_map (placed_in levels) ts)) (members-top levels t)
    ∙ ap (λ ms. top_members levels t ++ ms) (members-row levels ts)

abbrev is_property : Member → Bool
is_property m = not (same_name (tree.name_of m) note_name)

properties-row : (levels : ℕ) (ts : List Element)
    → map (λ (p : Placed). p.1) (filter (λ p. not (is_note p)) (flat_map (placed_in levels) ts)) ≡ filter is_property (flat_map (top_members levels) ts)
properties-row levels ts =
    sym (filter-map (λ (p : Placed). p.1) is_property (flat_map (placed_in levels) ts)) ∙ ap (filter is_property) (members-row levels ts)

formed_filter : (room : ℕ) (p : Member → Bool) (ms : List Member) → AreWellFormed room ms → AreWellFormed room (filter p ms)
formed_filter room p ms h = record {
  within = record {
    each = All-filter p IsWfMember ms h.within.each;
    shallow = All-filter p (λ m. member_depth m ≤ room) ms h.within.shallow;
  };
  fields = record {
    apart = AllPairs-filter (λ m n. tree.name_of m ≢ tree.name_of n) p ms h.fields.apart;
    own = All-filter p (λ m. IsOwnSpace (tree.name_of m).space) ms h.fields.own;
  };
}

not_note : (m : Member) → is_property m ≡ true → tree.name_of m ≢ note_name
not_note m h same =
    both_ways (same_name (tree.name_of m) note_name) (not-true (same_name (tree.name_of m) note_name) h)
    ((same_name_is (tree.name_of m) note_name).1 same)

-- ---- the tree

-- the tree of these tops
abbrev tree_from : ℕ → List Element → Parts
tree_from levels ts = record {
  about = first_about ts;
  props = map (λ (p : Placed). p.1) (filter (λ p. not (is_note p)) (flat_map (placed_in levels) ts));
}

module _ (levels : ℕ) (enough : 60 ≤ levels) where
  tops_tree : (ts : List Element) → All IsSound ts → IsFaultless (top_visits levels [] ts) → Wf (tree_from levels ts)
  tops_tree ts sound h =
      let ms : List Member = flat_map (top_members levels) ts in
      record {
        about = first_about_text ts sound;
        props = subst (AreWellFormed 24) (sym (properties-row levels ts)) (formed_filter 24 is_property ms (tops_formed levels enough ts sound h));
        note = subst (λ ms. All (λ m. tree.name_of m ≢ note_name) ms) (sym (properties-row levels ts))
            (All-weaker (λ m. is_property m ≡ true) (λ m. tree.name_of m ≢ note_name) not_note (filter is_property ms) (filter_passes is_property ms));
      }

  -- the tree of the one `rdf:RDF`
  rdf_tree : (r : Element) → IsSound r → IsFaultless (rdf_visits levels r) → Wf (tree_from levels (flat_map elements_of (r ∷ [])))
  rdf_tree r sound h =
      subst (λ ts. Wf (tree_from levels ts)) (sym (append-nil (elements_of r)))
      (tops_tree (elements_of r) (sound_elements r sound) (faultless_cons (visit roles.Rdf 0 r) (top_visits levels [] (elements_of r)) h).1)

  child_tree : (es : List Element) → is_one_rdf es ≡ true → All IsSound es → IsFaultless (flat_map (child_visits levels) es)
      → Wf (tree_from levels (flat_map elements_of (filter (λ c. is_rdf (codes "RDF") (name_of c)) es)))
  child_tree [] is sound h = absurd cc
  child_tree (r ∷ []) is sound h =
      by (is_rdf (codes "RDF") (name_of r)) is (faultless_append (child_visits levels r) [] h).0
    where
      by : (b : Bool) → b ≡ true → IsFaultless (cond b (rdf_visits levels r) []) → Wf (tree_from levels (flat_map elements_of (cond b (r ∷ []) [])))
      by true is inside = rdf_tree r (All-head IsSound r [] sound) inside
      by false is inside = absurd cc
  child_tree (r ∷ s ∷ rs) is sound h = absurd cc

pub one_rdf : (root : Element) → no_rdf roles.Root root ≡ false → is_one_rdf (elements_of root) ≡ true
unfolding no_rdf
one_rdf root h = not-false (is_one_rdf (elements_of root)) (or_parts (not (is_meta (name_of root))) (not (is_one_rdf (elements_of root))) h).1

-- the form in which a caller's proof cites the law
pub formed_tree : (levels : ℕ) (root : Element) → 60 ≤ levels → IsSound root → fault_of levels root ≡ None → Wf (tree_of levels root)
formed_tree levels root enough sound h = by (is_rdf (codes "RDF") (name_of root)) h
  where
    inside : List Visit
    inside = flat_map (child_visits levels) (elements_of root)

    by : (b : Bool) → IsFaultless (cond b (rdf_visits levels root) (visit roles.Root 0 root ∷ inside))
        → Wf (tree_from levels (flat_map elements_of (cond b (root ∷ []) (filter (λ c. is_rdf (codes "RDF") (name_of c)) (elements_of root)))))
    by true h = rdf_tree levels enough root sound h
    by false h =
        let parts = faultless_cons (visit roles.Root 0 root) inside h in
        child_tree levels enough (elements_of root) (one_rdf root parts.0.has_rdf) (sound_elements root sound) parts.1
