-- Reading `rdf:RDF`, and a document by it.
use Rattle.std.proofs.Common.{ℕ, ◌≡◌, Bool, true, false, cond, List, [], ◌∷◌, ◌++◌, refl, ap, ◌∙◌, append-nil}
use Rattle.std.specs.Prelude.{Option, Some, None, Result, Ok, filter, slice_get, codes}
use Rattle.std.specs.List.{flat_map}
use Rattle.xmp_values.specs.declared.rules.Rule.{Rule}
use Rattle.xml_grammar.specs.declared.elements.Element.{Element}
use Rattle.rdf_forms.specs.declared.roles.Role.TheVariants as roles
use Rattle.rdf_forms.specs.Words.{is_rdf}
use Rattle.rdf_forms.specs.Parts.{name_of, place_of, elements_of}
use Rattle.rdf_forms.specs.Visits.{visit, top_visits, rdf_visits, child_visits}
use Rattle.rdf_forms.specs.NameRules.{first_about, is_one_rdf}
use Rattle.rdf_forms.specs.Rules.{broken_in, broken, placed, fault_at, first_fault}
use Rattle.rdf_forms.specs.Meaning.{Placed, placed_in}
use Rattle.rdf_soundness.proofs.Unbroken.{unbroken_in}
use Rattle.rdf_soundness.proofs.TreeLaw.{one_rdf}
use Rattle.xmp_rdf.specs.declared.tops.Contents.{Contents}
use Rattle.xmp_rdf.specs.Meanings.{Fault, unless}
use Rattle.xmp_rdf.specs.Reading.{checked, read_tops, read_rdf, read_root}
use Rattle.xmp_rdf.specs.Parting.{parts_of}
use Rattle.xmp_rdf.proofs.Faults.{and_then, unless-and_then, unless-made, unless-ok}

-- what these tops give
abbrev pub contents_of : ℕ → List Element → Contents
contents_of levels ts = record { about = first_about ts; parts = parts_of (flat_map (placed_in levels) ts) }

-- the tops of `rdf:RDF` with what was read of them
abbrev pub with_placed : Element → List Placed → Contents
with_placed e ps = record { about = first_about (elements_of e); parts = parts_of ps }

pub rdf-read : (levels : ℕ) (e : Element) →
    read_rdf levels e ≡ and_then (checked roles.Rdf 0 e) (λ _. and_then (read_tops levels [] [] (elements_of e)) (λ ps. Ok (with_placed e ps)))
unfolding read_rdf read_tops checked
rdf-read levels e =
    let inside = first_fault (top_visits levels [] (elements_of e)) in
    let ps = flat_map (placed_in levels) (elements_of e) in
    unless-and_then (fault_at (visit roles.Rdf 0 e)) inside tt (with_placed e ps)
    ∙ ap (λ (r : Result Contents Fault). and_then (checked roles.Rdf 0 e) (λ _. r)) (unless-made inside ps (with_placed e))

-- the root is `rdf:RDF`, or holds it
module _ (levels : ℕ) (root : Element) where
  abbrev children : List Element
  children = elements_of root

  abbrev held : List Element → List Element
  held es = filter (λ c. is_rdf (codes "RDF") (name_of c)) es

  abbrev by_root : Bool → Result Contents Fault
  by_root b =
      unless (first_fault (cond b (rdf_visits levels root) (visit roles.Root 0 root ∷ flat_map (child_visits levels) children)))
      (contents_of levels (flat_map elements_of (cond b (root ∷ []) (held children))))

  pub root-rdf : is_rdf (codes "RDF") (name_of root) ≡ true → read_root levels root ≡ read_rdf levels root
  unfolding read_root read_rdf
  root-rdf is = ap by_root is ∙ ap (λ ts. unless (first_fault (rdf_visits levels root)) (contents_of levels ts)) (append-nil children)

  abbrev pub read_held : List Element → Result Contents Fault
  read_held es = unless (first_fault (flat_map (child_visits levels) es)) (contents_of levels (flat_map elements_of (held es)))

  pub root-other : is_rdf (codes "RDF") (name_of root) ≡ false → read_root levels root ≡ and_then (checked roles.Root 0 root) (λ _. read_held children)
  unfolding read_root checked
  root-other is =
      ap by_root is
      ∙ unless-and_then (fault_at (visit roles.Root 0 root)) (first_fault (flat_map (child_visits levels) children)) tt (contents_of levels (flat_map elements_of (held children)))

  abbrev by_child : Element → Bool → Result Contents Fault
  by_child r b = unless (first_fault (cond b (rdf_visits levels r) [] ++ [])) (contents_of levels (flat_map elements_of (cond b (r ∷ []) [])))

  held-one : (r : Element) → is_rdf (codes "RDF") (name_of r) ≡ true → read_held (r ∷ []) ≡ read_rdf levels r
  unfolding read_rdf
  held-one r is =
      ap (by_child r) is ∙ ap (λ vs. unless (first_fault vs) (contents_of levels (elements_of r ++ []))) (append-nil (rdf_visits levels r))
      ∙ ap (λ ts. unless (first_fault (rdf_visits levels r)) (contents_of levels ts)) (append-nil (elements_of r))

  -- the first element of those that are one `rdf:RDF`
  pub held-first : (es : List Element) (r : Element) → is_one_rdf es ≡ true → Some r ≡ slice_get es 0 → read_held es ≡ read_rdf levels r
  held-first [] r one is = absurd cc
  held-first (e ∷ []) r one is = let same : e ≡ r = cc in held-one e one ∙ ap (read_rdf levels) same
  held-first (e ∷ d ∷ es) r one is = absurd cc

pub has-first : (es : List Element) → is_one_rdf es ≡ true → None ≡ slice_get es 0 → ⊥
has-first [] one is = absurd cc
has-first (e ∷ es) one is = absurd cc

unplaced : (at : ℕ) (rule : Option Rule) → placed at rule ≡ None → rule ≡ None
unplaced at None is = refl
unplaced at (Some rule) is = absurd cc

-- a root that breaks no rule holds one `rdf:RDF`
pub root-holds : (root : Element) (u : Unit {0}) → checked roles.Root 0 root ≡ Ok u → is_one_rdf (elements_of root) ≡ true
unfolding checked broken
root-holds root u is =
    let none = unplaced (place_of root) (broken_in roles.Root 0 root [] []) (unless-ok (fault_at (visit roles.Root 0 root)) tt u is).0 in
    one_rdf root (unbroken_in roles.Root 0 root [] [] none).has_rdf
