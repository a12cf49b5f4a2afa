-- Properties that stand in another list, as a set of names tells them, and lists where none does.
use Rattle.std.proofs.Common.{◌≡◌, ℕ, ◌+◌, ◌<◌, ◌≤◌, length, take, get_or, map, Bool, true, false, cond, not, ◌||◌, List, [], ◌∷◌, ◌++◌, Some, None, refl, sym, ap, ◌∙◌, arith}
use Rattle.std.specs.Prelude.{nat_lt}
use borrow.Author.Count.{below_more}
use Rattle.std.specs.List.{position_or_len}
use Rattle.std.proofs.lemmas.Bool.{or_parts, false_from_ne_true, not-true, not-false}
use Rattle.std.proofs.lemmas.Bool.Decides.{nat_tests}
use Rattle.std.proofs.lemmas.List.{get_or-map, get_or-take, get_or_default, length-map, length-take, take_more, map-append}
use Rattle.std.proofs.lemmas.List.Elements.{All-append}
use Rattle.std.proofs.lemmas.List.Folds.{list_any-append}
use Rattle.std.proofs.lemmas.List.Sums.{position_or_len_is, fails_before_first}
use Rattle.xmp_values.specs.declared.text.Name.{Name}
use Rattle.xmp_tree.specs.declared.nested.Member.{Member}
use Rattle.xmp_tree.specs.Parts.{Parts}
use Rattle.xmp_tree.specs.Wf.{name_of, NamesDiffer, note_name, Wf}
use Rattle.xmp_tree.proofs.Changed.{AreParted, formed_append}
use Rattle.rdf_forms.specs.Words.{same_name}
use Rattle.rdf_forms.specs.Entering.{Holds}
use Rattle.rdf_forms.proofs.Clashes.{stands, stands_is, stands-held}
use Rattle.rdf_forms.proofs.EnteredLists.{holds_after, holds_through}
use Rattle.rdf_forms.specs.Merging.{stands_in, first_twice}

-- the names of the first properties, and of one more
pub names_more : (ps : List Member) (at : ℕ) (p : Member) → at < length ps → p ≡ get_or ps at p → map name_of (take at ps) ++ name_of p ∷ [] ≡ map name_of (take (at + 1) ps)
names_more ps at p within here =
    ap (λ q. map name_of (take at ps) ++ name_of q ∷ []) here
    ∙ sym (map-append name_of (take at ps) (get_or ps at p ∷ [])) ∙ ap (map name_of) (sym (take_more ps at p within))

-- a set of names with one more
pub holds_more : (names set new : List Name) (n : Name) → Holds set names → Holds new (set ++ n ∷ []) → Holds new (names ++ n ∷ [])
holds_more names set new n held more = holds_through new (set ++ n ∷ []) (names ++ n ∷ []) more (holds_after set names (n ∷ []) held)

none_of : (b : Bool) (n : ℕ) → cond b (Some n) None ≡ None → b ≡ false
none_of true n none = absurd cc
none_of false n none = refl

some_of : (b : Bool) (n : ℕ) → b ≡ true → Some n ≡ cond b (Some n) None
some_of true n is = refl
some_of false n is = absurd cc

none_at : (b : Bool) (n : ℕ) → b ≡ false → None ≡ cond b (Some n) None
none_at true n is = absurd cc
none_at false n is = refl

only : (a b : Bool) → b ≡ false → (a || b) ≡ true → a ≡ true
only true b fails e = refl
only false b fails e = sym fails ∙ e

-- the number of a property that stands in the first is one of the second's
pub stands_within : (main more : List Member) (at : ℕ) → first_twice main more ≡ Some at → at < length more
stands_within main more at is = by (nat_lt (position_or_len (stands_in main) more) (length more)) refl is
  where
    by : (b : Bool) → nat_lt (position_or_len (stands_in main) more) (length more) ≡ b → cond b (Some (position_or_len (stands_in main) more)) None ≡ Some at → at < length more
    by true lt there = let same : position_or_len (stands_in main) more ≡ at = cc in grind (arith, nat_tests, lt, same)
    by false lt there = absurd cc

pub none_found : (main more : List Member) (at : ℕ) → at ≤ length more → length more ≤ at
    → ((k : ℕ) (d : Member) → k < at → stands_in main (get_or more k d) ≡ false) → None ≡ first_twice main more
none_found main [] at le all before = refl
none_found main (p ∷ ps) at le all before =
    let more : List Member = p ∷ ps in
    let last : position_or_len (stands_in main) more ≡ at =
    position_or_len_is (stands_in main) more at p le (λ k lt. before k p lt) (λ lt. absurd (omega arith)) in
    rw last (none_at (nat_lt at (length more)) at (grind (arith, nat_tests, all)))

-- The second list, property by property. The set holds the names of the first list, and of those that were seen.
module _ (main more : List Member) (at : ℕ) (p : Member) (within : at < length more) (here : p ≡ get_or more at p)
    (before : (k : ℕ) (d : Member) → k < at → stands_in main (get_or more k d) ≡ false) where
  pub found_here : stands_in main p ≡ true → Some at ≡ first_twice main more
  found_here stands =
      let first : position_or_len (stands_in main) more ≡ at =
      position_or_len_is (stands_in main) more at p (omega arith) (λ k lt. before k p lt) (λ lt. ap (stands_in main) (sym here) ∙ stands) in
      rw first (some_of (nat_lt at (length more)) at (grind (arith, nat_tests, within)))

  pub none_yet : stands_in main p ≡ false → (k : ℕ) (d : Member) → k < at + 1 → stands_in main (get_or more k d) ≡ false
  none_yet lacks k d lt =
      let now = ap (stands_in main) (get_or_default more at d p within ∙ sym here) ∙ lacks in
      below_more (λ j. stands_in main (get_or more j d) ≡ false) at (λ j early. before j d early) now k lt

module _ (main more : List Member) (apart : NamesDiffer more) (at : ℕ) (p : Member) (within : at < length more) (here : p ≡ get_or more at p)
    (set : List Name) (held : Holds set (map name_of main ++ map name_of (take at more))) (b : Bool) (tells : b ≡ not (stands (name_of p) set)) where
  new_so_far : stands (name_of p) (map name_of (take at more)) ≡ false
  new_so_far = false_from_ne_true (stands (name_of p) (map name_of (take at more))) (λ e.
      let n : Name = name_of p in
      let k = (stands_is n (map name_of (take at more))).0 e in
      let few = length-take at more in
      let many = length-map (take at more) name_of in
      let lt : k.0 < at = omega (arith, few, many, k.1) in
      let there = get_or-map name_of (take at more) k.0 p n (omega (arith, many, k.1)) in
      apart k.0 at p lt within (ap name_of (sym (get_or-take at more k.0 p lt)) ∙ sym there ∙ k.2 ∙ ap name_of here))

  either : stands (name_of p) set ≡ (stands_in main p || stands (name_of p) (map name_of (take at more)))
  either = stands-held set (map name_of main ++ map name_of (take at more)) held (name_of p) ∙ list_any-append (same_name (name_of p)) (map name_of main) (map name_of (take at more))

  pub told_new : b ≡ true → stands_in main p ≡ false
  told_new new = (or_parts (stands_in main p) (stands (name_of p) (map name_of (take at more))) (sym either ∙ not-true (stands (name_of p) set) (sym tells ∙ new))).0

  pub told_old : b ≡ false → stands_in main p ≡ true
  told_old old =
      only (stands_in main p) (stands (name_of p) (map name_of (take at more))) new_so_far (sym either ∙ not-false (stands (name_of p) set) (sym tells ∙ old))

-- where no property stands in both, the lists are well-formed together
parted : (main more : List Member) → first_twice main more ≡ None → AreParted main more
parted main more none i j d lt within same =
    let over = none_of (nat_lt (position_or_len (stands_in main) more) (length more)) (position_or_len (stands_in main) more) none in
    let far : j < position_or_len (stands_in main) more = grind (arith, nat_tests, over, within) in
    let lacks = fails_before_first (stands_in main) more j d far in
    let n : Name = name_of (get_or more j d) in
    let has : stands n (map name_of main) ≡ true = (stands_is n (map name_of main)).1 (i, omega (arith, length-map main name_of, lt), get_or-map name_of main i d n lt ∙ same) in
    absurd cc

pub formed_both : (main more : Parts) → Wf main → Wf more → first_twice main.props more.props ≡ None → Wf record { about = main.about; props = main.props ++ more.props }
formed_both main more a b none = record {
  about = a.about;
  props = formed_append 24 main.props more.props a.props b.props (parted main.props more.props none);
  note = All-append (λ m. name_of m ≡ note_name → ⊥) main.props more.props a.note b.note;
}
