-- The rule that an element breaks is the first that holds among RDF's rules, which are in the order of their numbers.
use Rattle.std.proofs.Common.{◌≡◌, ◌≤◌, ℕ, zero, suc, Bool, true, false, cond, List, [], ◌∷◌, ◌++◌, Option, Some, None, refl, ap, sym, subst, ◌∙◌, arith}
use Rattle.std.specs.Prelude.{MatchOption, find, slice_get}
use Rattle.std.specs.List.{flat_map}
use Rattle.xmp_values.specs.declared.rules.Rule.{Rule}
use Rattle.xmp_values.specs.declared.rules.Rule.TheVariants.{NoRdf, NotDescription, AboutDiffers, NoNamespace, XmlName, RdfName, RefusedAttribute, BadParseType, Mixed, ManyNodes, BadContainer, BadItem, TwiceValue, Twice, TreeDeep}
use Rattle.xmp_values.specs.Rules.{number_of}
use Rattle.rdf_forms.specs.Visits.{Visit}
use Rattle.rdf_forms.specs.NameRules.{name_rule, first_about}
use Rattle.rdf_forms.specs.FormRules.{form_rule}
use Rattle.rdf_forms.specs.MemberRules.{member_rule, member_names}
use Rattle.std.specs.Option.{option_or}
use Rattle.rdf_forms.specs.Rules.{broken_in, broken}
use Rattle.rdf_forms.specs.LeastRules.{breaks, IsLeast, LeastRule}

-- ---- RDF's rules

abbrev names : List Rule
names = NoRdf ∷ NotDescription ∷ AboutDiffers ∷ NoNamespace ∷ XmlName ∷ RdfName ∷ []

abbrev forms : List Rule
forms = RefusedAttribute ∷ BadParseType ∷ Mixed ∷ ManyNodes ∷ BadContainer ∷ BadItem ∷ []

abbrev members : List Rule
members = TwiceValue ∷ Twice ∷ TreeDeep ∷ []

abbrev rules : List Rule
rules = names ++ (forms ++ members)

-- a rule that an element can break is one of them
among : (v : Visit) (rule : Rule) → breaks v rule ≡ true → (k : ℕ) × (slice_get rules k ≡ Some rule)
among v NoRdf h = (0, refl)
among v NotDescription h = (1, refl)
among v AboutDiffers h = (2, refl)
among v NoNamespace h = (3, refl)
among v XmlName h = (4, refl)
among v RdfName h = (5, refl)
among v RefusedAttribute h = (6, refl)
among v BadParseType h = (7, refl)
among v Mixed h = (8, refl)
among v ManyNodes h = (9, refl)
among v BadContainer h = (10, refl)
among v BadItem h = (11, refl)
among v TwiceValue h = (12, refl)
among v Twice h = (13, refl)
among v TreeDeep h = (14, refl)
among v rule h = absurd cc

-- ---- the first that holds

either : (b : Bool) (r : Rule) (o p : Option Rule) → option_or (cond b (Some r) o) p ≡ cond b (Some r) (option_or o p)
either true r o p = refl
either false r o p = refl

first_of_both : (test : Rule → Bool) (rs qs : List Rule) → option_or (find test rs) (find test qs) ≡ find test (rs ++ qs)
first_of_both test [] qs = refl
first_of_both test (r ∷ rs) qs =
    either (test r) r (find test rs) (find test qs) ∙ ap (cond (test r) (Some r)) (first_of_both test rs qs)

first_name : (v : Visit) → name_rule v.role v.element (first_about v.earlier) ≡ find (breaks v) names
unfolding name_rule
first_name v = refl

first_form : (v : Visit) → form_rule v.role v.element ≡ find (breaks v) forms
unfolding form_rule
first_form v = refl

first_member : (v : Visit) → member_rule v.role v.depth v.element (flat_map member_names v.earlier) ≡ find (breaks v) members
unfolding member_rule
first_member v = refl

broken_first : (v : Visit) → broken v ≡ find (breaks v) rules
unfolding broken broken_in
broken_first v =
    (λ i. option_or (first_name v i) (option_or (first_form v i) (first_member v i)))
    ∙ ap (option_or (find (breaks v) names)) (first_of_both (breaks v) forms members) ∙ first_of_both (breaks v) names (forms ++ members)

-- ---- the least number

-- each number is at least the one before it, the first at least n
abbrev Ascends : ℕ → List Rule → Type 0
Ascends n [] = Unit {0}
Ascends n (r ∷ rs) = (n ≤ number_of r) × Ascends (number_of r) rs

from_get : (n : ℕ) (rs : List Rule) (k : ℕ) (s : Rule) → Ascends n rs → slice_get rs k ≡ Some s → n ≤ number_of s
from_get n [] k s h is = absurd cc
from_get n (r ∷ rs) zero s h is = let same : r ≡ s = cc in subst (λ (q : Rule). n ≤ number_of q) same h.0
from_get n (r ∷ rs) (suc k) s h is = let later = from_get (number_of r) rs k s h.1 is in let here = h.0 in omega (arith, later, here)

abbrev Least : (Rule → Bool) → List Rule → Option Rule → Type 0
Least test rs found =
    MatchOption found ((s : Rule) (k : ℕ) → slice_get rs k ≡ Some s → test s ≡ false)
    (λ r. (test r ≡ true) × ((s : Rule) (k : ℕ) → slice_get rs k ≡ Some s → test s ≡ true → number_of r ≤ number_of s))

found_least : (test : Rule → Bool) (n : ℕ) (rs : List Rule) → Ascends n rs → Least test rs (find test rs)
found_least test n [] h = λ s k is. absurd cc
found_least test n (r ∷ rs) h = by (test r) refl (find test rs) (found_least test (number_of r) rs h.1)
  where
    by : (b : Bool) → test r ≡ b → (found : Option Rule) → Least test rs found → Least test (r ∷ rs) (cond b (Some r) found)
    by true is found rest = (is, λ s k there passes. from_get (number_of r) (r ∷ rs) k s (omega arith, h.1) there)
    by false is None rest = λ s k there. none k there
      where
        none : {s : Rule} (k : ℕ) → slice_get (r ∷ rs) k ≡ Some s → test s ≡ false
        none zero there = let same : r ≡ _ = cc in ap test (sym same) ∙ is
        none (suc k) there = rest _ k there
    by false is (Some q) rest = (rest.0, λ s k there passes. least s k there passes)
      where
        least : (s : Rule) (k : ℕ) → slice_get (r ∷ rs) k ≡ Some s → test s ≡ true → number_of q ≤ number_of s
        least s zero there passes = absurd (let same : r ≡ s = cc in let fails : test s ≡ false = ap test (sym same) ∙ is in let never : true ≡ false = sym passes ∙ fails in cc)
        least s (suc k) there passes = rest.1 s k there passes

ascending : Ascends 0 rules
ascending = omega arith

false_of : (b : Bool) → (b ≡ true → b ≡ false) → b ≡ false
false_of true h = h refl
false_of false h = refl

pub least_rule : LeastRule
least_rule v = subst told (sym (broken_first v)) (by (find (breaks v) rules) (found_least (breaks v) 0 rules ascending))
  where
    told : Option Rule → Type 0
    told found = MatchOption found ((rule : Rule) → breaks v rule ≡ false) (IsLeast v)

    by : (found : Option Rule) → Least (breaks v) rules found → told found
    by None none = λ rule. false_of (breaks v rule) (λ h. let at = among v rule h in none rule at.0 at.1)
    by (Some r) least = record { holds = least.0; least = λ other h. let at = among v other h in least.1 other at.0 at.1 h }
