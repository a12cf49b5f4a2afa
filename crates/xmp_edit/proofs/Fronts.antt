-- An edit of members of which the first stands by itself.
use Rattle.std.proofs.Common.{◌≡◌, ◌∙◌, ◌&&◌, ℕ, suc, Bool, true, false, List, ◌∷◌, ◌++◌, Option, Some, None, refl, sym, ap}
use Rattle.std.specs.Prelude.{not, is_some, IsTrue, ◌↔◌, slice_get, option_map, option_to_list, Result, Ok, Err, if◌then◌else◌}
use Rattle.xmp_values.specs.declared.text.Name.{Name}
use Rattle.xmp_values.specs.declared.rules.Rule.{Rule}
use Rattle.xmp_values.specs.declared.rules.Rule.TheVariants.{NoSuchPlace}
use Rattle.xmp_tree.specs.declared.nested.Value.{Value}
use Rattle.xmp_tree.specs.declared.nested.Member.{Member}
use Rattle.xmp_tree.specs.Parts.{member}
use Rattle.xmp_tree.specs.Wf.{name_of, value_of}
use Rattle.xmp_tree.specs.Places.{same_name, place_of}
use Rattle.xmp_tree.specs.Items.{member_put}
use Rattle.xmp_edit.specs.Edits.{Change, ok_map, member_at, with_member, member_changed, in_members}
use Rattle.xmp_edit.specs.HeldMembers.{first_made}
use Rattle.xmp_edit.proofs.SlotLemmas.{position-here, position-next}

no_case : true ≡ false → ⊥
no_case e = cc

-- two tests of one fact agree
pub tests_agree : (P : Type 0) (a b : Bool) → IsTrue a ↔ P → (b ≡ true) ↔ P → a ≡ b
tests_agree P true true f g = refl
tests_agree P true false f g = absurd (no_case (sym (g.1 (f.0 refl))))
tests_agree P false true f g = absurd (no_case (sym (f.1 (g.0 refl))))
tests_agree P false false f g = refl

module _ (change : Change) (makes : Bool) (n : Name) (m : Member) (ms : List Member) where
  -- at its name
  pub at_first : (front : Bool) → same_name (name_of m) n ≡ true → in_members change makes front n (m ∷ ms) ≡ member_at change (m ∷ ms) 0 (Some m)
  at_first front here = ap (member_changed change makes front n (m ∷ ms)) (position-here (λ x. same_name (name_of x) n) m ms here)

  -- at another
  past_put : (i : ℕ) (o : Option Member) → member_at change (m ∷ ms) (suc i) o ≡ ok_map (λ r. m ∷ r) (member_at change ms i o)
  past_put i (Some k) = by (change (Some (value_of k)))
    where
      by : (r : Result (Option Value) Rule) → ok_map (member_put (m ∷ ms) (suc i) k) r ≡ ok_map (λ r. m ∷ r) (ok_map (member_put ms i k) r)
      by (Ok (Some v)) = refl
      by (Ok None) = refl
      by (Err e) = refl
  past_put i None = refl

  past_made : (r : Result (Option Value) Rule) → ok_map (with_member false n (m ∷ ms)) r ≡ ok_map (λ r. m ∷ r) (ok_map (with_member false n ms) r)
  past_made (Ok (Some v)) = refl
  past_made (Ok None) = refl
  past_made (Err e) = refl

  past_missing : (b : Bool) → member_changed change b false n (m ∷ ms) None ≡ ok_map (λ r. m ∷ r) (member_changed change b false n ms None)
  past_missing true = past_made (change None)
  past_missing false = refl

  past_at : (front : Bool) (o : Option ℕ) → (front && not (is_some o)) ≡ false →
      member_changed change makes front n (m ∷ ms) (option_map (λ i. suc i) o) ≡ ok_map (λ r. m ∷ r) (member_changed change makes false n ms o)
  past_at front (Some i) e = past_put i (slice_get ms i)
  past_at false None e = past_missing makes
  past_at true None e = absurd (no_case e)

  pub past_first : (front : Bool) → same_name (name_of m) n ≡ false → (front && not (is_some (place_of n ms))) ≡ false →
      in_members change makes front n (m ∷ ms) ≡ ok_map (λ r. m ∷ r) (in_members change makes false n ms)
  past_first front other stays = ap (member_changed change makes front n (m ∷ ms)) (position-next (λ x. same_name (name_of x) n) m ms other) ∙ past_at front (place_of n ms) stays

module _ (change : Change) (n : Name) (ms : List Member) where
  given : (r : Result (Option Value) Rule) → ok_map (with_member true n ms) r ≡ ok_map (λ first. option_to_list first ++ ms) (ok_map (option_map (member n)) r)
  given (Ok (Some v)) = refl
  given (Ok None) = refl
  given (Err e) = refl

  made : (b : Bool) → member_changed change b true n ms None ≡ ok_map (λ first. option_to_list first ++ ms) (first_made change b n)
  made true = given (change None)
  made false = refl

  -- a new one
  pub new_first : (makes front : Bool) → (front && not (is_some (place_of n ms))) ≡ true → in_members change makes front n ms ≡ ok_map (λ first. option_to_list first ++ ms) (first_made change makes n)
  new_first makes front = by front (place_of n ms)
    where
      by : (b : Bool) (o : Option ℕ) → (b && not (is_some o)) ≡ true → member_changed change makes b n ms o ≡ ok_map (λ first. option_to_list first ++ ms) (first_made change makes n)
      by true None e = made makes
      by true (Some i) e = absurd (no_case cc)
      by false o e = absurd (no_case cc)
