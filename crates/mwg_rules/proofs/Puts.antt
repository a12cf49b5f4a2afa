-- Members with one of a name changed: as code makes them, and what their names lead to.
use Rattle.std.proofs.Common.{◌≡◌, ◌∙◌, ℕ, zero, suc, ◌<◌, Bool, true, false, cond, List, [], ◌∷◌, ◌++◌, get_or, set, Option, Some, None, refl, sym, ap, subst, arith}
use Rattle.std.specs.Prelude.{Any, IfSome, find, slice_get, slice_set, option_map}
use Rattle.std.proofs.lemmas.Option.{get_or_from_slice_get, slice_get-get_or}
use Rattle.std.proofs.lemmas.List.Quantifiers.{position-Some}
use Rattle.xmp_values.specs.declared.text.Name.{Name}
use Rattle.xmp_tree.specs.declared.nested.Member.{Member, roll-out-Member}
use Rattle.xmp_tree.specs.declared.nested.Value.{Value}
use Rattle.xmp_tree.specs.Items.{member_put}
use Rattle.xmp_tree.specs.Parts.{member, simple}
use Rattle.xmp_tree.specs.Places.{place_of, same_name, value_named}
use Rattle.xmp_tree.specs.Wf.{name_of, value_of}
use Rattle.xmp_tree.proofs.Items.{refilled}
use Rattle.xmp_tree.proofs.Made.{name-member, value-member}
use Rattle.xmp_tree.proofs.PlaceLemmas.{new_name, same_name_is}
use Rattle.mwg_rules.specs.Reconciled.{with_property}

chosen_first : {X : Type 0} (b : Bool) (x y : X) → b ≡ true → cond b x y ≡ x
chosen_first true x y e = refl
chosen_first false x y e = absurd (cc)

chosen_second : {X : Type 0} (b : Bool) (x y : X) → b ≡ false → cond b x y ≡ y
chosen_second true x y e = absurd (cc)
chosen_second false x y e = refl

-- a member by its name and its value
pub member-parts : (m : Member) → member (name_of m) (value_of m) ≡ m
member-parts m = roll-out-Member m

module _ (name : Name) (f : Option Value → Value) where
  abbrev is_named : Member → Bool
  is_named m = same_name (name_of m) name

  abbrev changed : Member → Member
  changed m = member (name_of m) (f (Some (value_of m)))

  -- the first of the name stands at a place
  at_place : (ms : List Member) (i : ℕ) (m : Member) → slice_get ms i ≡ Some m → is_named m ≡ true → ((k : ℕ) → k < i → is_named (get_or ms k m) ≡ false)
      → with_property name f ms ≡ set ms i (changed m)
  at_place [] zero m is here before = absurd (cc)
  at_place [] (suc i) m is here before = absurd (cc)
  at_place (x ∷ xs) zero m is here before =
      let e : x ≡ m = cc in
      chosen_first (is_named x) (changed x ∷ xs) (x ∷ with_property name f xs) (ap is_named e ∙ here) ∙ ap (λ (y : Member). changed y ∷ xs) e
  at_place (x ∷ xs) (suc i) m is here before =
      chosen_second (is_named x) (changed x ∷ xs) (x ∷ with_property name f xs) (before 0 (omega arith))
      ∙ ap (λ ys. x ∷ ys) (at_place xs i m is here (λ k h. before (suc k) (omega arith)))

  pub with_property-there : (ms : List Member) (i : ℕ) (m : Member) → place_of name ms ≡ Some i → slice_get ms i ≡ Some m → with_property name f ms ≡ slice_set ms i (changed m)
  with_property-there ms i m at is =
      let p = position-Some is_named ms i m at in
      at_place ms i m is (subst (λ (x : Member). is_named x ≡ true) (get_or_from_slice_get ms i m m is) p.1) p.2

  none_later : (x : Member) (xs : List Member) → (Any (λ m. name_of m ≡ name) (x ∷ xs) → ⊥) → Any (λ m. name_of m ≡ name) xs → ⊥
  none_later x xs none any = none (suc any.0, any.1, omega (arith, any.2), any.3, any.4)

  not_first : (x : Member) (xs : List Member) → (Any (λ m. name_of m ≡ name) (x ∷ xs) → ⊥) → (b : Bool) → is_named x ≡ b → b ≡ false
  not_first x xs none true e = absurd (none (0, x, omega arith, refl, (same_name_is (name_of x) name).0 e))
  not_first x xs none false e = refl

  absent : (ms : List Member) → (Any (λ m. name_of m ≡ name) ms → ⊥) → with_property name f ms ≡ ms ++ member name (f None) ∷ []
  absent [] none = refl
  absent (x ∷ xs) none =
      chosen_second (is_named x) (changed x ∷ xs) (x ∷ with_property name f xs) (not_first x xs none (is_named x) refl)
      ∙ ap (λ ys. x ∷ ys) (absent xs (none_later x xs none))

  pub with_property-absent : (ms : List Member) → place_of name ms ≡ None → with_property name f ms ≡ ms ++ member name (f None) ∷ []
  with_property-absent ms none = absent ms (new_name name ms none)

  -- the name leads to the changed value
  named_member : (n : Name) (v : Value) (xs : List Member) → same_name n name ≡ true → value_named name (member n v ∷ xs) ≡ Some v
  named_member n v xs e =
      ap (option_map value_of) (chosen_first (is_named (member n v)) (Some (member n v)) (find is_named xs) (ap (λ k. same_name k name) (name-member n v) ∙ e))
      ∙ ap Some (value-member n v)

  pub value_named-changed : (ms : List Member) → value_named name (with_property name f ms) ≡ Some (f (value_named name ms))
  value_named-changed [] = named_member name (f None) [] ((same_name_is name name).1 refl)
  value_named-changed (x ∷ xs) = by (value_named-changed xs) (is_named x) refl
    where
      by : value_named name (with_property name f xs) ≡ Some (f (value_named name xs)) → (b : Bool) → is_named x ≡ b → value_named name (with_property name f (x ∷ xs)) ≡ Some (f (value_named name (x ∷ xs)))
      by later true e =
          ap (value_named name) (chosen_first (is_named x) (changed x ∷ xs) (x ∷ with_property name f xs) e)
          ∙ named_member (name_of x) (f (Some (value_of x))) xs e
          ∙ ap (λ o. Some (f (option_map value_of o))) (sym (chosen_first (is_named x) (Some x) (find is_named xs) e))
      by later false e =
          ap (value_named name) (chosen_second (is_named x) (changed x ∷ xs) (x ∷ with_property name f xs) e)
          ∙ ap (option_map value_of) (chosen_second (is_named x) (Some x) (find is_named (with_property name f xs)) e)
          ∙ later
          ∙ ap (λ o. Some (f (option_map value_of o))) (sym (chosen_second (is_named x) (Some x) (find is_named xs) e))

  -- another name leads where it led
  module _ (other : Name) (apart : name ≡ other → ⊥) where
    abbrev is_other : Member → Bool
    is_other m = same_name (name_of m) other

    other_member : (n : Name) (v : Value) (xs : List Member) → same_name n name ≡ true → value_named other (member n v ∷ xs) ≡ value_named other xs
    other_member n v xs e = ap (option_map value_of) (chosen_second (is_other (member n v)) (Some (member n v)) (find is_other xs) (no (is_other (member n v)) refl))
      where
        no : (b : Bool) → is_other (member n v) ≡ b → b ≡ false
        no true h = absurd (apart (sym ((same_name_is n name).0 e) ∙ sym (name-member n v) ∙ (same_name_is (name_of (member n v)) other).0 h))
        no false h = refl

    pub value_named-other : (ms : List Member) → value_named other (with_property name f ms) ≡ value_named other ms
    value_named-other [] = other_member name (f None) [] ((same_name_is name name).1 refl)
    value_named-other (x ∷ xs) = by (value_named-other xs) (is_named x) refl
      where
        skipped : is_named x ≡ true → value_named other (x ∷ xs) ≡ value_named other xs
        skipped e = ap (λ m. value_named other (m ∷ xs)) (sym (member-parts x)) ∙ other_member (name_of x) (value_of x) xs e

        kept : (ys : List Member) → value_named other ys ≡ value_named other xs → (b : Bool) → is_other x ≡ b → value_named other (x ∷ ys) ≡ value_named other (x ∷ xs)
        kept ys e true h = ap (option_map value_of) (chosen_first (is_other x) (Some x) (find is_other ys) h ∙ sym (chosen_first (is_other x) (Some x) (find is_other xs) h))
        kept ys e false h =
            ap (option_map value_of) (chosen_second (is_other x) (Some x) (find is_other ys) h) ∙ e
            ∙ ap (option_map value_of) (sym (chosen_second (is_other x) (Some x) (find is_other xs) h))

        by : value_named other (with_property name f xs) ≡ value_named other xs → (b : Bool) → is_named x ≡ b → value_named other (with_property name f (x ∷ xs)) ≡ value_named other (x ∷ xs)
        by later true e =
            ap (value_named other) (chosen_first (is_named x) (changed x ∷ xs) (x ∷ with_property name f xs) e)
            ∙ other_member (name_of x) (f (Some (value_of x))) xs e ∙ sym (skipped e)
        by later false e =
            ap (value_named other) (chosen_second (is_named x) (changed x ∷ xs) (x ∷ with_property name f xs) e)
            ∙ kept (with_property name f xs) later (is_other x) refl

  -- a value that stays leaves all members as they are
  pub with_property-stays : (ms : List Member) (v : Value) → value_named name ms ≡ Some v → f (Some v) ≡ v → with_property name f ms ≡ ms
  with_property-stays [] v is stays = absurd (cc)
  with_property-stays (x ∷ xs) v is stays = by (λ h. with_property-stays xs v h stays) (is_named x) refl
    where
      by : (value_named name xs ≡ Some v → with_property name f xs ≡ xs) → (b : Bool) → is_named x ≡ b → with_property name f (x ∷ xs) ≡ x ∷ xs
      by later true e =
          let here : Some (value_of x) ≡ Some v = sym (ap (option_map value_of) (chosen_first (is_named x) (Some x) (find is_named xs) e)) ∙ is in
          let same : value_of x ≡ v = cc in
          chosen_first (is_named x) (changed x ∷ xs) (x ∷ with_property name f xs) e
          ∙ ap (λ w. member (name_of x) (f (Some w)) ∷ xs) same ∙ ap (λ w. member (name_of x) w ∷ xs) (stays ∙ sym same) ∙ ap (λ m. m ∷ xs) (member-parts x)
      by later false e =
          chosen_second (is_named x) (changed x ∷ xs) (x ∷ with_property name f xs) e
          ∙ ap (λ ys. x ∷ ys) (later (sym (ap (option_map value_of) (chosen_second (is_named x) (Some x) (find is_named xs) e)) ∙ is))

  -- a value moved out, and what is made of it moved in
  pub with_property-refilled : (ms new : List Member) (i : ℕ) (there : Option Value) (v : Value) (r : List Member) → place_of name ms ≡ Some i
      → there ≡ option_map value_of (slice_get ms i) → IfSome (slice_get ms i) (λ m. new ≡ slice_set ms i (member (name_of m) (simple []))) → v ≡ f there
      → IfSome (slice_get new i) (λ m. r ≡ member_put new i m (Some v)) → r ≡ with_property name f ms
  with_property-refilled ms new i there v r at taken rest made put =
      let d : Member = member name v in
      let p = position-Some is_named ms i d at in
      let m = get_or ms i d in
      let is : slice_get ms i ≡ Some m = slice_get-get_or ms i d p.0 in
      let moved : new ≡ slice_set ms i (member (name_of m) (simple [])) = subst (λ o. IfSome o (λ x. new ≡ slice_set ms i (member (name_of x) (simple [])))) is rest in
      let there_is : there ≡ Some (value_of m) = taken ∙ ap (option_map value_of) is in
      refilled ms new i m (Some v) r is moved put
      ∙ ap (λ w. slice_set ms i (member (name_of m) w)) (made ∙ ap f there_is)
      ∙ sym (with_property-there ms i m at is)
