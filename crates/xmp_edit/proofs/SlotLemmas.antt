-- What is found, put in, taken out and added in slots is so among the members that are there.
use Rattle.std.proofs.Common.{◌≡◌, ◌∙◌, ◌<◌, ℕ, zero, suc, length, get_or, Bool, true, false, cond, ◌&&◌, List, [], ◌∷◌, ◌++◌, Option, Some, None, refl, sym, ap, subst, arith}
use Rattle.std.specs.Prelude.{slice_get, slice_set, remove, option_map, option_to_list, is_some, position, Result, Ok, Err, IfSome}
use Rattle.std.specs.Option.{option_or, option_flatten}
use Rattle.std.specs.Str.{bytes_eq}
use Rattle.std.specs.Map.{lookup}
use Rattle.std.specs.Ordering.{is_eq, nat_cmp, ordering_then}
use Rattle.std.specs.Cmp.{tied_then}
use Rattle.std.specs.Cmp.Lexicographic.{slice_cmp}
use Rattle.std.specs.BTreeMap.{BTreeMap, UpdatesBy, get, is_at}
use Rattle.std.proofs.Math.Bool.{and-false}
use Rattle.std.proofs.lemmas.Bool.Decides.{nat_tests}
use Rattle.std.proofs.lemmas.List.{set-set}
use Rattle.std.proofs.lemmas.Map.Text.{is_eq-slice_cmp}
use Rattle.std.proofs.lemmas.Option.{none-some, same_Some}
use Rattle.xmp_values.specs.declared.text.Name.{Name}
use Rattle.xmp_values.specs.declared.rules.Rule.{Rule}
use Rattle.xmp_values.specs.declared.rules.Rule.TheVariants.{NoSuchPlace}
use Rattle.xmp_values.specs.declared.stops.RuleStop.{RuleStop}
use Rattle.xmp_values.specs.Stops.{Gives, rule_of}
use Rattle.xmp_tree.specs.declared.nested.Value.{Value}
use Rattle.xmp_tree.specs.declared.nested.Member.{Member}
use Rattle.xmp_tree.specs.Parts.{member}
use Rattle.xmp_tree.specs.Items.{member_put}
use Rattle.xmp_tree.specs.Wf.{name_of, value_of, NamesDiffer}
use Rattle.xmp_tree.specs.Places.{same_name, place_of}
use Rattle.xmp_tree.proofs.Made.{name-member}
use Rattle.xmp_tree.proofs.PlaceLemmas.{same_name_is}
use Rattle.xmp_paths.specs.declared.step.Step.{Step}
use Rattle.xmp_paths.specs.Paths.{is_end}
use Rattle.xmp_edit.specs.declared.slots.Slots.{Slots}
use Rattle.xmp_edit.specs.Edits.{Change, ok_map, member_at, with_member, member_changed, in_members, at_place}
use Rattle.xmp_edit.specs.Slots.{present, has, slot_of, Key, name_at, key_cmp, HasPlaces, PlacesMore, slot_put, slot_changed, lists, presented}

different_bools : true ≡ false → ⊥
different_bools e = cc

pub present-push : (ss : List (Option Member)) (s : Option Member) → present (ss ++ s ∷ []) ≡ present ss ++ option_to_list s
present-push [] None = refl
present-push [] (Some m) = refl
present-push (None ∷ ss) s = present-push ss s
present-push (Some x ∷ ss) s = ap (λ (ms : List Member). x ∷ ms) (present-push ss s)

-- Positions, from the front.
pub position-here : {X : Type 0} (p : X → Bool) (x : X) (xs : List X) → p x ≡ true → position p (x ∷ xs) ≡ Some 0
position-here p x xs here = grind (arith, nat_tests)

pub position-next : {X : Type 0} (p : X → Bool) (x : X) (xs : List X) → p x ≡ false → position p (x ∷ xs) ≡ option_map (λ i. suc i) (position p xs)
position-next p x xs next = grind (arith, nat_tests)

-- a slot, and the place of its member among those that are there
record FoundAt (n : Name) (ss : List (Option Member)) (i : ℕ) : Type 0 where
  m : Member
  j : ℕ
  named : same_name (name_of m) n ≡ true
  here : slice_get ss i ≡ Some (Some m)
  place : place_of n (present ss) ≡ Some j
  there : slice_get (present ss) j ≡ Some m
  kept : (v : Member) → present (slice_set ss i (Some v)) ≡ slice_set (present ss) j v
  out : present (slice_set ss i None) ≡ remove (present ss) j

found_first : (n : Name) (m : Member) (ss : List (Option Member)) (i : ℕ) → same_name (name_of m) n ≡ true → 0 ≡ i → FoundAt n (Some m ∷ ss) i
found_first n m ss i here at = subst (FoundAt n (Some m ∷ ss)) at record {
  m = m;
  j = 0;
  named = here;
  here = refl;
  place = position-here (λ x. same_name (name_of x) n) m (present ss) here;
  there = refl;
  kept = λ v. refl;
  out = refl;
}

found_past : (n : Name) (ss : List (Option Member)) (k i : ℕ) → FoundAt n ss k → suc k ≡ i → FoundAt n (None ∷ ss) i
found_past n ss k i f at = subst (FoundAt n (None ∷ ss)) at record {
  m = f.m;
  j = f.j;
  named = f.named;
  here = f.here;
  place = f.place;
  there = f.there;
  kept = f.kept;
  out = f.out;
}

found_next : (n : Name) (x : Member) (ss : List (Option Member)) (k i : ℕ) → same_name (name_of x) n ≡ false → FoundAt n ss k → suc k ≡ i → FoundAt n (Some x ∷ ss) i
found_next n x ss k i other f at = subst (FoundAt n (Some x ∷ ss)) at record {
  m = f.m;
  j = suc f.j;
  named = f.named;
  here = f.here;
  place = position-next (λ m. same_name (name_of m) n) x (present ss) other ∙ ap (option_map (λ i. suc i)) f.place;
  there = f.there;
  kept = λ v. ap (λ ms. x ∷ ms) (f.kept v);
  out = ap (λ ms. x ∷ ms) f.out;
}

abbrev Finds : Name → List (Option Member) → Type 0
Finds n ss = (i : ℕ) → slot_of n ss ≡ Some i → FoundAt n ss i

found_after : (n : Name) (ss : List (Option Member)) → Finds n ss → (i : ℕ) (o : Option ℕ) → slot_of n ss ≡ o → option_map (λ i. suc i) o ≡ Some i → FoundAt n (None ∷ ss) i
found_after n ss rec i (Some k) is at = found_past n ss k i (rec k is) (same_Some (suc k) i at)
found_after n ss rec i None is at = absurd (none-some i at)

found_other : (n : Name) (x : Member) (ss : List (Option Member)) → Finds n ss → (i : ℕ) → same_name (name_of x) n ≡ false → (o : Option ℕ) → slot_of n ss ≡ o → option_map (λ i. suc i) o ≡ Some i → FoundAt n (Some x ∷ ss) i
found_other n x ss rec i other (Some k) is at = found_next n x ss k i other (rec k is) (same_Some (suc k) i at)
found_other n x ss rec i other None is at = absurd (none-some i at)

found_member : (n : Name) (x : Member) (ss : List (Option Member)) → Finds n ss → (i : ℕ) (b : Bool) → same_name (name_of x) n ≡ b → cond b (Some 0) (option_map (λ i. suc i) (slot_of n ss)) ≡ Some i → FoundAt n (Some x ∷ ss) i
found_member n x ss rec i true here at = found_first n x ss i here (same_Some 0 i at)
found_member n x ss rec i false other at = found_other n x ss rec i other (slot_of n ss) refl at

found_at : (n : Name) (ss : List (Option Member)) (i : ℕ) → slot_of n ss ≡ Some i → FoundAt n ss i
found_at n [] i at = absurd (none-some i at)
found_at n (None ∷ ss) i at = found_after n ss (found_at n ss) i (slot_of n ss) refl at
found_at n (Some x ∷ ss) i at = found_member n x ss (found_at n ss) i (same_name (name_of x) n) refl at

later_none : (o : Option ℕ) → option_map (λ i. suc i) o ≡ None → o ≡ None
later_none None e = refl
later_none (Some k) e = absurd (none-some (suc k) (sym e))

missing_member : (n : Name) (x : Member) (ss : List (Option Member)) → (slot_of n ss ≡ None → place_of n (present ss) ≡ None) → (b : Bool) → same_name (name_of x) n ≡ b → cond b (Some 0) (option_map (λ i. suc i) (slot_of n ss)) ≡ None → place_of n (x ∷ present ss) ≡ None
missing_member n x ss rec true here none = absurd (none-some 0 (sym none))
missing_member n x ss rec false other none =
    position-next (λ m. same_name (name_of m) n) x (present ss) other ∙ ap (option_map (λ i. suc i)) (rec (later_none (slot_of n ss) none))

missing_present : (n : Name) (ss : List (Option Member)) → slot_of n ss ≡ None → place_of n (present ss) ≡ None
missing_present n [] none = refl
missing_present n (None ∷ ss) none = missing_present n ss (later_none (slot_of n ss) none)
missing_present n (Some x ∷ ss) none = missing_member n x ss (missing_present n ss) (same_name (name_of x) n) refl none

-- a name that has a slot is that of a member, and no other is
pub slot_there : (n : Name) (ss : List (Option Member)) → is_some (slot_of n ss) ≡ is_some (place_of n (present ss))
slot_there n ss = by (slot_of n ss) refl
  where
    by : (o : Option ℕ) → slot_of n ss ≡ o → is_some (slot_of n ss) ≡ is_some (place_of n (present ss))
    by (Some i) at = ap (λ (o : Option ℕ). is_some o) at ∙ sym (ap (λ (o : Option ℕ). is_some o) (found_at n ss i at).place)
    by None none = ap (λ (o : Option ℕ). is_some o) none ∙ sym (ap (λ (o : Option ℕ). is_some o) (missing_present n ss none))

-- a change in a slot is one at the place of its name
module _ (change : Change) (ss : List (Option Member)) (i : ℕ) (n : Name) (f : FoundAt n ss i) where
  put : (r : Result (Option Value) Rule) → ok_map (member_put (present ss) f.j f.m) r ≡ ok_map present (ok_map (slot_put ss i f.m) r)
  put (Ok (Some v)) = ap (λ (ms : List Member). Ok ms) (sym (f.kept (member (name_of f.m) v)))
  put (Ok None) = ap (λ (ms : List Member). Ok ms) (sym f.out)
  put (Err e) = refl

  changed_there : (makes : Bool) → in_members change makes false n (present ss) ≡ ok_map present (slot_changed change ss i (slice_get ss i))
  changed_there makes =
      ap (member_changed change makes false n (present ss)) f.place
      ∙ ap (member_at change (present ss) f.j) f.there
      ∙ put (change (Some (value_of f.m)))
      ∙ sym (ap (λ o. ok_map present (slot_changed change ss i o)) f.here)

pub changed_present : (change : Change) (makes : Bool) (n : Name) (ss : List (Option Member)) (i : ℕ) → slot_of n ss ≡ Some i →
    in_members change makes false n (present ss) ≡ ok_map present (slot_changed change ss i (slice_get ss i))
changed_present change makes n ss i at = changed_there change ss i n (found_at n ss i at) makes

pub presented_there : (r : Result (Slots Member) RuleStop) (there : Result (List (Option Member)) Rule) → Gives rule_of (lists r) there → Gives rule_of (presented r) (ok_map present there)
presented_there (Ok s) there h = ap (ok_map present) h
presented_there (Err stop) there h = by (rule_of stop) h
  where
    by : (o : Option Rule) → IfSome o (λ rule. there ≡ Err rule) → IfSome o (λ rule. ok_map present there ≡ Err rule)
    by (Some rule) h = ap (ok_map present) h
    by None h = tt

abbrev Given : Type 0
Given = Result (Option Member) Rule

abbrev given_of : Option Member → Given → Option Member
given_of d (Ok given) = given
given_of d (Err rule) = d

same_Ok : (x y : Option Member) → ◌≡◌ {A = Given} (Ok x) (Ok y) → x ≡ y
same_Ok x y h = ap (given_of x) h

err_ok : (rule : Rule) (g : Option Member) → ◌≡◌ {A = Given} (Err rule) (Ok g) → ⊥
err_ok rule g h = cc

-- what a change made of a property, and then stands in the slot
pub slot_given : (change : Change) (ss : List (Option Member)) (i : ℕ) (m : Member) (g : Option Member) → slice_get ss i ≡ Some (Some m) → ok_map (option_map (member (name_of m))) (change (Some (value_of m))) ≡ Ok g
    → slot_changed change ss i (slice_get ss i) ≡ Ok (slice_set ss i g)
slot_given change ss i m g here = by (change (Some (value_of m))) refl
  where
    by : (r : Result (Option Value) Rule) → change (Some (value_of m)) ≡ r → ok_map (option_map (member (name_of m))) r ≡ Ok g → slot_changed change ss i (slice_get ss i) ≡ Ok (slice_set ss i g)
    by (Ok (Some v)) is gave =
        ap (slot_changed change ss i) here ∙ ap (ok_map (slot_put ss i m)) is ∙ ap (λ (x : Option Member). Ok (slice_set ss i x)) (same_Ok (Some (member (name_of m) v)) g gave)
    by (Ok None) is gave = ap (slot_changed change ss i) here ∙ ap (ok_map (slot_put ss i m)) is ∙ ap (λ (x : Option Member). Ok (slice_set ss i x)) (same_Ok None g gave)
    by (Err e) is gave = absurd (err_ok e g gave)

-- where the slot of a name is, a member of it stands
pub slot_named : (n : Name) (ss : List (Option Member)) (i : ℕ) (m : Member) → slot_of n ss ≡ Some i → slice_get ss i ≡ Some (Some m) → same_name (name_of m) n ≡ true
slot_named n ss i m at here =
    let f = found_at n ss i at in
    let one : f.m ≡ m = same_Some f.m m (same_Some (Some f.m) (Some m) (sym f.here ∙ here)) in
    subst (λ x. same_name (name_of x) n ≡ true) one f.named

pub slot_had : (o : Option (Option Member)) (m : Member) → Some m ≡ option_flatten o → o ≡ Some (Some m)
slot_had (Some (Some x)) m e = ap (λ y. Some (Some y)) (same_Some x m (sym e))
slot_had (Some None) m e = absurd (none-some m (sym e))
slot_had None m e = absurd (none-some m (sym e))

slice_get-set : (ss : List (Option Member)) (i : ℕ) (s t : Option Member) → slice_get ss i ≡ Some s → slice_get (slice_set ss i t) i ≡ Some t
slice_get-set [] i s t here = absurd (none-some s here)
slice_get-set (r ∷ ss) zero s t here = refl
slice_get-set (r ∷ ss) (suc i) s t here = slice_get-set ss i s t here

-- a slot that is emptied, and then filled
pub emptied_is : (ss left : List (Option Member)) (i : ℕ) (m : Member) → slice_get ss i ≡ Some (Some m) → IfSome (slice_get ss i) (λ s. left ≡ slice_set ss i None) → left ≡ slice_set ss i None
emptied_is ss left i m here rest = subst (λ o. IfSome o (λ s. left ≡ slice_set ss i None)) here rest

pub filled_is : (ss left full : List (Option Member)) (i : ℕ) (m : Member) (x : Option Member) → slice_get ss i ≡ Some (Some m) → IfSome (slice_get ss i) (λ s. left ≡ slice_set ss i None)
    → IfSome (slice_get left i) (λ s. full ≡ slice_set left i x) → full ≡ slice_set ss i x
filled_is ss left full i m x here rest put =
    let empty = emptied_is ss left i m here rest in
    let there : slice_get left i ≡ Some None = ap (λ (l : List (Option Member)). slice_get l i) empty ∙ slice_get-set ss i (Some m) None here in
    let full_is : full ≡ slice_set left i x = subst (λ o. IfSome o (λ s. full ≡ slice_set left i x)) there put in
    full_is ∙ ap (λ (l : List (Option Member)). slice_set l i x) empty ∙ set-set ss i None x

-- The slot of a name after a change.
pub slot_of-push : (n : Name) (ss : List (Option Member)) (s : Option Member) → slot_of n (ss ++ s ∷ []) ≡ option_or (slot_of n ss) (cond (has n s) (Some (length ss)) None)
slot_of-push n [] s = refl
slot_of-push n (t ∷ ss) s = by (has n t) (has n s) (slot_of n ss) (slot_of n (ss ++ s ∷ [])) (slot_of-push n ss s)
  where
    by : (b c : Bool) (o more : Option ℕ) → more ≡ option_or o (cond c (Some (length ss)) None) →
        cond b (Some 0) (option_map (λ i. suc i) more) ≡ option_or (cond b (Some 0) (option_map (λ i. suc i) o)) (cond c (Some (length (t ∷ ss))) None)
    by true c o more e = refl
    by false c (Some k) more e = ap (option_map (λ i. suc i)) e
    by false true None more e = ap (option_map (λ i. suc i)) e
    by false false None more e = ap (option_map (λ i. suc i)) e

slot_of-set : (n : Name) (ss : List (Option Member)) (i : ℕ) (s t : Option Member) → slice_get ss i ≡ Some s → has n t ≡ has n s → slot_of n (slice_set ss i t) ≡ slot_of n ss
slot_of-set n [] i s t here same = refl
slot_of-set n (r ∷ ss) zero s t here same = ap (λ b. cond b (Some 0) (option_map (λ i. suc i) (slot_of n ss))) (same ∙ ap (has n) (sym (same_Some r s here)))
slot_of-set n (r ∷ ss) (suc i) s t here same = ap (λ o. cond (has n r) (Some 0) (option_map (λ i. suc i) o)) (slot_of-set n ss i s t here same)

-- no member of the name, no slot
no_slot : (n : Name) (ss : List (Option Member)) → ((j : ℕ) (d : Member) → j < length (present ss) → same_name (name_of (get_or (present ss) j d)) n ≡ false) → slot_of n ss ≡ None
no_slot n [] none = refl
no_slot n (None ∷ ss) none = ap (option_map (λ i. suc i)) (no_slot n ss none)
no_slot n (Some x ∷ ss) none =
    ap (λ b. cond b (Some 0) (option_map (λ i. suc i) (slot_of n ss))) (none 0 x (omega arith))
    ∙ ap (option_map (λ i. suc i)) (no_slot n ss (λ j d lt. none (suc j) d (omega arith)))

not_same : (b : Bool) → (b ≡ true → ⊥) → b ≡ false
not_same true h = absurd (h refl)
not_same false h = refl

-- names that differ have one slot each
abbrev Outs : Name → List (Option Member) → Type 0
Outs n ss = (i : ℕ) → slot_of n ss ≡ Some i → slot_of n (slice_set ss i None) ≡ None

out_after : (n : Name) (ss : List (Option Member)) → Outs n ss → (i : ℕ) (o : Option ℕ) → slot_of n ss ≡ o → option_map (λ i. suc i) o ≡ Some i → slot_of n (slice_set (None ∷ ss) i None) ≡ None
out_after n ss rec i (Some k) is at = subst (λ j. slot_of n (slice_set (None ∷ ss) j None) ≡ None) (same_Some (suc k) i at) (ap (option_map (λ i. suc i)) (rec k is))
out_after n ss rec i None is at = absurd (none-some i at)

out_other : (n : Name) (x : Member) (ss : List (Option Member)) → Outs n ss → (i : ℕ) → same_name (name_of x) n ≡ false → (o : Option ℕ) → slot_of n ss ≡ o → option_map (λ i. suc i) o ≡ Some i → slot_of n (slice_set (Some x ∷ ss) i None) ≡ None
out_other n x ss rec i other (Some k) is at =
    subst (λ j. slot_of n (slice_set (Some x ∷ ss) j None) ≡ None) (same_Some (suc k) i at)
    (ap (λ b. cond b (Some 0) (option_map (λ i. suc i) (slot_of n (slice_set ss k None)))) other ∙ ap (option_map (λ i. suc i)) (rec k is))
out_other n x ss rec i other None is at = absurd (none-some i at)

out_member : (n : Name) (x : Member) (ss : List (Option Member)) → NamesDiffer (x ∷ present ss) → Outs n ss → (i : ℕ) (b : Bool) → same_name (name_of x) n ≡ b
    → cond b (Some 0) (option_map (λ i. suc i) (slot_of n ss)) ≡ Some i → slot_of n (slice_set (Some x ∷ ss) i None) ≡ None
out_member n x ss apart rec i true here at =
    let named = (same_name_is (name_of x) n).0 here in
    subst (λ j. slot_of n (slice_set (Some x ∷ ss) j None) ≡ None) (same_Some 0 i at)
    (ap (option_map (λ i. suc i)) (no_slot n ss (λ j d lt. not_same _ (λ same.
    apart 0 (suc j) d (omega arith) (omega arith) (named ∙ sym ((same_name_is (name_of (get_or (present ss) j d)) n).0 same))))))
out_member n x ss apart rec i false other at = out_other n x ss rec i other (slot_of n ss) refl at

slot_of-out : (n : Name) (ss : List (Option Member)) → NamesDiffer (present ss) → (i : ℕ) → slot_of n ss ≡ Some i → slot_of n (slice_set ss i None) ≡ None
slot_of-out n [] apart i at = refl
slot_of-out n (None ∷ ss) apart i at = out_after n ss (slot_of-out n ss apart) i (slot_of n ss) refl at
slot_of-out n (Some x ∷ ss) apart i at =
    out_member n x ss apart (slot_of-out n ss (λ j k d lt within. apart (suc j) (suc k) d (omega arith) (omega arith))) i (same_name (name_of x) n) refl at

-- Keys.
and_turned : (a b : Bool) → (a && b) ≡ (b && a)
and_turned true true = refl
and_turned true false = refl
and_turned false true = refl
and_turned false false = refl

keys_tie : (x y : Key) → is_at (key_cmp x) y ≡ same_name (name_at x) (name_at y)
unfolding same_name
keys_tie x y =
    sym (tied_then (slice_cmp nat_cmp x.0.items y.0.items) (slice_cmp nat_cmp x.1.items y.1.items))
    ∙ ap (λ b. b && is_eq (slice_cmp nat_cmp x.1.items y.1.items)) (is_eq-slice_cmp x.0.items y.0.items)
    ∙ ap (λ b. bytes_eq x.0.items y.0.items && b) (is_eq-slice_cmp x.1.items y.1.items)
    ∙ and_turned (bytes_eq x.0.items y.0.items) (bytes_eq x.1.items y.1.items)

-- what a map has, after a change at a key
updated : (key : Key) (old new : BTreeMap Key ℕ) (w : Option ℕ) → UpdatesBy key_cmp (key_cmp key) old new w → (q : Key) → get key_cmp new q ≡ cond (same_name (name_at key) (name_at q)) w (get key_cmp old q)
updated key old new w updates q = updates.0 q ∙ ap (λ b. cond b w (get key_cmp old q)) (keys_tie key q)

-- names that are the same have one place in a map
same_get : (old : BTreeMap Key ℕ) (x y : Key) → same_name (name_at x) (name_at y) ≡ true → get key_cmp old x ≡ get key_cmp old y
same_get old x y same =
    ap (λ (n : Name). lookup (λ (k : Key). is_eq (ordering_then (slice_cmp nat_cmp n.local k.0.items) (slice_cmp nat_cmp n.space k.1.items))) old.entries)
    ((same_name_is (name_at x) (name_at y)).0 same)

module _ (key : Key) (at : ℕ) (old : BTreeMap Key ℕ) where
  -- a name that is there keeps its place
  pub more_again : is_some (get key_cmp old key) ≡ true → PlacesMore key at old old
  more_again there q = by (same_name (name_at key) (name_at q)) refl (get key_cmp old q) refl
    where
      by : (b : Bool) → same_name (name_at key) (name_at q) ≡ b → (o : Option ℕ) → get key_cmp old q ≡ o → o ≡ option_or o (cond b (Some at) None)
      by b same (Some k) is = refl
      by false same None is = refl
      by true same None is = absurd (different_bools (sym (ap (λ o. is_some o) (sym (same_get old key q same ∙ is)) ∙ there)))

  -- a new name has this place
  pub more_put : (new : BTreeMap Key ℕ) → get key_cmp old key ≡ None → UpdatesBy key_cmp (key_cmp key) old new (Some at) → PlacesMore key at old new
  more_put new absent updates q = updated key old new (Some at) updates q ∙ by (same_name (name_at key) (name_at q)) refl (get key_cmp old q) refl
    where
      by : (b : Bool) → same_name (name_at key) (name_at q) ≡ b → (o : Option ℕ) → get key_cmp old q ≡ o → cond b (Some at) o ≡ option_or o (cond b (Some at) None)
      by false same (Some k) is = refl
      by false same None is = refl
      by true same None is = refl
      by true same (Some k) is = absurd (none-some k (sym absent ∙ same_get old key q same ∙ is))

module _ (ss : List (Option Member)) (old : BTreeMap Key ℕ) (placed : HasPlaces old ss) where
  -- one more member, and its name
  pub placed_more : (key : Key) (m : Member) (at : ℕ) (new : BTreeMap Key ℕ) → name_at key ≡ name_of m → at ≡ length ss → PlacesMore key at old new → HasPlaces new (ss ++ Some m ∷ [])
  placed_more key m at new keyed last more q =
      more q
      ∙ ap (λ n. option_or (get key_cmp old q) (cond (same_name n (name_at q)) (Some at) None)) keyed
      ∙ ap (λ k. option_or (get key_cmp old q) (cond (same_name (name_of m) (name_at q)) (Some k) None)) last
      ∙ ap (λ o. option_or o (cond (same_name (name_of m) (name_at q)) (Some (length ss)) None)) (placed q)
      ∙ sym (slot_of-push (name_at q) ss (Some m))

  -- a name keeps its slot where its value changes
  pub placed_put : (i : ℕ) (m : Member) (v : Value) → slice_get ss i ≡ Some (Some m) → HasPlaces old (slice_set ss i (Some (member (name_of m) v)))
  placed_put i m v here q =
      placed q ∙ sym (slot_of-set (name_at q) ss i (Some m) (Some (member (name_of m) v)) here (ap (λ n. same_name n (name_at q)) (name-member (name_of m) v)))

  -- the same of a property that a change made
  pub placed_given : (i : ℕ) (m p : Member) (r : Result (Option Value) Rule) → slice_get ss i ≡ Some (Some m) → ok_map (option_map (member (name_of m))) r ≡ Ok (Some p) → HasPlaces old (slice_set ss i (Some p))
  placed_given i m p (Ok (Some v)) here gave =
      subst (λ (x : Option Member). HasPlaces old (slice_set ss i x)) (same_Ok (Some (member (name_of m) v)) (Some p) gave) (placed_put i m v here)
  placed_given i m p (Ok None) here gave = absurd (none-some p (same_Ok None (Some p) gave))
  placed_given i m p (Err e) here gave = absurd (err_ok e (Some p) gave)

  -- a name has no slot where its member is taken out
  pub placed_out : (key : Key) (i : ℕ) (m : Member) (new : BTreeMap Key ℕ) → slot_of (name_at key) ss ≡ Some i → slice_get ss i ≡ Some (Some m) → same_name (name_of m) (name_at key) ≡ true →
      NamesDiffer (present ss) → UpdatesBy key_cmp (key_cmp key) old new None → HasPlaces new (slice_set ss i None)
  placed_out key i m new at here named apart updates q =
      updated key old new None updates q ∙ by (same_name (name_at key) (name_at q)) refl
    where
      by : (b : Bool) → same_name (name_at key) (name_at q) ≡ b → cond b None (get key_cmp old q) ≡ slot_of (name_at q) (slice_set ss i None)
      by true same =
          let one = (same_name_is (name_at key) (name_at q)).0 same in
          sym (ap (λ n. slot_of n (slice_set ss i None)) (sym one) ∙ slot_of-out (name_at key) ss apart i at)
      by false other =
          let own = (same_name_is (name_of m) (name_at key)).0 named in
          placed q ∙ sym (slot_of-set (name_at q) ss i (Some m) None here (sym (ap (λ n. same_name n (name_at q)) own ∙ other)))

-- a new map has no key
pub placed_none : (m : BTreeMap Key ℕ) → m.entries ≡ [] → HasPlaces m []
placed_none m none key = ap (lookup (is_at (key_cmp key))) none

no_key : (o : Option ℕ) → is_some o ≡ false → o ≡ None
no_key None e = refl
no_key (Some k) e = absurd (different_bools e)

pub absent_key : (o : Option ℕ) (there : Bool) → there ≡ is_some o → there ≡ false → o ≡ None
absent_key o there e f = no_key o (sym e ∙ f)

-- where a name has no slot, an edit makes one, or is refused
module _ (n : Name) (ss : List (Option Member)) (none : slot_of n ss ≡ None) (change : Change) (makes : Bool) where
  there : (steps : List Step) (b : Bool) → (makes && is_end steps) ≡ b →
      in_members (at_place steps change makes) (makes && is_end steps) false n (present ss)
      ≡ cond b (ok_map (with_member false n (present ss)) (at_place steps change makes None)) (Err NoSuchPlace)
  there steps b is =
      ap (member_changed (at_place steps change makes) (makes && is_end steps) false n (present ss)) (missing_present n ss none)
      ∙ ap (λ b. cond b (ok_map (with_member false n (present ss)) (at_place steps change makes None)) (Err NoSuchPlace)) is

  pub made_there : (steps : List Step) → (makes && is_end steps) ≡ true →
      in_members (at_place steps change makes) (makes && is_end steps) false n (present ss) ≡ ok_map (with_member false n (present ss)) (change None)
  made_there [] is = there [] true is
  made_there (s ∷ more) is = absurd (different_bools (sym is ∙ and-false makes))

  pub refused_there : (steps : List Step) → (makes && is_end steps) ≡ false →
      in_members (at_place steps change makes) (makes && is_end steps) false n (present ss) ≡ Err NoSuchPlace
  refused_there steps is = there steps false is
