-- A change in a list of members keeps what the list keeps, fields and qualifiers alike.
use Rattle.std.proofs.Common.{◌≡◌, ◌<◌, ℕ, length, Bool, true, false, List, Option, Some, None, refl}
use Rattle.std.specs.Prelude.{Any, slice_get, slice_set, remove, Result, Ok, Err, if◌then◌else◌}
use Rattle.xmp_values.specs.declared.text.Name.{Name}
use Rattle.xmp_values.specs.declared.rules.Rule.{Rule}
use Rattle.xmp_values.specs.declared.rules.Rule.TheVariants.{NoSuchPlace}
use Rattle.xmp_tree.specs.declared.nested.Value.{Value}
use Rattle.xmp_tree.specs.declared.nested.Member.{Member}
use Rattle.xmp_tree.specs.Parts.{member}
use Rattle.xmp_tree.specs.Items.{member_put, joined}
use Rattle.xmp_tree.specs.Wf.{name_of, value_of}
use Rattle.xmp_tree.specs.Places.{place_of}
use Rattle.xmp_edit.specs.Edits.{Change, ok_map, member_at, with_member, member_changed, in_members}
use Rattle.xmp_edit.specs.Allowed.{IfSome', IfGiven, Keeps}
use Rattle.xmp_tree.proofs.PlaceLemmas.{found, new_name}

module _ (F : List Member → Type 0) (P : Value → Type 0) (front : Bool) (name : Name) (ms : List Member) (formed : F ms)
    (out : (i : ℕ) (m : Member) → i < length ms → slice_get ms i ≡ Some m → name_of m ≡ name → P (value_of m))
    (put_in : (i : ℕ) (m : Member) → i < length ms → slice_get ms i ≡ Some m → name_of m ≡ name → (v : Value) → P v → F (slice_set ms i (member (name_of m) v)))
    (less : (i : ℕ) → i < length ms → F (remove ms i))
    (more : (Any (λ m. name_of m ≡ name) ms → ⊥) → (v : Value) → P v → F (joined front ms (member name v)))
    (change : Change) (keeps : Keeps P change) where
  put : (i : ℕ) (m : Member) → i < length ms → slice_get ms i ≡ Some m → name_of m ≡ name → (r : Result (Option Value) Rule) → IfGiven (IfSome' P) r → IfGiven F (ok_map (member_put ms i m) r)
  put i m lt is same (Ok (Some v)) h = put_in i m lt is same v h
  put i m lt is same (Ok None) h = less i lt
  put i m lt is same (Err r) h = tt

  at : (i : ℕ) → place_of name ms ≡ Some i → (o : Option Member) → slice_get ms i ≡ o → IfGiven F (member_at change ms i o)
  at i here (Some m) is =
      let f = found name ms i m here is in
      put i m f.0 is f.1 (change (Some (value_of m))) (keeps (Some (value_of m)) (out i m f.0 is f.1))
  at i here None is = tt

  made : place_of name ms ≡ None → (r : Result (Option Value) Rule) → IfGiven (IfSome' P) r → IfGiven F (ok_map (with_member front name ms) r)
  made none (Ok (Some v)) h = more (new_name name ms none) v h
  made none (Ok None) h = formed
  made none (Err r) h = tt

  missing : place_of name ms ≡ None → (b : Bool) → IfGiven F (if b then ok_map (with_member front name ms) (change None) else Err NoSuchPlace)
  missing none true = made none (change None) (keeps None tt)
  missing none false = tt

  by : (makes : Bool) (o : Option ℕ) → place_of name ms ≡ o → IfGiven F (member_changed change makes front name ms o)
  by makes (Some i) here = at i here (slice_get ms i) refl
  by makes None none = missing none makes

  pub kept_members : (makes : Bool) → IfGiven F (in_members change makes front name ms)
  kept_members makes = by makes (place_of name ms) refl

-- any change keeps what asks nothing
pub nothing_kept : (r : Result (Option Value) Rule) → IfGiven (IfSome' (λ v. Unit {0})) r
nothing_kept (Ok (Some v)) = tt
nothing_kept (Ok None) = tt
nothing_kept (Err e) = tt
