-- A change in a list of items keeps what each item keeps.
use Rattle.std.proofs.Common.{◌≡◌, ℕ, suc, length, Bool, true, false, List, Option, Some, None, take, drop, refl, subst}
use Rattle.std.specs.Prelude.{All, slice_get, Result, Ok, Err, if◌then◌else◌, ◌&&◌, ◌==◌, nat_lt}
use Rattle.std.proofs.lemmas.List.Elements.{All-push, All-set, All-append, All-take, All-drop, All-get_or}
use Rattle.std.proofs.lemmas.Option.{get_or_from_slice_get, slice_get_within}
use Rattle.xmp_values.specs.declared.rules.Rule.{Rule}
use Rattle.xmp_values.specs.declared.rules.Rule.TheVariants.{OutOfArray}
use Rattle.xmp_tree.specs.declared.nested.Value.{Value}
use Rattle.xmp_tree.specs.Places.{tag_place}
use Rattle.xmp_tree.specs.Items.{item_put}
use Rattle.xmp_edit.specs.Edits.{Change, ok_map, with_item, item_at, in_items, tag_changed, in_tagged}
use Rattle.xmp_edit.specs.Allowed.{IfSome', IfGiven, Keeps}

module _ (P : Value → Type 0) (change : Change) (keeps : Keeps P change) (vs : List Value) (each : All P vs) where
  put : (i : ℕ) (r : Result (Option Value) Rule) → IfGiven (IfSome' P) r → IfGiven (All P) (ok_map (item_put vs i) r)
  put i (Ok (Some v)) h = All-set P vs i v h each
  put i (Ok None) h = All-append P (take i vs) (drop (suc i) vs) (All-take P i vs each) (All-drop P (suc i) vs each)
  put i (Err r) h = tt

  made : (r : Result (Option Value) Rule) → IfGiven (IfSome' P) r → IfGiven (All P) (ok_map (with_item vs) r)
  made (Ok (Some v)) h = All-push P vs v each h
  made (Ok None) h = each
  made (Err r) h = tt

  pub kept_item : (i : ℕ) (o : Option Value) → slice_get vs i ≡ o → IfGiven (All P) (item_at change vs i o)
  kept_item i (Some v) is =
      put i (change (Some v)) (keeps (Some v) (subst P (get_or_from_slice_get vs i v v is) (All-get_or P vs i v (slice_get_within vs i v is) each)))
  kept_item i None is = tt

  either : (b : Bool) (x y : Result (List Value) Rule) → IfGiven (All P) x → IfGiven (All P) y → IfGiven (All P) (if b then x else y)
  either true x y hx hy = hx
  either false x y hx hy = hy

  pub kept_items : (makes : Bool) (i : ℕ) → IfGiven (All P) (in_items change makes i vs)
  kept_items makes i =
      either (nat_lt i (length vs)) (item_at change vs i (slice_get vs i)) (if makes && (i == length vs) then ok_map (with_item vs) (change None) else Err OutOfArray)
      (kept_item i (slice_get vs i) refl)
      (either (makes && (i == length vs)) (ok_map (with_item vs) (change None)) (Err OutOfArray) (made (change None) (keeps None tt)) tt)

  tagged : (o : Option ℕ) → IfGiven (All P) (tag_changed change vs o)
  tagged (Some i) = kept_item i (slice_get vs i) refl
  tagged None = tt

  pub kept_tagged : (tag : List ℕ) → IfGiven (All P) (in_tagged change tag vs)
  kept_tagged tag = tagged (tag_place tag vs)
