-- A change at the place of a member or an item, made by moving its value out and what is given in.
use Rattle.std.proofs.Common.{◌≡◌, ◌∙◌, ℕ, List, [], Option, Some, None, ap, sym, refl}
use Rattle.std.specs.Prelude.{slice_get, slice_set, option_map, IfSome, Ok}
use Rattle.std.proofs.lemmas.Option.{none-some}
use Rattle.xmp_tree.specs.declared.nested.Value.{Value}
use Rattle.xmp_tree.specs.declared.nested.Member.{Member}
use Rattle.xmp_tree.specs.Parts.{member, simple}
use Rattle.xmp_tree.specs.Wf.{name_of, value_of}
use Rattle.xmp_tree.specs.Items.{member_put, item_put}
use Rattle.xmp_tree.proofs.Items.{refilled, refilled_item}
use Rattle.xmp_edit.specs.Edits.{Change, ok_map, member_at, item_at}

pub member_refilled : (change : Change) (ms new : List Member) (i : ℕ) (old : Value) (g : Option Value) (r : List Member) → Some old ≡ option_map value_of (slice_get ms i) →
    IfSome (slice_get ms i) (λ m. new ≡ slice_set ms i (member (name_of m) (simple []))) → change (Some old) ≡ Ok g →
    IfSome (slice_get new i) (λ k. r ≡ member_put new i k g) → member_at change ms i (slice_get ms i) ≡ Ok r
member_refilled change ms new i old g r = by (slice_get ms i) refl
  where
    by : (o : Option Member) → slice_get ms i ≡ o → Some old ≡ option_map value_of o → IfSome o (λ m. new ≡ slice_set ms i (member (name_of m) (simple []))) → change (Some old) ≡ Ok g →
        IfSome (slice_get new i) (λ k. r ≡ member_put new i k g) → member_at change ms i o ≡ Ok r
    by None is out moved gave put = absurd (none-some old (sym out))
    by (Some m) is out moved gave put =
        ap (λ o. ok_map (member_put ms i m) (change o)) (sym out) ∙ ap (ok_map (member_put ms i m)) gave ∙ ap Ok (sym (refilled ms new i m g r is moved put))

pub item_refilled : (change : Change) (vs new : List Value) (i : ℕ) (old : Value) (g : Option Value) (r : List Value) → Some old ≡ slice_get vs i →
    IfSome (slice_get vs i) (λ v. new ≡ slice_set vs i (simple [])) → change (Some old) ≡ Ok g →
    IfSome (slice_get new i) (λ k. r ≡ item_put new i g) → item_at change vs i (slice_get vs i) ≡ Ok r
item_refilled change vs new i old g r = by (slice_get vs i) refl
  where
    by : (o : Option Value) → slice_get vs i ≡ o → Some old ≡ o → IfSome o (λ v. new ≡ slice_set vs i (simple [])) → change (Some old) ≡ Ok g →
        IfSome (slice_get new i) (λ k. r ≡ item_put new i g) → item_at change vs i o ≡ Ok r
    by None is out moved gave put = absurd (none-some old (sym out))
    by (Some v) is out moved gave put =
        ap (λ o. ok_map (item_put vs i) (change o)) (sym out) ∙ ap (ok_map (item_put vs i)) gave ∙ ap Ok (sym (refilled_item vs new i v g r is moved put))
