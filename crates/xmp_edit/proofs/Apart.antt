-- A change in a list of members whose names differ leaves them so.
use Rattle.std.proofs.Common.{◌≡◌, ◌<◌, ◌∙◌, ℕ, length, get_or, set, Bool, false, List, [], ◌∷◌, ◌++◌, Some, sym, ap, subst, ⊎_elim}
use Rattle.std.specs.Prelude.{Any, slice_get, Ok, Result}
use Rattle.std.proofs.lemmas.Bool.{cases_eq}
use Rattle.std.proofs.lemmas.List.{get_or_default, get_or-set_same, get_or-set_other, length-set}
use Rattle.std.proofs.lemmas.List.Quantifiers.{all_pairs_push, all_pairs_remove}
use Rattle.std.proofs.lemmas.Option.{get_or_from_slice_get}
use Rattle.xmp_values.specs.declared.text.Name.{Name}
use Rattle.xmp_values.specs.declared.rules.Rule.{Rule}
use Rattle.xmp_tree.specs.declared.nested.Member.{Member}
use Rattle.xmp_tree.specs.Parts.{member}
use Rattle.xmp_tree.specs.Wf.{name_of, NamesDiffer}
use Rattle.xmp_tree.proofs.Made.{name-member}
use Rattle.xmp_edit.specs.Edits.{Change, in_members}
use Rattle.xmp_edit.specs.Allowed.{IfGiven}
use Rattle.xmp_edit.proofs.Members.{kept_members, nothing_kept}

-- the names of a list in which a member gets another value
names-set : (ms : List Member) (i : ℕ) (m x : Member) → i < length ms → slice_get ms i ≡ Some m → name_of x ≡ name_of m → (k : ℕ) (d : Member) → name_of (get_or (set ms i x) k d) ≡ name_of (get_or ms k d)
names-set ms i m x lt is same k d = ⊎_elim
    (λ at. ap (λ j. name_of (get_or (set ms i x) j d)) at ∙ ap name_of (get_or-set_same ms i x d lt) ∙ same ∙
    sym (ap name_of (get_or_from_slice_get ms i m d is)) ∙ ap (λ j. name_of (get_or ms j d)) (sym at))
    (λ other. ap name_of (get_or-set_other ms i k x d other))
    (cases_eq k i)

apart_put : (ms : List Member) (i : ℕ) (m x : Member) → NamesDiffer ms → i < length ms → slice_get ms i ≡ Some m → name_of x ≡ name_of m → NamesDiffer (set ms i x)
apart_put ms i m x apart lt is same j k d before within equal =
    apart j k d before (subst (λ n. k < n) (length-set ms i x) within) (sym (names-set ms i m x lt is same j d) ∙ equal ∙ names-set ms i m x lt is same k d)

apart_joined : (ms : List Member) (m : Member) → NamesDiffer ms → (Any (λ k. name_of k ≡ name_of m) ms → ⊥) → NamesDiffer (ms ++ m ∷ [])
apart_joined ms m apart new =
    all_pairs_push (λ m n. name_of m ≡ name_of n → ⊥) ms m apart (λ k d within same. new (k, get_or ms k d, within, get_or_default ms k _ d within, same))

pub apart_kept : (change : Change) (makes : Bool) (n : Name) (ms after : List Member) → NamesDiffer ms → in_members change makes false n ms ≡ Ok after → NamesDiffer after
apart_kept change makes n ms after apart gives =
    subst (λ (r : Result (List Member) Rule). IfGiven NamesDiffer r) gives
    (kept_members NamesDiffer (λ v. Unit {0}) false n ms apart
    (λ i m lt is same. tt)
    (λ i m lt is same v h. apart_put ms i m (member (name_of m) v) apart lt is (name-member (name_of m) v))
    (λ i lt. all_pairs_remove (λ m n. name_of m ≡ name_of n → ⊥) ms i lt apart)
    (λ new v h. apart_joined ms (member n v) apart (subst (λ x. Any (λ k. name_of k ≡ x) ms → ⊥) (sym (name-member n v)) new))
    change (λ o h. nothing_kept (change o)) makes)
