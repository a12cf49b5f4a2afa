-- What is put at the place of a value that was moved out stands as if put there at once.
use Rattle.std.proofs.Common.{◌≡◌, ◌∙◌, ◌++◌, ℕ, List, [], set, take, drop, Option, Some, None, ap, subst, arith}
use Rattle.std.specs.Prelude.{slice_get, slice_set, remove, IfSome}
use Prim.Native.Nat.{suc}
use Rattle.std.proofs.lemmas.List.{get_or-set_same, length-set, set-set, take-set, drop-set-lt}
use Rattle.std.proofs.lemmas.Option.{slice_get_within, slice_get-get_or}
use Rattle.xmp_tree.specs.declared.nested.Value.{Value}
use Rattle.xmp_tree.specs.declared.nested.Member.{Member}
use Rattle.xmp_tree.specs.Parts.{member, simple}
use Rattle.xmp_tree.specs.Wf.{name_of}
use Rattle.xmp_tree.specs.Items.{member_put, item_put}
use Rattle.xmp_tree.proofs.Made.{name-member}

remove-set : {X : Type 0} (xs : List X) (i : ℕ) (x : X) → remove (set xs i x) i ≡ remove xs i
remove-set xs i x = ap (λ ys. ys ++ drop (suc i) (set xs i x)) (take-set xs i x) ∙ ap (λ ys. take i xs ++ ys) (drop-set-lt (suc i) xs i x (omega arith))

slice_get-set : {X : Type 0} (xs : List X) (i : ℕ) (x y : X) → slice_get xs i ≡ Some y → slice_get (set xs i x) i ≡ Some x
slice_get-set xs i x y h =
    let lt = slice_get_within xs i y h in
    let long = length-set xs i x in
    slice_get-get_or (set xs i x) i x (omega arith) ∙ ap Some (get_or-set_same xs i x x lt)

put_again : (ms : List Member) (i : ℕ) (m : Member) (v : Value) (g : Option Value) →
    member_put (slice_set ms i (member (name_of m) v)) i (member (name_of m) v) g ≡ member_put ms i m g
put_again ms i m v None = remove-set ms i (member (name_of m) v)
put_again ms i m v (Some w) = set-set ms i (member (name_of m) v) (member (name_of (member (name_of m) v)) w) ∙ ap (λ n. set ms i (member n w)) (name-member (name_of m) v)

put_item_again : (vs : List Value) (i : ℕ) (v : Value) (g : Option Value) → item_put (slice_set vs i v) i g ≡ item_put vs i g
put_item_again vs i v None = remove-set vs i v
put_item_again vs i v (Some w) = set-set vs i v w

-- a value moved out of a member, and what is given moved in
pub refilled : (ms new : List Member) (i : ℕ) (m : Member) (g : Option Value) (r : List Member) → slice_get ms i ≡ Some m → new ≡ slice_set ms i (member (name_of m) (simple [])) →
    IfSome (slice_get new i) (λ k. r ≡ member_put new i k g) → r ≡ member_put ms i m g
refilled ms new i m g r is moved put =
    let x = member (name_of m) (simple []) in
    let here : slice_get new i ≡ Some x = ap (λ (l : List Member). slice_get l i) moved ∙ slice_get-set ms i x m is in
    let there : r ≡ member_put new i x g = subst (λ o. IfSome o (λ k. r ≡ member_put new i k g)) here put in
    there ∙ ap (λ l. member_put l i x g) moved ∙ put_again ms i m (simple []) g

-- the same of an item
pub refilled_item : (vs new : List Value) (i : ℕ) (v : Value) (g : Option Value) (r : List Value) → slice_get vs i ≡ Some v → new ≡ slice_set vs i (simple []) →
    IfSome (slice_get new i) (λ k. r ≡ item_put new i g) → r ≡ item_put vs i g
refilled_item vs new i v g r is moved put =
    let here : slice_get new i ≡ Some (simple []) = ap (λ (l : List Value). slice_get l i) moved ∙ slice_get-set vs i (simple []) v is in
    let there : r ≡ item_put new i g = subst (λ o. IfSome o (λ k. r ≡ item_put new i g)) here put in
    there ∙ ap (λ l. item_put l i g) moved ∙ put_item_again vs i (simple []) g
