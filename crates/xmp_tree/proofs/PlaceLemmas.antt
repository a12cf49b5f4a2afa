-- What is at the place of a name, and that a name with no place is new.
use Rattle.std.proofs.Common.{◌≡◌, ◌<◌, ℕ, length, Bool, true, false, cond, List, Some, None, sym, subst, arith, refl}
use Rattle.std.proofs.lemmas.Option.{none-some}
use Rattle.std.specs.Prelude.{Any, slice_get}
use Rattle.std.specs.List.{position_or_len}
use Rattle.std.proofs.lemmas.Bool.{ltb-false}
use Rattle.std.proofs.lemmas.List.Quantifiers.{position-Some}
use Rattle.std.proofs.lemmas.List.Sums.{fails_before_first}
use Rattle.std.proofs.lemmas.Option.{get_or_from_slice_get}
use Rattle.xmp_values.specs.declared.text.Name.{Name}
pub use Rattle.xmp_values.proofs.SameNames.{same_name_is}
use Rattle.xmp_tree.specs.declared.nested.Member.{Member}
use Rattle.xmp_tree.specs.Wf.{name_of}
use Rattle.xmp_tree.specs.Places.{same_name, place_of}

-- what stands at the place of a name has it
pub found : (name : Name) (ms : List Member) (i : ℕ) (m : Member) → place_of name ms ≡ Some i → slice_get ms i ≡ Some m → (i < length ms) × (name_of m ≡ name)
found name ms i m at is =
    let p = position-Some (λ x. same_name (name_of x) name) ms i m at in
    (p.0, (same_name_is (name_of m) name).0 (subst (λ x. same_name (name_of x) name ≡ true) (get_or_from_slice_get ms i m m is) p.1))

-- where there is no place, no place is before the end
past : (i n : ℕ) (b : Bool) → cond b (Some i) None ≡ None → b ≡ false
past i n true e = absurd (none-some i (sym e))
past i n false e = refl

pub different : (b : Bool) → b ≡ true → b ≡ false → ⊥
different b holds fails = grind arith

pub new_name : (name : Name) (ms : List Member) → place_of name ms ≡ None → Any (λ m. name_of m ≡ name) ms → ⊥
new_name name ms none any =
    let p = λ (x : Member). same_name (name_of x) name in
    let late = ltb-false (position_or_len p ms) (length ms) (past (position_or_len p ms) (length ms) _ none) in
    let before : any.0 < position_or_len p ms = omega (arith, late, any.2) in
    different (p any.1) ((same_name_is (name_of any.1) name).1 any.4) (subst (λ x. p x ≡ false) any.3 (fails_before_first p ms any.0 any.1 before))
