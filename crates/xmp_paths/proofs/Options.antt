-- What holds of the value of an option, if there is one.
use Rattle.std.proofs.Common.{◌≡◌, Bool, true, false, List, ◌∷◌, Option, Some, None, cond, subst}
use Rattle.std.specs.Prelude.{IfSome, option_map, option_and_then}
use Rattle.xmp_paths.specs.Grammar.{consed}

module _ {X : Type 0} (P : X → Type 0) where
  pub some_if : (b : Bool) (x y : Option X) → IfSome x P → IfSome y P → IfSome (cond b x y) P
  some_if true x y h t = h
  some_if false x y h t = t

  pub some_and_then : {Y : Type 0} (f : Y → Option X) → ((y : Y) → IfSome (f y) P) → (o : Option Y) → IfSome (option_and_then f o) P
  some_and_then f each (Some y) = each y
  some_and_then f each None = tt

  pub some_at : (o : Option X) (x : X) → IfSome o P → o ≡ Some x → P x
  some_at o x h e = subst (λ p. IfSome p P) e h

pub some_map : {X Y : Type 0} (P : X → Type 0) (Q : Y → Type 0) (f : X → Y) → ((x : X) → P x → Q (f x)) → (o : Option X) → IfSome o P → IfSome (option_map f o) Q
some_map P Q f over (Some x) h = over x h
some_map P Q f over None h = tt

pub some_consed : {X : Type 0} (P : X → Type 0) (Q : List X → Type 0) → ((x : X) (xs : List X) → P x → Q xs → Q (x ∷ xs)) → (o : Option X) (os : Option (List X)) →
    IfSome o P → IfSome os Q → IfSome (consed o os) Q
some_consed P Q over (Some x) (Some xs) h t = over x xs h t
some_consed P Q over (Some x) None h t = tt
some_consed P Q over None os h t = tt
