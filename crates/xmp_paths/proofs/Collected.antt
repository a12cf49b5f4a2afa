-- Steps that are collected one by one, each of them there or not.
use Rattle.std.proofs.Common.{◌≡◌, ◌++◌, List, [], ◌∷◌, Option, Some, None, refl, ap, append_assoc}
use Rattle.xmp_paths.specs.Grammar.{consed}

-- those that are collected, and more after them, if there are
abbrev pub after : {X : Type 0} → List X → Option (List X) → Option (List X)
after xs (Some more) = Some (xs ++ more)
after xs None = None

-- one more is collected
pub after_more : {X : Type 0} (xs : List X) (x : X) (more : Option (List X)) → after (xs ++ x ∷ []) more ≡ after xs (consed (Some x) more)
after_more xs x (Some more) = ap Some (append_assoc xs (x ∷ []) more)
after_more xs x None = refl
