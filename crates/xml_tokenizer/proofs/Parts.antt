-- The part of a clause by cases that an arm knows.
use Rattle.std.proofs.Common.{◌≡◌, Option, Some, None}
use Rattle.std.specs.Option.{MatchOption, IfNone}

pub none_part : {A : Type 0} (r : Option A) (P : Type 0) (Q : A → Type 0) → MatchOption r P Q → r ≡ None → P
none_part None P Q h e = h
none_part (Some x) P Q h e = absurd cc

pub none_here : {A : Type 0} (r : Option A) (P : Type 0) → IfNone r P → r ≡ None → P
none_here None P h e = h
none_here (Some x) P h e = absurd cc
