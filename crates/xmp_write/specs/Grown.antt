-- The prefixes of a text as it grows. None of this need be believed: private calls alone say it.
use Rattle.std.specs.Prelude.{◌≡◌, List, [], ℕ, fold}
use Rattle.xmp_values.specs.declared.hints.Hint.{Hint}
use Rattle.xmp_write.specs.declared.prefixes.Growing.{Growing}
use Rattle.xmp_write.specs.Prefixes.{with_prefix}
use Rattle.xmp_write.specs.Giving.{IsGiven}

-- the prefixes of these namespaces, with what is kept to give more of them
pub record IsGrown (hints : List Hint) (spaces : List (List ℕ)) (g : Growing) : Type 0 where
  pub list : g.prefixes ≡ fold (with_prefix hints) [] spaces
  pub kept : IsGiven hints (record { list = g.prefixes; taken = g.taken; next = g.next })
