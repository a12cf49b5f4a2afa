-- The text that portions join to.
use Rattle.std.specs.Prelude.{◌≡◌, ℕ, ◌<◌, ◌≤◌, List, [], length, map, flat_map, IsTrue, IsPermutation, Some, None, Ok, Err}
use Rattle.std.specs.declared.option.Option.{Option}
use Rattle.std.specs.declared.result.Result.{Result}
use Rattle.jpeg_extended.specs.declared.tiling.ExtStop.{ExtStop}
use Rattle.jpeg_extended.specs.Tiling.{Tiles, IsExtFault, all_say, limit}
use Rattle.jpeg_extended.specs.Portions.{Portion, extent}

-- The portions' bytes one after another, in an order in which they tile the text, whose length each of them says.
pub record Joined (ps : List Portion) (text : List ℕ) : Type 0 where
  pub some : 0 < length ps
  pub within : length text ≤ limit
  pub same : IsTrue (all_say (length text) (map extent ps))
  pub ordered : List Portion
  pub shuffled : IsPermutation ps ordered
  pub tiles : Tiles 0 (length text) (map extent ordered)
  pub text_is : text ≡ flat_map (λ p. p.bytes) ordered

-- the joined text, None without a portion, or the first fault
abbrev pub JoinAnswer : List Portion → Result (Option (List ℕ)) ExtStop → Type 0
JoinAnswer ps (Ok None) = ps ≡ []
JoinAnswer ps (Ok (Some text)) = Joined ps text
JoinAnswer ps (Err stop) = IsExtFault (map extent ps) stop

-- what a joiner holds: the name, and the portions of it that it was given
pub record Joining : Type 0 where
  pub name : List ℕ
  pub portions : List Portion
