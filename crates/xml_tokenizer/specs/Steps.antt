-- Reading from left to right: a step gives what it read and the characters that are left, or nothing.
use Rattle.std.specs.Prelude.{◌≡◌, Option, None, Some, Result, Ok, Err, MatchOption}
use Rattle.xml_tokenizer.specs.declared.stops.Miss.{Miss}
use Rattle.xml_tokenizer.specs.declared.stops.Miss.TheVariants as misses

infixl 10 ◌>>=◌
abbrev pub ◌>>=◌ : {A B : Type 0} → Option A → (A → Option B) → Option B
(Some x) >>= f = f x
None >>= f = None

-- What a function returned, seen by view, is what reading gives.
abbrev pub Reads : {X Y : Type 0} → (X → Y) → Option X → Option Y → Type 0
Reads view result read = MatchOption result (read ≡ None) (λ x. read ≡ Some (view x))

-- The same of a function that wants memory, unless it ran out.
abbrev pub Misses : {Y : Type 0} → Miss → Option Y → Type 0
Misses misses.Memory read = Unit {0}
Misses misses.Nothing read = read ≡ None

abbrev pub Gives : {X Y : Type 0} → (X → Y) → Result X Miss → Option Y → Type 0
Gives view (Ok x) read = read ≡ Some (view x)
Gives view (Err miss) read = Misses miss read
