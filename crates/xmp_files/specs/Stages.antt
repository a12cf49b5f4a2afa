-- The one order of refusals is a chain of steps, each of which gives a value or the first fault.
use Rattle.std.specs.Prelude.{◌≡◌, Ok, Err}
use Rattle.std.specs.declared.result.Result.{Result}
use Rattle.xmp_values.specs.declared.faults.Fault.{Fault}

-- a step, and after it the next one
abbrev pub followed : {A B : Type 0} → Result A Fault → (A → Result B Fault) → Result B Fault
followed (Ok x) next = next x
followed (Err fault) next = Err fault

-- the same, where the next step is given by a relation
abbrev pub Followed : {A B : Type 0} → Result A Fault → (A → Result B Fault → Type 0) → Result B Fault → Type 0
Followed (Ok x) Next step = Next x step
Followed (Err fault) Next step = step ≡ Err fault
