-- What a step of the code gives, beside the step of the order. Memory may always be wanted.
use Rattle.std.specs.Prelude.{◌≡◌, ℕ, List, Ok, Err}
use Rattle.std.specs.declared.result.Result.{Result}
use Rattle.xmp_values.specs.declared.faults.Fault.{Fault}
use Rattle.xmp_values.specs.declared.stops.FaultStop.{FaultStop}
use Rattle.xmp_values.specs.Stops.{fault_of, Answers}
use Rattle.xmp_rdf.specs.declared.meanings.Meaning.{Meaning}
use Rattle.xmp_files.specs.declared.opening.Opened.{Opened}
use Rattle.xmp_files.specs.Keeping.{Kept}
use Rattle.xmp_files.specs.Opening.{IsOpened}
use Rattle.xmp_cli.specs.Commands.{Command, Get, Tree as TreeOf}
use Rattle.xmp_cli.specs.Order.{get_text, shown_tree}
use Rattle.xmp_cli.specs.Answer.{seen}
use Rattle.xmp_cli.specs.declared.views.View.{View}
use Rattle.xmp_cli.specs.declared.views.View.TheVariants.{Value, Tree}

-- what a view shows of a meaning
abbrev pub view_of : View → Meaning → Result (List ℕ) Fault
view_of (Value path) meaning = get_text path.now meaning
view_of Tree meaning = shown_tree meaning

-- the command that shows a view of a file
abbrev pub shows : List ℕ → View → Command
shows file (Value path) = Get file path.now
shows file Tree = TreeOf file

-- a step of what is kept of a file gives this
abbrev pub Shows : (Meaning → Result (List ℕ) Fault) → Kept → Result (List ℕ) Fault → Type 0
Shows view kept given = (step : Result Opened Fault) × IsOpened kept step × (seen view step ≡ given)

-- the answer is that of a step; want of memory is free
abbrev pub IsViewed : (Meaning → Result (List ℕ) Fault) → Result (List ℕ) FaultStop → Kept → Type 0
IsViewed view result kept = Answers fault_of result (λ text. Shows view kept (Ok text)) (λ fault. Shows view kept (Err fault))
