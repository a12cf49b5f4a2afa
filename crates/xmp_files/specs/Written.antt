-- The law of a file that is written: it is read as the new tree, and keeps what its plan says.
use Rattle.std.specs.Prelude.{◌≡◌, ◌≢◌, ℕ, Bool, List, length, Some, Ok}
use Rattle.xmp_files.specs.declared.held.Need.{Need}
use Rattle.xmp_files.specs.Keeping.{Kept}
use Rattle.xmp_files.specs.Loading.{IsLoaded}
use Rattle.xmp_files.specs.Opening.{HoldsTree}
use Rattle.xmp_files.specs.Planning.{Edited, Plan, Frame, planned_file}
use Rattle.xmp_files.specs.Plans.{IsPlanned, planned_len, MayPlan, Apart, NoStray}

-- A file that holds the old tree, and an edit to a tree that may be written: whatever the plan, the new file holds the new tree, where the
-- conditions on the old file hold that are named there; it is the old file, or has its length and its bytes but for the packet, or is
-- relocated, and it has the length that is told.
abbrev pub FileIsWritten : Type 0
FileIsWritten =
    (need : Need) (old : List ℕ) (kept : Kept) (joined patch : Bool) (e : Edited) (plan : Plan) → IsLoaded need (Some old) (Ok kept) → IsPlanned kept joined patch e (Ok plan)
    → HoldsTree (Some old) e.old → (e.new ≢ e.old → MayPlan e.new e.hints)
    → (Apart kept.container plan → NoStray old kept.container kept.portions e plan → HoldsTree (Some (planned_file old plan)) e.new)
    × Frame kept plan old (planned_file old plan) × (length (planned_file old plan) ≡ planned_len (length old) plan)
