-- What a command may do, by its words alone.
use Rattle.std.specs.Prelude.{◌≡◌, ◌⊎◌, ℕ, List, IsOk, Option, None, Some}
use Rattle.std.specs.FinMap.{get}
use Rattle.xmp_base.specs.Device.{Files}
use Rattle.xmp_files.specs.Loading.{kind_of_file}
use Rattle.xmp_cli.specs.Commands.{Command, Get, Tree, Set, Apply, Patch, Reconcile, Check, Demo, Sync}

-- FILE
abbrev pub file_of : Command → Option (List ℕ)
file_of (Get file path) = Some file
file_of (Tree file) = Some file
file_of (Set file out path value) = Some file
file_of (Apply file out script) = Some file
file_of (Patch file script) = Some file
file_of (Reconcile file out) = Some file
file_of (Check file) = Some file
file_of (Demo number) = None
file_of (Sync file out) = Some file

-- SCRIPT
abbrev pub script_of : Command → Option (List ℕ)
script_of (Apply file out script) = Some script
script_of (Patch file script) = Some script
script_of other = None

-- the file that is written: OUT, and FILE of `patch`
abbrev pub written_of : Command → Option (List ℕ)
written_of (Set file out path value) = Some out
written_of (Apply file out script) = Some out
written_of (Patch file script) = Some file
written_of (Reconcile file out) = Some out
written_of (Sync file out) = Some out
written_of other = None

-- the names that may be read
abbrev pub MayRead : Option Command → List ℕ → Type 0
MayRead None name = ⊥
MayRead (Some command) name = (file_of command ≡ Some name) ⊎ (script_of command ≡ Some name)

-- the names that may be written
abbrev pub MayWrite : Option Command → List ℕ → Type 0
MayWrite None name = ⊥
MayWrite (Some command) name = written_of command ≡ Some name

-- the commands that are built, which alone may want memory
abbrev pub IsBuilt : Command → Type 0
IsBuilt (Get file path) = Unit {0}
IsBuilt (Tree file) = Unit {0}
IsBuilt (Set file out path value) = Unit {0}
IsBuilt (Apply file out script) = Unit {0}
IsBuilt (Patch file script) = Unit {0}
IsBuilt other = ⊥

-- FILE passes the steps before memory is wanted: it is there, within the limit of a file, and of a kind.
abbrev pub PassesFirst : Option (List ℕ) → Files → Type 0
PassesFirst None files = Unit {0}
PassesFirst (Some file) files = IsOk (kind_of_file (get files file))

-- where a command may want memory
abbrev pub MayWant : Option Command → Files → Type 0
MayWant None files = ⊥
MayWant (Some command) files = IsBuilt command × PassesFirst (file_of command) files
