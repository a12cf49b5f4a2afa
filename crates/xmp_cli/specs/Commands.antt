-- The commands, by the words of the command line.
use Rattle.std.specs.Prelude.{ℕ, Bool, List, [], ◌∷◌, ◌&&◌, not, nat_le, if◌then◌else◌, Option, None, Some, option_map, codes, decimal}
use Rattle.std.specs.Str.{bytes_eq}
use Rattle.std.specs.Str.Parse.{digits_value}

-- a command and its operands: files, paths, values and scripts by their texts
pub data Command : Type 0 where
  Get : (file path : List ℕ) → Command
  Tree : (file : List ℕ) → Command
  Set : (file out path value : List ℕ) → Command
  Apply : (file out script : List ℕ) → Command
  Patch : (file script : List ℕ) → Command
  Reconcile : (file out : List ℕ) → Command
  Check : (file : List ℕ) → Command
  Demo : (number : ℕ) → Command
  Sync : (file out : List ℕ) → Command

-- The word is the decimal of a number from 1 to 5000, which has no leading zero.
abbrev pub is_demo_number : List ℕ → ℕ → Bool
is_demo_number word number = nat_le 1 number && nat_le number 5000 && bytes_eq word (decimal number)

-- NUMBER of `demo`, if the word is one
abbrev pub demo_number : List ℕ → Option ℕ
demo_number word =
    let number = digits_value 10 word in
    if is_demo_number word number then Some number else None

-- `tree FILE`, `check FILE` and `demo NUMBER`
abbrev pub with_one : List ℕ → List ℕ → Option Command
with_one verb operand =
    if bytes_eq verb (codes "tree") then Some (Tree operand)
    else if bytes_eq verb (codes "check") then Some (Check operand)
    else if bytes_eq verb (codes "demo") then option_map Demo (demo_number operand)
    else None

-- `get FILE PATH`; and `patch FILE SCRIPT`, `reconcile FILE OUT` and `sync FILE OUT` of two different texts
abbrev pub with_two : List ℕ → List ℕ → List ℕ → Option Command
with_two verb file other =
    if bytes_eq verb (codes "get") then Some (Get file other)
    else if bytes_eq file other then None
    else if bytes_eq verb (codes "patch") then Some (Patch file other)
    else if bytes_eq verb (codes "reconcile") then Some (Reconcile file other)
    else if bytes_eq verb (codes "sync") then Some (Sync file other)
    else None

-- `apply FILE OUT SCRIPT` of three different texts
abbrev pub with_three : List ℕ → List ℕ → List ℕ → List ℕ → Option Command
with_three verb file out script =
    if bytes_eq verb (codes "apply") && not (bytes_eq file out) && not (bytes_eq file script) && not (bytes_eq out script)
    then Some (Apply file out script) else None

-- `set FILE OUT PATH VALUE`, FILE and OUT being different texts
abbrev pub with_four : List ℕ → List ℕ → List ℕ → List ℕ → List ℕ → Option Command
with_four verb file out path value =
    if bytes_eq verb (codes "set") && not (bytes_eq file out) then Some (Set file out path value) else None

-- the command that the words name: the first word and its operands
abbrev pub command : List (List ℕ) → Option Command
command (verb ∷ a ∷ []) = with_one verb a
command (verb ∷ a ∷ b ∷ []) = with_two verb a b
command (verb ∷ a ∷ b ∷ c ∷ []) = with_three verb a b c
command (verb ∷ a ∷ b ∷ c ∷ d ∷ []) = with_four verb a b c d
command words = None
