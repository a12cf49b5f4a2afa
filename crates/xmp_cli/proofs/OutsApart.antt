-- OUT is never FILE: words that would name one file twice are no command.
use Rattle.std.proofs.Common.{◌≡◌, ◌≢◌, ℕ, Bool, true, false, List, [], ◌∷◌, Some, None, refl, subst, if◌then◌else◌}
use Rattle.std.specs.Prelude.{not, ◌&&◌, codes, option_map}
use Rattle.std.specs.Str.{bytes_eq}
use Rattle.std.proofs.lemmas.Bool.Decides.{not_from_Decides}
use Rattle.std.proofs.lemmas.Slice.Eq.{bytes_eq-Decides}
use Rattle.std.specs.declared.option.Option.{Option}
use Rattle.xmp_cli.specs.Commands.{Command, Get, Tree, Set, Apply, Patch, Reconcile, Check, Demo, Sync, demo_number, command}

-- the OUT of a command that edits is another text than its FILE
abbrev pub HasOther : Command → Type 0
HasOther (Set file out path value) = file ≢ out
HasOther (Apply file out script) = file ≢ out
HasOther other = Unit {0}

abbrev Others : Option Command → Type 0
Others None = Unit {0}
Others (Some c) = HasOther c

differ : (a b : List ℕ) → bytes_eq a b ≡ false → a ≢ b
differ a b e = not_from_Decides (bytes_eq a b) (bytes_eq-Decides a b) e

number_other : (o : Option ℕ) → Others (option_map Demo o)
number_other None = tt
number_other (Some number) = tt

one_by : (tree check demo : Bool) (a : List ℕ) → Others (if tree then Some (Tree a) else if check then Some (Check a) else if demo then option_map Demo (demo_number a) else None)
one_by true check demo a = tt
one_by false true demo a = tt
one_by false false true a = number_other (demo_number a)
one_by false false false a = tt

two_by : (show same patch reconcile sync : Bool) (a b : List ℕ)
    → Others (if show then Some (Get a b) else if same then None else if patch then Some (Patch a b) else if reconcile then Some (Reconcile a b) else if sync then Some (Sync a b) else None)
two_by true same patch reconcile sync a b = tt
two_by false true patch reconcile sync a b = tt
two_by false false true reconcile sync a b = tt
two_by false false false true sync a b = tt
two_by false false false false true a b = tt
two_by false false false false false a b = tt

three_by : (verb out script both : Bool) (a b c : List ℕ) → bytes_eq a b ≡ out → Others (if verb && not out && not script && not both then Some (Apply a b c) else None)
three_by false out script both a b c e = tt
three_by true true script both a b c e = tt
three_by true false true both a b c e = tt
three_by true false false true a b c e = tt
three_by true false false false a b c e = differ a b e

four_by : (verb out : Bool) (file to path value : List ℕ) → bytes_eq file to ≡ out → Others (if verb && not out then Some (Set file to path value) else None)
four_by false out file to path value e = tt
four_by true true file to path value e = tt
four_by true false file to path value e = differ file to e

words_other : (words : List (List ℕ)) → Others (command words)
words_other [] = tt
words_other (v ∷ []) = tt
words_other (v ∷ a ∷ []) = one_by (bytes_eq v (codes "tree")) (bytes_eq v (codes "check")) (bytes_eq v (codes "demo")) a
words_other (v ∷ a ∷ b ∷ []) =
    two_by (bytes_eq v (codes "get")) (bytes_eq a b) (bytes_eq v (codes "patch")) (bytes_eq v (codes "reconcile")) (bytes_eq v (codes "sync")) a b
words_other (v ∷ a ∷ b ∷ c ∷ []) = three_by (bytes_eq v (codes "apply")) (bytes_eq a b) (bytes_eq a c) (bytes_eq b c) a b c refl
words_other (v ∷ a ∷ b ∷ c ∷ d ∷ []) = four_by (bytes_eq v (codes "set")) (bytes_eq a b) a b c d refl
words_other (v ∷ a ∷ b ∷ c ∷ d ∷ e ∷ more) = tt

pub other_in : (words : List (List ℕ)) (c : Command) → command words ≡ Some c → HasOther c
other_in words c is = subst Others is (words_other words)
