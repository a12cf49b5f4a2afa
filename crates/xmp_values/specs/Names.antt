-- Names, by their namespace and local part.
use mir.Syntax.{named as the_named}
use Rattle.std.specs.Prelude.{ℕ, Bool, ◌&&◌, List, [], map}
use Rattle.std.specs.Borrow.{Bor}
use Rattle.std.specs.Coded.{Coded, coded_list}
use Rattle.std.specs.Str.{bytes_eq}
use Rattle.xmp_values.specs.declared.text.Name.{Name}
use Rattle.xmp_values.specs.contracts.text.Name as the_name

-- the name of this namespace and this local part
abbrev pub named : List ℕ → List ℕ → Name
named space local = record { space = space; local = local }

-- whether two names have the same namespace and the same local part
unfoldable pub same_name : Name → Name → Bool
same_name m n = bytes_eq m.space n.space && bytes_eq m.local n.local

-- the names that stand for pairs of a local part and a namespace
abbrev pub names_of : List (Bor (List ℕ) × Bor (List ℕ)) → List Name
names_of = map (λ key. named key.1.now key.0.now)

abbrev pub names_code : Coded (List Name)
names_code = coded_list (the_name.the_row record { mir = the_named 1; lft = [] }).coded
