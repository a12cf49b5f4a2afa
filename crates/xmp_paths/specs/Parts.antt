-- A path: the name of a property, and steps that lead from its value to one that it holds.
use mir.Syntax.{named as the_named}
use Rattle.std.specs.Prelude.{List, [], refl}
use Rattle.std.specs.Coded.{Coded, code_by, coded×, coded_list}
use Rattle.xmp_values.specs.declared.text.Name.{Name}
use Rattle.xmp_values.specs.contracts.text.Name as the_name
use Rattle.xmp_values.specs.declared.hints.Hint.{Hint}
use Rattle.xmp_values.specs.contracts.hints.Hint as the_hint
use Rattle.xmp_paths.specs.declared.step.Step.{Step}
use Rattle.xmp_paths.specs.contracts.step.Step as the_step

pub record PathParts : Type 0 where
  pub name : Name
  pub steps : List Step

-- it is stored as a pair
abbrev pub path_code : Coded PathParts
path_code =
    code_by (Name × List Step) (coded× (the_name.the_row record { mir = the_named 1; lft = [] }).coded (coded_list the_step.the_row.coded))
    (λ p. (p.name, p.steps)) (λ p. record { name = p.0; steps = p.1 }) (λ _. refl)

-- Where prefixes are looked up: in lines that bind them, and in the hints of a file.
pub record Bindings : Type 0 where
  pub lines : List Hint
  pub hints : List Hint

abbrev pub bindings_code : Coded Bindings
bindings_code =
    code_by (List Hint × List Hint) (coded× (coded_list the_hint.the_row.coded) (coded_list the_hint.the_row.coded))
    (λ b. (b.lines, b.hints)) (λ p. record { lines = p.0; hints = p.1 }) (λ _. refl)
