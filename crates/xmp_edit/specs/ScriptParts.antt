-- What contracts see of a script.
use Rattle.std.specs.Prelude.{◌≡◌, ℕ, List, refl}
use Rattle.std.specs.List.{list_any}
use Rattle.std.specs.Str.{bytes_eq}
use Rattle.xmp_values.specs.Hints.{has_space}
use Rattle.std.specs.Coded.{Coded, code_by, coded×, coded_list}
use Rattle.xmp_values.specs.declared.hints.Hint.{Hint}
use Rattle.xmp_values.specs.contracts.hints.Hint as the_hint
use Rattle.xmp_paths.specs.Parts.{Bindings, bindings_code}
use Rattle.xmp_edit.specs.declared.edit.Edit.{Edit}
use Rattle.xmp_edit.specs.contracts.edit.Edit as the_edit

pub record ScriptParts : Type 0 where
  pub edits : List Edit
  pub hints : List Hint

-- it is stored as a pair
abbrev pub script_code : Coded ScriptParts
script_code =
    code_by (List Edit × List Hint) (coded× (coded_list the_edit.the_row.coded) (coded_list the_hint.the_row.coded))
    (λ s. (s.edits, s.hints)) (λ p. record { edits = p.0; hints = p.1 }) (λ _. refl)

-- what was read of a script so far: what its lines bind, and its edits
pub record ReadingParts : Type 0 where
  pub bindings : Bindings
  pub edits : List Edit

abbrev pub reading_code : Coded ReadingParts
reading_code = code_by (Bindings × List Edit) (coded× bindings_code (coded_list the_edit.the_row.coded)) (λ r. (r.bindings, r.edits)) (λ p. record { bindings = p.0; edits = p.1 }) (λ _. refl)

-- a set holds the namespaces of hints
abbrev pub HasNamespaces : List (List ℕ) → List Hint → Type 0
HasNamespaces seen hints = (space : List ℕ) → list_any (bytes_eq space) seen ≡ has_space hints space
