-- What contracts see of a meaning.
use Rattle.std.specs.Prelude.{ℕ, List, Option, refl}
use Rattle.std.specs.Coded.{Coded, code_by, coded×, coded_list, coded_option, coded_ℕ}
use Rattle.xmp_values.specs.declared.hints.Hint.{Hint}
use Rattle.xmp_values.specs.contracts.hints.Hint as the_hint
use Rattle.xmp_tree.specs.Parts.{Parts, parts_code}
use Rattle.rdf_forms.specs.Meaning.{Meaning}

-- it is stored as the tuple of its fields
abbrev pub meaning_code : Coded Meaning
meaning_code =
    code_by (Parts × (List Hint × (Option (List ℕ) × List ℕ)))
    (coded× parts_code (coded× (coded_list the_hint.the_row.coded) (coded× (coded_option (coded_list coded_ℕ)) (coded_list coded_ℕ))))
    (λ m. (m.tree, (m.hints, (m.note, m.places)))) (λ p. record { tree = p.0; hints = p.1.0; note = p.1.1.0; places = p.1.1.1 }) (λ _. refl)
