-- Declarations of namespaces, as values that are stored.
use Rattle.std.specs.Prelude.{ℕ, List, Option, refl}
use Rattle.std.specs.Coded.{Coded, code_by, coded_list, coded_option, coded_ℕ, coded×}
use Rattle.xml_grammar.specs.Scopes.{Binding}

abbrev pub bytes_code : Coded (List ℕ)
bytes_code = coded_list coded_ℕ

abbrev pub binding_code : Coded Binding
binding_code = code_by (Option (List ℕ) × List ℕ) (coded× (coded_option bytes_code) bytes_code) (λ b. (b.prefix, b.space)) (λ p. record { prefix = p.0; space = p.1 }) (λ _. refl)

abbrev pub bindings_code : Coded (List Binding)
bindings_code = coded_list binding_code
