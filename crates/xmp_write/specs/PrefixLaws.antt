-- What the prefixes of a text keep, so that a reader finds the namespace of each written name again
-- (Namespaces in XML 1.0, sections 3 to 6).
use Rattle.std.specs.Prelude.{◌≡◌, ◌≢◌, ℕ, ◌+◌, ◌^◌, ◌<◌, false, codes, List, length, All, AllPairs, Some}
use Rattle.xmp_values.specs.Characters.{IsCharText, IsName}
use Rattle.xmp_values.specs.declared.hints.Hint.{Hint}
use Rattle.known_prefixes.specs.Prefixes.{is_fixed, begins_xml}
use Rattle.xmp_tree.specs.Parts.{Parts}
use Rattle.xmp_tree.specs.Wf.{IsOwnSpace}
use Rattle.xmp_write.specs.declared.forms.Form.{Form}
use Rattle.xmp_write.specs.Written.{written_spaces}
use Rattle.xmp_write.specs.Prefixes.{prefix_in, prefixes}

-- A namespace and its prefix, as they may be declared: the namespace is one of its own and isn't fixed, the prefix is a
-- name, none that is fixed, and doesn't begin with `xml`, which is reserved.
pub record IsDeclared (h : Hint) : Type 0 where
  pub named : IsName h.prefix
  pub chars : IsCharText h.space
  pub own : IsOwnSpace h.space
  pub unfixed : is_fixed h.space ≡ false
  pub not_rdf : h.prefix ≢ codes "rdf"
  pub not_x : h.prefix ≢ codes "x"
  pub not_xml : begins_xml h.prefix ≡ false

-- each may be declared, and neither a namespace nor a prefix stands twice
pub record AreDeclared (ps : List Hint) : Type 0 where
  pub each : All IsDeclared ps
  pub spaces_apart : AllPairs (λ g h. g.space ≢ h.space) ps
  pub prefixes_apart : AllPairs (λ g h. g.prefix ≢ h.prefix) ps

-- each namespace of a list is fixed or has a prefix
abbrev pub AreBound : List Hint → List (List ℕ) → Type 0
AreBound ps = All (λ space. is_fixed space ≡ false → (prefix : List ℕ) × (prefix_in ps space ≡ Some prefix))

-- The law: the prefixes of a well-formed tree's text may be declared, and each namespace that is written and isn't fixed
-- has exactly one. The numbers of hints and of namespaces are below 2 to the power of 64, since a number is written in
-- decimal by std's definition up to there.
pub record PrefixLaw (t : Parts) (hints : List Hint) (form : Form) : Type 0 where
  pub declared : AreDeclared (prefixes t hints form)
  pub bound : AreBound (prefixes t hints form) (written_spaces t form)

abbrev pub AreFew : Parts → List Hint → Form → Type 0
AreFew t hints form = length hints + length (prefixes t hints form) < 2 ^ 64
