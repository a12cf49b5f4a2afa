-- What a top does after earlier ones.
use Rattle.std.specs.Prelude.{ℕ, ◌≡◌, List, ◌++◌, Option, MatchOption, Some, None}
use Rattle.xmp_values.specs.declared.text.Name.{Name}
use Rattle.xmp_values.specs.declared.rules.Rule.{Rule}
use Rattle.xml_grammar.specs.declared.elements.Element.{Element}
use Rattle.rdf_forms.specs.declared.roles.Role.TheVariants as roles
use Rattle.rdf_forms.specs.MemberRules.{member_names}
use Rattle.rdf_forms.specs.Entering.{Holds}
use Rattle.rdf_forms.specs.Rules.{broken_in}

-- the top breaks no rule after tops with this first about and these names of members, and the set holds those of its own too
pub record IsTop (t : Element) (first : List ℕ) (names set : List Name) : Type 0 where
  pub unbroken : broken_in roles.Top 0 t first names ≡ None
  pub holds : Holds set (names ++ member_names t)

-- the least rule that it breaks, else the set has its names too
abbrev pub TopGives : Element → List ℕ → List Name → List Name → Option Rule → Type 0
TopGives t first names set result = MatchOption result (IsTop t first names set) (λ rule. broken_in roles.Top 0 t first names ≡ Some rule)
