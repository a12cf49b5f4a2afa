use mir.Syntax.{named}
use Rattle.std.specs.Prelude.{ℕ, List, [], refl}
use Rattle.std.specs.Coded.{Coded, code_by, coded×, coded_list, coded_ℕ}
use Rattle.xmp_values.specs.declared.text.Name.{Name}
use Rattle.xmp_tree.specs.declared.nested.Member.{Member, roll-Member}
use Rattle.xmp_tree.specs.declared.nested.Value.{Value, roll-Value}
use Rattle.xmp_tree.specs.declared.nested.Shape.{Shape, Simple}
use Rattle.xmp_tree.specs.contracts.nested.Member as the_member

-- what contracts see of a tree
pub record Parts : Type 0 where
  pub about : List ℕ
  pub props : List Member

-- they are stored as a pair
abbrev pub parts_code : Coded Parts
parts_code =
    code_by (List ℕ × List Member) (coded× (coded_list coded_ℕ) (coded_list (the_member.the_row record { mir = named 1; lft = [] }).coded))
    (λ t. (t.about, t.props)) (λ p. record { about = p.0; props = p.1 }) (λ _. refl)

-- a member and a value by their parts
abbrev pub member : Name → Value → Member
member n v = roll-Member record { name = n; value = v }

abbrev pub value : Shape → List Member → Value
value s q = roll-Value record { shape = s; quals = q }

-- a simple text with no qualifier
abbrev pub simple : List ℕ → Value
simple text = value (Simple text) []
