-- The least rule that a top breaks after others.
use Rattle.std.proofs.Common.{◌≡◌, ℕ, List, ◌++◌, Bool, true, false, ap, sym, ◌∙◌}
use Rattle.std.specs.Prelude.{Some, None, if◌then◌else◌}
use Rattle.xmp_values.specs.declared.text.Name.{Name}
use Rattle.xmp_values.specs.declared.rules.Rule.TheVariants.{TwiceValue, Twice}
use Rattle.xml_grammar.specs.declared.elements.Element.{Element}
use Rattle.rdf_forms.specs.declared.roles.Role.TheVariants as roles
use Rattle.rdf_forms.specs.NameRules.{name_rule}
use Rattle.rdf_forms.specs.FormRules.{form_rule}
use Rattle.rdf_forms.specs.MemberRules.{member_rule, member_names, twice_value, twice, tree_deep}
use Rattle.rdf_forms.specs.Entering.{Holds, clashes, IsEntered}
use Rattle.std.specs.Option.{option_or}
use Rattle.rdf_forms.specs.Rules.{broken_in}
use Rattle.rdf_forms.specs.Broken.{IsTop}
use Rattle.rdf_forms.proofs.Clashes.{clashes-held}
use Rattle.rdf_forms.proofs.EnteredLists.{holds_after, holds_through}

module _ (t : Element) (first : List ℕ) (names : List Name) where
  module _ (no_name : None ≡ name_rule roles.Top t first) (no_form : None ≡ form_rule roles.Top t) where
    by_members : broken_in roles.Top 0 t first names ≡ member_rule roles.Top 0 t names
    unfolding broken_in
    by_members =
        ap (λ o. option_or o (option_or (form_rule roles.Top t) (member_rule roles.Top 0 t names))) (sym no_name)
        ∙ ap (λ o. option_or o (member_rule roles.Top 0 t names)) (sym no_form)

    pub by_value : twice_value roles.Top t ≡ true → broken_in roles.Top 0 t first names ≡ Some TwiceValue
    unfolding member_rule tree_deep
    by_value is = by_members ∙ ap (λ (b : Bool). if b then Some TwiceValue else if twice roles.Top t names then Some Twice else None) is

    module _ (set : List Name) (held : Holds set names) (once : twice_value roles.Top t ≡ false) where
      by_twice : broken_in roles.Top 0 t first names ≡ (if clashes (member_names t) set then Some Twice else None)
      unfolding member_rule twice tree_deep
      by_twice =
          by_members
          ∙ ap (λ (b : Bool). if b then Some TwiceValue else if clashes (member_names t) names then Some Twice else None) once
          ∙ ap (λ (b : Bool). if b then Some Twice else None) (sym (clashes-held set names (member_names t) held))

      pub by_clash : clashes (member_names t) set ≡ true → broken_in roles.Top 0 t first names ≡ Some Twice
      by_clash clash = by_twice ∙ ap (λ (b : Bool). if b then Some Twice else None) clash

      pub unbroken : (more : List Name) → IsEntered set (member_names t) more → IsTop t first names more
      unbroken more entering = record {
        unbroken = by_twice ∙ ap (λ (b : Bool). if b then Some Twice else None) entering.apart;
        holds = holds_through more (set ++ member_names t) (names ++ member_names t) entering.holds (holds_after set names (member_names t) held);
      }
