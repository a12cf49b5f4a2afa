use Rattle.std.proofs.Common.{◌≡◌, ◌∙◌, ◌++◌, ℕ, List, [], ◌∷◌, ap}
use Rattle.xmp_values.specs.declared.text.Name.{Name}
use Rattle.xmp_tree.specs.declared.nested.Member.{Member}
use Rattle.xmp_tree.specs.declared.nested.Shape.{Simple}
use Rattle.xmp_tree.specs.Parts.{member, simple, value}
use Rattle.xmp_tree.specs.Wf.{lang_name}
use Rattle.mwg_rules.specs.Forms.{default_tag}
use Rattle.mwg_rules.proofs.forms.default_item.Goals as goal

pub returns : goal.returns
returns c =
    let tag : c.in_ok-value.value ≡ simple default_tag = c.in_ok-value.ensures in
    let quals : c.push.new.self ≡ member lang_name (simple default_tag) ∷ [] =
    c.in_ok-push.ensures.ok ∙ ap (λ (l : List Member). l ++ member c.lang_name.result c.in_ok-value.value ∷ []) c.new-quals.ensures
    ∙ ap (λ (n : Name). member n c.in_ok-value.value ∷ []) c.lang_name.ensures ∙ ap (λ v. member lang_name v ∷ []) tag in
    ap (λ (t : List ℕ). value (Simple t) c.push.new.self) c.in_ok-text.ensures ∙ ap (λ q. value (Simple c.args.text.now) q) quals
