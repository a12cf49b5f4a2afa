use Rattle.std.proofs.Common.{◌≡◌, ◌∙◌, ap, subst, List}
use Rattle.std.specs.Prelude.{IfOk}
use Rattle.xmp_values.specs.declared.hints.Hint.{Hint}
use Rattle.xmp_write.specs.declared.forms.Form.{Form}
use Rattle.xmp_write.specs.Prefixes.{prefixes}
use Rattle.xmp_write.specs.ValueLines.{lines_at}
use Rattle.xmp_cli.proofs.views.place_lines.Goals as goal

-- the prefixes are those of every property
pub returns : goal.returns
returns c =
    let e = c.in_ok-prefixes.ensures ∙ ap (λ (f : Form). prefixes c.args.tree.now c.args.hints.now f) c.whole-form.ensures in
    subst (λ (ps : List Hint). IfOk c.value_lines.result (λ text. text ≡ lines_at ps c.args.tree.now c.args.path.now)) e c.value_lines.ensures
