use Rattle.std.proofs.Common.{◌+◌, List, ap, ◌∙◌}
use Rattle.std.specs.Prelude.{slice_range}
use Rattle.xmp_tree.specs.declared.nested.Member.{Member}
use Rattle.xmp_tree.specs.Parts.{Parts}
use Rattle.xmp_write.specs.Text.{declared_text}
use Rattle.xmp_write.specs.Placing.{spelled_name}
use Rattle.xmp_write.proofs.PlacedPieces.{puts_as}
use Rattle.xmp_write.proofs.TextParts.{text_put}
use Rattle.xmp_write.proofs.writing.put_text.Goals as goal

pub returns : goal.returns
returns c =
    let form = c.args.form.now in
    let part = λ (props : List Member). slice_range props form.first (form.first + form.count) in
    text_put c.args.prefixes.now c.args.tree.now form (spelled_name c.rdf.result) c.bytes.result.now (part c.as_slice-props.result.now) c.rdf.ensures
    (c.bytes.ensures ∙ ap (λ (t : Parts). t.about) c.tree.view_is) (ap part (c.as_slice-props.ensures ∙ ap (λ (t : Parts). t.props) c.tree.view_is))
    c.put-at.ensures c.put_attribute-at.ensures (puts_as (declared_text c.args.prefixes.now) c.put_declarations-at.ensures (ap declared_text c.as_slice.ensures)) c.put-at-2.ensures
    c.put_note-at.ensures c.put_lines-at.ensures c.put.ensures
