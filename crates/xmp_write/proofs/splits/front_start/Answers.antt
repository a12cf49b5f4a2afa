use Rattle.std.proofs.Common.{◌+◌, ◌-◌, ◌^◌, Some, length, take, min, ap, sym, ◌∙◌}
use Rattle.std.specs.Prelude.{codes}
use Rattle.xmp_tree.specs.Parts.{Parts}
use Rattle.xmp_write.specs.Text.{attribute_text, declared_text, lines_text}
use Rattle.xmp_write.specs.Written.{note_members}
use Rattle.xmp_write.specs.Splits.{zeros}
use Rattle.xmp_write.proofs.SplitSteps.{three_lengths, base_is}
use Rattle.xmp_write.proofs.splits.front_start.Goals as goal

pub returns : goal.returns
returns c =
    let ps = c.args.prefixes.now in
    let t = c.args.tree.now in
    let about = ap (λ name. length (attribute_text name c.bytes.result.now)) c.rdf.ensures ∙ ap (λ value. length (attribute_text (codes "rdf:about") value)) (c.bytes.ensures ∙ ap (λ (t : Parts). t.about) c.tree.view_is) in
    let first = c.put_attribute-len.ensures.after_is ∙ ap (λ n. min (164 + n) (2 ^ 64 - 1)) about in
    let third = c.put_declarations.ensures.after_is ∙ ap (λ hints. min (c.put_note_line-len.result + length (declared_text (take c.args.used hints))) (2 ^ 64 - 1)) c.as_slice.ensures in
    three_lengths (length (attribute_text (codes "rdf:about") t.about)) (length (lines_text ps (note_members (Some zeros)))) (length (declared_text (take c.args.used ps)))
    c.put_attribute-len.result c.put_note_line-len.result c.put_declarations.result first c.put_note_line-len.ensures.after_is third
    ∙ ap (λ n. min (n + length (declared_text (take c.args.used ps))) (2 ^ 64 - 1)) (sym (base_is ps t))
