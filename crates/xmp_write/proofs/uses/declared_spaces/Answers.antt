use Rattle.std.proofs.Common.{fold, ap, sym, ◌∙◌}
use Rattle.std.proofs.lemmas.List.Sums.{fold-append}
use Rattle.xmp_tree.specs.Parts.{Parts}
use Rattle.xmp_write.specs.Written.{note_spaces}
use Rattle.xmp_write.specs.Prefixes.{with_use}
use Rattle.xmp_write.proofs.uses.declared_spaces.Goals as goal

pub returns : goal.returns
returns c =
    let props = c.as_slice-props.ensures ∙ ap (λ (t : Parts). t.props) c.tree.view_is in
    let noted = c.in_ok-use_note.ensures ∙ ap (λ uses. fold with_use uses (note_spaces c.args.form.now.note)) c.new-uses.ensures in
    rw (fold-append, sym noted) (rw props at c.in_ok-use_members.ensures)
