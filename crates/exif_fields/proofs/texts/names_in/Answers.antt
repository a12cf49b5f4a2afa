use Rattle.exif_fields.proofs.Names.{names_step}
use Rattle.exif_fields.proofs.texts.names_in.Goals as goal

pub loop-name-preserved : goal.loop-name-preserved
loop-name-preserved c =
    names_step _ _ _ _ _ _ _ c.in-Some.ensures.there c.loop-name.invariant c.in-Some.ensures.before c.trimmed.ensures
    c.in-Some.ensures.after c.in_ok-add_name.ensures
