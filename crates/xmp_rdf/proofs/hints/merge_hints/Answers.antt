use Rattle.std.proofs.Common.{◌++◌, ◌∙◌, ap, sym, subst}
use Rattle.xmp_values.specs.Hints.{AreValid}
use Rattle.xmp_rdf.proofs.HintSets.{valid_after}
use Rattle.xmp_rdf.proofs.hints.merge_hints.Goals as goal

pub from_list-requires : goal.from_list-requires
from_list-requires c =
    let main = c.args.main in
    let list = c.in_ok-append.ensures.ok ∙ ap (λ hs. hs ++ c.in_ok-new.new) c.into_sequence-list.ensures ∙ ap (λ hs. main ++ hs) c.in_ok-new.ensures in
    subst AreValid (sym list) (valid_after main c.args.more c.len-2.ensures.valid c.len.ensures.valid)
