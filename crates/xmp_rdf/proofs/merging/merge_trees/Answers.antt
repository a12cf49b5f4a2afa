use Rattle.std.proofs.Common.{◌≡◌, ◌∙◌, sym, subst}
use Rattle.xmp_tree.specs.Parts.{Parts}
use Rattle.xmp_tree.specs.Wf.{Wf}
use Rattle.rdf_forms.specs.Merging.{first_twice}
use Rattle.xmp_rdf.proofs.Twice.{formed_both}
use Rattle.xmp_rdf.proofs.merging.merge_trees.Goals as goal

pub invariant_of-result : goal.invariant_of-result
invariant_of-result c =
    let main : Parts = record { about = c.main.inside.about; props = c.main.inside.props } in
    let more : Parts = record { about = c.more.inside.about; props = c.more.inside.props } in
    let same : first_twice main.props more.props ≡ first_twice c.args.main.props c.args.more.props = λ i. first_twice (c.main.view_is i).props (c.more.view_is i).props in
    subst (λ props. Wf record { about = main.about; props = props }) (sym c.in_ok-append.ensures.ok)
    (formed_both main more c.main.invariant c.more.invariant (same ∙ c.requires))
