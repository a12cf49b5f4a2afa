use Rattle.std.proofs.Common.{◌≡◌, ◌∙◌, Ok, Err, ap, sym}
use Rattle.rdf_forms.specs.Merging.{first_twice, both_unless, merged}
use Rattle.xmp_rdf.proofs.Twice.{stands_within}
use Rattle.xmp_rdf.proofs.merging.merge.Goals as goal

pub place_of-requires : goal.place_of-requires
place_of-requires c =
    let same : first_twice c.main.inside.tree.props c.more.inside.tree.props ≡ first_twice c.args.main.tree.props c.args.more.tree.props =
    λ i. first_twice (c.main.view_is i).tree.props (c.more.view_is i).tree.props in
    stands_within c.args.main.tree.props c.args.more.tree.props c.in-Some.at (sym same ∙ sym c.in_ok-at.ensures ∙ c.in-Some.is)

pub returns-in-Some : goal.returns-in-Some
unfolding merged
returns-in-Some c =
    let main = c.args.main in
    let more = c.args.more in
    let same : first_twice c.main.inside.tree.props c.more.inside.tree.props ≡ first_twice main.tree.props more.tree.props =
    λ i. first_twice (c.main.view_is i).tree.props (c.more.view_is i).tree.props in
    ap (λ n. both_unless n main more) (sym same ∙ sym c.in_ok-at.ensures ∙ c.in-Some.is) ∙ ap Err (sym c.place_of.ensures)

pub returns : goal.returns
unfolding merged
returns c =
    let main = c.args.main in
    let more = c.args.more in
    let same : first_twice c.main.inside.tree.props c.more.inside.tree.props ≡ first_twice main.tree.props more.tree.props =
    λ i. first_twice (c.main.view_is i).tree.props (c.more.view_is i).tree.props in
    ap (λ n. both_unless n main more) (sym same ∙ sym c.in_ok-at.ensures ∙ c.in_default.is) ∙ ap Ok (sym c.in_ok-both.ensures)
