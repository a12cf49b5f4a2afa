use Rattle.std.proofs.Common.{◌∙◌, sym, rules, tests, ◌==◌}
use Rattle.std.proofs.lemmas.List.Folds.{list_all-map}
use Rattle.std.proofs.lemmas.Iterator.{YieldsList-from_slice}
use Rattle.std.proofs.lemmas.Iterator.Search.{all_from_yields_List}
use Rattle.jpeg_extended.specs.declared.tiling.Head.{Head}
use Rattle.jpeg_extended.specs.Heads.{extent_of}
use Rattle.jpeg_extended.specs.Tiling.{Extent}
use Rattle.jpeg_extended.proofs.tiling.all_say.Goals as goal

pub returns : goal.returns
returns c =
    all_from_yields_List (λ (h : Head). h.full == c.args.full) _ _ c.all.result c.all.ensures.ran (YieldsList-from_slice c.args.heads.now cc) (λ x b q k. search (rules, tests))
    ∙ sym (list_all-map (λ (e : Extent). e.full == c.args.full) extent_of c.args.heads.now)
