use Rattle.std.proofs.Common.{◌∙◌, ap, sym, ℕ, List, Ok}
use Rattle.std.specs.declared.result.Result.{Result}
use Rattle.xmp_values.specs.declared.faults.Fault.{Fault}
use Rattle.xmp_rdf.specs.declared.meanings.Meaning.{Meaning}
use Rattle.xmp_cli.specs.Order.{place_text}
use Rattle.xmp_cli.proofs.views.place_text.Goals as goal

pub returns : goal.returns
returns c =
    let found = c.in_ok-place_lines.ensures in
    ap (λ (m : Meaning). place_text m c.args.path.now) (sym c.meaning.view_is) ∙ ap (λ (text : List ℕ). let r : Result (List ℕ) Fault = Ok text in r) (sym found)
