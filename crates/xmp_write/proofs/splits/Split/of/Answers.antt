use Rattle.std.proofs.Common.{◌≡◌, ◌-◌, length, ap, ◌∙◌, None}
use Rattle.xmp_tree.specs.Parts.{Parts}
use Rattle.xmp_write.specs.declared.forms.Form.{Form}
use Rattle.xmp_write.specs.Prefixes.{declared_spaces}
use Rattle.xmp_write.specs.Splits.{given_to, all_spaces}
use Rattle.xmp_write.proofs.SplitSteps.{stops_told, split_told}
use Rattle.xmp_write.proofs.splits.Split.of.Goals as goal

pub returns-in-Err : goal.returns-in-Err
returns-in-Err c =
    let t = c.args.tree.now in
    let hints = c.in_ok-map.ensures ∙ c.as_slice.ensures.hints in
    stops_told t c.args.hints.now (given_to c.in_ok-map.map (all_spaces t.props)) c.args.room c.in-Err.stop (ap (λ hints. given_to hints (all_spaces t.props)) hints) c.in-Err.ensures

pub returns : goal.returns
returns c =
    let t = c.args.tree.now in
    let front = c.in-Ok.front in
    let hints = c.in_ok-map.ensures ∙ c.as_slice.ensures.hints in
    let many : c.len.result - front.count ≡ length t.props - front.count = ap (λ n. n - front.count) (c.len.ensures ∙ ap (λ (t : Parts). length t.props) c.tree.view_is) in
    let form : Form = record { first = front.count; count = c.len.result - front.count; note = None } in
    let part = ap (λ n. record { first = front.count; count = n; note = None }) many in
    let own = c.in_ok-prefixes.ensures ∙ ap (given_to c.in_ok-map.map) c.in_ok-spaces.ensures ∙ ap (λ hints. given_to hints (declared_spaces t form)) hints in
    split_told t c.args.hints.now (given_to c.in_ok-map.map (all_spaces t.props)) c.in_ok-prefixes.prefixes c.args.room c.measure.result front form
    (ap (λ hints. given_to hints (all_spaces t.props)) hints) c.in-Ok.ensures part own c.measure.ensures
