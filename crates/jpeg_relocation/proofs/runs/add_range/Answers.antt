use Rattle.std.proofs.Common.{sym, ap, ◌∙◌, append_assoc, List, ◌∷◌, [], ◌++◌}
use Rattle.xmp_base.specs.declared.file_span.FileSpan.{FileSpan}
use Rattle.jpeg_relocation.specs.Runs.{with_last}
use Rattle.jpeg_relocation.proofs.Steps.{last_met, last_apart}
use Rattle.jpeg_relocation.proofs.runs.add_range.Goals as goal

pub returns-in_ok-push-in-Some : goal.returns-in_ok-push-in-Some
returns-in_ok-push-in-Some c =
    c.in_ok-push-in-Some.ensures.items
    ∙ sym (last_met c.pop.new.self.items c.in-Some.last c.args.range c.if-last-range.true)
    ∙ sym (ap (λ (l : List FileSpan). with_last l c.args.range) c.in-Some.ensures.items)

pub returns-in_ok-push-in-Some-3 : goal.returns-in_ok-push-in-Some-3
returns-in_ok-push-in-Some-3 c =
    c.in_ok-push-in-Some-3.ensures.items
    ∙ ap (λ (l : List FileSpan). l ++ c.args.range ∷ []) c.in_ok-push-in-Some-2.ensures.items
    ∙ append_assoc c.pop.new.self.items (c.in-Some.last ∷ []) (c.args.range ∷ [])
    ∙ sym (last_apart c.pop.new.self.items c.in-Some.last c.args.range c.if-last-range.false)
    ∙ sym (ap (λ (l : List FileSpan). with_last l c.args.range) c.in-Some.ensures.items)
