use Rattle.std.proofs.Common.{ap, subst, ◌∙◌, ℕ, List, None}
use Rattle.xmp_write.specs.WrittenPackets.{packet}
use Rattle.xmp_files.specs.Plans.{segments_text}
use Rattle.xmp_files.specs.Planneds.{AmongAnswer}
use Rattle.xmp_files.proofs.Relocations.{one_segment}
use Rattle.xmp_files.proofs.relocating.with_packet.Goals as goal

pub returns-clause-step : goal.returns-clause-step
returns-clause-step c =
    let packed : List ℕ → List ℕ = λ l. segments_text l None in
    subst (λ (l : List ℕ). AmongAnswer c.args.regions.now c.args.joined.now l c.put_among.result)
    (c.from_vec.ensures ∙ c.in_ok-segment.ensures ∙ one_segment (packet c.args.prefixes.now c.args.tree.now c.args.form.now c.segment_padded-len.result)
    ∙ ap (λ (n : ℕ). packed (packet c.args.prefixes.now c.args.tree.now c.args.form.now n)) c.segment_padded-len.ensures)
    c.put_among.ensures.step
