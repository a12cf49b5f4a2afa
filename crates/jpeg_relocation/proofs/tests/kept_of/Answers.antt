use Rattle.std.proofs.Common.{Bor, List, ◌∙◌, ap}
use Rattle.xmp_base.specs.declared.file_span.FileSpan.{FileSpan}
use Rattle.jpeg_regions.specs.Jpeg.{portion_payloads}
use Rattle.jpeg_relocation.proofs.Merged.{all_among, none_among}
use Rattle.jpeg_relocation.proofs.tests.kept_of.Goals as goal
use Rattle.jpeg_relocation.proofs.tests.kept_of.Goals.{then-all, else-all}

pub of-requires-clause-among : goal.of-requires-clause-among
of-requires-clause-among c = elim c.if-all.branch [
  | then-all w ↦ all_among c.if-all.joined.now (portion_payloads c.in-Ok.regions)
      (ap (λ (b : Bor (List FileSpan)). b.now) w.joined-is ∙ w.as_slice-joined.ensures.value ∙ c.in_ok-portions.ensures)
  | else-all w ↦ none_among c.if-all.joined.now (portion_payloads c.in-Ok.regions) (ap (λ (b : Bor (List FileSpan)). b.now) w.joined-is)
]
