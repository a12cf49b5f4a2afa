use Rattle.std.proofs.Common.{◌∙◌}
use Rattle.std.specs.Str.{bytes_eq}
use Rattle.jpeg_extended.proofs.KeptPortions.{digits_true}
use Rattle.jpeg_extended.proofs.joiner.is_name.Goals as goal

pub returns-in-Some : goal.returns-in-Some
returns-in-Some c =
    let digits = c.in-Some.ensures in
    rw (digits_true _ digits.0) (c.eq.ensures ∙ (λ i. bytes_eq ((c.bytes.ensures.value ∙ digits.1) i) (c.bytes-in-Some.ensures.value i)))
