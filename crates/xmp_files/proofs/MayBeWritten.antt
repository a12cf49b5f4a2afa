-- The text of a tree that is planned for is one that is read back.
use Rattle.std.proofs.Common.{◌≡◌, ◌∙◌, ◌+◌, ◌<◌, ◌^◌, List, length, ap, arith}
use Rattle.xmp_values.specs.declared.hints.Hint.{Hint}
use Rattle.xmp_values.specs.Hints.{AreValid}
use Rattle.xmp_tree.specs.Parts.{Parts}
use Rattle.xmp_tree.specs.Wf.{Wf}
use Rattle.xmp_write.specs.declared.forms.Form.{Form}
use Rattle.xmp_write.specs.Prefixes.{prefixes}
use Rattle.xmp_files.specs.Plans.{whole_form, MayPlan}

pub may_be_written : (t : Parts) (hints ps : List Hint) (form : Form) → Wf t → AreValid hints → form ≡ whole_form t → ps ≡ prefixes t hints form
    → length hints + length ps < 2 ^ 64 → length hints < 2 ^ 63 → MayPlan t hints
may_be_written t hints ps form wf valid whole is few kept =
    let same : length ps ≡ length (prefixes t hints (whole_form t)) = ap length (is ∙ ap (prefixes t hints) whole) in
    record { whole = record { formed = wf; valid = valid; few = omega arith; noted = tt }; few = kept }
