use Rattle.std.proofs.Common.{◌≡◌, sym, subst, ◌∙◌, length, ℕ, List}
use Rattle.std.specs.Prelude.{All}
use Rattle.xmp_files.specs.declared.parts.FilePart.{FilePart}
use Rattle.xmp_files.specs.NewFiles.{PartLies, parts_at}
use Rattle.xmp_files.specs.Planning.{parts_len}
use Rattle.xmp_files.specs.Plans.{told}
use Rattle.xmp_files.proofs.Relocations.{parts_over, parts_put, parts_fit}
use Rattle.xmp_files.proofs.relocating.within_out.Goals as goal

pub total_len-len-requires : goal.total_len-len-requires
total_len-len-requires c =
    subst (λ (b : List ℕ). All (PartLies c.args.size (length b)) c.as_slice.result.now) (sym c.as_slice-2.ensures)
    (subst (λ (ps : List FilePart). All (PartLies c.args.size (length c.args.bytes)) ps) (sym c.as_slice.ensures.value) c.requires)

pub returns-then-len-gt-FILE_LIMIT-clause-step : goal.returns-then-len-gt-FILE_LIMIT-clause-step
returns-then-len-gt-FILE_LIMIT-clause-step c =
    let len_is : c.total_len-len.result ≡ told (parts_len (parts_at c.args.bytes c.args.parts.items)) =
    c.total_len-len.ensures ∙ (λ i. told (parts_len (parts_at (c.as_slice-2.ensures i) (c.as_slice.ensures.value i)))) in
    parts_over (parts_at c.args.bytes c.args.parts.items) c.total_len-len.result len_is c.over_out.result c.if-len-gt-FILE_LIMIT.true c.over_out.ensures

pub returns-clause-step : goal.returns-clause-step
returns-clause-step c =
    let len_is : c.total_len-len.result ≡ told (parts_len (parts_at c.args.bytes c.args.parts.items)) =
    c.total_len-len.ensures ∙ (λ i. told (parts_len (parts_at (c.as_slice-2.ensures i) (c.as_slice.ensures.value i)))) in
    parts_put (parts_at c.args.bytes c.args.parts.items) c.total_len-len.result len_is c.if-len-gt-FILE_LIMIT.false

pub returns-clause-lies : goal.returns-clause-lies
returns-clause-lies c =
    let len_is : c.total_len-len.result ≡ told (parts_len (parts_at c.args.bytes c.args.parts.items)) =
    c.total_len-len.ensures ∙ (λ i. told (parts_len (parts_at (c.as_slice-2.ensures i) (c.as_slice.ensures.value i)))) in
    record { lie = c.requires; sums = parts_fit (parts_at c.args.bytes c.args.parts.items) c.total_len-len.result len_is c.if-len-gt-FILE_LIMIT.false }
