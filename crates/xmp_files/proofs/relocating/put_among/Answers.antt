use Rattle.std.proofs.Common.{◌≡◌, sym, subst, ◌∙◌, length, List, None}
use Rattle.std.specs.Prelude.{All}
use Rattle.jpeg_relocation.specs.Pictures.{moved_of, moved_pictures}
use Rattle.jpeg_relocation.specs.Relocation.{before, after}
use Rattle.jpeg_relocation.specs.Runs.{runs}
use Rattle.xmp_files.specs.declared.parts.FilePart.{FilePart}
use Rattle.xmp_files.specs.NewFiles.{PartLies, kept_parts}
use Rattle.xmp_files.proofs.KeptLie.{kept_parts_lie}
use Rattle.xmp_files.proofs.PickedPortions.{picked_among}
use Rattle.xmp_files.proofs.Relocations.{among_answer}
use Rattle.xmp_files.proofs.relocating.put_among.Goals as goal

pub of-requires-clause-among : goal.of-requires-clause-among
of-requires-clause-among c = picked_among c.args.size c.args.joined.now c.args.regions.now c.requires.tiles c.requires.among

pub within_out-requires : goal.within_out-requires
within_out-requires c =
    let parts_are : c.in_ok-parts.parts.items ≡ kept_parts (runs (before c.args.joined.now c.args.regions.now)) (runs (after c.args.joined.now c.args.regions.now)) (length c.args.bytes) =
    c.in_ok-parts.ensures ∙ (λ i. kept_parts (c.in_ok-kept.ensures.before i) (c.in_ok-kept.ensures.after i) (c.len-count.ensures i)) in
    subst (λ (ps : List FilePart). All (PartLies c.args.size (length c.args.bytes)) ps) (sym parts_are)
    (kept_parts_lie c.args.size c.args.regions.now c.args.joined.now c.requires.tiles (length c.args.bytes))

pub returns-clause-step : goal.returns-clause-step
returns-clause-step c =
    let parts_are : c.in_ok-parts.parts.items ≡ kept_parts (runs (before c.args.joined.now c.args.regions.now)) (runs (after c.args.joined.now c.args.regions.now)) (length c.args.bytes) =
    c.in_ok-parts.ensures ∙ (λ i. kept_parts (c.in_ok-kept.ensures.before i) (c.in_ok-kept.ensures.after i) (c.len-count.ensures i)) in
    let none : moved_pictures c.args.joined.now c.args.regions.now (length c.args.bytes) ≡ None =
    (λ i. moved_of (sym c.in_ok-kept.ensures.index i) (sym c.len-count.ensures i)) ∙ sym c.moved_pictures.ensures ∙ c.in_default.is in
    among_answer c.args.regions.now c.args.joined.now c.args.bytes none c.in_ok-parts.parts.items parts_are c.within_out.result c.within_out.ensures.step
