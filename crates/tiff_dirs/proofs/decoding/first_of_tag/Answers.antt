use Rattle.std.proofs.Common.{◌≢◌, ℕ, ◌+◌, ◌*◌, sym, ap, subst, ◌∙◌, arith}
use Rattle.std.proofs.lemmas.List.{drop_all}
use Rattle.tiff_dirs.specs.Parts.{entry_in}
use Rattle.tiff_dirs.specs.Pictures.{first_of_tag}
use Rattle.tiff_dirs.specs.Decoding.{entries_of}
use Rattle.tiff_dirs.proofs.Kept.{entries_count, entry_among, first_here, first_after}
use Rattle.tiff_dirs.proofs.Tags.{tag_here}
use Rattle.tiff_dirs.proofs.decoding.first_of_tag.Goals as goal

pub returns-then-here-tag : goal.returns-then-here-tag
returns-then-here-tag c =
    let e = c.args.entries.now in
    let k = c.loop-k.k in
    let tag = tag_here e.layout e.part.start e.part.bytes.now e.count k c.entry_at.result c.loop-k-test.true c.entry_at.ensures in
    first_here c.args.tag (entries_of e) k c.entry_at.result c.entry_at.ensures (tag ∙ sym c.tag_at-here.ensures ∙ c.if-here-tag.true) c.loop-k.invariant

pub loop-k-preserved : goal.loop-k-preserved
loop-k-preserved c =
    let e = c.args.entries.now in
    let k = c.loop-k.k in
    let here = entry_in e.layout e.part.start e.part.bytes.now (0 + e.layout.entry * k) in
    let at = entry_among e.layout e.part.start e.part.bytes.now 0 e.count k c.loop-k-test.true in
    let tag = tag_here e.layout e.part.start e.part.bytes.now e.count k here c.loop-k-test.true at in
    first_after c.args.tag (entries_of e) k here at (subst (λ (x : ℕ). x ≢ c.args.tag) (sym (tag ∙ sym c.tag_at-here.ensures)) c.if-here-tag.false) c.loop-k.invariant

pub returns : goal.returns
returns c =
    let e = c.args.entries.now in
    let size = entries_count e.layout e.part.start e.part.bytes.now 0 e.count in
    sym (ap (first_of_tag c.args.tag) (drop_all c.loop-k.k (entries_of e) (omega (arith, size)))) ∙ c.loop-k.invariant
