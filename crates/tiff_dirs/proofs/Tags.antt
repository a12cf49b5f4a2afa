-- The tag of an entry by its bytes.
use Rattle.std.proofs.Common.{◌≡◌, ℕ, ◌+◌, ◌*◌, ◌<◌, List, refl, sym, ap, ◌∙◌, arith, Some}
use Rattle.std.specs.List.{slice_get}
use Rattle.tiff_dirs.specs.declared.layout.Layout.{Layout}
use Rattle.tiff_dirs.specs.declared.entry.Entry.{Entry}
use Rattle.tiff_dirs.specs.Numbers.{number}
use Rattle.tiff_dirs.specs.Parts.{entry_in, entries_in_part}
use Rattle.tiff_dirs.proofs.Kept.{entry_among}

tag_in : (l : Layout) (start : ℕ) (part : List ℕ) (at : ℕ) → (entry_in l start part at).tag ≡ number l.big 2 at part
unfolding entry_in
tag_in l start part at = refl

pub tag_here : (l : Layout) (start : ℕ) (part : List ℕ) (n k : ℕ) (e : Entry) → k < n → slice_get (entries_in_part l start part 0 n) k ≡ Some e → e.tag ≡ number l.big 2 (l.entry * k) part
tag_here l start part n k e h at =
    let both : Some e ≡ Some (entry_in l start part (0 + l.entry * k)) = sym at ∙ entry_among l start part 0 n k h in
    let same : e ≡ entry_in l start part (0 + l.entry * k) = (cc both) in
    let zero : 0 + l.entry * k ≡ l.entry * k = omega arith in
    ap (λ (x : Entry). x.tag) same ∙ tag_in l start part (0 + l.entry * k) ∙ ap (λ (j : ℕ). number l.big 2 j part) zero
