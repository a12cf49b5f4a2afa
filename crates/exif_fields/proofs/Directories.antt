-- The entries of a directory, one after another.
use Rattle.std.proofs.Common.{◌≡◌, ℕ, zero, suc, ◌+◌, ◌-◌, ◌<◌, Bool, true, List, [], ◌∷◌, ap, refl, arith, Ok, Err, Option, Some, None}
use Rattle.xmp_values.specs.declared.rules.Rule.{Rule}
use Rattle.exif_fields.specs.declared.block.Entry.{Entry}
use Rattle.exif_fields.specs.Blocks.{entries_from, entry_at, entries_at, with_entries, with_exif}

pub entries_more : (block : List ℕ) (place n : ℕ) → 0 < n → entries_from block place n ≡ entry_at block place ∷ entries_from block (place + 12) (n - 1)
entries_more block place zero h = absurd (omega arith)
entries_more block place (suc n) h = let e : n ≡ suc n - 1 = omega arith in ap (λ (k : ℕ). entry_at block place ∷ entries_from block (place + 12) k) e

pub entries_none : (block : List ℕ) (place n : ℕ) → n ≡ 0 → entries_from block place n ≡ []
entries_none block place zero h = refl
entries_none block place (suc n) h = absurd (omega arith)

pub stays_fault : (block : List ℕ) (exif : Bool) (es : List Entry) (fault : Rule × ℕ) → with_entries block exif es (Err fault) ≡ Err fault
stays_fault block exif [] fault = refl
stays_fault block exif (e ∷ es) fault = refl

pub stays_fault_with_exif : (block : List ℕ) (exif : Option ℕ) (fault : Rule × ℕ) → with_exif block (Ok exif) (Err fault) ≡ Err fault
stays_fault_with_exif block None fault = refl
stays_fault_with_exif block (Some at) fault = stays_fault block true (entries_at block at) fault

pub ruleset steps = (entries_more, stays_fault)
