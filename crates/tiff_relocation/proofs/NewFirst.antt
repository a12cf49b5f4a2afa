-- The first directory of the new file: it names the directories and the pictures of the old one, and has no fault.
use Rattle.std.proofs.Common.{◌≡◌, ◌∙◌, ℕ, ◌+◌, ◌<◌, ◌≤◌, ◌&&◌, not, nat_le, nat_lt, Bool, true, false, if◌then◌else◌, List, [], ◌++◌, length, refl, sym, ap, subst, arith, All, None, Some}
use Rattle.std.specs.declared.option.Option.{Option}
use Rattle.std.specs.List.{flat_map}
use Rattle.std.proofs.lemmas.Bool.Decides.{nat_tests}
use Rattle.xmp_base.specs.declared.file_span.FileSpan.{FileSpan}
use Rattle.xmp_values.specs.declared.rules.Rule.TheVariants.{DirectoryLong, DirectoryOut}
use Rattle.tiff_dirs.specs.declared.layout.Layout.{Layout}
use Rattle.tiff_dirs.specs.declared.stop.TiffStop.{TiffStop}
use Rattle.tiff_dirs.specs.declared.stop.TiffStop.TheVariants.{Fault}
use Rattle.tiff_dirs.specs.Layouts.{Widths}
use Rattle.tiff_dirs.specs.Numbers.{number}
use Rattle.tiff_dirs.specs.Directories.{chained, children, count_at, end_at, entries_at, named, next_place}
use Rattle.tiff_dirs.specs.Faults.{broken, entries_fault, fault_at, inner_fault, pictures_fault, place_fault}
use Rattle.tiff_dirs.specs.Pictures.{first_of_tag, pictures_of}
use Rattle.tiff_dirs.specs.Tiff.{pictures_at}
use Rattle.tiff_dirs.proofs.Framed.{or_first, or_second, or_none}
use Rattle.tiff_relocation.proofs.Copied.{IsKept}
use Rattle.tiff_relocation.proofs.CopyBytes.{HasCopy, entries_grown, next_moved}
use Rattle.tiff_relocation.proofs.Grown.{HasPacket, named_grown, shown_grown}
use Rattle.tiff_relocation.proofs.Plain.{IsPlain, entries_plain, grown_clear, spans_clear, spans_inside}

-- a directory that lies in the file, and has a few entries
placed_by : (i m : Bool) (x y : Option TiffStop) → i ≡ true → m ≡ false → (if not i then x else (if m then y else None)) ≡ None
placed_by true false x y p q = refl
placed_by false m x y p q = absurd (cc p)
placed_by true true x y p q = absurd (cc q)

placed_first : (l : Layout) (file : List ℕ) (at : ℕ) → l.header ≤ at → end_at l file at ≤ length file → count_at l file at ≤ 65535 → place_fault l file [] at ≡ None
unfolding place_fault
placed_first l file at low high few =
    placed_by (nat_le l.header at && nat_le (end_at l file at) (length file)) (nat_lt 65535 (count_at l file at)) (broken DirectoryOut at) (Some (Fault DirectoryLong at (count_at l file at) 65535))
    (grind (arith, nat_tests, low, high)) (grind (arith, nat_tests, few))

-- what the absence of a fault says of the first directory's entries and pictures
pub entries_clear : (l : Layout) (file : List ℕ) (at : ℕ) → fault_at l file [] at ≡ None → entries_fault l (length file) true false (entries_at l file at) ≡ None
unfolding fault_at
entries_clear l file at e =
    let es = entries_at l file at in
    or_first (entries_fault l (length file) true false es) (pictures_fault (length file) (pictures_of l file es)) (or_second (place_fault l file [] at) (inner_fault l file true es) e)

pub shown_clear : (l : Layout) (file : List ℕ) (at : ℕ) → fault_at l file [] at ≡ None → pictures_fault (length file) (pictures_of l file (entries_at l file at)) ≡ None
unfolding fault_at
shown_clear l file at e =
    let es = entries_at l file at in
    or_second (entries_fault l (length file) true false es) (pictures_fault (length file) (pictures_of l file es)) (or_second (place_fault l file [] at) (inner_fault l file true es) e)

module _ (l : Layout) (w : Widths l) (a b : List ℕ) (at new k m : ℕ) (v : FileSpan) (copy : HasCopy l a b at new k m v) (kept : All (IsKept l a b) (entries_at l a at)) where
  pub grown : HasPacket l a b v k (entries_at l a at) (entries_at l b new)
  grown = entries_grown l w a b at new k m v copy kept

  pub children_moved : children l b new ≡ children l a at
  unfolding children
  children_moved =
      ap (λ (t : List ℕ). t ++ chained (number l.big l.word (next_place l b new) b)) (named_grown l a b v k (entries_at l a at) (entries_at l b new) grown)
      ∙ ap (λ (n : ℕ). flat_map (named l a) (entries_at l a at) ++ chained n) (next_moved l w a b at new k m v copy)

  pub pictures_moved : pictures_at l b new ≡ pictures_at l a at
  pictures_moved = shown_grown l a b v k (entries_at l a at) (entries_at l b new) grown

  module _ (clear : fault_at l a [] at ≡ None) (none : first_of_tag 700 (entries_at l a at) ≡ None) where
    pub all_plain : All (IsPlain l (length a)) (entries_at l a at)
    all_plain = entries_plain l (length a) true false (entries_at l a at) (entries_clear l a at clear) none

    pub fault_moved : length a ≤ length b → v.end ≤ length b → l.header ≤ new → end_at l b new ≤ length b → k + m < 65535 → fault_at l b [] new ≡ None
    unfolding fault_at
    fault_moved longer room low high few =
        let count = copy.count in
        let old = spans_inside (length a) (pictures_of l a (entries_at l a at)) (shown_clear l a at clear) in
        or_none (place_fault l b [] new) (inner_fault l b true (entries_at l b new)) (placed_first l b new low high (omega (arith, count, few)))
        (or_none (entries_fault l (length b) true false (entries_at l b new)) (pictures_fault (length b) (pictures_of l b (entries_at l b new)))
        (grown_clear l a b v (length a) (length b) true false k (entries_at l a at) (entries_at l b new) longer room refl grown all_plain)
        (spans_clear (length a) (length b) (pictures_of l b (entries_at l b new)) longer (subst (All (λ r. r.end ≤ length a)) (sym pictures_moved) old)))
