-- The ranges of a relocation lie in the file that is relocated.
use Rattle.std.proofs.Common.{◌≡◌, ℕ, zero, suc, ◌+◌, ◌*◌, ◌^◌, ◌<◌, ◌≤◌, true, List, [], ◌∷◌, length, refl, sym, ap, subst, arith, Some, None}
use Rattle.std.specs.Prelude.{◌==◌, nat_lt, not, All}
use Rattle.std.proofs.lemmas.List.Sums.{prefix_len-le-length}
use Rattle.std.specs.declared.option.Option.{Option}
use Rattle.std.proofs.lemmas.List.Elements.{All-nil, All-cons}
use native.Mathlib.Nat.{mul-le-mul_left}
use Rattle.tiff_dirs.specs.declared.layout.Layout.{Layout}
use Rattle.tiff_dirs.specs.declared.entry.Entry.{Entry}
use Rattle.tiff_dirs.specs.Layouts.{Widths, layout_of}
use Rattle.tiff_dirs.specs.Directories.{count_at, end_at, entries_at, entries_from, entry_at}
use Rattle.tiff_dirs.specs.Faults.{fault_at, inner_fault, place_fault}
use Rattle.tiff_dirs.specs.Offsets.{Walks, all_named}
use Rattle.tiff_dirs.specs.Pictures.{first_of_tag}
use Rattle.tiff_dirs.specs.Tiff.{Dir, Tiff, dir_at, tiff_of}
use Rattle.tiff_dirs.specs.Model.{IsTiff}
use Rattle.tiff_dirs.proofs.Appended.{directory_in}
use Rattle.tiff_dirs.proofs.Framed.{layout_widths, or_first}
use Rattle.tiff_dirs.proofs.Shown.{find_all}
use Rattle.tiff_relocation.specs.Relocation.{changed_by, copy_by, entries_before, even, packet_place_by}
use Rattle.tiff_relocation.specs.Moves.{Lies, LiesIn, relocation_of}

-- entries stand one after another
abbrev pub StandsIn : Layout → ℕ → ℕ → Entry → Type 0
StandsIn l from to e = (from ≤ e.place) × (e.place + l.entry ≤ to)

pub entries_stand : (l : Layout) (file : List ℕ) (from place to n : ℕ) → from ≤ place → place + l.entry * n ≤ to → All (StandsIn l from to) (entries_from l file place n)
unfolding entry_at
entries_stand l file from place to zero low high = All-nil (StandsIn l from to)
entries_stand l file from place to (suc n) low high =
    let more : l.entry * suc n ≡ l.entry * n + l.entry = omega arith in
    All-cons (StandsIn l from to) (entry_at l file place) (entries_from l file (place + l.entry) n) (low, omega (arith, high, more))
    (entries_stand l file from (place + l.entry) to n (omega (arith, low)) (omega (arith, high, more)))

pub entries_count : (l : Layout) (file : List ℕ) (place n : ℕ) → length (entries_from l file place n) ≡ n
entries_count l file place zero = refl
entries_count l file place (suc n) = ap suc (entries_count l file (place + l.entry) n)

pub before_all : (es : List Entry) → entries_before es ≤ length es
before_all es = prefix_len-le-length (λ (e : Entry). not (nat_lt 700 e.tag)) es

pub even_most : (size : ℕ) → (size ≤ even size) × (even size ≤ size + 1)
even_most size = (omega arith, omega arith)

module _ (l : Layout) (w : Widths l) (file : List ℕ) (at : ℕ) (here : end_at l file at ≤ length file) (header : l.header ≤ length file) (short : length file ≤ 2 ^ 60) where
  abbrev d : Dir
  d = dir_at l file at

  cut_low : l.entry * entries_before d.entries ≤ l.entry * count_at l file at
  cut_low =
      let few : entries_before d.entries ≤ count_at l file at = (let n = before_all d.entries in let m = entries_count l file (at + l.count) (count_at l file at) in omega (arith, n, m)) in
      mul-le-mul_left l.entry few

  abbrev move_by : Option Entry → Type 0
  move_by o = LiesIn (length file) (changed_by l o) × LiesIn (length file) (copy_by l (length file) d 0 o).before × LiesIn (length file) (copy_by l (length file) d 0 o).after
      × (packet_place_by l (length file) d o < 2 ^ 63) × (even (length file) ≤ packet_place_by l (length file) d o)

  lies_by : (o : Option Entry) → first_of_tag 700 d.entries ≡ o → move_by o
  lies_by None is =
      let e = even_most (length file) in
      let double = w.header in
      let least = w.least_word in
      let most = w.most_word in
      let size = w.entry in (
        (omega arith, omega (arith, header, double)),
        (omega arith, omega (arith, here, cut_low)),
        (omega (arith, cut_low), here),
        omega (arith, e.1, here, short, size, most),
        omega arith,
      )
  lies_by (Some e) is =
      let stands : StandsIn l (at + l.count) (at + l.count + l.entry * count_at l file at) e =
      find_all (StandsIn l (at + l.count) (at + l.count + l.entry * count_at l file at)) (λ x. x.tag == 700) d.entries e
      (entries_stand l file (at + l.count) (at + l.count) (at + l.count + l.entry * count_at l file at) (count_at l file at) (omega arith) (omega arith)) is in
      let even_is = even_most (length file) in
      let size = w.entry in
      ((omega arith, omega (arith, stands.1, here, size)), (omega arith, omega arith), (omega arith, omega arith), omega (arith, even_is.1, short), omega arith)

lies_at : (file offsets : List ℕ) → Walks file offsets → length file ≤ 2 ^ 60 → Lies (relocation_of (length file) (tiff_of file offsets))
unfolding fault_at all_named
lies_at file [] w short = absurd (let bad = w.all in cc)
lies_at file (at ∷ rest) w short =
    let l = layout_of file in
    let clear = w.reaches.sound 0 at refl in
    let here : end_at l file at ≤ length file = directory_in l file [] at (or_first (place_fault l file [] at) (inner_fault l file true (entries_at l file at)) clear) in
    let lies = lies_by l (layout_widths file) file at here w.header short (first_of_tag 700 (entries_at l file at)) refl in
    record { widths = layout_widths file; size = short; changed = lies.0; before = lies.1; after = lies.2; place = lies.3; behind = lies.4 }

pub relocation_lies : (file : List ℕ) (tiff : Tiff) → IsTiff file tiff → length file ≤ 2 ^ 60 → Lies (relocation_of (length file) tiff)
relocation_lies file tiff t short =
    subst (λ (x : Tiff). Lies (relocation_of (length file) x)) (sym t.found.is) (lies_at file t.found.offsets t.found.walks short)
