-- Named ranges lie in the file, and the tables of a directory in its named ranges.
use Rattle.std.proofs.Common.{◌≡◌, ℕ, zero, suc, ◌+◌, ◌*◌, ◌<◌, ◌≤◌, inl, inr, ◌==◌, nat_le, nat_lt, Bool, true, false, if◌then◌else◌, List, [], ◌∷◌, ◌++◌, length, map, refl, subst, arith, All, Contains, None}
use Rattle.std.specs.List.{flat_map}
use Rattle.std.proofs.lemmas.Bool.Decides.{nat_tests}
use Rattle.std.proofs.lemmas.List.Elements.{All-nil, All-cons, All-append, All-contains, All-head, All-tail, All-weaker, All-contains_itself, Contains-append_cases, Contains-append_left, Contains-append_right}
use Rattle.xmp_base.specs.declared.file_span.FileSpan.{FileSpan}
use Rattle.tiff_dirs.specs.declared.layout.Layout.{Layout}
use Rattle.tiff_dirs.specs.declared.entry.Entry.{Entry}
use Rattle.tiff_dirs.specs.Layouts.{Widths, layout_of}
use Rattle.tiff_dirs.specs.Numbers.{number}
use Rattle.tiff_dirs.specs.Types.{size_of}
use Rattle.tiff_dirs.specs.Directories.{count_at, end_at, entries_at, entries_from, entry_at, is_apart, span, value_at}
use Rattle.tiff_dirs.specs.Faults.{entries_fault, fault_at, inner_fault, pictures_fault, place_fault}
use Rattle.tiff_dirs.specs.Offsets.{Walks}
use Rattle.tiff_dirs.specs.Overlaps.{Meets, apart_of, named_in}
use Rattle.tiff_dirs.specs.Pictures.{pictures_of}
use Rattle.tiff_dirs.specs.Tables.{is_table, table_of, tables_at, tables_in}
use Rattle.tiff_dirs.specs.Tiff.{dir_at, pictures_at}
use Rattle.tiff_dirs.proofs.Appended.{directory_in, entries_in_file, no_fault}
use Rattle.tiff_dirs.proofs.Framed.{layout_widths, or_first, or_second}
use Rattle.tiff_dirs.proofs.Walks.{split_by}
use Rattle.tiff_relocation.proofs.Plain.{one_in, spans_inside}

-- each of a list's ranges, by its place among them
pub each_range : (P : FileSpan → Type 0) (rs : List FileSpan) → ((r : FileSpan) → Contains rs r → P r) → All P rs
each_range P rs h = All-weaker (Contains rs) P h rs (All-contains_itself rs)

-- a range ends in a file of so many bytes
abbrev pub EndsIn : ℕ → FileSpan → Type 0
EndsIn len r = r.end ≤ len

-- two ranges share no byte
abbrev pub IsAway : FileSpan → FileSpan → Type 0
IsAway c r = Meets c r → ⊥

one_by : (P : FileSpan → Type 0) (t : Bool) (v : FileSpan) → P v → All P (if t then v ∷ [] else [])
one_by P true v h = All-cons P v [] h (All-nil P)
one_by P false v h = All-nil P

pub values_inside : (l : Layout) (len : ℕ) (es : List Entry) → All (λ e. e.value.end ≤ len) es → All (EndsIn len) (flat_map (apart_of l) es)
values_inside l len [] all = All-nil (EndsIn len)
values_inside l len (e ∷ es) all =
    All-append (EndsIn len) (apart_of l e) (flat_map (apart_of l) es) (one_by (EndsIn len) (is_apart l e) e.value (All-head (λ (x : Entry). x.value.end ≤ len) e es all))
    (values_inside l len es (All-tail (λ (x : Entry). x.value.end ≤ len) e es all))

module _ (l : Layout) (w : Widths l) (file : List ℕ) where
  -- a directory without a fault, and the values of its entries
  module _ (before : List ℕ) (at : ℕ) (clear : fault_at l file before at ≡ None) where
    abbrev first : Bool
    first = length before == 0

    pub ends_inside : end_at l file at ≤ length file
    unfolding fault_at
    ends_inside = directory_in l file before at (or_first (place_fault l file before at) (inner_fault l file first (entries_at l file at)) clear)

    inner_clear : inner_fault l file first (entries_at l file at) ≡ None
    unfolding fault_at
    inner_clear = or_second (place_fault l file before at) (inner_fault l file first (entries_at l file at)) clear

    pub entries_inside : All (λ e. e.value.end ≤ length file) (entries_at l file at)
    entries_inside =
        entries_in_file l file (length file) first false (at + l.count) (count_at l file at) w (omega (arith, ends_inside))
        (or_first (entries_fault l (length file) first false (entries_at l file at)) (pictures_fault (length file) (pictures_of l file (entries_at l file at))) inner_clear)

    pub named_inside : All (EndsIn (length file)) (named_in l (dir_at l file at) (entries_at l file at))
    named_inside =
        All-cons (EndsIn (length file)) (span at (end_at l file at)) (flat_map (apart_of l) (entries_at l file at)) ends_inside (values_inside l (length file) (entries_at l file at) entries_inside)

    pub shown_inside : All (EndsIn (length file)) (pictures_at l file at)
    shown_inside =
        spans_inside (length file) (pictures_of l file (entries_at l file at))
        (or_second (entries_fault l (length file) first false (entries_at l file at)) (pictures_fault (length file) (pictures_of l file (entries_at l file at))) inner_clear)

-- The value of an entry stands in it or apart.

abbrev pub IsInline : Layout → FileSpan → Entry → Type 0
IsInline l d e = is_apart l e ≡ false → (d.start ≤ e.value.start) × (e.value.end ≤ d.end)

inline_by : (b : Bool) (word size at n start end : ℕ) → nat_le size word ≡ b → nat_lt word size ≡ false → start ≤ at → at + word ≤ end
    → (start ≤ (if b then span at (at + size) else span n (n + size)).start) × ((if b then span at (at + size) else span n (n + size)).end ≤ end)
inline_by true word size at n start end e f low high = (low, let s : size ≤ word = grind (arith, nat_tests, e) in omega (arith, s, high))
inline_by false word size at n start end e f low high = (let no : true ≡ false = grind (arith, nat_tests, e, f) in absurd (cc no))

entry_inline : (l : Layout) (file : List ℕ) (place : ℕ) (d : FileSpan) → Widths l → d.start ≤ place → place + l.entry ≤ d.end → IsInline l d (entry_at l file place)
unfolding entry_at value_at
entry_inline l file place d w low high inner =
    let wide = w.entry in
    let size = size_of l (number l.big 2 (place + 2) file) * number l.big l.word (place + 4) file in
    inline_by (nat_le size l.word) l.word size (place + 4 + l.word) (number l.big l.word (place + 4 + l.word) file) d.start d.end refl inner (omega (arith, low)) (omega (arith, wide, high))

pub entries_inline : (l : Layout) (file : List ℕ) (place n : ℕ) (d : FileSpan) → Widths l → d.start ≤ place → place + l.entry * n ≤ d.end → All (IsInline l d) (entries_from l file place n)
entries_inline l file place zero d w low high = All-nil (IsInline l d)
entries_inline l file place (suc n) d w low high =
    let more : l.entry * suc n ≡ l.entry * n + l.entry = omega arith in
    All-cons (IsInline l d) (entry_at l file place) (entries_from l file (place + l.entry) n) (entry_inline l file place d w low (omega (arith, high, more)))
    (entries_inline l file (place + l.entry) n d w (omega (arith, low)) (omega (arith, high, more)))

value_by : (l : Layout) (c d : FileSpan) (e : Entry) (t : Bool) → is_apart l e ≡ t → IsInline l d e → IsAway c d → All (IsAway c) (if t then e.value ∷ [] else []) → IsAway c e.value
value_by l c d e true is inner away all = All-head (IsAway c) e.value [] all
value_by l c d e false is inner away all = (let i = inner is in λ m. away (omega (arith, m.0, i.1), omega (arith, m.1, i.0)))

pub all_front : (P : FileSpan → Type 0) (xs ys : List FileSpan) → All P (xs ++ ys) → All P xs
all_front P xs ys all = each_range P xs (λ r m. All-contains P (xs ++ ys) r all (Contains-append_left xs ys r m))

pub all_back : (P : FileSpan → Type 0) (xs ys : List FileSpan) → All P (xs ++ ys) → All P ys
all_back P xs ys all = each_range P ys (λ r m. All-contains P (xs ++ ys) r all (Contains-append_right xs ys r m))

-- values of a directory share no byte with a range that shares none with its named ranges
pub values_away : (l : Layout) (c d : FileSpan) (es : List Entry) → All (IsInline l d) es → IsAway c d → All (IsAway c) (flat_map (apart_of l) es) → (r : FileSpan) → Contains (tables_in es) r → IsAway c r
values_away l c d [] inner away all r (k, low, is) = absurd (omega arith)
values_away l c d (e ∷ es) inner away all r m =
    elim (Contains-append_cases (table_of e) (tables_in es) r m) [
      | inl h ↦ subst (IsAway c) (one_in (is_table e) e.value r h)
          (value_by l c d e (is_apart l e) refl (All-head (IsInline l d) e es inner) away (all_front (IsAway c) (apart_of l e) (flat_map (apart_of l) es) all))
      | inr h ↦ values_away l c d es (All-tail (IsInline l d) e es inner) away (all_back (IsAway c) (apart_of l e) (flat_map (apart_of l) es) all) r h
    ]

module _ (l : Layout) (w : Widths l) (file : List ℕ) (c : FileSpan) where
  pub tables_away : (at : ℕ) → All (IsAway c) (named_in l (dir_at l file at) (entries_at l file at)) → (r : FileSpan) → Contains (tables_at l file at) r → IsAway c r
  tables_away at all r m =
      let d = span at (end_at l file at) in
      let es = entries_at l file at in
      let away = All-head (IsAway c) d (flat_map (apart_of l) es) all in
      elim (split_by d (tables_in es) r m) [
        | inl e ↦ subst (IsAway c) e away
        | inr h ↦ values_away l c d es (entries_inline l file (at + l.count) (count_at l file at) d w (omega arith) (omega arith)) away (All-tail (IsAway c) d (flat_map (apart_of l) es) all) r h
      ]

  abbrev pub named_all : List ℕ → List FileSpan
  named_all xs = flat_map (λ d. named_in l d d.entries) (map (dir_at l file) xs)

  pub all_away : (xs : List ℕ) → All (IsAway c) (named_all xs) → (r : FileSpan) → Contains (flat_map (tables_at l file) xs) r → IsAway c r
  all_away [] all r (k, low, is) = absurd (omega arith)
  all_away (x ∷ xs) all r m =
      elim (Contains-append_cases (tables_at l file x) (flat_map (tables_at l file) xs) r m) [
        | inl h ↦ tables_away x (all_front (IsAway c) (named_in l (dir_at l file x) (entries_at l file x)) (named_all xs) all) r h
        | inr h ↦ all_away xs (all_back (IsAway c) (named_in l (dir_at l file x) (entries_at l file x)) (named_all xs) all) r h
      ]

-- All directories and pictures of a walk lie in the file.
module _ (file : List ℕ) (offsets : List ℕ) (walks : Walks file offsets) where
  abbrev l : Layout
  l = layout_of file

  pub all_named_inside : (xs : List ℕ) → ((x : ℕ) → Contains xs x → Contains offsets x) → All (EndsIn (length file)) (flat_map (λ d. named_in l d d.entries) (map (dir_at l file) xs))
  all_named_inside [] sub = All-nil (EndsIn (length file))
  all_named_inside (x ∷ xs) sub =
      let f = no_fault file offsets walks x (sub x (0, omega arith, refl)) in
      All-append (EndsIn (length file)) (named_in l (dir_at l file x) (entries_at l file x)) (flat_map (λ d. named_in l d d.entries) (map (dir_at l file) xs))
      (named_inside l (layout_widths file) file f.0 x f.1) (all_named_inside xs (λ y h. sub y (Contains-append_right (x ∷ []) xs y h)))

  pub all_shown_inside : (xs : List ℕ) → ((x : ℕ) → Contains xs x → Contains offsets x) → All (EndsIn (length file)) (flat_map (pictures_at l file) xs)
  all_shown_inside [] sub = All-nil (EndsIn (length file))
  all_shown_inside (x ∷ xs) sub =
      let f = no_fault file offsets walks x (sub x (0, omega arith, refl)) in
      All-append (EndsIn (length file)) (pictures_at l file x) (flat_map (pictures_at l file) xs) (shown_inside l (layout_widths file) file f.0 x f.1)
      (all_shown_inside xs (λ y h. sub y (Contains-append_right (x ∷ []) xs y h)))

  -- a place behind the file is none of them
  pub not_behind : (x : ℕ) → Contains offsets x → x < length file
  not_behind x m =
      let f = no_fault file offsets walks x m in
      let end = ends_inside l (layout_widths file) file f.0 x f.1 in
      let least = (layout_widths file).least_word in
      omega (arith, end, least)
