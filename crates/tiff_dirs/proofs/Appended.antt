-- Every table of a file whose offsets have no fault lies in it, so bytes put at its end change none.
use Rattle.std.proofs.Common.{◌≡◌, ◌≢◌, ◌==◌, ℕ, zero, suc, ◌+◌, ◌-◌, ◌*◌, ◌<◌, ◌≤◌, ◌⊎◌, inl, inr, nat_le, nat_lt, ◌&&◌, ◌||◌, not, Bool, true, false, if◌then◌else◌, List, [], ◌∷◌, ◌++◌, length, take, drop, refl, sym, ap, subst, ◌∙◌, arith, None, Some, All, Contains}
use Rattle.std.specs.declared.option.Option.{Option}
use Rattle.std.specs.List.{flat_map, list_any}
use Rattle.std.proofs.Math.Nat.{mul-suc}
use Rattle.std.proofs.lemmas.Bool.Decides.{nat_tests}
use Rattle.std.proofs.lemmas.List.{length-append, length-drop, take-append-le}
use Rattle.std.proofs.lemmas.List.Elements.{All-nil, All-cons, Contains-append_right, Contains-append_cases}
use Rattle.std.proofs.lemmas.Option.{slice_get-get_or}
use Rattle.xmp_base.specs.declared.file_span.FileSpan.{FileSpan}
use Rattle.xmp_values.specs.declared.rules.Rule.TheVariants.{DirectoryLong, DirectoryOut, DirectoryTwice, TooManyDirectories, ValueOut}
use Rattle.tiff_dirs.specs.declared.layout.Layout.{Layout}
use Rattle.tiff_dirs.specs.declared.entry.Entry.{Entry}
use Rattle.tiff_dirs.specs.declared.stop.TiffStop.{TiffStop}
use Rattle.tiff_dirs.specs.declared.stop.TiffStop.TheVariants.{Fault}
use Rattle.tiff_dirs.specs.Numbers.{number}
use Rattle.tiff_dirs.specs.Layouts.{Widths, layout_of}
use Rattle.tiff_dirs.specs.Types.{size_of}
use Rattle.tiff_dirs.specs.Directories.{span, value_at, entry_at, entries_from, entries_at, count_at, end_at}
use Rattle.tiff_dirs.specs.Pictures.{pictures_of}
use Rattle.tiff_dirs.specs.Faults.{broken, value_out, tag_fault, entry_fault, entries_fault, pictures_fault, inner_fault, place_fault, fault_at, is_packet_tag}
use Rattle.tiff_dirs.specs.Offsets.{Walks}
use Rattle.tiff_dirs.specs.Tiff.{tiff_of}
use Rattle.tiff_dirs.specs.Tables.{is_table, table_of, tables_in, tables_at, tables_of}
use Rattle.tiff_dirs.specs.Frames.{bytes_in}
use Rattle.tiff_dirs.proofs.Framed.{framed, layout_widths, or_first, or_second}
use Rattle.tiff_dirs.proofs.Walks.{split_by}

inside_by : (m y i : Bool) (x u v w : Option TiffStop) → x ≢ None → u ≢ None → v ≢ None → (if m then x else (if y then u else (if not i then v else w))) ≡ None → i ≡ true
inside_by true y i x u v w nx nu nv e = absurd (nx e)
inside_by false true i x u v w nx nu nv e = absurd (nu e)
inside_by false false false x u v w nx nu nv e = absurd (nv e)
inside_by false false true x u v w nx nu nv e = refl

ends_in : (header at end len : ℕ) → (nat_le header at && nat_le end len) ≡ true → end ≤ len
ends_in header at end len h = grind (arith, nat_tests, h)

pub directory_in : (l : Layout) (file before : List ℕ) (at : ℕ) → place_fault l file before at ≡ None → end_at l file at ≤ length file
unfolding place_fault
directory_in l file before at e =
    ends_in l.header at (end_at l file at) (length file)
    (inside_by (nat_le 1000 (length before)) (list_any (λ x. x == at) before) (nat_le l.header at && nat_le (end_at l file at) (length file)) (broken TooManyDirectories at) (broken DirectoryTwice at)
    (broken DirectoryOut at) (if nat_lt 65535 (count_at l file at) then Some (Fault DirectoryLong at (count_at l file at) 65535) else None) (λ i. (cc)) (λ i. (cc)) (λ i. (cc)) e)

-- the value of an entry that isn't out of the file
value_by : (b : Bool) (word size at n len : ℕ) → nat_le size word ≡ b → at + word ≤ len → (nat_lt word size && nat_lt len (if b then span at (at + size) else span n (n + size)).end) ≡ false
    → (if b then span at (at + size) else span n (n + size)).end ≤ len
value_by true word size at n len e h f = (let s : size ≤ word = grind (arith, nat_tests, e) in omega (arith, s))
value_by false word size at n len e h f =
    let apart : nat_lt word size ≡ true = grind (arith, nat_tests, e) in
    let less : nat_lt len (n + size) ≡ false = grind (arith, apart, f) in
    grind (arith, nat_tests, less)

not_out : (o : Bool) (x t : Option TiffStop) → x ≢ None → (if o then x else t) ≡ None → o ≡ false
not_out true x t n e = absurd (n e)
not_out false x t n e = refl

entry_in_file : (l : Layout) (file : List ℕ) (len : ℕ) (first seen : Bool) (place : ℕ) → Widths l → place + l.entry ≤ len
    → entry_fault l len first seen (entry_at l file place) ≡ None → (entry_at l file place).value.end ≤ len
unfolding entry_at value_at
entry_in_file l file len first seen place w h e =
    let wide = w.entry in
    let size = size_of l (number l.big 2 (place + 2) file) * number l.big l.word (place + 4) file in
    value_by (nat_le size l.word) l.word size (place + 4 + l.word) (number l.big l.word (place + 4 + l.word) file) len refl (omega (arith, wide))
    (not_out (value_out l len (entry_at l file place)) (broken ValueOut place) (tag_fault first seen (entry_at l file place)) (λ i. (cc)) e)

pub entries_in_file : (l : Layout) (file : List ℕ) (len : ℕ) (first seen : Bool) (place n : ℕ) → Widths l → place + l.entry * n ≤ len
    → entries_fault l len first seen (entries_from l file place n) ≡ None → All (λ e. e.value.end ≤ len) (entries_from l file place n)
entries_in_file l file len first seen place zero w h e = All-nil (λ (x : Entry). x.value.end ≤ len)
entries_in_file l file len first seen place (suc n) w h e =
    let product = mul-suc l.entry n in
    let here = entry_at l file place in
    let rest = entries_from l file (place + l.entry) n in
    All-cons (λ (x : Entry). x.value.end ≤ len) here rest
    (entry_in_file l file len first seen place w (omega (arith, product)) (or_first (entry_fault l len first seen here) (entries_fault l len first (seen || is_packet_tag here) rest) e))
    (entries_in_file l file len first (seen || is_packet_tag here) (place + l.entry) n w (omega (arith, product)) (or_second (entry_fault l len first seen here) (entries_fault l len first (seen || is_packet_tag here) rest) e))

one_in : (t : Bool) (v r : FileSpan) → Contains (if t then v ∷ [] else []) r → v ≡ r
one_in true v r (zero, low, is) = is
one_in true v r (suc k, low, is) = absurd (omega arith)
one_in false v r (k, low, is) = absurd (omega arith)

tables_in_file : (len : ℕ) (es : List Entry) → All (λ e. e.value.end ≤ len) es → (r : FileSpan) → Contains (tables_in es) r → r.end ≤ len
tables_in_file len [] all r (k, low, is) = absurd (omega arith)
tables_in_file len (e ∷ es) all r m =
    elim (Contains-append_cases (table_of e) (tables_in es) r m) [
      | inl h ↦ subst (λ (x : FileSpan). x.end ≤ len) (one_in (is_table e) e.value r h) (all 0 e (omega arith))
      | inr h ↦ tables_in_file len es (λ k d i. all (suc k) d (omega arith)) r h
    ]

at_in_file : (l : Layout) (file before : List ℕ) (at : ℕ) → Widths l → fault_at l file before at ≡ None → (r : FileSpan) → Contains (tables_at l file at) r → r.end ≤ length file
unfolding fault_at
at_in_file l file before at w e r m =
    let es = entries_at l file at in
    let first = length before == 0 in
    let here = directory_in l file before at (or_first (place_fault l file before at) (inner_fault l file first es) e) in
    let inner = or_second (place_fault l file before at) (inner_fault l file first es) e in
    let faults = or_first (entries_fault l (length file) first false es) (pictures_fault (length file) (pictures_of l file es)) inner in
    elim (split_by (span at (end_at l file at)) (tables_in es) r m) [
      | inl same ↦ subst (λ (x : FileSpan). x.end ≤ length file) same here
      | inr h ↦ tables_in_file (length file) es (entries_in_file l file (length file) first false (at + l.count) (count_at l file at) w (omega (arith, here)) faults) r h
    ]

all_in_file : (l : Layout) (file : List ℕ) (xs : List ℕ) → ((x : ℕ) → Contains xs x → (r : FileSpan) → Contains (tables_at l file x) r → r.end ≤ length file)
    → (r : FileSpan) → Contains (flat_map (tables_at l file) xs) r → r.end ≤ length file
all_in_file l file [] each r (k, low, is) = absurd (omega arith)
all_in_file l file (x ∷ xs) each r m =
    elim (Contains-append_cases (tables_at l file x) (flat_map (tables_at l file) xs) r m) [
      | inl h ↦ each x (0, omega arith, refl) r h
      | inr h ↦ all_in_file l file xs (λ y k. each y (Contains-append_right (x ∷ []) xs y k)) r h
    ]

-- where an offset stands, it has no fault
pub no_fault : (file offsets : List ℕ) → Walks file offsets → (x : ℕ) → Contains offsets x → (before : List ℕ) × (fault_at (layout_of file) file before x ≡ None)
no_fault file offsets w x (k, low, is) = (take k offsets, w.reaches.sound k x (slice_get-get_or offsets k x low ∙ ap Some is))

pub tables_lie : (file offsets : List ℕ) → Walks file offsets → (r : FileSpan) → Contains (tables_of (layout_of file) file offsets) r → r.end ≤ length file
tables_lie file offsets w r m =
    let l = layout_of file in
    elim (split_by (span 0 l.header) (flat_map (tables_at l file) offsets) r m) [
      | inl same ↦ subst (λ (x : FileSpan). x.end ≤ length file) same w.header
      | inr h ↦ all_in_file l file offsets (λ x k. let f = no_fault file offsets w x k in at_in_file l file f.0 x (layout_widths file) f.1) r h
    ]

drop_front : (n : ℕ) (xs ys : List ℕ) → n ≤ length xs → drop n (xs ++ ys) ≡ drop n xs ++ ys
drop_front zero xs ys h = refl
drop_front (suc n) [] ys h = absurd (omega arith)
drop_front (suc n) (x ∷ xs) ys h = drop_front n xs ys (omega arith)

order : (m n : ℕ) → (m ≤ n) ⊎ (n < m)
order zero n = inl (omega arith)
order (suc m) zero = inr (omega arith)
order (suc m) (suc n) = elim (order m n) [ inl h ↦ inl (omega arith) | inr h ↦ inr (omega arith) ]

same_front : (a more : List ℕ) (r : FileSpan) → r.end ≤ length a → bytes_in (a ++ more) r ≡ bytes_in a r
same_front a more r h =
    elim (order r.start r.end) [
      | inl i ↦
          (let size = length-drop r.start a in
          ap (take (r.end - r.start)) (drop_front r.start a more (omega (arith, h, i))) ∙ take-append-le (r.end - r.start) (drop r.start a) more (omega (arith, size, h, i)))
      | inr i ↦
          (let none : r.end - r.start ≡ 0 = omega (arith, i) in
          ap (λ (n : ℕ). take n (drop r.start (a ++ more))) none ∙ sym (ap (λ (n : ℕ). take n (drop r.start a)) none))
    ]

agree_by : (P : FileSpan → Type 0) (rs : List FileSpan) → ((r : FileSpan) → Contains rs r → P r) → All P rs
agree_by P [] h = All-nil P
agree_by P (x ∷ xs) h = All-cons P x xs (h x (0, omega arith, refl)) (agree_by P xs (λ r k. h r (Contains-append_right (x ∷ []) xs r k)))

pub appended : (file more offsets : List ℕ) → Walks file offsets → Walks (file ++ more) offsets × (tiff_of (file ++ more) offsets ≡ tiff_of file offsets)
appended file more offsets w =
    let size = length-append file more in
    framed file (file ++ more) offsets w (omega (arith, size))
    (agree_by (λ r. bytes_in (file ++ more) r ≡ bytes_in file r) (tables_of (layout_of file) file offsets) (λ r m. same_front file more r (tables_lie file offsets w r m)))
