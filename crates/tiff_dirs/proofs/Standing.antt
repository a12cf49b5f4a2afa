-- Where the values of a file's entries stand: the tables of a walk lie in named ranges other than the packet and the pictures.
use Rattle.std.proofs.Common.{◌≡◌, ◌==◌, ℕ, zero, suc, ◌+◌, ◌*◌, ◌≤◌, inl, inr, ◌⊎◌, not, ◌≢◌, nat_le, nat_lt, ◌||◌, Bool, true, false, if◌then◌else◌, List, [], ◌∷◌, ◌++◌, length, take, drop, map, refl, sym, ap, subst, ◌∙◌, arith, None, Some, All, Contains}
use Rattle.std.specs.declared.option.Option.{Option}
use Rattle.std.specs.List.{flat_map}
use Rattle.std.proofs.Math.Nat.{mul-suc}
use Rattle.std.proofs.lemmas.Bool.Decides.{nat_tests}
use Rattle.std.proofs.lemmas.List.Elements.{All-nil, All-cons, Contains-append_left, Contains-append_right, Contains-append_cases}
use Rattle.xmp_base.specs.declared.file_span.FileSpan.{FileSpan}
use Rattle.tiff_dirs.specs.declared.layout.Layout.{Layout}
use Rattle.tiff_dirs.specs.declared.entry.Entry.{Entry}
use Rattle.xmp_values.specs.declared.rules.Rule.TheVariants.{TwoPackets, ValueOut, PacketType}
use Rattle.tiff_dirs.specs.declared.stop.TiffStop.{TiffStop}
use Rattle.tiff_dirs.specs.Numbers.{number}
use Rattle.tiff_dirs.specs.Layouts.{Widths, layout_of}
use Rattle.tiff_dirs.specs.Types.{size_of, is_packet}
use Rattle.tiff_dirs.specs.Directories.{span, value_at, entry_at, entries_from, entries_at, count_at, end_at, is_apart}
use Rattle.tiff_dirs.specs.Faults.{broken, value_out, entry_fault, entries_fault, pictures_fault, inner_fault, place_fault, fault_at, is_packet_tag}
use Rattle.tiff_dirs.specs.Pictures.{pictures_of, first_of_tag}
use Rattle.tiff_dirs.specs.Offsets.{Walks}
use Rattle.tiff_dirs.specs.Tiff.{Tiff, dir_at, first_entry}
use Rattle.tiff_dirs.specs.Model.{Found}
use Rattle.tiff_dirs.specs.Tables.{is_table, table_of, tables_in, tables_at, tables_of}
use Rattle.tiff_dirs.specs.Standing.{Within, Stands}
use Rattle.tiff_dirs.specs.Overlaps.{apart_of, named_in, place_of, without, others_in}
use Rattle.tiff_dirs.proofs.Framed.{layout_widths, or_first, or_second}
use Rattle.tiff_dirs.proofs.Frames.{Spans, entries_spans}
use Rattle.tiff_dirs.proofs.Appended.{directory_in, entries_in_file}
use Rattle.tiff_dirs.proofs.Members.{found_tag}
use Rattle.tiff_dirs.proofs.Shown.{find_all}
use Rattle.tiff_dirs.proofs.Walks.{split_by}

-- A value of at most a word stands in its entry.

abbrev Inline : Layout → ℕ → ℕ → Entry → Type 0
Inline l start end e = is_apart l e ≡ false → (start ≤ e.value.start) × (e.value.end ≤ end)

inline_by : (b : Bool) (word size at n start end : ℕ) → nat_le size word ≡ b → nat_lt word size ≡ false → start ≤ at → at + word ≤ end
    → (start ≤ (if b then span at (at + size) else span n (n + size)).start) × ((if b then span at (at + size) else span n (n + size)).end ≤ end)
inline_by true word size at n start end e f low high = (low, let s : size ≤ word = grind (arith, nat_tests, e) in omega (arith, s))
inline_by false word size at n start end e f low high = (let no : true ≡ false = grind (arith, nat_tests, e, f) in absurd (cc no))

entry_inline : (l : Layout) (file : List ℕ) (place start end : ℕ) → Widths l → start ≤ place → place + l.entry ≤ end → Inline l start end (entry_at l file place)
unfolding entry_at value_at
entry_inline l file place start end w low high inner =
    let wide = w.entry in
    let size = size_of l (number l.big 2 (place + 2) file) * number l.big l.word (place + 4) file in
    inline_by (nat_le size l.word) l.word size (place + 4 + l.word) (number l.big l.word (place + 4 + l.word) file) start end refl inner (omega (arith, low)) (omega (arith, wide, high))

entries_inline : (l : Layout) (file : List ℕ) (place n start end : ℕ) → Widths l → start ≤ place → place + l.entry * n ≤ end → All (Inline l start end) (entries_from l file place n)
entries_inline l file place zero start end w low high = All-nil (Inline l start end)
entries_inline l file place (suc n) start end w low high =
    let product = mul-suc l.entry n in
    All-cons (Inline l start end) (entry_at l file place) (entries_from l file (place + l.entry) n) (entry_inline l file place start end w low (omega (arith, product, high)))
    (entries_inline l file (place + l.entry) n start end w (omega (arith, low)) (omega (arith, product, high)))

directory_inline : (l : Layout) (file : List ℕ) (at : ℕ) → Widths l → All (Inline l at (end_at l file at)) (entries_at l file at)
directory_inline l file at w = entries_inline l file (at + l.count) (count_at l file at) at (end_at l file at) w (omega arith) (omega arith)

-- Tables.

apart_by : (b : Bool) (v : FileSpan) (rest : List FileSpan) → b ≡ true → Contains ((if b then v ∷ [] else []) ++ rest) v
apart_by true v rest e = (0, omega arith, refl)
apart_by false v rest e = absurd (cc e)

one_of : (b : Bool) (v r : FileSpan) → Contains (if b then v ∷ [] else []) r → (b ≡ true) × (v ≡ r)
one_of true v r (zero, low, is) = (refl, is)
one_of true v r (suc k, low, is) = absurd (omega arith)
one_of false v r (k, low, is) = absurd (omega arith)

-- the value of an entry, in its directory or apart
value_within : (l : Layout) (d : FileSpan) (e : Entry) (rest : List FileSpan) (b : Bool) → is_apart l e ≡ b → Inline l d.start d.end e → Within (d ∷ (apart_of l e ++ rest)) e.value
value_within l d e rest true is inner = (e.value, Contains-append_right (d ∷ []) (apart_of l e ++ rest) e.value (apart_by (is_apart l e) e.value rest is), omega arith, omega arith)
value_within l d e rest false is inner = let i = inner is in (d, (0, omega arith, refl), i.0, i.1)

wider : (d : FileSpan) (front rest : List FileSpan) (r : FileSpan) → Within (d ∷ rest) r → Within (d ∷ (front ++ rest)) r
wider d front rest r (s, m, low, high) =
    elim (split_one d rest s m) [
      | inl e ↦ (s, (0, omega arith, e), low, high)
      | inr k ↦ (s, Contains-append_right (d ∷ front) rest s k, low, high)
    ]
  where
    split_one : (x : FileSpan) (xs : List FileSpan) (y : FileSpan) → Contains (x ∷ xs) y → (x ≡ y) ⊎ Contains xs y
    split_one = split_by

-- the tables among entries
tables_within : (l : Layout) (d : FileSpan) (es : List Entry) → All (Inline l d.start d.end) es → (r : FileSpan) → Contains (tables_in es) r → Within (d ∷ flat_map (apart_of l) es) r
tables_within l d [] all r (k, low, is) = absurd (omega arith)
tables_within l d (e ∷ es) all r m =
    elim (Contains-append_cases (table_of e) (tables_in es) r m) [
      | inl h ↦ subst (Within (d ∷ (apart_of l e ++ flat_map (apart_of l) es))) (one_of (is_table e) e.value r h).1
          (value_within l d e (flat_map (apart_of l) es) (is_apart l e) refl (all 0 e (omega arith)))
      | inr h ↦ wider d (apart_of l e) (flat_map (apart_of l) es) r (tables_within l d es (λ k x i. all (suc k) x (omega arith)) r h)
    ]

-- entries without the first one of a tag
place_step : (tag : ℕ) (b : Bool) (e : Entry) (es : List Entry) → (e.tag == tag) ≡ b → place_of tag (e ∷ es) ≡ (if b then 0 else suc (place_of tag es))
place_step tag true e es is = rw is refl
place_step tag false e es is = rw is (omega arith)

without_by : (tag : ℕ) (b : Bool) (e : Entry) (es : List Entry) → (e.tag == tag) ≡ b → without tag (e ∷ es) ≡ (if b then es else e ∷ without tag es)
without_by tag true e es is = ap (λ (k : ℕ). take k (e ∷ es) ++ drop (k + 1) (e ∷ es)) (place_step tag true e es is)
without_by tag false e es is =
    let k = place_of tag es in
    let past : suc k + 1 ≡ suc (k + 1) = omega arith in
    ap (λ (n : ℕ). take n (e ∷ es) ++ drop (n + 1) (e ∷ es)) (place_step tag false e es is)
    ∙ ap (λ (n : ℕ). take (suc k) (e ∷ es) ++ drop n (e ∷ es)) past

-- a packet's entry names no table
not_table : (e : Entry) → (e.tag == 700) ≡ true → is_table e ≡ false
not_table e h = grind (arith, nat_tests, h)

tables_kept : (b : Bool) (e : Entry) (es : List Entry) (r : FileSpan) → (e.tag == 700) ≡ b → (Contains (tables_in es) r → Contains (tables_in (without 700 es)) r)
    → Contains (tables_in (e ∷ es)) r → Contains (tables_in (if b then es else e ∷ without 700 es)) r
tables_kept true e es r is more m =
    elim (Contains-append_cases (table_of e) (tables_in es) r m) [
      | inl h ↦ (let yes = (one_of (is_table e) e.value r h).0 in let no = not_table e is in absurd (cc (yes, no)))
      | inr h ↦ h
    ]
tables_kept false e es r is more m =
    elim (Contains-append_cases (table_of e) (tables_in es) r m) [
      | inl h ↦ Contains-append_left (table_of e) (tables_in (without 700 es)) r h
      | inr h ↦ Contains-append_right (table_of e) (tables_in (without 700 es)) r (more h)
    ]

tables_without : (es : List Entry) (r : FileSpan) → Contains (tables_in es) r → Contains (tables_in (without 700 es)) r
tables_without [] r m = m
tables_without (e ∷ es) r m =
    subst (λ (xs : List Entry). Contains (tables_in xs) r) (sym (without_by 700 (e.tag == 700) e es refl)) (tables_kept (e.tag == 700) e es r refl (tables_without es r) m)

all_kept : (P : Entry → Type 0) (b : Bool) (e : Entry) (es : List Entry) → P e → All P es → All P (without 700 es) → All P (if b then es else e ∷ without 700 es)
all_kept P true e es h all more = all
all_kept P false e es h all more = All-cons P e (without 700 es) h more

all_without : (P : Entry → Type 0) (es : List Entry) → All P es → All P (without 700 es)
all_without P [] all = all
all_without P (e ∷ es) all =
    let rest : All P es = λ k x i. all (suc k) x (omega arith) in
    subst (All P) (sym (without_by 700 (e.tag == 700) e es refl)) (all_kept P (e.tag == 700) e es (all 0 e (omega arith)) rest (all_without P es rest))

-- in more ranges
within_left : (xs ys : List FileSpan) (r : FileSpan) → Within xs r → Within (xs ++ ys) r
within_left xs ys r (s, m, low, high) = (s, Contains-append_left xs ys s m, low, high)

within_right : (xs ys : List FileSpan) (r : FileSpan) → Within ys r → Within (xs ++ ys) r
within_right xs ys r (s, m, low, high) = (s, Contains-append_right xs ys s m, low, high)

module _ (l : Layout) (file : List ℕ) (w : Widths l) where
  -- those of a directory
  at_within : (at : ℕ) (r : FileSpan) → Contains (tables_at l file at) r → Within (named_in l (dir_at l file at) (entries_at l file at)) r
  at_within at r m =
      elim (split_by (span at (end_at l file at)) (tables_in (entries_at l file at)) r m) [
        | inl e ↦ (r, (0, omega arith, e), omega arith, omega arith)
        | inr h ↦ tables_within l (span at (end_at l file at)) (entries_at l file at) (directory_inline l file at w) r h
      ]

  first_within : (at : ℕ) (r : FileSpan) → Contains (tables_at l file at) r → Within (named_in l (dir_at l file at) (without 700 (entries_at l file at))) r
  first_within at r m =
      elim (split_by (span at (end_at l file at)) (tables_in (entries_at l file at)) r m) [
        | inl e ↦ (r, (0, omega arith, e), omega arith, omega arith)
        | inr h ↦ tables_within l (span at (end_at l file at)) (without 700 (entries_at l file at)) (all_without (Inline l at (end_at l file at)) (entries_at l file at) (directory_inline l file at w)) r
            (tables_without (entries_at l file at) r h)
      ]

  rest_within : (xs : List ℕ) (r : FileSpan) → Contains (flat_map (tables_at l file) xs) r → Within (flat_map (λ d. named_in l d d.entries) (map (dir_at l file) xs)) r
  rest_within [] r (k, low, is) = absurd (omega arith)
  rest_within (x ∷ xs) r m =
      elim (Contains-append_cases (tables_at l file x) (flat_map (tables_at l file) xs) r m) [
        | inl h ↦ within_left (named_in l (dir_at l file x) (entries_at l file x)) (flat_map (λ d. named_in l d d.entries) (map (dir_at l file) xs)) r (at_within x r h)
        | inr h ↦ within_right (named_in l (dir_at l file x) (entries_at l file x)) (flat_map (λ d. named_in l d d.entries) (map (dir_at l file) xs)) r (rest_within xs r h)
      ]

  all_within : (offsets : List ℕ) (pictures : List FileSpan) (r : FileSpan) → Contains (tables_of l file offsets) r → Within (others_in l 700 (map (dir_at l file) offsets) pictures) r
  all_within [] pictures r m =
      elim (split_by (span 0 l.header) [] r m) [
        | inl e ↦ (r, (0, omega arith, e), omega arith, omega arith)
        | inr (k, low, is) ↦ absurd (omega arith)
      ]
  all_within (at ∷ rest) pictures r m =
      let first = named_in l (dir_at l file at) (without 700 (entries_at l file at)) in
      let more = flat_map (λ d. named_in l d d.entries) (map (dir_at l file) rest) in
      elim (split_by (span 0 l.header) (flat_map (tables_at l file) (at ∷ rest)) r m) [
        | inl e ↦ (r, (0, omega arith, e), omega arith, omega arith)
        | inr h ↦
            within_right (span 0 l.header ∷ []) (first ++ (more ++ pictures)) r
            (elim (Contains-append_cases (tables_at l file at) (flat_map (tables_at l file) rest) r h) [
              | inl i ↦ within_left first (more ++ pictures) r (first_within at r i)
              | inr i ↦ within_right first (more ++ pictures) r (within_left more pictures r (rest_within rest r i))
            ])
      ]

-- The tables of a file lie in its named ranges other than the value of the packet and the pictures.
pub table_within : (file : List ℕ) (tiff : Tiff) (found : Found file tiff) (pictures : List FileSpan) (r : FileSpan) → Contains (tables_of (layout_of file) file found.offsets) r
    → Within (others_in tiff.layout 700 tiff.dirs pictures) r
table_within file tiff found pictures r m =
    subst (λ (t : Tiff). Within (others_in t.layout 700 t.dirs pictures) r) (sym found.is) (all_within (layout_of file) file (layout_widths file) found.offsets pictures r m)

-- The packet.

typed_by : (out tagged packet seen : Bool) (x y z : Option TiffStop) → x ≢ None → y ≢ None
    → (if out then x else (if tagged then (if not packet then y else (if seen then z else None)) else None)) ≡ None → tagged ≡ true → packet ≡ true
typed_by true tagged packet seen x y z nx ny e h = absurd (nx e)
typed_by false true true seen x y z nx ny e h = refl
typed_by false true false seen x y z nx ny e h = absurd (ny e)
typed_by false false packet seen x y z nx ny e h = absurd (cc h)

abbrev IsTyped : Entry → Type 0
IsTyped e = is_packet_tag e ≡ true → is_packet e.code ≡ true

entry_typed : (l : Layout) (len : ℕ) (seen : Bool) (e : Entry) → entry_fault l len true seen e ≡ None → IsTyped e
entry_typed l len seen e h tagged =
    typed_by (value_out l len e) (is_packet_tag e) (is_packet e.code) seen (broken ValueOut e.place) (broken PacketType e.place) (broken TwoPackets e.place) (λ i. (cc)) (λ i. (cc)) h tagged

entries_typed : (l : Layout) (len : ℕ) (seen : Bool) (es : List Entry) → entries_fault l len true seen es ≡ None → All IsTyped es
entries_typed l len seen [] h = All-nil IsTyped
entries_typed l len seen (e ∷ es) h =
    All-cons IsTyped e es (entry_typed l len seen e (or_first (entry_fault l len true seen e) (entries_fault l len true (seen || is_packet_tag e) es) h))
    (entries_typed l len (seen || is_packet_tag e) es (or_second (entry_fault l len true seen e) (entries_fault l len true (seen || is_packet_tag e) es) h))

short_value : (word size start end : ℕ) → nat_lt word size ≡ false → end ≡ start + size → end ≤ start + word
short_value word size start end h e = (let s : size ≤ word = grind (arith, nat_tests, h) in omega (arith, s, e))

is_tag : (tag own : ℕ) → tag ≡ 700 → own ≡ tag → (own == 700) ≡ true
is_tag tag own h e = grind (arith, nat_tests, h, e)

first_stands : (l : Layout) (file : List ℕ) (at : ℕ) → Widths l → fault_at l file [] at ≡ None → (tag : ℕ) (e : Entry) → first_of_tag tag (entries_at l file at) ≡ Some e → Stands l file tag e
unfolding fault_at
first_stands l file at w h tag e is =
    let es = entries_at l file at in
    let here = directory_in l file [] at (or_first (place_fault l file [] at) (inner_fault l file true es) h) in
    let inner = or_second (place_fault l file [] at) (inner_fault l file true es) h in
    let faults = or_first (entries_fault l (length file) true false es) (pictures_fault (length file) (pictures_of l file es)) inner in
    let spans = (find_all (Spans l) (λ x. x.tag == tag) es e (entries_spans l file (at + l.count) (count_at l file at)) is).spans in
    let inside : All (λ x. x.value.end ≤ length file) es = entries_in_file l file (length file) true false (at + l.count) (count_at l file at) w (omega (arith, here)) faults in
    record {
      order = omega (arith, spans);
      within = find_all (λ x. x.value.end ≤ length file) (λ x. x.tag == tag) es e inside is;
      short = λ near. short_value l.word (size_of l e.code * e.count) e.value.start e.value.end near spans;
      typed = λ same. find_all IsTyped (λ x. x.tag == tag) es e (entries_typed l (length file) false es faults) is (is_tag tag e.tag same (found_tag tag es e is));
    }

stands_by : (file offsets : List ℕ) → Walks file offsets → (tag : ℕ) (e : Entry) → first_entry tag (map (dir_at (layout_of file) file) offsets) ≡ Some e → Stands (layout_of file) file tag e
stands_by file [] w tag e is = absurd (cc is)
stands_by file (at ∷ rest) w tag e is = first_stands (layout_of file) file at (layout_widths file) (w.reaches.sound 0 at refl) tag e is

pub entry_stands : (file : List ℕ) (tiff : Tiff) → Found file tiff → (tag : ℕ) (e : Entry) → first_entry tag tiff.dirs ≡ Some e → Stands tiff.layout file tag e
entry_stands file tiff found tag e is =
    let back = sym found.is in
    subst (λ (t : Tiff). Stands t.layout file tag e) back (stands_by file found.offsets found.walks tag e (ap (λ (t : Tiff). first_entry tag t.dirs) back ∙ is))
