-- A file that agrees with another in its tables, and is no shorter, has the same directories.
use Rattle.std.proofs.Common.{◌≡◌, ◌≢◌, ◌==◌, ℕ, ◌+◌, ◌≤◌, nat_le, nat_lt, ◌&&◌, ◌||◌, not, Bool, true, false, if◌then◌else◌, List, [], ◌∷◌, ◌++◌, length, take, map, refl, sym, ap, subst, ◌∙◌, arith, None, Some, All, Contains}
use Rattle.std.specs.declared.option.Option.{Option}
use Rattle.std.specs.List.{flat_map, slice_get, list_any}
use Rattle.std.specs.Option.{option_or}
use Rattle.std.proofs.lemmas.Bool.Decides.{nat_tests}
use Rattle.std.proofs.lemmas.List.Elements.{All-contains, Contains-append_right}
use Rattle.std.proofs.lemmas.Option.{slice_get_within, get_or_from_slice_get}
use Rattle.xmp_base.specs.declared.file_span.FileSpan.{FileSpan}
use Rattle.xmp_values.specs.declared.rules.Rule.TheVariants.{DirectoryLong, DirectoryOut, DirectoryTwice, TooManyDirectories}
use Rattle.tiff_dirs.specs.declared.layout.Layout.{Layout}
use Rattle.tiff_dirs.specs.declared.entry.Entry.{Entry}
use Rattle.tiff_dirs.specs.declared.stop.TiffStop.{TiffStop}
use Rattle.tiff_dirs.specs.declared.stop.TiffStop.TheVariants.{Fault}
use Rattle.tiff_dirs.specs.Numbers.{number}
use Rattle.tiff_dirs.specs.Layouts.{Widths, classic, wide, layout_by, layout_of}
use Rattle.tiff_dirs.specs.Directories.{span, entries_at, count_at, end_at, next_place, chained, named, children}
use Rattle.tiff_dirs.specs.Pictures.{Picture, pictures_of, spans_of}
use Rattle.tiff_dirs.specs.Faults.{broken, value_out, tag_fault, entry_fault, entries_fault, pictures_fault, inner_fault, place_fault, fault_at, is_packet_tag}
use Rattle.tiff_dirs.specs.Offsets.{first_offset, all_named, Reaches, Walks}
use Rattle.tiff_dirs.specs.Tiff.{Dir, Tiff, dir_at, pictures_at, tiff_of}
use Rattle.tiff_dirs.specs.Tables.{tables_in, tables_at, tables_of}
use Rattle.tiff_dirs.specs.Frames.{bytes_in, Agree}
use Rattle.tiff_dirs.proofs.Frames.{Spans, number_same, directory_same, count_is_same, end_same, next_same, entries_spans, named_same, pictures_same}
use Rattle.tiff_dirs.proofs.Sizes.{header_least}
use Rattle.tiff_dirs.proofs.Unique.{front_in}
use Rattle.tiff_dirs.proofs.Walks.{flat_in}

pub or_first : (x y : Option TiffStop) → option_or x y ≡ None → x ≡ None
or_first None y e = refl
or_first (Some x) y e = e

pub or_second : (x y : Option TiffStop) → option_or x y ≡ None → y ≡ None
or_second None y e = e
or_second (Some x) y e = (cc)

pub or_none : (x y : Option TiffStop) → x ≡ None → y ≡ None → option_or x y ≡ None
or_none x y a b = ap (λ (p : Option TiffStop). option_or p y) a ∙ b

-- a bound that is no less
less_by : (o p : Bool) (x t : Option TiffStop) → (p ≡ true → o ≡ true) → x ≢ None → (if o then x else t) ≡ None → (if p then x else t) ≡ None
less_by true p x t h n e = absurd (n e)
less_by false true x t h n e = absurd (let k = h refl in (cc))
less_by false false x t h n e = e

out_less : (len more : ℕ) (apart : Bool) (end : ℕ) → len ≤ more → (apart && nat_lt more end) ≡ true → (apart && nat_lt len end) ≡ true
out_less len more apart end h e = grind (arith, nat_tests, h, e)

entry_longer : (l : Layout) (len more : ℕ) (first seen : Bool) (e : Entry) → len ≤ more → entry_fault l len first seen e ≡ None → entry_fault l more first seen e ≡ None
entry_longer l len more first seen e h n = less_by (value_out l len e) (value_out l more e) _ (tag_fault first seen e) (out_less len more _ e.value.end h) (λ i. (cc)) n

entries_longer : (l : Layout) (len more : ℕ) (first seen : Bool) (es : List Entry) → len ≤ more → entries_fault l len first seen es ≡ None → entries_fault l more first seen es ≡ None
entries_longer l len more first seen [] h n = refl
entries_longer l len more first seen (e ∷ es) h n =
    or_none (entry_fault l more first seen e) (entries_fault l more first (seen || is_packet_tag e) es)
    (entry_longer l len more first seen e h (or_first (entry_fault l len first seen e) (entries_fault l len first (seen || is_packet_tag e) es) n))
    (entries_longer l len more first (seen || is_packet_tag e) es h (or_second (entry_fault l len first seen e) (entries_fault l len first (seen || is_packet_tag e) es) n))

lt_less : (len more end : ℕ) → len ≤ more → nat_lt more end ≡ true → nat_lt len end ≡ true
lt_less len more end h e = grind (arith, nat_tests, h, e)

rest_of : (o : Bool) (x t : Option TiffStop) → x ≢ None → (if o then x else t) ≡ None → t ≡ None
rest_of true x t n e = absurd (n e)
rest_of false x t n e = e

none_by : (o p : Bool) (x t u : Option TiffStop) → (p ≡ true → o ≡ true) → x ≢ None → (if o then x else t) ≡ None → u ≡ None → (if p then x else u) ≡ None
none_by true p x t u h n e d = absurd (n e)
none_by false true x t u h n e d = absurd (let k = h refl in (cc))
none_by false false x t u h n e d = d

pictures_longer : (len more : ℕ) (ps : List Picture) → len ≤ more → pictures_fault len ps ≡ None → pictures_fault more ps ≡ None
pictures_longer len more [] h n = refl
pictures_longer len more (p ∷ ps) h n =
    none_by (nat_lt len p.range.end) (nat_lt more p.range.end) _ (pictures_fault len ps) (pictures_fault more ps) (lt_less len more p.range.end h) (λ i. (cc)) n
    (pictures_longer len more ps h (rest_of (nat_lt len p.range.end) _ (pictures_fault len ps) (λ i. (cc)) n))

place_cases : (m y i j : Bool) (x u v w : Option TiffStop) → (i ≡ true → j ≡ true) → x ≢ None → u ≢ None → v ≢ None
    → (if m then x else (if y then u else (if not i then v else w))) ≡ None
    → (if m then x else (if y then u else (if not j then v else w))) ≡ None
place_cases true y i j x u v w h nx nu nv e = absurd (nx e)
place_cases false true i j x u v w h nx nu nv e = absurd (nu e)
place_cases false false false j x u v w h nx nu nv e = absurd (nv e)
place_cases false false true true x u v w h nx nu nv e = e
place_cases false false true false x u v w h nx nu nv e = absurd (let k = h refl in (cc))

inside_more : (header at end len more : ℕ) → len ≤ more → (nat_le header at && nat_le end len) ≡ true → (nat_le header at && nat_le end more) ≡ true
inside_more header at end len more h e = grind (arith, nat_tests, h, e)

abbrev pub place_by : Bool → Bool → ℕ → ℕ → ℕ → ℕ → ℕ → Option TiffStop
place_by many any header at end len n =
    if many then broken TooManyDirectories at
    else (if any then broken DirectoryTwice at
    else (if not (nat_le header at && nat_le end len) then broken DirectoryOut at
    else (if nat_lt 65535 n then Some (Fault DirectoryLong at n 65535) else None)))

place_more : (many any : Bool) (header at end len more n : ℕ) → len ≤ more → place_by many any header at end len n ≡ None → place_by many any header at end more n ≡ None
place_more many any header at end len more n h e =
    place_cases many any (nat_le header at && nat_le end len) (nat_le header at && nat_le end more) (broken TooManyDirectories at) (broken DirectoryTwice at) (broken DirectoryOut at)
    (if nat_lt 65535 n then Some (Fault DirectoryLong at n 65535) else None) (inside_more header at end len more h) (λ i. (cc)) (λ i. (cc)) (λ i. (cc)) e

place_longer : (l : Layout) (a b before : List ℕ) (at : ℕ) → length a ≤ length b → end_at l b at ≡ end_at l a at → count_at l b at ≡ count_at l a at
    → place_fault l a before at ≡ None → place_fault l b before at ≡ None
unfolding place_fault
place_longer l a b before at h end count e =
    let many = nat_le 1000 (length before) in
    let any = list_any (λ x. x == at) before in
    let longer : place_by many any l.header at (end_at l a at) (length b) (count_at l a at) ≡ None = place_more many any l.header at (end_at l a at) (length a) (length b) (count_at l a at) h e in
    subst (λ (k : ℕ). place_by many any l.header at k (length b) (count_at l b at) ≡ None) (sym end)
    (subst (λ (n : ℕ). place_by many any l.header at (end_at l a at) (length b) n ≡ None) (sym count) longer)

head_in : (x : FileSpan) (rest : List FileSpan) → Contains (x ∷ rest) x
head_in x rest = (0, omega arith, refl)

module _ (l : Layout) (widths : Widths l) (a b : List ℕ) (longer : length a ≤ length b) (at : ℕ) (same : (r : FileSpan) → Contains (tables_at l a at) r → bytes_in b r ≡ bytes_in a r) where
  directory : bytes_in b (span at (end_at l a at)) ≡ bytes_in a (span at (end_at l a at))
  directory = same (span at (end_at l a at)) (head_in (span at (end_at l a at)) (tables_in (entries_at l a at)))

  values : (r : FileSpan) → Contains (tables_in (entries_at l a at)) r → bytes_in b r ≡ bytes_in a r
  values r h = same r (Contains-append_right (span at (end_at l a at) ∷ []) (tables_in (entries_at l a at)) r h)

  entries : entries_at l b at ≡ entries_at l a at
  entries = directory_same l widths a b at directory

  spans : All (Spans l) (entries_at l a at)
  spans = entries_spans l a (at + l.count) (count_at l a at)

  pictures : pictures_of l b (entries_at l b at) ≡ pictures_of l a (entries_at l a at)
  pictures = ap (pictures_of l b) entries ∙ pictures_same l a b (entries_at l a at) spans values

  pub children_same : children l b at ≡ children l a at
  unfolding children
  children_same =
      ap (λ (es : List Entry). flat_map (named l b) es ++ chained (number l.big l.word (next_place l b at) b)) entries
      ∙ ap (λ (t : List ℕ). t ++ chained (number l.big l.word (next_place l b at) b)) (named_same l a b (entries_at l a at) spans values)
      ∙ ap (λ (n : ℕ). flat_map (named l a) (entries_at l a at) ++ chained n) (next_same l widths a b at directory)

  pub fault_same : (before : List ℕ) → fault_at l a before at ≡ None → fault_at l b before at ≡ None
  unfolding fault_at
  fault_same before e =
      let first = length before == 0 in
      let es = entries_at l a at in
      let here = or_first (place_fault l a before at) (inner_fault l a first es) e in
      let inner = or_second (place_fault l a before at) (inner_fault l a first es) e in
      let faults = or_first (entries_fault l (length a) first false es) (pictures_fault (length a) (pictures_of l a es)) inner in
      let shown = or_second (entries_fault l (length a) first false es) (pictures_fault (length a) (pictures_of l a es)) inner in
      or_none (place_fault l b before at) (inner_fault l b first (entries_at l b at))
      (place_longer l a b before at longer (end_same l widths a b at directory) (count_is_same l widths a b at directory) here)
      (or_none (entries_fault l (length b) first false (entries_at l b at)) (pictures_fault (length b) (pictures_of l b (entries_at l b at)))
      (subst (λ (xs : List Entry). entries_fault l (length b) first false xs ≡ None) (sym entries) (entries_longer l (length a) (length b) first false es longer faults))
      (subst (λ (ps : List Picture). pictures_fault (length b) ps ≡ None) (sym pictures) (pictures_longer (length a) (length b) (pictures_of l a es) longer shown)))

  abbrev dir_as : ℕ → List Entry → Dir
  dir_as end es = record { at = at; end = end; entries = es }

  pub dir_same : dir_at l b at ≡ dir_at l a at
  dir_same = ap (λ (n : ℕ). dir_as n (entries_at l b at)) (end_same l widths a b at directory) ∙ ap (dir_as (end_at l a at)) entries

  pub shown_same : pictures_at l b at ≡ pictures_at l a at
  shown_same = ap spans_of pictures

pub member : (xs : List ℕ) (k x : ℕ) → slice_get xs k ≡ Some x → Contains xs x
member xs k x e = (k, slice_get_within xs k x e, get_or_from_slice_get xs k x x e)

pub tail_member : (y : ℕ) (ys : List ℕ) (x : ℕ) → Contains ys x → Contains (y ∷ ys) x
tail_member y ys x h = Contains-append_right (y ∷ []) ys x h

module _ (l : Layout) (widths : Widths l) (a b : List ℕ) (longer : length a ≤ length b) (whole : List ℕ) (same : (r : FileSpan) → Contains (tables_of l a whole) r → bytes_in b r ≡ bytes_in a r) where
  at_same : (at : ℕ) → Contains whole at → (r : FileSpan) → Contains (tables_at l a at) r → bytes_in b r ≡ bytes_in a r
  at_same at h r m = same r (Contains-append_right (span 0 l.header ∷ []) (flat_map (tables_at l a) whole) r (flat_in (tables_at l a) whole at r h m))

  header_same : bytes_in b (span 0 l.header) ≡ bytes_in a (span 0 l.header)
  header_same = same (span 0 l.header) (head_in (span 0 l.header) (flat_map (tables_at l a) whole))

  first_same : first_offset l b ≡ first_offset l a
  first_same = let h = widths.header in number_same a b (span 0 l.header) header_same l.big l.word l.word (omega arith) (omega (arith, h))

  named_all : (xs : List ℕ) → ((x : ℕ) → Contains xs x → Contains whole x) → flat_map (children l b) xs ≡ flat_map (children l a) xs
  named_all [] sub = refl
  named_all (x ∷ xs) sub =
      ap (λ (t : List ℕ). t ++ flat_map (children l b) xs) (children_same l widths a b longer x (at_same x (sub x (0, omega arith, refl))))
      ∙ ap (λ (t : List ℕ). children l a x ++ t) (named_all xs (λ y h. sub y (tail_member x xs y h)))

  all_same : (xs : List ℕ) → ((x : ℕ) → Contains xs x → Contains whole x) → all_named l b xs ≡ all_named l a xs
  unfolding all_named
  all_same xs sub = ap (λ (n : ℕ). n ∷ flat_map (children l b) xs) first_same ∙ ap (λ (t : List ℕ). first_offset l a ∷ t) (named_all xs sub)

  dirs_same : (xs : List ℕ) → ((x : ℕ) → Contains xs x → Contains whole x) → map (dir_at l b) xs ≡ map (dir_at l a) xs
  dirs_same [] sub = refl
  dirs_same (x ∷ xs) sub =
      ap (λ (d : Dir). d ∷ map (dir_at l b) xs) (dir_same l widths a b longer x (at_same x (sub x (0, omega arith, refl))))
      ∙ ap (λ (t : List Dir). dir_at l a x ∷ t) (dirs_same xs (λ y h. sub y (tail_member x xs y h)))

  all_shown : (xs : List ℕ) → ((x : ℕ) → Contains xs x → Contains whole x) → flat_map (pictures_at l b) xs ≡ flat_map (pictures_at l a) xs
  all_shown [] sub = refl
  all_shown (x ∷ xs) sub =
      ap (λ (t : List FileSpan). t ++ flat_map (pictures_at l b) xs) (shown_same l widths a b longer x (at_same x (sub x (0, omega arith, refl))))
      ∙ ap (λ (t : List FileSpan). pictures_at l a x ++ t) (all_shown xs (λ y h. sub y (tail_member x xs y h)))

  reaches_same : Reaches l a whole → Reaches l b whole
  reaches_same r = record {
    each = λ k at e. ap (λ (t : List ℕ). slice_get t k) (all_same (take k whole) (λ x h. front_in whole k x h)) ∙ r.each k at e;
    sound = λ k at e. fault_same l widths a b longer at (at_same at (member whole k at e)) (take k whole) (r.sound k at e);
  }

abbrev tiff_as : Layout → List Dir → List FileSpan → Tiff
tiff_as l dirs pictures = record { layout = l; dirs = dirs; pictures = pictures }

widths_by : (t big : Bool) → Widths (if t then wide big else classic big)
widths_by true big = record { entry = refl; least_word = omega arith; most_word = omega arith; least_count = omega arith; most_count = omega arith; header = refl }
widths_by false big = record { entry = refl; least_word = omega arith; most_word = omega arith; least_count = omega arith; most_count = omega arith; header = refl }

pub layout_widths : (file : List ℕ) → Widths (layout_of file)
layout_widths file = let big = number true 2 0 file == 0x4D4D in widths_by (number big 2 2 file == 43) big

layout_same : (a b : List ℕ) → bytes_in b (span 0 (layout_of a).header) ≡ bytes_in a (span 0 (layout_of a).header) → layout_of b ≡ layout_of a
layout_same a b same =
    let least = header_least a in
    ap (λ (n : ℕ). layout_by (n == 0x4D4D) (number (n == 0x4D4D) 2 2 b)) (number_same a b (span 0 (layout_of a).header) same true 2 0 (omega arith) (omega (arith, least)))
    ∙ ap (layout_by (number true 2 0 a == 0x4D4D)) (number_same a b (span 0 (layout_of a).header) same (number true 2 0 a == 0x4D4D) 2 2 (omega arith) (omega (arith, least)))

pub framed : (a b offsets : List ℕ) → Walks a offsets → length a ≤ length b → Agree a b (tables_of (layout_of a) a offsets) → Walks b offsets × (tiff_of b offsets ≡ tiff_of a offsets)
framed a b offsets w longer agree =
    let l = layout_of a in
    let widths = layout_widths a in
    let same : (r : FileSpan) → Contains (tables_of l a offsets) r → bytes_in b r ≡ bytes_in a r = λ r h. All-contains (λ x. bytes_in b x ≡ bytes_in a x) (tables_of l a offsets) r agree h in
    let one : layout_of b ≡ l = layout_same a b (same (span 0 l.header) (head_in (span 0 l.header) (flat_map (tables_at l a) offsets))) in
    let header : l.header ≤ length b = (let h = w.header in omega (arith, h, longer)) in
    let back = sym one in
    let all : all_named l b offsets ≡ offsets = all_same l widths a b longer offsets same offsets (λ x h. h) ∙ w.all in
    let reaches : Reaches l b offsets = reaches_same l widths a b longer offsets same w.reaches in (
      record {
        header = subst (λ (m : Layout). m.header ≤ length b) back header;
        reaches = subst (λ (m : Layout). Reaches m b offsets) back reaches;
        all = subst (λ (m : Layout). all_named m b offsets ≡ offsets) back all;
      },
      ap (λ (m : Layout). tiff_as m (map (dir_at m b) offsets) (flat_map (pictures_at m b) offsets)) one
          ∙ ap (λ (ds : List Dir). tiff_as l ds (flat_map (pictures_at l b) offsets)) (dirs_same l widths a b longer offsets same offsets (λ x h. h))
          ∙ ap (tiff_as l (map (dir_at l a) offsets)) (all_shown l widths a b longer offsets same offsets (λ x h. h)),
    )
