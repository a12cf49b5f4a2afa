-- The new file of one that has no entry of the packet: its first directory is a copy, behind the old bytes.
use Rattle.std.proofs.Common.{◌≡◌, ◌∙◌, ℕ, ◌+◌, ◌-◌, ◌*◌, ◌^◌, ◌<◌, ◌≤◌, inl, inr, ◌==◌, ◌&&◌, Bool, true, false, if◌then◌else◌, List, [], ◌∷◌, ◌++◌, length, map, take, drop, refl, sym, ap, subst, arith, All, Contains, None, Some}
use Rattle.std.specs.declared.option.Option.{Option}
use Rattle.std.specs.List.{flat_map}
use Rattle.std.proofs.lemmas.List.{length-append, length-replicate}
use Rattle.std.proofs.lemmas.List.Elements.{All-cons, All-append, All-contains, All-head, All-tail, All-weaker, Contains-append_left, Contains-append_right}
use Rattle.xmp_base.specs.Device.{put_at}
use Rattle.xmp_base.specs.declared.file_span.FileSpan.{FileSpan}
use Rattle.tiff_dirs.specs.declared.layout.Layout.{Layout}
use Rattle.tiff_dirs.specs.declared.entry.Entry.{Entry}
use Rattle.tiff_dirs.specs.Layouts.{Widths, layout_by, layout_of}
use Rattle.tiff_dirs.specs.Numbers.{number}
use Rattle.tiff_dirs.specs.Types.{is_packet}
use Rattle.tiff_dirs.specs.Directories.{count_at, end_at, entries_at, is_apart, span}
use Rattle.tiff_dirs.specs.Faults.{fault_at}
use Rattle.tiff_dirs.specs.Frames.{Agree, bytes_in}
use Rattle.tiff_dirs.specs.Model.{Found, IsTiff}
use Rattle.tiff_dirs.specs.Offsets.{Walks, first_offset}
use Rattle.tiff_dirs.specs.Overlaps.{Clear, NoOverlap, apart_of, dir_span, named_in, others, own, own_of, without}
use Rattle.tiff_dirs.specs.Pictures.{first_of_tag}
use Rattle.tiff_dirs.specs.Tables.{tables_at}
use Rattle.tiff_dirs.specs.Tiff.{Dir, Tiff, dir_at, first_entry, pictures_at, tiff_of}
use Rattle.tiff_dirs.proofs.Appended.{tables_lie}
use Rattle.tiff_dirs.proofs.Exchanged.{exchanged as exchanged_first}
use Rattle.tiff_dirs.proofs.Framed.{layout_widths}
use Rattle.tiff_dirs.proofs.Frames.{number_same}
use Rattle.tiff_dirs.proofs.Shown.{find_all}
use Rattle.tiff_relocation.specs.Relocation.{copy_by, copy_bytes, cut_place, entries_before, even, number_bytes, packet_entry, packet_place_by, pad, pad_len}
use Rattle.tiff_relocation.proofs.Copied.{IsKept, IsPacket, behind, bytes_length, reads_back}
use Rattle.tiff_relocation.proofs.CopyBytes.{HasCopy, copy_stands, end_moved}
use Rattle.tiff_relocation.proofs.Grown.{HasPacket, found_grown, own_copied}
use Rattle.tiff_relocation.proofs.Inside.{EndsIn, IsAway, all_away, all_named_inside, all_shown_inside, each_range, ends_inside, entries_inside, not_behind, values_inside}
use Rattle.tiff_relocation.proofs.Lengths.{copy_length}
use Rattle.tiff_relocation.proofs.Lying.{before_all, entries_count, even_most}
use Rattle.tiff_relocation.proofs.NewFirst.{all_plain, children_moved, fault_moved, grown, pictures_moved}
use Rattle.tiff_relocation.proofs.Plain.{IsPlain, packet_found, without_grown, without_packet}
use Rattle.tiff_relocation.proofs.Untouched.{added, exchanged, now_size, untouched}
use Rattle.tiff_relocation.proofs.Words.{pow_count}

-- values that stand apart have their bytes where these are untouched
kept_all : (l : Layout) (a b : List ℕ) (c : FileSpan) (len : ℕ) → ((r : FileSpan) → r.end ≤ len → IsAway c r → bytes_in b r ≡ bytes_in a r)
    → (es : List Entry) → All (λ e. e.value.end ≤ len) es → All (IsAway c) (flat_map (apart_of l) es) → All (IsKept l a b) es
kept_all l a b c len same [] inside away = λ k d low. absurd (omega arith)
kept_all l a b c len same (e ∷ es) inside away =
    All-cons (IsKept l a b) e es
    (λ far. same e.value (All-head (λ (x : Entry). x.value.end ≤ len) e es inside)
    (All-contains (IsAway c) (apart_of l e ++ flat_map (apart_of l) es) e.value away (Contains-append_left (apart_of l e) (flat_map (apart_of l) es) e.value (one_by (is_apart l e) e.value far))))
    (kept_all l a b c len same es (All-tail (λ (x : Entry). x.value.end ≤ len) e es inside)
    (each_range (IsAway c) (flat_map (apart_of l) es) (λ r m. All-contains (IsAway c) (apart_of l e ++ flat_map (apart_of l) es) r away (Contains-append_right (apart_of l e) (flat_map (apart_of l) es) r m))))
  where
    one_by : (t : Bool) (v : FileSpan) → t ≡ true → Contains (if t then v ∷ [] else []) v
    one_by true v is = (0, omega arith, refl)
    one_by false v is = absurd (cc is)

module _ (a : List ℕ) (at : ℕ) (rest : List ℕ) (walks : Walks a (at ∷ rest)) (packet : List ℕ) where
  abbrev pub l : Layout
  l = layout_of a

  w : Widths l
  w = layout_widths a

  abbrev pub d : Dir
  d = dir_at l a at

  abbrev pub size : ℕ
  size = length a

  -- where the copy stands, and the packet
  abbrev pub new : ℕ
  new = even size

  abbrev pub place : ℕ
  place = packet_place_by l size d None

  abbrev pub value : FileSpan
  value = span place (place + length packet)

  abbrev before : ℕ
  before = entries_before d.entries

  abbrev later : ℕ
  later = count_at l a at - before

  abbrev numbers : List ℕ
  numbers = number_bytes l.big l.word new

  abbrev copy : List ℕ
  copy = copy_bytes a (copy_by l size d (length packet) None)

  abbrev more : List ℕ
  more = pad size ++ (copy ++ packet)

  -- the new file
  abbrev pub now : List ℕ
  now = put_at a l.word numbers ++ more

  abbrev pub header_numbers : FileSpan
  header_numbers = span l.word (2 * l.word)

  abbrev pub pictures : List FileSpan
  pictures = flat_map (pictures_at l a) (at ∷ rest)

  -- the ranges that the other directories name, and the pictures
  abbrev pub farther : List FileSpan
  farther = flat_map (λ e. named_in l e e.entries) (map (dir_at l a) rest) ++ pictures

  clear : fault_at l a [] at ≡ None
  clear = walks.reaches.sound 0 at refl

  here : end_at l a at ≤ size
  here = ends_inside l w a [] at clear

  header : 2 * l.word ≤ size
  header = let h = walks.header in let double = w.header in omega (arith, h, double)

  room_for : l.word + length numbers ≤ size
  room_for = omega (arith, header, bytes_length l.big l.word new)

  whole : count_at l a at ≡ before + later
  whole = let few = before_all d.entries in let count = entries_count l a (at + l.count) (count_at l a at) in omega (arith, few, count)

  -- bytes of the old file other than those numbers
  pub stays : (r : FileSpan) → r.end ≤ size → IsAway header_numbers r → bytes_in now r ≡ bytes_in a r
  stays r high away =
      let end : 2 * l.word ≡ l.word + length numbers = omega (arith, bytes_length l.big l.word new) in
      untouched a l.word numbers more room_for r high (subst (λ (n : ℕ). IsAway (span l.word n) r) end away)

  -- The copy.

  product : l.entry * count_at l a at ≡ l.entry * before + l.entry * later
  product = ap (λ (n : ℕ). l.entry * n) whole ∙ omega arith

  abbrev copy_as : ℕ → ℕ → ℕ → List ℕ
  copy_as n first last =
      number_bytes l.big l.count (n + 1)
      ++ (take first (drop (at + l.count) a) ++ (packet_entry l (length packet) place ++ take last (drop (cut_place l d) a)))

  copy_is : copy ≡ copy_as (before + later) (l.entry * before) (l.entry * later + l.word)
  copy_is =
      let count : length d.entries ≡ before + later = entries_count l a (at + l.count) (count_at l a at) ∙ whole in
      let first : cut_place l d - (at + l.count) ≡ l.entry * before = omega arith in
      let last : d.end - cut_place l d ≡ l.entry * later + l.word = omega (arith, product) in
      ap (λ (n : ℕ). copy_as n (cut_place l d - (at + l.count)) (d.end - cut_place l d)) count
      ∙ ap (λ (n : ℕ). copy_as (before + later) n (d.end - cut_place l d)) first
      ∙ ap (copy_as (before + later) (l.entry * before)) last

  stands_behind : drop new now ≡ copy ++ packet
  stands_behind = behind now (pad size) (copy ++ packet) size new (pad_len size) (added a l.word numbers more room_for) (length-replicate {A = ℕ} (pad_len size) 0) refl

  copy_size : new + length copy ≡ place
  copy_size =
      copy_length l a d (length packet) None w (omega arith, omega (arith, here, product)) (omega (arith, product), here)

  now_length : length now ≡ place + length packet
  now_length =
      omega (arith, now_size a l.word numbers more room_for, copy_size, length-append (pad size) (copy ++ packet), length-append copy packet, length-replicate {A = ℕ} (pad_len size) 0)

  -- What the law asks for.

  module _ (away : All (IsAway header_numbers) (dir_span d ∷ (flat_map (apart_of l) d.entries ++ farther))) (room : length d.entries < 65535) (long : l.word < length packet)
      (told : place + length packet < 256 ^ l.word) (none : first_of_tag 700 d.entries ≡ None) where
    fits : before + later + 1 < 256 ^ l.count
    fits = omega (arith, pow_count l.count w.least_count, room, whole, entries_count l a (at + l.count) (count_at l a at))

    copied : HasCopy l a now at new before later value
    copied =
        copy_stands l w a now packet at new before later (length packet) place whole here (stands_behind ∙ ap (λ (t : List ℕ). t ++ packet) copy_is) fits long (omega (arith, told)) (omega (arith, told))

    kept : All (IsKept l a now) d.entries
    kept =
        kept_all l a now header_numbers size stays d.entries (entries_inside l w a [] at clear)
        (each_range (IsAway header_numbers) (flat_map (apart_of l) d.entries) (λ r m.
        All-contains (IsAway header_numbers) (flat_map (apart_of l) d.entries ++ farther) r (All-tail (IsAway header_numbers) (dir_span d) (flat_map (apart_of l) d.entries ++ farther) away)
        (Contains-append_left (flat_map (apart_of l) d.entries) farther r m)))

    ends : end_at l now new ≡ place
    ends = let moved = end_moved l w a now at new before later value copied in omega (arith, moved)

    same_layout : layout_of now ≡ l
    same_layout =
        let least = w.least_word in
        let same = stays (span 0 l.word) (omega (arith, header)) (λ m. let low = m.0 in omega (arith, low)) in
        ap (λ (n : ℕ). layout_by (n == 0x4D4D) (number (n == 0x4D4D) 2 2 now)) (number_same a now (span 0 l.word) same true 2 0 (omega arith) (omega (arith, least)))
        ∙ ap (layout_by (number true 2 0 a == 0x4D4D)) (number_same a now (span 0 l.word) same (number true 2 0 a == 0x4D4D) 2 2 (omega arith) (omega (arith, least)))

    first_named : first_offset l now ≡ new
    first_named =
        reads_back l.big l.word new l.word now (drop (l.word + length numbers) a ++ more) (omega (arith, told)) (exchanged a l.word numbers more room_for)

    new_first : HasPacket l a now value before d.entries (entries_at l now new)
    new_first = grown l w a now at new before later value copied kept

    plain : All (IsPlain l size) d.entries
    plain = all_plain l w a now at new before later value copied kept clear none

    longer : size ≤ length now
    longer = omega (arith, now_length, even_most size, copy_size)

    new_clear : fault_at l now [] new ≡ None
    new_clear =
        let double = w.header in
        let even_is = even_most size in
        fault_moved l w a now at new before later value copied kept clear none longer (omega (arith, now_length)) (omega (arith, header, double, even_is.0)) (omega (arith, now_length, ends))
        (omega (arith, room, whole, entries_count l a (at + l.count) (count_at l a at)))

    fresh : Contains rest new → ⊥
    fresh m =
        let low = not_behind a (at ∷ rest) walks new (Contains-append_right (at ∷ []) rest new m) in
        let even_is = even_most size in
        omega (arith, low, even_is.0)

    farther_away : All (IsAway header_numbers) farther
    farther_away =
        each_range (IsAway header_numbers) farther (λ r m.
        All-contains (IsAway header_numbers) (flat_map (apart_of l) d.entries ++ farther) r (All-tail (IsAway header_numbers) (dir_span d) (flat_map (apart_of l) d.entries ++ farther) away)
        (Contains-append_right (flat_map (apart_of l) d.entries) farther r m))

    agree : Agree a now (flat_map (tables_at l a) rest)
    agree =
        each_range (λ r. bytes_in now r ≡ bytes_in a r) (flat_map (tables_at l a) rest) (λ r m.
        stays r (tables_lie a (at ∷ rest) walks r (Contains-append_right (span 0 l.header ∷ tables_at l a at) (flat_map (tables_at l a) rest) r m))
        (all_away l w a header_numbers rest (each_range (IsAway header_numbers) (flat_map (λ e. named_in l e e.entries) (map (dir_at l a) rest)) (λ s k.
        All-contains (IsAway header_numbers) farther s farther_away (Contains-append_left (flat_map (λ e. named_in l e e.entries) (map (dir_at l a) rest)) pictures s k))) r m))

    new_walks : Walks now (new ∷ rest) × (map (dir_at (layout_of now) now) rest ≡ map (dir_at l a) rest) × (flat_map (pictures_at (layout_of now) now) rest ≡ flat_map (pictures_at l a) rest)
    new_walks = exchanged_first a now at new rest walks longer same_layout first_named (children_moved l w a now at new before later value copied kept) new_clear fresh agree

    -- the directories and the pictures of the new file
    abbrev pub tiff_now : Tiff
    tiff_now = record { layout = l; dirs = dir_at l now new ∷ map (dir_at l a) rest; pictures = pictures }

    abbrev tiff_as : Layout → Dir → List Dir → List FileSpan → List FileSpan → Tiff
    tiff_as m first dirs shown others = record { layout = m; dirs = first ∷ dirs; pictures = shown ++ others }

    tiff_is : tiff_now ≡ tiff_of now (new ∷ rest)
    tiff_is =
        let back = sym same_layout in
        ap (λ (t : List FileSpan). tiff_as l (dir_at l now new) (map (dir_at l a) rest) t (flat_map (pictures_at l a) rest)) (sym (pictures_moved l w a now at new before later value copied kept))
        ∙ ap (λ (t : List FileSpan). tiff_as l (dir_at l now new) (map (dir_at l a) rest) (pictures_at l now new) t) (sym new_walks.2)
        ∙ ap (λ (ds : List Dir). tiff_as l (dir_at l now new) ds (pictures_at l now new) (flat_map (pictures_at (layout_of now) now) rest)) (sym new_walks.1)
        ∙ ap (λ (m : Layout). tiff_as m (dir_at m now new) (map (dir_at (layout_of now) now) rest) (pictures_at m now new) (flat_map (pictures_at (layout_of now) now) rest)) back

    pub found : Found now tiff_now
    found = record { offsets = new ∷ rest; walks = new_walks.0; is = tiff_is }

    -- No named range meets the packet or the resources value.

    farther_inside : All (EndsIn size) farther
    farther_inside =
        All-append (EndsIn size) (flat_map (λ e. named_in l e e.entries) (map (dir_at l a) rest)) pictures
        (all_named_inside a (at ∷ rest) walks rest (λ x m. Contains-append_right (at ∷ []) rest x m)) (all_shown_inside a (at ∷ rest) walks (at ∷ rest) (λ x m. m))

    size_low : size ≤ place
    size_low = let even_is = even_most size in omega (arith, copy_size, even_is.0)

    behind_all : (r : FileSpan) → r.end ≤ place → IsAway value r
    behind_all r low m = let start = m.0 in omega (arith, low, start)

    others_low : All (EndsIn place) (others 700 tiff_now)
    others_low =
        let double = w.header in
        let apart : All (EndsIn size) (flat_map (apart_of l) (without 700 (entries_at l now new))) =
        subst (All (EndsIn size)) (sym (without_packet l a now value size before d.entries (entries_at l now new) new_first plain)) (values_inside l size d.entries (entries_inside l w a [] at clear)) in
        let low : All (EndsIn place) (flat_map (apart_of l) (without 700 (entries_at l now new)) ++ farther) =
        All-weaker (EndsIn size) (EndsIn place) (λ r h. omega (arith, h, size_low)) (flat_map (apart_of l) (without 700 (entries_at l now new)) ++ farther)
        (All-append (EndsIn size) (flat_map (apart_of l) (without 700 (entries_at l now new))) farther apart farther_inside) in
        All-cons (EndsIn place) (span 0 l.header) (dir_span (dir_at l now new) ∷ (flat_map (apart_of l) (without 700 (entries_at l now new)) ++ farther)) (omega (arith, header, double, size_low))
        (All-cons (EndsIn place) (dir_span (dir_at l now new)) (flat_map (apart_of l) (without 700 (entries_at l now new)) ++ farther) (omega (arith, ends)) low)

    packet_own : (f : Entry) (v : FileSpan) → IsPacket l value f → own_of l (Some f) ≡ Some v → value ≡ v
    packet_own f v p is =
        let kind : is_packet f.code ≡ true = ap is_packet p.code in
        sym p.value ∙ own_by (is_packet f.code) (is_apart l f) f.value v kind p.apart is
      where
        own_by : (s t : Bool) (x y : FileSpan) → s ≡ true → t ≡ true → (if s && t then Some x else None) ≡ Some y → x ≡ y
        own_by true true x y p q h = (cc h)
        own_by false t x y p q h = absurd (cc p)
        own_by true false x y p q h = absurd (cc q)

    first_packet : (f : Entry) × (first_of_tag 700 (entries_at l now new) ≡ Some f) × IsPacket l value f
    first_packet = packet_found l a now value size before d.entries (entries_at l now new) new_first plain

    packet_clear : Clear 700 tiff_now
    packet_clear = record {
      clear = λ v is.
          let same : value ≡ v = packet_own first_packet.0 v first_packet.2 (ap (own_of l) (sym first_packet.1) ∙ is) in
          subst (λ (x : FileSpan). All (IsAway x) (others 700 tiff_now)) same (All-weaker (EndsIn place) (IsAway value) behind_all (others 700 tiff_now) others_low);
    }

    -- the resources value, which is the old one
    tail_away : (u : FileSpan) → All (IsAway u) (others 34377 (tiff_of a (at ∷ rest))) → All (IsAway u) (flat_map (apart_of l) (without 34377 d.entries) ++ farther)
    tail_away u old =
        All-tail (IsAway u) (dir_span d) (flat_map (apart_of l) (without 34377 d.entries) ++ farther)
        (All-tail (IsAway u) (span 0 l.header) (dir_span d ∷ (flat_map (apart_of l) (without 34377 d.entries) ++ farther)) old)

    others_away : (u : FileSpan) → u.end ≤ size → All (IsAway u) (others 34377 (tiff_of a (at ∷ rest))) → All (IsAway u) (others 34377 tiff_now)
    others_away u high old =
        let old_values = flat_map (apart_of l) (without 34377 d.entries) in
        let values = flat_map (apart_of l) (without 34377 (entries_at l now new)) in
        let even_is = even_most size in
        let tail = tail_away u old in
        let each : (r : FileSpan) → Contains values r → IsAway u r =
        (λ r m. elim (without_grown l a now value 34377 before d.entries (entries_at l now new) (omega arith) new_first r m) [
          | inl same ↦ subst (IsAway u) same (λ k. let low = k.1 in omega (arith, low, high, size_low))
          | inr h ↦ All-contains (IsAway u) (old_values ++ farther) r tail (Contains-append_left old_values farther r h)
        ]) in
        All-cons (IsAway u) (span 0 l.header) (dir_span (dir_at l now new) ∷ (values ++ farther))
        (All-head (IsAway u) (span 0 l.header) (dir_span d ∷ (old_values ++ farther)) old)
        (All-cons (IsAway u) (dir_span (dir_at l now new)) (values ++ farther) (λ k. let low = k.1 in omega (arith, low, high, even_is.0))
        (All-append (IsAway u) values farther (each_range (IsAway u) values each)
        (each_range (IsAway u) farther (λ r m. All-contains (IsAway u) (old_values ++ farther) r tail (Contains-append_right old_values farther r m)))))

    own_inside : (o : Option Entry) (u : FileSpan) → ((e : Entry) → o ≡ Some e → e.value.end ≤ size) → own_of l o ≡ Some u → u.end ≤ size
    own_inside None u each is = absurd (cc is)
    own_inside (Some e) u each is = own_by (is_packet e.code) (is_apart l e) (each e refl) is
      where
        own_by : (s t : Bool) → e.value.end ≤ size → (if s && t then Some e.value else None) ≡ Some u → u.end ≤ size
        own_by true true h p = (let same : e.value ≡ u = (cc p) in subst (EndsIn size) same h)
        own_by true false h p = absurd (cc p)
        own_by false t h p = absurd (cc p)

    resources_clear : Clear 34377 (tiff_of a (at ∷ rest)) → Clear 34377 tiff_now
    resources_clear old = record {
      clear = λ u is.
          let found_same = found_grown l a now value 34377 before d.entries (entries_at l now new) (omega arith) new_first in
          let was : own 34377 (tiff_of a (at ∷ rest)) ≡ Some u =
          sym (own_copied l a now (first_of_tag 34377 d.entries) (first_of_tag 34377 (entries_at l now new)) found_same) ∙ is in
          let high = own_inside (first_of_tag 34377 d.entries) u
          (λ e h. find_all (λ x. x.value.end ≤ size) (λ x. x.tag == 34377) d.entries e (entries_inside l w a [] at clear) h) was in
          others_away u high (old.clear u was);
    }

    pub new_tiff : NoOverlap (tiff_of a (at ∷ rest)) → IsTiff now tiff_now
    new_tiff old = record { found = found; clear = (packet_clear, resources_clear old.1) }

    pub first_is : (f : Entry) × (first_entry 700 tiff_now.dirs ≡ Some f) × (f.value ≡ value)
    first_is = let p = first_packet.2 in (first_packet.0, first_packet.1, p.value)
