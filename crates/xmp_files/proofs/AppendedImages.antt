-- A TIFF or BigTIFF file whose packet is put at its end.
use Rattle.std.proofs.Common.{◌≡◌, ◌∙◌, ℕ, ◌+◌, ◌-◌, ◌≤◌, List, [], ◌∷◌, ◌++◌, length, take, drop, refl, sym, ap, subst, arith, append_assoc, Some, None}
use Rattle.std.specs.declared.option.Option.{Option}
use Rattle.std.specs.Option.{is_none}
use Rattle.std.proofs.lemmas.List.{append-nil, length-append, length-drop, length-take-le, take_all}
use Rattle.std.proofs.lemmas.List.Sums.{sum_by-cons}
use Rattle.xmp_base.specs.Device.{put_at}
use Rattle.xmp_base.specs.declared.file_span.FileSpan.{FileSpan}
use Rattle.jpeg_regions.specs.Jpeg.{span}
use Rattle.jpeg_extended.specs.FromDesk.{payload_at}
use Rattle.tiff_dirs.specs.declared.layout.Layout.{Layout}
use Rattle.tiff_dirs.specs.declared.entry.Entry.{Entry}
use Rattle.tiff_dirs.specs.Tiff.{Dir, Tiff, first_entry}
use Rattle.tiff_relocation.specs.Relocation.{changed, changed_by, copy_by, copy_bytes, first_dir, new_copy, new_numbers, numbers_by, packet_place_by, pad, relocated}
use Rattle.tiff_relocation.specs.Moves.{Lies, relocation_of}
use Rattle.tiff_relocation.proofs.Lengths.{changed_len}
use Rattle.xmp_files.specs.NewFiles.{moved_parts}
use Rattle.xmp_files.specs.Planning.{Part, Old, New, part_len, parts_bytes, parts_len}
use Rattle.xmp_files.specs.Plans.{appended_parts}

-- the parts by the relocation are those of the definition
same_by : (l : Layout) (size : ℕ) (d : Dir) (packet : List ℕ) (o : Option Entry)
    → moved_parts (record {
      layout = l;
      size = size;
      changed = changed_by l o;
      copied = is_none o;
      entries = length d.entries;
      before = (copy_by l size d 0 o).before;
      after = (copy_by l size d 0 o).after;
      place = packet_place_by l size d o;
    }) packet
    ≡ Old (span 0 (changed_by l o).start) ∷ New (numbers_by l size (length packet) o) ∷ Old (span (changed_by l o).end size)
    ∷ New (pad size ++ (copy_by l size d (length packet) o).head) ∷ Old (copy_by l size d (length packet) o).before
    ∷ New (copy_by l size d (length packet) o).entry ∷ Old (copy_by l size d (length packet) o).after ∷ New packet ∷ []
same_by l size d packet None = refl
same_by l size d packet (Some e) = refl

pub moved_as : (size : ℕ) (tiff : Tiff) (packet : List ℕ) → moved_parts (relocation_of size tiff) packet ≡ appended_parts size tiff packet
moved_as size tiff packet = same_by tiff.layout size (first_dir tiff.dirs) packet (first_entry 700 tiff.dirs)

-- parts whose ranges lie in a file of so many bytes
abbrev pub PartsIn : ℕ → List Part → Type 0
PartsIn n [] = Unit {0}
PartsIn n (Old r ∷ ps) = (r.start ≤ r.end) × (r.end ≤ n) × PartsIn n ps
PartsIn n (New bytes ∷ ps) = PartsIn n ps

pub parts_long : (file : List ℕ) (ps : List Part) → PartsIn (length file) ps → length (parts_bytes file ps) ≡ parts_len ps
parts_long file [] lie = refl
parts_long file (Old r ∷ ps) lie =
    let one : length (payload_at file r) ≡ r.end - r.start = length-take-le (r.end - r.start) (drop r.start file) (omega (arith, length-drop r.start file, lie.0, lie.1)) in
    omega (arith, length-append (payload_at file r) (parts_bytes file ps), one, parts_long file ps lie.2, sum_by-cons part_len (Old r) ps)
parts_long file (New bytes ∷ ps) lie = omega (arith, length-append bytes (parts_bytes file ps), parts_long file ps lie, sum_by-cons part_len (New bytes) ps)

-- eight parts in a row, and the same in the order of the definition
joined_as : (a b c p h x e y k : List ℕ) → a ++ (b ++ (c ++ ((p ++ h) ++ (x ++ (e ++ (y ++ (k ++ []))))))) ≡ (a ++ b ++ c) ++ (p ++ ((h ++ (x ++ (e ++ y))) ++ k))
joined_as a b c p h x e y k =
    let copy : (h ++ (x ++ (e ++ y))) ++ k ≡ h ++ (x ++ (e ++ (y ++ k))) =
    append_assoc h (x ++ (e ++ y)) k ∙ ap (λ (t : List ℕ). h ++ t) (append_assoc x (e ++ y) k ∙ ap (λ (t : List ℕ). x ++ t) (append_assoc e y k)) in
    let last : (p ++ h) ++ (x ++ (e ++ (y ++ (k ++ [])))) ≡ p ++ ((h ++ (x ++ (e ++ y))) ++ k) =
    append_assoc p h (x ++ (e ++ (y ++ (k ++ []))))
    ∙ ap (λ (t : List ℕ). p ++ (h ++ (x ++ (e ++ (y ++ t))))) (append-nil k) ∙ ap (λ (t : List ℕ). p ++ t) (sym copy) in
    ap (λ (t : List ℕ). a ++ (b ++ (c ++ t))) last
    ∙ sym (append_assoc (a ++ b) c (p ++ ((h ++ (x ++ (e ++ y))) ++ k)) ∙ append_assoc a b (c ++ (p ++ ((h ++ (x ++ (e ++ y))) ++ k))))

module _ (old : List ℕ) (tiff : Tiff) (packet : List ℕ) (lies : Lies (relocation_of (length old) tiff)) where
  abbrev copy_now : List ℕ
  copy_now = copy_bytes old (new_copy (length old) (length packet) tiff)

  abbrev numbers : List ℕ
  numbers = new_numbers (length old) (length packet) tiff

  -- the exchanged numbers stand between what is kept before and after them
  exchanged_as : take ((changed tiff).start - 0) old ++ numbers ++ take (length old - (changed tiff).end) (drop (changed tiff).end old) ≡ put_at old (changed tiff).start numbers
  exchanged_as =
      let first : (changed tiff).start - 0 ≡ (changed tiff).start = omega arith in
      let past : (changed tiff).end ≡ (changed tiff).start + length numbers = (let n = changed_len old tiff packet lies in omega (arith, n, lies.changed.0)) in
      let rest : take (length old - (changed tiff).end) (drop (changed tiff).end old) ≡ drop ((changed tiff).start + length numbers) old =
      take_all (length old - (changed tiff).end) (drop (changed tiff).end old) (omega (arith, length-drop (changed tiff).end old)) ∙ ap (λ (n : ℕ). drop n old) past in
      λ i. take (first i) old ++ numbers ++ rest i

  ranges_as : (o : Option Entry) → (l : Layout) (d : Dir) → (copy_by l (length old) d (length packet) o).before ≡ (copy_by l (length old) d 0 o).before
  ranges_as None l d = refl
  ranges_as (Some e) l d = refl

  ends_as : (o : Option Entry) → (l : Layout) (d : Dir) → (copy_by l (length old) d (length packet) o).after ≡ (copy_by l (length old) d 0 o).after
  ends_as None l d = refl
  ends_as (Some e) l d = refl

  pub appended_bytes : parts_bytes old (appended_parts (length old) tiff packet) ≡ relocated old tiff packet
  appended_bytes =
      let copy = new_copy (length old) (length packet) tiff in
      joined_as (take ((changed tiff).start - 0) old) numbers (take (length old - (changed tiff).end) (drop (changed tiff).end old)) (pad (length old)) copy.head (payload_at old copy.before)
      copy.entry (payload_at old copy.after) packet
      ∙ ap (λ (t : List ℕ). t ++ (pad (length old) ++ (copy_now ++ packet))) exchanged_as

  pub appended_in : PartsIn (length old) (appended_parts (length old) tiff packet)
  appended_in =
      let first = ranges_as (first_entry 700 tiff.dirs) tiff.layout (first_dir tiff.dirs) in
      let last = ends_as (first_entry 700 tiff.dirs) tiff.layout (first_dir tiff.dirs) in
      let before : (r : FileSpan) → r ≡ (new_copy (length old) 0 tiff).before → (r.start ≤ r.end) × (r.end ≤ length old) =
      (λ r is. subst (λ (s : FileSpan). (s.start ≤ s.end) × (s.end ≤ length old)) (sym is) lies.before) in
      let after : (r : FileSpan) → r ≡ (new_copy (length old) 0 tiff).after → (r.start ≤ r.end) × (r.end ≤ length old) =
      (λ r is. subst (λ (s : FileSpan). (s.start ≤ s.end) × (s.end ≤ length old)) (sym is) lies.after) in
      let b = before _ first in
      let a = after _ last in
      (omega arith, omega (arith, lies.changed.0, lies.changed.1), (omega (arith, lies.changed.1), omega arith, (b.0, b.1, (a.0, a.1, tt))))

  pub appended_len : length (relocated old tiff packet) ≡ parts_len (appended_parts (length old) tiff packet)
  appended_len = ap length (sym appended_bytes) ∙ parts_long old (appended_parts (length old) tiff packet) appended_in
