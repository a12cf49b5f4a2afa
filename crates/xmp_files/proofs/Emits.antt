-- A new file is written part by part: ranges of the old one, and new bytes.
use Rattle.std.proofs.Common.{◌≡◌, ◌≢◌, ℕ, ◌+◌, ◌-◌, ◌<◌, ◌≤◌, ◌^◌, List, [], ◌∷◌, ◌++◌, length, take, drop, get_or, refl, sym, ap, ◌∙◌, subst, arith, Ok, Err, Some, IsTrue, inl, inr, Result, IsErr, is_some, append_assoc, add-one}
use Rattle.std.specs.declared.option.Option.{Option}
use Rattle.std.specs.Option.{option_map, unwrap_or}
use Rattle.std.specs.Prelude.{All, MatchResult}
use Rattle.std.specs.FinMap.{get, insert}
use Rattle.std.proofs.Math.Seq.{take-add, drop-cons}
use Rattle.std.proofs.lemmas.List.{append-nil, drop-drop, drop_all, take_all, take-append-drop, length-take-le, length-drop}
use Rattle.std.proofs.lemmas.List.Elements.{All-append, All-weaker}
use Rattle.std.proofs.lemmas.List.Sums.{sum_by-cons}
use Rattle.xmp_base.specs.declared.device.Failed.{Failed}
use Rattle.xmp_base.specs.declared.file_span.FileSpan.{FileSpan}
use Rattle.xmp_base.specs.Device.{DeskState, Files, Lens, Moved, Told, OthersKeep, CreateCall, bytes_of, len_of, is_known, Rose}
use Rattle.xmp_base.specs.Whole.{ReadsOf}
use Rattle.xmp_base.specs.Windows.{IsInside, Grown, Grows, GrownBy, AppendCall, CopyCall, PartOf, MovesInside}
use Rattle.xmp_base.proofs.Names.{get-insert_same, get-insert_other}
use Rattle.xmp_base.proofs.Ends.{grows_none, grows_both, grows_part, still_none, len_insert, created_len, created_other}
use Rattle.xmp_base.proofs.Calls.{counts_trans, rose_after, reads_none}
use Rattle.xmp_base.proofs.Inside.{inside_none, inside_wider}
use Rattle.jpeg_regions.specs.Jpeg.{span}
use Rattle.jpeg_extended.specs.FromDesk.{payload_at}
use Rattle.xmp_files.specs.declared.parts.FilePart.{FilePart}
use Rattle.xmp_files.specs.declared.parts.FilePart.TheVariants as kept
use Rattle.xmp_files.specs.NewFiles.{part_at, parts_at, range_of, PartLies}
use Rattle.xmp_files.specs.Planning.{Part, Old, New, part_bytes, part_len, parts_bytes, parts_len, Plan, planned_file}
use Rattle.xmp_files.specs.Plans.{planned_len}
use Rattle.xmp_files.specs.Emitting.{PiecesCall, PartCall, PartsCall, EmitCall, EmittedFile, most_piece}

-- the first bytes were put at the end of a file
pub record Put (s t : DeskState) (name bytes : List ℕ) (done : ℕ) : Type 0 where
  pub reads : t.reads ≡ s.reads
  pub grows : Grows s t name (λ _. take done bytes) done most_piece (Ok tt)

pub put_none : (s : DeskState) (name bytes : List ℕ) → IsTrue (is_known s name) → Put s s name bytes 0
put_none s name bytes known = record { reads = refl; grows = grows_none s name (λ _. take 0 bytes) most_piece known (λ _. refl) }

module _ (s t : DeskState) (name bytes : List ℕ) (done : ℕ) (a : Put s t name bytes done) where
  pub put_len : len_of t name ≡ len_of s name + done
  put_len = len_insert s t name (len_of s name + done) a.grows.lens

  pub put_known : IsTrue (is_known t name)
  put_known = ap (λ (m : Lens). is_some (get m name)) a.grows.lens ∙ ap is_some (get-insert_same s.lens name _)

  module _ (u : DeskState) (count : ℕ) (piece : List ℕ) (is : piece ≡ take count (drop done bytes)) (size : length piece ≡ count) where
    pub put_more : AppendCall t u name piece (Ok tt) → Put s u name bytes (done + count)
    put_more call = record {
      reads = call.reads ∙ a.reads;
      grows = grows_both s t t name (λ _. take done bytes) (λ _. take (done + count) bytes) done (done + count) most_piece a.grows (still_none t)
          u (λ _. piece) (length piece) (length piece) call.grows (ap (λ (n : ℕ). done + n) size)
          (λ files mid told now grown. take-add done count bytes ∙ ap (λ (l : List ℕ). take done bytes ++ l) (sym is));
    }

    pub put_failed : (e : Failed) (result : Result (Unit {0}) Failed) → AppendCall t u name piece (Err e) → done + count ≤ length bytes → count ≤ most_piece → IsErr result
        → PiecesCall s u name bytes result
    put_failed e (Ok x) call within small err = absurd (cc err)
    put_failed e (Err f) call within small err = record {
      reads = call.reads ∙ a.reads;
      grows = grows_part s t t name (λ _. take done bytes) (λ _. bytes) done (length bytes) most_piece a.grows (still_none t)
          u (λ _. piece) (length piece) (length piece) f call.grows (omega (arith, size)) (omega (arith, size)) (λ _. drop (done + count) bytes)
          (λ files mid told now grown. sym (take-append-drop (done + count) bytes)
          ∙ ap (λ (l : List ℕ). l ++ drop (done + count) bytes) (take-add done count bytes ∙ ap (λ (l : List ℕ). take done bytes ++ l) (sym is)));
    }

  pub put_all : length bytes ≤ done → done ≤ length bytes → PiecesCall s t name bytes (Ok tt)
  put_all past within = let all : done ≡ length bytes = omega arith in record {
    reads = a.reads;
    grows = subst (λ (l : List ℕ). Grows s t name (λ _. l) (length bytes) most_piece (Ok tt)) (take_all (length bytes) bytes (omega arith))
        (subst (λ (n : ℕ). Grows s t name (λ _. take n bytes) n most_piece (Ok tt)) all a.grows);
  }

-- What was put so far at the end of one file, of parts of another and of new bytes.
pub record Front (s t : DeskState) (from to : List ℕ) (bytes : Files → List ℕ) (count : ℕ) : Type 0 where
  pub reads : ReadsOf from s.reads t.reads
  pub grows : Grows s t to bytes count most_piece (Ok tt)

-- the same of a failed call
pub record Broken (s t : DeskState) (from to : List ℕ) (bytes : Files → List ℕ) (count : ℕ) (failed : Failed) : Type 0 where
  pub reads : ReadsOf from s.reads t.reads
  pub grows : Grows s t to bytes count most_piece (Err failed)

reads_both : (name : List ℕ) (a b c : Option (List Moved)) → ReadsOf name a b → ReadsOf name b c → ReadsOf name a c
reads_both name a b c p q moves told =
    let m = p moves told in let n = q (moves ++ m.0) m.1 in
    (m.0 ++ n.0, n.1 ∙ ap Some (append_assoc moves m.0 n.0), All-append (λ (x : Moved). x.0 ≡ name) m.0 n.0 m.2 n.2)

reads_inside : (name : List ℕ) (start end : ℕ) (a b : Option (List Moved)) → MovesInside name start end a b → ReadsOf name a b
reads_inside name start end a b p moves told =
    let m = p moves told in (m.0, m.1, All-weaker (IsInside name start end) (λ (x : Moved). x.0 ≡ name) (λ (x : Moved) i. i.of_name) m.0 m.2)

pub front_none : (s : DeskState) (from to : List ℕ) → IsTrue (is_known s to) → Front s s from to (λ _. []) 0
front_none s from to known = record { reads = reads_none from s.reads s.reads refl; grows = grows_none s to (λ _. []) most_piece known (λ _. refl) }

module _ (s t : DeskState) (from to : List ℕ) (A : Files → List ℕ) (a : ℕ) (apart : from ≢ to) (f : Front s t from to A a) where
  pub front_len : len_of t to ≡ len_of s to + a
  front_len = len_insert s t to (len_of s to + a) f.grows.lens

  pub front_to : IsTrue (is_known t to)
  front_to = ap (λ (m : Lens). is_some (get m to)) f.grows.lens ∙ ap is_some (get-insert_same s.lens to _)

  front_held : get t.lens from ≡ get s.lens from
  front_held = ap (λ (m : Lens). get m from) f.grows.lens ∙ get-insert_other s.lens to _ from apart

  pub front_from : IsTrue (is_known s from) → IsTrue (is_known t from)
  front_from known = ap is_some front_held ∙ known

  pub front_size : len_of t from ≡ len_of s from
  front_size = ap (λ (o : Option ℕ). unwrap_or o 0) front_held

  -- the file that is read stays
  same_from : (files mid : Files) → Grown files mid to (A files) → bytes_of mid from ≡ bytes_of files from
  same_from files mid grown = ap (λ (o : Option (List ℕ)). unwrap_or o []) (grown.others from apart)

  module _ (u : DeskState) (at len most : ℕ) (small : most ≤ most_piece) where
    abbrev copied : Files → List ℕ
    copied files = A files ++ take len (drop at (bytes_of files from))

    copied_is : (files mid : Files) → Grown files mid to (A files) → copied files ≡ A files ++ take len (drop at (bytes_of mid from))
    copied_is files mid grown = ap (λ (l : List ℕ). A files ++ take len (drop at l)) (sym (same_from files mid grown))

    pub front_copied : CopyCall t u from at len to most (Ok tt) → Front s u from to copied (a + len)
    front_copied call = record {
      reads = reads_both from s.reads t.reads u.reads f.reads (reads_inside from at (at + len) t.reads u.reads call.reads);
      grows = grows_both s t t to A copied a (a + len) most_piece f.grows (still_none t) u (λ mid. take len (drop at (bytes_of mid from))) len most call.grows refl
          (λ files mid told now grown. copied_is files mid grown);
    }

    pub front_uncopied : (C rest : Files → List ℕ) (c : ℕ) (e failed : Failed) → CopyCall t u from at len to most (Err e) → a + len ≤ c
        → ((files : Files) → C files ≡ copied files ++ rest files) → Broken s u from to C c failed
    front_uncopied C rest c e failed call less is = record {
      reads = reads_both from s.reads t.reads u.reads f.reads (reads_inside from at (at + len) t.reads u.reads call.reads);
      grows = grows_part s t t to A C a c most_piece f.grows (still_none t) u (λ mid. take len (drop at (bytes_of mid from))) len most failed call.grows less small rest
          (λ files mid told now grown. is files ∙ ap (λ (l : List ℕ). l ++ rest files) (copied_is files mid grown));
    }

  -- one part more
  module _ (u : DeskState) (part : Part) where
    pub front_more : PartCall t u from to part (Ok tt) → Front s u from to (λ files. A files ++ part_bytes (bytes_of files from) part) (a + part_len part)
    front_more call = record {
      reads = reads_both from s.reads t.reads u.reads f.reads call.reads;
      grows = grows_both s t t to A (λ files. A files ++ part_bytes (bytes_of files from) part) a (a + part_len part) most_piece f.grows (still_none t) u
          (λ mid. part_bytes (bytes_of mid from) part) (part_len part) most_piece call.grows refl
          (λ files mid told now grown. ap (λ (l : List ℕ). A files ++ part_bytes l part) (sym (same_from files mid grown)));
    }

    pub front_stopped : (C rest : Files → List ℕ) (c : ℕ) (e failed : Failed) → PartCall t u from to part (Err e) → a + part_len part ≤ c
        → ((files : Files) → C files ≡ (A files ++ part_bytes (bytes_of files from) part) ++ rest files) → Broken s u from to C c failed
    front_stopped C rest c e failed call less is = record {
      reads = reads_both from s.reads t.reads u.reads f.reads call.reads;
      grows = grows_part s t t to A C a c most_piece f.grows (still_none t) u (λ mid. part_bytes (bytes_of mid from) part) (part_len part) most_piece failed call.grows less (omega arith) rest
          (λ files mid told now grown. is files ∙ ap (λ (l : List ℕ). (A files ++ part_bytes l part) ++ rest files) (sym (same_from files mid grown)));
    }

-- A part was put.
pub part_copied : (s t : DeskState) (from to : List ℕ) (range : FileSpan) (most : ℕ) (result : Result (Unit {0}) Failed) → from ≢ to → IsTrue (is_known s to) → most ≤ most_piece
    → CopyCall s t from range.start (range.end - range.start) to most result → PartCall s t from to (Old range) result
part_copied s t from to range most (Ok unit) apart known small call =
    let f = front_copied s s from to (λ _. []) 0 apart (front_none s from to known) t range.start (range.end - range.start) most small call in
    let none : 0 + (range.end - range.start) ≡ range.end - range.start = omega arith in
    record { reads = f.reads; grows = subst (λ (n : ℕ). Grows s t to (λ files. payload_at (bytes_of files from) range) n most_piece (Ok tt)) none f.grows }
part_copied s t from to range most (Err e) apart known small call =
    let b = front_uncopied s s from to (λ _. []) 0 apart (front_none s from to known) t range.start (range.end - range.start) most small
    (λ files. payload_at (bytes_of files from) range) (λ _. []) (range.end - range.start) e e call (omega arith) (λ files. sym (append-nil (payload_at (bytes_of files from) range))) in
    record { reads = b.reads; grows = b.grows }

-- A range that is put in two pieces.
module _ (range : FileSpan) (mid : ℕ) (order : range.start ≤ mid) (within : mid ≤ range.end) where
  abbrev pub halves : List Part
  halves = Old (span range.start mid) ∷ Old (span mid range.end) ∷ []

  halves_bytes : (file : List ℕ) → parts_bytes file halves ≡ payload_at file range
  halves_bytes file =
      let count : (mid - range.start) + (range.end - mid) ≡ range.end - range.start = omega (arith, order, within) in
      let start : range.start + (mid - range.start) ≡ mid = omega (arith, order) in
      let rest : drop mid file ≡ drop (mid - range.start) (drop range.start file) = ap (λ (n : ℕ). drop n file) (sym start) ∙ sym (drop-drop (mid - range.start) range.start file) in
      ap (λ (l : List ℕ). payload_at file (span range.start mid) ++ l) (append-nil (payload_at file (span mid range.end)) ∙ ap (take (range.end - mid)) rest)
      ∙ sym (take-add (mid - range.start) (range.end - mid) (drop range.start file))
      ∙ ap (λ (n : ℕ). take n (drop range.start file)) count

  halves_len : parts_len halves ≡ range.end - range.start
  halves_len = omega (arith, order, within, sum_by-cons part_len (Old (span range.start mid)) (Old (span mid range.end) ∷ []), sum_by-cons part_len (Old (span mid range.end)) [])

  pub halves_put : (s t : DeskState) (from to : List ℕ) (result : Result (Unit {0}) Failed) → PartsCall s t from to halves result → PartCall s t from to (Old range) result
  halves_put s t from to result p = record {
    reads = p.reads;
    grows = subst (λ (n : ℕ). Grows s t to (λ files. payload_at (bytes_of files from) range) n most_piece result) halves_len
        (subst (λ (b : Files → List ℕ). Grows s t to b (parts_len halves) most_piece result) (λ i files. halves_bytes (bytes_of files from) i) p.grows);
  }

pub part_put : (s t : DeskState) (from to bytes : List ℕ) (result : Result (Unit {0}) Failed) → PiecesCall s t to bytes result → PartCall s t from to (New bytes) result
part_put s t from to bytes result call = record { reads = reads_none from s.reads t.reads call.reads; grows = call.grows }

-- Some parts of all were put, and these are left.
pub record Standing (s t : DeskState) (from to : List ℕ) (all rest : List Part) (end : ℕ) : Type 0 where
  pub done : Files → List ℕ
  pub front : Front s t from to done end
  pub whole : (files : Files) → parts_bytes (bytes_of files from) all ≡ done files ++ parts_bytes (bytes_of files from) rest
  pub count : parts_len all ≡ end + parts_len rest

pub standing_none : (s : DeskState) (from to : List ℕ) (all : List Part) → IsTrue (is_known s to) → Standing s s from to all all 0
standing_none s from to all known = record { done = λ _. []; front = front_none s from to known; whole = λ files. refl; count = omega arith }

module _ (s t : DeskState) (from to : List ℕ) (all : List Part) (part : Part) (rest : List Part) (end : ℕ) (apart : from ≢ to) (a : Standing s t from to all (part ∷ rest) end) where
  pub standing_room : end + part_len part ≤ parts_len all
  standing_room = omega (arith, a.count, sum_by-cons part_len part rest)

  split_at : (files : Files) → parts_bytes (bytes_of files from) all ≡ (a.done files ++ part_bytes (bytes_of files from) part) ++ parts_bytes (bytes_of files from) rest
  split_at files = a.whole files ∙ sym (append_assoc (a.done files) (part_bytes (bytes_of files from) part) (parts_bytes (bytes_of files from) rest))

  pub standing_more : (u : DeskState) → PartCall t u from to part (Ok tt) → Standing s u from to all rest (end + part_len part)
  standing_more u call = record {
    done = λ files. a.done files ++ part_bytes (bytes_of files from) part;
    front = front_more s t from to a.done end apart a.front u part call;
    whole = split_at;
    count = omega (arith, a.count, sum_by-cons part_len part rest);
  }

  pub standing_stopped : (u : DeskState) (e : Failed) (result : Result (Unit {0}) Failed) → PartCall t u from to part (Err e) → IsErr result → PartsCall s u from to all result
  standing_stopped u e (Ok x) call err = absurd (cc err)
  standing_stopped u e (Err f) call err =
      let b = front_stopped s t from to a.done end apart a.front u part (λ files. parts_bytes (bytes_of files from) all) (λ files. parts_bytes (bytes_of files from) rest) (parts_len all) e f call
      standing_room split_at in
      record { reads = b.reads; grows = b.grows }

pub standing_all : (s t : DeskState) (from to : List ℕ) (all : List Part) (end : ℕ) → Standing s t from to all [] end → PartsCall s t from to all (Ok tt)
standing_all s t from to all end a =
    let is : (files : Files) → a.done files ≡ parts_bytes (bytes_of files from) all = λ files. sym (append-nil (a.done files)) ∙ sym (a.whole files) in
    let count : end ≡ parts_len all = omega (arith, a.count) in
    record {
      reads = a.front.reads;
      grows = subst (λ (n : ℕ). Grows s t to (λ files. parts_bytes (bytes_of files from) all) n most_piece (Ok tt)) count
          (subst (λ (b : Files → List ℕ). Grows s t to b end most_piece (Ok tt)) (λ i files. is files i) a.front.grows);
    }

-- A range is put in two pieces, the second after the first one.
module _ (s t : DeskState) (from to : List ℕ) (range : FileSpan) (mid : ℕ) (apart : from ≢ to) (known : IsTrue (is_known s to)) (order : range.start ≤ mid) (within : mid ≤ range.end) (most : ℕ) (small : most ≤ most_piece) where
  abbrev both : List Part
  both = halves range mid order within

  none : Standing s s from to both both 0
  none = standing_none s from to both known

  pub first_failed : (e : Failed) (result : Result (Unit {0}) Failed) → CopyCall s t from range.start (mid - range.start) to most (Err e) → IsErr result → PartCall s t from to (Old range) result
  first_failed e result call err =
      halves_put range mid order within s t from to result
      (standing_stopped s s from to both (Old (span range.start mid)) (Old (span mid range.end) ∷ []) 0 apart none t e result
      (part_copied s t from to (span range.start mid) most (Err e) apart known small call) err)

  module _ (call : CopyCall s t from range.start (mid - range.start) to most (Ok tt)) where
    half : Standing s t from to both (Old (span mid range.end) ∷ []) (0 + part_len (Old (span range.start mid)))
    half =
        standing_more s s from to both (Old (span range.start mid)) (Old (span mid range.end) ∷ []) 0 apart none t
        (part_copied s t from to (span range.start mid) most (Ok tt) apart known small call)

    pub half_from : IsTrue (is_known s from) → IsTrue (is_known t from)
    half_from = front_from s t from to half.done _ apart half.front

    pub half_to : IsTrue (is_known t to)
    half_to = front_to s t from to half.done _ apart half.front

    pub half_len : len_of t to ≡ len_of s to + (mid - range.start)
    half_len = omega (arith, front_len s t from to half.done _ apart half.front)

    pub half_size : len_of t from ≡ len_of s from
    half_size = front_size s t from to half.done _ apart half.front

    pub second_put : (u : DeskState) (later : ℕ) (result : Result (Unit {0}) Failed) → later ≤ most_piece → CopyCall t u from mid (range.end - mid) to later result → PartCall s u from to (Old range) result
    second_put u later (Ok x) less last =
        halves_put range mid order within s u from to (Ok tt)
        (standing_all s u from to both _ (standing_more s t from to both (Old (span mid range.end)) [] _ apart half u (part_copied t u from to (span mid range.end) later (Ok tt) apart half_to less last)))
    second_put u later (Err e) less last =
        halves_put range mid order within s u from to (Err e)
        (standing_stopped s t from to both (Old (span mid range.end)) [] _ apart half u e (Err e) (part_copied t u from to (span mid range.end) later (Err e) apart half_to less last) refl)

-- the next of the parts that are kept
pub next_part : (bytes : List ℕ) (parts : List FilePart) (i : ℕ) (x : FilePart) → i < length parts → parts_at bytes (drop i parts) ≡ part_at bytes (get_or parts i x) ∷ parts_at bytes (drop (i + 1) parts)
next_part bytes parts i x below = rw add-one (ap (parts_at bytes) (drop-cons parts i x below))

-- after the creation failed
pub emit_unmade : (s t : DeskState) (plan : Plan) (size : ℕ) (from to : List ℕ) (e : Failed) (result : Result (Unit {0}) Failed) → CreateCall s t to (Err e) → IsErr result
    → EmitCall s t plan size from to result
emit_unmade s t plan size from to e (Ok x) call err = absurd (cc err)
emit_unmade s t plan size from to e (Err f) call err = record {
  counts = call.counts;
  reads = reads_none from s.reads t.reads call.reads;
  wrote = inside_none to 0 (planned_len size plan) s.wrote t.wrote call.wrote;
  others = call.lens;
  told = λ files told. let f = call.files files told in (f.0, f.1, f.2, inl call.wrote);
  failed = call.failed;
}

module _ (s t u : DeskState) (from to : List ℕ) (parts : List Part) (apart : from ≢ to) (create : CreateCall s t to (Ok tt)) where
  long_others : (n : ℕ) → u.lens ≡ insert t.lens to n → OthersKeep s.lens u.lens to
  long_others n is other apart = ap (λ (m : Lens). get m other) is ∙ get-insert_other t.lens to n other apart ∙ created_other s t to create other apart

  parts_others : (result : Result (Unit {0}) Failed) → PartsCall t u from to parts result → OthersKeep s.lens u.lens to
  parts_others (Ok x) p = long_others _ p.grows.lens
  parts_others (Err f) p = let l = p.grows.lens in long_others _ l.1

  parts_failed : (result : Result (Unit {0}) Failed) → PartsCall t u from to parts result → MatchResult result (λ _. Unit {0}) (λ _. Rose s.faults u.faults)
  parts_failed (Ok x) p = tt
  parts_failed (Err f) p = rose_after s.faults t.faults u.faults create.counts.faults p.grows.failed

  -- the file that is read is there after the creation as before it
  created_from : (files : Files) → bytes_of (insert files to []) from ≡ bytes_of files from
  created_from files = ap (λ (o : Option (List ℕ)). unwrap_or o []) (get-insert_other files to [] from apart)

  module _ (files now : Files) (part whole : List ℕ) (is : part ≡ whole) where
    emitted : (result : Result (Unit {0}) Failed) → GrownBy result (insert files to []) now to part most_piece → OthersKeep files now to × EmittedFile result s u (get now to) whole
    emitted (Ok x) g = (λ other apart. g.others other apart ∙ get-insert_other files to [] other apart, g.grown [] (get-insert_same files to []) ∙ ap Some is)
    emitted (Err f) g = (
      λ other apart. g.2.others other apart ∙ get-insert_other files to [] other apart,
      inr (g.0, g.2.grown [] (get-insert_same files to []), subst (λ (l : List ℕ). PartOf g.0 l most_piece) is g.1),
    )

  pub emit_put : (plan : Plan) (old : ℕ) (result : Result (Unit {0}) Failed) → PartsCall t u from to parts result
      → Told s.files (λ files. parts_bytes (bytes_of files from) parts ≡ planned_file (bytes_of files from) plan) → parts_len parts ≡ planned_len old plan → EmitCall s u plan old from to result
  emit_put plan old result p is long = record {
    counts = counts_trans s t u create.counts p.grows.counts;
    reads = subst (λ (o : Option (List Moved)). ReadsOf from o u.reads) create.reads p.reads;
    wrote = subst (λ (o : Option (List Moved)). MovesInside to 0 (planned_len old plan) o u.wrote) create.wrote
        (inside_wider to 0 (planned_len old plan) t.wrote (len_of t to) (len_of t to + parts_len parts) u.wrote (omega arith) (omega (arith, created_len s t to create, long)) p.grows.wrote);
    others = parts_others result p;
    told = λ files told. let mid : t.files ≡ Some (insert files to []) = create.files ∙ ap (option_map (λ (files : Files). insert files to [])) told in
        let g = p.grows.files (insert files to []) mid in
        let same : parts_bytes (bytes_of (insert files to []) from) parts ≡ planned_file (bytes_of files from) plan =
        ap (λ (l : List ℕ). parts_bytes l parts) (created_from files) ∙ is files told in
        let e = emitted files g.0 (parts_bytes (bytes_of (insert files to []) from) parts) (planned_file (bytes_of files from) plan) same result g.2 in (g.0, g.1, e.0, e.1);
    failed = parts_failed result p;
  }

-- a part that lies where it must has the bytes of its range
pub kept_len : (size : ℕ) (bytes : List ℕ) (part : FilePart) → PartLies size (length bytes) part → part_len (part_at bytes part) ≡ (range_of part).end - (range_of part).start
kept_len size bytes (kept.Old range) lies = refl
kept_len size bytes (kept.New range) lies = length-take-le _ _ (omega (arith, length-drop range.start bytes, lies.0, lies.1))

-- The loop over the parts.
module _ (s t : DeskState) (from to bytes : List ℕ) (parts : List FilePart) (i end : ℕ) (d : FilePart) (apart : from ≢ to) (below : i < length parts)
    (a : Standing s t from to (parts_at bytes parts) (parts_at bytes (drop i parts)) end) where
  abbrev part : FilePart
  part = get_or parts i d

  here : Standing s t from to (parts_at bytes parts) (part_at bytes part ∷ parts_at bytes (drop (i + 1) parts)) end
  here = subst (λ (l : List Part). Standing s t from to (parts_at bytes parts) l end) (next_part bytes parts i d below) a

  pub loop_lies : All (PartLies (len_of s from) (length bytes)) parts → PartLies (len_of t from) (length bytes) part
  loop_lies inside = subst (λ (n : ℕ). PartLies n (length bytes) part) (sym (front_size s t from to a.done end apart a.front)) (inside i d below)

  pub loop_room : parts_len (parts_at bytes parts) < 2 ^ 64 → end + part_len (part_at bytes part) < 2 ^ 64
  loop_room room = let less = standing_room s t from to (parts_at bytes parts) (part_at bytes part) (parts_at bytes (drop (i + 1) parts)) end apart here in omega (arith, less, room)

  pub loop_fits : All (PartLies (len_of s from) (length bytes)) parts → parts_len (parts_at bytes parts) < 2 ^ 64 → (len : ℕ) → len ≡ (range_of part).end - (range_of part).start → end + len < 2 ^ 64
  loop_fits inside room len is = let size = kept_len (len_of s from) bytes part (inside i d below) in let less = loop_room room in omega (arith, less, size, is)

  pub loop_more : All (PartLies (len_of s from) (length bytes)) parts → (u : DeskState) → PartCall t u from to (part_at bytes part) (Ok tt) → (len : ℕ) → len ≡ (range_of part).end - (range_of part).start
      → Standing s u from to (parts_at bytes parts) (parts_at bytes (drop (i + 1) parts)) (end + len)
  loop_more inside u call len is =
      subst (λ (n : ℕ). Standing s u from to (parts_at bytes parts) (parts_at bytes (drop (i + 1) parts)) (end + n)) (kept_len (len_of s from) bytes part (inside i d below) ∙ sym is)
      (standing_more s t from to (parts_at bytes parts) (part_at bytes part) (parts_at bytes (drop (i + 1) parts)) end apart here u call)

  pub loop_stopped : (u : DeskState) (e : Failed) (result : Result (Unit {0}) Failed) → PartCall t u from to (part_at bytes part) (Err e) → IsErr result → PartsCall s u from to (parts_at bytes parts) result
  loop_stopped u e result call err = standing_stopped s t from to (parts_at bytes parts) (part_at bytes part) (parts_at bytes (drop (i + 1) parts)) end apart here u e result call err

pub loop_all : (s t : DeskState) (from to bytes : List ℕ) (parts : List FilePart) (i end : ℕ) → length parts ≤ i → Standing s t from to (parts_at bytes parts) (parts_at bytes (drop i parts)) end
    → PartsCall s t from to (parts_at bytes parts) (Ok tt)
loop_all s t from to bytes parts i end past a =
    standing_all s t from to (parts_at bytes parts) end (subst (λ (l : List FilePart). Standing s t from to (parts_at bytes parts) (parts_at bytes l) end) (drop_all i parts past) a)
