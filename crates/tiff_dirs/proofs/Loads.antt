-- Reads of tables, one after another.
use Rattle.std.proofs.Common.{◌≡◌, ℕ, ◌+◌, ◌-◌, ◌*◌, ◌≤◌, List, [], ◌∷◌, ◌++◌, length, take, drop, refl, sym, ap, subst, ◌∙◌, arith, Some, Ok, Err, append_assoc, Contains, MatchResult}
use Rattle.std.specs.declared.result.Result.{Result}
use Rattle.std.proofs.lemmas.List.{append-nil, drop-drop, drop-take, take-take, length-take-le, length-drop}
use native.Mathlib.Nat.{mul-le-mul_left}
use Rattle.tiff_dirs.specs.declared.layout.Layout.{Layout}
use Rattle.tiff_dirs.specs.declared.entry.Entry.{Entry}
use Rattle.tiff_dirs.specs.declared.stop.WalkStop.{WalkStop}
use Rattle.tiff_dirs.specs.declared.stop.WalkStop.TheVariants.{Memory}
use Rattle.tiff_dirs.specs.Types.{size_of}
use Rattle.tiff_dirs.specs.Directories.{span, end_at}
use Rattle.tiff_dirs.specs.Parts.{IsPart}
use Rattle.tiff_dirs.specs.Walking.{Lies}
use Rattle.tiff_dirs.proofs.Piece.{numbers_part}
use Rattle.std.proofs.lemmas.List.Elements.{All-append, All-nil, All-weaker}
use Rattle.xmp_base.specs.declared.file_span.FileSpan.{FileSpan}
use Rattle.xmp_base.specs.Device.{DeskState, Moved, Told, bytes_of}
use Rattle.xmp_base.specs.Windows.{IsInside, ReadInside}
use Rattle.xmp_base.proofs.Calls.{same_trans, counts_trans}
use Rattle.tiff_dirs.specs.Tables.{IsAmong, Reads, LoadCall, ItemsCall, IsNoFault}

module _ (name : List ℕ) where
  pub reads_none : (s : DeskState) (R : List ℕ → List FileSpan) → Reads s s name R
  reads_none s R = record {
    same = record { files = refl; wrote = refl };
    counts = record { faults = omega arith; misses = omega arith; plan = refl };
    lens = refl;
    reads = λ reads told. ([], told ∙ ap Some (sym (append-nil reads)), All-nil (λ (m : Moved). m.0 ≡ name), λ files t. All-nil (IsAmong (R (bytes_of files name))));
  }

  pub reads_trans : (s t u : DeskState) (R : List ℕ → List FileSpan) → Reads s t name R → Reads t u name R → Reads s u name R
  reads_trans s t u R a b = record {
    same = same_trans s t u a.same b.same;
    counts = counts_trans s t u a.counts b.counts;
    lens = b.lens ∙ a.lens;
    reads = λ reads told.
        let m = a.reads reads told in
        let n = b.reads (reads ++ m.0) m.1 in (
          m.0 ++ n.0,
          n.1 ∙ ap Some (append_assoc reads m.0 n.0),
          All-append (λ (k : Moved). k.0 ≡ name) m.0 n.0 m.2 n.2,
          λ files t. All-append (IsAmong (R (bytes_of files name))) m.0 n.0 (m.3 files t) (n.3 files (a.same.files ∙ t)),
        );
  }

  -- in more ranges
  pub reads_wider : (s t : DeskState) (P Q : List ℕ → List FileSpan) → Reads s t name P
      → Told s.files (λ files. (r : FileSpan) → Contains (P (bytes_of files name)) r → Contains (Q (bytes_of files name)) r) → Reads s t name Q
  reads_wider s t P Q a w = record {
    same = a.same;
    counts = a.counts;
    lens = a.lens;
    reads = λ reads told.
        let m = a.reads reads told in (
          m.0,
          m.1,
          m.2,
          λ files f. All-weaker (IsAmong (P (bytes_of files name))) (IsAmong (Q (bytes_of files name))) (λ x i. (i.0, w files f i.0 i.1, i.2, i.3)) m.0 (m.3 files f),
        );
  }

  -- reads among some places, which lie in a range
  pub reads_inside : (s t : DeskState) (start end : ℕ) (R : List ℕ → List FileSpan) → ReadInside s t name start end
      → Told s.files (λ files. (r : FileSpan) × Contains (R (bytes_of files name)) r × (r.start ≤ start) × (end ≤ r.end)) → Reads s t name R
  reads_inside s t start end R a w = record {
    same = a.same;
    counts = a.counts;
    lens = a.lens;
    reads = λ reads told.
        let m = a.reads reads told in (
          m.0,
          m.1,
          All-weaker (IsInside name start end) (λ (k : Moved). k.0 ≡ name) (λ k i. i.of_name) m.0 m.2,
          λ files f.
              let r = w files f in
              let low = r.2 in
              let high = r.3 in
              All-weaker (IsInside name start end) (IsAmong (R (bytes_of files name)))
              (λ k i. (r.0, r.1, (let g = i.from_start in omega (arith, g, low)), (let g = i.to_end in omega (arith, g, high)))) m.0 m.2,
        );
  }

-- nothing was read
pub inside_none : (s : DeskState) (name : List ℕ) (start end : ℕ) → ReadInside s s name start end
inside_none s name start end = record {
  same = record { files = refl; wrote = refl };
  counts = record { faults = omega arith; misses = omega arith; plan = refl };
  lens = refl;
  reads = λ reads told. ([], told ∙ ap Some (sym (append-nil reads)), All-nil (IsInside name start end));
}

slice_of : (file : List ℕ) (at skipped len size start : ℕ) → skipped + len ≤ size → start ≡ at + skipped → take len (drop skipped (take size (drop at file))) ≡ take len (drop start file)
slice_of file at skipped len size start h e =
    let split : size ≡ skipped + (size - skipped) = omega arith in
    ap (λ (n : ℕ). take len (drop skipped (take n (drop at file)))) split
    ∙ ap (take len) (drop-take skipped (size - skipped) (drop at file) ∙ ap (take (size - skipped)) (drop-drop skipped at file ∙ ap (λ (n : ℕ). drop n file) (sym e)))
    ∙ take-take len (size - skipped) (drop start file) (omega arith)

-- bytes that were read before
pub load_copied : (s : DeskState) (name near : List ℕ) (at start len skipped : ℕ) (r : Result (List ℕ) WalkStop) → skipped + len ≤ length near → start ≡ at + skipped
    → Told s.files (λ files. IsPart near at (bytes_of files name)) → MatchResult r (λ copy. copy ≡ take len (drop skipped near)) (λ stop. stop ≡ Memory) → LoadCall s s name start len r
load_copied s name near at start len skipped (Ok bytes) h e part is = record {
  calls = inside_none s name start (start + len);
  size = (let n = ap length is in let m = length-take-le len (drop skipped near) (let d = length-drop skipped near in omega (arith, d)) in omega (arith, n, m));
  bytes = λ files told. is ∙ ap (λ (xs : List ℕ). take len (drop skipped xs)) (part files told) ∙ slice_of (bytes_of files name) at skipped len (length near) start h e;
  device = λ d. absurd (cc d);
  fault = tt;
}
load_copied s name near at start len skipped (Err stop) h e part is = record {
  calls = inside_none s name start (start + len);
  size = tt;
  bytes = tt;
  device = λ d. absurd (cc (d, is));
  fault = subst IsNoFault (sym is) tt;
}

pub contains_one : (x : FileSpan) → Contains (x ∷ []) x
contains_one x = (0, omega arith, refl)

-- the items of an entry's value
pub items_loaded : (l : Layout) (e : Entry) (count width len : ℕ) (s t : DeskState) (name : List ℕ) (r : Result (List ℕ) WalkStop) → Lies l len e → count ≤ e.count → width ≡ size_of l e.code
    → LoadCall s t name e.value.start (width * count) r → ItemsCall l e count s t name r
items_loaded l e count width len s t name (Ok bytes) lies most is call =
    let product : size_of l e.code * count ≤ size_of l e.code * e.count = mul-le-mul_left (size_of l e.code) most in
    let same : width * count ≡ size_of l e.code * count = ap (λ (w : ℕ). w * count) is in
    let end = lies.spans in
    record {
      calls = reads_inside name s t e.value.start (e.value.start + width * count) (λ _. e.value ∷ []) call.calls (λ files told. (e.value, contains_one e.value, omega arith, omega (arith, product, same, end)));
      size = call.size ∙ same;
      items = λ files told.
          numbers_part bytes (bytes_of files name) e.value.start (width * count) (call.bytes files told) l.big (size_of l e.code) 0 e.value.start count (omega (arith, same)) (omega arith);
      part = λ files told. call.bytes files told ∙ ap (λ (n : ℕ). take n (drop e.value.start (bytes_of files name))) (sym call.size);
      device = call.device;
      fault = tt;
    }
items_loaded l e count width len s t name (Err stop) lies most is call =
    let product : size_of l e.code * count ≤ size_of l e.code * e.count = mul-le-mul_left (size_of l e.code) most in
    let same : width * count ≡ size_of l e.code * count = ap (λ (w : ℕ). w * count) is in
    let end = lies.spans in
    record {
      calls = reads_inside name s t e.value.start (e.value.start + width * count) (λ _. e.value ∷ []) call.calls (λ files told. (e.value, contains_one e.value, omega arith, omega (arith, product, same, end)));
      size = tt;
      items = tt;
      part = tt;
      device = call.device;
      fault = call.fault;
    }

-- the count is a part of the directory
pub count_read : (s t : DeskState) (name : List ℕ) (l : Layout) (at : ℕ) → ReadInside s t name at (at + l.count) → Reads s t name (λ file. span at (end_at l file at) ∷ [])
count_read s t name l at a =
    reads_inside name s t at (at + l.count) (λ file. span at (end_at l file at) ∷ []) a
    (λ files told. (span at (end_at l (bytes_of files name) at), contains_one (span at (end_at l (bytes_of files name) at)), omega arith, omega arith))
