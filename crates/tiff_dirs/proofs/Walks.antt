-- What a walk over a device reads.
use Rattle.std.proofs.Common.{◌≡◌, ℕ, zero, suc, ◌≤◌, ◌⊎◌, inl, inr, List, [], ◌∷◌, ◌++◌, length, refl, sym, ap, subst, ◌∙◌, arith, Some, Contains, append_assoc, ◌+◌, ◌*◌, ◌<◌, get_or, take}
use Rattle.std.specs.List.{flat_map, slice_get}
use Rattle.std.proofs.lemmas.List.{append-nil}
use Rattle.std.proofs.lemmas.List.Elements.{All-append, All-nil, All-weaker, Contains-append_left, Contains-append_right, Contains-append_cases}
use Rattle.xmp_base.specs.declared.file_span.FileSpan.{FileSpan}
use Rattle.xmp_base.specs.Device.{DeskState, Moved, Told, bytes_of}
use Rattle.xmp_base.specs.Windows.{IsInside, ReadInside}
use Rattle.xmp_base.proofs.Calls.{same_trans, counts_trans}
use Rattle.tiff_dirs.specs.declared.layout.Layout.{Layout}
use Rattle.tiff_dirs.specs.Directories.{span}
use Rattle.tiff_dirs.specs.Layouts.{layout_of}
use Rattle.tiff_dirs.specs.Offsets.{all_named, Reaches, Walks}
use Rattle.tiff_dirs.specs.Tables.{IsAmong, Reads, tables_at, tables_of}
use Rattle.tiff_dirs.specs.FromDesk.{WalkReads}
use Rattle.tiff_dirs.proofs.Loads.{reads_trans, reads_wider}
use Rattle.tiff_dirs.specs.declared.directory.Reached.{Reached}
use Rattle.tiff_dirs.specs.Walking.{Underway}
use Rattle.tiff_dirs.proofs.Reaching.{next_named}
use Rattle.tiff_dirs.proofs.Unique.{front_of, next_of}
use Rattle.tiff_dirs.proofs.Sizes.{header_least}

pub split_by : {X : Type 0} (x : X) (xs : List X) (y : X) → Contains (x ∷ xs) y → (x ≡ y) ⊎ Contains xs y
split_by x xs y (zero, low, is) = inl is
split_by x xs y (suc k, low, is) = inr (k, omega arith, is)

module _ (f : ℕ → List FileSpan) where
  pub flat_in : (xs : List ℕ) (x : ℕ) (r : FileSpan) → Contains xs x → Contains (f x) r → Contains (flat_map f xs) r
  flat_in [] x r (k, low, is) h = absurd (omega arith)
  flat_in (y ∷ ys) x r m h =
      elim (split_by y ys x m) [
        | inl e ↦ Contains-append_left (f y) (flat_map f ys) r (subst (λ (z : ℕ). Contains (f z) r) (sym e) h)
        | inr k ↦ Contains-append_right (f y) (flat_map f ys) r (flat_in ys x r k h)
      ]

  flat_sub : (xs ys : List ℕ) → ((x : ℕ) → Contains xs x → Contains ys x) → (r : FileSpan) → Contains (flat_map f xs) r → Contains (flat_map f ys) r
  flat_sub [] ys sub r (k, low, is) = absurd (omega arith)
  flat_sub (x ∷ xs) ys sub r m =
      elim (Contains-append_cases (f x) (flat_map f xs) r m) [
        | inl h ↦ flat_in ys x r (sub x (0, omega arith, refl)) h
        | inr h ↦ flat_sub xs ys (λ y k. sub y (Contains-append_right (x ∷ []) xs y k)) r h
      ]

pub tables_sub : (l : Layout) (file xs ys : List ℕ) → ((x : ℕ) → Contains xs x → Contains ys x) → (r : FileSpan) → Contains (tables_of l file xs) r → Contains (tables_of l file ys) r
tables_sub l file xs ys sub r m =
    elim (split_by (span 0 l.header) (flat_map (tables_at l file) xs) r m) [
      | inl e ↦ (0, omega arith, e)
      | inr h ↦ Contains-append_right (span 0 l.header ∷ []) (flat_map (tables_at l file) ys) r (flat_sub (tables_at l file) xs ys sub r h)
    ]

pub at_among : (l : Layout) (file xs : List ℕ) (x : ℕ) (r : FileSpan) → Contains (tables_at l file x) r → Contains (tables_of l file (xs ++ x ∷ [])) r
at_among l file xs x r h =
    Contains-append_right (span 0 l.header ∷ []) (flat_map (tables_at l file) (xs ++ x ∷ [])) r
    (flat_in (tables_at l file) (xs ++ x ∷ []) x r (Contains-append_right xs (x ∷ []) x (0, omega arith, refl)) h)

-- one directory more
pub reads_more : (s t u : DeskState) (name : List ℕ) (l : Layout) (xs ys : List ℕ) (x : ℕ) → Reads s t name (λ file. tables_of l file xs) → Reads t u name (λ file. tables_at l file x)
    → Told s.files (λ files. ys ≡ xs ++ x ∷ []) → Reads s u name (λ file. tables_of l file ys)
reads_more s t u name l xs ys x a b same =
    reads_wider name s u (λ file. tables_of l file (xs ++ x ∷ [])) (λ file. tables_of l file ys)
    (reads_trans name s t u (λ file. tables_of l file (xs ++ x ∷ []))
    (reads_wider name s t (λ file. tables_of l file xs) (λ file. tables_of l file (xs ++ x ∷ [])) a
    (λ files told. tables_sub l (bytes_of files name) xs (xs ++ x ∷ []) (λ y k. Contains-append_left xs (x ∷ []) y k)))
    (reads_wider name t u (λ file. tables_at l file x) (λ file. tables_of l file (xs ++ x ∷ [])) b (λ files told. at_among l (bytes_of files name) xs x)))
    (λ files told r h. subst (λ (zs : List ℕ). Contains (tables_of l (bytes_of files name) zs) r) (sym (same files told)) h)

pub walk_none : (s : DeskState) (name : List ℕ) → WalkReads s s name
walk_none s name = record {
  same = record { files = refl; wrote = refl };
  counts = record { faults = omega arith; misses = omega arith; plan = refl };
  reads = λ reads told. ([], told ∙ ap Some (sym (append-nil reads)), All-nil (λ (m : Moved). m.0 ≡ name), λ files t offsets w. All-nil (IsAmong (tables_of (layout_of (bytes_of files name)) (bytes_of files name) offsets)));
}

pub walk_trans : (s t u : DeskState) (name : List ℕ) → WalkReads s t name → WalkReads t u name → WalkReads s u name
walk_trans s t u name a b = record {
  same = same_trans s t u a.same b.same;
  counts = counts_trans s t u a.counts b.counts;
  reads = λ reads told.
      let m = a.reads reads told in
      let n = b.reads (reads ++ m.0) m.1 in (
        m.0 ++ n.0,
        n.1 ∙ ap Some (append_assoc reads m.0 n.0),
        All-append (λ (k : Moved). k.0 ≡ name) m.0 n.0 m.2 n.2,
        λ files f offsets w. All-append (IsAmong (tables_of (layout_of (bytes_of files name)) (bytes_of files name) offsets)) m.0 n.0 (m.3 files f offsets w) (n.3 files (a.same.files ∙ f) offsets w),
      );
}

-- reads in the tables of offsets that are all in the whole list
pub walk_reads : (s t : DeskState) (name : List ℕ) (l : Layout) (xs : List ℕ) → Reads s t name (λ file. tables_of l file xs)
    → Told s.files (λ files. l ≡ layout_of (bytes_of files name))
    → Told s.files (λ files. (offsets : List ℕ) → Walks (bytes_of files name) offsets → (x : ℕ) → Contains xs x → Contains offsets x) → WalkReads s t name
walk_reads s t name l xs a is sub = record {
  same = a.same;
  counts = a.counts;
  reads = λ reads told.
      let m = a.reads reads told in (
        m.0,
        m.1,
        m.2,
        λ files f offsets w.
            let file = bytes_of files name in
            All-weaker (IsAmong (tables_of l file xs)) (IsAmong (tables_of (layout_of file) file offsets))
            (λ k i. (i.0, subst (λ (n : Layout). Contains (tables_of n file offsets) i.0) (is files f) (tables_sub l file xs offsets (sub files f offsets w) i.0 i.1), i.2, i.3)) m.0 (m.3 files f),
      );
}

-- reads in the header
pub walk_header : (s t : DeskState) (name : List ℕ) (start end : ℕ) → ReadInside s t name start end
    → Told s.files (λ files. (offsets : List ℕ) → Walks (bytes_of files name) offsets → end ≤ (layout_of (bytes_of files name)).header) → WalkReads s t name
walk_header s t name start end a h = record {
  same = a.same;
  counts = a.counts;
  reads = λ reads told.
      let m = a.reads reads told in (
        m.0,
        m.1,
        All-weaker (IsInside name start end) (λ (k : Moved). k.0 ≡ name) (λ k i. i.of_name) m.0 m.2,
        λ files f offsets w.
            let file = bytes_of files name in
            let most = h files f offsets w in
            All-weaker (IsInside name start end) (IsAmong (tables_of (layout_of file) file offsets))
            (λ k i. (span 0 (layout_of file).header, (0, omega arith, refl), omega arith, (let e = i.to_end in omega (arith, e, most)))) m.0 m.2,
      );
}

-- the offsets so far, and the next, are in the whole list
pub in_whole : (l : Layout) (file xs : List ℕ) (next : ℕ) → l ≡ layout_of file → Reaches l file xs → slice_get (all_named l file xs) (length xs) ≡ Some next
    → (offsets : List ℕ) → Walks file offsets → (x : ℕ) → Contains (xs ++ next ∷ []) x → Contains offsets x
in_whole l file xs next is r named offsets w x m =
    let back = sym is in
    let q : Reaches l file offsets = subst (λ (n : Layout). Reaches n file offsets) back w.reaches in
    let all : all_named l file offsets ≡ offsets = subst (λ (n : Layout). all_named n file offsets ≡ offsets) back w.all in
    elim (Contains-append_cases xs (next ∷ []) x m) [
      | inl h ↦ front_of l file xs offsets r q all x h
      | inr h ↦
          elim (split_by next [] x h) [
            | inl e ↦ subst (λ (n : ℕ). Contains offsets n) e (next_of l file xs offsets r q all next named)
            | inr h ↦ (let low = h.1 in absurd (omega arith))
          ]
    ]

pub so_far_whole : (l : Layout) (file xs : List ℕ) → l ≡ layout_of file → Reaches l file xs → (offsets : List ℕ) → Walks file offsets → (x : ℕ) → Contains xs x → Contains offsets x
so_far_whole l file xs is r offsets w x h =
    let back = sym is in
    front_of l file xs offsets r (subst (λ (n : Layout). Reaches n file offsets) back w.reaches) (subst (λ (n : Layout). all_named n file offsets ≡ offsets) back w.all) x h

-- the first bytes, and then the header's offset
pub walk_head : (s t u : DeskState) (name : List ℕ) (l : Layout) (n : ℕ) → ReadInside s t name 0 (0 + n) → 0 + n ≤ 8 → ReadInside t u name l.word (l.word + l.word) → l.header ≡ 2 * l.word
    → Told s.files (λ files. l ≡ layout_of (bytes_of files name)) → WalkReads s u name
walk_head s t u name l n a few b double is =
    walk_trans s t u name
    (walk_header s t name 0 (0 + n) a (λ files told offsets w. let least = header_least (bytes_of files name) in omega (arith, few, least)))
    (walk_header t u name l.word (l.word + l.word) b (λ files told offsets w. let header = ap (λ (m : Layout). m.header) (is files (sym a.same.files ∙ told)) in omega (arith, header, double)))

-- the next directory, whatever comes of it
pub walk_next : (s t u : DeskState) (name : List ℕ) (l : Layout) (items : List ℕ) (found : List Reached) (pictures : List ℕ → List FileSpan) → length found < length items
    → Reads s t name (λ file. tables_of l file (take (length found) items)) → Reads t u name (λ file. tables_at l file (get_or items (length found) 0))
    → Told s.files (λ files. l ≡ layout_of (bytes_of files name)) → Told s.files (λ files. Underway l (bytes_of files name) items found (pictures (bytes_of files name))) → WalkReads s u name
walk_next s t u name l items found pictures within a b is under =
    let xs = take (length found) items in
    let x = get_or items (length found) 0 in
    walk_reads s u name l (xs ++ x ∷ []) (reads_more s t u name l xs (xs ++ x ∷ []) x a b (λ files told. refl)) is
    (λ files told. in_whole l (bytes_of files name) xs x (is files told) (under files told).reaches (next_named l (bytes_of files name) items found (pictures (bytes_of files name)) (under files told) within))
