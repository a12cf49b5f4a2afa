-- What reading heads one after another leaves unread.
use Rattle.std.proofs.Common.{◌≡◌, inl, inr, ℕ, ◌+◌, ◌-◌, ◌<◌, ◌≤◌, List, [], ◌∷◌, ◌++◌, length, get_or, take, drop, refl, sym, ap, subst, ◌∙◌, arith, append_assoc, Some}
use Rattle.std.specs.Prelude.{flat_map}
use Rattle.std.proofs.lemmas.List.{append-nil, drop-drop, drop-take, length-append}
use Rattle.std.proofs.lemmas.List.Elements.{All-append, All-nil, All-weaker}
use Rattle.xmp_base.specs.Device.{DeskState, Moved, Told, bytes_of}
use Rattle.xmp_base.specs.Windows.{IsInside, ReadInside}
use Rattle.xmp_base.proofs.Calls.{same_trans, counts_trans}
use Rattle.irb_iptc.specs.Resources.{Resource, Stands, Begins, signature, name_room, head, text}
use Rattle.irb_iptc.specs.Listing.{Follow, Placed, placed}
use Rattle.irb_iptc.specs.Reading.{IsNamed}
use Rattle.irb_iptc.specs.Scanning.{MeetsNoData, ScanReads, range_of}
use Rattle.irb_iptc.proofs.Blocks.{length-head, length-text}
use Rattle.irb_iptc.proofs.Runs.{room_of}
use Rattle.irb_iptc.proofs.Unique.{append_same, spelled, stands_same}

-- what ends before a place meets no data of blocks from there on
later : (at : ℕ) (rs : List Resource) (m : Moved) → m.1 + m.2 ≤ at → MeetsNoData (placed at rs) m
later at [] m h = tt
later at (r ∷ rs) m h = (inl (omega arith), later (at + length (text r)) rs m (omega arith))

-- a head has twelve bytes at least
pub head_room : (r : Resource) (bytes more : List ℕ) → Stands r bytes more → 7 ≤ length (head r)
head_room r bytes more s = omega (arith, length-head r, s.whole.code, s.whole.size)

-- the head of a block whose name was read
pub head_named : (rest : List ℕ) (id size_at : ℕ) → IsNamed rest id size_at → (r : Resource) (more : List ℕ) → Stands r rest more → length (head r) ≡ size_at + 4
head_named rest id size_at n r more s =
    let same = append_same signature signature _ _ refl (sym n.is ∙ s.is ∙ spelled r more) in
    let codes = append_same n.code r.code _ _ (n.coded ∙ sym s.whole.code) same.1 in
    let after : n.named ∷ (n.name ++ n.more) ≡ r.named ∷ (r.name ++ (r.size ++ (r.body ++ (r.pad ++ more)))) = codes.1 in
    let named : n.named ≡ r.named = cc after in
    let room : name_room n.named ≡ name_room r.named = ap name_room named in
    omega (arith, length-head r, s.whole.code, s.whole.size, s.whole.name, n.roomy, n.place, room)

-- what lies in the head of the first block meets no data
head_apart : (start : ℕ) (bytes : List ℕ) (rs : List Resource) (tail : List ℕ) (m : Moved) → Begins bytes rs tail
    → ((r : Resource) (more : List ℕ) → Stands r bytes more → m.1 + m.2 ≤ start + length (head r)) → MeetsNoData (placed start rs) m
head_apart start bytes [] tail m b h = tt
head_apart start bytes (r ∷ rs) tail m b h =
    let k = h r b.0 b.1 in
    (inl k, later (start + length (text r)) rs m (omega (arith, k, length-text r)))

-- what begins after some blocks meets no data, if it meets none of the later blocks
after_apart : (at : ℕ) (bytes : List ℕ) (rs ss : List Resource) (rest tail : List ℕ) (m : Moved) → Begins bytes rs rest → Begins bytes ss tail → at + room_of rs ≤ m.1
    → ((more : List Resource) → Begins rest more tail → MeetsNoData (placed (at + room_of rs) more) m) → MeetsNoData (placed at ss) m
unfolding room_of
after_apart at bytes [] ss rest tail m a b h later =
    subst (λ (k : ℕ). MeetsNoData (placed k ss) m) (let e : at + 0 ≡ at = omega arith in e) (later ss (subst (λ (l : List ℕ). Begins l ss tail) a b))
after_apart at bytes (r ∷ rs) [] rest tail m a b h later = tt
after_apart at bytes (r ∷ rs) (s ∷ ss) rest tail m a b h later =
    let k = stands_same r s bytes a.0 b.0 a.1 b.1 in
    let long : length (text r) ≡ length (text s) = ap (λ (x : Resource). length (text x)) k.0 in
    let passed : at + length (text s) + length (flat_map text rs) ≡ at + length (text r ++ flat_map text rs) = omega (arith, long, length-append (text r) (flat_map text rs)) in (
      inr (omega (arith, length-text s, passed)),
      after_apart (at + length (text s)) a.0 rs ss rest tail m a.2 (subst (λ (l : List ℕ). Begins l ss tail) (sym k.1) b.2) (omega (arith, passed))
          (λ more begun. subst (λ (n : ℕ). MeetsNoData (placed n more) m) (sym passed) (later more begun)),
    )

-- no call
pub scan_none : (s : DeskState) (name : List ℕ) (at end : ℕ) → ScanReads s s name at end
scan_none s name at end = record {
  same = record { files = refl; wrote = refl };
  counts = record { faults = omega arith; misses = omega arith; plan = refl };
  lens = refl;
  reads = λ reads told. ([], told ∙ ap Some (sym (append-nil reads)), All-nil (IsInside name at end), λ files ftold rs rest b. All-nil (MeetsNoData (placed at rs)));
}

-- one read, in the head of the first block
pub scan_head : (s t : DeskState) (name : List ℕ) (at from to end : ℕ) → ReadInside s t name from to → at ≤ from → to ≤ end
    → Told s.files (λ files. (r : Resource) (more : List ℕ) → Stands r (range_of (bytes_of files name) at end) more → to ≤ at + length (head r))
    → ScanReads s t name at end
scan_head s t name at from to end a low high near = record {
  same = a.same;
  counts = a.counts;
  lens = a.lens;
  reads = λ reads told.
      let n = a.reads reads told in (
        n.0,
        n.1,
        All-weaker (IsInside name from to) (IsInside name at end) (λ x i. record { of_name = i.of_name; from_start = omega (arith, i.from_start); to_end = omega (arith, i.to_end) }) n.0 n.2,
        λ files ftold rs rest b. All-weaker (IsInside name from to) (MeetsNoData (placed at rs))
            (λ x i. head_apart at (range_of (bytes_of files name) at end) rs rest x b (λ r more s. omega (arith, i.to_end, near files ftold r more s))) n.0 n.2,
      );
}

-- the same range, read on
pub scan_trans : (s t u : DeskState) (name : List ℕ) (at end : ℕ) → ScanReads s t name at end → ScanReads t u name at end → ScanReads s u name at end
scan_trans s t u name at end a b = record {
  same = same_trans s t u a.same b.same;
  counts = counts_trans s t u a.counts b.counts;
  lens = b.lens ∙ a.lens;
  reads = λ reads told.
      let m = a.reads reads told in
      let n = b.reads (reads ++ m.0) m.1 in (
        m.0 ++ n.0,
        n.1 ∙ ap Some (append_assoc reads m.0 n.0),
        All-append (IsInside name at end) m.0 n.0 m.2 n.2,
        λ files ftold rs rest begun. All-append (MeetsNoData (placed at rs)) m.0 n.0 (m.3 files ftold rs rest begun) (n.3 files (a.same.files ∙ ftold) rs rest begun),
      );
}

-- a range that begins later is the rest of the range
pub range_rest : (file : List ℕ) (at start end : ℕ) → at ≤ start → start ≤ end → range_of file start end ≡ drop (start - at) (range_of file at end)
range_rest file at start end a b =
    ap (λ (l : List ℕ). take (end - start) l) (ap (λ (k : ℕ). drop k file) (let e : start ≡ at + (start - at) = omega arith in e) ∙ sym (drop-drop (start - at) at file))
    ∙ sym (drop-take (start - at) (end - start) (drop at file))
    ∙ ap (λ (k : ℕ). drop (start - at) (take k (drop at file))) (omega arith)

-- reads after some blocks of the range
pub scan_later : (s t : DeskState) (name : List ℕ) (at start end : ℕ) → ScanReads s t name start end → at ≤ start → start ≤ end
    → Told s.files (λ files. (rs : List Resource) × Begins (range_of (bytes_of files name) at end) rs (drop (start - at) (range_of (bytes_of files name) at end)) × (start ≡ at + room_of rs))
    → ScanReads s t name at end
scan_later s t name at start end a low high so_far = record {
  same = a.same;
  counts = a.counts;
  lens = a.lens;
  reads = λ reads told.
      let n = a.reads reads told in (
        n.0,
        n.1,
        All-weaker (IsInside name start end) (IsInside name at end) (λ x i. record { of_name = i.of_name; from_start = omega (arith, i.from_start); to_end = i.to_end }) n.0 n.2,
        λ files ftold ss tail begun k d h.
            let u = so_far files ftold in
            let file = bytes_of files name in
            let m : Moved = get_or n.0 k d in
            after_apart at (range_of file at end) u.0 ss (drop (start - at) (range_of file at end)) tail m u.1 begun (omega (arith, (n.2 k d h).from_start, u.2))
            (λ more b. subst (λ (at' : ℕ). MeetsNoData (placed at' more) m) u.2
            (n.3 files ftold more tail (subst (λ (l : List ℕ). Begins l more tail) (sym (range_rest file at start end low high)) b) k d h)),
      );
}

-- one block more in a range
pub follow_more : (at start : ℕ) (bs : List Placed) (b : Placed) → Follow at start bs → b.whole.start ≡ start → start < b.body.start → b.body.start ≤ b.body.end → b.body.end ≤ b.whole.end
    → Follow at b.whole.end (bs ++ b ∷ [])
follow_more at start [] b f a low mid high = (a ∙ sym f, omega (arith, f), mid, high, refl)
follow_more at start (x ∷ xs) b f a low mid high = (f.0, f.1, f.2, f.3, follow_more x.whole.end start xs b f.4 a low mid high)
