-- The calls on a desk with one sparse file.
use Rattle.std.proofs.Common.{◌≡◌, ℕ, suc, ◌+◌, ◌-◌, ◌^◌, ◌<◌, ◌≤◌, min, List, ◌∷◌, Bool, true, false, cond, IsTrue, is_some, map, length, drop, get_or, refl, sym, ap, ◌∙◌, Some, None, Ok, Err, arith, inl}
use Rattle.std.specs.declared.option.Option.{Option}
use Rattle.std.specs.Option.{unwrap_or}
use Rattle.std.specs.Ordering.{eq_by_cmp}
use Rattle.std.specs.Cmp.Lexicographic.{nat_list_cmp_total}
use Rattle.std.specs.FinMap.{get, empty, get-insert, get-empty}
use Rattle.std.proofs.Math.Seq.{drop-cons}
use Rattle.std.proofs.lemmas.List.{length-map, get_or-map, drop_all}
use Rattle.xmp_base.specs.declared.sparse_desk.Piece.{Piece}
use Rattle.xmp_base.specs.declared.device.Failed.{Failed}
use Rattle.xmp_base.specs.Device.{name_cmp, SizeCall, ReadCall, WriteCall, len_of, is_known}
use Rattle.xmp_base.specs.Memory.{up}
use Rattle.xmp_base.specs.Sparse.{SparseFile, sparse_state, piece_byte, byte_over, byte_at}
use Rattle.xmp_base.proofs.Names.{insert_held, get-insert_same, name_eq-true}

abbrev pub stated : Piece → ℕ × List ℕ
stated piece = (piece.place, piece.bytes.items)

-- one more piece was looked at
pub byte_step : (pieces : List Piece) (i place byte next : ℕ) (piece : Piece) → i < length pieces → piece ≡ get_or pieces i piece
    → next ≡ unwrap_or (piece_byte (stated piece) place) byte
    → byte_over (drop i (map stated pieces)) place byte ≡ byte_over (drop (i + 1) (map stated pieces)) place next
byte_step pieces i place byte next piece within is next_is =
    let size : i < length (map stated pieces) = omega (arith, length-map pieces stated, within) in
    let here : get_or (map stated pieces) i (stated piece) ≡ stated piece = get_or-map stated pieces i piece (stated piece) within ∙ ap stated (sym is) in
    let next_place : suc i ≡ i + 1 = omega arith in
    let cut = drop-cons (map stated pieces) i (stated piece) size ∙ ap (λ (n : ℕ). get_or (map stated pieces) i (stated piece) ∷ drop n (map stated pieces)) next_place in
    ap (λ (l : List (ℕ × List ℕ)). byte_over l place byte) cut
    ∙ ap (λ (p : ℕ × List ℕ). byte_over (drop (i + 1) (map stated pieces)) place (unwrap_or (piece_byte p place) byte)) here
    ∙ ap (byte_over (drop (i + 1) (map stated pieces)) place) (sym next_is)

-- all pieces were looked at
pub byte_last : (s : SparseFile) (pieces items : List Piece) (i place byte : ℕ) → byte_over (drop i (map stated items)) place byte ≡ byte_over (map stated items) place 0 → length items ≤ i
    → items ≡ pieces → map stated pieces ≡ s.pieces → byte ≡ byte_at s place
byte_last s pieces items i place byte is past same view =
    sym (ap (λ (l : List (ℕ × List ℕ)). byte_over l place byte) (drop_all i (map stated items) (omega (arith, past, length-map items stated)))) ∙ is
    ∙ ap (λ (l : List Piece). byte_over (map stated l) place 0) same ∙ ap (λ (l : List (ℕ × List ℕ)). byte_over l place 0) view

by_name : (b : Bool) (q k : List ℕ) (n : ℕ) → (b ≡ true → q ≡ k) → is_some (cond b (Some n) None) ≡ true → q ≡ k
by_name true q k n is some = is refl
by_name false q k n is some = absurd (cc some)

-- the one known name
pub known_name : (s : SparseFile) (name : List ℕ) → IsTrue (is_known (sparse_state s) name) → name ≡ s.name
known_name s name known = by_name (eq_by_cmp name_cmp name s.name) name s.name s.size (λ e. name_eq-true name s.name e)
    (sym (ap is_some (get-insert nat_list_cmp_total empty s.name s.size name ∙ ap (cond (eq_by_cmp name_cmp name s.name) (Some s.size)) (get-empty name_cmp name))) ∙ known)

pub known_size : (s : SparseFile) (name : List ℕ) → IsTrue (is_known (sparse_state s) name) → get (sparse_state s).lens name ≡ Some s.size
known_size s name known = ap (get (sparse_state s).lens) (known_name s name known) ∙ get-insert_same empty s.name s.size

pub sparse_size : (s : SparseFile) (name : List ℕ) → name ≡ s.name → SizeCall (sparse_state s) (sparse_state s) name (Ok s.size)
sparse_size s name is = record {
  same = record { files = refl; wrote = refl };
  reads = refl;
  counts = record { faults = omega arith; misses = omega arith; plan = refl };
  lens = sym (insert_held (sparse_state s).lens name s.size (ap (get (sparse_state s).lens) is ∙ get-insert_same empty s.name s.size));
  told = λ files told. absurd (cc told);
  absent = λ e. absurd (cc e);
  failed = λ e. absurd (cc e);
}

pub sparse_read : (s : SparseFile) (name : List ℕ) (at count : ℕ) (to : List ℕ) → IsTrue (is_known (sparse_state s) name) → count ≡ min (s.size - at) (length to)
    → ReadCall (sparse_state s) (sparse_state s) name at to (Ok count)
sparse_read s name at count to known is = let size = ap (λ (o : Option ℕ). unwrap_or o 0) (known_size s name known) in record {
  same = record { files = refl; wrote = refl };
  counts = record { faults = omega arith; misses = omega arith; plan = refl };
  lens = refl;
  reads = refl;
  agrees = λ files told. absurd (cc told);
  most = (omega (arith, is), omega (arith, is, size));
  least = λ inside given. omega (arith, is, size, inside, given);
  bytes = λ files told. absurd (cc told);
  failed = tt;
}

pub sparse_write : (s t : SparseFile) (name piece : List ℕ) (at : ℕ) (e : Failed) → IsTrue (is_known (sparse_state s) name) → s.faults < 2 ^ 64 → t ≡ record s { faults = up s.faults }
    → WriteCall (sparse_state s) (sparse_state t) name at piece (Err e)
sparse_write s t name piece at e known fits is = rw is (record {
  counts = record { faults = omega (arith, fits); misses = omega arith; plan = refl };
  reads = refl;
  wrote = inl refl;
  empty = λ none. refl;
  agrees = λ files told. absurd (cc told);
  most = tt;
  least = tt;
  files = λ files told. absurd (cc told);
  lens = (len_of (sparse_state s) name, sym (insert_held (sparse_state s).lens name _ (known_size s name known ∙ ap Some (sym (ap (λ (o : Option ℕ). unwrap_or o 0) (known_size s name known))))), omega arith, omega arith);
  failed = omega (arith, fits);
})
