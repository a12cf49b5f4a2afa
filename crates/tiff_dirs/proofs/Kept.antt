-- Pieces of a file that are kept, and what is read from them.
use Rattle.std.proofs.Common.{◌≡◌, ◌≢◌, ℕ, zero, suc, ◌+◌, ◌-◌, ◌*◌, ◌<◌, ◌≤◌, ◌⊎◌, inl, inr, ◌==◌, ◌||◌, Bool, true, false, if◌then◌else◌, List, [], ◌∷◌, ◌++◌, length, take, drop, map, get_or, refl, sym, ap, subst, ◌∙◌, arith, Some, None}
use Rattle.std.specs.declared.option.Option.{Option}
use Rattle.std.specs.List.{All, slice_get}
use Rattle.std.specs.Option.{option_map, option_or}
use Rattle.std.proofs.Math.Nat.{mul-suc}
use Rattle.std.proofs.Math.Seq.{take-add}
use Rattle.std.proofs.lemmas.List.{take-take, drop-drop, length-take, length-drop, length-append, length-map, map-append, take_more}
use Rattle.std.proofs.lemmas.List.Elements.{All-head, All-tail}
use Rattle.std.proofs.lemmas.Bool.Decides.{nat_tests}
use Rattle.std.proofs.lemmas.Option.{slice_get-map, slice_get_within, get_or_from_slice_get, slice_get_read}
use Rattle.tiff_dirs.specs.declared.layout.Layout.{Layout}
use Rattle.tiff_dirs.specs.declared.entry.Entry.{Entry}
use Rattle.tiff_dirs.specs.declared.stop.TiffStop.{TiffStop}
use Rattle.tiff_dirs.specs.declared.stop.TiffStop.TheVariants.{Fault}
use Rattle.xmp_values.specs.declared.rules.Rule.TheVariants.{ValueOut}
use Rattle.tiff_dirs.specs.declared.pieces.Piece.{Piece}
use Rattle.tiff_dirs.specs.declared.directory.Reached.{Reached}
use Rattle.tiff_dirs.specs.declared.directory.Directory.{Directory}
use Rattle.tiff_dirs.specs.Layouts.{Widths}
use Rattle.tiff_dirs.specs.Directories.{entries_from, entries_at}
use Rattle.tiff_dirs.specs.Pictures.{first_of_tag, pictures_of}
use Rattle.tiff_dirs.specs.Faults.{value_out, tag_fault, entries_fault, is_packet_tag, inner_fault, place_fault, fault_at, pictures_fault}
use Rattle.tiff_dirs.specs.Parts.{IsPart, entry_in, entries_in_part}
use Rattle.tiff_dirs.specs.Tiff.{Dir, entries_in, first_entry}
use Rattle.tiff_dirs.specs.Kept.{Holds, Has, IsPlaced, shown, blank, entries_by, dir_by, dir_in}
use Rattle.tiff_dirs.proofs.Nearest.{drop_at}
use Rattle.tiff_dirs.proofs.Piece.{part_of, entries_part}

module _ (file part : List ℕ) (start : ℕ) (is : IsPart part start file) where
  pub slice_is : (a n : ℕ) → a + n ≤ length part → take n (drop a part) ≡ take n (drop (start + a) file)
  slice_is a n h =
      ap (λ (t : List ℕ). take n (drop a t)) is
      ∙ ap (take n) (part_of file start a (length part) (length part - a) (omega arith))
      ∙ take-take n (length part - a) (drop (start + a) file) (omega arith)

  -- bytes of a part are a part
  pub slice_part : (a n : ℕ) → a + n ≤ length part → IsPart (take n (drop a part)) (start + a) file
  slice_part a n h =
      let size : length (take n (drop a part)) ≡ n = (let t = length-take n (drop a part) in let d = length-drop a part in omega (arith, t, d)) in
      slice_is a n h ∙ ap (λ (k : ℕ). take k (drop (start + a) file)) (sym size)

-- two parts, of which the second begins in the first or at its end
pub parts_join : (file one two : List ℕ) (start next known : ℕ) → IsPart one start file → IsPart two next file → start ≤ next → next + known ≡ start + length one → known ≤ length two
    → IsPart (one ++ drop known two) start file
parts_join file one two start next known a b begins seam h =
    let m = length two - known in
    let size : length (one ++ drop known two) ≡ length one + m = (let t = length-append one (drop known two) in let d = length-drop known two in omega (arith, t, d)) in
    let at : next + known ≡ start + length one = seam in
    let rest : drop known two ≡ take m (drop (start + length one) file) =
    ap (drop known) b ∙ part_of file next known (length two) m (omega arith) ∙ ap (λ (k : ℕ). take m (drop k file)) at in
    ap (λ (t : List ℕ). t ++ drop known two) a
    ∙ ap (λ (t : List ℕ). take (length one) (drop start file) ++ t) (rest ∙ ap (take m) (sym (drop-drop (length one) start file)))
    ∙ sym (take-add (length one) m (drop start file))
    ∙ ap (λ (k : ℕ). take k (drop start file)) (sym size)

pub All-at : {X : Type 0} (P : X → Type 0) (xs : List X) (k : ℕ) (x : X) → All P xs → slice_get xs k ≡ Some x → P x
All-at P xs k x a e = subst P (get_or_from_slice_get xs k x x e) (a k x (slice_get_within xs k x e))

-- the last of a list with one more
pub pushed : {X : Type 0} (xs : List X) (y : X) (k : ℕ) (x : X) → slice_get (xs ++ y ∷ []) k ≡ Some x
    → ((k < length xs) × (slice_get xs k ≡ Some x) × (take k (xs ++ y ∷ []) ≡ take k xs)) ⊎ ((k ≡ length xs) × (x ≡ y) × (take k (xs ++ y ∷ []) ≡ xs))
pushed [] y zero x e = inr (refl, cc, refl)
pushed [] y (suc k) x e = (cc)
pushed (z ∷ xs) y zero x e = inl (omega arith, e, refl)
pushed (z ∷ xs) y (suc k) x e =
    elim (pushed xs y k x e) [
      | inl h ↦ inl (let a = h.0 in omega (arith, a), h.1, ap (λ t. z ∷ t) h.2)
      | inr h ↦ inr (ap suc h.0, h.1, ap (λ t. z ∷ t) h.2)
    ]

-- the entries that lie in a piece
pub piece_entries : (file : List ℕ) (l : Layout) (p : Piece) (start n : ℕ) → Widths l → Holds file p → Has (length file) start (l.entry * n) p
    → entries_in_part l p.start p.bytes.items (start - p.start) n ≡ entries_from l file start n
piece_entries file l p start n w holds has =
    let begins = has.begins in let ends = has.ends in
    entries_part p.bytes.items file p.start (length p.bytes.items) holds l w (start - p.start) start n (omega (arith, begins, ends)) (omega (arith, begins))

abbrev dir_as : ℕ → ℕ → List Entry → Dir
dir_as at end entries = record { at = at; end = end; entries = entries }

placed_is : (file : List ℕ) (l : Layout) (len : ℕ) (ps : List Piece) (d : Directory) → Widths l → length file ≡ len → All (Holds file) ps → IsPlaced l len ps d
    → dir_by l len ps d ≡ dir_in l file d.place
placed_is file l len ps d w size holds (p, e, has) =
    let start = d.place.at + l.count in
    let same : entries_by l len (slice_get ps d.piece) start d.place.count ≡ map (shown l len) (entries_in_part l p.start p.bytes.items (start - p.start) d.place.count) =
    ap (λ (o : Option Piece). entries_by l len o start d.place.count) e in
    let read = piece_entries file l p start d.place.count w (All-at (Holds file) ps d.piece p holds e) (subst (λ (n : ℕ). Has n start (l.entry * d.place.count) p) (sym size) has) in
    ap (dir_as d.place.at d.place.end) (same ∙ ap (map (shown l len)) read ∙ ap (λ (n : ℕ). map (shown l n) (entries_from l file start d.place.count)) (sym size))

pub placed_are : (file : List ℕ) (l : Layout) (len : ℕ) (ps : List Piece) (found : List Directory) → Widths l → length file ≡ len → All (Holds file) ps → All (IsPlaced l len ps) found
    → map (dir_by l len ps) found ≡ map (dir_in l file) (map (λ d. d.place) found)
placed_are file l len ps [] w size holds placed = refl
placed_are file l len ps (d ∷ ds) w size holds placed =
    ap (λ (x : Dir). x ∷ map (dir_by l len ps) ds) (placed_is file l len ps d w size holds (All-head (IsPlaced l len ps) d ds placed))
    ∙ ap (λ (xs : List Dir). dir_in l file d.place ∷ xs) (placed_are file l len ps ds w size holds (All-tail (IsPlaced l len ps) d ds placed))

-- where no entry has a fault, each is shown
shown_by : (out : Bool) (e : Entry) (rest more : Option TiffStop) (s : TiffStop) → option_or (if out then Some s else rest) more ≡ None → ((if out then blank else e) ≡ e) × (more ≡ None)
shown_by true e rest more s h = absurd (cc)
shown_by false e None more s h = (refl, h)
shown_by false e (Some t) more s h = absurd (cc)

pub shown_all : (l : Layout) (len : ℕ) (first seen : Bool) (es : List Entry) → entries_fault l len first seen es ≡ None → map (shown l len) es ≡ es
shown_all l len first seen [] h = refl
shown_all l len first seen (e ∷ es) h =
    let k = shown_by (value_out l len e) e (tag_fault first seen e) (entries_fault l len first (seen || is_packet_tag e) es) (Fault ValueOut e.place 0 0) h in
    ap (λ (x : Entry). x ∷ map (shown l len) es) k.0 ∙ ap (λ (xs : List Entry). e ∷ xs) (shown_all l len first (seen || is_packet_tag e) es k.1)

both_none : (a b : Option TiffStop) → option_or a b ≡ None → (a ≡ None) × (b ≡ None)
both_none None b h = (refl, h)
both_none (Some s) b h = absurd (cc)

pub clear_entries : (l : Layout) (file before : List ℕ) (at : ℕ) → fault_at l file before at ≡ None → map (shown l (length file)) (entries_at l file at) ≡ entries_at l file at
unfolding fault_at
clear_entries l file before at h =
    let first = length before == 0 in
    let inside = (both_none (place_fault l file before at) (inner_fault l file first (entries_at l file at)) h).1 in
    shown_all l (length file) first false (entries_at l file at)
    (both_none (entries_fault l (length file) first false (entries_at l file at)) (pictures_fault (length file) (pictures_of l file (entries_at l file at))) inside).0

-- an entry of those that lie in a part
pub entry_among : (l : Layout) (start : ℕ) (part : List ℕ) (at n i : ℕ) → i < n → slice_get (entries_in_part l start part at n) i ≡ Some (entry_in l start part (at + l.entry * i))
entry_among l start part at zero i h = absurd (omega arith)
entry_among l start part at (suc n) zero h = ap (λ (k : ℕ). Some (entry_in l start part k)) (omega arith)
entry_among l start part at (suc n) (suc i) h =
    entry_among l start part (at + l.entry) n i (omega arith) ∙ ap (λ (k : ℕ). Some (entry_in l start part k)) (omega arith)

pub entries_count : (l : Layout) (start : ℕ) (part : List ℕ) (at n : ℕ) → length (entries_in_part l start part at n) ≡ n
entries_count l start part at zero = refl
entries_count l start part at (suc n) = ap suc (entries_count l start part (at + l.entry) n)

pub entry_shown : (l : Layout) (len start : ℕ) (part : List ℕ) (at n i : ℕ) → i < n
    → slice_get (map (shown l len) (entries_in_part l start part at n)) i ≡ Some (shown l len (entry_in l start part (at + l.entry * i)))
entry_shown l len start part at n i h =
    slice_get-map (shown l len) (entries_in_part l start part at n) i ∙ ap (option_map (shown l len)) (entry_among l start part at n i h)

-- the entries of a directory that is there
module _ (l : Layout) (len : ℕ) (ps : List Piece) (found : List Directory) (k : ℕ) (d : Directory) (p : Piece) (there : slice_get found k ≡ Some d) (piece : slice_get ps d.piece ≡ Some p) where
  pub dir_there : entries_in (slice_get (map (dir_by l len ps) found) k) ≡ map (shown l len) (entries_in_part l p.start p.bytes.items (d.place.at + l.count - p.start) d.place.count)
  dir_there =
      ap entries_in (slice_get-map (dir_by l len ps) found k ∙ ap (option_map (dir_by l len ps)) there)
      ∙ ap (λ (o : Option Piece). entries_by l len o (d.place.at + l.count) d.place.count) piece

  pub dir_count : length (entries_in (slice_get (map (dir_by l len ps) found) k)) ≡ d.place.count
  dir_count =
      ap length dir_there ∙ length-map (entries_in_part l p.start p.bytes.items (d.place.at + l.count - p.start) d.place.count) (shown l len)
      ∙ entries_count l p.start p.bytes.items (d.place.at + l.count - p.start) d.place.count

pub mul_within : (e i n : ℕ) → i < n → e * i + e ≤ e * n
mul_within e i zero h = absurd (omega arith)
mul_within e zero (suc n) h = let m = mul-suc e n in omega (arith, m)
mul_within e (suc i) (suc n) h = let m = mul-suc e n in let j = mul-suc e i in let k = mul_within e i n (omega arith) in omega (arith, m, j, k)

-- a directory by its index among those that were placed
module _ (dirs : List Dir) (l : Layout) (len : ℕ) (ps : List Piece) (found : List Directory) (is : map (dir_by l len ps) found ≡ dirs) (placed : All (IsPlaced l len ps) found)
    (k : ℕ) (d : Directory) (within : k < length dirs) (read : d ≡ get_or found k d) where
  there : slice_get found k ≡ Some d
  there =
      let size = ap length is in
      let same = length-map found (dir_by l len ps) in
      slice_get_read found (length found) k d refl (omega (arith, size, same, within)) read

  spot : IsPlaced l len ps d
  spot = All-at (IsPlaced l len ps) found k d placed there

  pub count_is : length (entries_in (slice_get dirs k)) ≡ d.place.count
  count_is = ap (λ (ds : List Dir). length (entries_in (slice_get ds k))) (sym is) ∙ dir_count l len ps found k d spot.0 there spot.1

  module _ (p : Piece) (e : p ≡ get_or ps d.piece p) where
    piece_there : slice_get ps d.piece ≡ Some p
    piece_there = slice_get_read ps (length ps) d.piece p refl (slice_get_within ps d.piece spot.0 spot.1) e

    pub piece_has : Has len (d.place.at + l.count) (l.entry * d.place.count) p
    piece_has =
        let j : Some spot.0 ≡ Some p = sym spot.1 ∙ piece_there in
        let same : spot.0 ≡ p = (cc j) in
        subst (Has len (d.place.at + l.count) (l.entry * d.place.count)) same spot.2

    pub entry_is : (i : ℕ) → i < length (entries_in (slice_get dirs k))
        → slice_get (entries_in (slice_get dirs k)) i ≡ Some (shown l len (entry_in l p.start p.bytes.items (d.place.at + l.count - p.start + l.entry * i)))
    entry_is i h =
        let count = count_is in
        ap (λ (ds : List Dir). slice_get (entries_in (slice_get ds k)) i) (sym is)
        ∙ ap (λ (es : List Entry). slice_get es i) (dir_there l len ps found k d p there piece_there)
        ∙ entry_shown l len p.start p.bytes.items (d.place.at + l.count - p.start) d.place.count i (omega (arith, count, h))

    pub entry_inside : (i : ℕ) → i < length (entries_in (slice_get dirs k)) → (d.place.at + l.count - p.start + l.entry * i + l.entry ≤ length p.bytes.items)
        × (p.start ≤ d.place.at + l.count) × (p.start + length p.bytes.items ≤ len) × (d.place.at + l.count ≤ len) × (l.entry * i ≤ len)
        × (d.place.at + l.count - p.start + l.entry * i ≤ len)
    entry_inside i h =
        let count = count_is in
        let has = piece_has in
        let begins = has.begins in
        let ends = has.ends in
        let last = has.within in
        let room = mul_within l.entry i d.place.count (omega (arith, count, h)) in
        (omega (arith, begins, ends, room), begins, last, omega (arith, begins, ends, last), omega (arith, begins, ends, last, room), omega (arith, begins, ends, last, room))

-- the first entry of a tag
pub first_in : (tag : ℕ) (dirs : List Dir) → first_of_tag tag (entries_in (slice_get dirs 0)) ≡ first_entry tag dirs
first_in tag [] = refl
first_in tag (d ∷ ds) = refl

pub first_here : (tag : ℕ) (es : List Entry) (i : ℕ) (e : Entry) → slice_get es i ≡ Some e → e.tag ≡ tag → first_of_tag tag (drop i es) ≡ first_of_tag tag es → Some e ≡ first_of_tag tag es
first_here tag es i e at h inv =
    let here : first_of_tag tag (e ∷ drop (i + 1) es) ≡ Some e = grind (arith, nat_tests, h) in
    sym here ∙ ap (first_of_tag tag) (sym (drop_at es i e at)) ∙ inv

pub first_after : (tag : ℕ) (es : List Entry) (i : ℕ) (e : Entry) → slice_get es i ≡ Some e → e.tag ≢ tag → first_of_tag tag (drop i es) ≡ first_of_tag tag es
    → first_of_tag tag (drop (i + 1) es) ≡ first_of_tag tag es
first_after tag es i e at h inv =
    let here : first_of_tag tag (e ∷ drop (i + 1) es) ≡ first_of_tag tag (drop (i + 1) es) = grind (arith, nat_tests, h) in
    sym here ∙ ap (first_of_tag tag) (sym (drop_at es i e at)) ∙ inv

-- one directory more that was placed
pub places_more : (found : List Directory) (d : Directory) (new : List Directory) (reached : List Reached) (i : ℕ) (x : Reached) → i < length reached
    → map (λ d. d.place) found ≡ take i reached → new ≡ found ++ d ∷ [] → d.place ≡ get_or reached i x → map (λ d. d.place) new ≡ take (i + 1) reached
places_more found d new reached i x h old e p =
    ap (map (λ (d : Directory). d.place)) e ∙ map-append (λ (d : Directory). d.place) found (d ∷ [])
    ∙ ap (λ (t : List Reached). t ++ d.place ∷ []) old ∙ ap (λ (r : Reached). take i reached ++ r ∷ []) p ∙ sym (take_more reached i x h)

pub has_at : (l : Layout) (len start size : ℕ) (ps : List Piece) (d : Directory) → start ≡ d.place.at + l.count → size ≡ l.entry * d.place.count
    → ((p : Piece) × (slice_get ps d.piece ≡ Some p) × Has len start size p) → IsPlaced l len ps d
has_at l len start size ps d a b (p, e, h) =
    (p, e, subst (λ (n : ℕ). Has len n (l.entry * d.place.count) p) a (subst (λ (n : ℕ). Has len start n p) b h))
