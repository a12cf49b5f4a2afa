-- A TIFF or BigTIFF file is walked, and its main packet is read.
use Rattle.std.proofs.Common.{◌≡◌, ◌≢◌, ◌⊎◌, ◌∙◌, ℕ, ◌+◌, ◌-◌, ◌<◌, ◌≤◌, Bool, true, false, List, [], ◌∷◌, ◌++◌, length, take, drop, get_or, refl, sym, ap, subst, arith, inl, inr, IsTrue, Ok, Err, Some, None, if◌then◌else◌}
use Rattle.std.specs.declared.option.Option.{Option}
use Rattle.std.specs.declared.result.Result.{Result}
use Rattle.std.specs.FinMap.{get}
use Rattle.std.specs.Option.{option_map, unwrap_or}
use Rattle.std.specs.Prelude.{IsOk, codes, nat_le, nat_lt, ◌&&◌}
use Rattle.std.proofs.lemmas.Bool.Decides.{Decides-eqb}
use Rattle.std.proofs.lemmas.Bool.{or_cases, and_from, and_parts, le-leb, leb-true, lt-ltb, cond-true}
use Rattle.std.proofs.lemmas.List.{length-take-le, length-drop, take-take}
use Rattle.std.proofs.Math.Seq.{take-append_seam}
use Rattle.std.proofs.lemmas.Slice.Eq.{starts_is}
use Rattle.xmp_base.specs.Device.{DeskState, Moved, Told, bytes_of, len_of}
use Rattle.xmp_base.specs.Windows.{MovesInside, WindowCall}
use Rattle.xmp_base.specs.declared.file_span.FileSpan.{FileSpan}
use Rattle.xmp_base.specs.declared.windows.WindowStop.{WindowStop}
use Rattle.xmp_base.specs.declared.windows.WindowStop.TheVariants as windows
use Rattle.xmp_base.proofs.Calls.{rose_after}
use Rattle.xmp_values.specs.declared.faults.Fault.{Fault}
use Rattle.xmp_values.specs.declared.rules.Rule.{Rule}
use Rattle.xmp_values.specs.declared.rules.Rule.TheVariants.{TwoPackets, ShortHeader, DirectoryOut, DirectoryTwice, TooManyDirectories, ValueOut, RegionOut, PacketType, Overlap, DirectoryLong, FileLimit}
use Rattle.xmp_values.specs.declared.stops.FileStop.{FileStop}
use Rattle.xmp_values.specs.declared.stops.FileStop.TheVariants.{Fault as Refused, Device, Memory}
use Rattle.tiff_dirs.specs.declared.entry.Entry.{Entry}
use Rattle.tiff_dirs.specs.declared.stop.TiffStop.TheVariants as stops
use Rattle.tiff_dirs.specs.declared.stop.WalkStop.{WalkStop}
use Rattle.tiff_dirs.specs.declared.stop.WalkStop.TheVariants as walks
use Rattle.tiff_dirs.specs.Layouts.{BeginsTiff, layout_of}
use Rattle.tiff_dirs.specs.Tiff.{Tiff, first_entry}
use Rattle.tiff_dirs.specs.Model.{IsTiff, FirstFault}
use Rattle.tiff_dirs.specs.FromDesk.{WalkReads}
use Rattle.tiff_dirs.specs.Known.{WalkKnownCall}
use Rattle.tiff_dirs.specs.Tables.{IsAmong, tables_of}
use Rattle.tiff_dirs.proofs.Standing.{table_within, entry_stands}
use Rattle.tiff_dirs.proofs.Unique.{tiff_same}
use Rattle.xmp_files.specs.declared.kinds.Kind.{Kind}
use Rattle.xmp_files.specs.declared.kinds.Kind.TheVariants.{Jpeg, Tiff as Classic, BigTiff, WebP, Psd, Sidecar}
use Rattle.xmp_files.specs.declared.held.Need.{Need}
use Rattle.xmp_files.specs.Faults.{file_limit, packet_limit, over_packet}
use Rattle.xmp_files.specs.Kinds.{kind_of, is_jpeg, is_tiff, is_big_tiff, begins}
use Rattle.xmp_files.specs.Stages.{Followed, followed}
use Rattle.xmp_files.specs.Keeping.{Piece, Directories, Kept, image}
use Rattle.xmp_files.specs.Photographs.{piece_at}
use Rattle.xmp_files.specs.Images.{HasDirectories, tiff_packet, is_walk_rule, image_fault, IsImage, IsWalked}
use Rattle.xmp_files.specs.Loading.{known, kind_of_file, limited_by, IsContained, IsKept, within}
use Rattle.xmp_files.specs.Sparing.{IsUnread, Spares, HasContainer, Spared}
use Rattle.xmp_files.specs.Loads.{ReadKnown, SizedCall, IsLoadRefusal, follows_walk, PayloadLies, IsOfSize, walked_stop, walk_stop}
use Rattle.xmp_files.proofs.LoadedPhotographs.{known_by, len_same, limited_ok}
use Rattle.xmp_files.proofs.Loads.{Sized, sized_refusal, sized_fails, sized_wants, sized_kept, known_inside, known_trans, known_kind, by_known, spared_trans}

-- Kinds.

abbrev pub kind_by : Bool → Bool → Bool → Bool → Bool → Bool → Option Kind
kind_by a b c d e f = if a then Some Jpeg else if b then Some Classic else if c then Some BigTiff else if d then Some WebP else if e then Some Psd else if f then Some Sidecar else None

classic_by : (a b c d e f : Bool) → kind_by a b c d e f ≡ Some Classic → (a ≡ false) × (b ≡ true)
classic_by true b c d e f h = absurd (cc h)
classic_by false true c d e f h = (refl, refl)
classic_by false false true d e f h = absurd (cc h)
classic_by false false false true e f h = absurd (cc h)
classic_by false false false false true f h = absurd (cc h)
classic_by false false false false false true h = absurd (cc h)
classic_by false false false false false false h = absurd (cc h)

big_by : (a b c d e f : Bool) → kind_by a b c d e f ≡ Some BigTiff → (a ≡ false) × (b ≡ false) × (c ≡ true)
big_by true b c d e f h = absurd (cc h)
big_by false true c d e f h = absurd (cc h)
big_by false false true d e f h = (refl, refl, refl)
big_by false false false true e f h = absurd (cc h)
big_by false false false false true f h = absurd (cc h)
big_by false false false false false true h = absurd (cc h)
big_by false false false false false false h = absurd (cc h)

-- the first two tests of a TIFF file, and the third of a BigTIFF file
pub classic_tests : (file : List ℕ) → kind_of file ≡ Some Classic → (is_jpeg (take 16 file) ≡ false) × (is_tiff (take 16 file) ≡ true)
classic_tests file h = classic_by _ _ _ _ _ _ h

pub big_tests : (file : List ℕ) → kind_of file ≡ Some BigTiff → (is_jpeg (take 16 file) ≡ false) × (is_tiff (take 16 file) ≡ false) × (is_big_tiff (take 16 file) ≡ true)
big_tests file h = big_by _ _ _ _ _ _ h

front_is : (file : List ℕ) (signature : List ℕ) → length signature ≡ 4 → begins (take 16 file) signature ≡ true → take 4 file ≡ signature
front_is file signature four h =
    let is : take 16 file ≡ signature ++ drop (length signature) (take 16 file) = (starts_is Decides-eqb (take 16 file) signature true (sym h)).0 refl in
    sym (take-take 4 16 file (omega arith)) ∙ ap (take 4) is ∙ ap (λ (n : ℕ). take n (signature ++ drop (length signature) (take 16 file))) (sym four)
    ∙ take-append_seam signature (drop (length signature) (take 16 file))

classic_begins : (file : List ℕ) → is_tiff (take 16 file) ≡ true → BeginsTiff file
classic_begins file h =
    elim (or_cases (begins (take 16 file) (codes "II" ++ 0x2A ∷ 0x00 ∷ [])) (begins (take 16 file) (codes "MM" ++ 0x00 ∷ 0x2A ∷ [])) h) [
      | inl e ↦ inl (front_is file (codes "II" ++ 0x2A ∷ 0x00 ∷ []) refl e)
      | inr e ↦ inr (inl (front_is file (codes "MM" ++ 0x00 ∷ 0x2A ∷ []) refl e))
    ]

pub big_fronts : (file : List ℕ) → is_big_tiff (take 16 file) ≡ true → (take 4 file ≡ 0x49 ∷ 0x49 ∷ 0x2B ∷ 0 ∷ []) ⊎ (take 4 file ≡ 0x4D ∷ 0x4D ∷ 0 ∷ 0x2B ∷ [])
big_fronts file h =
    elim (or_cases (begins (take 16 file) (codes "II" ++ 0x2B ∷ 0x00 ∷ [])) (begins (take 16 file) (codes "MM" ++ 0x00 ∷ 0x2B ∷ [])) h) [
      | inl e ↦ inl (front_is file (codes "II" ++ 0x2B ∷ 0x00 ∷ []) refl e)
      | inr e ↦ inr (front_is file (codes "MM" ++ 0x00 ∷ 0x2B ∷ []) refl e)
    ]

big_begins : (file : List ℕ) → is_big_tiff (take 16 file) ≡ true → BeginsTiff file
big_begins file h = elim (big_fronts file h) [ inl e ↦ inr (inr (inl e)) | inr e ↦ inr (inr (inr e)) ]

-- the kind of a file of directories
abbrev pub IsImageKind : List ℕ → Type 0
IsImageKind file = (kind : Kind) × HasDirectories kind × (known file ≡ Ok kind)

begins_by : (file : List ℕ) (kind : Kind) → HasDirectories kind → kind_of file ≡ Some kind → BeginsTiff file
begins_by file Classic has h = classic_begins file (classic_tests file h).1
begins_by file BigTiff has h = big_begins file (big_tests file h).2
begins_by file kind has h = absurd has

pub begins_tiff : (file : List ℕ) → IsImageKind file → BeginsTiff file
begins_tiff file (kind, has, is) = begins_by file kind has (known_kind file kind is)

-- both kinds have one container
contained_image : (need : Need) (kind : Kind) (bytes : List ℕ) (step : Result Kept Fault) → HasDirectories kind → IsContained need kind bytes step → IsWalked need bytes step
contained_image need Classic bytes step has h = h
contained_image need BigTiff bytes step has h = h
contained_image need kind bytes step has h = absurd has

image_contained : (need : Need) (kind : Kind) (bytes : List ℕ) (step : Result Kept Fault) → HasDirectories kind → IsWalked need bytes step → IsContained need kind bytes step
image_contained need Classic bytes step has h = h
image_contained need BigTiff bytes step has h = h
image_contained need kind bytes step has h = absurd has

pub file_known : (file : Option (List ℕ)) (kind : Kind) → kind_of_file file ≡ Ok kind → known (unwrap_or file []) ≡ Ok kind
file_known None kind h = absurd (cc h)
file_known (Some bytes) kind h = known_by (nat_lt file_limit (length bytes)) (length bytes) bytes kind h

pub has_image : (need : Need) (file : Option (List ℕ)) (kept : Kept) → IsImageKind (unwrap_or file []) → HasContainer need file kept → IsImage need (unwrap_or file []) kept
has_image need file kept (kind, has, is) (other, other_is, contained) =
    let same : other ≡ kind = (let e : Ok other ≡ Ok kind = sym (file_known file other other_is) ∙ is in cc e) in
    contained_image need kind (unwrap_or file []) (Ok kept) has (subst (λ (k : Kind). IsContained need k (unwrap_or file []) (Ok kept)) same contained)

-- a step of the container is a step of the file
pub image_told : (need : Need) (bytes : List ℕ) (held step : Result Kept Fault) → IsImageKind bytes → IsWalked need bytes held → step ≡ followed held (λ kept. limited_by kept kept.payload)
    → Followed (known bytes) (IsKept need bytes) step
image_told need bytes held step (kind, has, is) walked e = by_known need bytes (Ok kind) step is (held, image_contained need kind bytes held has walked, e)

-- What is spared.

table_spares : (file : List ℕ) (size : ℕ) (tiff : Tiff) (t : IsTiff file tiff) (packet : Option Piece) (m : Moved) → IsAmong (tables_of (layout_of file) file t.found.offsets) m
    → (place : ℕ) → m.1 ≤ place → place < m.1 + m.2 → IsUnread (Directories size tiff) packet [] place → ⊥
table_spares file size tiff t packet m among place from before u =
    let w = table_within file tiff t.found [] among.0 among.1 in
    u.1 (w.0, w.1, omega (arith, w.2, among.2, from), omega (arith, w.3, among.3, before))

module _ (need : Need) (s t : DeskState) (name : List ℕ) (kind : Told s.files (λ files. IsImageKind (bytes_of files name))) where
  -- walking spares the pictures
  pub walk_spares : WalkReads s t name → Spared need s t name
  walk_spares call files told reads read_told =
      let m = call.reads reads read_told in (
        m.0,
        m.1,
        λ k d h kept has of.
            let x = has_image need (get files name) kept (kind files told) has in
            let among = m.3 files told x.walked.found.offsets x.walked.found.walks k d h in
            subst (λ (y : Kept). Spares y (get_or m.0 k d)) (sym x.is)
            (λ place past from before u. table_spares (bytes_of files name) (length (bytes_of files name)) x.tiff x.walked (tiff_packet (bytes_of files name) x.tiff) (get_or m.0 k d) among place from before u),
      )

-- the packet of an entry
packet_by : (file : List ℕ) (found : Option Entry) (e : Entry) → found ≡ Some e → option_map (λ (x : Entry). piece_at file x.value) found ≡ Some (piece_at file e.value)
packet_by file found e is = ap (option_map (λ (x : Entry). piece_at file x.value)) is

pub length_piece : (file : List ℕ) (range : FileSpan) → range.start ≤ range.end → range.end ≤ length file → length (take (range.end - range.start) (drop range.start file)) ≡ range.end - range.start
length_piece file range order within = length-take-le _ _ (omega (arith, length-drop range.start file, order, within))

payload_spares : (size : ℕ) (tiff : Tiff) (packet : Option Piece) (piece : Piece) (place : ℕ) → packet ≡ Some piece → length piece.bytes ≤ packet_limit → piece.at ≤ place
    → place < piece.at + length piece.bytes → IsUnread (Directories size tiff) packet [] place → ⊥
payload_spares size tiff None piece place is short from before u = cc is
payload_spares size tiff (Some other) piece place is short from before u =
    let same : piece ≡ other = cc is in
    let short_other : length other.bytes ≤ packet_limit = subst (λ (p : Piece). length p.bytes ≤ packet_limit) same short in
    elim u.0 [
      | inl picture ↦ picture.1 (subst (λ (p : Piece). (p.at ≤ place) × (place < p.at + length p.bytes)) same (from, before))
      | inr overlong ↦ omega (arith, overlong.0, short_other)
    ]

module _ (need : Need) (t u : DeskState) (name : List ℕ) (tiff : Tiff) (e : Entry) (kind : Told t.files (λ files. IsImageKind (bytes_of files name)))
    (walked : Told t.files (λ files. IsTiff (bytes_of files name) tiff)) (first : first_entry 700 tiff.dirs ≡ Some e) where
  -- reading a packet within its limit spares the pictures
  pub packet_spares : e.value.start ≤ e.value.end → e.value.end - e.value.start ≤ packet_limit → MovesInside name e.value.start (e.value.start + (e.value.end - e.value.start)) t.reads u.reads
      → Told t.files (λ files. e.value.end ≤ length (bytes_of files name)) → Spared need t u name
  packet_spares order short moves lies files told reads read_told =
      let m = moves reads read_told in (
        m.0,
        m.1,
        λ k d h kept has of.
            let file = bytes_of files name in
            let x = has_image need (get files name) kept (kind files told) has in
            let same : tiff ≡ x.tiff = tiff_same file tiff x.tiff (walked files told) x.walked in
            let packet : tiff_packet file x.tiff ≡ Some (piece_at file e.value) = packet_by file (first_entry 700 x.tiff.dirs) e (ap (λ (y : Tiff). first_entry 700 y.dirs) (sym same) ∙ first) in
            let long = length_piece file e.value order (lies files told) in
            let i = m.2 k d h in
            subst (λ (y : Kept). Spares y (get_or m.0 k d)) (sym x.is)
            (λ place past from before u. payload_spares (length file) x.tiff (tiff_packet file x.tiff) (piece_at file e.value) place packet (omega (arith, long, short)) (omega (arith, i.from_start, from)) (omega (arith, i.to_end, before, long, order)) u),
      )

-- The exits.

walk_refused : (len : ℕ) (rule : Rule) (fault : Fault) → is_walk_rule rule ≡ true → fault ≡ image_fault rule fault.place.at fault.x fault.y → IsLoadRefusal len rule fault × (rule ≢ FileLimit) × IsTrue (follows_walk rule)
walk_refused len TwoPackets fault h is = (inr (refl, is), λ e. cc e, refl)
walk_refused len ShortHeader fault h is = (inr (refl, is), λ e. cc e, refl)
walk_refused len DirectoryOut fault h is = (inr (refl, is), λ e. cc e, refl)
walk_refused len DirectoryTwice fault h is = (inr (refl, is), λ e. cc e, refl)
walk_refused len TooManyDirectories fault h is = (inr (refl, is), λ e. cc e, refl)
walk_refused len ValueOut fault h is = (inr (refl, is), λ e. cc e, refl)
walk_refused len RegionOut fault h is = (inr (refl, is), λ e. cc e, refl)
walk_refused len PacketType fault h is = (inr (refl, is), λ e. cc e, refl)
walk_refused len Overlap fault h is = (inr (refl, is), λ e. cc e, refl)
walk_refused len DirectoryLong fault h is = (inr (refl, is), λ e. cc e, refl)
walk_refused len rule fault h is = absurd (cc h)

-- what a walk reads
walk_known_reads : (s t : DeskState) (name : List ℕ) (result : Result Tiff WalkStop) → WalkKnownCall s t name result → ReadKnown s t name
walk_known_reads s t name result call = record {
  some = record {
    same = call.calls.same;
    counts = call.calls.counts;
    reads = λ reads told. let m = call.calls.reads reads told in (m.0, m.1, m.2);
  };
  lens = call.lens;
}

module _ (need : Need) (s t : DeskState) (name : List ℕ) (size : ℕ) (sized : Sized s name size) (kind : Told s.files (λ files. IsImageKind (bytes_of files name))) where
  is_known_kind : Told s.files (λ files. IsOk (known (bytes_of files name)))
  is_known_kind files told = subst (λ (k : Result Kind Fault). IsOk k) (sym (kind files told).2) refl

  module _ (calls : ReadKnown s t name) (spared : Spared need s t name) where
    -- the container, or what was read of it, is refused
    image_refused : (rule : Rule) (fault : Fault) → is_walk_rule rule ≡ true → fault ≡ image_fault rule fault.place.at fault.x fault.y → Told s.files (λ files. IsWalked need (bytes_of files name) (Err fault))
        → SizedCall need s t name size (Err (Refused fault))
    image_refused rule fault walks is told =
        let same : rule ≡ fault.rule = sym (ap (λ (f : Fault). f.rule) is) in
        let w = walk_refused (len_of t name) rule fault walks is in
        sized_refusal need s t name size sized fault calls
        (inr (subst (λ (r : Rule). IsTrue (follows_walk r)) same w.2, calls.some.reads))
        (subst (λ (r : Rule). IsLoadRefusal (len_of t name) r fault) same w.0) (subst (λ (r : Rule). r ≢ FileLimit) same w.1) spared
        (λ files t. image_told need (bytes_of files name) (Err fault) (Err fault) (kind files t) (told files t) refl)

    walk_stopped_by : (b : Bool) (rule : Rule) (place x y : ℕ) → is_walk_rule rule ≡ b → Told s.files (λ files. FirstFault (bytes_of files name) (stops.Fault rule place x y))
        → SizedCall need s t name size (Err (walked_stop b (image_fault rule place x y)))
    walk_stopped_by true rule place x y h told = image_refused rule (image_fault rule place x y) h refl (λ files t. (rule, place, x, y, told files t, refl))
    walk_stopped_by false rule place x y h told = sized_wants need s t name size sized calls spared is_known_kind

  stopped_by : (stop : WalkStop) → WalkKnownCall s t name (Err stop) → SizedCall need s t name size (Err (walk_stop stop))
  stopped_by (walks.Fault rule place x y) call =
      walk_stopped_by (walk_known_reads s t name _ call) (walk_spares need s t name kind call.calls) (is_walk_rule rule) rule place x y refl call.told
  stopped_by walks.Device call = sized_fails need s t name size sized (walk_known_reads s t name _ call) (walk_spares need s t name kind call.calls) (call.device refl)
  stopped_by walks.Memory call = sized_wants need s t name size sized (walk_known_reads s t name _ call) (walk_spares need s t name kind call.calls) is_known_kind

  -- the file isn't walked
  pub walk_stopped : (stop : WalkStop) (out : FileStop) → WalkKnownCall s t name (Err stop) → out ≡ walk_stop stop → SizedCall need s t name size (Err out)
  walk_stopped stop out call is = subst (λ (f : FileStop). SizedCall need s t name size (Err f)) (sym is) (stopped_by stop call)

  module _ (tiff : Tiff) (call : WalkKnownCall s t name (Ok tiff)) where
    reads : ReadKnown s t name
    reads = walk_known_reads s t name (Ok tiff) call

    spared : Spared need s t name
    spared = walk_spares need s t name kind call.calls

    -- what is kept has these directories and this packet
    image_is : (file : List ℕ) (packet : Option Piece) (kept : Kept) → length file ≡ size → IsTiff file tiff → tiff_packet file tiff ≡ packet → kept ≡ image need size tiff packet → IsImage need file kept
    image_is file packet kept whole walked packet_is is = record {
      tiff = tiff;
      walked = walked;
      is = is ∙ ap (λ (n : ℕ). image need n tiff packet) (sym whole) ∙ ap (λ (o : Option Piece). image need (length file) tiff o) (sym packet_is);
    }

    kept_lies : (packet : Option Piece) (kept : Kept) → PayloadLies size packet → kept ≡ image need size tiff packet → IsOfSize size kept
    kept_lies packet kept lies is = subst (IsOfSize size) (sym is) (record { whole = refl; payload = lies; container = refl })

    kept_told : (packet : Option Piece) (kept : Kept) → PayloadLies size packet → kept ≡ image need size tiff packet → Ok kept ≡ limited_by kept kept.payload
    kept_told packet kept lies is = limited_ok size kept kept.payload (subst (λ (k : Kept). PayloadLies size k.payload) (sym is) lies)

    -- there is no packet
    pub walk_empty : (kept : Kept) → kept ≡ image need size tiff None → first_entry 700 tiff.dirs ≡ None → SizedCall need s t name size (Ok kept)
    walk_empty kept is none =
        sized_kept need s t name size sized reads spared kept
        (λ files told. image_told need (bytes_of files name) (Ok kept) (Ok kept) (kind files told)
        (image_is (bytes_of files name) None kept (sized.whole files told) (call.told files told) (ap (option_map (λ (x : Entry). piece_at (bytes_of files name) x.value)) none) is)
        (kept_told None kept tt is))
        (kept_lies None kept tt is)

    module _ (e : Entry) (first : first_entry 700 tiff.dirs ≡ Some e) where
      entry_lies : Told s.files (λ files. (e.value.start ≤ e.value.end) × (e.value.end ≤ size))
      entry_lies files told =
          let stands = entry_stands (bytes_of files name) tiff (call.told files told).found 700 e first in
          (stands.order, omega (arith, stands.within, sized.whole files told))

      -- its entry says a place outside the file, as no file that is told has it
      pub value_out : (fault : Fault) → (nat_le e.value.start e.value.end && nat_le e.value.end size) ≡ false → fault ≡ image_fault ValueOut e.place 0 0 → SizedCall need s t name size (Err (Refused fault))
      value_out fault out is = subst (λ (f : Fault). SizedCall need s t name size (Err (Refused f))) (sym is)
          (image_refused reads spared ValueOut (image_fault ValueOut e.place 0 0) refl refl (λ files told. absurd (never (entry_lies files told))))
        where
          never : (e.value.start ≤ e.value.end) × (e.value.end ≤ size) → ⊥
          never l =
              let lies : (nat_le e.value.start e.value.end && nat_le e.value.end size) ≡ true =
              and_from (nat_le e.value.start e.value.end) (nat_le e.value.end size) (le-leb e.value.start e.value.end l.0) (le-leb e.value.end size l.1) in
              let no : true ≡ false = sym lies ∙ out in cc

      -- where its value lies
      pub value_lies : (nat_le e.value.start e.value.end && nat_le e.value.end size) ≡ true → (e.value.start ≤ e.value.end) × (e.value.end ≤ size)
      value_lies h =
          let parts = and_parts (nat_le e.value.start e.value.end) (nat_le e.value.end size) h in
          (leb-true e.value.start e.value.end parts.0, leb-true e.value.end size parts.1)

      module _ (order : e.value.start ≤ e.value.end) (within : e.value.end ≤ size) where
        packet_told : (file : List ℕ) → tiff_packet file tiff ≡ Some (piece_at file e.value)
        packet_told file = packet_by file (first_entry 700 tiff.dirs) e first

        size_told : (file : List ℕ) → length file ≡ size → length (piece_at file e.value).bytes ≡ e.value.end - e.value.start
        size_told file whole = length_piece file e.value order (omega (arith, within, whole))

        over_limited : (kept : Kept) (packet : Piece) → packet_limit < length packet.bytes → Err (over_packet (length packet.bytes)) ≡ limited_by kept (Some packet)
        over_limited kept packet long = sym (cond-true _ _ _ (lt-ltb packet_limit (length packet.bytes) long))

        -- it is over its limit
        pub walk_over : (fault : Fault) → packet_limit < e.value.end - e.value.start → fault ≡ over_packet (e.value.end - e.value.start) → SizedCall need s t name size (Err (Refused fault))
        walk_over fault long is =
            let len = len_same s t name size call.lens sized.len in
            let n : ℕ = e.value.end - e.value.start in
            subst (λ (f : Fault). SizedCall need s t name size (Err (Refused f))) (sym is)
            (sized_refusal need s t name size sized (over_packet n) reads (inr (refl, reads.some.reads)) (long, omega (arith, within, len), refl) (λ x. cc x) spared
            (λ files told.
            let file = bytes_of files name in
            let same : length (piece_at file e.value).bytes ≡ n = size_told file (sized.whole files told) in
            let kept : Kept = image need (length file) tiff (Some (piece_at file e.value)) in
            image_told need file (Ok kept) (Err (over_packet n)) (kind files told)
            (record { tiff = tiff; walked = call.told files told; is = ap (λ (o : Option Piece). image need (length file) tiff o) (sym (packet_told file)) })
            (ap (λ (k : ℕ). let r : Result Kept Fault = Err (over_packet k) in r) (sym same) ∙ over_limited kept (piece_at file e.value) (omega (arith, long, same)))))

        module _ (short : e.value.end - e.value.start ≤ packet_limit) (u : DeskState) (result : Result (List ℕ) WindowStop) (read : WindowCall t u name e.value.start (e.value.end - e.value.start) result) where
          both_read : ReadKnown s u name
          both_read = known_trans s t u name reads (known_inside t u name e.value.start (e.value.start + (e.value.end - e.value.start)) read.calls)

          both_spare : Spared need s u name
          both_spare = spared_trans need s t u name call.calls.same.files spared
              (packet_spares need t u name tiff e (λ files told. kind files (sym call.calls.same.files ∙ told)) (λ files told. call.told files (sym call.calls.same.files ∙ told)) first order short read.calls.reads
              (λ files told. omega (arith, within, sized.whole files (sym call.calls.same.files ∙ told))))

        -- the packet is read, or not
        pub read_failed : e.value.end - e.value.start ≤ packet_limit → (u : DeskState) → WindowCall t u name e.value.start (e.value.end - e.value.start) (Err windows.Device) → SizedCall need s u name size (Err Device)
        read_failed short u read = sized_fails need s u name size sized (both_read short u _ read) (both_spare short u _ read)
            (rose_after s.faults t.faults u.faults call.calls.counts.faults (read.device refl))

        pub read_wants : e.value.end - e.value.start ≤ packet_limit → (u : DeskState) → WindowCall t u name e.value.start (e.value.end - e.value.start) (Err windows.Memory) → SizedCall need s u name size (Err Memory)
        read_wants short u read = sized_wants need s u name size sized (both_read short u _ read) (both_spare short u _ read) is_known_kind

        pub packet_kept : (u : DeskState) (bytes : List ℕ) (kept : Kept) → WindowCall t u name e.value.start (e.value.end - e.value.start) (Ok bytes) → e.value.end - e.value.start ≤ packet_limit
            → kept ≡ image need size tiff (Some (record { at = e.value.start; bytes = bytes })) → SizedCall need s u name size (Ok kept)
        packet_kept u bytes kept read short is =
            let packet : Option Piece = Some (record { at = e.value.start; bytes = bytes }) in
            let lies : PayloadLies size packet = (omega (arith, read.size, order, within), omega (arith, read.size, short)) in
            sized_kept need s u name size sized (both_read short u (Ok bytes) read) (both_spare short u (Ok bytes) read) kept
            (λ files told.
            let file = bytes_of files name in
            let same : tiff_packet file tiff ≡ packet =
            packet_told file ∙ ap (λ (l : List ℕ). let p : Option Piece = Some (record { at = e.value.start; bytes = l }) in p) (sym (read.bytes files (call.calls.same.files ∙ told))) in
            image_told need file (Ok kept) (Ok kept) (kind files told) (image_is file packet kept (sized.whole files told) (call.told files told) same is) (kept_told packet kept lies is))
            (kept_lies packet kept lies is)
