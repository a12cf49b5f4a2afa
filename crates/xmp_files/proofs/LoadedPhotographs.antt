-- A JPEG file is cut into its regions, and its main packet is read.
use Rattle.std.proofs.Common.{◌≡◌, ◌≢◌, ℕ, ◌+◌, ◌-◌, ◌<◌, ◌≤◌, min, Bool, true, false, List, [], ◌∷◌, length, take, drop, get_or, refl, sym, ap, ◌∙◌, subst, arith, inl, Ok, Err, Some, None, if◌then◌else◌}
use Rattle.std.specs.declared.option.Option.{Option}
use Rattle.std.specs.declared.result.Result.{Result}
use Rattle.std.specs.FinMap.{get}
use Rattle.std.specs.Option.{option_map, unwrap_or}
use Rattle.std.specs.Prelude.{IsOk, nat_eq, nat_lt, ◌&&◌, slice_get}
use Rattle.std.proofs.lemmas.Bool.{and_parts, eqb-true, lt-ltb, le-ltb, cond-true, cond-false}
use Rattle.std.proofs.lemmas.List.{length-take-le, length-drop}
use Rattle.xmp_base.specs.Device.{DeskState, Lens, Moved, Told, bytes_of, len_of, Rose}
use Rattle.xmp_base.specs.Windows.{MovesInside, ReadInside, WindowCall}
use Rattle.xmp_base.specs.declared.file_span.FileSpan.{FileSpan}
use Rattle.xmp_base.specs.declared.windows.WindowStop.{WindowStop}
use Rattle.xmp_base.specs.declared.windows.WindowStop.TheVariants as windows
use Rattle.xmp_base.proofs.Calls.{same_trans, counts_trans, rose_after}
use Rattle.xmp_base.proofs.Inside.{inside_trans, inside_wider}
use Rattle.xmp_values.specs.declared.faults.Fault.{Fault}
use Rattle.xmp_values.specs.declared.faults.Part.TheVariants.{File}
use Rattle.xmp_values.specs.declared.rules.Rule.{Rule}
use Rattle.xmp_values.specs.declared.rules.Rule.TheVariants.{FileLimit}
use Rattle.xmp_values.specs.declared.stops.DeviceStop.{DeviceStop}
use Rattle.xmp_values.specs.declared.stops.DeviceStop.TheVariants as cuts
use Rattle.xmp_values.specs.declared.stops.FileStop.{FileStop}
use Rattle.xmp_values.specs.declared.stops.FileStop.TheVariants.{Absent, Fault as Refused, Device, Memory}
use Rattle.xmp_values.specs.Stops.{fault_at}
use Rattle.jpeg_regions.specs.Jpeg.{Region, Jpeg as IsJpeg, FaultIn, no_tail, bad_marker, bad_length, truncated, two_packets, mains, is_main, portion_payloads}
use Rattle.jpeg_regions.specs.Cutting.{BeginsJpeg, Tiles}
use Rattle.jpeg_regions.specs.FromDesk.{near_end, IsNear, CutCalls, CutKnownCall}
use Rattle.jpeg_regions.proofs.Places.{cuts_tile, lies, one_place, MainAt, main_at}
use Rattle.jpeg_regions.proofs.Faults.{cuts_same}
use Rattle.xmp_files.specs.declared.kinds.Kind.{Kind}
use Rattle.xmp_files.specs.declared.kinds.Kind.TheVariants.{Jpeg, Tiff, BigTiff, WebP, Psd, Sidecar}
use Rattle.xmp_files.specs.declared.held.Need.{Need}
use Rattle.xmp_files.specs.Faults.{file_limit, over_limit, packet_limit, over_packet}
use Rattle.xmp_files.specs.Kinds.{kind_of, is_jpeg}
use Rattle.xmp_files.specs.Stages.{followed}
use Rattle.xmp_files.specs.Keeping.{Piece, Segments, Kept, photograph}
use Rattle.xmp_files.specs.Photographs.{piece_at, main_payload, packet_range, main_packet, named_portions, IsName, IsCut}
use Rattle.xmp_files.specs.Meanings.{IsNote}
use Rattle.xmp_files.specs.Loading.{known, kind_of_file, limited_by, IsContained}
use Rattle.xmp_files.specs.Sparing.{IsUnread, Spares, HasContainer, Spared}
use Rattle.xmp_files.specs.Loads.{SizedCall, KeptCall, IsLoadRefusal, PayloadLies, IsOfSize, read_before, cut_stop}
use Rattle.xmp_files.proofs.PickedPortions.{none_picked}
use Rattle.xmp_files.proofs.Loads.{Sized, sized_refusal, sized_fails, sized_wants, sized_kept, known_inside, known_kind, known_as, by_known, spared_trans}

-- Kinds.

jpeg_by : (a b c d e f : Bool) → (if a then Some Jpeg else if b then Some Tiff else if c then Some BigTiff else if d then Some WebP else if e then Some Psd else if f then Some Sidecar else None) ≡ Some Jpeg → a ≡ true
jpeg_by true b c d e f h = refl
jpeg_by false true c d e f h = absurd (cc h)
jpeg_by false false true d e f h = absurd (cc h)
jpeg_by false false false true e f h = absurd (cc h)
jpeg_by false false false false true f h = absurd (cc h)
jpeg_by false false false false false true h = absurd (cc h)
jpeg_by false false false false false false h = absurd (cc h)

two_bytes : (file : List ℕ) → is_jpeg (take 16 file) ≡ true → BeginsJpeg file
two_bytes [] h = absurd (cc h)
two_bytes (x ∷ []) h = let parts = and_parts (nat_eq 0xFF x) false h in absurd (let no : false ≡ true = parts.1 in cc)
two_bytes (x ∷ y ∷ file) h =
    let parts = and_parts (nat_eq 0xFF x) (nat_eq 0xD8 y && true) h in
    let second = and_parts (nat_eq 0xD8 y) true parts.1 in
    ap (λ (n : ℕ). n ∷ y ∷ []) (sym (eqb-true 0xFF x parts.0)) ∙ ap (λ (n : ℕ). 0xFF ∷ n ∷ []) (sym (eqb-true 0xD8 y second.0))

-- a JPEG file begins so
pub begins_jpeg : (file : List ℕ) → kind_of file ≡ Some Jpeg → BeginsJpeg file
begins_jpeg file h = two_bytes file (jpeg_by _ _ _ _ _ _ h)

pub known_by : (over : Bool) (n : ℕ) (bytes : List ℕ) (kind : Kind) → followed (let r : Result (List ℕ) Fault = if over then Err (over_limit n) else Ok bytes in r) known ≡ Ok kind → known bytes ≡ Ok kind
known_by true n bytes kind h = absurd (cc h)
known_by false n bytes kind h = h

kind_known : (bytes : List ℕ) (kind other : Kind) → known bytes ≡ Ok kind → kind_of bytes ≡ Some other → kind ≡ other
kind_known bytes kind other h is = let e : Some kind ≡ Some other = sym (known_kind bytes kind h) ∙ is in cc e

-- the kind that a file of a known kind has
kind_told : (file : Option (List ℕ)) (kind other : Kind) → kind_of_file file ≡ Ok kind → kind_of (unwrap_or file []) ≡ Some other → kind ≡ other
kind_told None kind other h is = absurd (cc h)
kind_told (Some bytes) kind other h is = kind_known bytes kind other (known_by (nat_lt file_limit (length bytes)) (length bytes) bytes kind h) is

pub has_cut : (need : Need) (file : Option (List ℕ)) (kept : Kept) → kind_of (unwrap_or file []) ≡ Some Jpeg → HasContainer need file kept → IsCut need (unwrap_or file []) (Ok kept)
has_cut need file kept is has = subst (λ (k : Kind). IsContained need k (unwrap_or file []) (Ok kept)) (kind_told file has.0 Jpeg has.1 is) has.2

-- What is spared.

near_spares : (file : List ℕ) (regions : List Region) (packet : Option Piece) (portions : List FileSpan) (m : Moved) → Tiles 2 (length file) regions → IsNear regions m
    → (place : ℕ) → m.1 ≤ place → place < m.1 + m.2 → IsUnread (Segments regions) packet portions place → ⊥
near_spares file regions packet portions m tiles n place from before u =
    let a = lies 2 (length file) regions n.0 n.1 tiles n.2 in
    let b = lies 2 (length file) regions u.0 u.1 tiles u.2 in
    let same : n.1 ≡ u.1 = one_place 2 (length file) regions n.0 u.0 n.1 u.1 place tiles n.2 u.2 (omega (arith, n.3, from)) (omega (arith, n.4, before, a.order, a.inside))
    (omega (arith, u.4, b.begins, b.order)) u.5 in
    let past : near_end n.1 ≤ place = subst (λ (r : Region). near_end r ≤ place) (sym same) u.4 in
    omega (arith, past, n.4, before)

module _ (need : Need) (s t : DeskState) (name : List ℕ) (kind : Told s.files (λ files. kind_of (bytes_of files name) ≡ Some Jpeg)) where
  -- cutting spares all but the beginnings of the regions
  pub cut_spares : CutCalls s t name → Spared need s t name
  cut_spares call files told reads read_told =
      let m = call.reads.named reads read_told in (
        m.0,
        m.1,
        λ k d h kept has of.
            let cut = has_cut need (get files name) kept (kind files told) has in
            let near = m.3 files told cut.regions cut.jpeg.cuts k d h in
            subst (λ (x : Kept). Spares x (get_or m.0 k d)) (sym cut.is)
            (λ place past from before u. near_spares (bytes_of files name) cut.regions (main_packet (bytes_of files name) cut.regions) (named_portions (bytes_of files name) cut.note cut.regions)
            (get_or m.0 k d) (cuts_tile (bytes_of files name) cut.regions cut.jpeg.cuts) near place from before u),
      )

-- the main region, by its payload
main_region : (regions : List Region) (payload : FileSpan) (found : Option Region) → option_map (λ (r : Region). r.payload) found ≡ Some payload → (r : Region) × (found ≡ Some r) × (r.payload ≡ payload)
main_region regions payload None e = absurd (cc e)
main_region regions payload (Some r) e = (r, refl, cc e)

pub main_of : (regions : List Region) (payload : FileSpan) → main_payload regions ≡ Some payload → (r : Region) × MainAt regions r × (r.payload ≡ payload)
main_of regions payload e =
    let m = main_region regions payload (slice_get (mains regions) 0) e in
    (m.0, main_at regions 0 m.0 m.1, m.2)

-- a main payload lies in the file
pub main_lies : (size : ℕ) (regions : List Region) (payload : FileSpan) → Tiles 2 size regions → main_payload regions ≡ Some payload → (payload.start ≤ payload.end) × (payload.end ≤ size)
main_lies size regions payload tiles e =
    let m = main_of regions payload e in
    let l = lies 2 size regions m.1.at m.0 tiles m.1.is in
    (subst (λ (p : FileSpan). p.start ≤ p.end) m.2 l.order, subst (λ (p : FileSpan). p.end ≤ size) m.2 (omega (arith, l.inside, l.to)))

main_spares : (file : List ℕ) (regions : List Region) (packet : Option Piece) (portions : List FileSpan) (payload : FileSpan) → Tiles 2 (length file) regions → main_payload regions ≡ Some payload
    → (place : ℕ) → payload.start ≤ place → place < payload.end → IsUnread (Segments regions) packet portions place → ⊥
main_spares file regions packet portions payload tiles e place from before u =
    let m = main_of regions payload e in
    let a = lies 2 (length file) regions m.1.at m.0 tiles m.1.is in
    let b = lies 2 (length file) regions u.0 u.1 tiles u.2 in
    let start : m.0.payload.start ≤ place = subst (λ (p : FileSpan). p.start ≤ place) (sym m.2) from in
    let end : place < m.0.payload.end = subst (λ (p : FileSpan). place < p.end) (sym m.2) before in
    let same : m.0 ≡ u.1 = one_place 2 (length file) regions m.1.at u.0 m.0 u.1 place tiles m.1.is u.2 (omega (arith, a.begins, start)) (omega (arith, a.inside, end))
    (omega (arith, u.4, b.begins, b.order)) u.5 in
    let no : true ≡ false = sym m.1.main ∙ ap (λ (r : Region). is_main r.kind) same ∙ u.3 in
    absurd (cc no)

module _ (need : Need) (t u : DeskState) (name : List ℕ) (regions : List Region) (payload : FileSpan) (kind : Told t.files (λ files. kind_of (bytes_of files name) ≡ Some Jpeg))
    (jpeg : Told t.files (λ files. IsJpeg (bytes_of files name) regions)) (main : main_payload regions ≡ Some payload) where
  -- reading the main packet spares all other regions
  pub packet_spares : (at len : ℕ) → payload.start ≤ at → at + len ≤ payload.end → MovesInside name at (at + len) t.reads u.reads → Spared need t u name
  packet_spares at len low high moves files told reads read_told =
      let m = moves reads read_told in (
        m.0,
        m.1,
        λ k d h kept has of.
            let cut = has_cut need (get files name) kept (kind files told) has in
            let same : regions ≡ cut.regions = cuts_same (bytes_of files name) regions cut.regions (jpeg files told).cuts cut.jpeg.cuts in
            let i = m.2 k d h in
            subst (λ (x : Kept). Spares x (get_or m.0 k d)) (sym cut.is)
            (λ place past from before u. main_spares (bytes_of files name) cut.regions (main_packet (bytes_of files name) cut.regions) (named_portions (bytes_of files name) cut.note cut.regions)
            payload (cuts_tile (bytes_of files name) cut.regions cut.jpeg.cuts)
            (ap main_payload (sym same) ∙ main) place (omega (arith, i.from_start, low, from)) (omega (arith, i.to_end, high, before)) u),
      )

-- The exits.

pub limited_ok : (size : ℕ) (kept : Kept) (payload : Option Piece) → PayloadLies size payload → Ok kept ≡ limited_by kept payload
limited_ok size kept None lies = refl
limited_ok size kept (Some piece) lies = sym (cond-false _ _ _ (le-ltb packet_limit (length piece.bytes) lies.1))

err_stop : {A : Type 0} (a b : FileStop) → (let r : Result A FileStop = Err a in r) ≡ Err b → a ≡ b
err_stop a b e = cc e

fault_refused : (size place : ℕ) (rule : Rule) → FaultIn size place rule → IsLoadRefusal size rule (fault_at rule File place) × (rule ≢ FileLimit) × (read_before rule size ≡ size)
fault_refused size place rule (no_tail e) = (inl (no_tail e, refl), λ x. cc x, refl)
fault_refused size place rule (bad_marker e) = (inl (bad_marker e, refl), λ x. cc x, refl)
fault_refused size place rule (bad_length e) = (inl (bad_length e, refl), λ x. cc x, refl)
fault_refused size place rule (truncated e) = (inl (truncated e, refl), λ x. cc x, refl)
fault_refused size place rule (two_packets e) = (inl (two_packets e, refl), λ x. cc x, refl)

module _ (need : Need) (s t : DeskState) (name : List ℕ) (size : ℕ) (sized : Sized s name size) (kind : Told s.files (λ files. kind_of (bytes_of files name) ≡ Some Jpeg))
    (calls : ReadInside s t name 0 size) (spared : Spared need s t name) where
  -- the desk failed
  pub photograph_fails : Rose s.faults t.faults → SizedCall need s t name size (Err Device)
  photograph_fails rose = sized_fails need s t name size sized (known_inside s t name 0 size calls) spared rose

  pub photograph_wants : SizedCall need s t name size (Err Memory)
  photograph_wants = sized_wants need s t name size sized (known_inside s t name 0 size calls) spared
      (λ files told. subst (λ (k : Result Kind Fault). IsOk k) (sym (known_as (bytes_of files name) Jpeg (kind files told) refl)) refl)

  -- what is kept
  pub photograph_kept : (kept : Kept) → Told s.files (λ files. IsCut need (bytes_of files name) (Ok kept)) → IsOfSize size kept → SizedCall need s t name size (Ok kept)
  photograph_kept kept cut held = sized_kept need s t name size sized (known_inside s t name 0 size calls) spared kept
      (λ files told. by_known need (bytes_of files name) (Ok Jpeg) (Ok kept) (known_as (bytes_of files name) Jpeg (kind files told) refl)
      (Ok kept, cut files told, limited_ok size kept kept.payload held.payload)) held

  -- a fault of the container
  pub photograph_refused : (rule : Rule) (place : ℕ) → len_of t name ≡ size → FaultIn size place rule → Told s.files (λ files. IsCut need (bytes_of files name) (Err (fault_at rule File place)))
      → SizedCall need s t name size (Err (Refused (fault_at rule File place)))
  photograph_refused rule place len fault cut =
      let f = fault_refused size place rule fault in
      sized_refusal need s t name size sized (fault_at rule File place) (known_inside s t name 0 size calls)
      (inl (subst (λ (n : ℕ). MovesInside name 0 n s.reads t.reads) (sym (ap (read_before rule) len ∙ f.2)) calls.reads))
      (subst (λ (n : ℕ). IsLoadRefusal n rule (fault_at rule File place)) (sym len) f.0) f.1 spared
      (λ files told. by_known need (bytes_of files name) (Ok Jpeg) (Err (fault_at rule File place)) (known_as (bytes_of files name) Jpeg (kind files told) refl)
      (Err (fault_at rule File place), cut files told, refl))

pub len_same : (s t : DeskState) (name : List ℕ) (size : ℕ) → t.lens ≡ s.lens → len_of s name ≡ size → len_of t name ≡ size
len_same s t name size lens len = ap (λ (m : Lens). unwrap_or (get m name) 0) lens ∙ len

-- a packet without a note names no text
pub unnamed : (payloads : List FileSpan) (packet : Option Piece) → IsNote packet None → IsName payloads packet None
unnamed [] packet note = refl
unnamed (payload ∷ payloads) packet note = note

-- reads of a file, one after another
pub inside_both : (s t u : DeskState) (name : List ℕ) (size : ℕ) → ReadInside s t name 0 size → ReadInside t u name 0 size → ReadInside s u name 0 size
inside_both s t u name size a b = record {
  same = same_trans s t u a.same b.same;
  counts = counts_trans s t u a.counts b.counts;
  lens = b.lens ∙ a.lens;
  reads = inside_trans name 0 size s.reads t.reads u.reads a.reads b.reads;
}

-- what a cut reads
cut_reads : (s t : DeskState) (name : List ℕ) (size : ℕ) (result : Result (List Region) DeviceStop) → CutKnownCall s t name size result → ReadInside s t name 0 size
cut_reads s t name size result call = record { same = call.calls.same; counts = call.calls.counts; lens = call.lens; reads = call.inside }

stop_of : FileStop → Result Kept FileStop
stop_of stop = Err stop

module _ (need : Need) (s t : DeskState) (name : List ℕ) (size : ℕ) (sized : Sized s name size) (kind : Told s.files (λ files. kind_of (bytes_of files name) ≡ Some Jpeg)) where
  cut_stopped_by : (stop : DeviceStop) → CutKnownCall s t name size (Err stop) → SizedCall need s t name size (Err (cut_stop stop))
  cut_stopped_by (cuts.Fault rule place) call =
      photograph_refused need s t name size sized kind (cut_reads s t name size _ call) (cut_spares need s t name kind call.calls) rule place
      (len_same s t name size call.lens sized.len) call.fault (λ files told. (rule, place, call.told files told, refl))
  cut_stopped_by cuts.Device call = photograph_fails need s t name size sized kind (cut_reads s t name size _ call) (cut_spares need s t name kind call.calls) (call.device refl)
  cut_stopped_by cuts.Memory call = photograph_wants need s t name size sized kind (cut_reads s t name size _ call) (cut_spares need s t name kind call.calls)

  -- the file isn't cut
  pub cut_stopped : (stop : DeviceStop) (out : FileStop) → CutKnownCall s t name size (Err stop) → out ≡ cut_stop stop → SizedCall need s t name size (Err out)
  cut_stopped stop out call is = subst (λ (f : FileStop). SizedCall need s t name size (Err f)) (sym is) (cut_stopped_by stop call)

  module _ (regions : List Region) (call : CutKnownCall s t name size (Ok regions)) where
    -- no region is the main one
    pub cut_empty : (kept : Kept) → kept ≡ photograph need size regions None [] None → main_payload regions ≡ None → SizedCall need s t name size (Ok kept)
    cut_empty kept is none =
        photograph_kept need s t name size sized kind (cut_reads s t name size _ call) (cut_spares need s t name kind call.calls) kept
        (λ files told.
        let file = bytes_of files name in
        let empty : main_packet file regions ≡ None = ap (option_map (λ (payload : FileSpan). piece_at file (packet_range payload))) none in
        record {
          regions = regions;
          jpeg = call.told files told;
          note = None;
          noted = unnamed (portion_payloads regions) (main_packet file regions) (subst (λ (packet : Option Piece). IsNote packet None) (sym empty) refl);
          extended = None;
          joins = refl;
          is = is ∙ ap (λ (n : ℕ). photograph need n regions None [] None) (sym (sized.whole files told)) ∙ ap (λ (packet : Option Piece). photograph need (length file) regions packet [] None) (sym empty);
        })
        (subst (IsOfSize size) (sym is) (record { whole = refl; payload = tt; container = (call.tiles, none_picked (portion_payloads regions)) }))

    module _ (payload range : FileSpan) (main : main_payload regions ≡ Some payload) (ranged : range ≡ packet_range payload) where
      -- where the packet stands
      pub record Placed : Type 0 where
        pub from : payload.start ≤ range.start
        pub order : range.start ≤ range.end
        pub end : range.end ≡ payload.end
        pub within : range.end ≤ size

      pub placed : Placed
      placed =
          let l = main_lies size regions payload call.tiles main in
          let start : range.start ≡ min (payload.start + 29) payload.end = ap (λ (r : FileSpan). r.start) ranged in
          let end : range.end ≡ payload.end = ap (λ (r : FileSpan). r.end) ranged in
          record { from = omega (arith, l.0, start); order = omega (arith, start, end); end = end; within = omega (arith, end, l.1) }

      pub packet_is : (file : List ℕ) → Some (piece_at file range) ≡ main_packet file regions
      packet_is file = ap (λ (r : FileSpan). Some (piece_at file r)) ranged ∙ sym (ap (option_map (λ (p : FileSpan). piece_at file (packet_range p))) main)

      length_piece : (file : List ℕ) → length file ≡ size → length (take (range.end - range.start) (drop range.start file)) ≡ range.end - range.start
      length_piece file whole = length-take-le _ _ (omega (arith, length-drop range.start file, whole, placed.within))

      over_limited : (kept : Kept) (packet : Piece) → packet_limit < length packet.bytes → Err (over_packet (length packet.bytes)) ≡ limited_by kept (Some packet)
      over_limited kept packet long = sym (cond-true _ _ _ (lt-ltb packet_limit (length packet.bytes) long))

      -- the packet is over its limit
      pub cut_over : (fault : Fault) → packet_limit < range.end - range.start → fault ≡ over_packet (range.end - range.start) → SizedCall need s t name size (Err (Refused fault))
      cut_over fault long is =
          let len = len_same s t name size call.lens sized.len in
          let reads = cut_reads s t name size _ call in
          subst (λ (f : Fault). SizedCall need s t name size (Err (Refused f))) (sym is)
          (sized_refusal need s t name size sized (over_packet (range.end - range.start)) (known_inside s t name 0 size reads)
          (inl (subst (λ (n : ℕ). MovesInside name 0 n s.reads t.reads) (sym len) reads.reads))
          (long, omega (arith, placed.within, len), refl) (λ x. cc x) (cut_spares need s t name kind call.calls)
          (λ files told.
          let file = bytes_of files name in
          let kept : Kept = photograph need (length file) regions (Some (piece_at file range)) [] None in
          let same : length (piece_at file range).bytes ≡ range.end - range.start = length_piece file (sized.whole files told) in
          by_known need file (Ok Jpeg) (Err (over_packet (range.end - range.start))) (known_as file Jpeg (kind files told) refl) (
            Ok kept,
            record {
              regions = regions;
              jpeg = call.told files told;
              note = None;
              noted = unnamed (portion_payloads regions) (main_packet file regions) (subst (λ (packet : Option Piece). IsNote packet None) (packet_is file) (inl (omega (arith, long, same), refl)));
              extended = None;
              joins = refl;
              is = ap (λ (packet : Option Piece). photograph need (length file) regions packet [] None) (packet_is file);
            },
            ap (λ (n : ℕ). let e : Result Kept Fault = Err (over_packet n) in e) (sym same) ∙ over_limited kept (piece_at file range) (omega (arith, long, same)),
          )))

      module _ (u : DeskState) (result : Result (List ℕ) WindowStop) (read : WindowCall t u name range.start (range.end - range.start) result) where
        pub both_read : ReadInside s u name 0 size
        both_read = let a = cut_reads s t name size _ call in record {
          same = same_trans s t u a.same read.calls.same;
          counts = counts_trans s t u a.counts read.calls.counts;
          lens = read.calls.lens ∙ a.lens;
          reads = inside_trans name 0 size s.reads t.reads u.reads a.reads
              (inside_wider name 0 size t.reads range.start (range.start + (range.end - range.start)) u.reads (omega arith) (omega (arith, placed.order, placed.within)) read.calls.reads);
        }

        pub both_spare : Spared need s u name
        both_spare = spared_trans need s t u name call.calls.same.files (cut_spares need s t name kind call.calls)
            (packet_spares need t u name regions payload (λ files told. kind files (sym call.calls.same.files ∙ told)) (λ files told. call.told files (sym call.calls.same.files ∙ told)) main
            range.start (range.end - range.start) placed.from (omega (arith, placed.order, placed.end)) read.calls.reads)

      -- the packet is read, or not
      pub packet_failed : (u : DeskState) → WindowCall t u name range.start (range.end - range.start) (Err windows.Device) → SizedCall need s u name size (Err Device)
      packet_failed u read = photograph_fails need s u name size sized kind (both_read u _ read) (both_spare u _ read)
          (rose_after s.faults t.faults u.faults call.calls.counts.faults (read.device refl))

      pub packet_wants : (u : DeskState) → WindowCall t u name range.start (range.end - range.start) (Err windows.Memory) → SizedCall need s u name size (Err Memory)
      packet_wants u read = photograph_wants need s u name size sized kind (both_read u _ read) (both_spare u _ read)

      -- the packet was read, and the extended text was looked for
      module _ (u v : DeskState) (bytes : List ℕ) (read : WindowCall t u name range.start (range.end - range.start) (Ok bytes)) (short : range.end - range.start ≤ packet_limit) where
        -- the files are told as they were
        pub told_still : u.files ≡ s.files
        told_still = read.calls.same.files ∙ call.calls.same.files

        pub packet_told : Told u.files (λ files. Some (record { at = range.start; bytes = bytes }) ≡ main_packet (bytes_of files name) regions)
        packet_told files told =
            ap (λ (l : List ℕ). let p : Option Piece = Some (record { at = range.start; bytes = l }) in p) (read.bytes files (sym read.calls.same.files ∙ told)) ∙ packet_is (bytes_of files name)

        pub packet_lies : range.start + length bytes ≤ size
        packet_lies = omega (arith, read.size, placed.order, placed.within)

        pub packet_short : length bytes ≤ packet_limit
        packet_short = omega (arith, read.size, short)

        module _ (last : Result Kept FileStop) (after : KeptCall need u v name size last) where
          last_reads : ReadInside s v name 0 size
          last_reads = inside_both s u v name size (both_read u (Ok bytes) read) after.calls

          last_spared : Spared need s v name
          last_spared = spared_trans need s u v name told_still (both_spare u (Ok bytes) read) after.spared

        pub packet_read : (last : Result Kept FileStop) → KeptCall need u v name size last → SizedCall need s v name size last
        packet_read (Ok kept) after = photograph_kept need s v name size sized kind (last_reads (Ok kept) after) (last_spared (Ok kept) after) kept
            (λ files told. after.told files (told_still ∙ told)) after.held
        packet_read (Err Device) after = photograph_fails need s v name size sized kind (last_reads (Err Device) after) (last_spared (Err Device) after)
            (rose_after s.faults u.faults v.faults (both_read u (Ok bytes) read).counts.faults after.fails)
        packet_read (Err Memory) after = photograph_wants need s v name size sized kind (last_reads (Err Memory) after) (last_spared (Err Memory) after)
        packet_read (Err Absent) after = absurd after.fails
        packet_read (Err (Refused fault)) after = absurd after.fails
