-- The extended text of a JPEG file is found and joined.
use Rattle.std.proofs.Common.{◌≡◌, ◌≢◌, ◌⊎◌, ℕ, zero, suc, ◌+◌, ◌<◌, ◌≤◌, min, Bool, true, false, cond, List, [], ◌∷◌, ◌++◌, map, length, get_or, refl, sym, ap, ◌∙◌, subst, arith, inl, inr, append_assoc, Ok, Err, Some, None}
use Rattle.std.specs.declared.option.Option.{Option}
use Rattle.std.specs.declared.result.Result.{Result}
use Rattle.std.specs.FinMap.{get}
use Rattle.std.specs.List.{filter, Contains}
use Rattle.std.specs.Option.{option_map}
use Rattle.std.specs.Prelude.{slice_get, All, Vec}
use Rattle.std.specs.declared.alloc.Global.{Global}
use Rattle.std.proofs.lemmas.List.Elements.{All-append, All-map, All-weaker}
use Rattle.std.proofs.lemmas.Option.{get_or_from_slice_get, slice_get-get_or, slice_get-map, slice_get_within}
use Rattle.xmp_base.specs.Device.{DeskState, Files, Moved, Told, bytes_of}
use Rattle.xmp_base.specs.Windows.{IsInside, ReadInside}
use Rattle.xmp_base.specs.declared.file_span.FileSpan.{FileSpan}
use Rattle.xmp_base.proofs.Calls.{rose_after}
use Rattle.xmp_values.specs.declared.stops.FileStop.{FileStop}
use Rattle.xmp_values.specs.declared.stops.FileStop.TheVariants.{Absent, Fault as Refused, Device, Memory}
use Rattle.jpeg_regions.specs.Jpeg.{Region, Jpeg as IsJpeg, is_extension, portion_payloads}
use Rattle.jpeg_regions.specs.Cutting.{Tiles}
use Rattle.jpeg_regions.specs.FromDesk.{near_end}
use Rattle.jpeg_regions.proofs.Places.{cuts_tile, lies, one_place}
use Rattle.jpeg_regions.proofs.Faults.{cuts_same}
use Rattle.jpeg_extended.specs.FromDesk.{named_at, portions_at, is_portion_at, head_range, AreInside, ArePicked, InPayload, PayloadCalls, StopsOnly, NamedCall}
use Rattle.jpeg_extended.specs.declared.from_desk.JoinStop.{JoinStop}
use Rattle.jpeg_extended.specs.declared.from_desk.JoinStop.TheVariants as joins
use Rattle.xmp_files.specs.declared.kinds.Kind.TheVariants.{Jpeg}
use Rattle.xmp_files.specs.declared.held.Need.{Need}
use Rattle.xmp_files.specs.declared.held.Extended.{Extended}
use Rattle.xmp_files.specs.declared.held.ExtendedText.{ExtendedText}
use Rattle.xmp_files.specs.Faults.{packet_limit}
use Rattle.xmp_files.specs.Kinds.{kind_of}
use Rattle.xmp_files.specs.Keeping.{Piece, Segments, Kept, photograph}
use Rattle.xmp_files.specs.Meanings.{IsNoteOf}
use Rattle.xmp_files.specs.Photographs.{main_packet, named_portions, portions_in, IsName, IsExtended, IsCut}
use Rattle.xmp_files.specs.Sparing.{IsUnread, Spares, Spared}
use Rattle.xmp_files.specs.Loads.{IsNoteFor, FailsOnly, JoinedCall, OfPortions, ExtendedCall, KeptCall, IsOfSize, join_stop}
use Rattle.xmp_files.proofs.Loads.{Sized, inside_idle, spared_none}
use Rattle.xmp_files.proofs.LoadedPhotographs.{has_cut, inside_both}
use Rattle.xmp_files.proofs.OnePhotograph.{one_name}
use Rattle.xmp_files.proofs.PickedPortions.{none_picked}

-- Where portions stand.

filter_at : {X : Type 0} (P : X → Bool) (xs : List X) (k : ℕ) (x : X) → slice_get (filter P xs) k ≡ Some x → (i : ℕ) × (slice_get xs i ≡ Some x)
filter_at P [] k x e = absurd (cc e)
filter_at P (y ∷ ys) k x e = by (λ i. filter_at P ys i x) (P y) k e
  where
    by : ((i : ℕ) → slice_get (filter P ys) i ≡ Some x → (j : ℕ) × (slice_get ys j ≡ Some x)) → (b : Bool) → (k : ℕ) → slice_get (cond b (y ∷ filter P ys) (filter P ys)) k ≡ Some x
        → (j : ℕ) × (slice_get (y ∷ ys) j ≡ Some x)
    by rest true zero e = (0, e)
    by rest true (suc k) e = let r = rest k e in (suc r.0, r.1)
    by rest false k e = let r = rest k e in (suc r.0, r.1)

mapped_some : {A B : Type 0} (f : A → B) (o : Option A) (y : B) → option_map f o ≡ Some y → (x : A) × (o ≡ Some x) × (f x ≡ y)
mapped_some f None y e = absurd (cc e)
mapped_some f (Some x) y e = (x, refl, cc e)

-- a region that has a payload
record HasPayload (regions : List Region) (payload : FileSpan) : Type 0 where
  at : ℕ
  region : Region
  there : slice_get regions at ≡ Some region
  of : region.payload ≡ payload

payload_region : (regions : List Region) (k : ℕ) (payload : FileSpan) → slice_get (portion_payloads regions) k ≡ Some payload → HasPayload regions payload
payload_region regions k payload e =
    let portions : List Region = filter (λ (r : Region). is_extension r.kind) regions in
    let m = mapped_some (λ (r : Region). r.payload) (slice_get portions k) payload (sym (slice_get-map (λ (r : Region). r.payload) portions k) ∙ e) in
    let f = filter_at (λ (r : Region). is_extension r.kind) regions k m.0 m.1 in
    record { at = f.0; region = m.0; there = f.1; of = m.2 }

contains_at : {X : Type 0} (xs : List X) (k : ℕ) (x : X) → slice_get xs k ≡ Some x → Contains xs x
contains_at xs k x e = (k, slice_get_within xs k x e, get_or_from_slice_get xs k x x e)

module _ (file note : List ℕ) (regions : List Region) (packet : Option Piece) (tiles : Tiles 2 (length file) regions) where
  abbrev payloads : List FileSpan
  payloads = portion_payloads regions

  -- a place in a payload is in no region that isn't read there
  place_spares : (payload : FileSpan) (portions : List FileSpan) (place : ℕ) → HasPayload regions payload → payload.start ≤ place → place < payload.end
      → (place < min payload.end (payload.start + 75)) ⊎ Contains portions payload → IsUnread (Segments regions) packet portions place → ⊥
  place_spares payload portions place h from before read u =
      let a = lies 2 (length file) regions h.at h.region tiles h.there in
      let b = lies 2 (length file) regions u.0 u.1 tiles u.2 in
      let start : h.region.payload.start ≤ place = subst (λ (p : FileSpan). p.start ≤ place) (sym h.of) from in
      let end : place < h.region.payload.end = subst (λ (p : FileSpan). place < p.end) (sym h.of) before in
      let same : h.region ≡ u.1 = one_place 2 (length file) regions h.at u.0 h.region u.1 place tiles h.there u.2 (omega (arith, a.begins, start)) (omega (arith, a.inside, end))
      (omega (arith, u.4, b.begins, b.order)) u.5 in
      let past : min payload.end (payload.start + 75) ≤ place = subst (λ (p : FileSpan). min p.end (p.start + 75) ≤ place) h.of (subst (λ (r : Region). near_end r ≤ place) (sym same) u.4) in
      let not_one : Contains portions payload → ⊥ = subst (λ (p : FileSpan). Contains portions p → ⊥) (ap (λ (r : Region). r.payload) (sym same) ∙ h.of) u.6 in
      by read past not_one
    where
      by : (place < min payload.end (payload.start + 75)) ⊎ Contains portions payload → min payload.end (payload.start + 75) ≤ place → (Contains portions payload → ⊥) → ⊥
      by (inl near) past not_one = omega (arith, near, past)
      by (inr one) past not_one = not_one one

  head_spares : (at end place : ℕ) → InPayload (map head_range payloads) at end → at ≤ place → place < end → IsUnread (Segments regions) packet (named_at file note payloads) place → ⊥
  head_spares at end place i from before u =
      let m = mapped_some head_range (slice_get payloads i.number) i.payload (sym (slice_get-map head_range payloads i.number) ∙ i.there) in
      let h = payload_region regions i.number m.0 m.1 in
      let start : m.0.start ≤ at = subst (λ (p : FileSpan). p.start ≤ at) (sym m.2) i.from in
      let last : end ≤ min m.0.end (m.0.start + 75) = subst (λ (p : FileSpan). end ≤ p.end) (sym m.2) i.to in
      place_spares m.0 (named_at file note payloads) place h (omega (arith, start, from)) (omega (arith, last, before)) (inl (omega (arith, last, before))) u

  part_spares : (at end place : ℕ) → InPayload (named_at file note payloads) at end → at ≤ place → place < end → IsUnread (Segments regions) packet (named_at file note payloads) place → ⊥
  part_spares at end place i from before u =
      let f = filter_at (is_portion_at file note) payloads i.number i.payload i.there in
      let h = payload_region regions f.0 i.payload f.1 in
      place_spares i.payload (named_at file note payloads) place h (omega (arith, i.from, from)) (omega (arith, i.to, before))
      (inr (contains_at (named_at file note payloads) i.number i.payload i.there)) u

  pub portions_spare : (name : List ℕ) (m : Moved) → OfPortions file note payloads name m → (place : ℕ) → m.1 ≤ place → place < m.1 + m.2
      → IsUnread (Segments regions) packet (named_at file note payloads) place → ⊥
  portions_spare name m of place from before u = by of.place
    where
      by : InPayload (map head_range payloads) m.1 (m.1 + m.2) ⊎ InPayload (named_at file note payloads) m.1 (m.1 + m.2) → ⊥
      by (inl head) = head_spares m.1 (m.1 + m.2) place head from before u
      by (inr part) = part_spares m.1 (m.1 + m.2) place part from before u

-- What was read of portions.

module _ (s t : DeskState) (name : List ℕ) (size : ℕ) (payloads : List FileSpan) (inside : AreInside size payloads) (call : PayloadCalls s t name payloads) where
  payload_in : (k : ℕ) (p : FileSpan) → slice_get payloads k ≡ Some p → (p.start ≤ p.end) × (p.end ≤ size)
  payload_in k p e = subst (λ (q : FileSpan). (q.start ≤ q.end) × (q.end ≤ size)) (get_or_from_slice_get payloads k p p e) (inside k p (slice_get_within payloads k p e))

  -- they lie in the file
  pub payload_reads : ReadInside s t name 0 size
  payload_reads = record {
    same = call.same;
    counts = call.counts;
    lens = call.lens;
    reads = λ reads told. let m = call.reads reads told in (
      m.0,
      m.1,
      All-weaker (λ (x : Moved). (x.0 ≡ name) × InPayload payloads x.1 (x.1 + x.2)) (IsInside name 0 size)
          (λ x h. let i = h.1 in record { of_name = h.0; from_start = omega arith; to_end = omega (arith, i.to, (payload_in i.number i.payload i.there).1) }) m.0 m.2,
    );
  }

heads_inside : (size : ℕ) (payloads : List FileSpan) → AreInside size payloads → AreInside size (map head_range payloads)
heads_inside size payloads inside =
    let In : FileSpan → Type 0 = λ p. (p.start ≤ p.end) × (p.end ≤ size) in
    All-map In head_range payloads (All-weaker In (λ (p : FileSpan). In (head_range p)) (λ p h. (omega (arith, h.0), omega (arith, h.1))) payloads inside)

-- The portions of a name were found among payloads, and then joined.
module _ (s t : DeskState) (name : List ℕ) (size : ℕ) (payloads : List FileSpan) (note : List ℕ) (inside : AreInside size payloads) where
  heads_near : PayloadCalls s t name (map head_range payloads)
      → Told s.files (λ files. Told s.reads (λ reads. (more : List Moved) × (t.reads ≡ Some (reads ++ more)) × All (OfPortions (bytes_of files name) note payloads name) more))
  heads_near call files told reads read_told = let m = call.reads reads read_told in (
    m.0,
    m.1,
    All-weaker (λ (x : Moved). (x.0 ≡ name) × InPayload (map head_range payloads) x.1 (x.1 + x.2)) (OfPortions (bytes_of files name) note payloads name)
        (λ x h. record { of_name = h.0; place = inl h.1 }) m.0 m.2,
  )

  -- none were found
  pub named_stopped : (stop : JoinStop) (out : FileStop) → NamedCall s t name size payloads note (Err stop) → out ≡ join_stop stop → ExtendedCall s t name size payloads note (Err out)
  named_stopped stop out call is = subst (λ (f : FileStop). ExtendedCall s t name size payloads note (Err f)) (sym is) (record {
    calls = payload_reads s t name size (map head_range payloads) (heads_inside size payloads inside) call.calls;
    near = heads_near call.calls;
    among = tt;
    told = tt;
    fails = by stop call.stops;
  })
    where
      by : (j : JoinStop) → StopsOnly s t (let r : Result (Vec FileSpan Global) JoinStop = Err j in r) → FailsOnly s t (let r : Result ExtendedText FileStop = Err (join_stop j) in r)
      by joins.Device rose = rose
      by (joins.Portions x) is = tt

  module _ (found : Vec FileSpan Global) (call : NamedCall s t name size payloads note (Ok found)) (u : DeskState) (joined : Result (Option Extended) FileStop)
      (after : JoinedCall t u name found.items note joined) where
    found_reads : ReadInside s u name 0 size
    found_reads = inside_both s t u name size (payload_reads s t name size (map head_range payloads) (heads_inside size payloads inside) call.calls)
        (payload_reads t u name size found.items call.inside after.calls)

    found_near : Told s.files (λ files. Told s.reads (λ reads. (more : List Moved) × (u.reads ≡ Some (reads ++ more)) × All (OfPortions (bytes_of files name) note payloads name) more))
    found_near files told reads read_told =
        let m = heads_near call.calls files told reads read_told in
        let n = after.calls.reads (reads ++ m.0) m.1 in (
          m.0 ++ n.0,
          n.1 ∙ ap Some (append_assoc reads m.0 n.0),
          All-append (OfPortions (bytes_of files name) note payloads name) m.0 n.0 m.2
              (All-weaker (λ (x : Moved). (x.0 ≡ name) × InPayload found.items x.1 (x.1 + x.2)) (OfPortions (bytes_of files name) note payloads name)
              (λ x h. record { of_name = h.0; place = inr (subst (λ (ps : List FileSpan). InPayload ps x.1 (x.1 + x.2)) (call.told files told) h.1) }) n.0 n.2),
        )

  -- they were found, and joined or not
  pub found_joined : (found : Vec FileSpan Global) → NamedCall s t name size payloads note (Ok found) → (u : DeskState) (extended : Option Extended) → JoinedCall t u name found.items note (Ok extended)
      → (text : ExtendedText) → text.portions.items ≡ found.items → text.joined ≡ extended → ExtendedCall s u name size payloads note (Ok text)
  found_joined found call u extended after text is same = record {
    calls = found_reads found call u (Ok extended) after;
    near = found_near found call u (Ok extended) after;
    among = subst (λ (ps : List FileSpan). ArePicked ps payloads) (sym is) call.among;
    told = λ files told. (
      is ∙ call.told files told,
      subst (λ (ps : List FileSpan). IsExtended (portions_at (bytes_of files name) note ps) text.joined) (sym is)
          (subst (λ (e : Option Extended). IsExtended (portions_at (bytes_of files name) note found.items) e) (sym same) (after.told files (call.calls.same.files ∙ told))),
    );
    fails = tt;
  }

  pub found_stopped : (found : Vec FileSpan Global) → NamedCall s t name size payloads note (Ok found) → (u : DeskState) (stop : FileStop) → JoinedCall t u name found.items note (Err stop)
      → ExtendedCall s u name size payloads note (Err stop)
  found_stopped found call u stop after = record {
    calls = found_reads found call u (Err stop) after;
    near = found_near found call u (Err stop) after;
    among = tt;
    told = tt;
    fails = by stop after.fails;
  }
    where
      by : (f : FileStop) → FailsOnly t u (let r : Result (Option Extended) FileStop = Err f in r) → FailsOnly s u (let r : Result ExtendedText FileStop = Err f in r)
      by Absent h = h
      by (Refused fault) h = h
      by Device rose = rose_after s.faults t.faults u.faults call.calls.counts.faults rose
      by Memory h = tt

-- What is kept.

-- the note of a packet that is read names the text
named_by : (payloads : List FileSpan) (piece : Piece) (note : Option (List ℕ)) → length piece.bytes ≤ packet_limit → IsNoteFor payloads piece.bytes note → IsName payloads (Some piece) note
named_by [] piece name short h = h
named_by (p ∷ ps) piece name short h = inr (short, h)

module _ (need : Need) (s : DeskState) (name : List ℕ) (size : ℕ) (sized : Sized s name size) (kind : Told s.files (λ files. kind_of (bytes_of files name) ≡ Some Jpeg)) (regions : List Region) (piece : Piece)
    (jpeg : Told s.files (λ files. IsJpeg (bytes_of files name) regions)) (packet : Told s.files (λ files. Some piece ≡ main_packet (bytes_of files name) regions))
    (lies : piece.at + length piece.bytes ≤ size) (short : length piece.bytes ≤ packet_limit) (tiles : Tiles 2 size regions) where
  of_size : (portions : List FileSpan) (extended : Option Extended) → ArePicked portions (portion_payloads regions) → IsOfSize size (photograph need size regions (Some piece) portions extended)
  of_size portions extended among = record { whole = refl; payload = (lies, short); container = (tiles, among) }

  -- a file that has these portions of an extended text, with what they give
  kept_cut : (kept : Kept) (portions : List FileSpan) (extended : Option Extended) (files : Files) → s.files ≡ Some files → kept ≡ photograph need size regions (Some piece) portions extended
      → (note : Option (List ℕ)) → IsName (portion_payloads regions) (Some piece) note → portions ≡ named_portions (bytes_of files name) note regions → IsExtended (portions_in (bytes_of files name) note portions) extended
      → IsCut need (bytes_of files name) (Ok kept)
  kept_cut kept portions extended files told is note noted named joins =
      let file : List ℕ = bytes_of files name in
      record {
        regions = regions;
        jpeg = jpeg files told;
        note = note;
        noted = subst (λ (p : Option Piece). IsName (portion_payloads regions) p note) (packet files told) noted;
        extended = extended;
        joins = subst (λ (ps : List FileSpan). IsExtended (portions_in file note ps) extended) named joins;
        is = is ∙ (λ i. photograph need (sym (sized.whole files told) i) regions (packet files told i) (named i) extended);
      }

  -- memory ran out before anything was read
  pub kept_wants : KeptCall need s s name size (Err Memory)
  kept_wants = record { calls = inside_idle s name size; spared = spared_none need s s name refl; told = tt; held = tt; fails = tt }

  module _ (payloads : List FileSpan) (payloads_are : payloads ≡ portion_payloads regions) where
    named : (note : Option (List ℕ)) → IsNoteFor payloads piece.bytes note → IsName (portion_payloads regions) (Some piece) note
    named note h = named_by (portion_payloads regions) piece note short (subst (λ (ps : List FileSpan). IsNoteFor ps piece.bytes note) payloads_are h)

    -- there is no extended text
    pub kept_alone : (kept : Kept) → IsNoteFor payloads piece.bytes None → kept ≡ photograph need size regions (Some piece) [] None → KeptCall need s s name size (Ok kept)
    kept_alone kept note is = record {
      calls = inside_idle s name size;
      spared = spared_none need s s name refl;
      told = λ files told. kept_cut kept [] None files told is None (named None note) refl refl;
      held = subst (IsOfSize size) (sym is) (of_size [] None (none_picked (portion_payloads regions)));
      fails = tt;
    }

    module _ (note : List ℕ) (noted : IsNoteFor payloads piece.bytes (Some note)) (u : DeskState) where
      text_spares : (result : Result ExtendedText FileStop) → ExtendedCall s u name size payloads note result → Spared need s u name
      text_spares result call files told reads read_told =
          let m = call.near files told reads read_told in (
            m.0,
            m.1,
            λ k d h kept has of.
                let file : List ℕ = bytes_of files name in
                let cut = has_cut need (get files name) kept (kind files told) has in
                let same : regions ≡ cut.regions = cuts_same file regions cut.regions (jpeg files told).cuts cut.jpeg.cuts in
                let mine : IsName (portion_payloads cut.regions) (main_packet file cut.regions) (Some note) =
                subst (λ (rs : List Region). IsName (portion_payloads rs) (main_packet file rs) (Some note)) same
                (subst (λ (p : Option Piece). IsName (portion_payloads regions) p (Some note)) (packet files told) (named (Some note) noted)) in
                let notes : cut.note ≡ Some note = one_name (portion_payloads cut.regions) (main_packet file cut.regions) cut.note (Some note) cut.noted mine in
                let near : OfPortions file note (portion_payloads cut.regions) name (get_or m.0 k d) =
                subst (λ (ps : List FileSpan). OfPortions file note ps name (get_or m.0 k d)) (payloads_are ∙ ap portion_payloads same) (m.2 k d h) in
                subst (λ (x : Kept). Spares x (get_or m.0 k d)) (sym cut.is)
                (λ place past from before unread. portions_spare file note cut.regions (main_packet file cut.regions) (cuts_tile file cut.regions cut.jpeg.cuts) name (get_or m.0 k d) near place from before
                (subst (λ (n : Option (List ℕ)). IsUnread (Segments cut.regions) (main_packet file cut.regions) (named_portions file n cut.regions) place) notes unread)),
          )

      -- there is one, or why there isn't
      pub kept_text : (kept : Kept) (text : ExtendedText) → ExtendedCall s u name size payloads note (Ok text) → kept ≡ photograph need size regions (Some piece) text.portions.items text.joined
          → KeptCall need s u name size (Ok kept)
      kept_text kept text call is = record {
        calls = call.calls;
        spared = text_spares (Ok text) call;
        told = λ files told.
            let file : List ℕ = bytes_of files name in
            let found = call.told files told in
            kept_cut kept text.portions.items text.joined files told is (Some note) (named (Some note) noted) (found.0 ∙ ap (named_at file note) payloads_are) found.1;
        held = subst (IsOfSize size) (sym is) (of_size text.portions.items text.joined (subst (ArePicked text.portions.items) payloads_are call.among));
        fails = tt;
      }

      pub kept_stopped : (stop : FileStop) → ExtendedCall s u name size payloads note (Err stop) → KeptCall need s u name size (Err stop)
      kept_stopped stop call = record { calls = call.calls; spared = text_spares (Err stop) call; told = tt; held = tt; fails = by stop call.fails }
        where
          by : (f : FileStop) → FailsOnly s u (let r : Result ExtendedText FileStop = Err f in r) → FailsOnly s u (let r : Result Kept FileStop = Err f in r)
          by Absent h = h
          by (Refused fault) h = h
          by Device rose = rose
          by Memory h = tt

-- the note of the packet of a file with a portion, or none
pub empty_note : (payloads : List FileSpan) (packet : List ℕ) → length payloads ≡ 0 → IsNoteFor payloads packet None
empty_note [] packet e = refl
empty_note (p ∷ ps) packet e = absurd (omega (arith, e))

pub some_note : (payloads : List FileSpan) (packet : List ℕ) (note : Option (List ℕ)) → length payloads ≢ 0 → IsNoteOf packet note → IsNoteFor payloads packet note
some_note [] packet name some h = absurd (some refl)
some_note (p ∷ ps) packet name some h = h

-- the payloads of a file's portions lie in it
pub payloads_lie : (size : ℕ) (regions : List Region) → Tiles 2 size regions → AreInside size (portion_payloads regions)
payloads_lie size regions tiles k d less =
    let p : FileSpan = get_or (portion_payloads regions) k d in
    let h = payload_region regions k p (slice_get-get_or (portion_payloads regions) k d less) in
    let l = lies 2 size regions h.at h.region tiles h.there in
    (subst (λ (q : FileSpan). q.start ≤ q.end) h.of l.order, subst (λ (q : FileSpan). q.end ≤ size) h.of (omega (arith, l.inside, l.to)))
