-- The packet of a JPEG file: where it stands, and what is kept of the file when it is exchanged for another one of its length.
use Rattle.std.proofs.Common.{◌≡◌, ◌∙◌, ℕ, ◌+◌, ◌-◌, ◌<◌, ◌≤◌, min, Bool, cond, List, [], length, take, drop, refl, sym, ap, subst, arith, inl, inr, Ok, Err, Some, None}
use Rattle.std.specs.declared.option.Option.{Option}
use Rattle.std.specs.declared.result.Result.{Result}
use Rattle.std.specs.Option.{option_map}
use Rattle.std.specs.Prelude.{nat_lt}
use Rattle.std.proofs.lemmas.Bool.{le-ltb}
use Rattle.std.proofs.lemmas.List.{length-take-le, length-drop, take_all}
use Rattle.xmp_base.specs.Device.{put_at}
use Rattle.xmp_base.specs.declared.file_span.FileSpan.{FileSpan}
use Rattle.xmp_base.proofs.Ranges.{put_length, range_put}
use Rattle.xmp_values.specs.declared.faults.Fault.{Fault}
use Rattle.jpeg_regions.specs.Jpeg.{Region, Jpeg as IsJpeg, portion_payloads}
use Rattle.jpeg_regions.proofs.InPlace.{packet_in_place}
use Rattle.jpeg_regions.proofs.Places.{cuts_tile, MainAt}
use Rattle.xmp_files.specs.declared.kinds.Kind.{Kind}
use Rattle.xmp_files.specs.declared.kinds.Kind.TheVariants.{Jpeg}
use Rattle.xmp_files.specs.declared.held.Need.{Need}
use Rattle.xmp_files.specs.declared.held.Need.TheVariants.{Packet}
use Rattle.xmp_files.specs.Faults.{file_limit, over_limit, packet_limit, over_packet}
use Rattle.xmp_files.specs.Kinds.{kind_of}
use Rattle.xmp_files.specs.Stages.{followed, Followed}
use Rattle.xmp_files.specs.Keeping.{Piece, Kept, photograph}
use Rattle.xmp_files.specs.Meanings.{IsNote, IsNoteOf}
use Rattle.xmp_files.specs.Photographs.{piece_at, main_payload, packet_range, main_packet, IsPhotograph}
use Rattle.xmp_files.specs.Loading.{known, kind_of_file, IsKept, IsLoaded}
use Rattle.xmp_files.proofs.LoadedPhotographs.{main_of, main_lies, unnamed}
use Rattle.xmp_files.proofs.LoadedKept.{IsSidecarOf, IsPhotographOf, IsImageOf, LoadedAs, loaded_as}
use Rattle.xmp_files.proofs.Loads.{known_as}
use Rattle.xmp_files.proofs.ExchangedImages.{image_within, image_there}

-- a whole file as the payload that a sidecar is
abbrev pub whole_piece : List ℕ → Piece
whole_piece bytes = record { at = 0; bytes = bytes }

-- a payload stands in its file, and is within its limit
pub record Stands (old : List ℕ) (payload : Piece) : Type 0 where
  pub within : payload.at + length payload.bytes ≤ length old
  pub there : take (length payload.bytes) (drop payload.at old) ≡ payload.bytes
  pub short : length payload.bytes ≤ packet_limit

pub same_piece : (p q : Piece) → (let o : Option Piece = Some p in o) ≡ Some q → p ≡ q
same_piece p q e = cc e

-- a piece of a file has the length of its range
piece_size : (old : List ℕ) (range : FileSpan) → range.start ≤ range.end → range.end ≤ length old → length (piece_at old range).bytes ≡ range.end - range.start
piece_size old range order within = length-take-le _ _ (omega (arith, length-drop range.start old, order, within))

module _ (need : Need) (old : List ℕ) (kept : Kept) (p : IsPhotograph need old kept) (payload : Piece) (there : kept.payload ≡ Some payload) where
  packet_is : main_packet old p.regions ≡ Some payload
  packet_is = sym (ap (λ (k : Kept). k.payload) p.is) ∙ there

  -- the payload of the main region, by the packet in it
  span_of : (found : Option FileSpan) → option_map (λ (x : FileSpan). piece_at old (packet_range x)) found ≡ Some payload
      → (x : FileSpan) × (found ≡ Some x) × (piece_at old (packet_range x) ≡ payload)
  span_of None e = absurd (cc e)
  span_of (Some x) e = (x, refl, cc e)

  main : (x : FileSpan) × (main_payload p.regions ≡ Some x) × (piece_at old (packet_range x) ≡ payload)
  main = span_of (main_payload p.regions) packet_is

  abbrev span : FileSpan
  span = main.0

  lies : (span.start ≤ span.end) × (span.end ≤ length old)
  lies = main_lies (length old) p.regions span (cuts_tile old p.regions p.jpeg.cuts) main.1

  start_is : payload.at ≡ min (span.start + 29) span.end
  start_is = sym (ap (λ (q : Piece). q.at) main.2)

  size_is : length payload.bytes ≡ span.end - payload.at
  size_is = sym (ap (λ (q : Piece). length q.bytes) main.2) ∙ piece_size old (packet_range span) (omega arith) lies.1 ∙ ap (λ (n : ℕ). span.end - n) (sym start_is)

  pub photograph_within : payload.at + length payload.bytes ≤ length old
  photograph_within = omega (arith, start_is, size_is, lies.0, lies.1)

  pub photograph_there : take (length payload.bytes) (drop payload.at old) ≡ payload.bytes
  photograph_there =
      subst (λ (q : Piece). take (length q.bytes) (drop q.at old) ≡ q.bytes) main.2
      (ap (λ (n : ℕ). take n (drop (packet_range span).start old)) (piece_size old (packet_range span) (omega arith) lies.1))

  module _ (now : List ℕ) (as_long : length now ≡ length payload.bytes) (some : 0 < length now) where
    abbrev file : List ℕ
    file = put_at old payload.at now

    region : (r : Region) × MainAt p.regions r × (r.payload ≡ span)
    region = main_of p.regions span main.1

    pub file_size : length file ≡ length old
    file_size = put_length payload.at (length now) old now (omega (arith, photograph_within, as_long)) refl

    -- the packet isn't empty, so it stands after the signature of its payload
    at_is : payload.at ≡ region.0.payload.start + 29
    at_is =
        let first : region.0.payload.start ≡ span.start = ap (λ (x : FileSpan). x.start) region.2 in
        omega (arith, start_is, size_is, as_long, some, first)

    ends : region.0.payload.start + 29 + length now ≡ region.0.payload.end
    ends =
        let last : region.0.payload.end ≡ span.end = ap (λ (x : FileSpan). x.end) region.2 in
        omega (arith, at_is, start_is, size_is, as_long, some, last)

    -- so the file has the same regions
    jpeg : IsJpeg file p.regions
    jpeg = subst (λ (n : ℕ). IsJpeg (put_at old n now) p.regions) (sym at_is) (packet_in_place old p.regions region.1.at region.0 now p.jpeg region.1.is region.1.main ends)

    new_bytes : take (span.end - (packet_range span).start) (drop (packet_range span).start file) ≡ now
    new_bytes =
        let long : span.end - payload.at ≡ length now = omega (arith, size_is, as_long) in
        ap (λ (n : ℕ). take (span.end - n) (drop n file)) (sym start_is) ∙ ap (λ (n : ℕ). take n (drop payload.at file)) long
        ∙ range_put payload.at (length now) old (omega (arith, photograph_within, as_long)) now refl

    new_piece : piece_at file (packet_range span) ≡ record { at = payload.at; bytes = now }
    new_piece = λ i. record { at = sym start_is i; bytes = new_bytes i }

    new_packet : main_packet file p.regions ≡ Some (record { at = payload.at; bytes = now })
    new_packet = ap (option_map (λ (x : FileSpan). piece_at file (packet_range x))) main.1 ∙ ap (λ (q : Piece). Some q) new_piece

    -- what is kept of it: there is no extended text where the new packet names none
    abbrev pub exchanged_kept : Kept
    exchanged_kept = photograph Packet (length file) p.regions (Some (record { at = payload.at; bytes = now })) [] None

    is_photograph : IsNote (Some (record { at = payload.at; bytes = now })) None → IsPhotograph Packet file exchanged_kept
    is_photograph note = record {
      regions = p.regions;
      jpeg = jpeg;
      note = None;
      noted = unnamed (portion_payloads p.regions) (main_packet file p.regions) (subst (λ (o : Option Piece). IsNote o None) (sym new_packet) note);
      extended = None;
      joins = refl;
      is = ap (λ (o : Option Piece). photograph Packet (length file) p.regions o [] None) (sym new_packet);
    }

    kind_is : kind_of file ≡ Some Jpeg
    kind_is = subst (λ (l : List ℕ). kind_of l ≡ Some Jpeg) (sym jpeg.cuts.bytes) refl

    there_is : length old ≤ file_limit → kind_of_file (Some file) ≡ Ok Jpeg
    there_is small =
        ap (λ (b : Bool). followed (cond b (Err (over_limit (length file))) (Ok file)) known) (le-ltb file_limit (length file) (omega (arith, file_size, small)))
        ∙ known_as file Jpeg kind_is refl

    -- the file is loaded with the new packet
    pub exchanged_loaded : length old ≤ file_limit → length now ≤ packet_limit → IsNoteOf now None → IsLoaded Packet (Some file) (Ok exchanged_kept)
    exchanged_loaded small short note =
        let within : Ok exchanged_kept ≡ cond (nat_lt packet_limit (length now)) (Err (over_packet (length now))) (Ok exchanged_kept) =
        ap (λ (b : Bool). cond b (Err (over_packet (length now))) (Ok exchanged_kept)) (sym (le-ltb packet_limit (length now) short)) in
        subst (λ (x : Result Kind Fault). Followed x (IsKept Packet file) (Ok exchanged_kept)) (sym (there_is small)) (Ok exchanged_kept, is_photograph (inr (short, note)), within)

-- Of all kinds.

sidecar_stands : (need : Need) (old : List ℕ) (kept : Kept) (payload : Piece) → kept.payload ≡ Some payload → IsSidecarOf need old kept → Stands old payload
sidecar_stands need old kept payload there s =
    let is : whole_piece old ≡ payload = same_piece (whole_piece old) payload (sym (ap (λ (k : Kept). k.payload) s.is) ∙ there) in
    subst (Stands old) is (record { within = omega arith; there = take_all (length old) old (omega arith); short = s.short })

photograph_stands : (need : Need) (old : List ℕ) (kept : Kept) (payload : Piece) → kept.payload ≡ Some payload → IsPhotographOf need old kept → Stands old payload
photograph_stands need old kept payload there p = record {
  within = photograph_within need old kept p.is payload there;
  there = photograph_there need old kept p.is payload there;
  short = p.short payload there;
}

image_stands : (need : Need) (old : List ℕ) (kept : Kept) (payload : Piece) → kept.payload ≡ Some payload → IsImageOf need old kept → Stands old payload
image_stands need old kept payload there x = record {
  within = image_within need old kept x.is payload there;
  there = image_there need old kept x.is payload there;
  short = x.short payload there;
}

stands_by : (need : Need) (old : List ℕ) (kept : Kept) (payload : Piece) → kept.payload ≡ Some payload → LoadedAs need old kept → Stands old payload
stands_by need old kept payload there (inl s) = sidecar_stands need old kept payload there s
stands_by need old kept payload there (inr (inl p)) = photograph_stands need old kept payload there p
stands_by need old kept payload there (inr (inr x)) = image_stands need old kept payload there x

-- the payload of a loaded file
pub loaded_stands : (need : Need) (old : List ℕ) (kept : Kept) (payload : Piece) → IsLoaded need (Some old) (Ok kept) → kept.payload ≡ Some payload → Stands old payload
loaded_stands need old kept payload loaded there = stands_by need old kept payload there (loaded_as need old kept loaded)
