-- What becomes of an edited file, by cases.
use Rattle.std.proofs.Common.{◌≡◌, ◌⊎◌, ℕ, ◌+◌, ◌<◌, ◌≤◌, Bool, true, false, List, [], ◌∷◌, ◌++◌, length, Some, None, Ok, Err, refl, inl, inr, ap, ◌∙◌, if◌then◌else◌}
use Rattle.std.specs.Prelude.{◌≢◌, not, nat_le, nat_lt}
use Rattle.std.specs.declared.option.Option.{Option}
use Rattle.std.proofs.lemmas.Bool.{and_parts, leb-true, ltb-false}
use Rattle.xmp_values.specs.declared.faults.Fault.{Fault}
use Rattle.xmp_packets.specs.Packets.{is_writable}
use Rattle.xmp_write.specs.Splits.{IsSplit}
use Rattle.xmp_files.specs.Faults.{file_limit, packet_limit, over_packet, over_extended}
use Rattle.xmp_files.specs.Keeping.{Piece, Container, Text, Segments, Directories, Kept}
use Rattle.xmp_base.specs.declared.file_span.FileSpan.{FileSpan}
use Rattle.jpeg_regions.specs.Jpeg.{Region}
use Rattle.jpeg_relocation.specs.declared.pictures.MovedPictures.{MovedPictures}
use Rattle.jpeg_relocation.specs.NewSegments.{main_limit}
use Rattle.jpeg_relocation.specs.Pictures.{moved_pictures}
use Rattle.tiff_dirs.specs.Tiff.{Tiff}
use Rattle.tiff_relocation.specs.Relocation.{lacks_room, packet_place, tells}
use Rattle.xmp_files.specs.Planning.{Edited, Part, New, parts_len, Plan, Same, InPlace, Relocated}
use Rattle.xmp_files.specs.Plans.{IsRelocation, OrRelocation, IsEdited, IsPlanned, packet_of, least_of, padding, stays, fits, fits_payload, exchanged, digest_pieces, whole_form, told, needs_relocation, room_of, after_pictures, over_out, parts_around, unless_moved, put_among, segment_padded, segments_text, rest_text, front_packet, over_segment, over_entries, over_offsets, appended_parts, within_out, IsDivided, IsRelocated}
use Rattle.xmp_files.proofs.PacketLengths.{length-packet}

-- the packet of a plan that exchanges it
pub record IsExchange (payload : Option Piece) (e : Edited) (plan : Plan) : Type 0 where
  pub old : Piece
  pub there : payload ≡ Some old
  pub is : plan ≡ InPlace (record { at = old.at; bytes = packet_of e (length old.bytes) } ∷ [])
  pub as_long : length (packet_of e (length old.bytes)) ≡ length old.bytes
  pub writable : is_writable old.bytes ≡ true

-- a sidecar that is written anew
pub record IsAnew (container : Container) (e : Edited) (plan : Plan) : Type 0 where
  pub text : container ≡ Text
  pub within : least_of e + padding ≤ packet_limit
  pub is : plan ≡ Relocated (New (packet_of e (least_of e + padding)) ∷ [])

-- a JPEG file that is relocated, with the packet of the whole tree in a segment
pub record IsAmong (container : Container) (portions : List FileSpan) (e : Edited) (plan : Plan) : Type 0 where
  pub regions : List Region
  pub segments : container ≡ Segments regions
  pub fits : least_of e ≤ main_limit
  pub is : plan ≡ Relocated (parts_around regions portions (segments_text (packet_of e (segment_padded (least_of e))) None))
  pub within : parts_len (parts_around regions portions (segments_text (packet_of e (segment_padded (least_of e))) None)) ≤ file_limit

-- a JPEG file that is relocated with the tree in two texts
pub record IsBoth (container : Container) (portions : List FileSpan) (e : Edited) (plan : Plan) : Type 0 where
  pub regions : List Region
  pub segments : container ≡ Segments regions
  pub long : main_limit < least_of e
  pub count : ℕ
  pub split : IsSplit e.new e.hints main_limit count
  pub short : length (rest_text e.new e.hints count) ≤ packet_limit
  pub is : plan ≡ Relocated (parts_around regions portions (segments_text (front_packet e.new e.hints count) (Some (rest_text e.new e.hints count))))
  pub within : parts_len (parts_around regions portions (segments_text (front_packet e.new e.hints count) (Some (rest_text e.new e.hints count)))) ≤ file_limit

-- a TIFF file that is relocated, with the packet at its end
pub record IsLast (container : Container) (e : Edited) (plan : Plan) : Type 0 where
  pub size : ℕ
  pub tiff : Tiff
  pub images : container ≡ Directories size tiff
  pub small : least_of e + padding ≤ packet_limit
  pub room : lacks_room tiff ≡ false
  pub tells : tells tiff.layout (packet_place size tiff + length (packet_of e (least_of e + padding))) ≡ true
  pub is : plan ≡ Relocated (appended_parts size tiff (packet_of e (least_of e + padding)))
  pub within : parts_len (appended_parts size tiff (packet_of e (least_of e + padding))) ≤ file_limit

-- The bytes stay, with no piece at all in a place of theirs, where the tree does; a tree that changes has its packet exchanged, or a new
-- file.
abbrev pub Becomes : Option Piece → Container → List FileSpan → Edited → Plan → Type 0
Becomes payload container portions e plan =
    ((e.new ≡ e.old) × ((plan ≡ Same) ⊎ (plan ≡ InPlace [])))
    ⊎ ((e.new ≢ e.old) × (IsExchange payload e plan ⊎ (IsAnew container e plan ⊎ (IsAmong container portions e plan ⊎ (IsBoth container portions e plan ⊎ IsLast container e plan)))))

pub no_digest : (container : Container) (digest : Option (List ℕ)) → digest_pieces container digest ≡ []
no_digest Text digest = refl
no_digest (Segments regions) digest = refl
no_digest (Directories size tiff) digest = refl

stays_as : (container : Container) (digest : Option (List ℕ)) (plan : Plan) → plan ≡ stays container digest → (plan ≡ Same) ⊎ (plan ≡ InPlace [])
stays_as container None plan is = inl is
stays_as container (Some digest) plan is = inr (is ∙ ap (λ (l : List Piece). InPlace l) (no_digest container (Some digest)))

-- a packet that fits is exchanged
pub exchange_of : (payload : Option Piece) (container : Container) (joined : Bool) (e : Edited) (plan : Plan) → fits payload joined (least_of e) ≡ true
    → plan ≡ InPlace (exchanged payload e ++ digest_pieces container e.digest) → IsExchange payload e plan
exchange_of None container joined e plan fit is =
    let parts = and_parts (not joined) false fit in
    let never : false ≡ true = parts.1 in
    absurd cc
exchange_of (Some old) container joined e plan fit is =
    let inner = and_parts (not joined) (fits_payload (Some old) (least_of e)) fit in
    let last = and_parts (is_writable old.bytes) (nat_le (least_of e) (length old.bytes)) inner.1 in
    record {
      old = old;
      there = refl;
      is = is ∙ ap (λ (l : List Piece). InPlace (record { at = old.at; bytes = packet_of e (length old.bytes) } ∷ l)) (no_digest container e.digest);
      as_long = length-packet _ e.new (whole_form e.new) (length old.bytes) (leb-true _ _ last.1);
      writable = last.0;
    }

-- bytes that come among regions
among_by : (over : Bool) (parts : List Part) (f : Fault) (plan : Plan) → nat_lt file_limit (parts_len parts) ≡ over → Ok plan ≡ (if over then Err f else Ok (Relocated parts))
    → (parts_len parts ≤ file_limit) × (plan ≡ Relocated parts)
among_by true parts f plan test h = absurd (cc h)
among_by false parts f plan test h = (ltb-false file_limit (parts_len parts) test, let is : Ok plan ≡ Ok (Relocated parts) = h in cc)

among_cases : (o : Option MovedPictures) (parts : List Part) (plan : Plan) → Ok plan ≡ unless_moved o parts → (parts_len parts ≤ file_limit) × (plan ≡ Relocated parts)
among_cases (Some moved) parts plan h = absurd (let bad : Ok plan ≡ Err (after_pictures moved) = h in cc)
among_cases None parts plan h = among_by (nat_lt file_limit (parts_len parts)) parts (over_out (told (parts_len parts))) plan refl h

both_of : (over : Bool) (f : Fault) (regions : List Region) (portions : List FileSpan) (new : List ℕ) (plan : Plan) → Ok plan ≡ (if over then Err f else put_among regions portions new)
    → (over ≡ false) × (parts_len (parts_around regions portions new) ≤ file_limit) × (plan ≡ Relocated (parts_around regions portions new))
both_of true f regions portions new plan h = absurd (cc h)
both_of false f regions portions new plan h =
    let c = among_cases (moved_pictures portions regions (length new)) (parts_around regions portions new) plan h in (refl, c.0, c.1)

divided_of : (regions : List Region) (portions : List FileSpan) (e : Edited) (plan : Plan) → main_limit < least_of e → IsDivided regions portions e.new e.hints (Ok plan) → IsBoth (Segments regions) portions e plan
divided_of regions portions e plan long (inl (k, split, h)) =
    let rest : List ℕ = rest_text e.new e.hints k in
    let c = both_of (nat_lt packet_limit (length rest)) (over_extended (told (length rest))) regions portions (segments_text (front_packet e.new e.hints k) (Some rest)) plan h in
    record { regions = regions; segments = refl; long = long; count = k; split = split; short = ltb-false packet_limit (length rest) c.0; is = c.2; within = c.1 }
divided_of regions portions e plan long (inr (least, never, h)) = absurd (let bad : Ok plan ≡ Err (over_segment least) = h in cc)

among_of : (regions : List Region) (portions : List FileSpan) (e : Edited) (plan : Plan) → IsRelocated regions portions e (Ok plan) → IsAmong (Segments regions) portions e plan ⊎ IsBoth (Segments regions) portions e plan
among_of regions portions e plan (inl h) =
    let new : List ℕ = segments_text (packet_of e (segment_padded (least_of e))) None in
    let c = among_cases (moved_pictures portions regions (length new)) (parts_around regions portions new) plan h.1 in
    inl (record { regions = regions; segments = refl; fits = h.0; is = c.1; within = c.0 })
among_of regions portions e plan (inr h) = inr (divided_of regions portions e plan h.0 h.1)

last_by : (lacks fits : Bool) (f g : Fault) (parts : List Part) (plan : Plan) → Ok plan ≡ (if lacks then Err f else (if fits then within_out parts else Err g))
    → (lacks ≡ false) × (fits ≡ true) × (parts_len parts ≤ file_limit) × (plan ≡ Relocated parts)
last_by true fits f g parts plan h = absurd (cc h)
last_by false false f g parts plan h = absurd (cc h)
last_by false true f g parts plan h = let c = among_by (nat_lt file_limit (parts_len parts)) parts (over_out (told (parts_len parts))) plan refl h in (refl, refl, c.0, c.1)

last_of : (size : ℕ) (tiff : Tiff) (e : Edited) (plan : Plan) → least_of e + padding ≤ packet_limit → IsRelocation (Directories size tiff) [] e (Ok plan) → IsLast (Directories size tiff) e plan
last_of size tiff e plan within h =
    let packet : List ℕ = packet_of e (least_of e + padding) in
    let c = last_by (lacks_room tiff) (tells tiff.layout (packet_place size tiff + length packet)) over_entries (over_offsets (packet_place size tiff + length packet)) (appended_parts size tiff packet) plan h in
    record { size = size; tiff = tiff; images = refl; small = within; room = c.0; tells = c.1; is = c.3; within = c.2 }

anew_of : (container : Container) (portions : List FileSpan) (e : Edited) (plan : Plan) → least_of e + padding ≤ packet_limit → IsRelocation container portions e (Ok plan)
    → IsAnew container e plan ⊎ (IsAmong container portions e plan ⊎ (IsBoth container portions e plan ⊎ IsLast container e plan))
anew_of Text portions e plan within h = inl (record { text = refl; within = within; is = let is : Ok plan ≡ Ok (Relocated (New (packet_of e (least_of e + padding)) ∷ [])) = h in cc })
anew_of (Segments regions) portions e plan within h = elim (among_of regions portions e plan h) [ inl x ↦ inr (inl x) | inr x ↦ inr (inr (inl x)) ]
anew_of (Directories size tiff) portions e plan within h = inr (inr (inr (last_of size tiff e plan within h)))

-- how a changed tree comes to a plan
moved_cases : (over fit patch : Bool) (f g : Fault) (inside : Plan) (container : Container) (portions : List FileSpan) (e : Edited) (plan : Plan)
    → OrRelocation (if over then Some (Err f) else (if fit then Some (Ok inside) else (if patch then Some (Err g) else None))) container portions e (Ok plan)
    → ((fit ≡ true) × (plan ≡ inside)) ⊎ ((over ≡ false) × IsRelocation container portions e (Ok plan))
moved_cases true fit patch f g inside container portions e plan h = absurd (let bad : Ok plan ≡ Err f = h in cc)
moved_cases false true patch f g inside container portions e plan h = inl (refl, let is : Ok plan ≡ Ok inside = h in cc)
moved_cases false false true f g inside container portions e plan h = absurd (let bad : Ok plan ≡ Err g = h in cc)
moved_cases false false false f g inside container portions e plan h = inr (refl, h)

edited_cases : (payload : Option Piece) (container : Container) (portions : List FileSpan) (joined patch : Bool) (e : Edited) (plan : Plan) → IsEdited payload container portions joined patch e (Ok plan) → Becomes payload container portions e plan
edited_cases payload container portions joined patch e plan (inl h) = inl (h.0, stays_as container e.digest plan (let is : Ok plan ≡ Ok (stays container e.digest) = h.1 in cc))
edited_cases payload container portions joined patch e plan (inr h) =
    inr (
      h.0,
      by_case (moved_cases (nat_lt packet_limit (least_of e + padding)) (fits payload joined (least_of e)) patch (over_packet (told (least_of e + padding)))
          (needs_relocation (told (least_of e)) (room_of payload)) (InPlace (exchanged payload e ++ digest_pieces container e.digest)) container portions e plan h.1),
    )
  where
    by_case : ((fits payload joined (least_of e) ≡ true) × (plan ≡ InPlace (exchanged payload e ++ digest_pieces container e.digest)))
        ⊎ ((nat_lt packet_limit (least_of e + padding) ≡ false) × IsRelocation container portions e (Ok plan)) → IsExchange payload e plan ⊎ (IsAnew container e plan ⊎ (IsAmong container portions e plan ⊎ (IsBoth container portions e plan ⊎ IsLast container e plan)))
    by_case (inl c) = inl (exchange_of payload container joined e plan c.0 c.1)
    by_case (inr c) = inr (anew_of container portions e plan (ltb-false packet_limit (least_of e + padding) c.0) c.1)

-- what becomes of a file that has a plan
pub planned_cases : (kept : Kept) (joined patch : Bool) (e : Edited) (plan : Plan) → IsPlanned kept joined patch e (Ok plan) → Becomes kept.payload kept.container kept.portions e plan
planned_cases kept joined patch e plan h = edited_cases kept.payload kept.container kept.portions joined patch e plan h
