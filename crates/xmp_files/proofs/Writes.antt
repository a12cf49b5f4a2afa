-- Whatever the plan, the new file holds the new tree.
use Rattle.std.proofs.Common.{◌≡◌, ◌⊎◌, ℕ, ◌+◌, ◌<◌, ◌≤◌, true, List, [], ◌∷◌, ◌++◌, length, Some, None, Ok, refl, inl, inr, arith, sym, ap, subst, ◌∙◌, length-append}
use Rattle.std.proofs.lemmas.List.{append-nil}
use Rattle.xmp_base.specs.Device.{put_at}
use Rattle.xmp_base.specs.declared.file_span.FileSpan.{FileSpan}
use Rattle.xmp_write.specs.Prefixes.{prefixes}
use Rattle.xmp_write.specs.Splits.{rest_form}
use Rattle.round_trip.specs.Law.{MayWrite, SplitMeans, text_hints}
use Rattle.round_trip.proofs.Meanings.{packet_reads_back, split_reads_back}
use Rattle.xmp_files.specs.declared.held.Need.{Need}
use Rattle.xmp_files.specs.Faults.{file_limit, packet_limit}
use Rattle.xmp_files.specs.Keeping.{Piece, Container, Text, Segments, Directories, Kept}
use Rattle.xmp_files.specs.Loading.{IsLoaded}
use Rattle.xmp_files.specs.Opening.{HoldsTree}
use Rattle.jpeg_regions.specs.Jpeg.{Region, Jpeg as IsJpeg}
use Rattle.jpeg_extended.specs.Written.{name_text}
use Rattle.jpeg_relocation.specs.NewSegments.{main_limit}
use Rattle.jpeg_relocation.specs.Laws.{NoStray as HasNoStray, new_file}
use Rattle.tiff_dirs.specs.Model.{IsTiff}
use Rattle.tiff_relocation.specs.Relocation.{packet_place, relocated, tells}
use Rattle.tiff_relocation.specs.Apart.{IsApart}
use Rattle.tiff_relocation.specs.Moves.{Lies, relocation_of}
use Rattle.xmp_files.specs.Planning.{Edited, Plan, Same, InPlace, Relocated, Agree, Frame, KeepsPictures, parts_bytes, parts_len, planned_file}
use Rattle.xmp_files.specs.Plans.{packet_of, least_of, padding, whole_form, segment_padded, segments_text, parts_around, rest_text, named_front, front_least, front_packet, appended_parts, planned_len, MayPlan, Apart, IsApartIn, NoStray}
use Rattle.xmp_files.specs.Written.{FileIsWritten}
use Rattle.xmp_files.proofs.Agreeing.{put_agrees}
use Rattle.xmp_files.proofs.ExchangedPackets.{Stands, loaded_stands, same_piece, whole_piece}
use Rattle.xmp_files.proofs.LoadedKept.{IsSidecarOf, IsPhotographOf, IsImageOf, LoadedAs, loaded_as, loaded_small}
use Rattle.xmp_files.proofs.OpenPackets.{writable_some, writable_long}
use Rattle.xmp_files.proofs.PacketLengths.{length-packet, over_all}
use Rattle.xmp_files.proofs.PlanCases.{IsExchange, IsAnew, IsAmong, IsBoth, IsLast, Becomes, planned_cases}
use Rattle.xmp_files.proofs.DividedTexts.{front_may, rest_may, front_limited, rest_some}
use Rattle.xmp_files.proofs.RelocatedPhotographs.{around_bytes, around_len, relocated_holds, both_hold, keeps_regions}
use Rattle.xmp_files.proofs.ExchangedImages.{image_holds}
use Rattle.xmp_files.proofs.AppendedImages.{appended_bytes, appended_len}
use Rattle.xmp_files.proofs.WrittenImages.{lies, new_holds, new_keeps}
use Rattle.xmp_files.proofs.WrittenPhotographs.{photograph_holds}
use Rattle.xmp_files.proofs.WrittenSidecars.{sidecar_reads_back}

-- what a new file is
abbrev Good : Kept → List ℕ → Edited → Plan → Type 0
Good kept old e plan = HoldsTree (Some (planned_file old plan)) e.new × Frame kept plan old (planned_file old plan) × (length (planned_file old plan) ≡ planned_len (length old) plan)

-- where no portion strays
abbrev GoodUnstrayed : Kept → List ℕ → Edited → Plan → Type 0
GoodUnstrayed kept old e plan =
    (Apart kept.container plan → NoStray old kept.container kept.portions e plan → HoldsTree (Some (planned_file old plan)) e.new)
    × Frame kept plan old (planned_file old plan) × (length (planned_file old plan) ≡ planned_len (length old) plan)

always : (kept : Kept) (old : List ℕ) (e : Edited) (plan : Plan) → Good kept old e plan → GoodUnstrayed kept old e plan
always kept old e plan good = (λ apart stray. good.0, good.1, good.2)

same_bytes : (old : List ℕ) (pieces : List Piece) → Agree old old pieces
same_bytes old pieces = record { size = refl; outside = λ place out. refl }

stays_good : (kept : Kept) (old : List ℕ) (e : Edited) (plan : Plan) → (plan ≡ Same) ⊎ (plan ≡ InPlace []) → HoldsTree (Some old) e.new → Good kept old e plan
stays_good kept old e plan (inl is) holds = subst (Good kept old e) (sym is) (holds, refl, refl)
stays_good kept old e plan (inr is) holds = subst (Good kept old e) (sym is) (holds, same_bytes old [], refl)

-- a packet with padding is a whole new sidecar
anew_frame : (container : Container) (portions : List FileSpan) (old new : List ℕ) → container ≡ Text → KeepsPictures container portions old new
anew_frame Text portions old new is = tt
anew_frame (Segments regions) portions old new is = absurd (cc is)
anew_frame (Directories size tiff) portions old new is = absurd (cc is)

anew_good : (kept : Kept) (old : List ℕ) (e : Edited) (plan : Plan) → MayWrite e.new e.hints (whole_form e.new) → IsAnew kept.container e plan → Good kept old e plan
anew_good kept old e plan may x =
    let size = length-packet (prefixes e.new e.hints (whole_form e.new)) e.new (whole_form e.new) (least_of e + padding) (omega arith) in
    subst (Good kept old e) (sym x.is) (
      subst (λ (file : List ℕ). HoldsTree (Some file) e.new) (sym (append-nil (packet_of e (least_of e + padding)))) (sidecar_reads_back e.new e.hints (least_of e + padding) may (omega (arith, size, x.within))),
      anew_frame kept.container kept.portions old (packet_of e (least_of e + padding) ++ []) x.text,
      omega (arith, length-append (packet_of e (least_of e + padding)) []),
    )

-- The packet is exchanged.
module _ (need : Need) (old : List ℕ) (kept : Kept) (e : Edited) (plan : Plan) (loaded : IsLoaded need (Some old) (Ok kept)) (may : MayWrite e.new e.hints (whole_form e.new))
    (x : IsExchange kept.payload e plan) where
  abbrev payload : Piece
  payload = x.old

  abbrev new : List ℕ
  new = packet_of e (length payload.bytes)

  stands : Stands old payload
  stands = loaded_stands need old kept payload loaded x.there

  some : 0 < length new
  some = let full = writable_some payload.bytes x.writable in omega (arith, x.as_long, full)

  short : length new ≤ packet_limit
  short = omega (arith, stands.short, x.as_long)

  -- of a sidecar it is the whole file
  sidecar_holds : IsSidecarOf need old kept → HoldsTree (Some (put_at old payload.at new)) e.new
  sidecar_holds s =
      let is : whole_piece old ≡ payload = same_piece (whole_piece old) payload (sym (ap (λ (k : Kept). k.payload) s.is) ∙ x.there) in
      let whole : put_at old payload.at new ≡ new = subst (λ (q : Piece). length new ≡ length q.bytes → put_at old q.at new ≡ new) is (λ same. over_all old new same) x.as_long in
      subst (λ (file : List ℕ). HoldsTree (Some file) e.new) (sym whole) (sidecar_reads_back e.new e.hints (length payload.bytes) may short)

  holds_by : LoadedAs need old kept → HoldsTree (Some (put_at old payload.at new)) e.new
  holds_by (inl s) = sidecar_holds s
  holds_by (inr (inr i)) =
      image_holds need old kept i.is payload x.there i.kind new x.as_long (let full = writable_long payload.bytes x.writable in omega (arith, x.as_long, full))
      (text_hints e.new e.hints (whole_form e.new)) e.new (loaded_small need old kept loaded) short (packet_reads_back e.new e.hints (length payload.bytes) may)
  holds_by (inr (inl p)) =
      photograph_holds need old kept p.is payload x.there new x.as_long some (loaded_small need old kept loaded) short
      (text_hints e.new e.hints (whole_form e.new)) e.new (packet_reads_back e.new e.hints (length payload.bytes) may)

  exchange_good : Good kept old e plan
  exchange_good =
      let agrees : Agree old (put_at old payload.at new) (record { at = payload.at; bytes = new } ∷ []) =
      put_agrees old payload.at new (omega (arith, stands.within, x.as_long)) (record { at = payload.at; bytes = new }) refl refl in
      subst (Good kept old e) (sym x.is) (holds_by (loaded_as need old kept loaded), agrees, agrees.size)

-- A JPEG file is relocated.
module _ (need : Need) (old : List ℕ) (kept : Kept) (e : Edited) (plan : Plan) (loaded : IsLoaded need (Some old) (Ok kept)) (may : MayWrite e.new e.hints (whole_form e.new))
    (x : IsAmong kept.container kept.portions e plan) where
  abbrev among_packet : List ℕ
  among_packet = packet_of e (segment_padded (least_of e))

  limited : length among_packet ≤ main_limit
  limited = let size = length-packet (prefixes e.new e.hints (whole_form e.new)) e.new (whole_form e.new) (segment_padded (least_of e)) (omega (arith, x.fits)) in omega (arith, size)

  among_good : IsPhotographOf need old kept → Good kept old e plan
  among_good p =
      let same : x.regions ≡ p.is.regions = (let h : Segments x.regions ≡ Segments p.is.regions = sym x.segments ∙ ap (λ (k : Kept). k.container) p.is.is in cc) in
      let jpeg : IsJpeg old x.regions = subst (IsJpeg old) (sym same) p.is.jpeg in
      let is : parts_bytes old (parts_around x.regions kept.portions (segments_text among_packet None)) ≡ new_file old kept.portions x.regions among_packet None =
      around_bytes old kept.portions x.regions among_packet None jpeg.cuts in
      let size : length (new_file old kept.portions x.regions among_packet None) ≡ parts_len (parts_around x.regions kept.portions (segments_text among_packet None)) =
      ap length (sym is) ∙ around_len old kept.portions x.regions among_packet None jpeg.cuts in
      let holds : HoldsTree (Some (new_file old kept.portions x.regions among_packet None)) e.new =
      relocated_holds old x.regions kept.portions jpeg among_packet limited (omega (arith, size, x.within)) (text_hints e.new e.hints (whole_form e.new)) e.new
      (packet_reads_back e.new e.hints (segment_padded (least_of e)) may) in
      subst (Good kept old e) (sym x.is)
      (subst (λ (file : List ℕ). HoldsTree (Some file) e.new × KeepsPictures kept.container kept.portions old file
      × (length file ≡ parts_len (parts_around x.regions kept.portions (segments_text among_packet None)))) (sym is) (
        holds,
        subst (λ (c : Container). KeepsPictures c kept.portions old (new_file old kept.portions x.regions among_packet None)) (sym x.segments)
            (keeps_regions old x.regions kept.portions jpeg among_packet None limited tt),
        size,
      ))

  among_by : LoadedAs need old kept → Good kept old e plan
  among_by (inl s) = absurd (let bad : Segments x.regions ≡ Text = sym x.segments ∙ ap (λ (k : Kept). k.container) s.is in cc bad)
  among_by (inr (inl p)) = among_good p
  among_by (inr (inr i)) = absurd (let bad : Segments x.regions ≡ Directories (length old) i.is.tiff = sym x.segments ∙ ap (λ (k : Kept). k.container) i.is.is in cc bad)

-- A JPEG file is relocated with the tree in two texts.
module _ (need : Need) (old : List ℕ) (kept : Kept) (e : Edited) (plan : Plan) (loaded : IsLoaded need (Some old) (Ok kept)) (may : MayPlan e.new e.hints)
    (x : IsBoth kept.container kept.portions e plan) where
  abbrev front : List ℕ
  front = front_packet e.new e.hints x.count

  abbrev rest : List ℕ
  rest = rest_text e.new e.hints x.count

  abbrev name : List ℕ
  name = name_text rest

  front_short : length front ≤ main_limit
  front_short = front_limited e.new e.hints x.count x.split

  means : SplitMeans e.new e.hints (named_front e.new e.hints x.count) (rest_form e.new x.count) (segment_padded (front_least e.new e.hints x.count)) name
  means = split_reads_back e.new e.hints x.count name (segment_padded (front_least e.new e.hints x.count)) (front_may e.new e.hints may x.count x.split) (rest_may e.new e.hints may x.count x.split x.short)

  stray_in : (container : Container) → container ≡ Segments x.regions → NoStray old container kept.portions e (Relocated (parts_around x.regions kept.portions (segments_text front (Some rest))))
      → HasNoStray old kept.portions x.regions name
  stray_in Text is stray = absurd (cc is)
  stray_in (Directories size tiff) is stray = absurd (cc is)
  stray_in (Segments regions) is stray =
      let same : regions ≡ x.regions = (let h : Segments regions ≡ Segments x.regions = is in cc) in
      subst (λ (rs : List Region). HasNoStray old kept.portions rs name) same (stray x.count x.long x.split)

  module _ (p : IsPhotographOf need old kept) where
    jpeg_both : IsJpeg old x.regions
    jpeg_both =
        let same : x.regions ≡ p.is.regions = (let h : Segments x.regions ≡ Segments p.is.regions = sym x.segments ∙ ap (λ (k : Kept). k.container) p.is.is in cc) in
        subst (IsJpeg old) (sym same) p.is.jpeg

    abbrev new_both : List ℕ
    new_both = new_file old kept.portions x.regions front (Some rest)

    bytes_both : parts_bytes old (parts_around x.regions kept.portions (segments_text front (Some rest))) ≡ new_both
    bytes_both = around_bytes old kept.portions x.regions front (Some rest) jpeg_both.cuts

    small_both : length new_both ≤ file_limit
    small_both =
        let size : length new_both ≡ parts_len (parts_around x.regions kept.portions (segments_text front (Some rest))) =
        ap length (sym bytes_both) ∙ around_len old kept.portions x.regions front (Some rest) jpeg_both.cuts in omega (arith, size, x.within)

    both_holds : HasNoStray old kept.portions x.regions name → HoldsTree (Some new_both) e.new
    both_holds none =
        both_hold old x.regions kept.portions jpeg_both front rest front_short (rest_some e.new e.hints x.count) x.short none small_both
        (text_hints e.new e.hints (named_front e.new e.hints x.count)) (text_hints e.new e.hints (rest_form e.new x.count)) means.main means.more e.new means.packet_means means.text_means means.merged_is

    both_good : GoodUnstrayed kept old e plan
    both_good =
        subst (GoodUnstrayed kept old e) (sym x.is) (
          λ apart stray. subst (λ (file : List ℕ). HoldsTree (Some file) e.new) (sym bytes_both) (both_holds (stray_in kept.container x.segments stray)),
          subst (λ (file : List ℕ). KeepsPictures kept.container kept.portions old file) (sym bytes_both)
              (subst (λ (c : Container). KeepsPictures c kept.portions old new_both) (sym x.segments) (keeps_regions old x.regions kept.portions jpeg_both front (Some rest) front_short x.short)),
          around_len old kept.portions x.regions front (Some rest) jpeg_both.cuts,
        )

  both_by : LoadedAs need old kept → GoodUnstrayed kept old e plan
  both_by (inl s) = absurd (let bad : Segments x.regions ≡ Text = sym x.segments ∙ ap (λ (k : Kept). k.container) s.is in cc bad)
  both_by (inr (inl p)) = both_good p
  both_by (inr (inr i)) = absurd (let bad : Segments x.regions ≡ Directories (length old) i.is.tiff = sym x.segments ∙ ap (λ (k : Kept). k.container) i.is.is in cc bad)

-- A TIFF file is relocated.
module _ (need : Need) (old : List ℕ) (kept : Kept) (e : Edited) (plan : Plan) (loaded : IsLoaded need (Some old) (Ok kept)) (may : MayWrite e.new e.hints (whole_form e.new))
    (x : IsLast kept.container e plan) where
  abbrev last : List ℕ
  last = packet_of e (least_of e + padding)

  last_len : length last ≡ least_of e + padding
  last_len = length-packet (prefixes e.new e.hints (whole_form e.new)) e.new (whole_form e.new) (least_of e + padding) (omega arith)

  module _ (i : IsImageOf need old kept) where
    same_container : Directories x.size x.tiff ≡ Directories (length old) i.is.tiff
    same_container = sym x.images ∙ ap (λ (k : Kept). k.container) i.is.is

    walked : IsTiff old x.tiff
    walked = let same : x.tiff ≡ i.is.tiff = cc same_container in subst (IsTiff old) (sym same) i.is.walked

    size_is : x.size ≡ length old
    size_is = cc same_container

    small : length old ≤ file_limit
    small = loaded_small need old kept loaded

    placed_lies : Lies (relocation_of (length old) x.tiff)
    placed_lies = lies old x.tiff walked small last

    abbrev new_last : List ℕ
    new_last = relocated old x.tiff last

    bytes_last : parts_bytes old (appended_parts x.size x.tiff last) ≡ new_last
    bytes_last = ap (λ (n : ℕ). parts_bytes old (appended_parts n x.tiff last)) size_is ∙ appended_bytes old x.tiff last placed_lies

    len_last : length new_last ≡ parts_len (appended_parts x.size x.tiff last)
    len_last = appended_len old x.tiff last placed_lies ∙ ap (λ (n : ℕ). parts_len (appended_parts n x.tiff last)) (sym size_is)

    fits_last : tells x.tiff.layout (packet_place (length old) x.tiff + length last) ≡ true
    fits_last = ap (λ (n : ℕ). tells x.tiff.layout (packet_place n x.tiff + length last)) (sym size_is) ∙ x.tells

    apart_in : (container : Container) → container ≡ Directories x.size x.tiff → IsApartIn container → IsApart x.tiff
    apart_in Text is apart = absurd (cc is)
    apart_in (Segments regions) is apart = absurd (cc is)
    apart_in (Directories size tiff) is apart = let same : tiff ≡ x.tiff = (let h : Directories size tiff ≡ Directories x.size x.tiff = is in cc) in subst IsApart same apart

    last_good : GoodUnstrayed kept old e plan
    last_good =
        let long : 8 < length last = omega (arith, last_len) in
        let short : length last ≤ packet_limit = omega (arith, last_len, x.small) in
        let within : length new_last ≤ file_limit = omega (arith, len_last, x.within) in
        subst (GoodUnstrayed kept old e) (sym x.is) (
          λ apart stray. subst (λ (file : List ℕ). HoldsTree (Some file) e.new) (sym bytes_last)
              (new_holds old x.tiff walked small last long short within x.room fits_last i.kind (apart_in kept.container x.images apart) (text_hints e.new e.hints (whole_form e.new)) e.new
              (packet_reads_back e.new e.hints (least_of e + padding) may)),
          subst (λ (file : List ℕ). KeepsPictures kept.container kept.portions old file) (sym bytes_last)
              (subst (λ (c : Container). KeepsPictures c kept.portions old new_last) (sym x.images) (new_keeps old x.tiff walked small last long short within x.room fits_last)),
          ap length bytes_last ∙ len_last,
        )

  last_by : LoadedAs need old kept → GoodUnstrayed kept old e plan
  last_by (inl s) = absurd (let bad : Directories x.size x.tiff ≡ Text = sym x.images ∙ ap (λ (k : Kept). k.container) s.is in cc bad)
  last_by (inr (inl p)) = absurd (let bad : Directories x.size x.tiff ≡ Segments p.is.regions = sym x.images ∙ ap (λ (k : Kept). k.container) p.is.is in cc bad)
  last_by (inr (inr i)) = last_good i

pub file_written : FileIsWritten
file_written need old kept joined patch e plan loaded planned holds may = by_case (planned_cases kept joined patch e plan planned)
  where
    by_case : Becomes kept.payload kept.container kept.portions e plan → GoodUnstrayed kept old e plan
    by_case (inl h) = always kept old e plan (stays_good kept old e plan h.1 (subst (HoldsTree (Some old)) (sym h.0) holds))
    by_case (inr (differs, inl x)) = always kept old e plan (exchange_good need old kept e plan loaded (may differs).whole x)
    by_case (inr (differs, inr (inl x))) = always kept old e plan (anew_good kept old e plan (may differs).whole x)
    by_case (inr (differs, inr (inr (inl x)))) = always kept old e plan (among_by need old kept e plan loaded (may differs).whole x (loaded_as need old kept loaded))
    by_case (inr (differs, inr (inr (inr (inr x))))) = last_by need old kept e plan loaded (may differs).whole x (loaded_as need old kept loaded)
    by_case (inr (differs, inr (inr (inr (inl x))))) = both_by need old kept e plan loaded (may differs) x (loaded_as need old kept loaded)
