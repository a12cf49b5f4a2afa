-- The packet of a TIFF or BigTIFF file: where it stands, and what is kept of the file when it is exchanged for another one of its length.
use Rattle.std.proofs.Common.{◌≡◌, ◌⊎◌, ◌∙◌, ℕ, ◌+◌, ◌-◌, ◌*◌, ◌<◌, ◌≤◌, Bool, true, false, List, [], ◌∷◌, ◌++◌, length, take, drop, append_assoc, refl, sym, ap, subst, arith, inl, inr, Ok, Some, None, if◌then◌else◌}
use Rattle.std.specs.declared.option.Option.{Option}
use Rattle.std.specs.Option.{option_map}
use Rattle.std.specs.Prelude.{◌&&◌, All, Contains}
use Rattle.std.proofs.lemmas.Bool.{cases_lt}
use Rattle.std.proofs.lemmas.List.{take-append-le, take-take, length-take}
use Rattle.std.proofs.lemmas.List.Elements.{All-contains}
use Rattle.xmp_base.specs.Device.{put_at}
use Rattle.xmp_base.specs.declared.file_span.FileSpan.{FileSpan}
use Rattle.xmp_base.proofs.Ranges.{put_length, range_put}
use Rattle.xmp_values.specs.declared.hints.Hint.{Hint}
use Rattle.xmp_tree.specs.Parts.{Parts}
use Rattle.round_trip.specs.Law.{PacketMeans}
use Rattle.tiff_dirs.specs.declared.layout.Layout.{Layout}
use Rattle.tiff_dirs.specs.declared.entry.Entry.{Entry}
use Rattle.tiff_dirs.specs.Layouts.{layout_of, Widths}
use Rattle.tiff_dirs.specs.Types.{is_packet}
use Rattle.tiff_dirs.specs.Directories.{is_apart, span}
use Rattle.tiff_dirs.specs.Tiff.{Dir, Tiff, first_entry}
use Rattle.tiff_dirs.specs.Model.{IsTiff}
use Rattle.tiff_dirs.specs.Overlaps.{Meets, own, own_of, others, others_in}
use Rattle.tiff_dirs.specs.Standing.{Stands as EntryStands}
use Rattle.tiff_dirs.proofs.Framed.{layout_widths}
use Rattle.tiff_dirs.proofs.Standing.{entry_stands}
use Rattle.tiff_dirs.proofs.InPlace.{packet_in_place}
use Rattle.xmp_files.specs.declared.held.Need.{Need}
use Rattle.xmp_files.specs.declared.held.Need.TheVariants.{Packet}
use Rattle.xmp_files.specs.Faults.{file_limit, packet_limit}
use Rattle.xmp_files.specs.Keeping.{Piece, Kept, image}
use Rattle.xmp_files.specs.Photographs.{piece_at}
use Rattle.xmp_files.specs.Images.{tiff_packet, IsImage}
use Rattle.xmp_files.specs.Loading.{IsLoaded}
use Rattle.xmp_files.specs.Opening.{HoldsTree}
use Rattle.xmp_files.proofs.WalkedImages.{IsImageKind, length_piece}
use Rattle.xmp_files.proofs.HeldImages.{image_kind_same, image_loaded, image_read}

-- an entry that is there
entry_in : (old : List ℕ) (found : Option Entry) (payload : Piece) → option_map (λ (x : Entry). piece_at old x.value) found ≡ Some payload
    → (e : Entry) × (found ≡ Some e) × (piece_at old e.value ≡ payload)
entry_in old None payload h = absurd (cc h)
entry_in old (Some e) payload h = (e, refl, cc h)

own_by : (packet apart : Bool) (v : FileSpan) → packet ≡ true → apart ≡ true → (if packet && apart then Some v else None) ≡ Some v
own_by true true v p a = refl
own_by false apart v p a = absurd (cc p)
own_by true false v p a = absurd (cc a)

header_named : (l : Layout) (dirs : List Dir) (pictures : List FileSpan) → Contains (others_in l 700 dirs pictures) (span 0 l.header)
header_named l [] pictures = (0, omega arith, refl)
header_named l (d ∷ ds) pictures = (0, omega arith, refl)

module _ (need : Need) (old : List ℕ) (kept : Kept) (x : IsImage need old kept) (payload : Piece) (there : kept.payload ≡ Some payload) where
  found : (e : Entry) × (first_entry 700 x.tiff.dirs ≡ Some e) × (piece_at old e.value ≡ payload)
  found = entry_in old (first_entry 700 x.tiff.dirs) payload (sym (ap (λ (k : Kept). k.payload) x.is) ∙ there)

  abbrev e : Entry
  e = found.0

  stands : EntryStands x.tiff.layout old 700 e
  stands = entry_stands old x.tiff x.walked.found 700 e found.1

  at_is : payload.at ≡ e.value.start
  at_is = sym (ap (λ (q : Piece). q.at) found.2)

  size_is : length payload.bytes ≡ e.value.end - e.value.start
  size_is = sym (ap (λ (q : Piece). length q.bytes) found.2) ∙ length_piece old e.value stands.order stands.within

  pub image_within : payload.at + length payload.bytes ≤ length old
  image_within = let order = stands.order in let within = stands.within in omega (arith, at_is, size_is, order, within)

  pub image_there : take (length payload.bytes) (drop payload.at old) ≡ payload.bytes
  image_there =
      subst (λ (q : Piece). take (length q.bytes) (drop q.at old) ≡ q.bytes) found.2
      (ap (λ (n : ℕ). take n (drop e.value.start old)) (length_piece old e.value stands.order stands.within))

  module _ (kind : IsImageKind old) (now : List ℕ) (as_long : length now ≡ length payload.bytes) (long : 8 < length now) where
    abbrev file : List ℕ
    file = put_at old payload.at now

    layout_is : x.tiff.layout ≡ layout_of old
    layout_is = ap (λ (t : Tiff). t.layout) x.walked.found.is

    widths : Widths x.tiff.layout
    widths = subst Widths (sym layout_is) (layout_widths old)

    -- a packet as long as that stands apart from its entry
    apart_by : (b : Bool) → is_apart x.tiff.layout e ≡ b → b ≡ true
    apart_by true is = refl
    apart_by false is =
        let short = stands.short is in
        let most = widths.most_word in
        absurd (omega (arith, short, most, size_is, as_long, long))

    far : is_apart x.tiff.layout e ≡ true
    far = apart_by (is_apart x.tiff.layout e) refl

    walked_now : IsTiff file x.tiff
    walked_now =
        let order = stands.order in
        subst (λ (n : ℕ). IsTiff (put_at old n now) x.tiff) (sym at_is) (packet_in_place old x.tiff e now x.walked found.1 far (as_long ∙ size_is))

    -- and behind the header
    behind : 8 ≤ payload.at
    behind =
        let named : own 700 x.tiff ≡ Some e.value = ap (own_of x.tiff.layout) found.1 ∙ own_by (is_packet e.code) (is_apart x.tiff.layout e) e.value (stands.typed refl) far in
        let clear : All (λ r. Meets e.value r → ⊥) (others 700 x.tiff) = x.walked.clear.0.clear e.value named in
        let apart = All-contains (λ r. Meets e.value r → ⊥) (others 700 x.tiff) (span 0 x.tiff.layout.header) clear (header_named x.tiff.layout x.tiff.dirs x.tiff.pictures) in
        let header = widths.header in
        let word = widths.least_word in
        by_order (cases_lt e.value.start x.tiff.layout.header) apart header word
      where
        by_order : (e.value.start < x.tiff.layout.header) ⊎ (x.tiff.layout.header ≤ e.value.start) → (Meets e.value (span 0 x.tiff.layout.header) → ⊥) → x.tiff.layout.header ≡ 2 * x.tiff.layout.word → 4 ≤ x.tiff.layout.word → 8 ≤ payload.at
        by_order (inr h) apart header word = omega (arith, h, at_is, header, word)
        by_order (inl h) apart header word = absurd (apart (h, omega (arith, size_is, as_long, long)))

    pub image_size : length file ≡ length old
    image_size = put_length payload.at (length now) old now (omega (arith, image_within, as_long)) refl

    front : take x.tiff.layout.word file ≡ take x.tiff.layout.word old
    front =
        ap (take x.tiff.layout.word) (append_assoc (take payload.at old) now (drop (payload.at + length now) old))
        ∙ take-append-le x.tiff.layout.word (take payload.at old) (now ++ drop (payload.at + length now) old) (let most = widths.most_word in omega (arith, length-take payload.at old, behind, image_within, most))
        ∙ take-take x.tiff.layout.word payload.at old (let most = widths.most_word in omega (arith, behind, most))

    pub kind_now : IsImageKind file
    kind_now =
        image_kind_same old file (subst (λ (l : Layout). 4 ≤ l.word) layout_is widths.least_word) (subst (λ (l : Layout). take l.word file ≡ take l.word old) layout_is front)
        (omega (arith, behind, image_within)) (omega (arith, behind, image_within, image_size)) kind

    new_piece : piece_at file e.value ≡ record { at = payload.at; bytes = now }
    new_piece =
        let bytes : take (e.value.end - e.value.start) (drop e.value.start file) ≡ now =
        ap (λ (n : ℕ). take n (drop e.value.start file)) (sym (as_long ∙ size_is)) ∙ ap (λ (n : ℕ). take (length now) (drop n file)) (sym at_is)
        ∙ range_put payload.at (length now) old (omega (arith, image_within, as_long)) now refl in
        λ i. record { at = sym at_is i; bytes = bytes i }

    new_packet : tiff_packet file x.tiff ≡ Some (record { at = payload.at; bytes = now })
    new_packet = ap (option_map (λ (y : Entry). piece_at file y.value)) found.1 ∙ ap (λ (q : Piece). Some q) new_piece

    -- what is kept of it
    abbrev pub exchanged_image : Kept
    exchanged_image = image Packet (length file) x.tiff (Some (record { at = payload.at; bytes = now }))

    pub exchanged_loaded : length old ≤ file_limit → length now ≤ packet_limit → IsLoaded Packet (Some file) (Ok exchanged_image)
    exchanged_loaded small short = image_loaded file x.tiff walked_now kind_now (record { at = payload.at; bytes = now }) new_packet (omega (arith, image_size, small)) short

    -- and read as its tree
    pub image_holds : (declared : List Hint) (t : Parts) → length old ≤ file_limit → length now ≤ packet_limit → PacketMeans now declared t None → HoldsTree (Some file) t
    image_holds declared t small short h = image_read file x.tiff walked_now kind_now (record { at = payload.at; bytes = now }) new_packet declared t (omega (arith, image_size, small)) short h
