-- The laws of a new packet, and of an extended text that may stand beside it.
use Rattle.std.proofs.Common.{◌≡◌, ℕ, ◌+◌, ◌≤◌, true, false, cond, List, [], ◌∷◌, length, map, Option, Some, None, refl, sym, ap, ◌∙◌, subst, arith}
use Rattle.std.specs.Prelude.{flat_map, sum_by}
use Rattle.std.specs.List.{AllByRecursion, list_any}
use Rattle.xmp_base.specs.declared.file_span.FileSpan.{FileSpan}
use Rattle.jpeg_regions.specs.Jpeg.{Segment, Region, Cuts, Jpeg, IsInner, text, placed, mains, is_main, is_extension, portion_payloads}
use Rattle.jpeg_extended.specs.Tiling.{limit}
use Rattle.jpeg_extended.specs.Written.{name_text, portions_of}
use Rattle.jpeg_extended.specs.FromDesk.{payload_at, named_at, portions_at}
use Rattle.jpeg_relocation.specs.Relocation.{part_of, kept, before, relocated_file}
use Rattle.jpeg_relocation.specs.Pictures.{is_index, size_of, pictures_len}
use Rattle.jpeg_relocation.specs.NewSegments.{main_limit, main_payload_text, main_segment, portion_segments, new_segments, relocated_list}
use Rattle.jpeg_relocation.specs.Laws.{IsText, new_file, new_list, new_place, new_portions, NoStray, NewFileIsCut, MainIsPacket, KeptIsSame, PortionsAreNew, NewLengths}
use Rattle.jpeg_relocation.proofs.Located.{Spot, there, located, placed_is, all_weaken, all_located, kind_in}
use Rattle.jpeg_relocation.proofs.NewRegions.{bears, named_all}
use Rattle.jpeg_relocation.proofs.NewKinds.{IsNew, main_inner, text_new, text_read}
use Rattle.jpeg_relocation.proofs.NewFiles.{new_cuts}
use Rattle.jpeg_relocation.proofs.NewLengths.{new_len, new_pictures, no_index_all}
use Rattle.jpeg_relocation.proofs.NewLaws.{at, new_spots, other_spots, place_is, mains_are, main_payload, same_bytes, named_new, found_now, they_say}

-- the portions' segments
abbrev pub others : Option (List ℕ) → List Segment
others None = []
others (Some extended) = portion_segments extended

abbrev pub Plain : Segment → Type 0
Plain s = (is_main (kind_in s) ≡ false) × (is_extension (kind_in s) ≡ true)

pub segments_are : (packet : List ℕ) (extended : Option (List ℕ)) → new_segments packet extended ≡ main_segment packet ∷ others extended
segments_are packet None = refl
segments_are packet (Some extended) = refl

others_inner : (extended : Option (List ℕ)) → IsText extended → AllByRecursion IsInner (others extended)
others_inner None h = tt
others_inner (Some extended) h = all_weaken (IsNew (name_text extended)) IsInner (λ s n. n.0) (portion_segments extended) (text_new extended h)

pub others_plain : (extended : Option (List ℕ)) → IsText extended → AllByRecursion Plain (others extended)
others_plain None h = tt
others_plain (Some extended) h = all_weaken (IsNew (name_text extended)) Plain (λ s n. (n.1, n.2)) (portion_segments extended) (text_new extended h)

pub all_inner : (packet : List ℕ) (extended : Option (List ℕ)) → length packet ≤ main_limit → IsText extended → AllByRecursion IsInner (main_segment packet ∷ others extended)
all_inner packet extended small h = (main_inner packet small, others_inner extended h)

module _ (file : List ℕ) (joined : List FileSpan) (regions : List Region) (cuts : Cuts file regions) (packet : List ℕ) (extended : Option (List ℕ)) (small : length packet ≤ main_limit)
    (h : IsText extended) where
  abbrev main : Segment
  main = main_segment packet

  abbrev inner : AllByRecursion IsInner (main ∷ others extended)
  inner = all_inner packet extended small h

  abbrev plain : AllByRecursion Plain (others extended)
  plain = others_plain extended h

  abbrev file_of : List Segment → List ℕ
  file_of ss = relocated_file file joined regions (flat_map text ss)

  cut_is : Jpeg (new_file file joined regions packet extended) (new_list joined regions packet extended)
  cut_is = subst (λ ss. Jpeg (file_of ss) (relocated_list joined regions ss)) (sym (segments_are packet extended)) (record {
    cuts = new_cuts file joined regions cuts (main ∷ others extended) inner;
    one = omega (arith, ap length (mains_are file joined regions cuts main (others extended) inner refl plain));
  })

  main_is : map (λ r. payload_at (new_file file joined regions packet extended) r.payload) (mains (new_list joined regions packet extended)) ≡ main_payload_text packet ∷ []
  main_is = subst (λ ss. map (λ r. payload_at (file_of ss) r.payload) (mains (relocated_list joined regions ss)) ≡ main_payload_text packet ∷ []) (sym (segments_are packet extended))
      (main_payload file joined regions cuts main (others extended) inner refl plain)

  same_is : map (part_of (new_file file joined regions packet extended)) (kept (new_portions joined regions packet extended) (new_list joined regions packet extended))
      ≡ map (part_of file) (kept joined regions)
  same_is =
      let news = main ∷ others extended in
      subst (λ ss. map (part_of (file_of ss)) (kept (portion_payloads (placed (new_place joined regions) ss)) (relocated_list joined regions ss)) ≡ map (part_of file) (kept joined regions))
      (sym (segments_are packet extended))
      (subst (λ (n : ℕ). map (part_of (file_of news)) (kept (portion_payloads (placed n news)) (relocated_list joined regions news)) ≡ map (part_of file) (kept joined regions))
      (sym (place_is file joined regions cuts main (others extended) inner refl plain))
      (same_bytes file joined regions cuts main (others extended) inner refl plain))

  lengths_are :
      (length (new_file file joined regions packet extended) ≡ 2 + sum_by size_of (kept joined regions) + length (flat_map text (new_segments packet extended)))
      × (pictures_len (new_list joined regions packet extended)
      ≡ pictures_len (kept joined regions) + cond (list_any (λ r. is_index r.kind) (before joined regions)) (length (flat_map text (new_segments packet extended))) 0)
  lengths_are = subst (λ ss.
      (length (file_of ss) ≡ 2 + sum_by size_of (kept joined regions) + length (flat_map text ss))
      × (pictures_len (relocated_list joined regions ss)
      ≡ pictures_len (kept joined regions) + cond (list_any (λ r. is_index r.kind) (before joined regions)) (length (flat_map text ss)) 0)) (sym (segments_are packet extended)) (
        new_len file joined regions cuts (main ∷ others extended) inner,
        new_pictures file joined regions cuts (main ∷ others extended) inner (no_index_all packet (others extended) plain),
      )

pub new_file_is_cut : NewFileIsCut
new_file_is_cut file joined regions packet extended jpeg small h = cut_is file joined regions jpeg.cuts packet extended small h

pub main_is_packet : MainIsPacket
main_is_packet file joined regions packet extended jpeg small h = main_is file joined regions jpeg.cuts packet extended small h

pub kept_is_same : KeptIsSame
kept_is_same file joined regions packet extended jpeg small h = same_is file joined regions jpeg.cuts packet extended small h

pub new_lengths : NewLengths
new_lengths file joined regions packet extended cuts small h = lengths_are file joined regions cuts packet extended small h

-- the portions of the extended text

module _ (file : List ℕ) (joined : List FileSpan) (regions : List Region) (cuts : Cuts file regions) (packet text_of : List ℕ) (small : length packet ≤ main_limit) (h : length text_of ≤ limit)
    (none : NoStray file joined regions (name_text text_of)) where
  abbrev name : List ℕ
  name = name_text text_of

  abbrev theirs : List Segment
  theirs = portion_segments text_of

  abbrev their_inner : AllByRecursion IsInner (main_segment packet ∷ theirs)
  their_inner = all_inner packet (Some text_of) small h

  abbrev their_plain : AllByRecursion Plain theirs
  their_plain = others_plain (Some text_of) h

  their_name : AllByRecursion (λ s. bears name s ≡ true) theirs
  their_name = all_weaken (IsNew name) (λ s. bears name s ≡ true) (λ s n. n.3) theirs (text_new text_of h)

  abbrev spots_now : List Spot
  spots_now = other_spots file joined regions cuts (main_segment packet) theirs their_inner refl their_plain name none their_name refl

  bear_all : AllByRecursion (λ (x : Spot). bears name x.1 ≡ is_extension (kind_in x.1)) (new_spots file joined regions cuts (main_segment packet) theirs their_inner refl their_plain)
  bear_all = all_located (λ s. bears name s ≡ is_extension (kind_in s)) _ (main_segment packet ∷ theirs)
      (refl, all_weaken (IsNew name) (λ s. bears name s ≡ is_extension (kind_in s)) (λ s n. n.3 ∙ sym n.2) theirs (text_new text_of h))

  payloads_now : map (λ x. (there x).payload) spots_now ≡ new_portions joined regions packet (Some text_of)
  payloads_now =
      let here = at file joined regions cuts (main_segment packet) theirs their_inner refl their_plain in
      sym (ap (map (λ x. (there x).payload)) (named_new file joined regions cuts (main_segment packet) theirs their_inner refl their_plain name none their_name refl))
      ∙ named_all name (located here (main_segment packet ∷ theirs)) bear_all
      ∙ sym (ap portion_payloads (placed_is here (main_segment packet ∷ theirs)))
      ∙ sym (ap (λ (n : ℕ). portion_payloads (placed n (main_segment packet ∷ theirs))) (place_is file joined regions cuts (main_segment packet) theirs their_inner refl their_plain))

  found_them : named_at (new_file file joined regions packet (Some text_of)) name (portion_payloads (new_list joined regions packet (Some text_of))) ≡ new_portions joined regions packet (Some text_of)
  found_them = found_now file joined regions cuts (main_segment packet) theirs their_inner refl their_plain name none their_name refl ∙ payloads_now

  they_are : portions_at (new_file file joined regions packet (Some text_of)) name (new_portions joined regions packet (Some text_of)) ≡ portions_of text_of
  they_are =
      sym (ap (portions_at (new_file file joined regions packet (Some text_of)) name) payloads_now)
      ∙ they_say file joined regions cuts (main_segment packet) theirs their_inner refl their_plain name none their_name refl
      ∙ text_read text_of h

pub portions_are_new : PortionsAreNew
portions_are_new file joined regions packet extended jpeg small h none =
    (found_them file joined regions jpeg.cuts packet extended small h none, they_are file joined regions jpeg.cuts packet extended small h none)
