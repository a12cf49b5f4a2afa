-- A JPEG file that is relocated with the packet of a tree, or with it in two texts, is read as that tree, and keeps its regions.
use Rattle.std.proofs.Common.{◌≡◌, ◌∙◌, ℕ, ◌+◌, ◌-◌, ◌<◌, ◌≤◌, Bool, false, true, cond, List, [], ◌∷◌, ◌++◌, length, take, drop, refl, sym, ap, subst, arith, inr, Some, None, Ok, Err, length-append}
use Rattle.std.specs.Prelude.{map, flat_map, slice_get}
use Rattle.std.specs.Option.{option_map}
use Rattle.std.specs.declared.option.Option.{Option}
use Rattle.std.specs.declared.result.Result.{Result}
use Rattle.std.proofs.lemmas.Bool.{le-ltb}
use Rattle.std.proofs.lemmas.Grind.{flat_map-append}
use Rattle.std.proofs.lemmas.List.{drop-drop, drop-take, length-take, length-take-le, length-drop}
use Rattle.std.proofs.lemmas.List.Sums.{sum_by-append, sum_by-cons}
use Rattle.xmp_base.specs.declared.file_span.FileSpan.{FileSpan}
use Rattle.xmp_values.specs.declared.faults.Fault.{Fault}
use Rattle.xmp_values.specs.declared.hints.Hint.{Hint}
use Rattle.xmp_tree.specs.Parts.{Parts}
use Rattle.rdf_forms.specs.Meaning.{Meaning}
use Rattle.rdf_forms.specs.Merging.{both, merged}
use Rattle.round_trip.specs.Law.{TextMeans, PacketMeans}
use Rattle.jpeg_regions.specs.Kinds.{packet_signature}
use Rattle.jpeg_regions.specs.Jpeg.{Region, Jpeg as IsJpeg, Cuts, mains, portion_payloads, span}
use Rattle.jpeg_regions.proofs.Places.{cuts_tile}
use Rattle.jpeg_extended.specs.FromDesk.{payload_at, named_at, portions_at}
use Rattle.jpeg_extended.specs.Joined.{Joined}
use Rattle.jpeg_extended.specs.Portions.{Portion}
use Rattle.jpeg_extended.specs.Tiling.{limit}
use Rattle.jpeg_extended.specs.Written.{name_text, portions_of}
use Rattle.jpeg_extended.proofs.NewPortions.{new_joined}
use Rattle.jpeg_relocation.specs.Relocation.{part_of, before, after}
use Rattle.jpeg_relocation.specs.Runs.{runs}
use Rattle.jpeg_relocation.specs.NewSegments.{main_limit, main_payload_text}
use Rattle.jpeg_relocation.specs.Laws.{IsText, NoStray, new_file, new_list, new_portions}
use Rattle.jpeg_relocation.proofs.Pieces.{runs_are_pieces}
use Rattle.jpeg_relocation.proofs.Relocated.{new_file_is_cut, main_is_packet, kept_is_same, portions_are_new}
use Rattle.xmp_files.specs.declared.kinds.Kind.{Kind}
use Rattle.xmp_files.specs.declared.kinds.Kind.TheVariants.{Jpeg}
use Rattle.xmp_files.specs.declared.held.Need.TheVariants.{Packet}
use Rattle.xmp_files.specs.declared.held.Extended.{Extended}
use Rattle.xmp_files.specs.declared.held.Extended.TheVariants as extended
use Rattle.xmp_files.specs.declared.opening.Opened.{Opened}
use Rattle.xmp_files.specs.Faults.{file_limit, over_limit, packet_limit, over_packet}
use Rattle.xmp_files.specs.Kinds.{kind_of}
use Rattle.xmp_files.specs.Stages.{followed, Followed}
use Rattle.xmp_files.specs.Keeping.{Piece, Kept, photograph}
use Rattle.xmp_files.specs.Meanings.{IsNote, IsNoteOf}
use Rattle.xmp_files.specs.Photographs.{piece_at, packet_range, main_packet, IsName, IsExtended, named_portions, portions_in, IsPhotograph}
use Rattle.xmp_files.specs.Loading.{known, kind_of_file, limited_by, IsKept, IsLoaded}
use Rattle.xmp_files.specs.Opening.{with_both, merged_to, IsOpened, HoldsTree}
use Rattle.xmp_files.specs.Planning.{Part, Old, New, part_bytes, part_len, parts_bytes, parts_len, KeepsRegions}
use Rattle.xmp_files.specs.Plans.{parts_around, segments_text}
use Rattle.xmp_files.proofs.Loads.{known_as}
use Rattle.xmp_files.proofs.KeptLie.{SpansLie, before_lie, after_lie}
use Rattle.xmp_files.proofs.LoadedPhotographs.{unnamed}
use Rattle.xmp_files.proofs.WrittenSidecars.{meant, means, opens}
use Rattle.xmp_files.proofs.WrittenPhotographs.{noted_as}

-- The parts of a relocated file have its bytes.

old_bytes : (file : List ℕ) (ss : List FileSpan) → parts_bytes file (map (λ (r : FileSpan). Old r) ss) ≡ flat_map (payload_at file) ss
old_bytes file [] = refl
old_bytes file (s ∷ ss) = ap (λ (l : List ℕ). payload_at file s ++ l) (old_bytes file ss)

head_bytes : (file rest : List ℕ) → file ≡ 0xFF ∷ 0xD8 ∷ rest → payload_at file (span 0 2) ≡ 0xFF ∷ 0xD8 ∷ []
head_bytes file rest is = ap (λ (l : List ℕ). payload_at l (span 0 2)) is

pub around_bytes : (file : List ℕ) (joined : List FileSpan) (regions : List Region) (packet : List ℕ) (extended : Option (List ℕ)) → Cuts file regions
    → parts_bytes file (parts_around regions joined (segments_text packet extended)) ≡ new_file file joined regions packet extended
around_bytes file joined regions packet extended cuts =
    let pieces = runs_are_pieces file joined regions cuts in
    let new : List ℕ = segments_text packet extended in
    let first : parts_bytes file (map (λ (r : FileSpan). Old r) (runs (before joined regions))) ≡ flat_map (part_of file) (before joined regions) = old_bytes file (runs (before joined regions)) ∙ pieces.0 in
    let last : parts_bytes file (map (λ (r : FileSpan). Old r) (runs (after joined regions))) ≡ flat_map (part_of file) (after joined regions) = old_bytes file (runs (after joined regions)) ∙ pieces.1 in
    flat_map-append (part_bytes file) (Old (span 0 2) ∷ map (λ (r : FileSpan). Old r) (runs (before joined regions))) (New new ∷ map (λ (r : FileSpan). Old r) (runs (after joined regions)))
    ∙ (λ i. (head_bytes file _ cuts.bytes i ++ first i) ++ (new ++ last i))

-- parts that lie in a file have as many bytes as their ranges
spans_len : (file : List ℕ) (ss : List FileSpan) → SpansLie (length file) ss → length (parts_bytes file (map (λ (r : FileSpan). Old r) ss)) ≡ parts_len (map (λ (r : FileSpan). Old r) ss)
spans_len file [] lie = refl
spans_len file (s ∷ ss) lie =
    let one : length (payload_at file s) ≡ s.end - s.start = length-take-le _ _ (omega (arith, length-drop s.start file, lie.0, lie.1)) in
    omega (
      arith,
      length-append (payload_at file s) (parts_bytes file (map (λ (r : FileSpan). Old r) ss)),
      one,
      spans_len file ss lie.2,
      sum_by-cons part_len (Old s) (map (λ (r : FileSpan). Old r) ss),
    )

pub around_len : (file : List ℕ) (joined : List FileSpan) (regions : List Region) (packet : List ℕ) (extended : Option (List ℕ)) → Cuts file regions
    → length (parts_bytes file (parts_around regions joined (segments_text packet extended))) ≡ parts_len (parts_around regions joined (segments_text packet extended))
around_len file joined regions packet extended cuts =
    let tiles = cuts_tile file regions cuts in
    let new : List ℕ = segments_text packet extended in
    let first : List Part = map (λ (r : FileSpan). Old r) (runs (before joined regions)) in
    let last : List Part = map (λ (r : FileSpan). Old r) (runs (after joined regions)) in
    let head : length (payload_at file (span 0 2)) ≡ 2 = ap length (head_bytes file _ cuts.bytes) in
    omega (
      arith,
      ap length (flat_map-append (part_bytes file) (Old (span 0 2) ∷ first) (New new ∷ last)),
      length-append (parts_bytes file (Old (span 0 2) ∷ first)) (parts_bytes file (New new ∷ last)),
      length-append (payload_at file (span 0 2)) (parts_bytes file first),
      length-append new (parts_bytes file last),
      head,
      spans_len file (runs (before joined regions)) (before_lie (length file) regions joined tiles),
      spans_len file (runs (after joined regions)) (after_lie (length file) regions joined tiles),
      sum_by-append part_len (Old (span 0 2) ∷ first) (New new ∷ last),
      sum_by-cons part_len (Old (span 0 2)) first,
      sum_by-cons part_len (New new) last,
    )

-- The packet in the main payload of a file.

one_main : (rs : List Region) (f : Region → List ℕ) (x : List ℕ) → map f rs ≡ x ∷ [] → (r : Region) × (slice_get rs 0 ≡ Some r) × (f r ≡ x)
one_main [] f x h = absurd (cc h)
one_main (r ∷ rs) f x h = (r, refl, cc h)

module _ (file now : List ℕ) (p : FileSpan) (held : payload_at file p ≡ main_payload_text now) where
  long : length (payload_at file p) ≡ 29 + length now
  long = ap length held ∙ length-append packet_signature now

  inside : p.start + 29 ≤ p.end
  inside = omega (arith, long, length-take (p.end - p.start) (drop p.start file))

  start_is : (packet_range p).start ≡ p.start + 29
  start_is = omega (arith, inside)

  packet_bytes : take (p.end - (p.start + 29)) (drop (p.start + 29) file) ≡ now
  packet_bytes =
      let count : 29 + (p.end - (p.start + 29)) ≡ p.end - p.start = omega (arith, inside) in
      ap (take (p.end - (p.start + 29))) (sym (drop-drop 29 p.start file))
      ∙ sym (drop-take 29 (p.end - (p.start + 29)) (drop p.start file))
      ∙ ap (λ (n : ℕ). drop 29 (take n (drop p.start file))) count
      ∙ ap (drop 29) held

  piece_is : piece_at file (packet_range p) ≡ record { at = p.start + 29; bytes = now }
  piece_is =
      let bytes : (piece_at file (packet_range p)).bytes ≡ now = ap (λ (n : ℕ). take (p.end - n) (drop n file)) start_is ∙ packet_bytes in
      λ i. record { at = start_is i; bytes = bytes i }

-- What is true of the new file, with an extended text or without.
module _ (old : List ℕ) (regions : List Region) (joined : List FileSpan) (jpeg : IsJpeg old regions) (now : List ℕ) (text : Option (List ℕ)) (limited : length now ≤ main_limit) (held : IsText text) where
  abbrev pub file : List ℕ
  file = new_file old joined regions now text

  abbrev pub list : List Region
  list = new_list joined regions now text

  cut : IsJpeg file list
  cut = new_file_is_cut old joined regions now text jpeg limited held

  pub main : (r : Region) × (slice_get (mains list) 0 ≡ Some r) × (payload_at file r.payload ≡ main_payload_text now)
  main = one_main (mains list) (λ (r : Region). payload_at file r.payload) (main_payload_text now) (main_is_packet old joined regions now text jpeg limited held)

  abbrev pub payload : Piece
  payload = record { at = main.0.payload.start + 29; bytes = now }

  packet_is : main_packet file list ≡ Some payload
  packet_is =
      ap (option_map (λ (x : FileSpan). piece_at file (packet_range x))) (ap (option_map (λ (r : Region). r.payload)) main.1)
      ∙ ap (λ (q : Piece). Some q) (piece_is file now main.0.payload main.2)

  pub keeps_regions : KeepsRegions old regions joined file
  keeps_regions = record { list = list; jpeg = cut; added = new_portions joined regions now text; same = kept_is_same old joined regions now text jpeg limited held }

  -- what is kept of it, by the name of its extended text
  pub is_photograph : (note : Option (List ℕ)) (extended : Option Extended) → IsName (portion_payloads list) (Some payload) note
      → IsExtended (portions_in file note (named_portions file note list)) extended → IsPhotograph Packet file (photograph Packet (length file) list (Some payload) (named_portions file note list) extended)
  is_photograph note extended noted joins = record {
    regions = list;
    jpeg = cut;
    note = note;
    noted = subst (λ (o : Option Piece). IsName (portion_payloads list) o note) (sym packet_is) noted;
    extended = extended;
    joins = joins;
    is = ap (λ (o : Option Piece). photograph Packet (length file) list o (named_portions file note list) extended) (sym packet_is);
  }

  pub file_loaded : (kept : Kept) → kept.payload ≡ Some payload → length file ≤ file_limit → IsPhotograph Packet file kept → IsLoaded Packet (Some file) (Ok kept)
  file_loaded kept there small p =
      let kind_is : kind_of file ≡ Some Jpeg = refl in
      let there_is : kind_of_file (Some file) ≡ Ok Jpeg =
      ap (λ (b : Bool). followed (cond b (Err (over_limit (length file))) (Ok file)) known) (le-ltb file_limit (length file) small)
      ∙ known_as file Jpeg kind_is refl in
      let short : length now ≤ packet_limit = omega (arith, limited) in
      let within : Ok kept ≡ limited_by kept (Some payload) =
      ap (λ (b : Bool). cond b (Err (over_packet (length now))) (Ok kept)) (sym (le-ltb packet_limit (length now) short)) in
      let step : Ok kept ≡ limited_by kept kept.payload = within ∙ ap (limited_by kept) (sym there) in
      subst (λ (x : Result Kind Fault). Followed x (IsKept Packet file) (Ok kept)) (sym there_is) (Ok kept, p, step)

-- without an extended text
module _ (old : List ℕ) (regions : List Region) (joined : List FileSpan) (jpeg : IsJpeg old regions) (now : List ℕ) (limited : length now ≤ main_limit) where
  abbrev file_now : List ℕ
  file_now = new_file old joined regions now None

  abbrev payload_now : Piece
  payload_now = payload old regions joined jpeg now None limited tt

  abbrev kept_now : Kept
  kept_now = photograph Packet (length file_now) (new_list joined regions now None) (Some payload_now) [] None

  relocated_loaded : length file_now ≤ file_limit → IsNoteOf now None → IsLoaded Packet (Some file_now) (Ok kept_now)
  relocated_loaded small note =
      let short : length now ≤ packet_limit = omega (arith, limited) in
      let payloads : List FileSpan = portion_payloads (new_list joined regions now None) in
      file_loaded old regions joined jpeg now None limited tt kept_now refl small
      (is_photograph old regions joined jpeg now None limited tt None None (unnamed payloads (Some payload_now) (inr (short, note))) refl)

  pub relocated_holds : length file_now ≤ file_limit → (declared : List Hint) (t : Parts) → PacketMeans now declared t None → HoldsTree (Some file_now) t
  relocated_holds small declared t h =
      let meaning : Meaning = meant now declared t None h.means in
      let opened : Opened = record { meaning = meaning; joined = false } in
      let is_opened : IsOpened kept_now (Ok opened) = (Ok meaning, opens now declared t None h, refl) in
      (opened, (Ok kept_now, relocated_loaded small (noted_as now declared t None h), is_opened), h.means.tree_is 100 (omega arith))

-- with one
module _ (old : List ℕ) (regions : List Region) (joined : List FileSpan) (jpeg : IsJpeg old regions) (now text : List ℕ) (limited : length now ≤ main_limit) (some : 0 < length text) (held : length text ≤ limit)
    (none : NoStray old joined regions (name_text text)) where
  abbrev file_both : List ℕ
  file_both = new_file old joined regions now (Some text)

  abbrev list_both : List Region
  list_both = new_list joined regions now (Some text)

  abbrev payload_both : Piece
  payload_both = payload old regions joined jpeg now (Some text) limited held

  abbrev portions : List FileSpan
  portions = named_at file_both (name_text text) (portion_payloads list_both)

  -- the portions of its name are those of the text
  portions_are : portions_at file_both (name_text text) portions ≡ portions_of text
  portions_are =
      let found = portions_are_new old joined regions now text jpeg limited held none in
      ap (portions_at file_both (name_text text)) found.0 ∙ found.1

  joins : Joined (portions_of text) text
  joins = new_joined text some held

  named_by : (payloads : List FileSpan) → portions_at file_both (name_text text) (named_at file_both (name_text text) payloads) ≡ portions_of text → IsNote (Some payload_both) (Some (name_text text))
      → IsName payloads (Some payload_both) (Some (name_text text))
  named_by [] are note = absurd (let none_are : 0 ≡ length (portions_of text) = ap length are in omega (arith, none_are, joins.some))
  named_by (p ∷ ps) are note = note

  abbrev kept_both : Kept
  kept_both = photograph Packet (length file_both) list_both (Some payload_both) portions (Some (extended.Joined text))

  both_loaded : length file_both ≤ file_limit → IsNoteOf now (Some (name_text text)) → IsLoaded Packet (Some file_both) (Ok kept_both)
  both_loaded small note =
      let short : length now ≤ packet_limit = omega (arith, limited) in
      file_loaded old regions joined jpeg now (Some text) limited held kept_both refl small
      (is_photograph old regions joined jpeg now (Some text) limited held (Some (name_text text)) (Some (extended.Joined text))
      (named_by (portion_payloads list_both) portions_are (inr (short, note))) (subst (λ (ps : List Portion). Joined ps text) (sym portions_are) joins))

  pub both_hold : length file_both ≤ file_limit → (declared others : List Hint) (main more t : Parts) → PacketMeans now declared main (Some (name_text text)) → TextMeans text others more None
      → ((m n : Meaning) → m.tree ≡ main → n.tree ≡ more → (merged m n ≡ Ok (both m n)) × ((both m n).tree ≡ t)) → HoldsTree (Some file_both) t
  both_hold small declared others main more t h rest merge =
      let m : Meaning = meant now declared main (Some (name_text text)) h.means in
      let n : Meaning = meant text others more None rest in
      let together = merge m n (h.means.tree_is 100 (omega arith)) (rest.tree_is 100 (omega arith)) in
      let opened : Opened = record { meaning = both m n; joined = true } in
      let step : Ok opened ≡ merged_to m (Ok n) = ap with_both (sym together.0) in
      let is_opened : IsOpened kept_both (Ok opened) = (Ok m, opens now declared main (Some (name_text text)) h, (Ok n, means text others more None rest, step)) in
      (opened, (Ok kept_both, both_loaded small (noted_as now declared main (Some (name_text text)) h), is_opened), together.1)
