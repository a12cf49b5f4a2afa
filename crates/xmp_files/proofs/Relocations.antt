-- New bytes among the regions of a JPEG file.
use Rattle.std.proofs.Common.{◌≡◌, ◌∙◌, ℕ, ◌+◌, ◌-◌, ◌<◌, ◌≤◌, min, Bool, cond, false, List, [], ◌∷◌, ◌++◌, length, take, get_or, Some, None, Ok, Err, refl, sym, ap, subst, arith, add-one, append_assoc, length-append}
use Rattle.std.specs.Prelude.{All, IfOk, map, nat_lt}
use Rattle.std.specs.declared.option.Option.{Option}
use Rattle.std.specs.declared.result.Result.{Result}
use Rattle.std.proofs.lemmas.Bool.{le-ltb, lt-ltb}
use Rattle.std.proofs.Math.Seq.{take-suc}
use Rattle.std.proofs.lemmas.List.{append-nil, map-append, take_all}
use Rattle.std.proofs.lemmas.List.Sums.{sum_by_push}
use Rattle.byteorder.specs.Endian.{big_bytes}
use Rattle.xmp_base.specs.declared.file_span.FileSpan.{FileSpan}
use Rattle.xmp_values.specs.declared.faults.Fault.{Fault}
use Rattle.jpeg_regions.specs.Kinds.{packet_signature}
use Rattle.jpeg_regions.specs.Jpeg.{Region, span, text, portion_payloads}
use Rattle.jpeg_regions.specs.Cutting.{Tiles}
use Rattle.jpeg_relocation.specs.NewSegments.{main_segment}
use Rattle.jpeg_extended.specs.FromDesk.{payload_at, ArePicked}
use Rattle.jpeg_relocation.specs.declared.pictures.MovedPictures.{MovedPictures}
use Rattle.jpeg_relocation.specs.Relocation.{before, after}
use Rattle.jpeg_relocation.specs.Runs.{runs}
use Rattle.jpeg_relocation.specs.Pictures.{moved_pictures}
use Rattle.xmp_files.specs.declared.parts.FilePart.{FilePart}
use Rattle.xmp_files.specs.declared.parts.FilePart.TheVariants as kept
use Rattle.xmp_files.specs.Faults.{file_limit}
use Rattle.xmp_values.specs.declared.stops.FaultStop.{FaultStop}
use Rattle.xmp_values.specs.declared.stops.FaultStop.TheVariants as faults
use Rattle.xmp_files.specs.declared.plans.Exchange.{Exchange}
use Rattle.xmp_files.specs.Planneds.{AmongAnswer, PartsAnswer}
use Rattle.xmp_files.specs.Keeping.{Container, Text, Segments, Directories, regions_in}
use Rattle.xmp_files.specs.Loads.{ContainerLies}
use Rattle.xmp_files.specs.NewFiles.{part_at, parts_at, range_of, PartLies, old_parts, kept_parts}
use Rattle.xmp_files.specs.Planning.{Part, Old, New, Plan, Relocated, part_len, parts_len}
use Rattle.xmp_files.specs.Plans.{told, after_pictures, over_out, parts_around, within_out, unless_moved, put_among, segments_text}
use Rattle.xmp_files.proofs.Emits.{kept_len}

old_at : (bytes : List ℕ) (ss : List FileSpan) → parts_at bytes (old_parts ss) ≡ map (λ (r : FileSpan). Old r) ss
old_at bytes [] = refl
old_at bytes (s ∷ ss) = ap (λ (l : List Part). Old s ∷ l) (old_at bytes ss)

-- the parts that are kept are those of the definition
pub kept_around : (bytes : List ℕ) (regions : List Region) (joined : List FileSpan)
    → parts_at bytes (kept_parts (runs (before joined regions)) (runs (after joined regions)) (length bytes)) ≡ parts_around regions joined bytes
kept_around bytes regions joined =
    let whole : payload_at bytes (span 0 (length bytes)) ≡ bytes = take_all (length bytes - 0) bytes (omega arith) in
    map-append (part_at bytes) (kept.Old (span 0 2) ∷ old_parts (runs (before joined regions))) (kept.New (span 0 (length bytes)) ∷ old_parts (runs (after joined regions)))
    ∙ (λ i. (Old (span 0 2) ∷ old_at bytes (runs (before joined regions)) i) ++ (New (whole i) ∷ old_at bytes (runs (after joined regions)) i))

module _ (regions : List Region) (joined : List FileSpan) (bytes : List ℕ) where
  pub among_moved : (moved : MovedPictures) (fault : Fault) → moved_pictures joined regions (length bytes) ≡ Some moved → fault ≡ after_pictures moved
      → (let r : Result Plan Fault = Err fault in r) ≡ put_among regions joined bytes
  among_moved moved fault is fault_is =
      ap (λ (f : Fault). let r : Result Plan Fault = Err f in r) fault_is ∙ sym (ap (λ (o : Option MovedPictures). unless_moved o (parts_around regions joined bytes)) is)

  module _ (none : moved_pictures joined regions (length bytes) ≡ None) (parts : List FilePart)
      (parts_are : parts ≡ kept_parts (runs (before joined regions)) (runs (after joined regions)) (length bytes)) where
    around_is : parts_at bytes parts ≡ parts_around regions joined bytes
    around_is = ap (parts_at bytes) parts_are ∙ kept_around bytes regions joined

    among_is : put_among regions joined bytes ≡ within_out (parts_at bytes parts)
    among_is = ap (λ (o : Option MovedPictures). unless_moved o (parts_around regions joined bytes)) none ∙ ap within_out (sym around_is)

    pub among_answer : (result : Result Exchange FaultStop) → PartsAnswer (parts_at bytes parts) result → AmongAnswer regions joined bytes result
    among_answer (Ok exchange) is = is ∙ sym among_is
    among_answer (Err (faults.Fault fault)) is = is ∙ sym among_is
    among_answer (Err faults.Memory) is = tt

-- Parts that are a new file, by their length.
module _ (parts : List Part) (len : ℕ) (len_is : len ≡ told (parts_len parts)) where
  pub parts_over : (fault : Fault) → file_limit < len → fault ≡ over_out len → (let r : Result Plan Fault = Err fault in r) ≡ within_out parts
  parts_over fault over fault_is =
      let long : file_limit < parts_len parts = omega (arith, over, len_is) in
      ap (λ (f : Fault). let r : Result Plan Fault = Err f in r) (fault_is ∙ ap over_out len_is)
      ∙ sym (ap (λ (b : Bool). cond b (let r : Result Plan Fault = Err (over_out (told (parts_len parts))) in r) (Ok (Relocated parts))) (lt-ltb file_limit (parts_len parts) long))

  pub parts_fit : len ≤ file_limit → len ≡ parts_len parts
  parts_fit short = omega (arith, short, len_is)

  pub parts_put : len ≤ file_limit → (let r : Result Plan Fault = Ok (Relocated parts) in r) ≡ within_out parts
  parts_put short =
      let test : nat_lt file_limit (parts_len parts) ≡ false = le-ltb file_limit (parts_len parts) (omega (arith, short, parts_fit short)) in
      sym (ap (λ (b : Bool). cond b (let r : Result Plan Fault = Err (over_out (told (parts_len parts))) in r) (Ok (Relocated parts))) test)

-- What the code adds.

pub push_old : (runs : List FileSpan) (i : ℕ) (d : FileSpan) (items first new : List FilePart) → i < length runs → items ≡ first ++ old_parts (take i runs) → new ≡ items ++ (kept.Old (get_or runs i d) ∷ [])
    → new ≡ first ++ old_parts (take (i + 1) runs)
push_old runs i d items first new below is pushed =
    let next : take (i + 1) runs ≡ take i runs ++ (get_or runs i d ∷ []) = rw add-one (take-suc runs i d below) in
    pushed ∙ ap (λ (l : List FilePart). l ++ (kept.Old (get_or runs i d) ∷ [])) is
    ∙ append_assoc first (old_parts (take i runs)) (kept.Old (get_or runs i d) ∷ [])
    ∙ ap (λ (l : List FilePart). first ++ l) (sym (map-append (λ (r : FileSpan). kept.Old r) (take i runs) (get_or runs i d ∷ [])) ∙ ap old_parts (sym next))

pub all_old : (runs : List FileSpan) (i : ℕ) (items first : List FilePart) → length runs ≤ i → items ≡ first ++ old_parts (take i runs) → items ≡ first ++ old_parts runs
all_old runs i items first past is = is ∙ ap (λ (l : List FileSpan). first ++ old_parts l) (take_all i runs past)

pub kept_pushed : (a b c d e : List FilePart) (before after : List FileSpan) (front new : FileSpan) (count : ℕ) → a ≡ [] → front ≡ span 0 2 → new ≡ span 0 count
    → b ≡ a ++ (kept.Old front ∷ []) → c ≡ b ++ old_parts before → d ≡ c ++ (kept.New new ∷ []) → e ≡ d ++ old_parts after → e ≡ kept_parts before after count
kept_pushed a b c d e before after front new count none front_is new_is first second third fourth =
    fourth
    ∙ ap (λ (l : List FilePart). l ++ old_parts after)
    (third ∙ ap (λ (l : List FilePart). l ++ (kept.New new ∷ [])) (second ∙ ap (λ (l : List FilePart). l ++ old_parts before) (first ∙ ap (λ (l : List FilePart). l ++ (kept.Old front ∷ [])) none)))
    ∙ (λ i. (((kept.Old (front_is i) ∷ []) ++ old_parts before) ++ (kept.New (new_is i) ∷ [])) ++ old_parts after)
    ∙ append_assoc (kept.Old (span 0 2) ∷ old_parts before) (kept.New (span 0 count) ∷ []) (old_parts after)

pub total_more : (size : ℕ) (bytes : List ℕ) (parts : List FilePart) (i : ℕ) (d : FilePart) (total len next : ℕ) → All (PartLies size (length bytes)) parts → i < length parts
    → total ≡ told (parts_len (parts_at bytes (take i parts))) → len ≡ (range_of (get_or parts i d)).end - (range_of (get_or parts i d)).start → next ≡ min (total + len) 18446744073709551615
    → next ≡ told (parts_len (parts_at bytes (take (i + 1) parts)))
total_more size bytes parts i d total len next lie below is len_is next_is =
    let x : FilePart = get_or parts i d in
    let more : take (i + 1) parts ≡ take i parts ++ (x ∷ []) = rw add-one (take-suc parts i d below) in
    let sum : parts_len (parts_at bytes (take (i + 1) parts)) ≡ parts_len (parts_at bytes (take i parts)) + part_len (part_at bytes x) =
    ap (λ (l : List FilePart). parts_len (parts_at bytes l)) more ∙ ap parts_len (map-append (part_at bytes) (take i parts) (x ∷ [])) ∙ sum_by_push part_len (parts_at bytes (take i parts)) (part_at bytes x) in
    let one : part_len (part_at bytes x) ≡ len = kept_len size bytes x (lie i d below) ∙ sym len_is in
    told_more (parts_len (parts_at bytes (take i parts))) (parts_len (parts_at bytes (take (i + 1) parts))) (part_len (part_at bytes x)) total len next sum one is next_is
  where
    told_more : (n m k total len next : ℕ) → m ≡ n + k → k ≡ len → total ≡ min n 18446744073709551615 → next ≡ min (total + len) 18446744073709551615 → next ≡ min m 18446744073709551615
    told_more n m k total len next sum one is next_is = omega (arith, sum, one, is, next_is)

pub all_total : (bytes : List ℕ) (parts : List FilePart) (i total : ℕ) → length parts ≤ i → total ≡ told (parts_len (parts_at bytes (take i parts))) → total ≡ told (parts_len (parts_at bytes parts))
all_total bytes parts i total past is = is ∙ ap (λ (l : List FilePart). told (parts_len (parts_at bytes l))) (take_all i parts past)

pub main_text : (a b c d items size packet : List ℕ) (len : ℕ) → a ≡ [] → b ≡ a ++ (0xFF ∷ 0xE1 ∷ []) → c ≡ b ++ size → d ≡ c ++ packet_signature → items ≡ d ++ packet
    → size ≡ big_bytes 2 (31 + len) → length packet ≡ len → items ≡ text (main_segment packet)
main_text a b c d items size packet len none first second third last size_is long =
    let all : length (packet_signature ++ packet) ≡ 29 + len = length-append packet_signature packet ∙ ap (λ (n : ℕ). 29 + n) long in
    let counted : 31 + len ≡ 2 + length (packet_signature ++ packet) = omega (arith, all) in
    last
    ∙ ap (λ (l : List ℕ). l ++ packet)
    (third ∙ ap (λ (l : List ℕ). l ++ packet_signature) (second ∙ (λ i. (first ∙ ap (λ (l : List ℕ). l ++ (0xFF ∷ 0xE1 ∷ [])) none) i ++ (size_is ∙ ap (big_bytes 2) counted) i)))
    ∙ append_assoc (0xFF ∷ 0xE1 ∷ big_bytes 2 (2 + length (packet_signature ++ packet))) packet_signature packet

-- the one segment of a packet
pub one_segment : (packet : List ℕ) → text (main_segment packet) ≡ segments_text packet None
one_segment packet = sym (append-nil (text (main_segment packet)))

-- Of a JPEG file that is kept the regions tile it.
pub container_lies : (size : ℕ) (container : Container) (portions : List FileSpan) (regions : List Region) → ContainerLies size container portions → regions_in container ≡ Some regions
    → Tiles 2 size regions × ArePicked portions (portion_payloads regions)
container_lies size Text portions regions lies is = absurd (cc is)
container_lies size (Directories len tiff) portions regions lies is = absurd (cc is)
container_lies size (Segments others) portions regions lies is =
    let same : others ≡ regions = cc is in subst (λ (rs : List Region). Tiles 2 size rs × ArePicked portions (portion_payloads rs)) same lies

pub any_ok : {A E : Type 0} (P : Type 0) (result : Result A E) → P → IfOk result (λ _. P)
any_ok P (Ok x) p = p
any_ok P (Err e) p = tt
