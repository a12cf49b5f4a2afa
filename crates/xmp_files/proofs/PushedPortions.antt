-- The segments of the portions of a text, one after another.
use Rattle.std.proofs.Common.{◌≡◌, ◌∙◌, ℕ, ◌+◌, ◌*◌, ◌≤◌, List, [], ◌∷◌, ◌++◌, length, map, sym, ap, arith, append_assoc, length-append}
use Rattle.std.specs.Prelude.{flat_map}
use Rattle.std.specs.List.{range_with_len}
use Rattle.std.proofs.lemmas.Grind.{flat_map-append}
use Rattle.std.proofs.lemmas.List.{append-nil, map-append}
use Rattle.std.proofs.lemmas.List.FromFn.{map-range_with_len_more}
use Rattle.byteorder.specs.Endian.{big_bytes}
use Rattle.jpeg_regions.specs.Kinds.{packet_signature}
use Rattle.jpeg_regions.specs.Jpeg.{Segment, text}
use Rattle.jpeg_extended.specs.Portions.{Portion, payload_text}
use Rattle.jpeg_extended.specs.Written.{name_text, portion_at, segment_text}
use Rattle.jpeg_extended.proofs.Segments.{part_length}
use Rattle.jpeg_relocation.specs.NewSegments.{app1, main_segment}
use Rattle.jpeg_relocation.proofs.Names.{name_capitals}
use Rattle.xmp_files.specs.Planneds.{portion_segment}

-- the segments of the first k portions
abbrev pub first_portions : List ℕ → ℕ → List ℕ
first_portions extended k = flat_map text (map (λ p. app1 (payload_text (name_text extended) p)) (map (portion_at extended) (range_with_len 0 k)))

-- a main segment has 33 bytes before its packet
pub main_len : (packet : List ℕ) → length (text (main_segment packet)) ≡ 33 + length packet
main_len packet = omega (arith, length-append (big_bytes 2 (2 + length (packet_signature ++ packet))) (packet_signature ++ packet), length-append packet_signature packet)

payload_len : (name : List ℕ) (p : Portion) → length name ≡ 32 → length (payload_text name p) ≡ 75 + length p.bytes
payload_len name p long = omega (arith, length-append name (big_bytes 4 p.full ++ (big_bytes 4 p.offset ++ p.bytes)), long)

-- a portion's segment is APP1 with its payload
segment_is : (name : List ℕ) (p : Portion) → length name ≡ 32 → text (app1 (payload_text name p)) ≡ segment_text name p
segment_is name p long =
    let counted : 2 + length (payload_text name p) ≡ 77 + length p.bytes = omega (arith, payload_len name p long) in
    ap (λ (n : ℕ). 0xFF ∷ 0xE1 ∷ (big_bytes 2 n ++ payload_text name p)) counted

module _ (extended : List ℕ) where
  name_len : length (name_text extended) ≡ 32
  name_len = (name_capitals extended).0

  segment_most : (k : ℕ) → length (portion_segment extended k) ≤ 65479
  unfolding portion_segment
  segment_most k =
      let p : Portion = portion_at extended k in
      omega (arith, payload_len (name_text extended) p name_len, length-append (big_bytes 2 (77 + length p.bytes)) (payload_text (name_text extended) p), part_length extended k)

  last_is : (k : ℕ) → flat_map text (app1 (payload_text (name_text extended) (portion_at extended k)) ∷ []) ≡ portion_segment extended k
  unfolding portion_segment
  last_is k =
      let p : Portion = portion_at extended k in
      append-nil (text (app1 (payload_text (name_text extended) p))) ∙ segment_is (name_text extended) p name_len

  module _ (k : ℕ) (initial old new : List ℕ) where
    pub portion_more : old ≡ initial ++ first_portions extended k → new ≡ old ++ portion_segment extended k → new ≡ initial ++ first_portions extended (k + 1)
    portion_more is pushed =
        let own : Portion → Segment = λ p. app1 (payload_text (name_text extended) p) in
        let p : Portion = portion_at extended k in
        let next : map (portion_at extended) (range_with_len 0 (k + 1)) ≡ map (portion_at extended) (range_with_len 0 k) ++ (p ∷ []) = map-range_with_len_more (portion_at extended) 0 k k (omega arith) in
        let more : first_portions extended (k + 1) ≡ first_portions extended k ++ portion_segment extended k =
        ap (λ (l : List Portion). flat_map text (map own l)) next ∙ ap (flat_map text) (map-append own (map (portion_at extended) (range_with_len 0 k)) (p ∷ []))
        ∙ flat_map-append text (map own (map (portion_at extended) (range_with_len 0 k))) (own p ∷ []) ∙ ap (λ (l : List ℕ). first_portions extended k ++ l) (last_is k) in
        pushed ∙ ap (λ (l : List ℕ). l ++ portion_segment extended k) is ∙ append_assoc initial (first_portions extended k) (portion_segment extended k) ∙ ap (λ (l : List ℕ). initial ++ l) (sym more)

    pub portion_longer : length old ≤ length initial + 65479 * k → new ≡ old ++ portion_segment extended k → length new ≤ length initial + 65479 * (k + 1)
    portion_longer short pushed = omega (arith, short, ap length pushed, length-append old (portion_segment extended k), segment_most k)
