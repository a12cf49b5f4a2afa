-- A packet that is put into a slice.
use Rattle.std.proofs.Common.{◌≡◌, ℕ, ◌+◌, ◌-◌, ◌<◌, ◌≤◌, List, ◌++◌, length, take, drop, get_or, sym, ap, ◌∙◌, length-append, arith}
use borrow.Rule.Slice.PartMut.{put_mid}
use Rattle.std.specs.List.{range_with_len}
use Rattle.std.proofs.lemmas.List.{append-nil, drop_all, length-map, get_or-map, ext_get_or, length-take-le, length-drop}
use Rattle.std.proofs.lemmas.List.FromFn.{get_or-range_with_len, length-range_with_len}
use Rattle.std.proofs.lemmas.Simd.{put_chunk_is, take_more_put_chunk, length-put_chunk}
use Rattle.std.proofs.lemmas.Slice.{take-put_mid}
use Rattle.xmp_values.specs.declared.hints.Hint.{Hint}
use Rattle.xmp_tree.specs.Parts.{Parts}
use Rattle.xmp_write.specs.declared.forms.Form.{Form}
use Rattle.xmp_write.specs.Text.{written_text}
use Rattle.xmp_write.specs.WrittenPackets.{header, trailer, pad_byte, pad, packet, least_len}
use Rattle.xmp_write.specs.Placing.{Puts}

pub length-pad : (many : ℕ) → length (pad many) ≡ many
length-pad many = length-map (range_with_len 0 many) (pad_byte many) ∙ length-range_with_len 0 many

-- bytes that are each the padding's
pub padded : (bytes : List ℕ) (many : ℕ) → length bytes ≡ many → ((k : ℕ) → k < many → get_or bytes k 0 ≡ pad_byte many k) → bytes ≡ pad many
padded bytes many long each =
    ext_get_or 0 bytes (pad many) (long ∙ sym (length-pad many))
    (λ k within.
    let low : k < many = omega (arith, within, long) in
    let place : get_or (range_with_len 0 many) k 0 ≡ k = get_or-range_with_len 0 many k 0 low ∙ omega arith in
    each k low ∙ sym (get_or-map (pad_byte many) (range_with_len 0 many) k 0 0 (omega (arith, length-range_with_len 0 many)) ∙ ap (pad_byte many) place))

-- front, padding and trailer
module _ (front end old one two three new : List ℕ) (at last : ℕ) (room : length front + length end ≤ length old) (first : Puts old one 0 at front)
    (middle : two ≡ put_mid at (length old - length end - at) one three) (filling : three ≡ pad (length (take (length old - length end - at) (drop at one))))
    (final : Puts two new (length old - length end) last end) where
  abbrev many : ℕ
  many = length old - length end - length front

  after : at ≡ length front
  after = omega (arith, first.after_is, first.held, room)

  one_long : length one ≡ length old
  one_long = ap length first.written ∙ length-put_chunk 0 old front

  fronted : take at one ≡ front
  fronted = ap (take at) first.written ∙ take_more_put_chunk 0 old front at (omega (arith, after)) (omega (arith, after, room))

  rest_long : length (take (length old - length end - at) (drop at one)) ≡ many
  rest_long =
      let rest = length-drop at one in
      length-take-le (length old - length end - at) (drop at one) (omega (arith, rest, one_long, after, room)) ∙ omega (arith, after)

  filled_with : three ≡ pad many
  filled_with = filling ∙ ap pad rest_long

  three_long : length three ≡ many
  three_long = ap length filled_with ∙ length-pad many

  two_long : length two ≡ length old
  two_long =
      let parts = length-append (take at one) (three ++ drop (length old - length end - at) (drop at one)) in
      let inner = length-append three (drop (length old - length end - at) (drop at one)) in
      let outer = length-drop (length old - length end - at) (drop at one) in
      let rest = length-drop at one in
      let begun = ap length fronted in
      ap length middle ∙ omega (arith, parts, inner, outer, rest, begun, one_long, three_long, after, room)

  head_is : take (length old - length end) two ≡ front ++ pad many
  head_is =
      ap (take (length old - length end)) middle
      ∙ take-put_mid at (length old - length end - at) one three (length old - length end) (omega (arith, three_long, after, room)) (omega (arith, one_long, after, room))
      ∙ ap (λ xs. xs ++ three) fronted ∙ ap (λ xs. front ++ xs) filled_with

  pub put_packet : new ≡ front ++ pad many ++ end
  put_packet =
      let rest = length-drop (length old - length end) two in
      final.written ∙ put_chunk_is (length old - length end) two end (omega (arith, two_long, room))
      ∙ ap (λ xs. xs ++ (end ++ drop (length end) (drop (length old - length end) two))) head_is
      ∙ ap (λ xs. (front ++ pad many) ++ (end ++ xs)) (drop_all (length end) (drop (length old - length end) two) (omega (arith, rest, two_long, room)))
      ∙ ap (λ xs. (front ++ pad many) ++ xs) (append-nil end)

-- the same of a packet's parts
pub packet_put : (ps : List Hint) (t : Parts) (form : Form) (old : List ℕ) → least_len ps t form ≤ length old
    → (header ++ written_text ps t form) ++ pad (length old - length trailer - length (header ++ written_text ps t form)) ++ trailer ≡ packet ps t form (length old)
unfolding packet
packet_put ps t form old room =
    let long = length-append header (written_text ps t form) in
    let many : length old - length trailer - length (header ++ written_text ps t form) ≡ length old - least_len ps t form = omega (arith, long, room) in
    ap (λ n. (header ++ written_text ps t form) ++ pad n ++ trailer) many
