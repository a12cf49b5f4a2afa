use Rattle.std.proofs.Common.{◌≡◌, ◌∙◌, ◌*◌, ◌-◌, ◌+◌, ◌≤◌, List, [], ◌∷◌, ℕ, ◌++◌, take, drop, length, sym, ap, arith}
use Rattle.std.proofs.lemmas.List.{take_all}
use Rattle.byteorder.specs.Endian.{big_bytes}
use Rattle.jpeg_extended.specs.Portions.{signature}
use Rattle.jpeg_extended.specs.Written.{part_len, part_size}
use Rattle.jpeg_extended.proofs.Segments.{flat, next, part_is, part_length}
use Rattle.jpeg_extended.proofs.writing.portion_into.Goals as goal

pub returns : goal.returns
returns c =
    let text = c.args.text.now in
    let offset = part_size * c.args.k in
    let part = take part_size (drop offset text) in
    let taken = take (c.min.result - offset) (drop offset text) in
    let same : taken ≡ part = part_is text c.args.k c.min.result (omega (arith, c.min.ensures)) (omega (arith, c.requires.there)) in
    let name = c.args.name.now in
    let p2 = c.to_be_bytes.result in
    let p5 = c.to_be_bytes-2.result in
    let p6 = c.to_be_bytes-3.result in
    let one : take c.put-at.result c.put-at.new.to ≡ 0xFF ∷ 0xE1 ∷ [] = c.put-at.ensures.text in
    let two : take c.put-at-2.result c.put-at-2.new.to ≡ (0xFF ∷ 0xE1 ∷ []) ++ p2 = next c.put-at.result _ c.put-at.new.to _ _ p2 c.put-at-2.ensures.text one in
    let three : take c.put-at-3.result c.put-at-3.new.to ≡ ((0xFF ∷ 0xE1 ∷ []) ++ p2) ++ signature = next c.put-at-2.result _ c.put-at-2.new.to _ _ signature c.put-at-3.ensures.text two in
    let named : c.bytes.result.now ≡ name = c.bytes.ensures.value in
    let four : take c.put-at-4.result c.put-at-4.new.to ≡ (((0xFF ∷ 0xE1 ∷ []) ++ p2) ++ signature) ++ c.bytes.result.now = next c.put-at-3.result _ c.put-at-3.new.to _ _ _ c.put-at-4.ensures.text three in
    let five : take c.put-at-5.result c.put-at-5.new.to ≡ ((((0xFF ∷ 0xE1 ∷ []) ++ p2) ++ signature) ++ c.bytes.result.now) ++ p5 = next c.put-at-4.result _ c.put-at-4.new.to _ _ p5 c.put-at-5.ensures.text four in
    let six : take c.put-at-6.result c.put-at-6.new.to ≡ (((((0xFF ∷ 0xE1 ∷ []) ++ p2) ++ signature) ++ c.bytes.result.now) ++ p5) ++ p6 = next c.put-at-5.result _ c.put-at-5.new.to _ _ p6 c.put-at-6.ensures.text five in
    let seven : take c.put.result c.put.new.to ≡ ((((((0xFF ∷ 0xE1 ∷ []) ++ p2) ++ signature) ++ c.bytes.result.now) ++ p5) ++ p6) ++ taken = next c.put-at-6.result _ c.put-at-6.new.to _ _ taken c.put.ensures.text six in
    let size : p2 ≡ big_bytes 2 (77 + length part) = c.to_be_bytes.ensures ∙ ap (λ (l : List ℕ). big_bytes 2 (77 + length l)) same in
    let full : p5 ≡ big_bytes 4 (length text) = c.to_be_bytes-2.ensures in
    let place : p6 ≡ big_bytes 4 offset = c.to_be_bytes-3.ensures in
    let len2 : length p2 ≡ 2 = ap length size in
    let len5 : length p5 ≡ 4 = ap length full in
    let len6 : length p6 ≡ 4 = ap length place in
    let len4 : length c.bytes.result.now ≡ 32 = ap length named ∙ c.bytes.ensures.capitals.0 in
    let len7 : length taken ≡ part_len (length text) c.args.k = ap length same ∙ part_length text c.args.k in
    let ends : length c.put.new.to ≤ c.put.result = omega (
      arith,
      c.put.auto.to,
      c.put-at-6.auto.to,
      c.put-at-5.auto.to,
      c.put-at-4.auto.to,
      c.put-at-3.auto.to,
      c.put-at-2.auto.to,
      c.put-at.auto.to,
      c.put.ensures.next,
      c.put-at-6.ensures.next,
      c.put-at-5.ensures.next,
      c.put-at-4.ensures.next,
      c.put-at-3.ensures.next,
      c.put-at-2.ensures.next,
      c.put-at.ensures.next,
      c.requires.room,
      len2,
      len4,
      len5,
      len6,
      len7,
    ) in
    let whole : c.put.new.to ≡ take c.put.result c.put.new.to = sym (take_all c.put.result c.put.new.to ends) in
    whole ∙ seven ∙ flat (0xFF ∷ 0xE1 ∷ []) p2 signature c.bytes.result.now p5 p6 taken
    ∙ (λ i. 0xFF ∷ 0xE1 ∷ (size i ++ (signature ++ (named i ++ (full i ++ (place i ++ same i))))))
