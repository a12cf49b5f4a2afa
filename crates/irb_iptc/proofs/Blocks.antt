-- The block that stands where its head and its size were read.
use Rattle.std.proofs.Common.{◌≡◌, ◌⊎◌, inl, inr, ℕ, ◌+◌, ◌%◌, ◌<◌, ◌≤◌, List, ◌∷◌, ◌++◌, length, take, drop, sym, ap, ◌∙◌, arith, append_assoc}
use Rattle.std.proofs.lemmas.List.{drop_at, length-append, length-drop, length-take-le, take-append-drop, nil_from_length}
use Rattle.byteorder.specs.Endian.{big_number}
use Rattle.irb_iptc.specs.declared.block.Block.{Block}
use Rattle.irb_iptc.specs.Resources.{Resource, IsPadded, Stands, IsCut, in_body, signature, head, text}
use Rattle.irb_iptc.specs.Listing.{Placed, span}
use Rattle.irb_iptc.specs.Reading.{IsNamed, IsFound}

-- a head and what follows it
pub head-append : (r : Resource) (x : List ℕ) → head r ++ x ≡ signature ++ (r.code ++ (r.named ∷ (r.name ++ (r.size ++ x))))
head-append r x = ap (λ (l : List ℕ). signature ++ l)
    (append_assoc r.code (r.named ∷ (r.name ++ r.size)) x ∙ ap (λ (l : List ℕ). r.code ++ (r.named ∷ l)) (append_assoc r.name r.size x))

pub length-head : (r : Resource) → length (head r) ≡ 5 + length r.code + length r.name + length r.size
length-head r = omega (arith, length-append r.code (r.named ∷ (r.name ++ r.size)), length-append r.name r.size)

pub length-text : (r : Resource) → length (text r) ≡ length (head r) + length r.body + length r.pad
length-text r = omega (arith, length-append (head r) (r.body ++ r.pad), length-append r.body r.pad)

abbrev placed_as : ℕ → ℕ → ℕ → ℕ → ℕ → Placed
placed_as id start end from to = record { id = id; whole = span start end; body = span from to }

pub placed_eq : (id start end from to id' end' from' to' : ℕ) → id ≡ id' → end ≡ end' → from ≡ from' → to ≡ to' → placed_as id start end from to ≡ placed_as id' start end' from' to'
placed_eq id start end from to id' end' from' to' a b c d =
    ap (λ (n : ℕ). placed_as n start end from to) a ∙ ap (λ (n : ℕ). placed_as id' start n from to) b
    ∙ ap (λ (n : ℕ). placed_as id' start end' n to) c ∙ ap (λ (n : ℕ). placed_as id' start end' from' n) d

module _ (rest : List ℕ) (id size_at : ℕ) (n : IsNamed rest id size_at) (piece : List ℕ) (read : piece ≡ take 4 (drop size_at rest)) (full : length piece ≡ 4) where
  before : List ℕ
  before = signature ++ (n.code ++ (n.named ∷ n.name))

  length-before : length before ≡ size_at
  unfolding before
  length-before = omega (arith, length-append n.code (n.named ∷ n.name), n.coded, n.place)

  parted : rest ≡ before ++ n.more
  unfolding before
  parted = n.is ∙ ap (λ (l : List ℕ). signature ++ l) (sym (append_assoc n.code (n.named ∷ n.name) n.more))

  at_size : drop size_at rest ≡ n.more
  at_size = ap (drop size_at) parted ∙ drop_at before n.more size_at length-before

  piece_is : piece ≡ take 4 n.more
  piece_is = read ∙ ap (take 4) at_size

  after : List ℕ
  after = drop 4 n.more

  more_is : n.more ≡ piece ++ after
  unfolding after
  more_is = sym (take-append-drop 4 n.more) ∙ ap (λ (l : List ℕ). l ++ drop 4 n.more) (sym piece_is)

  fields : rest ≡ signature ++ (n.code ++ (n.named ∷ (n.name ++ (piece ++ after))))
  fields = n.is ∙ ap (λ (l : List ℕ). signature ++ (n.code ++ (n.named ∷ (n.name ++ l)))) more_is

  length-rest : length rest ≡ size_at + 4 + length after
  length-rest = omega (arith, ap length parted, length-before, length-append before n.more, ap length more_is, length-append piece after, full)

  pub cut_in_body : length rest < size_at + 4 + big_number 4 piece → IsCut rest
  cut_in_body h = in_body n.code n.name piece after n.named n.coded n.roomy full fields (omega (arith, length-rest))

  module _ (size pad : ℕ) (sized : size ≡ big_number 4 piece) (fits : size_at + 4 + size ≤ length rest) where
    left : List ℕ
    left = drop size after

    length-left : size_at + 4 + size + length left ≡ length rest
    unfolding left
    length-left = omega (arith, length-rest, length-drop size after)

    module _ (how : ((pad ≡ size % 2) × (size_at + 4 + size + pad ≤ length rest)) ⊎ ((pad ≡ 0) × (size_at + 4 + size ≡ length rest))) where
      here : Resource
      here = record { code = n.code; named = n.named; name = n.name; size = piece; body = take size after; pad = take pad left }

      length-body : length (take size after) ≡ size
      length-body = length-take-le size after (omega (arith, length-rest))

      length-pad : length (take pad left) ≡ pad
      length-pad = length-take-le pad left (elim how [ inl h ↦ omega (arith, length-left, h.1) | inr h ↦ omega (arith, h.0) ])

      padded : IsPadded here (drop pad left)
      unfolding here
      padded = elim how [
        | inl h ↦ inl (length-pad ∙ h.0 ∙ ap (λ (k : ℕ). k % 2) (sym length-body))
        | inr h ↦ inr (
          nil_from_length (take pad left) (omega (arith, length-pad, h.0)),
          nil_from_length (drop pad left) (omega (arith, length-drop pad left, length-left, h.1)),
        )
      ]

      split : after ≡ (take size after ++ take pad left) ++ drop pad left
      unfolding left
      split = sym (take-append-drop size after) ∙ ap (λ (l : List ℕ). take size after ++ l) (sym (take-append-drop pad (drop size after)))
          ∙ sym (append_assoc (take size after) (take pad (drop size after)) (drop pad (drop size after)))

      is : rest ≡ text here ++ drop pad left
      unfolding here
      is = fields ∙ ap (λ (l : List ℕ). signature ++ (n.code ++ (n.named ∷ (n.name ++ (piece ++ l))))) split
          ∙ sym (head-append here ((take size after ++ take pad left) ++ drop pad left))
          ∙ sym (append_assoc (head here) (take size after ++ take pad left) (drop pad left))

      length-here : length (head here) ≡ size_at + 4
      unfolding here
      length-here = omega (arith, length-head here, n.coded, n.place, full)

      stands : Stands here rest (drop pad left)
      unfolding here
      stands = record {
        whole = record { code = n.coded; name = n.roomy; size = full; body = sym sized ∙ sym length-body };
        is = is;
        padded = padded;
      }

      pub found : (block : Block) → block.id ≡ id → block.body ≡ block.start + size_at + 4 → block.size ≡ size → block.pad ≡ pad
          → IsFound rest block.start block
      unfolding here
      found block a b c d = record {
        resource = here;
        more = drop pad left;
        stands = stands;
        is = placed_eq block.id block.start (block.body + block.size + block.pad) block.body (block.body + block.size) _ _ _ _
            (a ∙ n.id_is) (omega (arith, length-text here, length-here, length-body, length-pad)) (omega (arith, length-here)) (omega (arith, length-here, length-body));
      }
