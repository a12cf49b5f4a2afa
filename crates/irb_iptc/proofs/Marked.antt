-- The dataset whose marker stands at a place of a block.
use Rattle.std.proofs.Common.{◌≡◌, ℕ, ◌+◌, ◌-◌, ◌<◌, ◌≤◌, List, ◌∷◌, ◌++◌, length, get_or, take, drop, sym, ap, subst, ◌∙◌, arith, append_assoc}
use Rattle.std.proofs.lemmas.List.{drop-drop, drop_more, length-append, length-drop, length-take-le, take-append-drop, take_rest}
use Rattle.xmp_values.specs.declared.rules.Rule.{Rule}
use Rattle.xmp_values.specs.declared.rules.Rule.TheVariants.{DatasetOut}
use Rattle.irb_iptc.specs.declared.entry.Entry.{Entry}
use Rattle.irb_iptc.specs.Datasets.{Dataset, Counts, Breaks, too_wide, in_head, in_count, in_bytes}
use Rattle.irb_iptc.specs.Entries.{IsEntry, NoCount, wide, short}

-- the rest of a rest
pub rest_of_rest : (m n : ℕ) (xs : List ℕ) → take (length (take (length xs - n) (drop n xs)) - m) (drop m (take (length xs - n) (drop n xs))) ≡ drop (n + m) xs
rest_of_rest m n xs = take_rest (take (length xs - n) (drop n xs)) m ∙ ap (drop m) (take_rest xs n) ∙ drop-drop m n xs

module _ (block : List ℕ) (at : ℕ) (within : at < length block) (marked : get_or block at 0 ≡ 0x1C) where
  begins : drop at block ≡ 0x1C ∷ drop (at + 1) block
  begins = drop_more block at 0 within ∙ ap (λ (b : ℕ). b ∷ drop (at + 1) block) marked

  pub head_out : length block - (at + 1) < 4 → Breaks (drop at block) DatasetOut
  head_out h = in_head (drop (at + 1) block) begins (omega (arith, length-drop (at + 1) block))

  module _ (long : 4 ≤ length block - (at + 1)) where
    a : ℕ
    a = get_or block (at + 1) 0

    b : ℕ
    b = get_or block (at + 1 + 1) 0

    bytes : List ℕ
    bytes = drop (at + 1 + 2) block

    fields : drop at block ≡ 0x1C ∷ a ∷ b ∷ bytes
    unfolding a b bytes
    fields = begins ∙ ap (λ (l : List ℕ). 0x1C ∷ l) (drop_more block (at + 1) 0 (omega arith)
        ∙ ap (λ (l : List ℕ). get_or block (at + 1) 0 ∷ l) (drop_more block (at + 1 + 1) 0 (omega arith)
        ∙ ap (λ (k : ℕ). get_or block (at + 1 + 1) 0 ∷ drop k block) (omega arith)))

    by_rule : (rule : Rule) → NoCount bytes rule → Breaks (drop at block) rule
    by_rule _ (wide high low more e h w) = too_wide a b high low more (fields ∙ ap (λ (l : List ℕ). 0x1C ∷ a ∷ b ∷ l) e) h w
    by_rule _ (short high low more e h p q l) = in_count a b high low more (fields ∙ ap (λ (l : List ℕ). 0x1C ∷ a ∷ b ∷ l) e) h p q l

    pub no_count : (rule : Rule) → NoCount (drop (at + 1 + 2) block) rule → Breaks (drop at block) rule
    unfolding bytes
    no_count rule n = by_rule rule n

    module _ (taken len : ℕ) (most : taken ≤ length (drop (at + 1 + 2) block)) (counts : Counts (take taken (drop (at + 1 + 2) block)) len) where
      length-bytes : length (drop (at + 1 + 2) block) + (at + 3) ≡ length block
      length-bytes = omega (arith, length-drop (at + 1 + 2) block)

      count : List ℕ
      count = take taken (drop (at + 1 + 2) block)

      after : List ℕ
      after = drop taken (drop (at + 1 + 2) block)

      spelled : drop at block ≡ 0x1C ∷ a ∷ b ∷ (count ++ after)
      unfolding count after bytes
      spelled = fields ∙ ap (λ (l : List ℕ). 0x1C ∷ a ∷ b ∷ l) (sym (take-append-drop taken (drop (at + 1 + 2) block)))

      length-after : length after + taken + (at + 3) ≡ length block
      unfolding after
      length-after = omega (arith, length-bytes, length-drop taken (drop (at + 1 + 2) block))

      pub bytes_out : length block - (at + 3 + taken) < len → Breaks (drop at block) DatasetOut
      unfolding count
      bytes_out h = in_bytes a b len count after spelled counts (omega (arith, length-after))

      module _ (fits : len ≤ length block - (at + 3 + taken)) where
        here : Dataset
        here = record { section = a; number = b; count = count; bytes = take len after }

        start : after ≡ drop (at + 3 + taken) block
        unfolding after
        start = drop-drop taken (at + 1 + 2) block ∙ ap (λ (k : ℕ). drop k block) (omega arith)

        length-taken : length (take len after) ≡ len
        length-taken = length-take-le len after (omega (arith, length-after))

        pub entry_found : (e : Entry) → e.start ≡ at + 3 + taken → e.len ≡ len → e.section ≡ get_or block (at + 1) 0 → e.number ≡ get_or block (at + 1 + 1) 0 → IsEntry block at e
        unfolding here count a b
        entry_found e i j k l =
            let next : drop len after ≡ drop (e.start + e.len) block =
            ap (drop len) start ∙ drop-drop len (at + 3 + taken) block ∙ ap (λ (n : ℕ). drop n block) (omega (arith, i, j)) in
            record {
              dataset = here;
              is = subst (λ (n : ℕ). Counts count n) (sym length-taken) counts;
              bytes = spelled ∙ ap (λ (l : List ℕ). 0x1C ∷ a ∷ b ∷ l) (ap (λ (l : List ℕ). count ++ l) (sym (take-append-drop len after) ∙ ap (λ (l : List ℕ). take len after ++ l) next)
                  ∙ sym (append_assoc count (take len after) (drop (e.start + e.len) block)));
              field = ap (λ (n : ℕ). (n, e.number, take e.len (drop e.start block))) k ∙ ap (λ (n : ℕ). (a, n, take e.len (drop e.start block))) l
                  ∙ ap (λ (l : List ℕ). (a, b, l)) (ap (λ (n : ℕ). take n (drop e.start block)) j ∙ ap (λ (n : ℕ). take len (drop n block)) i ∙ ap (take len) (sym start));
              place = omega (arith, i, j, length-append count (take len after), length-taken, length-take-le taken (drop (at + 1 + 2) block) most);
            }
