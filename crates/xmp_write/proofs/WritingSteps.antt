-- Lines that are put after one another.
use Rattle.std.proofs.Common.{◌≡◌, ℕ, ◌+◌, ◌<◌, List, [], ◌∷◌, ◌++◌, length, take, get_or, sym, ap, ◌∙◌, arith}
use Rattle.std.specs.Prelude.{Result, OnOk}
use Rattle.std.specs.List.{flat_map}
use Rattle.std.proofs.lemmas.List.{append_assoc, append-nil, take_more, length-take-le}
use Rattle.std.proofs.lemmas.Result.{on_ok_weaker}
use Rattle.xmp_values.specs.declared.hints.Hint.{Hint}
use Rattle.xmp_tree.specs.declared.nested.Value.{Value, out-Value}
use Rattle.xmp_tree.specs.declared.nested.Member.{Member}
use Rattle.xmp_write.specs.declared.listing.Writer.{Writer}
use Rattle.xmp_write.specs.Lines.{qualifier_path, item_path, value_lines, shape_lines, member_lines}
use Rattle.xmp_write.specs.Writing.{Adds, items_from}
use Rattle.xmp_write.proofs.LineLevels.{line, value_lines-out}

joined : (old one two : Writer) (first second : List ℕ) → Adds old one first → Adds one two second → Adds old two (first ++ second)
joined old one two first second a b = record {
  text = b.text ∙ ap (λ text. text ++ second) a.text ∙ append_assoc old.text.items first second;
  path = b.path ∙ a.path;
}

module _ (ps : List Hint) where
  -- a value's line, its qualifiers' and its parts'
  pub value_written : {T E : Type 0} (result : Result T E) (v : Value) (quals : List Member) (old one two new : Writer) → quals ≡ (out-Value v).quals
      → Adds old one (line ps old.path.items v)
      → Adds one two (flat_map (member_lines ps (qualifier_path one.path.items)) quals)
      → OnOk result (Adds two new (shape_lines ps two.path.items (out-Value v).shape))
      → OnOk result (Adds old new (value_lines ps old.path.items v))
  value_written result v quals old one two new same a b c =
      let path = old.path.items in
      let shape = (out-Value v).shape in
      let second : Adds one two (flat_map (member_lines ps (qualifier_path path)) (out-Value v).quals) =
      record {
        text = b.text ∙ ap (λ front. one.text.items ++ flat_map (member_lines ps (qualifier_path front)) quals) a.path ∙ ap (λ ms. one.text.items ++ flat_map (member_lines ps (qualifier_path path)) ms) same;
        path = b.path;
      } in
      let both = joined old one two (line ps path v) (flat_map (member_lines ps (qualifier_path path)) (out-Value v).quals) a second in
      on_ok_weaker result
      (λ (d : Adds two new (shape_lines ps two.path.items shape)).
      let third : Adds two new (shape_lines ps path shape) = record { text = d.text ∙ ap (λ front. two.text.items ++ shape_lines ps front shape) both.path; path = d.path } in
      let all = joined old two new (line ps path v ++ flat_map (member_lines ps (qualifier_path path)) (out-Value v).quals) (shape_lines ps path shape) both third in
      record { text = all.text ∙ ap (λ lines. old.text.items ++ lines) (sym (value_lines-out ps path v)); path = all.path })
      c

  items_from-push : (path : List ℕ) (n : ℕ) (items : List Value) (item : Value) → items_from ps path n (items ++ item ∷ []) ≡ items_from ps path n items ++ value_lines ps (item_path path (n + length items)) item
  items_from-push path n [] item =
      let same : n ≡ n + 0 = omega arith in
      append-nil (value_lines ps (item_path path n) item) ∙ ap (λ m. value_lines ps (item_path path m) item) same
  items_from-push path n (v ∷ items) item =
      let next : (n + 1) + length items ≡ n + length (v ∷ items) = omega arith in
      ap (λ lines. value_lines ps (item_path path n) v ++ lines)
      (items_from-push path (n + 1) items item ∙ ap (λ m. items_from ps path (n + 1) items ++ value_lines ps (item_path path m) item) next)
      ∙ sym (append_assoc (value_lines ps (item_path path n) v) (items_from ps path (n + 1) items) (value_lines ps (item_path path (n + length (v ∷ items))) item))

  -- the lines of one item more
  pub item_written : (items : List Value) (i : ℕ) (item : Value) (old one new : Writer) → i < length items → item ≡ get_or items i item
      → Adds old one (items_from ps old.path.items 1 (take i items)) → Adds one new (value_lines ps (item_path one.path.items (i + 1)) item)
      → Adds old new (items_from ps old.path.items 1 (take (i + 1) items))
  item_written items i item old one new within here a b =
      let path = old.path.items in
      let counted : 1 + length (take i items) ≡ i + 1 = omega (arith, length-take-le i items (omega arith)) in
      let more = ap (items_from ps path 1) (take_more items i item within ∙ ap (λ v. take i items ++ v ∷ []) (sym here))
      ∙ items_from-push path 1 (take i items) item ∙ ap (λ m. items_from ps path 1 (take i items) ++ value_lines ps (item_path path m) item) counted in
      let second : Adds one new (value_lines ps (item_path path (i + 1)) item) = record { text = b.text ∙ ap (λ front. one.text.items ++ value_lines ps (item_path front (i + 1)) item) a.path; path = b.path } in
      let both = joined old one new (items_from ps path 1 (take i items)) (value_lines ps (item_path path (i + 1)) item) a second in
      record { text = both.text ∙ ap (λ lines. old.text.items ++ lines) (sym more); path = both.path }
