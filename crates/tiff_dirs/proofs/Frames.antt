-- What a walk gives depends on the tables of a file alone.
use Rattle.std.proofs.Common.{◌≡◌, ◌==◌, ℕ, zero, suc, ◌+◌, ◌-◌, ◌*◌, ◌<◌, ◌≤◌, nat_le, Bool, true, false, if◌then◌else◌, List, [], ◌∷◌, ◌++◌, refl, sym, ap, ◌∙◌, arith, None, Some, All, Contains}
use Rattle.std.specs.declared.option.Option.{Option}
use Rattle.std.specs.List.{flat_map}
use Rattle.std.proofs.lemmas.Bool.Decides.{nat_tests}
use Rattle.std.proofs.lemmas.List.Elements.{All-nil, All-cons, Contains-append_right}
use native.Mathlib.Nat.{mul-le-mul_left}
use Rattle.xmp_base.specs.declared.file_span.FileSpan.{FileSpan}
use Rattle.tiff_dirs.specs.declared.layout.Layout.{Layout}
use Rattle.tiff_dirs.specs.declared.entry.Entry.{Entry}
use Rattle.tiff_dirs.specs.Numbers.{number, numbers}
use Rattle.tiff_dirs.specs.Layouts.{Widths}
use Rattle.tiff_dirs.specs.Types.{size_of, is_offset}
use Rattle.tiff_dirs.specs.Directories.{span, value_at, entry_at, entries_from, count_at, entries_at, next_place, end_at, named, named_by, named_count}
use Rattle.tiff_dirs.specs.Pictures.{Picture, items_of, ranges, ranges_of, are_paired, first_of_tag, pair, pictures_of}
use Rattle.tiff_dirs.specs.Parts.{entries_in_part}
use Rattle.tiff_dirs.specs.Frames.{bytes_in}
use Rattle.tiff_dirs.specs.Tables.{is_table, table_of, tables_in}
use Rattle.tiff_dirs.proofs.Piece.{number_part, numbers_part, entries_part}
use Rattle.tiff_dirs.proofs.Members.{table_one, table_found, found_tag}
use Rattle.tiff_dirs.proofs.Shown.{find_all}

module _ (a b : List ℕ) (r : FileSpan) (same : bytes_in b r ≡ bytes_in a r) where
  pub number_same : (big : Bool) (w at : ℕ) → r.start ≤ at → at + w ≤ r.end → number big w at b ≡ number big w at a
  number_same big w at low high =
      sym (number_part (bytes_in b r) b r.start (r.end - r.start) refl big w (at - r.start) at (omega arith) (omega arith))
      ∙ ap (number big w (at - r.start)) same
      ∙ number_part (bytes_in a r) a r.start (r.end - r.start) refl big w (at - r.start) at (omega arith) (omega arith)

  pub numbers_same : (big : Bool) (w at n : ℕ) → r.start ≤ at → at + w * n ≤ r.end → numbers big w at n b ≡ numbers big w at n a
  numbers_same big w at n low high =
      sym (numbers_part (bytes_in b r) b r.start (r.end - r.start) refl big w (at - r.start) at n (omega arith) (omega arith))
      ∙ ap (numbers big w (at - r.start) n) same
      ∙ numbers_part (bytes_in a r) a r.start (r.end - r.start) refl big w (at - r.start) at n (omega arith) (omega arith)

  pub entries_same : (l : Layout) → Widths l → (at n : ℕ) → r.start ≤ at → at + l.entry * n ≤ r.end → entries_from l b at n ≡ entries_from l a at n
  entries_same l w at n low high =
      sym (entries_part (bytes_in b r) b r.start (r.end - r.start) refl l w (at - r.start) at n (omega arith) (omega arith))
      ∙ ap (λ (t : List ℕ). entries_in_part l r.start t (at - r.start) n) same
      ∙ entries_part (bytes_in a r) a r.start (r.end - r.start) refl l w (at - r.start) at n (omega arith) (omega arith)

module _ (l : Layout) (widths : Widths l) (a b : List ℕ) (at : ℕ) (same : bytes_in b (span at (end_at l a at)) ≡ bytes_in a (span at (end_at l a at))) where
  pub count_is_same : count_at l b at ≡ count_at l a at
  count_is_same = number_same a b (span at (end_at l a at)) same l.big l.count at (omega arith) (omega arith)

  pub directory_same : entries_at l b at ≡ entries_at l a at
  directory_same =
      ap (entries_from l b (at + l.count)) count_is_same
      ∙ entries_same a b (span at (end_at l a at)) same l widths (at + l.count) (count_at l a at) (omega arith) (omega arith)

  pub end_same : end_at l b at ≡ end_at l a at
  end_same = ap (λ (n : ℕ). at + l.count + l.entry * n + l.word) count_is_same

  pub next_same : number l.big l.word (next_place l b at) b ≡ number l.big l.word (next_place l a at) a
  next_same =
      ap (λ (n : ℕ). number l.big l.word (at + l.count + l.entry * n) b) count_is_same
      ∙ number_same a b (span at (end_at l a at)) same l.big l.word (next_place l a at) (omega arith) (omega arith)

-- an entry's value has its items, one after another
pub record Spans (l : Layout) (e : Entry) : Type 0 where
  pub spans : e.value.end ≡ e.value.start + size_of l e.code * e.count

ends_by : (b : Bool) (s n size : ℕ) → (if b then span s (s + size) else span n (n + size)).end ≡ (if b then span s (s + size) else span n (n + size)).start + size
ends_by true s n size = refl
ends_by false s n size = refl

value_ends : (l : Layout) (file : List ℕ) (at size : ℕ) → (value_at l file at size).end ≡ (value_at l file at size).start + size
unfolding value_at
value_ends l file at size = ends_by (nat_le size l.word) at (number l.big l.word at file) size

entry_spans : (l : Layout) (file : List ℕ) (place : ℕ) → Spans l (entry_at l file place)
unfolding entry_at
entry_spans l file place = record {
  spans = value_ends l file (place + 4 + l.word) (size_of l (number l.big 2 (place + 2) file) * number l.big l.word (place + 4) file);
}

pub entries_spans : (l : Layout) (file : List ℕ) (place n : ℕ) → All (Spans l) (entries_from l file place n)
entries_spans l file place zero = All-nil (Spans l)
entries_spans l file place (suc n) = All-cons (Spans l) (entry_at l file place) (entries_from l file (place + l.entry) n) (entry_spans l file place) (entries_spans l file (place + l.entry) n)

few_named : (b : Bool) (tag n : ℕ) → (if b then named_by tag n else 0) ≤ n
few_named b tag n = grind (arith, nat_tests)

named_table : (b : Bool) (e : Entry) → 0 < (if b then named_by e.tag e.count else 0) → is_table e ≡ true
named_table true e h = grind (arith, nat_tests, h)
named_table false e h = absurd (omega arith)

module _ (l : Layout) (a b : List ℕ) where
  named_by_count : (e : Entry) (n : ℕ) → n ≡ named_count l e → Spans l e → (is_table e ≡ true → bytes_in b e.value ≡ bytes_in a e.value)
      → numbers l.big (size_of l e.code) e.value.start n b ≡ numbers l.big (size_of l e.code) e.value.start n a
  named_by_count e zero h s same = refl
  named_by_count e (suc n) h s same =
      let few = few_named (is_offset l e.code) e.tag e.count in
      let product : size_of l e.code * suc n ≤ size_of l e.code * e.count = mul-le-mul_left (size_of l e.code) (omega (arith, few, h)) in
      let end = s.spans in
      numbers_same a b e.value (same (named_table (is_offset l e.code) e (omega (arith, h)))) l.big (size_of l e.code) e.value.start (suc n) (omega arith) (omega (arith, product, end))

  pub named_same : (es : List Entry) → All (Spans l) es → ((r : FileSpan) → Contains (tables_in es) r → bytes_in b r ≡ bytes_in a r) → flat_map (named l b) es ≡ flat_map (named l a) es
  named_same [] s same = refl
  named_same (e ∷ es) s same =
      ap (λ (t : List ℕ). t ++ flat_map (named l b) es)
      (named_by_count e (named_count l e) refl (s 0 e (omega arith)) (λ t. same e.value (table_one e (tables_in es) t)))
      ∙ ap (λ (t : List ℕ). named l a e ++ t) (named_same es (λ k d h. s (suc k) d (omega arith)) (λ r h. same r (Contains-append_right (table_of e) (tables_in es) r h)))

  items_same : (e : Entry) → Spans l e → bytes_in b e.value ≡ bytes_in a e.value → items_of l b e ≡ items_of l a e
  items_same e s same = let end = s.spans in numbers_same a b e.value same l.big (size_of l e.code) e.value.start e.count (omega arith) (omega (arith, end))

  module _ (es : List Entry) (s : All (Spans l) es) (same : (r : FileSpan) → Contains (tables_in es) r → bytes_in b r ≡ bytes_in a r) where
    found_same : (tag : ℕ) → ((e : Entry) → e.tag ≡ tag → is_table e ≡ true) → (x : Entry) → first_of_tag tag es ≡ Some x → items_of l b x ≡ items_of l a x
    found_same tag t x e =
        items_same x (find_all (Spans l) (λ y. y.tag == tag) es x s e) (same x.value (table_found (λ y. y.tag == tag) es x (t x (found_tag tag es x e)) e))

    pair_by : (o n : ℕ) (x y : Option Entry) → ((e : Entry) → x ≡ Some e → items_of l b e ≡ items_of l a e) → ((e : Entry) → y ≡ Some e → items_of l b e ≡ items_of l a e)
        → ranges_of l b x y ≡ ranges_of l a x y
    pair_by o n None y p q = refl
    pair_by o n (Some x) None p q = refl
    pair_by o n (Some x) (Some y) p q =
        ap (λ (xs : List ℕ). if are_paired l x y then ranges x.place xs (items_of l b y) else []) (p x refl)
        ∙ ap (λ (ys : List ℕ). if are_paired l x y then ranges x.place (items_of l a x) ys else []) (q y refl)

    pair_same : (o n : ℕ) → ((e : Entry) → e.tag ≡ o → is_table e ≡ true) → ((e : Entry) → e.tag ≡ n → is_table e ≡ true) → pair l b es o n ≡ pair l a es o n
    pair_same o n t u = pair_by o n (first_of_tag o es) (first_of_tag n es) (found_same o t) (found_same n u)

    pub pictures_same : pictures_of l b es ≡ pictures_of l a es
    unfolding pictures_of
    pictures_same =
        ap (λ (ps : List Picture). ps ++ (pair l b es 324 325 ++ pair l b es 513 514)) (pair_same 273 279 (λ e h. grind (arith, nat_tests, h)) (λ e h. grind (arith, nat_tests, h)))
        ∙ ap (λ (ps : List Picture). pair l a es 273 279 ++ (ps ++ pair l b es 513 514)) (pair_same 324 325 (λ e h. grind (arith, nat_tests, h)) (λ e h. grind (arith, nat_tests, h)))
        ∙ ap (λ (ps : List Picture). pair l a es 273 279 ++ (pair l a es 324 325 ++ ps)) (pair_same 513 514 (λ e h. grind (arith, nat_tests, h)) (λ e h. grind (arith, nat_tests, h)))
