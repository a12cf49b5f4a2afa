-- The values of offsets and lengths among those of a directory, and how many of the offsets matter.
use Rattle.std.proofs.Common.{◌≡◌, ◌==◌, ℕ, zero, suc, ◌+◌, ◌-◌, ◌<◌, ◌≤◌, ◌⊎◌, inl, inr, min, Bool, true, false, if◌then◌else◌, List, [], ◌∷◌, ◌++◌, length, take, refl, sym, ap, subst, ◌∙◌, arith, Some, Contains}
use Rattle.std.specs.declared.option.Option.{Option}
use Rattle.std.specs.List.{find, slice_get}
use Rattle.std.proofs.lemmas.Bool.Decides.{nat_tests}
use Rattle.std.proofs.Math.Seq.{take-append-add}
use Rattle.std.proofs.lemmas.List.Elements.{Contains-append_left, Contains-append_right, Contains-append_cases}
use Rattle.xmp_base.specs.declared.file_span.FileSpan.{FileSpan}
use Rattle.tiff_dirs.specs.declared.layout.Layout.{Layout}
use Rattle.tiff_dirs.specs.declared.entry.Entry.{Entry}
use Rattle.tiff_dirs.specs.Numbers.{number, numbers}
use Rattle.tiff_dirs.specs.Types.{size_of, is_offset}
use Rattle.tiff_dirs.specs.Directories.{named, named_by}
use Rattle.xmp_base.specs.Device.{DeskState}
use Rattle.tiff_dirs.specs.Tables.{Reads, is_table, table_of, tables_in}
use Rattle.tiff_dirs.proofs.Loads.{reads_trans, reads_wider}
use Rattle.tiff_dirs.specs.Walking.{capped}
use Rattle.tiff_dirs.proofs.Capped.{capped_none}

pub table_if_named : (e : Entry) (n : ℕ) → 0 < named_by e.tag n → is_table e ≡ true
table_if_named e n h = grind (arith, nat_tests, h)

one_by : (b : Bool) (v : FileSpan) → b ≡ true → Contains (if b then v ∷ [] else []) v
one_by true v e = (0, omega arith, refl)
one_by false v e = (cc)

pub table_one : (e : Entry) (rest : List FileSpan) → is_table e ≡ true → Contains (table_of e ++ rest) e.value
table_one e rest h = Contains-append_left (table_of e) rest e.value (one_by (is_table e) e.value h)

-- an entry that is found
found_by : (b : Bool) (x e : Entry) (more : List Entry) (rest : Option Entry) → is_table e ≡ true → (rest ≡ Some e → Contains (tables_in more) e.value)
    → (if b then Some x else rest) ≡ Some e → Contains (tables_in (x ∷ more)) e.value
found_by true x e more rest t k i = let same : x ≡ e = (cc i) in
    subst (λ (y : Entry). Contains (tables_in (y ∷ more)) e.value) (sym same) (table_one e (tables_in more) t)
found_by false x e more rest t k i = Contains-append_right (table_of x) (tables_in more) e.value (k i)

pub table_found : (p : Entry → Bool) (es : List Entry) (e : Entry) → is_table e ≡ true → find p es ≡ Some e → Contains (tables_in es) e.value
table_found p [] e t i = (cc)
table_found p (x ∷ xs) e t i = found_by (p x) x e xs (find p xs) t (λ j. table_found p xs e t j) i

tag_by : (tag : ℕ) (b : Bool) (x e : Entry) (rest : Option Entry) → (x.tag == tag) ≡ b → (rest ≡ Some e → e.tag ≡ tag) → (if b then Some x else rest) ≡ Some e → e.tag ≡ tag
tag_by tag true x e rest h k j = let same : x ≡ e = (cc j) in let here : x.tag ≡ tag = grind (arith, nat_tests, h) in subst (λ (y : Entry). y.tag ≡ tag) same here
tag_by tag false x e rest h k j = k j

pub found_tag : (tag : ℕ) (es : List Entry) (e : Entry) → find (λ x. x.tag == tag) es ≡ Some e → e.tag ≡ tag
found_tag tag [] e i = (cc)
found_tag tag (x ∷ xs) e i = tag_by tag (x.tag == tag) x e (find (λ y. y.tag == tag) xs) refl (λ j. found_tag tag xs e j) i

-- those of one entry are among those of all
pub table_among : (es : List Entry) (i : ℕ) (e : Entry) (r : FileSpan) → slice_get es i ≡ Some e → Contains (tables_in (e ∷ [])) r → Contains (tables_in es) r
table_among [] i e r at m = (cc)
table_among (x ∷ xs) zero e r at m =
    let same : x ≡ e = (cc at) in
    elim (Contains-append_cases (table_of e) [] r m) [
      | inl k ↦ subst (λ (y : Entry). Contains (tables_in (y ∷ xs)) r) (sym same) (Contains-append_left (table_of e) (tables_in xs) r k)
      | inr k ↦ (let j = k.1 in absurd (omega arith))
    ]
table_among (x ∷ xs) (suc i) e r at m = Contains-append_right (table_of x) (tables_in xs) r (table_among xs i e r at m)

numbers_take : (big : Bool) (w at r n : ℕ) (file : List ℕ) → r ≤ n → take r (numbers big w at n file) ≡ numbers big w at r file
numbers_take big w at zero n file h = refl
numbers_take big w at (suc r) zero file h = absurd (omega arith)
numbers_take big w at (suc r) (suc n) file h = ap (λ (t : List ℕ). number big w at file ∷ t) (numbers_take big w (at + w) r n file (omega arith))

order : (m n : ℕ) → (m ≤ n) ⊎ (n < m)
order zero n = inl (omega arith)
order (suc m) zero = inr (omega arith)
order (suc m) (suc n) = elim (order m n) [ inl h ↦ inl (omega arith) | inr h ↦ inr (omega arith) ]

numbers_min : (big : Bool) (w at r n : ℕ) (file : List ℕ) → take r (numbers big w at (min n r) file) ≡ take r (numbers big w at n file)
numbers_min big w at r n file =
    elim (order n r) [
      | inl h ↦ (let e : min n r ≡ n = omega arith in ap (λ (k : ℕ). take r (numbers big w at k file)) e)
      | inr h ↦ (let e : min n r ≡ r = omega arith in ap (λ (k : ℕ). take r (numbers big w at k file)) e ∙ numbers_take big w at r r file (omega arith) ∙ sym (numbers_take big w at r n file (omega arith)))
    ]

room_for : (old xs : List ℕ) → length old ≤ 1001 → take 1001 (old ++ xs) ≡ old ++ take (1001 - length old) xs
room_for old xs h = let e : 1001 ≡ length old + (1001 - length old) = omega arith in ap (λ (n : ℕ). take n (old ++ xs)) e ∙ take-append-add old xs (1001 - length old)

-- no more of them than there is room for
pub capped_cut : (old : List ℕ) (big : Bool) (w at n : ℕ) (file : List ℕ) → length old ≤ 1001
    → capped (old ++ numbers big w at (min n (1001 - length old)) file) ≡ capped (old ++ numbers big w at n file)
unfolding capped
capped_cut old big w at n file h =
    room_for old (numbers big w at (min n (1001 - length old)) file) h
    ∙ ap (λ (t : List ℕ). old ++ t) (numbers_min big w at (1001 - length old) n file)
    ∙ sym (room_for old (numbers big w at n file) h)

named_is : (b : Bool) (l : Layout) (e : Entry) (file : List ℕ) → b ≡ true
    → numbers l.big (size_of l e.code) e.value.start (named_by e.tag e.count) file ≡ numbers l.big (size_of l e.code) e.value.start (if b then named_by e.tag e.count else 0) file
named_is true l e file h = refl
named_is false l e file h = (cc)

pub reached_entry : (l : Layout) (e : Entry) (old : List ℕ) (file : List ℕ) (count : ℕ) → is_offset l e.code ≡ true → length old ≤ 1001 → count ≡ min (named_by e.tag e.count) (1001 - length old)
    → capped (old ++ numbers l.big (size_of l e.code) e.value.start count file) ≡ capped (old ++ named l file e)
reached_entry l e old file count h few is =
    ap (λ (n : ℕ). capped (old ++ numbers l.big (size_of l e.code) e.value.start n file)) is
    ∙ capped_cut old l.big (size_of l e.code) e.value.start (named_by e.tag e.count) file few
    ∙ ap (λ (t : List ℕ). capped (old ++ t)) (named_is (is_offset l e.code) l e file h)

pub named_none : (l : Layout) (e : Entry) (old : List ℕ) (file : List ℕ) (b : Bool) → is_offset l e.code ≡ false → length old ≤ 1001 → old ≡ capped (old ++ named l file e)
named_none l e old file b h few =
    capped_none old few
    ∙ ap (λ (b : Bool). capped (old ++ numbers l.big (size_of l e.code) e.value.start (if b then named_by e.tag e.count else 0) file)) (sym h)

only_by : (b : Bool) (v r : FileSpan) → b ≡ true → Contains (v ∷ []) r → Contains ((if b then v ∷ [] else []) ++ []) r
only_by true v r h k = k
only_by false v r h k = (cc)

pub table_only : (e : Entry) → is_table e ≡ true → (r : FileSpan) → Contains (e.value ∷ []) r → Contains (tables_in (e ∷ [])) r
table_only e h r k = only_by (is_table e) e.value r h k

two_in : (o n : FileSpan) (xs : List FileSpan) → Contains xs o → Contains xs n → (r : FileSpan) → Contains (o ∷ n ∷ []) r → Contains xs r
two_in o n xs a b r (zero, low, is) = subst (Contains xs) is a
two_in o n xs a b r (suc zero, low, is) = subst (Contains xs) is b
two_in o n xs a b r (suc (suc k), low, is) = absurd (omega arith)

-- the values of the first entries of two tags
pub tags_read : (s t : DeskState) (name : List ℕ) (es : List Entry) (tag len_tag : ℕ) (o n : Entry) → ((x : Entry) → x.tag ≡ tag → is_table x ≡ true) → ((x : Entry) → x.tag ≡ len_tag → is_table x ≡ true)
    → find (λ x. x.tag == tag) es ≡ Some o → find (λ x. x.tag == len_tag) es ≡ Some n → Reads s t name (λ _. o.value ∷ n.value ∷ []) → Reads s t name (λ _. tables_in es)
tags_read s t name es tag len_tag o n is len_is found len_found a =
    reads_wider name s t (λ _. o.value ∷ n.value ∷ []) (λ _. tables_in es) a
    (λ files told. two_in o.value n.value (tables_in es) (table_found (λ x. x.tag == tag) es o (is o (found_tag tag es o found)) found)
    (table_found (λ x. x.tag == len_tag) es n (len_is n (found_tag len_tag es n len_found)) len_found))

-- reads of one value, and then of another
pub first_read : (s t : DeskState) (name : List ℕ) (o n : FileSpan) → Reads s t name (λ _. o ∷ []) → Reads s t name (λ _. o ∷ n ∷ [])
first_read s t name o n a = reads_wider name s t (λ _. o ∷ []) (λ _. o ∷ n ∷ []) a (λ files told r h. Contains-append_left (o ∷ []) (n ∷ []) r h)

pub both_read : (s t u : DeskState) (name : List ℕ) (o n : FileSpan) → Reads s t name (λ _. o ∷ []) → Reads t u name (λ _. n ∷ []) → Reads s u name (λ _. o ∷ n ∷ [])
both_read s t u name o n a b =
    reads_trans name s t u (λ _. o ∷ n ∷ []) (first_read s t name o n a)
    (reads_wider name t u (λ _. n ∷ []) (λ _. o ∷ n ∷ []) b (λ files told r h. Contains-append_right (o ∷ []) (n ∷ []) r h))
