-- Directories whose entries are copies of others, with a packet's entry among them: what is read by them is the same.
use Rattle.std.proofs.Common.{◌≡◌, ◌≢◌, ◌==◌, ◌∙◌, ℕ, zero, suc, ◌+◌, ◌*◌, ◌≤◌, ◌&&◌, ◌||◌, nat_lt, Bool, true, false, if◌then◌else◌, List, [], ◌∷◌, ◌++◌, refl, sym, ap, arith, None, Some}
use Rattle.std.specs.declared.option.Option.{Option}
use Rattle.std.specs.List.{flat_map}
use Rattle.std.proofs.lemmas.Bool.Decides.{nat_tests}
use Rattle.std.proofs.lemmas.List.{map-append}
use Rattle.xmp_base.specs.declared.file_span.FileSpan.{FileSpan}
use Rattle.tiff_dirs.specs.declared.layout.Layout.{Layout}
use Rattle.tiff_dirs.specs.declared.entry.Entry.{Entry}
use Rattle.tiff_dirs.specs.Numbers.{numbers}
use Rattle.tiff_dirs.specs.Types.{is_offset, is_packet, is_picture, is_wide, size_of}
use Rattle.tiff_dirs.specs.Directories.{is_apart, named, named_by, named_count}
use Rattle.tiff_dirs.specs.Overlaps.{own_of}
use Rattle.tiff_dirs.specs.Pictures.{Picture, are_paired, first_of_tag, items_of, pair, pictures_of, range_at, ranges, ranges_of, spans_of}
use Rattle.tiff_relocation.proofs.Copied.{IsCopy, IsPacket}

few_named : (b : Bool) (tag n : ℕ) → (if b then named_by tag n else 0) ≤ n
few_named b tag n = grind (arith, nat_tests)

-- BYTE is no type of offsets
not_offset : (l : Layout) → is_offset l 1 ≡ false
not_offset l = by (is_wide l)
  where
    by : (t : Bool) → (1 == 4 || 1 == 13 || (t && (1 == 16 || 1 == 18))) ≡ false
    by true = refl
    by false = refl

-- ranges are the same wherever their entries stand
range_moved : (at to o n : ℕ) → spans_of (range_at to o n) ≡ spans_of (range_at at o n)
range_moved at to o n = by (n == 0)
  where
    by : (t : Bool) → spans_of (if t then [] else record { place = to; range = record { start = o; end = o + n } } ∷ []) ≡ spans_of (if t then [] else record { place = at; range = record { start = o; end = o + n } } ∷ [])
    by true = refl
    by false = refl

ranges_moved : (at to : ℕ) (os ns : List ℕ) → spans_of (ranges to os ns) ≡ spans_of (ranges at os ns)
ranges_moved at to [] ns = refl
ranges_moved at to (o ∷ os) [] = refl
ranges_moved at to (o ∷ os) (n ∷ ns) =
    map-append (λ p. p.range) (range_at to o n) (ranges to os ns)
    ∙ ap (λ (t : List FileSpan). t ++ spans_of (ranges to os ns)) (range_moved at to o n)
    ∙ ap (λ (t : List FileSpan). spans_of (range_at at o n) ++ t) (ranges_moved at to os ns)
    ∙ sym (map-append (λ p. p.range) (range_at at o n) (ranges at os ns))

module _ (l : Layout) (a b : List ℕ) where
  -- copies, one by one
  abbrev pub AreCopies : List Entry → List Entry → Type 0
  AreCopies [] [] = Unit {0}
  AreCopies [] (f ∷ fs) = ⊥
  AreCopies (e ∷ es) [] = ⊥
  AreCopies (e ∷ es) (f ∷ fs) = IsCopy l a b e f × AreCopies es fs

  -- so many copies, the entry of a packet, and the other copies
  abbrev pub HasPacket : FileSpan → ℕ → List Entry → List Entry → Type 0
  HasPacket v zero es [] = ⊥
  HasPacket v zero es (f ∷ fs) = IsPacket l v f × AreCopies es fs
  HasPacket v (suc k) [] fs = ⊥
  HasPacket v (suc k) (e ∷ es) [] = ⊥
  HasPacket v (suc k) (e ∷ es) (f ∷ fs) = IsCopy l a b e f × HasPacket v k es fs

  -- The offsets that they name.

  abbrev named_as : ℕ → ℕ → ℕ → ℕ → List ℕ → List ℕ
  named_as code tag count start file = numbers l.big (size_of l code) start (if is_offset l code then named_by tag count else 0) file

  named_one : (e f : Entry) → IsCopy l a b e f → named l b f ≡ named l a e
  named_one e f c =
      ap (λ (x : ℕ). named_as x f.tag f.count f.value.start b) c.code
      ∙ ap (λ (x : ℕ). named_as e.code x f.count f.value.start b) c.tag
      ∙ ap (λ (x : ℕ). named_as e.code e.tag x f.value.start b) c.count
      ∙ c.items (named_count l e) (few_named (is_offset l e.code) e.tag e.count)

  named_none : (v : FileSpan) (f : Entry) → IsPacket l v f → named l b f ≡ []
  named_none v f p =
      ap (λ (x : ℕ). named_as x f.tag f.count f.value.start b) p.code
      ∙ ap (λ (t : Bool). numbers l.big (size_of l 1) f.value.start (if t then named_by f.tag f.count else 0) b) (not_offset l)

  named_copies : (es fs : List Entry) → AreCopies es fs → flat_map (named l b) fs ≡ flat_map (named l a) es
  named_copies [] [] c = refl
  named_copies [] (f ∷ fs) c = absurd c
  named_copies (e ∷ es) [] c = absurd c
  named_copies (e ∷ es) (f ∷ fs) c = ap (λ (t : List ℕ). t ++ flat_map (named l b) fs) (named_one e f c.0) ∙ ap (λ (t : List ℕ). named l a e ++ t) (named_copies es fs c.1)

  pub named_grown : (v : FileSpan) (k : ℕ) (es fs : List Entry) → HasPacket v k es fs → flat_map (named l b) fs ≡ flat_map (named l a) es
  named_grown v zero es [] h = absurd h
  named_grown v zero es (f ∷ fs) h = ap (λ (t : List ℕ). t ++ flat_map (named l b) fs) (named_none v f h.0) ∙ named_copies es fs h.1
  named_grown v (suc k) [] fs h = absurd h
  named_grown v (suc k) (e ∷ es) [] h = absurd h
  named_grown v (suc k) (e ∷ es) (f ∷ fs) h =
      ap (λ (t : List ℕ). t ++ flat_map (named l b) fs) (named_one e f h.0) ∙ ap (λ (t : List ℕ). named l a e ++ t) (named_grown v k es fs h.1)

  -- The first entry of another tag is a copy, where there is one.

  abbrev pub SameFound : Option Entry → Option Entry → Type 0
  SameFound None None = Unit {0}
  SameFound None (Some f) = ⊥
  SameFound (Some e) None = ⊥
  SameFound (Some e) (Some f) = IsCopy l a b e f

  found_by : (s t : Bool) (e f : Entry) (x y : Option Entry) → s ≡ t → IsCopy l a b e f → SameFound x y → SameFound (if s then Some e else x) (if t then Some f else y)
  found_by true true e f x y is c more = c
  found_by false false e f x y is c more = more
  found_by true false e f x y is c more = absurd (cc is)
  found_by false true e f x y is c more = absurd (cc is)

  same_tag : (tag : ℕ) (e f : Entry) → IsCopy l a b e f → (e.tag == tag) ≡ (f.tag == tag)
  same_tag tag e f c = ap (λ (x : ℕ). x == tag) (sym c.tag)

  found_copies : (tag : ℕ) (es fs : List Entry) → AreCopies es fs → SameFound (first_of_tag tag es) (first_of_tag tag fs)
  found_copies tag [] [] c = tt
  found_copies tag [] (f ∷ fs) c = absurd c
  found_copies tag (e ∷ es) [] c = absurd c
  found_copies tag (e ∷ es) (f ∷ fs) c = found_by (e.tag == tag) (f.tag == tag) e f (first_of_tag tag es) (first_of_tag tag fs) (same_tag tag e f c.0) c.0 (found_copies tag es fs c.1)

  past_by : (t : Bool) (f : Entry) (x y : Option Entry) → t ≡ false → SameFound x y → SameFound x (if t then Some f else y)
  past_by false f x y is more = more
  past_by true f x y is more = absurd (cc is)

  other_tag : (tag own : ℕ) → tag ≢ 700 → own ≡ 700 → (own == tag) ≡ false
  other_tag tag own other is = grind (arith, nat_tests, other, is)

  pub found_grown : (v : FileSpan) (tag k : ℕ) (es fs : List Entry) → tag ≢ 700 → HasPacket v k es fs → SameFound (first_of_tag tag es) (first_of_tag tag fs)
  found_grown v tag zero es [] other h = absurd h
  found_grown v tag zero es (f ∷ fs) other h =
      past_by (f.tag == tag) f (first_of_tag tag es) (first_of_tag tag fs) (let p = h.0 in other_tag tag f.tag other p.tag) (found_copies tag es fs h.1)
  found_grown v tag (suc k) [] fs other h = absurd h
  found_grown v tag (suc k) (e ∷ es) [] other h = absurd h
  found_grown v tag (suc k) (e ∷ es) (f ∷ fs) other h =
      found_by (e.tag == tag) (f.tag == tag) e f (first_of_tag tag es) (first_of_tag tag fs) (same_tag tag e f h.0) h.0 (found_grown v tag k es fs other h.1)

  -- The pictures' ranges.

  items_copied : (e f : Entry) → IsCopy l a b e f → items_of l b f ≡ items_of l a e
  items_copied e f c =
      ap (λ (x : ℕ). numbers l.big (size_of l x) f.value.start f.count b) c.code
      ∙ ap (λ (n : ℕ). numbers l.big (size_of l e.code) f.value.start n b) c.count
      ∙ c.items e.count (omega arith)

  abbrev paired_as : ℕ → ℕ → ℕ → ℕ → Bool
  paired_as code len_code count len_count = is_picture l code && is_picture l len_code && count == len_count

  paired_copied : (o n p q : Entry) → IsCopy l a b o p → IsCopy l a b n q → are_paired l p q ≡ are_paired l o n
  paired_copied o n p q c d =
      ap (λ (x : ℕ). paired_as x q.code p.count q.count) c.code
      ∙ ap (λ (x : ℕ). paired_as o.code x p.count q.count) d.code
      ∙ ap (λ (x : ℕ). paired_as o.code n.code x q.count) c.count
      ∙ ap (λ (x : ℕ). paired_as o.code n.code o.count x) d.count

  shown_by : (t : Bool) (x y : List Picture) → spans_of y ≡ spans_of x → spans_of (if t then y else []) ≡ spans_of (if t then x else [])
  shown_by true x y is = is
  shown_by false x y is = refl

  shown_pair : (o n p q : Option Entry) → SameFound o p → SameFound n q → spans_of (ranges_of l b p q) ≡ spans_of (ranges_of l a o n)
  shown_pair None n None q c d = refl
  shown_pair None n (Some f) q c d = absurd c
  shown_pair (Some e) n None q c d = absurd c
  shown_pair (Some e) None (Some f) None c d = refl
  shown_pair (Some e) None (Some f) (Some y) c d = absurd d
  shown_pair (Some e) (Some x) (Some f) None c d = absurd d
  shown_pair (Some e) (Some x) (Some f) (Some y) c d =
      ap (λ (t : Bool). spans_of (if t then ranges f.place (items_of l b f) (items_of l b y) else [])) (paired_copied e x f y c d)
      ∙ shown_by (are_paired l e x) (ranges e.place (items_of l a e) (items_of l a x)) (ranges f.place (items_of l b f) (items_of l b y))
      (ap (λ (os : List ℕ). spans_of (ranges f.place os (items_of l b y))) (items_copied e f c)
      ∙ ap (λ (ns : List ℕ). spans_of (ranges f.place (items_of l a e) ns)) (items_copied x y d)
      ∙ ranges_moved e.place f.place (items_of l a e) (items_of l a x))

  pub shown_grown : (v : FileSpan) (k : ℕ) (es fs : List Entry) → HasPacket v k es fs → spans_of (pictures_of l b fs) ≡ spans_of (pictures_of l a es)
  unfolding pictures_of
  shown_grown v k es fs h =
      let same : (tag : ℕ) → tag ≢ 700 → SameFound (first_of_tag tag es) (first_of_tag tag fs) = λ tag other. found_grown v tag k es fs other h in
      let one : (o n : ℕ) → o ≢ 700 → n ≢ 700 → spans_of (pair l b fs o n) ≡ spans_of (pair l a es o n) =
      λ o n x y. shown_pair (first_of_tag o es) (first_of_tag n es) (first_of_tag o fs) (first_of_tag n fs) (same o x) (same n y) in
      three (pair l b fs 273 279) (pair l b fs 324 325) (pair l b fs 513 514) (pair l a es 273 279) (pair l a es 324 325) (pair l a es 513 514)
      (one 273 279 (omega arith) (omega arith)) (one 324 325 (omega arith) (omega arith)) (one 513 514 (omega arith) (omega arith))
    where
      three : (p q r s t u : List Picture) → spans_of p ≡ spans_of s → spans_of q ≡ spans_of t → spans_of r ≡ spans_of u → spans_of (p ++ (q ++ r)) ≡ spans_of (s ++ (t ++ u))
      three p q r s t u f g h =
          map-append (λ (x : Picture). x.range) p (q ++ r) ∙ ap (λ (x : List FileSpan). x ++ spans_of (q ++ r)) f
          ∙ ap (λ (x : List FileSpan). spans_of s ++ x) (map-append (λ (y : Picture). y.range) q r ∙ ap (λ (x : List FileSpan). x ++ spans_of r) g ∙ ap (λ (x : List FileSpan). spans_of t ++ x) h ∙ sym (map-append (λ (y : Picture). y.range) t u))
          ∙ sym (map-append (λ (x : Picture). x.range) s (t ++ u))

  -- A value that is a file's own, of another tag.

  pub apart_copied : (e f : Entry) → IsCopy l a b e f → is_apart l f ≡ is_apart l e
  apart_copied e f c =
      ap (λ (x : ℕ). nat_lt l.word (size_of l x * f.count)) c.code ∙ ap (λ (n : ℕ). nat_lt l.word (size_of l e.code * n)) c.count

  own_by : (p s : Bool) (x y : FileSpan) → (s ≡ true → y ≡ x) → (if p && s then Some y else None) ≡ (if p && s then Some x else None)
  own_by true true x y is = ap Some (is refl)
  own_by true false x y is = refl
  own_by false s x y is = refl

  pub own_copied : (x y : Option Entry) → SameFound x y → own_of l y ≡ own_of l x
  own_copied None None c = refl
  own_copied None (Some f) c = absurd c
  own_copied (Some e) None c = absurd c
  own_copied (Some e) (Some f) c =
      ap (λ (x : ℕ). if is_packet x && is_apart l f then Some f.value else None) c.code
      ∙ ap (λ (t : Bool). if is_packet e.code && t then Some f.value else None) (apart_copied e f c)
      ∙ own_by (is_packet e.code) (is_apart l e) e.value f.value c.apart
