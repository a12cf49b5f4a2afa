-- The data of a block exchanged for other bytes.
use Rattle.std.proofs.Common.{◌≡◌, ◌≢◌, ◌⊎◌, inl, inr, ℕ, zero, suc, ◌+◌, ◌-◌, ◌%◌, ◌<◌, ◌≤◌, List, [], ◌∷◌, ◌++◌, length, take, drop, Some, refl, sym, ap, subst, ◌∙◌, arith, append_assoc, append-nil}
use Rattle.std.specs.Prelude.{slice_get, flat_map}
use Rattle.std.proofs.lemmas.List.{drop_at, drop-drop, length-append, length-drop, length-take-le, take-append-le, drop-append-le, drop-take, take-take}
use Rattle.std.proofs.lemmas.Bool.{cases_lt}
use Rattle.lent_bytes.specs.Lending.{replaced}
use Rattle.irb_iptc.specs.Resources.{Resource, Stands, Begins, IsCut, head, text}
use Rattle.irb_iptc.specs.Listing.{Placed, Listing, Lists, Broken, place, placed}
use Rattle.irb_iptc.specs.Digest.{bytes_in}
use Rattle.irb_iptc.proofs.Blocks.{length-head, length-text, placed_eq}
use Rattle.irb_iptc.proofs.Runs.{room_of, begins_length}
use Rattle.irb_iptc.proofs.Unique.{continues, nothing_more, cut_list, stands_same, cut_stands}

-- a front that stays before what is replaced
replaced-append : (front xs new : List ℕ) (s e : ℕ) → replaced (front ++ xs) (length front + s) (length front + e) new ≡ front ++ replaced xs s e new
replaced-append front xs new s e =
    ap (λ (l : List ℕ). l ++ (new ++ drop (length front + e) (front ++ xs))) (take_past front s)
    ∙ append_assoc front (take s xs) (new ++ drop (length front + e) (front ++ xs))
    ∙ ap (λ (l : List ℕ). front ++ (take s xs ++ (new ++ l))) (sym (drop-drop e (length front) (front ++ xs)) ∙ ap (drop e) (drop_at front xs (length front) refl))
  where
    take_past : (f : List ℕ) (n : ℕ) → take (length f + n) (f ++ xs) ≡ f ++ take n xs
    take_past [] n = ap (λ (k : ℕ). take k xs) (omega arith)
    take_past (x ∷ f) n = ap (λ (k : ℕ). take k (x ∷ (f ++ xs))) (let e : suc (length f) + n ≡ suc (length f + n) = omega arith in e) ∙ ap (λ (l : List ℕ). x ∷ l) (take_past f n)

with_body : Resource → List ℕ → Resource
with_body r new = record { code = r.code; named = r.named; name = r.name; size = r.size; body = new; pad = r.pad }

-- the first block with other data
first_exchanged : (r : Resource) (bytes more new : List ℕ) → Stands r bytes more → length new ≡ length r.body
    → Stands (with_body r new) (replaced bytes (length (head r)) (length (head r) + length r.body) new) more
unfolding with_body
first_exchanged r bytes more new s l =
    let split : bytes ≡ head r ++ (r.body ++ (r.pad ++ more)) = s.is ∙ append_assoc (head r) (r.body ++ r.pad) more ∙ ap (λ (x : List ℕ). head r ++ x) (append_assoc r.body r.pad more) in
    let zero_off : length (head r) ≡ length (head r) + 0 = omega arith in
    let parts : replaced bytes (length (head r)) (length (head r) + length r.body) new ≡ head r ++ (new ++ (r.pad ++ more)) =
    ap (λ (x : List ℕ). replaced x (length (head r)) (length (head r) + length r.body) new) split
    ∙ ap (λ (k : ℕ). replaced (head r ++ (r.body ++ (r.pad ++ more))) k (length (head r) + length r.body) new) zero_off
    ∙ replaced-append (head r) (r.body ++ (r.pad ++ more)) new 0 (length r.body)
    ∙ ap (λ (x : List ℕ). head r ++ (new ++ x)) (drop_at r.body (r.pad ++ more) (length r.body) refl) in
    record {
      whole = record { code = s.whole.code; name = s.whole.name; size = s.whole.size; body = s.whole.body ∙ sym l };
      is = parts ∙ ap (λ (x : List ℕ). head r ++ x) (sym (append_assoc new r.pad more)) ∙ sym (append_assoc (head r) (new ++ r.pad) more);
      padded = elim s.padded [ inl h ↦ inl (h ∙ ap (λ (k : ℕ). k % 2) (sym l)) | inr h ↦ inr h ];
    }

-- where a block of a list stands
pub within_placed : (at : ℕ) (rs : List Resource) (i : ℕ) (p : Placed) → slice_get (placed at rs) i ≡ Some p
    → (at ≤ p.whole.start) × (p.whole.start ≤ p.body.start) × (p.body.start ≤ p.body.end) × (p.body.end ≤ p.whole.end) × (p.whole.end ≤ at + room_of rs)
unfolding room_of
within_placed at [] i p h = absurd (cc)
within_placed at (r ∷ rs) zero p h =
    let e : place at r ≡ p = cc in
    subst (λ (q : Placed). (at ≤ q.whole.start) × (q.whole.start ≤ q.body.start) × (q.body.start ≤ q.body.end) × (q.body.end ≤ q.whole.end) × (q.whole.end ≤ at + length (flat_map text (r ∷ rs)))) e
    (omega arith, omega arith, omega arith, omega (arith, length-text r), omega (arith, length-append (text r) (flat_map text rs)))
within_placed at (r ∷ rs) (suc i) p h =
    let k = within_placed (at + length (text r)) rs i p h in
    (omega (arith, k.0), k.1, k.2, k.3, omega (arith, k.4, length-append (text r) (flat_map text rs)))

-- blocks stand one after another
pub ordered : (at : ℕ) (rs : List Resource) (i j : ℕ) (p q : Placed) → slice_get (placed at rs) i ≡ Some p → slice_get (placed at rs) j ≡ Some q → i < j → p.whole.end ≤ q.whole.start
ordered at [] i j p q h k l = absurd (cc h)
ordered at (r ∷ rs) zero zero p q h k l = absurd (omega arith)
ordered at (r ∷ rs) zero (suc j) p q h k l =
    let e : place at r ≡ p = cc h in
    let w = within_placed (at + length (text r)) rs j q k in
    subst (λ (x : Placed). x.whole.end ≤ q.whole.start) e w.0
ordered at (r ∷ rs) (suc i) zero p q h k l = absurd (omega arith)
ordered at (r ∷ rs) (suc i) (suc j) p q h k l = ordered (at + length (text r)) rs i j p q h k (omega arith)

-- blocks take room
more_room : (at : ℕ) (rs : List Resource) (i : ℕ) (p : Placed) → slice_get (placed at rs) i ≡ Some p → 0 < room_of rs
unfolding room_of
more_room at [] i p h = absurd (cc h)
more_room at (r ∷ rs) i p h = omega (arith, length-append (text r) (flat_map text rs), length-text r, length-head r)

-- the blocks with the data of one exchanged
abbrev pub Changed : ℕ → List Resource → List ℕ → List ℕ → Type 0
Changed at rs bytes rest = (ss : List Resource) × Begins bytes ss rest × (placed at ss ≡ placed at rs)

same_place : (at : ℕ) (r : Resource) (new : List ℕ) → length new ≡ length r.body → (place at (with_body r new) ≡ place at r) × (length (text (with_body r new)) ≡ length (text r))
unfolding with_body
same_place at r new l =
    let t : length (text (with_body r new)) ≡ length (text r) = omega (arith, length-text r, length-text (with_body r new), l) in (
      placed_eq (place at r).id at (at + length (text (with_body r new))) (at + length (head r)) (at + length (head r) + length new) (place at r).id (at + length (text r)) (at + length (head r)) (at + length (head r) + length r.body) refl
          (ap (λ (k : ℕ). at + k) t) refl (ap (λ (k : ℕ). at + length (head r) + k) l),
      t,
    )

pub changed : (at : ℕ) (rs : List Resource) (bytes rest : List ℕ) (i : ℕ) (p : Placed) (new : List ℕ) → Begins bytes rs rest → slice_get (placed at rs) i ≡ Some p
    → length new ≡ p.body.end - p.body.start → Changed at rs (replaced bytes (p.body.start - at) (p.body.end - at) new) rest
changed at [] bytes rest i p new b h l = absurd (cc h)
changed at (r ∷ rs) bytes rest zero p new b h l =
    let e : place at r ≡ p = cc h in
    let size : length new ≡ length r.body = l ∙ sym (ap (λ (q : Placed). q.body.end - q.body.start) e) ∙ (let k : at + length (head r) + length r.body - (at + length (head r)) ≡ length r.body = omega arith in k) in
    let s = first_exchanged r bytes b.0 new b.1 size in
    let from : length (head r) ≡ p.body.start - at = (let k : length (head r) ≡ at + length (head r) - at = omega arith in k) ∙ ap (λ (q : Placed). q.body.start - at) e in
    let to : length (head r) + length r.body ≡ p.body.end - at = (let k : length (head r) + length r.body ≡ at + length (head r) + length r.body - at = omega arith in k) ∙ ap (λ (q : Placed). q.body.end - at) e in
    let at_place = same_place at r new size in (
      with_body r new ∷ rs,
      (
        b.0,
        subst (λ (k : ℕ). Stands (with_body r new) (replaced bytes k (p.body.end - at) new) b.0) from
            (subst (λ (k : ℕ). Stands (with_body r new) (replaced bytes (length (head r)) k new) b.0) to s),
        b.2,
      ),
      ap (λ (q : Placed). q ∷ placed (at + length (text (with_body r new))) rs) at_place.0 ∙ ap (λ (k : ℕ). place at r ∷ placed (at + k) rs) at_place.1,
    )
changed at (r ∷ rs) bytes rest (suc i) p new b h l =
    let there = at + length (text r) in
    let k = changed there rs b.0 rest i p new b.2 h l in
    let w = within_placed there rs i p h in
    let inner = replaced b.0 (p.body.start - there) (p.body.end - there) new in
    let from : length (text r) + (p.body.start - there) ≡ p.body.start - at = omega (arith, w.0, w.1) in
    let to : length (text r) + (p.body.end - there) ≡ p.body.end - at = omega (arith, w.0, w.1, w.2) in
    let is : replaced bytes (p.body.start - at) (p.body.end - at) new ≡ text r ++ inner =
    ap (λ (x : List ℕ). replaced x (p.body.start - at) (p.body.end - at) new) b.1.is
    ∙ ap (λ (n : ℕ). replaced (text r ++ b.0) n (p.body.end - at) new) (sym from)
    ∙ ap (λ (n : ℕ). replaced (text r ++ b.0) (length (text r) + (p.body.start - there)) n new) (sym to)
    ∙ replaced-append (text r) b.0 new (p.body.start - there) (p.body.end - there) in
    let some : 0 < length b.0 = omega (arith, begins_length b.0 rs rest b.2, more_room there rs i p h) in (
      r ∷ k.0,
      (inner, record { whole = b.1.whole; is = is; padded = elim b.1.padded [ inl f ↦ inl f | inr f ↦ absurd (let n = ap length f.1 in omega (arith, some, n)) ] }, k.1),
      ap (λ ps. place at r ∷ ps) k.2,
    )

length-replaced : (xs new : List ℕ) (s e : ℕ) → s ≤ e → e ≤ length xs → length new ≡ e - s → length (replaced xs s e new) ≡ length xs
length-replaced xs new s e a b l =
    let t : length (take s xs) ≡ s = length-take-le s xs (omega arith) in
    omega (arith, length-append (take s xs) (new ++ drop e xs), length-append new (drop e xs), length-drop e xs, t)

pub list_kept : (bytes new : List ℕ) (listing : Listing) (i : ℕ) (p : Placed) → Lists bytes 0 listing → slice_get listing.blocks i ≡ Some p
    → length new ≡ p.body.end - p.body.start → Lists (replaced bytes p.body.start p.body.end new) 0 listing
list_kept bytes new listing i p l h size =
    let here : slice_get (placed 0 l.resources) i ≡ Some p = ap (λ ps. slice_get ps i) (sym l.placed) ∙ h in
    let k = changed 0 l.resources bytes l.tail i p new l.begins here size in
    let w = within_placed 0 l.resources i p here in
    let from : p.body.start - 0 ≡ p.body.start = omega arith in
    let to : p.body.end - 0 ≡ p.body.end = omega arith in
    let b = subst (λ (n : ℕ). Begins (replaced bytes p.body.start n new) k.0 l.tail) to (subst (λ (n : ℕ). Begins (replaced bytes n (p.body.end - 0) new) k.0 l.tail) from k.1) in
    record {
      resources = k.0;
      tail = l.tail;
      begins = b;
      ends = l.ends;
      placed = l.placed ∙ sym k.2;
      end = l.end ∙ ap (λ (n : ℕ). 0 + n) (sym (length-replaced bytes new p.body.start p.body.end w.2 (omega (arith, w.3, w.4, begins_length bytes l.resources l.tail l.begins)) size));
    }

-- a range apart from what was replaced
pub apart_kept : (xs new : List ℕ) (s e a b : ℕ) → s ≤ e → e ≤ length xs → length new ≡ e - s → a ≤ b → (b ≤ s) ⊎ (e ≤ a) → take (b - a) (drop a (replaced xs s e new)) ≡ take (b - a) (drop a xs)
apart_kept xs new s e a b o w l ab (inl h) =
    let t : length (take s xs) ≡ s = length-take-le s xs (omega arith) in
    let d : length (drop a (take s xs)) ≡ s - a = length-drop a (take s xs) ∙ ap (λ (k : ℕ). k - a) t in
    let sum : s ≡ a + (s - a) = omega arith in
    ap (take (b - a)) (drop-append-le a (take s xs) (new ++ drop e xs) (omega (arith, t)))
    ∙ take-append-le (b - a) (drop a (take s xs)) (new ++ drop e xs) (omega (arith, d))
    ∙ ap (λ (k : ℕ). take (b - a) (drop a (take k xs))) sum ∙ ap (take (b - a)) (drop-take a (s - a) xs) ∙ take-take (b - a) (s - a) (drop a xs) (omega arith)
apart_kept xs new s e a b o w l ab (inr h) =
    let t : length (take s xs) ≡ s = length-take-le s xs (omega arith) in
    let f : length (take s xs ++ new) ≡ e = omega (arith, length-append (take s xs) new, t) in
    let sum : a ≡ e + (a - e) = omega arith in
    ap (take (b - a)) (ap (λ (k : ℕ). drop k (replaced xs s e new)) sum ∙ sym (drop-drop (a - e) e (replaced xs s e new))
    ∙ ap (drop (a - e)) (ap (drop e) (sym (append_assoc (take s xs) new (drop e xs))) ∙ drop_at (take s xs ++ new) (drop e xs) e f)
    ∙ drop-drop (a - e) e xs ∙ ap (λ (k : ℕ). drop k xs) (sym sum))

module _ (bytes : List ℕ) (at : ℕ) (listing : Listing) (l : Lists bytes at listing) where
  in_list : (i : ℕ) (p : Placed) → slice_get listing.blocks i ≡ Some p → slice_get (placed at l.resources) i ≡ Some p
  in_list i p h = ap (λ ps. slice_get ps i) (sym l.placed) ∙ h

  list_end : listing.end ≡ at + room_of l.resources
  list_end = omega (arith, l.end, begins_length bytes l.resources l.tail l.begins)

  pub block_inside : (i : ℕ) (p : Placed) → slice_get listing.blocks i ≡ Some p
      → (p.whole.start ≤ p.body.start) × (p.body.start ≤ p.body.end) × (p.body.end ≤ p.whole.end) × (p.whole.end ≤ listing.end)
  block_inside i p h = let w = within_placed at l.resources i p (in_list i p h) in (w.1, w.2, w.3, omega (arith, w.4, list_end))

  pub blocks_apart : (i j : ℕ) (p q : Placed) → slice_get listing.blocks i ≡ Some p → slice_get listing.blocks j ≡ Some q → i ≢ j → (p.whole.end ≤ q.whole.start) ⊎ (q.whole.end ≤ p.whole.start)
  blocks_apart i j p q h k ne = elim (cases_lt i j) [
    | inl lt ↦ inl (ordered at l.resources i j p q (in_list i p h) (in_list j q k) lt)
    | inr ge ↦ inr (ordered at l.resources j i q p (in_list j q k) (in_list i p h) (omega (arith, ne)))
  ]

pub others_kept : (bytes new : List ℕ) (listing : Listing) (i j : ℕ) (p q : Placed) → Lists bytes 0 listing → slice_get listing.blocks i ≡ Some p → slice_get listing.blocks j ≡ Some q
    → i ≢ j → length new ≡ p.body.end - p.body.start → bytes_in (replaced bytes p.body.start p.body.end new) q.whole ≡ bytes_in bytes q.whole
others_kept bytes new listing i j p q l h k ne size =
    let a = block_inside bytes 0 listing l i p h in
    let b = block_inside bytes 0 listing l j q k in
    let w : p.body.end ≤ length bytes = omega (arith, a.2, a.3, l.end) in
    apart_kept bytes new p.body.start p.body.end q.whole.start q.whole.end a.1 w size (omega (arith, b.0, b.1, b.2))
    (elim (blocks_apart bytes 0 listing l i j p q h k ne) [ inl o ↦ inr (omega (arith, o, a.2)) | inr o ↦ inl (omega (arith, o, a.0)) ])

-- one list
listing_eq : (a b : Listing) → a.blocks ≡ b.blocks → a.end ≡ b.end → a ≡ b
listing_eq a b e f = ap (λ ps. record { blocks = ps; end = a.end }) e ∙ ap (λ (n : ℕ). record { blocks = b.blocks; end = n }) f

pub one_list : (bytes : List ℕ) (at : ℕ) (a b : Listing) → Lists bytes at a → Lists bytes at b → a ≡ b
one_list bytes at a b x y =
    let c = continues bytes x.resources y.resources x.tail y.tail x.begins y.begins y.ends in
    let n = nothing_more x.tail c.0 y.tail x.ends c.2 in
    let same : y.resources ≡ x.resources = c.1 ∙ ap (λ rs. x.resources ++ rs) n.0 ∙ append-nil x.resources in
    listing_eq a b (x.placed ∙ ap (placed at) (sym same) ∙ sym y.placed) (let e = ap length n.1 in omega (arith, e, x.end, y.end))

rests_same : (bytes : List ℕ) (rs ss : List Resource) (x y : List ℕ) → Begins bytes rs x → Begins bytes ss y → IsCut x → IsCut y → x ≡ y
rests_same bytes [] [] x y a b c d = sym a ∙ b
rests_same bytes [] (s ∷ ss) x y a b c d = absurd (cut_stands bytes s b.0 (subst IsCut (sym a) c) b.1)
rests_same bytes (r ∷ rs) [] x y a b c d = absurd (cut_stands bytes r a.0 (subst IsCut (sym b) d) a.1)
rests_same bytes (r ∷ rs) (s ∷ ss) x y a b c d =
    let k = stands_same r s bytes a.0 b.0 a.1 b.1 in
    rests_same a.0 rs ss x y a.2 (subst (λ (l : List ℕ). Begins l ss y) (sym k.1) b.2) c d

pub one_fault : (bytes : List ℕ) (at m n : ℕ) → Broken bytes at m → Broken bytes at n → m ≡ n
one_fault bytes at m n a b =
    let e = ap length (rests_same bytes a.resources b.resources a.rest b.rest a.begins b.begins a.cut b.cut) in
    omega (arith, e, a.start, b.start)

pub list_or_fault : (bytes : List ℕ) (at m : ℕ) (a : Listing) → Lists bytes at a → Broken bytes at m → ⊥
list_or_fault bytes at m a l f =
    let c = continues bytes f.resources l.resources f.rest l.tail f.begins l.begins l.ends in
    cut_list f.rest c.0 l.tail f.cut c.2 l.ends
