-- The three writes of an exchange, and what the payload is between them.
use Rattle.std.proofs.Common.{◌≡◌, ◌≢◌, ◌⊎◌, ℕ, ◌+◌, ◌-◌, ◌≤◌, List, [], ◌∷◌, ◌++◌, length, take, drop, refl, sym, ap, ◌∙◌, subst, arith, Ok, Err, Result, inl, inr, IsErr, IsTrue, append_assoc, Bool, true, false, eqb, cond, ◌==◌}
use Rattle.std.proofs.lemmas.Bool.{eqb-true, eqb-false}
use Rattle.std.proofs.lemmas.List.{length-take-le, length-drop, drop-take, take-take, drop_all, take_all, append-nil, take-append-le, drop-append-le, take-append-drop}
use Rattle.std.proofs.lemmas.List.Sums.{common_prefix_len-le}
use Rattle.xmp_base.specs.declared.device.Failed.{Failed}
use Rattle.xmp_base.specs.Device.{DeskState, put_at}
use Rattle.xmp_base.specs.Exchange.{Exchanged, IsPut, PutCall}
use Rattle.xmp_base.proofs.Calls.{rose_after}
use Rattle.xmp_base.proofs.Ranges.{put_length}
use Rattle.xmp_base.proofs.Exchanges.{none, weaker, both, wider}
use Rattle.xmp_base.proofs.Inside.{inside_wider}
use Rattle.xmp_lanes.specs.Runs.{same_run}
use Rattle.packet_exchange.specs.Closing.{is_open, Closed, Left, WritesFrom, ExchangeCall}
use Rattle.packet_exchange.proofs.Writing.{first_writes, rest_writes, writes_none, writes_trans}

-- the first bytes of two lists up to their first difference
pub same_front : (a b : List ℕ) → take (same_run a b) a ≡ take (same_run a b) b
same_front [] b = refl
same_front (x ∷ a) [] = refl
same_front (x ∷ a) (y ∷ b) = by (x == y) refl (same_front a b)
  where
    by : (t : Bool) → (x == y) ≡ t → take (same_run a b) a ≡ take (same_run a b) b → take (cond t (1 + same_run a b) 0) (x ∷ a) ≡ take (cond t (1 + same_run a b) 0) (y ∷ b)
    by true e rest = let is : x ≡ y = eqb-true x y e in grind (arith, rest, is)
    by false e rest = refl

pub front_within : (a b : List ℕ) → same_run a b ≤ length b
front_within a b = let l = common_prefix_len-le (λ (x y : ℕ). x == y) a b in l.1

pub opens : (l : List ℕ) → IsTrue (is_open l) → take 2 l ≡ 60 ∷ 63 ∷ []
opens [] e = absurd (cc e)
opens (a ∷ []) e = grind arith
opens (a ∷ b ∷ l) e = grind arith

-- a payload begins whole as itself does
same_whole : (a : List ℕ) → same_run a a ≡ length a
same_whole [] = refl
same_whole (x ∷ a) = by (x == x) refl (same_whole a)
  where
    by : (t : Bool) → (x == x) ≡ t → same_run a a ≡ length a → cond t (1 + same_run a a) 0 ≡ length (x ∷ a)
    by true e rest = grind (arith, rest)
    by false e rest = absurd (eqb-false x x e refl)

-- two payloads that begin so differ after that, if at all
pub past_open : (a b : List ℕ) → IsTrue (is_open a) → IsTrue (is_open b) → 2 ≤ same_run a b
past_open a b x y = grind (arith, opens a x, opens b y)

-- what is put at a place leaves the bytes before it
take_before : (j i : ℕ) (l q : List ℕ) → j ≤ i → i ≤ length l → take j (put_at l i q) ≡ take j l
take_before j i l q le within =
    ap (take j) (append_assoc (take i l) q (drop (i + length q) l))
    ∙ take-append-le j (take i l) (q ++ drop (i + length q) l) (omega (arith, le, length-take-le i l within))
    ∙ take-take j i l le

-- one byte put at the first place
put_first : (l q : List ℕ) → length q ≡ 1 → put_at l 0 q ≡ q ++ drop 1 l
put_first l q size = let e : 0 + length q ≡ 1 = omega (arith, size) in ap (λ (k : ℕ). q ++ drop k l) e

first_same : (l : List ℕ) (a b : ℕ) → take 2 l ≡ a ∷ b ∷ [] → l ≡ a ∷ drop 1 l
first_same [] a b e = absurd (cc e)
first_same (x ∷ []) a b e = absurd (cc e)
first_same (x ∷ y ∷ l) a b e = let is : x ≡ a = cc e in ap (λ (k : ℕ). k ∷ y ∷ l) is

closed_by : (l : List ℕ) (x : ℕ) → take 2 l ≡ x ∷ 63 ∷ [] → x ≢ 60 → Closed l
closed_by [] x e apart = absurd (cc e)
closed_by (a ∷ []) x e apart = absurd (cc e)
closed_by (a ∷ b ∷ l) x e apart = let first : a ≡ x = cc e in let second : b ≡ 63 = cc e in (λ is. apart (sym first ∙ is), second)

second_same : (l : List ℕ) (x : ℕ) → take 2 l ≡ 60 ∷ 63 ∷ [] → take 2 (x ∷ drop 1 l) ≡ x ∷ 63 ∷ []
second_same [] x e = absurd (cc e)
second_same (a ∷ []) x e = absurd (cc e)
second_same (a ∷ b ∷ l) x e = let second : b ≡ 63 = cc e in ap (λ (k : ℕ). x ∷ k ∷ []) second

is_angle : (x : ℕ) → (x ≡ 60) ⊎ (x ≢ 60)
is_angle x = by (eqb x 60) refl
  where
    by : (b : Bool) → eqb x 60 ≡ b → (x ≡ 60) ⊎ (x ≢ 60)
    by true e = inl (eqb-true x 60 e)
    by false e = inr (eqb-false x 60 e)

-- any byte at the first place leaves the payload, or closes it
first_torn : (l q : List ℕ) → take 2 l ≡ 60 ∷ 63 ∷ [] → length q ≡ 1 → (q ++ drop 1 l ≡ l) ⊎ Closed (q ++ drop 1 l)
first_torn l [] opened size = absurd (cc size)
first_torn l (x ∷ y ∷ q) opened size = absurd (omega (arith, size))
first_torn l (x ∷ []) opened size = elim (is_angle x) [
  | inl is ↦ inl (ap (λ (k : ℕ). k ∷ drop 1 l) is ∙ sym (first_same l 60 63 opened))
  | inr apart ↦ inr (closed_by (x ∷ drop 1 l) x (second_same l x opened) apart)
]

-- the payload with a space over its first byte
abbrev pub spaced : List ℕ → List ℕ
spaced l = put_at l 0 (32 ∷ [])

spaced_closed : (l : List ℕ) → take 2 l ≡ 60 ∷ 63 ∷ [] → take 2 (spaced l) ≡ 32 ∷ 63 ∷ []
spaced_closed l opened = ap (take 2) (put_first l (32 ∷ []) refl) ∙ second_same l 32 opened

-- payloads that differ nowhere are one
all_same : (old new : List ℕ) → length old ≡ length new → length new ≡ same_run old new → old ≡ new
all_same old new size whole =
    sym (take_all (length new) old (omega (arith, size)))
    ∙ subst (λ (n : ℕ). take n old ≡ take n new) (sym whole) (same_front old new)
    ∙ take_all (length new) new (omega arith)

-- a payload that stays is left as it is
pub stayed : (s : DeskState) (name : List ℕ) (at : ℕ) (old new : List ℕ) (from : ℕ) → from ≡ same_run old new → length old ≡ length new → from ≡ length new → ExchangeCall s s name at old new (Ok tt)
stayed s name at old new from is_first size whole = record {
  payload = weaker s s name at (length new) (λ was now. now ≡ was) (λ was now. was ≡ old → now ≡ new)
      (λ was now x y p is. p ∙ is ∙ all_same old new size (sym whole ∙ is_first)) (none s name at (length new));
  writes = writes_none name at (same_run old new) (length new) s.wrote s.wrote refl;
  idle = λ same. refl;
  failed = tt;
}

module _ (old new : List ℕ) (from : ℕ) (is_first : from ≡ same_run old new) (size : length old ≡ length new) (old_opens : IsTrue (is_open old)) (new_opens : IsTrue (is_open new)) (short : from ≢ length new) where
  -- payloads with a difference aren't one
  differ : {A : Type 0} → old ≡ new → A
  differ same = absurd (short (is_first ∙ ap (λ (l : List ℕ). same_run l new) same ∙ same_whole new))

  past : 2 ≤ from
  past = subst (λ (k : ℕ). 2 ≤ k) (sym is_first) (past_open old new old_opens new_opens)

  inside : from ≤ length new
  inside = subst (λ (k : ℕ). k ≤ length new) (sym is_first) (front_within old new)

  same : take from old ≡ take from new
  same = subst (λ (k : ℕ). take k old ≡ take k new) (sym is_first) (same_front old new)

  spaced_size : length (spaced old) ≡ length new
  spaced_size = put_length 0 1 old (32 ∷ []) (omega (arith, size, past, inside)) refl ∙ size

  still_closed : (q : List ℕ) → Closed (put_at (spaced old) from q)
  still_closed q = closed_by (put_at (spaced old) from q) 32 (take_before 2 from (spaced old) q past (omega (arith, spaced_size, inside)) ∙ spaced_closed old (opens old old_opens)) (λ e. absurd (omega (arith, e)))

  -- after the first byte the payload is the new one
  rest_new : drop 1 (put_at (spaced old) from (drop from new)) ≡ drop 1 new
  rest_new =
      ap (λ (l : List ℕ). drop 1 ((take from (spaced old) ++ drop from new) ++ l)) (drop_all (from + length (drop from new)) (spaced old) (omega (arith, spaced_size, inside, length-drop from new)))
      ∙ ap (drop 1) (append-nil (take from (spaced old) ++ drop from new))
      ∙ drop-append-le 1 (take from (spaced old)) (drop from new) (omega (arith, past, length-take-le from (spaced old) (omega (arith, spaced_size, inside))))
      ∙ ap (λ (l : List ℕ). l ++ drop from new) (cut (spaced old) ∙ ap (take (from - 1)) (ap (drop 1) (put_first old (32 ∷ []) refl)) ∙ sym (cut old) ∙ ap (drop 1) same)
      ∙ sym (drop-append-le 1 (take from new) (drop from new) (omega (arith, past, length-take-le from new inside)))
      ∙ ap (drop 1) (take-append-drop from new)
    where
      cut : (l : List ℕ) → drop 1 (take from l) ≡ take (from - 1) (drop 1 l)
      cut l = (let e : from ≡ 1 + (from - 1) = omega (arith, past) in ap (λ (k : ℕ). drop 1 (take k l)) e) ∙ drop-take 1 (from - 1) l

  -- an exchange from the range's first byte on
  from_first : (s t : DeskState) (name : List ℕ) (at : ℕ) (piece : List ℕ) (r : Result (Unit {0}) Failed) → PutCall s t name at piece r → PutCall s t name (at + 0) piece r
  from_first s t name at piece r call = let e : at ≡ at + 0 = omega arith in subst (λ (k : ℕ). PutCall s t name k piece r) e call

  -- each of the three writes is of the first byte, or of those from the first difference on
  abbrev Written : List ℕ → ℕ → DeskState → DeskState → Type 0
  Written name at s t = WritesFrom name at (same_run old new) (length new) s.wrote t.wrote

  first_put : (s t : DeskState) (name : List ℕ) (at b : ℕ) (r : Result (Unit {0}) Failed) → PutCall s t name at (b ∷ []) r → Written name at s t
  first_put s t name at b r call = first_writes name at (same_run old new) (length new) s.wrote t.wrote call.put.wrote

  rest_put : (s t : DeskState) (name : List ℕ) (at : ℕ) (r : Result (Unit {0}) Failed) → PutCall s t name (at + from) (drop from new) r → Written name at s t
  rest_put s t name at r call = rest_writes name at (same_run old new) (length new) s.wrote t.wrote
      (inside_wider name (at + same_run old new) (at + length new) s.wrote (at + from) (at + from + length (drop from new)) t.wrote
      (omega (arith, is_first)) (omega (arith, inside, length-drop from new)) call.put.wrote)

  module _ (s t : DeskState) (name : List ℕ) (at i : ℕ) (piece : List ℕ) (within : i + length piece ≤ length new) where
    inner_ok : PutCall s t name (at + i) piece (Ok tt) → Exchanged s t name at (length new) (λ was now. now ≡ put_at was i piece)
    inner_ok call = wider s t name at (length new) i (length piece) (λ was now. now ≡ piece) (λ was now. now ≡ put_at was i piece) within (λ was q x y p. ap (put_at was i) p) call.put

    abbrev TornIn : List ℕ → List ℕ → Type 0
    TornIn was now = (q : List ℕ) × (length q ≡ length piece) × (now ≡ put_at was i q)

    inner_err : (e : Failed) → PutCall s t name (at + i) piece (Err e) → Exchanged s t name at (length new) TornIn
    inner_err e call = wider s t name at (length new) i (length piece) (λ was now. IsPut (Err e) call.done piece now) TornIn within (λ was q x y p. (q, y, refl)) call.put

  module _ (s t : DeskState) (name : List ℕ) (at : ℕ) where
    pub spaced_failed : (e : Failed) (result : Result (Unit {0}) Failed) → PutCall s t name at (32 ∷ []) (Err e) → IsErr result → ExchangeCall s t name at old new result
    spaced_failed e (Ok x) call err = absurd (cc err)
    spaced_failed e (Err f) call err = record {
      payload = weaker s t name at (length new) (TornIn s t name at 0 (32 ∷ []) first) (λ was now. was ≡ old → Left (Err f) old new now)
          (λ was now x y p is. elim (first_torn old p.0 (opens old old_opens) p.1) [
            | inl same ↦ inl (put_old was now p.0 is p.1 p.2 ∙ same)
            | inr closed ↦ inr (inr (subst Closed (sym (put_old was now p.0 is p.1 p.2)) closed))
          ])
          (inner_err s t name at 0 (32 ∷ []) first e (from_first s t name at (32 ∷ []) (Err e) call));
      writes = first_put s t name at 32 (Err e) call;
      idle = λ same_2. differ same_2;
      failed = call.failed;
    }
      where
        first : 0 + length {A = ℕ} (32 ∷ []) ≤ length new
        first = omega (arith, past, inside)

        put_old : (was now q : List ℕ) → was ≡ old → length q ≡ 1 → now ≡ put_at was 0 q → now ≡ q ++ drop 1 old
        put_old was now q is one e = e ∙ ap (λ (l : List ℕ). put_at l 0 q) is ∙ put_first old q one

    module _ (space : PutCall s t name at (32 ∷ []) (Ok tt)) (u : DeskState) where
      abbrev Spaced : List ℕ → List ℕ → Type 0
      Spaced was now = now ≡ spaced was

      spacing : Exchanged s t name at (length new) Spaced
      spacing = inner_ok s t name at 0 (32 ∷ []) (omega (arith, past, inside)) (from_first s t name at (32 ∷ []) (Ok tt) space)

      rest_within : from + length (drop from new) ≤ length new
      rest_within = omega (arith, inside, length-drop from new)

      two_writes : Written name at t u → Written name at s u
      two_writes more = writes_trans name at (same_run old new) (length new) s.wrote t.wrote u.wrote (first_put s t name at 32 (Ok tt) space) more

      pub rest_failed : (e : Failed) (result : Result (Unit {0}) Failed) → PutCall t u name (at + from) (drop from new) (Err e) → IsErr result → ExchangeCall s u name at old new result
      rest_failed e (Ok x) call err = absurd (cc err)
      rest_failed e (Err f) call err = record {
        payload = both s t u name at (length new) Spaced (TornIn t u name at from (drop from new) rest_within) (λ was now. was ≡ old → Left (Err f) old new now)
            (λ was mid now x y z p q is. inr (inr (subst Closed (sym (q.2 ∙ ap (λ (l : List ℕ). put_at l from q.0) (p ∙ ap spaced is))) (still_closed q.0))))
            spacing (inner_err t u name at from (drop from new) rest_within e call);
        writes = two_writes (rest_put t u name at (Err e) call);
        idle = λ same_2. differ same_2;
        failed = rose_after s.faults t.faults u.faults space.put.counts.faults call.failed;
      }

      module _ (rest : PutCall t u name (at + from) (drop from new) (Ok tt)) (v : DeskState) where
        abbrev Filled : List ℕ → List ℕ → Type 0
        Filled was now = now ≡ put_at (spaced was) from (drop from new)

        filling : Exchanged s u name at (length new) Filled
        filling = both s t u name at (length new) Spaced (λ was now. now ≡ put_at was from (drop from new)) Filled
            (λ was mid now x y z p q. q ∙ ap (λ (l : List ℕ). put_at l from (drop from new)) p) spacing (inner_ok t u name at from (drop from new) rest_within rest)

        first : 0 + length {A = ℕ} (60 ∷ []) ≤ length new
        first = omega (arith, past, inside)

        three_writes : Written name at u v → Written name at s v
        three_writes more = writes_trans name at (same_run old new) (length new) s.wrote u.wrote v.wrote (two_writes (rest_put t u name at (Ok tt) rest)) more

        opened : (was mid now q : List ℕ) → was ≡ old → Filled was mid → length q ≡ 1 → now ≡ put_at mid 0 q → now ≡ q ++ drop 1 new
        opened was mid now q is p one e = e ∙ put_first mid q one
            ∙ ap (λ (l : List ℕ). q ++ drop 1 l) (p ∙ ap (λ (l : List ℕ). put_at (spaced l) from (drop from new)) is)
            ∙ ap (λ (l : List ℕ). q ++ l) rest_new

        pub exchanged : (result : Result (Unit {0}) Failed) → PutCall u v name at (60 ∷ []) result → ExchangeCall s v name at old new result
        exchanged (Ok _) call = record {
          payload = both s u v name at (length new) Filled (λ was now. now ≡ put_at was 0 (60 ∷ [])) (λ was now. was ≡ old → now ≡ new)
              (λ was mid now x y z p q is. opened was mid now (60 ∷ []) is p refl q ∙ sym (first_same new 60 63 (opens new new_opens)))
              filling (inner_ok u v name at 0 (60 ∷ []) first (from_first u v name at (60 ∷ []) (Ok tt) call));
          writes = three_writes (first_put u v name at 60 (Ok tt) call);
          idle = λ same_2. differ same_2;
          failed = tt;
        }
        exchanged (Err e) call = record {
          payload = both s u v name at (length new) Filled (TornIn u v name at 0 (60 ∷ []) first) (λ was now. was ≡ old → Left (Err e) old new now)
              (λ was mid now x y z p q is. elim (first_torn new q.0 (opens new new_opens) q.1) [
                | inl same ↦ inr (inl (opened was mid now q.0 is p q.1 q.2 ∙ same))
                | inr closed ↦ inr (inr (subst Closed (sym (opened was mid now q.0 is p q.1 q.2)) closed))
              ])
              filling (inner_err u v name at 0 (60 ∷ []) first e (from_first u v name at (60 ∷ []) (Err e) call));
          writes = three_writes (first_put u v name at 60 (Err e) call);
          idle = λ same_2. differ same_2;
          failed = rose_after s.faults u.faults v.faults (omega (arith, space.put.counts.faults, rest.put.counts.faults)) call.failed;
        }
