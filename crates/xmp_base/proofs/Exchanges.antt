-- Calls that exchange bytes inside a file, one after another.
use Rattle.std.proofs.Common.{◌≡◌, ℕ, ◌+◌, ◌-◌, ◌⊎◌, ◌≤◌, List, ◌++◌, length, take, drop, refl, sym, ap, ◌∙◌, subst, arith, Ok, Err, Some, IsTrue, is_some, Result, inl, inr, ◌<◌, IsErr, append_assoc}
use Rattle.std.specs.Option.{unwrap_or, option_map}
use Rattle.std.specs.FinMap.{get, insert}
use Rattle.std.proofs.lemmas.List.{length-take-le, length-drop, take_at, drop_at, drop-drop, take_all, drop_all, append-nil}
use Rattle.std.proofs.Math.Seq.{take-add}
use Rattle.xmp_base.specs.declared.device.Failed.{Failed}
use Rattle.xmp_base.specs.Whole.{MovedOnce}
use Rattle.xmp_base.specs.Device.{DeskState, Files, Lens, WriteCall, told_push, bytes_of, len_of, is_known, put_at, Torn}
use Rattle.xmp_base.proofs.Names.{get-insert_same, insert_held, insert_twice}
use Rattle.xmp_base.proofs.Calls.{counts_trans, rose_after, once_none, once_more}
use Rattle.xmp_base.proofs.Ends.{held_bytes, known_held}
use Rattle.xmp_base.proofs.Inside.{inside_none, inside_one, inside_trans, inside_wider}
use Rattle.xmp_base.specs.Exchange.{Exchanged, IsPut, PutCall}
use Rattle.xmp_base.proofs.Ranges.{range, range_size, put_same, range_put, put_again, put_size, put_inner, range_inner, put_length, torn_size, torn_put}

-- the first bytes of the piece are in place
pub record PutSome (s t : DeskState) (name : List ℕ) (at : ℕ) (piece : List ℕ) (done : ℕ) : Type 0 where
  pub put : Exchanged s t name at (length piece) (λ was now. now ≡ take done piece ++ drop done was)
  pub once : MovedOnce name at (at + done) s.wrote t.wrote

-- no call yet
pub none : (s : DeskState) (name : List ℕ) (at n : ℕ) → Exchanged s s name at n (λ was now. now ≡ was)
none s name at n = record {
  reads = refl;
  counts = record { faults = omega arith; misses = omega arith; plan = refl };
  lens = refl;
  wrote = inside_none name at (at + n) s.wrote s.wrote refl;
  files = λ files told bytes held inside. record {
    now = range at n bytes;
    full = range_size at n bytes inside;
    is = refl;
    left = told ∙ ap Some (sym (insert_held files name _ (held ∙ ap Some (put_same at n bytes inside))));
  };
}

-- what the range holds, said in other words
pub weaker : (s t : DeskState) (name : List ℕ) (at n : ℕ) (P Q : List ℕ → List ℕ → Type 0) → ((was now : List ℕ) → length was ≡ n → length now ≡ n → P was now → Q was now)
    → Exchanged s t name at n P → Exchanged s t name at n Q
weaker s t name at n P Q f a = record {
  reads = a.reads;
  counts = a.counts;
  lens = a.lens;
  wrote = a.wrote;
  files = λ files told bytes held inside. let h = a.files files told bytes held inside in record {
    now = h.now;
    full = h.full;
    is = f (range at n bytes) h.now (range_size at n bytes inside) h.full h.is;
    left = h.left;
  };
}

-- one exchange after another in the same range
pub both : (s t u : DeskState) (name : List ℕ) (at n : ℕ) (P Q R : List ℕ → List ℕ → Type 0)
    → ((was mid now : List ℕ) → length was ≡ n → length mid ≡ n → length now ≡ n → P was mid → Q mid now → R was now)
    → Exchanged s t name at n P → Exchanged t u name at n Q → Exchanged s u name at n R
both s t u name at n P Q R f a b = record {
  reads = b.reads ∙ a.reads;
  counts = counts_trans s t u a.counts b.counts;
  lens = b.lens ∙ a.lens;
  wrote = inside_trans name at (at + n) s.wrote t.wrote u.wrote a.wrote b.wrote;
  files = λ files told bytes held inside.
      let h = a.files files told bytes held inside in
      let k = b.files (insert files name (put_at bytes at h.now)) h.left (put_at bytes at h.now) (get-insert_same files name _) (omega (arith, inside, put_length at n bytes h.now inside h.full)) in
      record {
        now = k.now;
        full = k.full;
        is = f (range at n bytes) h.now k.now (range_size at n bytes inside) h.full k.full h.is (subst (λ (l : List ℕ). Q l k.now) (range_put at n bytes inside h.now h.full) k.is);
        left = k.left ∙ ap Some (insert_twice files name _ _ ∙ ap (insert files name) (put_again at n bytes inside h.now h.full k.now k.full));
      };
}

-- an exchange in a part of the range
pub wider : (s t : DeskState) (name : List ℕ) (at n i m : ℕ) (P R : List ℕ → List ℕ → Type 0) → i + m ≤ n
    → ((was q : List ℕ) → length was ≡ n → length q ≡ m → P (range i m was) q → R was (put_at was i q))
    → Exchanged s t name (at + i) m P → Exchanged s t name at n R
wider s t name at n i m P R within f a = record {
  reads = a.reads;
  counts = a.counts;
  lens = a.lens;
  wrote = inside_wider name at (at + n) s.wrote (at + i) (at + i + m) t.wrote (omega arith) (omega (arith, within)) a.wrote;
  files = λ files told bytes held inside.
      let h = a.files files told bytes held (omega (arith, inside, within)) in
      let fits : i + length h.now ≤ n = omega (arith, within, h.full) in
      record {
        now = put_at (range at n bytes) i h.now;
        full = put_size at n bytes inside i h.now fits;
        is = f (range at n bytes) h.now (range_size at n bytes inside) h.full
            (subst (λ (l : List ℕ). P l h.now) (ap (λ (k : ℕ). range (at + i) k bytes) (sym h.full) ∙ range_inner at n bytes inside i h.now fits ∙ ap (λ (k : ℕ). range i k (range at n bytes)) h.full) h.is);
        left = h.left ∙ ap (λ (l : List ℕ). Some (insert files name l)) (put_inner at n bytes inside i h.now fits);
      };
}

same_lens : (s : DeskState) (name : List ℕ) (n : ℕ) → IsTrue (is_known s name) → n ≡ len_of s name → insert s.lens name n ≡ s.lens
same_lens s name n known e = insert_held s.lens name n (known_held _ known ∙ ap Some (sym e))

-- one write
pub written : (s t : DeskState) (name : List ℕ) (at n : ℕ) (rest : List ℕ) → WriteCall s t name at rest (Ok n) → IsTrue (is_known s name) → at + length rest ≤ len_of s name
    → Exchanged s t name at n (λ was now. now ≡ take n rest)
written s t name at n rest call known inside = record {
  reads = call.reads;
  counts = call.counts;
  lens = call.lens ∙ same_lens s name _ known (omega (arith, inside, call.most));
  wrote = inside_one name at (at + n) s.wrote at n t.wrote call.wrote (omega arith) (omega arith);
  files = λ files told bytes held fits. record {
    now = take n rest;
    full = length-take-le n rest call.most;
    is = refl;
    left = call.files ∙ ap (option_map (λ (files : Files). insert files name (put_at (bytes_of files name) at (take n rest)))) told
        ∙ ap (λ (l : List ℕ). Some (insert files name (put_at l at (take n rest)))) (held_bytes files name bytes held);
  };
}

-- one write that failed
pub torn : (s t : DeskState) (name : List ℕ) (at : ℕ) (rest : List ℕ) (e : Failed) → WriteCall s t name at rest (Err e) → IsTrue (is_known s name) → at + length rest ≤ len_of s name
    → Exchanged s t name at (length rest) (λ was now. Unit {0})
torn s t name at rest e call known inside = record {
  reads = call.reads;
  counts = call.counts;
  lens = let l = call.lens in l.1 ∙ same_lens s name l.0 known (omega (arith, inside, l.2, l.3));
  wrote = elim call.wrote [
    | inl added ↦ inside_one name at (at + length rest) s.wrote at (length rest) t.wrote added (omega arith) (omega arith)
    | inr same ↦ inside_none name at (at + length rest) s.wrote t.wrote same.0
  ];
  files = λ files told bytes held fits.
      let f = call.files files told in
      let is = held_bytes files name bytes held in
      let torn = subst (λ (l : List ℕ). Torn at (length rest) l f.0) is f.2 in
      record {
        now = range at (length rest) f.0;
        full = torn_size at (length rest) bytes f.0 torn fits;
        is = tt;
        left = f.1 ∙ ap (λ (l : List ℕ). Some (insert files name l)) (torn_put at (length rest) bytes f.0 torn fits);
      };
}

pub known_after : (s t : DeskState) (name : List ℕ) → t.lens ≡ s.lens → IsTrue (is_known s name) → IsTrue (is_known t name)
known_after s t name e known = ap (λ (m : Lens). is_some (get m name)) e ∙ known

pub len_after : (s t : DeskState) (name : List ℕ) → t.lens ≡ s.lens → len_of t name ≡ len_of s name
len_after s t name e = ap (λ (m : Lens). unwrap_or (get m name) 0) e

-- the next bytes of a piece after its first ones
put_next : (done n : ℕ) (piece was q : List ℕ) → q ≡ take n (drop done piece) → done + n ≤ length piece → length was ≡ length piece
    → put_at (take done piece ++ drop done was) done q ≡ take (done + n) piece ++ drop (done + n) was
put_next done n piece was q is within size =
    ap (λ (l : List ℕ). (l ++ q) ++ drop (done + length q) (take done piece ++ drop done was)) (take_at (take done piece) (drop done was) done front)
    ∙ ap (λ (l : List ℕ). (take done piece ++ l) ++ drop (done + length q) (take done piece ++ drop done was)) is
    ∙ ap (λ (l : List ℕ). l ++ drop (done + length q) (take done piece ++ drop done was)) (sym (take-add done n piece))
    ∙ ap (λ (l : List ℕ). take (done + n) piece ++ l) after
  where
    front : length (take done piece) ≡ done
    front = length-take-le done piece (omega (arith, within))

    full : length q ≡ n
    full = ap length is ∙ length-take-le n (drop done piece) (omega (arith, within, length-drop done piece))

    after : drop (done + length q) (take done piece ++ drop done was) ≡ drop (done + n) was
    after = ap (λ (k : ℕ). drop (done + k) (take done piece ++ drop done was)) full
        ∙ sym (drop-drop n done (take done piece ++ drop done was)) ∙ ap (drop n) (drop_at (take done piece) (drop done was) done front) ∙ drop-drop n done was

pub put_none : (s : DeskState) (name : List ℕ) (at : ℕ) (piece : List ℕ) → PutSome s s name at piece 0
put_none s name at piece = record {
  put = none s name at (length piece);
  once = subst (λ (end : ℕ). MovedOnce name at end s.wrote s.wrote) (let e : at ≡ at + 0 = omega arith in e) (once_none name at s.wrote s.wrote refl);
}

module _ (s t : DeskState) (name : List ℕ) (at : ℕ) (piece : List ℕ) (done : ℕ) (a : PutSome s t name at piece done) (known : IsTrue (is_known s name)) (inside : at + length piece ≤ len_of s name) where
  rest_inside : done ≤ length piece → at + done + length (drop done piece) ≤ len_of t name
  rest_inside within = omega (arith, inside, within, length-drop done piece, len_after s t name a.put.lens)

  module _ (u : DeskState) where
    pub put_more : (n : ℕ) → done < length piece → WriteCall t u name (at + done) (drop done piece) (Ok n) → PutSome s u name at piece (done + n)
    put_more n left call =
        let most : done + n ≤ length piece = omega (arith, left, call.most, length-drop done piece) in
        let some : 0 < n = call.least (omega (arith, left, length-drop done piece)) in
        record {
          put = both s t u name at (length piece) (λ was now. now ≡ take done piece ++ drop done was) (λ was now. now ≡ put_at was done (take n (drop done piece))) (λ was now. now ≡ take (done + n) piece ++ drop (done + n) was)
              (λ was mid now x y z p q. q ∙ ap (λ (l : List ℕ). put_at l done (take n (drop done piece))) p ∙ put_next done n piece was (take n (drop done piece)) refl most x)
              a.put
              (wider t u name at (length piece) done n (λ was now. now ≡ take n (drop done piece)) (λ was now. now ≡ put_at was done (take n (drop done piece))) most
              (λ was q x y p. ap (put_at was done) p)
              (written t u name (at + done) n (drop done piece) call (known_after s t name a.put.lens known) (rest_inside (omega (arith, left)))));
          once = subst (λ (end : ℕ). MovedOnce name at end s.wrote u.wrote) (let e : at + done + n ≡ at + (done + n) = omega arith in e)
              (once_more name at (at + done) n s.wrote t.wrote u.wrote a.once some call.wrote);
        }

    -- what was recorded of the write that failed
    last_write : (e : Failed) → WriteCall t u name (at + done) (drop done piece) (Err e)
        → (u.wrote ≡ t.wrote) ⊎ (u.wrote ≡ told_push t.wrote (name, at + done, length piece - done))
    last_write e call = elim call.wrote [
      | inl added ↦ inr (added ∙ ap (λ (n : ℕ). told_push t.wrote (name, at + done, n)) (length-drop done piece))
      | inr same ↦ inl same.0
    ]

    pub put_torn : (e : Failed) (result : Result (Unit {0}) Failed) → done < length piece → WriteCall t u name (at + done) (drop done piece) (Err e) → IsErr result → PutCall s u name at piece result
    put_torn e (Ok x) within call err = absurd (cc err)
    put_torn e (Err f) within call err = record {
      done = done;
      put = both s t u name at (length piece) (λ was now. now ≡ take done piece ++ drop done was) (λ was now. take done now ≡ take done was) (λ was now. IsPut (Err f) done piece now)
          (λ was mid now x y z p q. (within, q ∙ ap (take done) p ∙ take_at (take done piece) (drop done was) done (length-take-le done piece (omega (arith, within)))))
          a.put
          (wider t u name at (length piece) done (length (drop done piece)) (λ was now. Unit {0}) (λ was now. take done now ≡ take done was) (omega (arith, within, length-drop done piece))
          (λ was q x y p. ap (take done) (append_assoc (take done was) q (drop (done + length q) was)) ∙ take_at (take done was) (q ++ drop (done + length q) was) done (length-take-le done was (omega (arith, within, x))))
          (torn t u name (at + done) (drop done piece) e call (known_after s t name a.put.lens known) (rest_inside (omega (arith, within)))));
      once = (t.wrote, a.once, last_write e call);
      failed = rose_after s.faults t.faults u.faults a.put.counts.faults call.failed;
    }

  pub put_all : length piece ≤ done → done ≤ length piece → PutCall s t name at piece (Ok tt)
  put_all past within = record {
    done = done;
    put = weaker s t name at (length piece) (λ was now. now ≡ take done piece ++ drop done was) (λ was now. now ≡ piece)
        (λ was now x y p. p ∙ ap (λ (l : List ℕ). l ++ drop done was) (take_all done piece past) ∙ ap (λ (l : List ℕ). piece ++ l) (drop_all done was (omega (arith, past, x))) ∙ append-nil piece) a.put;
    once = subst (λ (n : ℕ). MovedOnce name at (at + n) s.wrote t.wrote) (let e : done ≡ length piece = omega arith in e) a.once;
    failed = tt;
  }
