-- Reading a value part by part, as a loop does.
use Rattle.std.proofs.Common.{◌≡◌, ℕ, suc, ◌-◌, ◌+◌, ◌≤◌, ◌<◌, List, [], ◌∷◌, ◌++◌, Option, Some, None, refl, sym, ap, ◌∙◌, append_assoc, arith}
use Rattle.std.specs.Prelude.{encode_utf8, encode_utf8_all}
use Rattle.std.proofs.lemmas.List.{append-nil}
use Rattle.std.proofs.lemmas.Str.{length-le-encodes}
use Rattle.xml_tokenizer.specs.Classes.{is_value}
use Rattle.xml_tokenizer.specs.Runs.{taken, past, after, width, with_front}
use Rattle.xml_tokenizer.specs.Values.{special_at, tail_at, value_at}
use Rattle.xml_tokenizer.proofs.Sought.{with_both}

pub tail_more : (front owned : List ℕ) (count i quote : ℕ) (cs : List ℕ) (s : ℕ × List ℕ) (next : List ℕ) (total : Option (List ℕ × List ℕ)) → i < count
    → after (quote ∷ []) cs ≡ None → special_at cs ≡ Some s → next ≡ past (is_value quote) s.1 → owned ≡ front ++ encode_utf8 s.0 ++ encode_utf8_all (taken (is_value quote) s.1)
    → with_front front (tail_at (count - i) quote cs) ≡ total → with_front owned (tail_at (count - (i + 1)) quote next) ≡ total
unfolding tail_at
tail_more front owned count i quote cs s next total lt open_ h is e so_far =
    let k : count - i ≡ suc (count - (i + 1)) = omega arith in
    let one : with_front front (tail_at (count - i) quote cs) ≡ with_front front (with_front (encode_utf8 s.0 ++ encode_utf8_all (taken (is_value quote) s.1)) (tail_at (count - (i + 1)) quote next)) = rw (k, open_, h, is) refl in
    let two : front ++ (encode_utf8 s.0 ++ encode_utf8_all (taken (is_value quote) s.1)) ≡ owned = sym (append_assoc front (encode_utf8 s.0) _) ∙ sym e in
    ap (λ (x : List ℕ). with_front x (tail_at (count - (i + 1)) quote next)) (sym two) ∙ sym (with_both front _ _) ∙ sym one ∙ so_far

pub tail_misses : (front : List ℕ) (count i quote : ℕ) (cs : List ℕ) (total : Option (List ℕ × List ℕ)) → i < count
    → after (quote ∷ []) cs ≡ None → special_at cs ≡ None → with_front front (tail_at (count - i) quote cs) ≡ total → total ≡ None
unfolding tail_at
tail_misses front count i quote cs total lt open_ h so_far =
    let k : count - i ≡ suc (count - (i + 1)) = omega arith in
    let one : with_front front (tail_at (count - i) quote cs) ≡ None = rw (k, open_, h) refl in
    sym so_far ∙ one

pub tail_done : (front : List ℕ) (count i quote : ℕ) (cs rest : List ℕ) (total : Option (List ℕ × List ℕ)) → i < count
    → after (quote ∷ []) cs ≡ Some rest → with_front front (tail_at (count - i) quote cs) ≡ total → total ≡ Some (front, rest)
unfolding tail_at
tail_done front count i quote cs rest total lt shut so_far =
    let k : count - i ≡ suc (count - (i + 1)) = omega arith in
    let one : with_front front (tail_at (count - i) quote cs) ≡ Some (front, rest) = rw (k, shut) (ap (λ (x : List ℕ). Some (x, rest)) (append-nil front)) in
    sym so_far ∙ one

pub tail_out : (front : List ℕ) (count i quote : ℕ) (cs : List ℕ) (total : Option (List ℕ × List ℕ)) → count ≤ i
    → with_front front (tail_at (count - i) quote cs) ≡ total → total ≡ None
unfolding tail_at
tail_out front count i quote cs total le so_far =
    let k : count - i ≡ 0 = omega arith in
    let one : with_front front (tail_at (count - i) quote cs) ≡ None = rw k refl in
    sym so_far ∙ one

tail_here : (m n quote : ℕ) (cs rest : List ℕ) → m ≡ suc n → after (quote ∷ []) cs ≡ Some rest → tail_at m quote cs ≡ Some ([], rest)
unfolding tail_at
tail_here m n quote cs rest k e = rw (k, e) refl

-- a value without specials
pub value_plain : (quote : ℕ) (cs rest : List ℕ) → after (quote ∷ []) (past (is_value quote) cs) ≡ Some rest → value_at quote cs ≡ Some (encode_utf8_all (taken (is_value quote) cs), rest)
unfolding value_at
value_plain quote [] rest e = absurd cc
value_plain quote (c ∷ cs) rest e =
    let long : 1 ≤ width (c ∷ cs) = omega (arith, length-le-encodes (c ∷ cs)) in
    let k : width (c ∷ cs) ≡ suc (width (c ∷ cs) - 1) = omega arith in
    let one : tail_at (width (c ∷ cs)) quote (past (is_value quote) (c ∷ cs)) ≡ Some ([], rest) = tail_here (width (c ∷ cs)) (width (c ∷ cs) - 1) quote (past (is_value quote) (c ∷ cs)) rest k e in
    ap (with_front (encode_utf8_all (taken (is_value quote) (c ∷ cs)))) one ∙ ap (λ (x : List ℕ). Some (x, rest)) (append-nil _)
