-- Reads and writes among some places of a file, one after another.
use Rattle.std.proofs.Common.{◌≡◌, ℕ, ◌+◌, ◌-◌, ◌≤◌, List, [], ◌∷◌, ◌++◌, length, take, drop, refl, sym, ap, ◌∙◌, arith, Ok, Some, append_assoc}
use Rattle.std.specs.declared.option.Option.{Option}
use Rattle.std.proofs.lemmas.List.{append-nil, drop-drop}
use Rattle.std.proofs.lemmas.List.Elements.{All-append, All-nil, All-cons, All-weaker}
use borrow.Rule.Slice.PartMut.{put_mid}
use Rattle.xmp_base.specs.Device.{DeskState, Moved, ReadCall, bytes_of, told_push, Told}
use Rattle.xmp_base.specs.Windows.{IsInside, MovesInside, ReadInside}
use Rattle.xmp_base.proofs.Calls.{same_trans, counts_trans, take_both}

module _ (name : List ℕ) (start end : ℕ) (old : Option (List Moved)) where
  pub inside_none : (new : Option (List Moved)) → new ≡ old → MovesInside name start end old new
  inside_none new e = λ moves told. ([], e ∙ told ∙ ap Some (sym (append-nil moves)), All-nil (IsInside name start end))

  pub inside_one : (at n : ℕ) (new : Option (List Moved)) → new ≡ told_push old (name, at, n) → start ≤ at → at + n ≤ end → MovesInside name start end old new
  inside_one at n new e from to = λ moves told. (
    (name, at, n) ∷ [],
    e ∙ ap (λ (o : Option (List Moved)). told_push o (name, at, n)) told,
    All-cons (IsInside name start end) (name, at, n) [] (record { of_name = refl; from_start = from; to_end = to }) (All-nil (IsInside name start end)),
  )

  pub inside_trans : (mid new : Option (List Moved)) → MovesInside name start end old mid → MovesInside name start end mid new → MovesInside name start end old new
  inside_trans mid new a b = λ moves told. let m = a moves told in let n = b _ m.1 in
      (m.0 ++ n.0, n.1 ∙ ap Some (append_assoc moves m.0 n.0), All-append (IsInside name start end) m.0 n.0 m.2 n.2)

  -- among more places
  pub inside_wider : (first last : ℕ) (new : Option (List Moved)) → start ≤ first → last ≤ end → MovesInside name first last old new → MovesInside name start end old new
  inside_wider first last new from to a = λ moves told. let m = a moves told in (
    m.0,
    m.1,
    All-weaker (IsInside name first last) (IsInside name start end) (λ x i. record { of_name = i.of_name; from_start = omega (arith, i.from_start); to_end = omega (arith, i.to_end) }) m.0 m.2,
  )

-- the first bytes of the slice are those of the file from `at` on
pub record FilledFrom (s t : DeskState) (name : List ℕ) (at end done : ℕ) (to : List ℕ) : Type 0 where
  pub calls : ReadInside s t name at end
  pub bytes : Told s.files (λ files. take done to ≡ take done (drop at (bytes_of files name)))

pub filled_more : (s t u : DeskState) (name : List ℕ) (at end done n k : ℕ) (to part : List ℕ)
    → FilledFrom s t name at end done to → ReadCall t u name (at + done) part (Ok n) → done ≤ length to → length part ≡ k → k ≡ length to - done → end ≡ at + length to
    → FilledFrom s u name at end (done + n) (put_mid done k to part)
filled_more s t u name at end done n k to part a b within size is end_is = record {
  calls = record {
    same = same_trans s t u a.calls.same b.same;
    counts = counts_trans s t u a.calls.counts b.counts;
    lens = b.lens ∙ a.calls.lens;
    reads = inside_trans name at end s.reads t.reads u.reads a.calls.reads
        (inside_one name at end t.reads (at + done) n u.reads b.reads (omega arith) (omega (arith, b.most.0)));
  };
  bytes = λ files told. take_both done n k to part (drop at (bytes_of files name)) within size is b.most.0 (a.bytes files told)
      (b.bytes files (a.calls.same.files ∙ told) ∙ ap (take n) (sym (drop-drop done at (bytes_of files name))));
}
