-- The portions of a name among payloads of a file of a device.
use Rattle.std.proofs.Common.{◌≡◌, ℕ, ◌+◌, ◌<◌, ◌≤◌, Bool, true, false, cond, is_some, List, [], ◌∷◌, ◌++◌, map, length, take, get_or, refl, sym, ap, ◌∙◌, subst, arith, Ok, Err, Option, add-one, length-append}
use Rattle.std.specs.Prelude.{Vec}
use Rattle.std.specs.declared.alloc.Global.{Global}
use Rattle.std.proofs.Math.Seq.{take-suc}
use Rattle.std.proofs.lemmas.List.{take_all}
use Rattle.std.proofs.lemmas.List.Elements.{All-append, All-cons, All-nil, filter_more}
use Rattle.std.proofs.lemmas.Option.{slice_get-get_or, slice_get-map}
use Rattle.std.specs.Option.{option_map}
use Rattle.xmp_base.specs.declared.file_span.FileSpan.{FileSpan}
use Rattle.xmp_base.specs.Device.{DeskState, Told, Rose, bytes_of}
use Rattle.xmp_base.proofs.Calls.{rose_after}
use Rattle.jpeg_extended.specs.declared.from_desk.JoinStop.TheVariants.{Portions, Device}
use Rattle.jpeg_extended.specs.declared.tiling.ExtStop.TheVariants as stops
use Rattle.xmp_base.specs.Windows.{ReadInside}
use Rattle.jpeg_extended.specs.declared.tiling.Head.{Head}
use Rattle.jpeg_extended.specs.FromDesk.{is_portion_at, named_at, head_range, AreInside, InPayload, PayloadCalls, HeadIs, picked, ArePicked, NamedCall}
use Rattle.jpeg_extended.proofs.DeskPortions.{desk_calls_none, desk_calls_more, head_named}

-- the portions of the name among the first payloads
pub record NamedSoFar (s t : DeskState) (file name : List ℕ) (len : ℕ) (payloads : List FileSpan) (i : ℕ) (named : List FileSpan) : Type 0 where
  pub calls : PayloadCalls s t file (map head_range payloads)
  pub inside : AreInside len named
  pub among : ArePicked named (take i payloads)
  pub told : Told s.files (λ files. named ≡ named_at (bytes_of files file) name (take i payloads))

pub named_none : (s : DeskState) (file name : List ℕ) (len : ℕ) (payloads named : List FileSpan) → named ≡ [] → NamedSoFar s s file name len payloads 0 named
named_none s file name len payloads named is = record {
  calls = desk_calls_none s file (map head_range payloads);
  inside = subst (AreInside len) (sym is) (All-nil (λ (p : FileSpan). (p.start ≤ p.end) × (p.end ≤ len)));
  among = record { flags = []; as_many = refl; is = is };
  told = λ files told. is;
}

picked-append : (fs gs : List Bool) (xs ys : List FileSpan) → length fs ≡ length xs → picked (fs ++ gs) (xs ++ ys) ≡ picked fs xs ++ picked gs ys
picked-append [] gs [] ys same = refl
picked-append [] gs (x ∷ xs) ys same = absurd (omega (arith, same))
picked-append (f ∷ fs) gs [] ys same = absurd (omega (arith, same))
picked-append (true ∷ fs) gs (x ∷ xs) ys same = ap (λ (l : List FileSpan). x ∷ l) (picked-append fs gs xs ys (omega (arith, same)))
picked-append (false ∷ fs) gs (x ∷ xs) ys same = picked-append fs gs xs ys (omega (arith, same))

picked_one : (flag : Bool) (x : FileSpan) → picked (flag ∷ []) (x ∷ []) ≡ cond flag (x ∷ []) []
picked_one true x = refl
picked_one false x = refl

among_more : (payloads : List FileSpan) (i : ℕ) (d : FileSpan) (named : List FileSpan) (flag : Bool) → i < length payloads → ArePicked named (take i payloads)
    → ArePicked (named ++ cond flag (get_or payloads i d ∷ []) []) (take (i + 1) payloads)
among_more payloads i d named flag within a =
    let next : take (i + 1) payloads ≡ take i payloads ++ (get_or payloads i d ∷ []) = rw add-one (take-suc payloads i d within) in
    record {
      flags = a.flags ++ (flag ∷ []);
      as_many = omega (arith, length-append a.flags (flag ∷ []), length-append (take i payloads) (get_or payloads i d ∷ []), ap length next, a.as_many);
      is = (λ j. a.is j ++ sym (picked_one flag (get_or payloads i d)) j)
          ∙ sym (picked-append a.flags (flag ∷ []) (take i payloads) (get_or payloads i d ∷ []) a.as_many)
          ∙ ap (picked (a.flags ++ (flag ∷ []))) (sym next);
    }

in_head : (payloads : List FileSpan) (i : ℕ) (d : FileSpan) → i < length payloads
    → InPayload (map head_range payloads) (get_or payloads i d).start (head_range (get_or payloads i d)).end
in_head payloads i d within = record {
  number = i;
  payload = head_range (get_or payloads i d);
  there = slice_get-map head_range payloads i ∙ ap (option_map head_range) (slice_get-get_or payloads i d within);
  from = omega arith;
  to = omega arith;
}

inside_more : (len : ℕ) (named : List FileSpan) (p : FileSpan) (b : Bool) → AreInside len named → (p.start ≤ p.end) × (p.end ≤ len) → AreInside len (named ++ cond b (p ∷ []) [])
inside_more len named p true a i = let P : FileSpan → Type 0 = λ q. (q.start ≤ q.end) × (q.end ≤ len) in All-append P named (p ∷ []) a (All-cons P p [] i (All-nil P))
inside_more len named p false a i = let P : FileSpan → Type 0 = λ q. (q.start ≤ q.end) × (q.end ≤ len) in All-append P named [] a (All-nil P)

module _ (s t u : DeskState) (file name : List ℕ) (len : ℕ) (payloads : List FileSpan) (i : ℕ) (d : FileSpan) (named : List FileSpan) (within : i < length payloads)
    (a : NamedSoFar s t file name len payloads i named) (read : ReadInside t u file (get_or payloads i d).start (head_range (get_or payloads i d)).end) where
  more_calls : PayloadCalls s u file (map head_range payloads)
  more_calls = desk_calls_more s t u file (map head_range payloads) _ _ a.calls read (in_head payloads i d within)

  pub named_failed : Rose t.faults u.faults → NamedCall s u file len payloads name (Err Device)
  named_failed rose = record { calls = more_calls; inside = tt; among = tt; told = tt; stops = rose_after s.faults t.faults u.faults a.calls.counts.faults rose }

  pub named_wants : NamedCall s u file len payloads name (Err (Portions stops.Memory))
  named_wants = record { calls = more_calls; inside = tt; among = tt; told = tt; stops = refl }

  pub named_step : (new : List FileSpan) (head : Option Head) → AreInside len payloads → Told s.files (λ files. length (bytes_of files file) ≡ len)
      → Told t.files (λ files. HeadIs name (bytes_of files file) (get_or payloads i d) head) → new ≡ named ++ cond (is_some head) (get_or payloads i d ∷ []) []
      → NamedSoFar s u file name len payloads (i + 1) new
  named_step new head inside whole_is is pushed = record {
    calls = more_calls;
    inside = subst (AreInside len) (sym pushed) (inside_more len named (get_or payloads i d) (is_some head) a.inside (inside i d within));
    among = subst (λ (l : List FileSpan). ArePicked l (take (i + 1) payloads)) (sym pushed) (among_more payloads i d named (is_some head) within a.among);
    told = λ files told.
        let bytes = bytes_of files file in
        let there = inside i d within in
        let named_is : is_some head ≡ is_portion_at bytes name (get_or payloads i d) =
        head_named bytes name (get_or payloads i d) there.0 (omega (arith, there.1, whole_is files told)) head (is files (a.calls.same.files ∙ told)) in
        pushed
        ∙ (λ j. a.told files told j ++ cond (named_is j) (get_or payloads i d ∷ []) [])
        ∙ sym (filter_more (is_portion_at bytes name) payloads i d within);
  }

pub named_done : (s t : DeskState) (file name : List ℕ) (len : ℕ) (payloads : List FileSpan) (i : ℕ) (named : Vec FileSpan Global) → length payloads ≤ i
    → NamedSoFar s t file name len payloads i named.items → NamedCall s t file len payloads name (Ok named)
named_done s t file name len payloads i named past a = record {
  calls = a.calls;
  inside = a.inside;
  among = subst (ArePicked named.items) (take_all i payloads past) a.among;
  told = λ files told. a.told files told ∙ ap (named_at (bytes_of files file) name) (take_all i payloads past);
  stops = tt;
}
