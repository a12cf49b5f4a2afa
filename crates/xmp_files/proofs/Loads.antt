-- A load: the length, then the kind, then the payload.
use Rattle.std.proofs.Common.{◌≡◌, ◌≢◌, ℕ, ◌<◌, ◌≤◌, ◌⊎◌, List, ◌++◌, length, take, min, Bool, true, false, refl, sym, ap, ◌∙◌, subst, arith, inl, inr, IsTrue, [], Ok, Err, Some, None, append_assoc, if◌then◌else◌}
use Rattle.std.specs.declared.option.Option.{Option}
use Rattle.std.specs.declared.result.Result.{Result}
use Rattle.std.specs.FinMap.{get}
use Rattle.std.specs.Option.{unwrap_or, ok_or}
use Rattle.std.specs.Prelude.{IfOk, IsOk, nat_le, not, ◌&&◌}
use Rattle.std.proofs.lemmas.Bool.{cond-true, cond-false, lt-ltb, le-ltb}
use Rattle.std.proofs.lemmas.List.{take-take, take_min, append-nil}
use Rattle.std.proofs.lemmas.List.Elements.{All-append, All-nil, All-weaker}
use Rattle.xmp_base.specs.Device.{DeskState, Lens, Moved, SizeCall, Told, OthersKeep, bytes_of, is_known, len_of, size_of, Rose}
use Rattle.xmp_base.specs.Whole.{ReadsOf}
use Rattle.xmp_base.specs.Windows.{FillFrom, IsInside, MovesInside, ReadInside}
use Rattle.xmp_base.proofs.Calls.{some_size, some_inside, some_trans, rose_after, now_known}
use Rattle.xmp_base.proofs.Inside.{inside_none, inside_trans, inside_wider}
use Rattle.xmp_base.proofs.Names.{get-insert_other}
use Rattle.xmp_values.specs.declared.faults.Fault.{Fault}
use Rattle.xmp_values.specs.declared.rules.Rule.{Rule}
use Rattle.xmp_values.specs.declared.rules.Rule.TheVariants.{FileLimit, NotKnown, BigTiff as ShortOffsets, NotBuilt}
use Rattle.xmp_values.specs.declared.stops.FileStop.{FileStop}
use Rattle.xmp_values.specs.declared.stops.FileStop.TheVariants.{Absent, Fault as Refused, Device, Memory}
use Rattle.xmp_base.specs.declared.device.Failed.{Failed}
use Rattle.xmp_files.specs.declared.kinds.Kind.{Kind}
use Rattle.xmp_files.specs.declared.kinds.Kind.TheVariants.{Jpeg, Tiff, BigTiff, Sidecar}
use Rattle.xmp_files.specs.declared.held.Need.{Need}
use Rattle.xmp_files.specs.Faults.{file_limit, over_limit, not_known, short_offsets, not_built}
use Rattle.xmp_files.specs.Kinds.{kind_of, has_long_offsets}
use Rattle.xmp_files.specs.Stages.{followed, Followed}
use Rattle.xmp_files.specs.Keeping.{Kept}
use Rattle.xmp_files.specs.Loading.{known, known_head, with_offsets, kind_of_file, IsContained, IsKept}
use Rattle.xmp_files.specs.Sparing.{Spares, HasContainer, Spared}
use Rattle.xmp_files.specs.Loads.{KindCall, ReadKnown, SizedCall, LoadCall, LoadGives, Refusal, RefusalReads, IsLoadRefusal, IsOfSize, read_before}

-- the first bytes of a file, or all of a shorter one, tell its kind
same_head : (size : ℕ) (head bytes : List ℕ) → length bytes ≡ size → length head ≡ min size 16 → head ≡ take (length head) bytes → take 16 head ≡ take 16 bytes
same_head size head bytes whole len is = ap (take 16) all ∙ take-take 16 16 bytes (omega arith)
  where
    all : head ≡ take 16 bytes
    all = is ∙ ap (λ n. take n bytes) (len ∙ omega (arith, whole)) ∙ take_min 16 bytes

-- A file of a kind that is read.

offsets_kind : (head : List ℕ) (kind other : Kind) → with_offsets head kind ≡ Ok other → kind ≡ other
offsets_kind head BigTiff other e = by_test (nat_le 8 (length head) && not (has_long_offsets head)) e
  where
    by_test : (b : Bool) → (let r : Result Kind Fault = if b then Err short_offsets else Ok BigTiff in r) ≡ Ok other → BigTiff ≡ other
    by_test true e = absurd (cc e)
    by_test false e = cc e
offsets_kind head kind other e = cc e

offsets_fault : (head : List ℕ) (kind : Kind) (fault : Fault) → with_offsets head kind ≡ Err fault → fault ≡ short_offsets
offsets_fault head BigTiff fault e = by_test (nat_le 8 (length head) && not (has_long_offsets head)) e
  where
    by_test : (b : Bool) → (let r : Result Kind Fault = if b then Err short_offsets else Ok BigTiff in r) ≡ Err fault → fault ≡ short_offsets
    by_test true e = cc e
    by_test false e = absurd (cc e)
offsets_fault head kind fault e = absurd (cc e)

kind_by : (head : List ℕ) (found : Option Kind) (kind : Kind) → followed (ok_or found not_known) (with_offsets head) ≡ Ok kind → found ≡ Some kind
kind_by head None kind e = absurd (cc e)
kind_by head (Some found) kind e = ap (λ (k : Kind). Some k) (offsets_kind head found kind e)

fault_by : (head : List ℕ) (found : Option Kind) (fault : Fault) → followed (ok_or found not_known) (with_offsets head) ≡ Err fault → (fault ≡ not_known) ⊎ (fault ≡ short_offsets)
fault_by head None fault e = inl (cc e)
fault_by head (Some found) fault e = inr (offsets_fault head found fault e)

pub known_kind : (bytes : List ℕ) (kind : Kind) → known bytes ≡ Ok kind → kind_of bytes ≡ Some kind
known_kind bytes kind e = kind_by (take 16 bytes) (kind_of bytes) kind e

-- the file is of a kind that needs no more than its first bytes
pub known_as : (bytes : List ℕ) (kind : Kind) → kind_of bytes ≡ Some kind → with_offsets (take 16 bytes) kind ≡ Ok kind → known bytes ≡ Ok kind
known_as bytes kind is plain = ap (λ (k : Option Kind). followed (ok_or k not_known) (with_offsets (take 16 bytes))) is ∙ plain

-- what the first bytes tell, as the code has it
abbrev pub kind_result : Result Kind Fault → Result Kind FileStop
kind_result (Ok kind) = Ok kind
kind_result (Err fault) = Err (Refused fault)

pub kind_read : (s t : DeskState) (name : List ℕ) (size : ℕ) (head : List ℕ) (by : Result Kind Fault) → by ≡ known head → Told s.files (λ files. length (bytes_of files name) ≡ size) → length head ≡ min size 16
    → FillFrom s t name 0 head (Ok tt) → KindCall s t name size (kind_result by)
kind_read s t name size head (Ok kind) is whole len fill = record {
  calls = subst (λ (n : ℕ). ReadInside s t name 0 n) (omega (arith, len)) fill.calls;
  answer = λ files told. sym (is ∙ ap known_head (same_head size head (bytes_of files name) (whole files told) len (fill.bytes files told)));
}
kind_read s t name size head (Err fault) is whole len fill = record {
  calls = subst (λ (n : ℕ). ReadInside s t name 0 n) (omega (arith, len)) fill.calls;
  answer = (
    λ files told. sym (is ∙ ap known_head (same_head size head (bytes_of files name) (whole files told) len (fill.bytes files told))),
    fault_by (take 16 head) (kind_of head) fault (sym is),
  );
}

pub kind_failed : (s t : DeskState) (name : List ℕ) (size : ℕ) (head : List ℕ) (failed : Failed) → length head ≡ min size 16 → FillFrom s t name 0 head (Err failed) → KindCall s t name size (Err Device)
kind_failed s t name size head failed len fill = record { calls = subst (λ (n : ℕ). ReadInside s t name 0 n) (omega (arith, len)) fill.calls; answer = fill.failed }

-- Reads spare what isn't read.

abbrev SparesAll : Need → Option (List ℕ) → List ℕ → Moved → Type 0
SparesAll need file name m = (kept : Kept) → HasContainer need file kept → m.0 ≡ name → Spares kept m

pub spared_trans : (need : Need) (s t u : DeskState) (name : List ℕ) → t.files ≡ s.files → Spared need s t name → Spared need t u name → Spared need s u name
spared_trans need s t u name same a b files told reads read_told =
    let m = a files told reads read_told in let n = b files (same ∙ told) (reads ++ m.0) m.1 in
    (m.0 ++ n.0, n.1 ∙ ap Some (append_assoc reads m.0 n.0), All-append (SparesAll need (get files name) name) m.0 n.0 m.2 n.2)

pub spared_none : (need : Need) (s t : DeskState) (name : List ℕ) → t.reads ≡ s.reads → Spared need s t name
spared_none need s t name same files told reads read_told =
    ([], same ∙ read_told ∙ ap Some (sym (append-nil reads)), All-nil (SparesAll need (get files name) name))

-- a move among the first 16 bytes
head_spares : (kept : Kept) (name : List ℕ) (end : ℕ) (m : Moved) → end ≤ 16 → IsInside name 0 end m → Spares kept m
head_spares kept name end m short i place from start before h = absurd (omega (arith, i.to_end))

spared_head : (need : Need) (s t : DeskState) (name : List ℕ) (end : ℕ) → end ≤ 16 → MovesInside name 0 end s.reads t.reads → Spared need s t name
spared_head need s t name end short moves files told reads read_told =
    let m = moves reads read_told in
    (m.0, m.1, All-weaker (IsInside name 0 end) (SparesAll need (get files name) name) (λ (x : Moved) i kept has of. head_spares kept name end x short i) m.0 m.2)

min_le : (len : ℕ) → min len 16 ≤ len
min_le len = omega arith

min_le_head : (len : ℕ) → min len 16 ≤ 16
min_le_head len = omega arith

head_before : (rule : Rule) (len : ℕ) → rule ≢ FileLimit → min len 16 ≤ read_before rule len
head_before FileLimit len other = absurd (other refl)
head_before NotKnown len other = min_le_head len
head_before ShortOffsets len other = min_le_head len
head_before NotBuilt len other = min_le_head len
head_before rule len other = min_le len

-- reads of a name, one after another
reads_both : (name : List ℕ) (a b c : Option (List Moved)) → ReadsOf name a b → ReadsOf name b c → ReadsOf name a c
reads_both name a b c p q = λ reads told. let m = p reads told in let n = q _ m.1 in
    (m.0 ++ n.0, n.1 ∙ ap Some (append_assoc reads m.0 n.0), All-append (λ (x : Moved). x.0 ≡ name) m.0 n.0 m.2 n.2)

moves_named : (name : List ℕ) (start end : ℕ) (a b : Option (List Moved)) → MovesInside name start end a b → ReadsOf name a b
moves_named name start end a b moves = λ reads told. let m = moves reads told in (m.0, m.1, All-weaker (IsInside name start end) (λ (x : Moved). x.0 ≡ name) (λ x i. i.of_name) m.0 m.2)

reads_after : (rule : Rule) (len size : ℕ) (name : List ℕ) (a b c : Option (List Moved)) → min size 16 ≤ read_before rule len → MovesInside name 0 (min size 16) a b → RefusalReads rule len name b c → RefusalReads rule len name a c
reads_after rule len size name a b c low first (inl moves) = inl (inside_trans name 0 (read_before rule len) a b c (inside_wider name 0 (read_before rule len) a 0 (min size 16) b (omega arith) low first) moves)
reads_after rule len size name a b c low first (inr named) = inr (named.0, reads_both name a b c (moves_named name 0 (min size 16) a b first) named.1)

-- reads inside a file are reads of it
pub known_inside : (s t : DeskState) (name : List ℕ) (start end : ℕ) → ReadInside s t name start end → ReadKnown s t name
known_inside s t name start end a = record { some = some_inside s t name start end a; lens = a.lens }

pub known_trans : (s t u : DeskState) (name : List ℕ) → ReadKnown s t name → ReadKnown t u name → ReadKnown s u name
known_trans s t u name a b = record { some = some_trans s t u name a.some b.some; lens = b.lens ∙ a.lens }

-- What is loaded, once the kind is read: reads of it go before.
pub load_after : (need : Need) (s t u : DeskState) (name : List ℕ) (size : ℕ) (kind : Result Kind FileStop) (result : Result Kept FileStop)
    → KindCall s t name size kind → len_of s name ≡ size → SizedCall need t u name size result → SizedCall need s u name size result
load_after need s t u name size kind result a len b = record {
  calls = known_trans s t u name (known_inside s t name 0 (min size 16) a.calls) b.calls;
  told = λ files told. b.told files (a.calls.same.files ∙ told);
  memory = λ files told. b.memory files (a.calls.same.files ∙ told);
  there = b.there;
  device = λ e. rose_after s.faults t.faults u.faults a.calls.counts.faults (b.device e);
  refuses = λ fault e. let r = b.refuses fault e in record {
    numbers = r.numbers;
    reads = reads_after fault.rule (len_of u name) size name s.reads t.reads u.reads (first (b.limited fault e)) a.calls.reads r.reads;
  };
  limited = b.limited;
  spared = spared_trans need s t u name a.calls.same.files (spared_head need s t name (min size 16) (min_le_head size) a.calls.reads) b.spared;
  held = b.held;
}
  where
    now : len_of u name ≡ size
    now = ap (λ (m : Lens). unwrap_or (get m name) 0) (b.calls.lens ∙ a.calls.lens) ∙ len

    first : {rule : Rule} → rule ≢ FileLimit → min size 16 ≤ read_before rule (len_of u name)
    first {rule} other = subst (λ (n : ℕ). min n 16 ≤ read_before rule (len_of u name)) now (head_before rule (len_of u name) other)

-- a known file whose bytes are known as long as they are told
pub record Sized (s : DeskState) (name : List ℕ) (size : ℕ) : Type 0 where
  pub len : len_of s name ≡ size
  pub whole : Told s.files (λ files. length (bytes_of files name) ≡ size)

module _ (need : Need) (s t : DeskState) (name : List ℕ) (size : ℕ) (sized : Sized s name size) where
  now : t.lens ≡ s.lens → len_of t name ≡ size
  now lens = ap (λ (m : Lens). unwrap_or (get m name) 0) lens ∙ sized.len

  refused_one : (f fault : Fault) → (let e : Result Kept FileStop = Err (Refused f) in e) ≡ Err (Refused fault) → f ≡ fault
  refused_one f fault e = cc

  -- A refusal by what was read so far.
  module _ (fault : Fault) (calls : ReadKnown s t name) (reads : RefusalReads fault.rule (len_of t name) name s.reads t.reads)
      (numbers : IsLoadRefusal (len_of t name) fault.rule fault) (other : fault.rule ≢ FileLimit) (spared : Spared need s t name)
      (told : Told s.files (λ files. Followed (known (bytes_of files name)) (IsKept need (bytes_of files name)) (Err fault))) where
    pub sized_refusal : SizedCall need s t name size (Err (Refused fault))
    sized_refusal = record {
      calls = calls;
      told = told;
      memory = λ files told e. absurd (cc e);
      there = λ e. cc;
      device = λ e. cc;
      refuses = λ f e. subst (Refusal s t name) (refused_one fault f e) (record { numbers = numbers; reads = reads });
      limited = λ f e. subst (λ (g : Fault). g.rule ≢ FileLimit) (refused_one fault f e) other;
      spared = spared;
      held = tt;
    }

  module _ (calls : ReadKnown s t name) (spared : Spared need s t name) where
    -- the desk failed
    pub sized_fails : Rose s.faults t.faults → SizedCall need s t name size (Err Device)
    sized_fails rose = record {
      calls = calls;
      told = λ files told. tt;
      memory = λ files told e. absurd (cc e);
      there = λ e. cc e;
      device = λ e. rose;
      refuses = λ fault e. absurd (cc e);
      limited = λ fault e. absurd (cc e);
      spared = spared;
      held = tt;
    }

    -- memory ran out, of a file whose kind is known
    pub sized_wants : Told s.files (λ files. IsOk (known (bytes_of files name))) → SizedCall need s t name size (Err Memory)
    sized_wants kind = record {
      calls = calls;
      told = λ files told. tt;
      memory = λ files told e. kind files told;
      there = λ e. cc e;
      device = λ e. absurd (cc e);
      refuses = λ fault e. absurd (cc e);
      limited = λ fault e. absurd (cc e);
      spared = spared;
      held = tt;
    }

    -- the file is kept
    pub sized_kept : (kept : Kept) → Told s.files (λ files. Followed (known (bytes_of files name)) (IsKept need (bytes_of files name)) (Ok kept)) → IsOfSize size kept → SizedCall need s t name size (Ok kept)
    sized_kept kept told held = record {
      calls = calls;
      told = told;
      memory = λ files told e. absurd (cc e);
      there = λ e. cc e;
      device = λ e. absurd (cc e);
      refuses = λ fault e. absurd (cc e);
      limited = λ fault e. absurd (cc e);
      spared = spared;
      held = held;
    }

pub by_known : (need : Need) (bytes : List ℕ) (by : Result Kind Fault) (step : Result Kept Fault) → known bytes ≡ by
    → Followed by (IsKept need bytes) step → Followed (known bytes) (IsKept need bytes) step
by_known need bytes by step is h = subst (λ (k : Result Kind Fault). Followed k (IsKept need bytes) step) (sym is) h

-- the kinds that are built
abbrev pub IsBuilt : Kind → Type 0
IsBuilt kind = (kind ≡ Sidecar) ⊎ (kind ≡ Jpeg) ⊎ (kind ≡ Tiff) ⊎ (kind ≡ BigTiff)

pub not_built_kind : (kind : Kind) → kind ≢ Sidecar → kind ≢ Jpeg → kind ≢ Tiff → kind ≢ BigTiff → IsBuilt kind → ⊥
not_built_kind kind a b c d (inl h) = a h
not_built_kind kind a b c d (inr (inl h)) = b h
not_built_kind kind a b c d (inr (inr (inl h))) = c h
not_built_kind kind a b c d (inr (inr (inr h))) = d h

unbuilt_contained : (need : Need) (kind : Kind) (bytes : List ℕ) → (IsBuilt kind → ⊥) → IsContained need kind bytes (Err not_built)
unbuilt_contained need Sidecar bytes other = absurd (other (inl refl))
unbuilt_contained need Jpeg bytes other = absurd (other (inr (inl refl)))
unbuilt_contained need Tiff bytes other = absurd (other (inr (inr (inl refl))))
unbuilt_contained need BigTiff bytes other = absurd (other (inr (inr (inr refl))))
unbuilt_contained need kind bytes other = refl

-- no call since
pub inside_idle : (s : DeskState) (name : List ℕ) (end : ℕ) → ReadInside s s name 0 end
inside_idle s name end = record {
  same = record { files = refl; wrote = refl };
  counts = record { faults = omega arith; misses = omega arith; plan = refl };
  lens = refl;
  reads = inside_none name 0 end s.reads s.reads refl;
}

-- The exits of a file of a known kind.
module _ (need : Need) (s : DeskState) (name : List ℕ) (size : ℕ) (sized : Sized s name size) (kind : Kind)
    (told : Told s.files (λ files. known (bytes_of files name) ≡ Ok kind)) where
  pub unbuilt_end : (fault : Fault) → fault ≡ not_built → (IsBuilt kind → ⊥) → SizedCall need s s name size (Err (Refused fault))
  unbuilt_end fault is other = subst (λ (f : Fault). SizedCall need s s name size (Err (Refused f))) (sym is)
      (sized_refusal need s s name size sized not_built (known_inside s s name 0 size (inside_idle s name size)) (inl (inside_none name 0 16 s.reads s.reads refl)) refl (λ e. cc) (spared_none need s s name refl)
      (λ files is. by_known need (bytes_of files name) (Ok kind) (Err not_built) (told files is)
      (Err not_built, unbuilt_contained need kind (bytes_of files name) other, refl)))

-- The file has no kind that is read, or its first bytes weren't read.
module _ (need : Need) (s t : DeskState) (name : List ℕ) (size : ℕ) (sized : Sized s name size) where
  head_refused : (fault : Fault) → 16 ≤ read_before fault.rule (len_of t name) → IsLoadRefusal (len_of t name) fault.rule fault → fault.rule ≢ FileLimit → KindCall s t name size (Err (Refused fault))
      → SizedCall need s t name size (Err (Refused fault))
  head_refused fault low numbers other call =
      sized_refusal need s t name size sized fault (known_inside s t name 0 (min size 16) call.calls)
      (inl (inside_wider name 0 (read_before fault.rule (len_of t name)) s.reads 0 (min size 16) t.reads (omega arith) (omega (arith, low, min_le_head size)) call.calls.reads)) numbers other
      (spared_head need s t name (min size 16) (min_le_head size) call.calls.reads)
      (λ files told. by_known need (bytes_of files name) (Err fault) (Err fault) (call.answer.0 files told) refl)

  refused_by : (fault : Fault) → (fault ≡ not_known) ⊎ (fault ≡ short_offsets) → KindCall s t name size (Err (Refused fault)) → SizedCall need s t name size (Err (Refused fault))
  refused_by fault (inl is) call = subst (λ (f : Fault). KindCall s t name size (Err (Refused f)) → SizedCall need s t name size (Err (Refused f))) (sym is)
      (head_refused not_known (omega arith) refl (λ e. cc e)) call
  refused_by fault (inr is) call = subst (λ (f : Fault). KindCall s t name size (Err (Refused f)) → SizedCall need s t name size (Err (Refused f))) (sym is)
      (head_refused short_offsets (omega arith) refl (λ e. cc e)) call

  pub kind_stopped : (stop : FileStop) → KindCall s t name size (Err stop) → SizedCall need s t name size (Err stop)
  kind_stopped (Refused fault) call = refused_by fault call.answer.1 call
  kind_stopped Device call =
      sized_fails need s t name size sized (known_inside s t name 0 (min size 16) call.calls) (spared_head need s t name (min size 16) (min_le_head size) call.calls.reads) call.answer
  kind_stopped Absent call = absurd call.answer
  kind_stopped Memory call = absurd call.answer

-- the file, where `size` answered n
size_found : (found : Option (List ℕ)) (n : ℕ) → Ok n ≡ size_of found → (found ≡ Some (unwrap_or found [])) × (length (unwrap_or found []) ≡ n)
size_found None n e = absurd (cc e)
size_found (Some bytes) n e = (refl, cc e)

held_known : (lens : Lens) (name : List ℕ) (n : ℕ) (result : Result Kept FileStop) → get lens name ≡ Some n
    → IfOk result (IsOfSize n) → IfOk result (λ kept. (get lens name ≡ Some kept.size) × IsOfSize kept.size kept)
held_known lens name n (Ok kept) is held = (is ∙ ap Some (sym held.whole), subst (λ (m : ℕ). IsOfSize m kept) (sym held.whole) held)
held_known lens name n (Err stop) is held = tt

module _ (need : Need) (s t : DeskState) (name : List ℕ) (n : ℕ) (size : SizeCall s t name (Ok n)) where
  found : Told s.files (λ files. (get files name ≡ Some (bytes_of files name)) × (length (bytes_of files name) ≡ n))
  found files told = size_found (get files name) n (size.told files told (λ e. cc e))

  others : OthersKeep s.lens t.lens name
  others = λ q apart. ap (λ (m : Lens). get m q) size.lens ∙ get-insert_other s.lens name n q apart

  pub known_sized : IsTrue (is_known t name)
  known_sized = rw (now_known s t name n 0 size) refl

  pub len_sized : len_of t name ≡ n
  len_sized = ap (λ (o : Option ℕ). unwrap_or o 0) (now_known s t name n 0 size)

  long_file : (file : Option (List ℕ)) (bytes : List ℕ) → file ≡ Some bytes → length bytes ≡ n → file_limit < n → kind_of_file file ≡ Err (over_limit n)
  long_file file bytes is len long = rw (is, cond-true _ _ _ (lt-ltb file_limit (length bytes) (omega (arith, len)))) (ap (λ (m : ℕ). let e : Result Kind Fault = Err (over_limit m) in e) len)

  short_file : (file : Option (List ℕ)) (bytes : List ℕ) → file ≡ Some bytes → length bytes ≡ n → n ≤ file_limit → kind_of_file file ≡ known bytes
  short_file file bytes is len short = rw (is, cond-false _ _ _ (le-ltb file_limit (length bytes) (omega (arith, len)))) refl

  -- the file is longer than the limit
  pub load_long : file_limit < n → LoadCall need s t name (Err (Refused (over_limit n)))
  load_long long = record {
    calls = some_size s t name (Ok n) size;
    others = others;
    told = λ files told. let f = found files told in
        subst (λ (k : Result Kind Fault). Followed k (IsKept need (bytes_of files name)) (Err (over_limit n))) (sym (long_file (get files name) (bytes_of files name) f.0 f.1 long)) refl;
    memory = λ files told e. absurd (cc e);
    missed = λ e. absurd (cc e);
    device = λ e. absurd (cc e);
    refuses = λ fault e. let is : over_limit n ≡ fault = cc e in
        subst (λ (f : Fault). Refusal s t name f) is (record { numbers = (omega (arith, long, len_sized), ap over_limit (sym len_sized)); reads = inl (inside_none name 0 0 s.reads t.reads size.reads) });
    spared = spared_none need s t name size.reads;
    held = tt;
  }

  gives_by : (result : Result Kept FileStop) (file : Option (List ℕ)) (bytes : List ℕ) (k : Result Kind Fault) → kind_of_file file ≡ k
      → LoadGives result (Followed k (IsKept need bytes)) → LoadGives result (Followed (kind_of_file file) (IsKept need bytes))
  gives_by result file bytes k is gives = subst (λ (j : Result Kind Fault). LoadGives result (Followed j (IsKept need bytes))) (sym is) gives

  -- the file is within the limit
  pub load_short : (u : DeskState) (result : Result Kept FileStop) → n ≤ file_limit → SizedCall need t u name n result → LoadCall need s u name result
  load_short u result short a = record {
    calls = some_trans s t u name (some_size s t name (Ok n) size) a.calls.some;
    others = λ q apart. ap (λ (m : Lens). get m q) a.calls.lens ∙ others q apart;
    told = λ files told. let f = found files told in
        gives_by result (get files name) (bytes_of files name) (known (bytes_of files name)) (short_file (get files name) (bytes_of files name) f.0 f.1 short) (a.told files (size.same.files ∙ told));
    memory = λ files told e. let f = found files told in
        subst (λ (k : Result Kind Fault). IsOk k) (sym (short_file (get files name) (bytes_of files name) f.0 f.1 short)) (a.memory files (size.same.files ∙ told) e);
    missed = λ e. absurd (a.there e);
    device = λ e. rose_after s.faults t.faults u.faults size.counts.faults (a.device e);
    refuses = λ fault e. let r = a.refuses fault e in
        record { numbers = r.numbers; reads = subst (λ (o : Option (List Moved)). RefusalReads fault.rule (len_of u name) name o u.reads) size.reads r.reads };
    spared = spared_trans need s t u name size.same.files (spared_none need s t name size.reads) a.spared;
    held = held_known u.lens name n result (ap (λ (m : Lens). get m name) a.calls.lens ∙ now_known s t name n 0 size) a.held;
  }
