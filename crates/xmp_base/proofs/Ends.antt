-- Bytes that are put at the end of a file, piece after piece.
use Rattle.std.proofs.Common.{◌≡◌, ◌≢◌, ℕ, ◌+◌, ◌-◌, ◌≤◌, List, [], ◌++◌, length, take, drop, refl, sym, ap, ◌∙◌, subst, arith, Ok, Err, Some, None, IsTrue, append_assoc, is_some, inl, inr, Result, true, IsErr}
use Rattle.std.specs.declared.option.Option.{Option}
use Rattle.std.specs.Option.{unwrap_or, option_map}
use Rattle.std.specs.FinMap.{get, insert}
use Rattle.std.proofs.Math.Seq.{take-add}
use Rattle.std.proofs.lemmas.List.{append-nil, drop-drop, drop_all, take_all, take-take, take-append-drop, length-append, length-take-le, length-drop}
use Rattle.xmp_base.specs.declared.device.Failed.{Failed}
use Rattle.xmp_base.specs.Device.{DeskState, Files, Lens, ReadCall, WriteCall, CreateCall, bytes_of, len_of, is_known, put_at, Torn, NotFewer, SameFiles, Rose}
use Rattle.xmp_base.specs.Windows.{MovesInside, Grown, PartOf, Grows, AppendCall, CopyCall}
use Rattle.xmp_base.proofs.Names.{get-insert_same, get-insert_other, insert_held, insert_twice}
use Rattle.xmp_base.proofs.Calls.{counts_trans, rose_after, agreed_len}
use Rattle.xmp_base.proofs.Inside.{inside_none, inside_one, inside_trans, inside_wider}

pub grown_trans : (a b c : Files) (name p q : List ℕ) → Grown a b name p → Grown b c name q → Grown a c name (p ++ q)
grown_trans a b c name p q f g = record {
  grown = λ bytes held. g.grown _ (f.grown bytes held) ∙ ap Some (append_assoc bytes p q);
  others = λ other apart. g.others other apart ∙ f.others other apart;
}

pub grown_none : (a : Files) (name : List ℕ) → Grown a a name []
grown_none a name = record { grown = λ bytes held. held ∙ ap Some (sym (append-nil bytes)); others = λ other apart. refl }

-- another list of these bytes
grown_as : (a b : Files) (name p q : List ℕ) → p ≡ q → Grown a b name p → Grown a b name q
grown_as a b name p q e g = subst (Grown a b name) e g

-- what is put at the end of a file is after its bytes
put_end : (file : List ℕ) (at : ℕ) (piece : List ℕ) → length file ≡ at → put_at file at piece ≡ file ++ piece
put_end file at piece e =
    ap (λ (l : List ℕ). l ++ piece ++ drop (at + length piece) file) (take_all at file (omega (arith, e)))
    ∙ ap (λ (l : List ℕ). file ++ piece ++ l) (drop_all (at + length piece) file (omega (arith, e)))
    ∙ append-nil (file ++ piece)

pub held_bytes : (files : Files) (name bytes : List ℕ) → get files name ≡ Some bytes → bytes_of files name ≡ bytes
held_bytes files name bytes held = ap (λ (o : Option (List ℕ)). unwrap_or o []) held

insert_grown : (files : Files) (name : List ℕ) (at : ℕ) (piece : List ℕ) → length (bytes_of files name) ≡ at
    → Grown files (insert files name (put_at (bytes_of files name) at piece)) name piece
insert_grown files name at piece size = record {
  grown = λ bytes held. get-insert_same files name _ ∙ ap Some (put_end (bytes_of files name) at piece size ∙ ap (λ (l : List ℕ). l ++ piece) (held_bytes files name bytes held));
  others = λ other apart. get-insert_other files name _ other apart;
}

-- what a failed write left after the file's bytes
insert_torn : (files : Files) (name : List ℕ) (at n : ℕ) (now : List ℕ) → length (bytes_of files name) ≡ at → Torn at n (bytes_of files name) now
    → Grown files (insert files name now) name (drop at now)
insert_torn files name at n now size torn = record {
  grown = λ bytes held. get-insert_same files name now
      ∙ ap Some (sym (take-append-drop at now) ∙ ap (λ (l : List ℕ). l ++ drop at now) (torn.before ∙ take_all at _ (omega (arith, size)) ∙ held_bytes files name bytes held));
  others = λ other apart. get-insert_other files name now other apart;
}

pub known_held : (o : Option ℕ) → is_some o ≡ true → o ≡ Some (unwrap_or o 0)
known_held None h = absurd (cc h)
known_held (Some n) h = refl

pub lens_none : (s : DeskState) (name : List ℕ) → IsTrue (is_known s name) → s.lens ≡ insert s.lens name (len_of s name + 0)
lens_none s name known = sym (insert_held s.lens name _ (known_held _ known ∙ ap (λ (n : ℕ). Some n) (omega arith)))

pub len_insert : (s t : DeskState) (name : List ℕ) (n : ℕ) → t.lens ≡ insert s.lens name n → len_of t name ≡ n
len_insert s t name n e = ap (λ (m : Lens). unwrap_or (get m name) 0) e ∙ ap (λ (o : Option ℕ). unwrap_or o 0) (get-insert_same s.lens name n)

-- nothing was put yet
pub grows_none : (s : DeskState) (name : List ℕ) (bytes : Files → List ℕ) (most : ℕ) → IsTrue (is_known s name) → ((files : Files) → bytes files ≡ [])
    → Grows s s name bytes 0 most (Ok tt)
grows_none s name bytes most known none = record {
  counts = record { faults = omega arith; misses = omega arith; plan = refl };
  wrote = inside_none name (len_of s name) (len_of s name + 0) s.wrote s.wrote refl;
  lens = lens_none s name known;
  files = λ files told. (files, told, grown_as files files name [] (bytes files) (sym (none files)) (grown_none files name));
  failed = tt;
}

-- one write at the end
pub grows_write : (s t : DeskState) (name : List ℕ) (at n most : ℕ) (rest : List ℕ) → WriteCall s t name at rest (Ok n) → at ≡ len_of s name
    → Grows s t name (λ files. take n rest) n most (Ok tt)
grows_write s t name at n most rest call end = record {
  counts = call.counts;
  wrote = inside_one name (len_of s name) (len_of s name + n) s.wrote at n t.wrote call.wrote (omega arith) (omega arith);
  lens = call.lens ∙ ap (insert s.lens name) (omega (arith, end));
  files = λ files told. (
    insert files name (put_at (bytes_of files name) at (take n rest)),
    call.files ∙ ap (option_map (λ (files : Files). insert files name (put_at (bytes_of files name) at (take n rest)))) told,
    insert_grown files name at (take n rest) (agreed_len s name call.agrees files told ∙ sym end),
  );
  failed = tt;
}

-- one write at the end that failed
pub grows_torn : (s t : DeskState) (name : List ℕ) (at : ℕ) (rest : List ℕ) (e f : Failed) → WriteCall s t name at rest (Err e) → at ≡ len_of s name
    → Grows s t name (λ files. rest) (length rest) (length rest) (Err f)
grows_torn s t name at rest e f call end = record {
  counts = call.counts;
  wrote = elim call.wrote [
    | inl added ↦ inside_one name (len_of s name) (len_of s name + length rest) s.wrote at (length rest) t.wrote added (omega arith) (omega arith)
    | inr same ↦ inside_none name (len_of s name) (len_of s name + length rest) s.wrote t.wrote same.0
  ];
  lens = let l = call.lens in (l.0 - at, l.1 ∙ ap (insert s.lens name) (omega (arith, l.2, end)), omega (arith, l.3, end));
  files = λ files told. let f = call.files files told in
      let size : length (bytes_of files name) ≡ at = agreed_len s name call.agrees files told ∙ sym end in
      let small : length (drop at f.0) ≤ length rest = omega (arith, length-drop at f.0, f.2.no_longer, size) in (
        insert files name f.0,
        f.1,
        (
          drop at f.0,
          record {
            whole = [];
            torn = drop at f.0;
            rest = rest;
            is = refl;
            prefix = refl;
            small = small;
            inside = small;
          },
          insert_torn files name at (length rest) f.0 size f.2,
        ),
      );
  failed = call.failed;
}

-- calls that changed nothing but counts and reads
pub record Still (t u : DeskState) : Type 0 where
  pub same : SameFiles t u
  pub counts : NotFewer t u
  pub lens : u.lens ≡ t.lens

pub still_none : (t : DeskState) → Still t t
still_none t = record {
  same = record { files = refl; wrote = refl };
  counts = record { faults = omega arith; misses = omega arith; plan = refl };
  lens = refl;
}

still_len : (t u : DeskState) (name : List ℕ) → Still t u → len_of u name ≡ len_of t name
still_len t u name still = ap (λ (m : Lens). unwrap_or (get m name) 0) still.lens

-- a part of B after all of A is a part of A with B and more
part_after : (A B part rest C : List ℕ) (k most : ℕ) → PartOf part B k → k ≤ most → C ≡ (A ++ B) ++ rest → PartOf (A ++ part) C most
part_after A B part rest C k most p less is = record {
  whole = A ++ p.whole;
  torn = p.torn;
  rest = p.rest ++ rest;
  is = ap (λ (l : List ℕ). A ++ l) p.is ∙ sym (append_assoc A p.whole p.torn);
  prefix = is ∙ ap (λ (l : List ℕ). (A ++ l) ++ rest) p.prefix ∙ ap (λ (l : List ℕ). l ++ rest) (sym (append_assoc A p.whole p.rest)) ∙ append_assoc (A ++ p.whole) p.rest rest;
  small = omega (arith, p.small);
  inside = omega (arith, p.inside, length-append p.rest rest);
}

-- all of A is a part of A and more
part_whole : (A rest C : List ℕ) (most : ℕ) → C ≡ A ++ rest → PartOf A C most
part_whole A rest C most is = record {
  whole = A;
  torn = [];
  rest = rest;
  is = sym (append-nil A);
  prefix = is;
  small = omega arith;
  inside = omega arith;
}

module _ (s t u : DeskState) (name : List ℕ) (A C : Files → List ℕ) (a c most : ℕ) (first : Grows s t name A a most (Ok tt)) (still : Still t u) where
  -- the files' bytes, where they are told
  abbrev pub Joined : (Files → Files → Type 0) → Type 0
  Joined P = (files mid : Files) → s.files ≡ Some files → u.files ≡ Some mid → Grown files mid name (A files) → P files mid

  pub grows_stop : (e : Failed) → Rose t.faults u.faults → a ≤ c → (rest : Files → List ℕ) → Joined (λ files mid. C files ≡ A files ++ rest files) → Grows s u name C c most (Err e)
  grows_stop e rose less rest joined = record {
    counts = counts_trans s t u first.counts still.counts;
    wrote = inside_wider name (len_of s name) (len_of s name + c) s.wrote (len_of s name) (len_of s name + a) u.wrote (omega arith) (omega arith)
        (subst (MovesInside name (len_of s name) (len_of s name + a) s.wrote) (sym still.same.wrote) first.wrote);
    lens = (a, still.lens ∙ first.lens, less);
    files = λ files told. let f = first.files files told in let now : u.files ≡ Some f.0 = still.same.files ∙ f.1 in
        (f.0, now, (A files, part_whole (A files) (rest files) (C files) most (joined files f.0 told now f.2), f.2));
    failed = rose_after s.faults t.faults u.faults first.counts.faults rose;
  }

  module _ (v : DeskState) (B : Files → List ℕ) (b k : ℕ) where
    after : len_of u name ≡ len_of s name + a
    after = still_len t u name still ∙ len_insert s t name (len_of s name + a) first.lens

    wrote_both : MovesInside name (len_of u name) (len_of u name + b) u.wrote v.wrote → a + b ≤ c → MovesInside name (len_of s name) (len_of s name + c) s.wrote v.wrote
    wrote_both second less = inside_trans name (len_of s name) (len_of s name + c) s.wrote u.wrote v.wrote
        (inside_wider name (len_of s name) (len_of s name + c) s.wrote (len_of s name) (len_of s name + a) u.wrote (omega arith) (omega arith)
        (subst (MovesInside name (len_of s name) (len_of s name + a) s.wrote) (sym still.same.wrote) first.wrote))
        (inside_wider name (len_of s name) (len_of s name + c) u.wrote (len_of u name) (len_of u name + b) v.wrote (omega (arith, after)) (omega (arith, after)) second)

    lens_both : (n : ℕ) → v.lens ≡ insert u.lens name (len_of u name + n) → v.lens ≡ insert s.lens name (len_of s name + (a + n))
    lens_both n e = e ∙ ap (λ (m : Lens). insert m name (len_of u name + n)) (still.lens ∙ first.lens)
        ∙ insert_twice s.lens name (len_of s name + a) (len_of u name + n) ∙ ap (insert s.lens name) (omega (arith, after))

    pub grows_both : Grows u v name B b k (Ok tt) → a + b ≡ c → Joined (λ files mid. C files ≡ A files ++ B mid) → Grows s v name C c most (Ok tt)
    grows_both second sum joined = record {
      counts = counts_trans s u v (counts_trans s t u first.counts still.counts) second.counts;
      wrote = wrote_both second.wrote (omega arith);
      lens = lens_both b second.lens ∙ ap (λ (n : ℕ). insert s.lens name (len_of s name + n)) sum;
      files = λ files told. let f = first.files files told in let now : u.files ≡ Some f.0 = still.same.files ∙ f.1 in let h = second.files f.0 now in
          (h.0, h.1, grown_as files h.0 name (A files ++ B f.0) (C files) (sym (joined files f.0 told now f.2)) (grown_trans files f.0 h.0 name (A files) (B f.0) f.2 h.2));
      failed = tt;
    }

    pub grows_part : (e : Failed) → Grows u v name B b k (Err e) → a + b ≤ c → k ≤ most → (rest : Files → List ℕ)
        → Joined (λ files mid. C files ≡ (A files ++ B mid) ++ rest files) → Grows s v name C c most (Err e)
    grows_part e second sum less rest joined = record {
      counts = counts_trans s u v (counts_trans s t u first.counts still.counts) second.counts;
      wrote = wrote_both second.wrote sum;
      lens = let l = second.lens in (a + l.0, lens_both l.0 l.1, omega (arith, l.2));
      files = λ files told. let f = first.files files told in let now : u.files ≡ Some f.0 = still.same.files ∙ f.1 in let h = second.files f.0 now in (
        h.0,
        h.1,
        (
          A files ++ h.2.0,
          part_after (A files) (B f.0) h.2.0 (rest files) (C files) k most h.2.1 less (joined files f.0 told now f.2),
          grown_trans files f.0 h.0 name (A files) h.2.0 f.2 h.2.2,
        ),
      );
      failed = rose_after s.faults u.faults v.faults (omega (arith, first.counts.faults, still.counts.faults)) second.failed;
    }

-- the first bytes of a piece were put at the end of a file
pub record Appended (s t : DeskState) (name piece : List ℕ) (done : ℕ) : Type 0 where
  pub reads : t.reads ≡ s.reads
  pub grows : Grows s t name (λ files. take done piece) done (length piece) (Ok tt)

pub appended_none : (s : DeskState) (name piece : List ℕ) → IsTrue (is_known s name) → Appended s s name piece 0
appended_none s name piece known = record { reads = refl; grows = grows_none s name (λ files. take 0 piece) (length piece) known (λ files. refl) }

module _ (s t : DeskState) (name piece : List ℕ) (done : ℕ) (a : Appended s t name piece done) where
  pub appended_len : len_of t name ≡ len_of s name + done
  appended_len = len_insert s t name (len_of s name + done) a.grows.lens

  pub appended_known : IsTrue (is_known t name)
  appended_known = ap (λ (m : Lens). is_some (get m name)) a.grows.lens ∙ ap is_some (get-insert_same s.lens name _)

  module _ (u : DeskState) (at : ℕ) (at_end : at ≡ len_of s name + done) where
    pub appended_more : (n : ℕ) → WriteCall t u name at (drop done piece) (Ok n) → Appended s u name piece (done + n)
    appended_more n call = record {
      reads = call.reads ∙ a.reads;
      grows = grows_both s t t name (λ files. take done piece) (λ files. take (done + n) piece) done (done + n) (length piece) a.grows (still_none t)
          u (λ files. take n (drop done piece)) n (length piece) (grows_write t u name at n (length piece) (drop done piece) call (at_end ∙ sym appended_len)) refl
          (λ files mid told now grown. take-add done n piece);
    }

    pub appended_failed : (e : Failed) (result : Result (Unit {0}) Failed) → WriteCall t u name at (drop done piece) (Err e) → done ≤ length piece → IsErr result → AppendCall s u name piece result
    appended_failed e (Ok x) call within err = absurd (cc err)
    appended_failed e (Err f) call within err = record {
      reads = call.reads ∙ a.reads;
      grows = grows_part s t t name (λ files. take done piece) (λ files. piece) done (length piece) (length piece) a.grows (still_none t)
          u (λ files. drop done piece) (length (drop done piece)) (length (drop done piece)) f (grows_torn t u name at (drop done piece) e f call (at_end ∙ sym appended_len))
          (omega (arith, length-drop done piece)) (omega (arith, length-drop done piece)) (λ files. [])
          (λ files mid told now grown. sym (append-nil (take done piece ++ drop done piece) ∙ take-append-drop done piece));
    }

  pub appended_all : length piece ≤ done → done ≤ length piece → AppendCall s t name piece (Ok tt)
  appended_all past within = let all : done ≡ length piece = omega arith in record {
    reads = a.reads;
    grows = subst (λ (l : List ℕ). Grows s t name (λ files. l) (length piece) (length piece) (Ok tt)) (take_all (length piece) piece (omega arith))
        (subst (λ (n : ℕ). Grows s t name (λ files. take n piece) n (length piece) (Ok tt)) all a.grows);
  }

-- some pieces of a range of one file were put at the end of another
pub record Copied (s t : DeskState) (from : List ℕ) (at len : ℕ) (to : List ℕ) (most done : ℕ) : Type 0 where
  pub reads : MovesInside from at (at + len) s.reads t.reads
  pub grows : Grows s t to (λ files. take done (drop at (bytes_of files from))) done most (Ok tt)

pub copied_none : (s : DeskState) (from : List ℕ) (at len : ℕ) (to : List ℕ) (most : ℕ) → IsTrue (is_known s to) → Copied s s from at len to most 0
copied_none s from at len to most known = record {
  reads = inside_none from at (at + len) s.reads s.reads refl;
  grows = grows_none s to (λ files. take 0 (drop at (bytes_of files from))) most known (λ files. refl);
}

-- two pieces of a range are the range up to the second's end
pieces_join : (at done n : ℕ) (file : List ℕ) → take (done + n) (drop at file) ≡ take done (drop at file) ++ take n (drop (at + done) file)
pieces_join at done n file = take-add done n (drop at file) ∙ ap (λ (l : List ℕ). take done (drop at file) ++ take n l) (drop-drop done at file)

range_rest : (k len : ℕ) (file : List ℕ) → k ≤ len → take len file ≡ take k file ++ drop k (take len file)
range_rest k len file less = sym (take-append-drop k (take len file)) ∙ ap (λ (l : List ℕ). l ++ drop k (take len file)) (take-take k len file less)

module _ (s t : DeskState) (from : List ℕ) (at len : ℕ) (to : List ℕ) (most done : ℕ) (apart : from ≢ to) (a : Copied s t from at len to most done) where
  -- the file that is read stays
  copied_from : get t.lens from ≡ get s.lens from
  copied_from = ap (λ (m : Lens). get m from) a.grows.lens ∙ get-insert_other s.lens to _ from apart

  pub copied_known : IsTrue (is_known s from) → IsTrue (is_known t from)
  copied_known known = ap is_some copied_from ∙ known

  pub copied_len : len_of t from ≡ len_of s from
  copied_len = ap (λ (o : Option ℕ). unwrap_or o 0) copied_from

  pub copied_end : len_of t to ≡ len_of s to + done
  copied_end = len_insert s t to (len_of s to + done) a.grows.lens

  pub copied_to : IsTrue (is_known t to)
  copied_to = ap (λ (m : Lens). is_some (get m to)) a.grows.lens ∙ ap is_some (get-insert_same s.lens to _)

  pub copied_all : len ≤ done → done ≤ len → CopyCall s t from at len to most (Ok tt)
  copied_all past within = let all : done ≡ len = omega arith in record {
    reads = a.reads;
    grows = subst (λ (n : ℕ). Grows s t to (λ files. take n (drop at (bytes_of files from))) n most (Ok tt)) all a.grows;
  }

  module _ (u : DeskState) (part : List ℕ) where
    still_read : (result : Result ℕ Failed) → ReadCall t u from (at + done) part result → Still t u
    still_read result call = record { same = call.same; counts = call.counts; lens = call.lens }

    pub read_to : (result : Result ℕ Failed) → ReadCall t u from (at + done) part result → IsTrue (is_known u to)
    read_to result call = ap (λ (m : Lens). is_some (get m to)) call.lens ∙ copied_to

    pub read_end : (result : Result ℕ Failed) → ReadCall t u from (at + done) part result → len_of u to ≡ len_of s to + done
    read_end result call = still_len t u to (still_read result call) ∙ copied_end

    pub copied_stop : (e : Failed) (result : Result (Unit {0}) Failed) → ReadCall t u from (at + done) part (Err e) → done ≤ len → IsErr result → CopyCall s u from at len to most result
    copied_stop e (Ok x) call within err = absurd (cc err)
    copied_stop e (Err f) call within err = record {
      reads = inside_trans from at (at + len) s.reads t.reads u.reads a.reads (inside_none from at (at + len) t.reads u.reads call.reads);
      grows = grows_stop s t u to (λ files. take done (drop at (bytes_of files from))) (λ files. take len (drop at (bytes_of files from))) done len most a.grows (still_read (Err e) call)
          f call.failed within (λ files. drop done (take len (drop at (bytes_of files from))))
          (λ files mid told now grown. range_rest done len (drop at (bytes_of files from)) within);
    }

    module _ (v : DeskState) (n : ℕ) (piece : List ℕ) (call : ReadCall t u from (at + done) part (Ok n)) (is : piece ≡ take n part) (within : done + n ≤ len) where
      size : length piece ≡ n
      size = ap length is ∙ length-take-le n part call.most.0

      -- the piece is the file's next
      next : (files mid : Files) → u.files ≡ Some mid → Grown files mid to (take done (drop at (bytes_of files from)))
          → take (done + n) (drop at (bytes_of files from)) ≡ take done (drop at (bytes_of files from)) ++ piece
      next files mid now grown =
          let before : t.files ≡ Some mid = sym call.same.files ∙ now in
          let same : bytes_of mid from ≡ bytes_of files from = ap (λ (o : Option (List ℕ)). unwrap_or o []) (grown.others from apart) in
          pieces_join at done n (bytes_of files from)
          ∙ ap (λ (l : List ℕ). take done (drop at (bytes_of files from)) ++ l)
          (ap (λ (l : List ℕ). take n (drop (at + done) l)) (sym same) ∙ sym (call.bytes mid before) ∙ sym is)

      reads_both : v.reads ≡ u.reads → MovesInside from at (at + len) s.reads v.reads
      reads_both same = inside_trans from at (at + len) s.reads t.reads v.reads a.reads
          (inside_one from at (at + len) t.reads (at + done) n v.reads (same ∙ call.reads) (omega arith) (omega (arith, within)))

      pub copied_more : AppendCall u v to piece (Ok tt) → Copied s v from at len to most (done + n)
      copied_more put = record {
        reads = reads_both put.reads;
        grows = grows_both s t u to (λ files. take done (drop at (bytes_of files from))) (λ files. take (done + n) (drop at (bytes_of files from))) done (done + n) most a.grows (still_read (Ok n) call)
            v (λ files. piece) (length piece) (length piece) put.grows (ap (λ (k : ℕ). done + k) size) (λ files mid told now grown. next files mid now grown);
      }

      pub copied_failed : (e : Failed) (result : Result (Unit {0}) Failed) → AppendCall u v to piece (Err e) → n ≤ most → IsErr result → CopyCall s v from at len to most result
      copied_failed e (Ok x) put small err = absurd (cc err)
      copied_failed e (Err f) put small err = record {
        reads = reads_both put.reads;
        grows = grows_part s t u to (λ files. take done (drop at (bytes_of files from))) (λ files. take len (drop at (bytes_of files from))) done len most a.grows (still_read (Ok n) call)
            v (λ files. piece) (length piece) (length piece) f put.grows (omega (arith, size, within)) (omega (arith, size, small))
            (λ files. drop (done + n) (take len (drop at (bytes_of files from))))
            (λ files mid told now grown. range_rest (done + n) len (drop at (bytes_of files from)) within
            ∙ ap (λ (l : List ℕ). l ++ drop (done + n) (take len (drop at (bytes_of files from)))) (next files mid now grown));
      }

-- a file that was just created is known, empty, and changes no other length
module _ (s t : DeskState) (name : List ℕ) (call : CreateCall s t name (Ok tt)) where
  created : get t.lens name ≡ Some 0
  created = ap (λ (m : Lens). get m name) call.lens ∙ get-insert_same s.lens name 0

  pub created_known : IsTrue (is_known t name)
  created_known = ap is_some created

  pub created_len : len_of t name ≡ 0
  created_len = ap (λ (o : Option ℕ). unwrap_or o 0) created

  pub created_other : (other : List ℕ) → other ≢ name → get t.lens other ≡ get s.lens other
  created_other other apart = ap (λ (m : Lens). get m other) call.lens ∙ get-insert_other s.lens name 0 other apart
