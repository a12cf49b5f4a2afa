-- Portions in a file of a device.
use Rattle.std.proofs.Common.{◌≡◌, ℕ, ◌+◌, ◌-◌, ◌<◌, ◌≤◌, ◌&&◌, Bool, true, false, cond, is_some, List, [], ◌∷◌, ◌++◌, map, length, take, drop, get_or, refl, sym, ap, ◌∙◌, subst, arith, append_assoc, nat_le, Some, None, Ok, Err, Option}
use Rattle.std.specs.Prelude.{flat_map, slice_get, IsPermutation}
use Rattle.std.specs.Option.{option_to_list}
use Rattle.std.proofs.lemmas.Bool.{leb-true}
use Rattle.std.proofs.lemmas.List.{append-nil, map-append, take-take, drop-take, drop-drop, length-take-le, length-drop, take_more, take_all, flat_map_more}
use Rattle.std.proofs.lemmas.Option.{get_or_from_slice_get, slice_get-get_or, slice_get_within}
use Rattle.std.proofs.lemmas.List.Elements.{All-append, All-cons, All-nil, All-weaker}
use Rattle.std.proofs.lemmas.List.Sorted.{All-permutation}
use Rattle.xmp_base.specs.declared.file_span.FileSpan.{FileSpan}
use Rattle.xmp_base.specs.Device.{DeskState, Moved, Told, bytes_of}
use Rattle.xmp_base.specs.Windows.{ReadInside, WindowCall}
use Rattle.xmp_base.proofs.Calls.{same_trans, counts_trans}
use Rattle.jpeg_extended.specs.declared.tiling.Head.{Head}
use Rattle.jpeg_extended.specs.declared.tiling.ExtStop.{ExtStop}
use Rattle.jpeg_extended.specs.declared.from_desk.JoinStop.TheVariants.{Portions}
use Rattle.jpeg_extended.specs.Heads.{AreKept, bytes_in, extent_of, portion_in}
use Rattle.jpeg_extended.specs.Tiling.{Tiles, Tiled, IsExtFault}
use Rattle.jpeg_extended.specs.Joined.{Joined}
use Rattle.jpeg_extended.specs.Portions.{Portion, extent, full_in, is_named, offset_in, portion_of}
use Rattle.jpeg_extended.specs.FromDesk.{payload_at, portions_at, head_range, is_portion_at, AreInside, InPayload, AreOf, PayloadCalls, HeadIs, HeadLies, TextCall, JoinFromCall}
use Rattle.jpeg_extended.proofs.Joins.{joined_of, fault_of}
use Rattle.jpeg_extended.proofs.Fronts.{full_same, offset_same, named_same}

pub desk_calls_none : (s : DeskState) (name : List ℕ) (payloads : List FileSpan) → PayloadCalls s s name payloads
desk_calls_none s name payloads = record {
  same = record { files = refl; wrote = refl };
  counts = record { faults = omega arith; misses = omega arith; plan = refl };
  lens = refl;
  reads = λ reads told. ([], told ∙ ap Some (sym (append-nil reads)), All-nil (λ (m : Moved). (m.0 ≡ name) × InPayload payloads m.1 (m.1 + m.2)));
}

pub desk_calls_more : (s t u : DeskState) (name : List ℕ) (payloads : List FileSpan) (start end : ℕ) → PayloadCalls s t name payloads → ReadInside t u name start end → InPayload payloads start end
    → PayloadCalls s u name payloads
desk_calls_more s t u name payloads start end a b in_one = record {
  same = same_trans s t u a.same b.same;
  counts = counts_trans s t u a.counts b.counts;
  lens = b.lens ∙ a.lens;
  reads = λ reads told.
      let m = a.reads reads told in
      let n = b.reads (reads ++ m.0) m.1 in (
        m.0 ++ n.0,
        n.1 ∙ ap Some (append_assoc reads m.0 n.0),
        All-append (λ (x : Moved). (x.0 ≡ name) × InPayload payloads x.1 (x.1 + x.2)) m.0 n.0 m.2 (λ k d h. let i = n.2 k d h in (
          i.of_name,
          record {
            number = in_one.number;
            payload = in_one.payload;
            there = in_one.there;
            from = omega (arith, in_one.from, i.from_start);
            to = omega (arith, in_one.to, i.to_end);
          },
        )),
      );
}

-- a head more
pub placed_more : (payloads : List FileSpan) (heads : List Head) (head : Option Head) (i : ℕ) (p : FileSpan) → slice_get payloads i ≡ Some p → AreOf payloads heads → HeadLies p head
    → AreOf payloads (heads ++ option_to_list head)
placed_more payloads heads None i p there a lies = subst (AreOf payloads) (sym (append-nil heads)) a
placed_more payloads heads (Some h) i p there a lies =
    let P : Head → Type 0 = λ g. InPayload payloads g.at (g.at + g.len) in
    All-append P heads (h ∷ []) a (All-cons P h [] (record { number = i; payload = p; there = there; from = lies.0; to = lies.1 }) (All-nil P))

dead : (a b c d e f : Bool) → b ≡ false → (a && b && c && d && e && f) ≡ false
dead true true c d e f h = absurd (cc h)
dead true false c d e f h = refl
dead false b c d e f h = refl

some_if : {A : Type 0} (b : Bool) (x : A) → is_some (cond b (Some x) None) ≡ b
some_if true x = refl
some_if false x = refl

module _ (file name : List ℕ) (p : FileSpan) (order : p.start ≤ p.end) (inside : p.end ≤ length file) where
  abbrev size : ℕ
  size = p.end - p.start

  abbrev front : List ℕ
  front = take 75 (drop p.start file)

  whole : length (payload_at file p) ≡ size
  whole = length-take-le _ _ (omega (arith, length-drop p.start file, inside))

  front_of : 75 ≤ size → take 75 (payload_at file p) ≡ front
  front_of long = take-take 75 size (drop p.start file) long

  short_named : (bytes : List ℕ) → nat_le 75 size ≡ false → is_named name bytes size ≡ false
  short_named bytes h = dead _ (nat_le 75 size) _ _ _ _ h

  named_by : (b : Bool) → nat_le 75 size ≡ b → is_named name (payload_at file p) size ≡ is_named name front size
  named_by true h = sym (named_same (payload_at file p) name size) ∙ ap (λ (l : List ℕ). is_named name l size) (front_of (leb-true 75 size h))
  named_by false h = short_named (payload_at file p) h ∙ sym (short_named front h)

  long_named : is_named name front size ≡ true → 75 ≤ size
  long_named h = by_length (nat_le 75 size) refl
    where
      by_length : (b : Bool) → nat_le 75 size ≡ b → 75 ≤ size
      by_length true e = leb-true 75 size e
      by_length false e = absurd (let no : true ≡ false = sym h ∙ short_named front e in cc no)

  after : 75 ≤ size → drop 75 (payload_at file p) ≡ take (size - 75) (drop (p.start + 75) file)
  after long =
      let parts : size ≡ 75 + (size - 75) = omega (arith, long) in
      ap (λ (n : ℕ). drop 75 (take n (drop p.start file))) parts ∙ drop-take 75 (size - 75) (drop p.start file) ∙ ap (take (size - 75)) (drop-drop 75 p.start file)

  by_named : (b : Bool) (head : Option Head) → is_named name front size ≡ b
      → head ≡ cond b (Some (record { full = full_in front; offset = offset_in front; len = size - 75; at = p.start + 75 })) None
      → cond b (record { full = full_in (payload_at file p); offset = offset_in (payload_at file p); bytes = drop 75 (payload_at file p) } ∷ []) [] ≡ map (portion_in file) (option_to_list head)
  by_named true head named is =
      let f = front_of (long_named named) in
      let full : full_in (payload_at file p) ≡ full_in front = sym (full_same (payload_at file p)) ∙ ap full_in f in
      let offset : offset_in (payload_at file p) ≡ offset_in front = sym (offset_same (payload_at file p)) ∙ ap offset_in f in
      (λ i. record { full = full i; offset = offset i; bytes = after (long_named named) i } ∷ []) ∙ sym (ap (λ (o : Option Head). map (portion_in file) (option_to_list o)) is)
  by_named false head named is = sym (ap (λ (o : Option Head). map (portion_in file) (option_to_list o)) is)

  -- a payload has a head where it is a portion
  pub head_named : (head : Option Head) → HeadIs name file p head → is_some head ≡ is_portion_at file name p
  head_named head is = ap is_some is ∙ some_if (is_named name front size) _ ∙ sym (named_by (nat_le 75 size) refl) ∙ ap (is_named name (payload_at file p)) (sym whole)

  -- what a head says is what the payload says
  pub head_portion : (head : Option Head) → HeadIs name file p head → portion_of name (payload_at file p) ≡ map (portion_in file) (option_to_list head)
  head_portion head is =
      ap (λ (n : ℕ). cond (is_named name (payload_at file p) n) (record { full = full_in (payload_at file p); offset = offset_in (payload_at file p); bytes = drop 75 (payload_at file p) } ∷ []) []) whole
      ∙ ap (λ (b : Bool). cond b (record { full = full_in (payload_at file p); offset = offset_in (payload_at file p); bytes = drop 75 (payload_at file p) } ∷ []) []) (named_by (nat_le 75 size) refl)
      ∙ by_named (is_named name front size) head refl is

-- the portions of one payload more
pub told_more : (file name : List ℕ) (payloads : List FileSpan) (i : ℕ) (p : FileSpan) (heads : List Head) (head : Option Head) → i < length payloads → get_or payloads i p ≡ p
    → map (portion_in file) heads ≡ portions_at file name (take i payloads) → portion_of name (payload_at file p) ≡ map (portion_in file) (option_to_list head)
    → map (portion_in file) (heads ++ option_to_list head) ≡ portions_at file name (take (i + 1) payloads)
told_more file name payloads i p heads head within is so_far more =
    map-append (portion_in file) heads (option_to_list head)
    ∙ (λ j. so_far j ++ sym more j)
    ∙ flat_map_more (λ (q : FileSpan). portion_of name (payload_at file q)) [] (take i payloads) p
    ∙ ap (portions_at file name) (ap (λ (q : FileSpan). take i payloads ++ q ∷ []) (sym is) ∙ sym (take_more payloads i p within))

-- heads of portions in a file are kept there
pub desk_kept : (file : List ℕ) (payloads : List FileSpan) (heads : List Head) → AreInside (length file) payloads → AreOf payloads heads → AreKept file heads
desk_kept file payloads heads inside placed = All-weaker (λ (h : Head). InPayload payloads h.at (h.at + h.len)) (λ (h : Head). h.at + h.len ≤ length file)
    (λ h i. omega (arith, i.to, (inside_at i.number i.payload i.there).1)) heads placed
  where
    inside_at : (i : ℕ) (p : FileSpan) → slice_get payloads i ≡ Some p → (p.start ≤ p.end) × (p.end ≤ length file)
    inside_at i p e = subst (λ (q : FileSpan). (q.start ≤ q.end) × (q.end ≤ length file)) (get_or_from_slice_get payloads i p p e) (inside i p (slice_get_within payloads i p e))

-- the head of a payload lies in it
in_payload : (payloads : List FileSpan) (i : ℕ) (d : FileSpan) → i < length payloads → InPayload payloads (get_or payloads i d).start (head_range (get_or payloads i d)).end
in_payload payloads i d within = record { number = i; payload = get_or payloads i d; there = slice_get-get_or payloads i d within; from = omega arith; to = omega arith }

-- the heads of the first payloads were read
pub record HeadsSoFar (s t : DeskState) (file name : List ℕ) (payloads : List FileSpan) (i : ℕ) (heads : List Head) : Type 0 where
  pub calls : PayloadCalls s t file payloads
  pub placed : AreOf payloads heads
  pub told : Told s.files (λ files. map (portion_in (bytes_of files file)) heads ≡ portions_at (bytes_of files file) name (take i payloads))

pub heads_step : (s t u : DeskState) (file name : List ℕ) (len : ℕ) (payloads : List FileSpan) (i : ℕ) (d : FileSpan) (heads new : List Head) (head : Option Head)
    → i < length payloads → AreInside len payloads → Told s.files (λ files. length (bytes_of files file) ≡ len) → HeadsSoFar s t file name payloads i heads
    → ReadInside t u file (get_or payloads i d).start (head_range (get_or payloads i d)).end → HeadLies (get_or payloads i d) head
    → Told t.files (λ files. HeadIs name (bytes_of files file) (get_or payloads i d) head) → new ≡ heads ++ option_to_list head → HeadsSoFar s u file name payloads (i + 1) new
heads_step s t u file name len payloads i d heads new head within inside whole_is a read lies is pushed = record {
  calls = desk_calls_more s t u file payloads _ _ a.calls read (in_payload payloads i d within);
  placed = subst (AreOf payloads) (sym pushed) (placed_more payloads heads head i (get_or payloads i d) (slice_get-get_or payloads i d within) a.placed lies);
  told = λ files told. let bytes = bytes_of files file in
      let there = inside i d within in
      ap (map (portion_in bytes)) pushed
      ∙ told_more bytes name payloads i (get_or payloads i d) heads head within (get_or_from_slice_get payloads i (get_or payloads i d) (get_or payloads i d) (slice_get-get_or payloads i d within)) (a.told files told)
      (head_portion bytes name (get_or payloads i d) there.0 (omega (arith, there.1, whole_is files told)) head (is files (a.calls.same.files ∙ told)));
}

pub heads_failed : (s t u : DeskState) (file name : List ℕ) (payloads : List FileSpan) (i : ℕ) (d : FileSpan) (heads : List Head) → i < length payloads → HeadsSoFar s t file name payloads i heads
    → ReadInside t u file (get_or payloads i d).start (head_range (get_or payloads i d)).end → PayloadCalls s u file payloads
heads_failed s t u file name payloads i d heads within a read = desk_calls_more s t u file payloads _ _ a.calls read (in_payload payloads i d within)

-- the bytes of the first heads were read
pub record TextSoFar (s t : DeskState) (file : List ℕ) (payloads : List FileSpan) (heads : List Head) (i : ℕ) (text : List ℕ) : Type 0 where
  pub calls : PayloadCalls s t file payloads
  pub told : Told s.files (λ files. text ≡ flat_map (bytes_in (bytes_of files file)) (take i heads))

pub text_step : (s t u : DeskState) (file : List ℕ) (payloads : List FileSpan) (heads : List Head) (i : ℕ) (d : Head) (text new part : List ℕ) → i < length heads → AreOf payloads heads
    → TextSoFar s t file payloads heads i text → WindowCall t u file (get_or heads i d).at (get_or heads i d).len (Ok part) → new ≡ text ++ part → TextSoFar s u file payloads heads (i + 1) new
text_step s t u file payloads heads i d text new part within placed a call pushed = record {
  calls = desk_calls_more s t u file payloads _ _ a.calls call.calls (placed i d within);
  told = λ files told. let bytes = bytes_of files file in
      pushed ∙ (λ j. a.told files told j ++ call.bytes files (a.calls.same.files ∙ told) j)
      ∙ flat_map_more (bytes_in bytes) [] (take i heads) (get_or heads i d) ∙ ap (flat_map (bytes_in bytes)) (sym (take_more heads i d within));
}

pub text_done : (s t : DeskState) (file : List ℕ) (payloads : List FileSpan) (heads : List Head) (i : ℕ) (text result : List ℕ) → length heads ≤ i → TextSoFar s t file payloads heads i text → result ≡ text
    → TextCall s t file payloads heads (Ok result)
text_done s t file payloads heads i text result past a is = record {
  calls = a.calls;
  told = λ files told. is ∙ a.told files told ∙ ap (flat_map (bytes_in (bytes_of files file))) (take_all i heads past);
  stops = tt;
}

pub desk_calls_trans : (s t u : DeskState) (name : List ℕ) (payloads : List FileSpan) → PayloadCalls s t name payloads → PayloadCalls t u name payloads → PayloadCalls s u name payloads
desk_calls_trans s t u name payloads a b = record {
  same = same_trans s t u a.same b.same;
  counts = counts_trans s t u a.counts b.counts;
  lens = b.lens ∙ a.lens;
  reads = λ reads told.
      let m = a.reads reads told in
      let n = b.reads (reads ++ m.0) m.1 in
      (m.0 ++ n.0, n.1 ∙ ap Some (append_assoc reads m.0 n.0), All-append (λ (x : Moved). (x.0 ≡ name) × InPayload payloads x.1 (x.1 + x.2)) m.0 n.0 m.2 n.2);
}

pub placed_shuffled : (payloads : List FileSpan) (old new : List Head) → AreOf payloads old → IsPermutation old new → AreOf payloads new
placed_shuffled payloads old new a shuffled = All-permutation (λ (h : Head). InPayload payloads h.at (h.at + h.len)) old new shuffled a

module _ (s t : DeskState) (file name : List ℕ) (len : ℕ) (payloads : List FileSpan) (heads new : List Head) (inside : AreInside len payloads) (whole_is : Told s.files (λ files. length (bytes_of files file) ≡ len))
    (calls : PayloadCalls s t file payloads) (placed : AreOf payloads heads)
    (told_heads : Told s.files (λ files. map (portion_in (bytes_of files file)) heads ≡ portions_at (bytes_of files file) name payloads)) where
  heads_kept : Told s.files (λ files. AreKept (bytes_of files file) heads)
  heads_kept files told = desk_kept (bytes_of files file) payloads heads (subst (λ (n : ℕ). AreInside n payloads) (sym (whole_is files told)) inside) placed

  -- they don't tile
  pub join_refused : (stop : ExtStop) → IsExtFault (map extent_of heads) stop → JoinFromCall s t file payloads name (Err (Portions stop))
  join_refused stop fault = record {
    calls = calls;
    told = λ files told. subst (λ (ps : List Portion). IsExtFault (map extent ps) stop) (told_heads files told) (fault_of (bytes_of files file) heads stop (heads_kept files told) fault);
    device = λ e. absurd (cc e);
  }

  -- they do, and were read
  pub join_read : (u : DeskState) (full : ℕ) (text : List ℕ) → IsPermutation heads new → Tiles 0 full (map extent_of new) → Tiled (map extent_of heads) full → TextCall t u file payloads new (Ok text)
      → JoinFromCall s u file payloads name (Ok (Some text))
  join_read u full text shuffled tiles tiled call = record {
    calls = desk_calls_trans s t u file payloads calls call.calls;
    told = λ files told. subst (λ (ps : List Portion). Joined ps text) (told_heads files told)
        (joined_of (bytes_of files file) heads new full text (heads_kept files told) shuffled tiles tiled (call.told files (calls.same.files ∙ told)));
    device = λ e. absurd (cc e);
  }

pub heads_none : (s : DeskState) (file name : List ℕ) (payloads : List FileSpan) (heads : List Head) → heads ≡ [] → HeadsSoFar s s file name payloads 0 heads
heads_none s file name payloads heads is = record {
  calls = desk_calls_none s file payloads;
  placed = subst (AreOf payloads) (sym is) (All-nil (λ (h : Head). InPayload payloads h.at (h.at + h.len)));
  told = λ files told. ap (map (portion_in (bytes_of files file))) is;
}
