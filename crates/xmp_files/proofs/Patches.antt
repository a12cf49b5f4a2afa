-- A plan that changes a file in its place alone, and what patching it leaves.
use Rattle.std.proofs.Common.{◌≡◌, ◌⊎◌, ℕ, ◌+◌, ◌<◌, ◌≤◌, Bool, true, false, cond, List, [], ◌∷◌, ◌++◌, length, take, drop, Some, None, Ok, Err, IsTrue, refl, inl, inr, arith, ap, sym, subst, ◌∙◌, if◌then◌else◌}
use Rattle.std.specs.Prelude.{◌≢◌, nat_eq, nat_lt, ◌&&◌, ◌||◌, codes}
use Rattle.std.specs.List.{prefix_len}
use Rattle.std.specs.Option.{ok_or, option_map}
use Rattle.std.specs.declared.option.Option.{Option}
use Rattle.std.specs.declared.result.Result.{Result}
use Rattle.std.proofs.lemmas.Bool.{le-ltb, eqb-true}
use Rattle.xmp_values.specs.Characters.{is_blank}
use Rattle.xmp_values.specs.declared.faults.Fault.{Fault}
use Rattle.xmp_packets.specs.Packets.{is_writable}
use Rattle.xmp_base.specs.Device.{DeskState, put_at}
use Rattle.xmp_base.proofs.Ranges.{put_same}
use Rattle.xmp_base.specs.declared.device.Failed.{Failed}
use Rattle.packet_exchange.specs.Closing.{is_open, Closed, ExchangeCall}
use Rattle.xmp_files.specs.declared.kinds.Kind.{Kind}
use Rattle.xmp_files.specs.declared.kinds.Kind.TheVariants.{Jpeg, Tiff, BigTiff, WebP, Psd, Sidecar}
use Rattle.xmp_files.specs.declared.held.Need.{Need}
use Rattle.xmp_files.specs.declared.held.Need.TheVariants.{Packet}
use Rattle.xmp_files.specs.Faults.{packet_limit, over_packet, file_limit, over_limit, not_known}
use Rattle.xmp_files.specs.Kinds.{kind_of, kind_of_head, is_jpeg, is_tiff, is_big_tiff, is_webp, is_psd, is_markup, is_sidecar, without_mark, begins}
use Rattle.xmp_files.specs.Stages.{followed, Followed}
use Rattle.xmp_files.specs.Keeping.{Piece, Container, Text, Segments, Directories, Kept, sidecar}
use Rattle.xmp_files.specs.Loading.{known, with_offsets, kind_of_file, IsKept, IsLoaded}
use Rattle.xmp_files.specs.Opening.{Holds, IsWhole, HoldsTree}
use Rattle.xmp_files.specs.Planning.{Edited, Plan, Same, InPlace, planned_file}
use Rattle.xmp_files.specs.Plans.{packet_of, least_of, padding, fits, exchanged, digest_pieces, whole_form, told, needs_relocation, room_of, place_of, Apart, NoStray, IsEdited, IsPlanned, OrRelocation, stays}
use Rattle.xmp_base.specs.declared.file_span.FileSpan.{FileSpan}
use Rattle.xmp_files.specs.Loads.{PayloadLies, IsOfSize}
use Rattle.xmp_files.specs.Patching.{IsLeft, IsPatchPlan, PatchCall, DocumentOrFault, FileIsPatched, new_payload}
use Rattle.xmp_files.proofs.ClosedPackets.{closed_some, photograph_refused}
use Rattle.xmp_files.proofs.ClosedImages.{image_closed}
use Rattle.xmp_files.proofs.ExchangedPackets.{Stands, loaded_stands, same_piece, whole_piece}
use Rattle.xmp_files.proofs.LoadedKept.{LoadedAs, loaded_as, loaded_small}
use Rattle.xmp_files.proofs.OpenPackets.{writable_open, writable_long, packet_open}
use Rattle.xmp_files.proofs.PacketLengths.{over_all}
use Rattle.xmp_files.proofs.PlanCases.{IsExchange, exchange_of}
use Rattle.xmp_files.proofs.Writes.{file_written}

patch_cases : (over fit : Bool) (f g : Fault) (inside : Plan) (container : Container) (portions : List FileSpan) (e : Edited) (plan : Plan)
    → OrRelocation (if over then Some (Err f) else (if fit then Some (Ok inside) else (if true then Some (Err g) else None))) container portions e (Ok plan)
    → (fit ≡ true) × (plan ≡ inside)
patch_cases true fit f g inside container portions e plan h = absurd (let bad : Ok plan ≡ Err f = h in cc)
patch_cases false true f g inside container portions e plan h = (refl, let is : Ok plan ≡ Ok inside = h in cc)
patch_cases false false f g inside container portions e plan h = absurd (let bad : Ok plan ≡ Err g = h in cc)

edited_plan : (payload : Option Piece) (container : Container) (portions : List FileSpan) (joined : Bool) (e : Edited) (plan : Plan) → e.digest ≡ None → IsEdited payload container portions joined true e (Ok plan)
    → (plan ≡ Same) ⊎ IsExchange payload e plan
edited_plan payload container portions joined e plan fixed (inl h) = inl (let is : Ok plan ≡ Ok (stays container e.digest) = h.1 in let same : stays container e.digest ≡ Same = ap (stays container) fixed in cc)
edited_plan payload container portions joined e plan fixed (inr h) =
    let c = patch_cases (nat_lt packet_limit (least_of e + padding)) (fits payload joined (least_of e)) (over_packet (told (least_of e + padding)))
    (needs_relocation (told (least_of e)) (room_of payload)) (InPlace (exchanged payload e ++ digest_pieces container e.digest)) container portions e plan h.1 in
    inr (exchange_of payload container joined e plan c.0 c.1)

-- without a digest and without relocation the file stays, or its packet is exchanged
pub patch_plan : (kept : Kept) (joined : Bool) (e : Edited) (plan : Plan) → e.digest ≡ None → IsPlanned kept joined true e (Ok plan) → (plan ≡ Same) ⊎ IsExchange kept.payload e plan
patch_plan kept joined e plan fixed h = edited_plan kept.payload kept.container kept.portions joined e plan fixed h

-- tests that fail in their second part
no_second : (a : Bool) → (a && false) ≡ false
no_second true = refl
no_second false = refl

neither : (a b : Bool) → ((a && false) || (b && false)) ≡ false
neither true b = no_second b
neither false b = no_second b

no_front : (a b : Bool) → ((a && false) && b) ≡ false
no_front true b = refl
no_front false b = refl

-- the kind by the six tests
abbrev kind_by : (jpeg tiff big webp psd sidecar : Bool) → Option Kind
kind_by jpeg tiff big webp psd sidecar =
    if jpeg then Some Jpeg else if tiff then Some Tiff else if big then Some BigTiff else if webp then Some WebP else if psd then Some Psd else if sidecar then Some Sidecar else None

no_kind : (a b c d e f : Bool) → a ≡ false → b ≡ false → c ≡ false → d ≡ false → e ≡ false → f ≡ false → kind_by a b c d e f ≡ None
no_kind a b c d e f at bt ct dt et ft = rw (at, bt, ct, dt, et, ft) refl

module _ (x : ℕ) (rest : List ℕ) (apart : x ≢ 60) where
  abbrev head : List ℕ
  head = x ∷ 63 ∷ rest

  no_mark : without_mark head ≡ head
  no_mark = ap (λ (b : Bool). if b then drop 3 head else head) (no_second (nat_eq 0xEF x))

  not_angle : (b : Bool) → nat_eq 60 x ≡ b → (b && true) ≡ false
  not_angle true e = absurd (apart (sym (eqb-true 60 x e)))
  not_angle false e = refl

  -- after any white space stands no `<`
  markup_after : (n : ℕ) (blank : Bool) → n ≡ (if blank then 1 else 0) → begins (drop n head) (codes "<") ≡ false
  markup_after n true e = subst (λ (k : ℕ). begins (drop k head) (codes "<") ≡ false) (sym e) refl
  markup_after n false e = subst (λ (k : ℕ). begins (drop k head) (codes "<") ≡ false) (sym e) (not_angle (nat_eq 60 x) refl)

  no_markup : is_markup head ≡ false
  unfolding is_blank
  no_markup = markup_after (prefix_len is_blank head) (is_blank x) refl

  no_sidecar : is_sidecar head ≡ false
  no_sidecar = ap (λ (b : Bool). b || is_markup (without_mark head)) (neither (nat_eq 0xFE x) (nat_eq 0xFF x)) ∙ ap is_markup no_mark ∙ no_markup

  closed_head : kind_of_head head ≡ None
  closed_head = no_kind (is_jpeg head) (is_tiff head) (is_big_tiff head) (is_webp head) (is_psd head) (is_sidecar head)
      (no_second (nat_eq 0xFF x)) (neither (nat_eq 0x49 x) (nat_eq 0x4D x)) (neither (nat_eq 0x49 x) (nat_eq 0x4D x))
      (no_front (nat_eq 0x52 x) (begins (drop 8 head) (codes "WEBP"))) (neither (nat_eq 0x38 x) (nat_eq 0x38 x)) no_sidecar

-- no kind of file begins as a closed packet
closed_kind : (file : List ℕ) → Closed file → kind_of file ≡ None
closed_kind [] h = absurd h
closed_kind (first ∷ []) h = absurd h
closed_kind (first ∷ second ∷ rest) h = subst (λ (k : ℕ). kind_of (first ∷ k ∷ rest) ≡ None) (sym h.1) (closed_head first (take 14 rest) h.0)

closed_refused : (now : List ℕ) → length now ≤ packet_limit → Closed now → Holds (Some now) (Err not_known)
closed_refused now short closed =
    let there : kind_of_file (Some now) ≡ Err not_known =
    ap (λ (b : Bool). followed (cond b (Err (over_limit (length now))) (Ok now)) known) (le-ltb file_limit (length now) (omega (arith, short)))
    ∙ ap (λ (k : Option Kind). followed (ok_or k not_known) (with_offsets (take 16 now))) (closed_kind now closed) in
    let is_loaded : IsLoaded Packet (Some now) (Err not_known) = subst (λ (x : Result Kind Fault). Followed x (IsKept Packet now) (Err not_known)) (sym there) refl in
    (Err not_known, is_loaded, refl)

module _ (decided : DocumentOrFault) (need : Need) (old : List ℕ) (kept : Kept) (e : Edited) (plan : Plan) (loaded : IsLoaded need (Some old) (Ok kept)) (holds : HoldsTree (Some old) e.old)
    (payload : Piece) (there : kept.payload ≡ Some payload) (now : List ℕ) (as_long : length now ≡ length payload.bytes) where
  stands : Stands old payload
  stands = loaded_stands need old kept payload loaded there

  -- the old packet over itself
  left_old : now ≡ payload.bytes → HoldsTree (Some (put_at old payload.at now)) e.old
  left_old is =
      let same : put_at old payload.at now ≡ old = ap (put_at old payload.at) (is ∙ sym stands.there) ∙ sym (put_same payload.at (length payload.bytes) old stands.within) in
      subst (λ (file : List ℕ). HoldsTree (Some file) e.old) (sym same) holds

  -- a closed packet is refused: a sidecar as a file of no kind, and a photograph by its packet's XML
  closed_by : Closed now → 8 < length now → LoadedAs need old kept → (fault : Fault) × Holds (Some (put_at old payload.at now)) (Err fault)
  closed_by closed long (inl s) =
      let is : whole_piece old ≡ payload = same_piece (whole_piece old) payload (sym (ap (λ (k : Kept). k.payload) s.is) ∙ there) in
      let whole : put_at old payload.at now ≡ now = subst (λ (q : Piece). length now ≡ length q.bytes → put_at old q.at now ≡ now) is (λ same. over_all old now same) as_long in
      (not_known, subst (λ (file : List ℕ). Holds (Some file) (Err not_known)) (sym whole) (closed_refused now (omega (arith, as_long, stands.short)) closed))
  closed_by closed long (inr (inr x)) =
      image_closed decided need old kept x.is payload there x.kind now as_long long (loaded_small need old kept loaded) (omega (arith, as_long, stands.short)) closed
  closed_by closed long (inr (inl p)) =
      photograph_refused decided need old kept p.is payload there now as_long (closed_some now closed) (loaded_small need old kept loaded) (omega (arith, as_long, stands.short)) closed

  module _ (exchanged_holds : HoldsTree (Some (planned_file old plan)) e.new) (x : IsExchange kept.payload e plan) (left : IsLeft payload.bytes plan now) where
    same : x.old ≡ payload
    same = let h : Some payload ≡ Some x.old = sym there ∙ x.there in sym cc

    long : 8 < length now
    long = let full = writable_long x.old.bytes x.writable in omega (arith, full, ap (λ (p : Piece). length p.bytes) same, as_long)

    new_file : now ≡ packet_of e (length x.old.bytes) → planned_file old plan ≡ put_at old payload.at now
    new_file is = ap (planned_file old) x.is ∙ (λ i. put_at old (same i).at (sym is i))

    exchange_left : IsWhole e.old e.new (Some (put_at old payload.at now))
    exchange_left = elim (subst (λ (p : Plan). IsLeft payload.bytes p now) x.is left) [
      | inl is ↦ inl (left_old is)
      | inr (inl is) ↦ inr (inl (subst (λ (file : List ℕ). HoldsTree (Some file) e.new) (new_file is) exchanged_holds))
      | inr (inr closed) ↦ inr (inr (closed_by closed long (loaded_as need old kept loaded)))
    ]

-- a file that is changed in its place has no portion that could stray
stray_near : (file : List ℕ) (container : Container) (joined : List FileSpan) (e : Edited) (pieces : List Piece) → NoStray file container joined e (InPlace pieces)
stray_near file Text joined e pieces = tt
stray_near file (Segments regions) joined e pieces = tt
stray_near file (Directories size tiff) joined e pieces = tt

pub file_patched : DocumentOrFault → FileIsPatched
file_patched decided need old kept joined e plan loaded fixed planned holds may payload there now as_long left = by_plan (patch_plan kept joined e plan fixed planned)
  where
    by_plan : (plan ≡ Same) ⊎ IsExchange kept.payload e plan → IsWhole e.old e.new (Some (put_at old payload.at now))
    by_plan (inl same) = inl (left_old decided need old kept e plan loaded holds payload there now as_long (subst (λ (p : Plan). IsLeft payload.bytes p now) same left))
    by_plan (inr x) =
        let written = (file_written need old kept joined true e plan loaded planned holds may).0 in
        let stray = subst (NoStray old kept.container kept.portions e) (sym x.is) (stray_near old kept.container kept.portions e _) in
        let apart : Apart kept.container plan = subst (Apart kept.container) (sym x.is) tt in
        exchange_left decided need old kept e plan loaded holds payload there now as_long (written apart stray) x left

-- what `patch` needs to exchange a packet, and what that does
pub record PutFacts (size : ℕ) (payload : Option Piece) (plan : Plan) (at : ℕ) (old new : List ℕ) : Type 0 where
  pub within : at + length new ≤ size
  pub as_long : length old ≡ length new
  pub old_opens : IsTrue (is_open old)
  pub new_opens : IsTrue (is_open new)
  pub call : (s t : DeskState) (name : List ℕ) (result : Result (Unit {0}) Failed) → ExchangeCall s t name at old new result → PatchCall s t name payload plan result

exchange_facts : (size : ℕ) (q : Piece) (e : Edited) (plan : Plan) → plan ≡ InPlace (record { at = q.at; bytes = packet_of e (length q.bytes) } ∷ []) → length (packet_of e (length q.bytes)) ≡ length q.bytes
    → is_writable q.bytes ≡ true → q.at + length q.bytes ≤ size → PutFacts size (Some q) plan q.at q.bytes (packet_of e (length q.bytes))
exchange_facts size q e plan is as_long writable lies = record {
  within = omega (arith, as_long, lies);
  as_long = sym as_long;
  old_opens = writable_open q.bytes writable;
  new_opens = packet_open _ e.new (whole_form e.new) (length q.bytes);
  call = λ s t name result call. subst (λ (p : Plan). PatchCall s t name (Some q) p result) (sym is) call;
}

put_facts : (size : ℕ) (payload : Option Piece) (e : Edited) (plan : Plan) (at : ℕ) (old new : List ℕ) → IsExchange payload e plan → PayloadLies size payload
    → at ≡ place_of payload → Some old ≡ option_map (λ (piece : Piece). piece.bytes) payload → Some new ≡ new_payload plan → PutFacts size payload plan at old new
put_facts size None e plan at old new x lies at_is old_is new_is = absurd (let bad : (let none : Option Piece = None in none) ≡ Some x.old = x.there in cc)
put_facts size (Some q) e plan at old new x lies at_is old_is new_is =
    let same : x.old ≡ q = (let h : Some q ≡ Some x.old = x.there in sym cc) in
    let is : plan ≡ InPlace (record { at = q.at; bytes = packet_of e (length q.bytes) } ∷ []) = subst (λ (p : Piece). plan ≡ InPlace (record { at = p.at; bytes = packet_of e (length p.bytes) } ∷ [])) same x.is in
    let as_long : length (packet_of e (length q.bytes)) ≡ length q.bytes = subst (λ (p : Piece). length (packet_of e (length p.bytes)) ≡ length p.bytes) same x.as_long in
    let facts = exchange_facts size q e plan is as_long (subst (λ (p : Piece). is_writable p.bytes ≡ true) same x.writable) lies.0 in
    let new_same : new ≡ packet_of e (length q.bytes) = (let h : Some new ≡ Some (packet_of e (length q.bytes)) = new_is ∙ ap new_payload is in cc) in
    let old_same : old ≡ q.bytes = (let h : Some old ≡ Some q.bytes = old_is in cc) in
    subst (λ (a : ℕ). PutFacts size (Some q) plan a old new) (sym at_is)
    (subst (λ (o : List ℕ). PutFacts size (Some q) plan q.at o new) (sym old_same) (subst (λ (n : List ℕ). PutFacts size (Some q) plan q.at q.bytes n) (sym new_same) facts))

pub patch_facts : (kept : Kept) (plan : Plan) (at : ℕ) (old new : List ℕ) → IsPatchPlan kept plan → IsOfSize kept.size kept
    → at ≡ place_of kept.payload → Some old ≡ option_map (λ (piece : Piece). piece.bytes) kept.payload → Some new ≡ new_payload plan → PutFacts kept.size kept.payload plan at old new
patch_facts kept plan at old new (joined, e, fixed, planned) lies at_is old_is new_is = by_case (patch_plan kept joined e plan fixed planned)
  where
    by_case : (plan ≡ Same) ⊎ IsExchange kept.payload e plan → PutFacts kept.size kept.payload plan at old new
    by_case (inl same) = absurd (let bad : Some new ≡ None = new_is ∙ ap new_payload same in cc)
    by_case (inr x) = put_facts kept.size kept.payload e plan at old new x lies.payload at_is old_is new_is
