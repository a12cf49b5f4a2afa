-- What exchanging the packet inside FILE has done to the files.
use Rattle.std.proofs.Common.{◌≡◌, ◌⊎◌, ◌∙◌, ℕ, ◌+◌, true, List, [], ◌∷◌, length, take, drop, Option, Some, Ok, Err, refl, sym, ap, subst, inl, inr, arith}
use Rattle.std.specs.declared.result.Result.{Result}
use Rattle.std.specs.Option.{unwrap_or}
use Rattle.std.specs.FinMap.{get, insert}
use Rattle.xmp_base.specs.Device.{DeskState, Moved, Files, Told, SameFiles, bytes_of, put_at}
use Rattle.xmp_base.specs.Windows.{MovesInside}
use Rattle.xmp_base.specs.declared.device.Failed.{Failed}
use Rattle.xmp_base.proofs.Calls.{rose_after}
use Rattle.xmp_base.proofs.Names.{get-insert_same}
use Rattle.packet_exchange.specs.Closing.{Left as LeftOf, Closed, ExchangeWrites, ExchangeCall}
use Rattle.xmp_files.specs.declared.opening.Opened.{Opened}
use Rattle.xmp_files.specs.declared.held.Need.TheVariants.{Packet}
use Rattle.xmp_files.specs.Keeping.{Piece, Kept}
use Rattle.xmp_files.specs.Loading.{IsLoaded}
use Rattle.xmp_files.specs.Opening.{IsOpened, HoldsTree, IsWhole}
use Rattle.xmp_files.specs.Patching.{FileIsPatched, PatchCall, new_payload}
use Rattle.xmp_files.specs.Planning.{Edited, Plan, Same, Agree, planned_file}
use Rattle.xmp_files.specs.Planneds.{bytes_in}
use Rattle.xmp_files.specs.Plans.{packet_of}
use Rattle.xmp_files.proofs.Loads.{spared_none, spared_trans}
use Rattle.xmp_files.proofs.PlanCases.{IsExchange}
use Rattle.xmp_cli.specs.Commands.{Patch}
use Rattle.xmp_cli.specs.Answer.{exchange_in, changed}
use Rattle.xmp_cli.specs.Edits.{Lines, edited_of}
use Rattle.xmp_cli.specs.EditSteps.{IsPlanOf}
use Rattle.xmp_cli.specs.Left.{Left, InPatch, Patched}
use Rattle.xmp_cli.specs.Run.{Touches, Writes}
use Rattle.xmp_files.proofs.Agreeing.{put_agrees}
use Rattle.xmp_cli.proofs.EditEnds.{Broken, Whole}
use Rattle.xmp_cli.proofs.Touching.{touches_exchange, touches_trans}
use Rattle.xmp_cli.proofs.PatchedFiles.{payload_within, payload_stands, patched_whole}
use Rattle.xmp_cli.proofs.WrittenEdits.{edited_old, there}

-- what stands in the place of the payload, whether or not the exchange failed
left_any : (result : Result (Unit {0}) Failed) (old new now : List ℕ) → LeftOf result old new now → (now ≡ old) ⊎ (now ≡ new) ⊎ Closed now
left_any (Ok unit) old new now h = inr (inl h)
left_any (Err failed) old new now h = h

-- the edit's plan, over files that are told
abbrev PlanOf : List ℕ → Files → Kept → Opened → Plan → Type 0
PlanOf script files kept opened plan = IsPlanOf true (edited_of (Lines script) files opened.meaning) kept opened plan

-- FILE after an exchange
record Exchanging (u : DeskState) (file : List ℕ) (files : Files) (payload : Piece) (new : List ℕ) (result : Result (Unit {0}) Failed) : Type 0 where
  now : List ℕ
  as_long : length now ≡ length payload.bytes
  left : LeftOf result payload.bytes new now
  after : u.files ≡ Some (insert files file (put_at (bytes_of files file) payload.at now))

same_map : (a b : Files) → (let x : Option Files = Some a in x) ≡ Some b → a ≡ b
same_map a b e = cc

module _ (file script : List ℕ) (s t u : DeskState) (same : SameFiles s t) (before : Touches (Some (Patch file script)) s t) (kept : Kept) (opened : Opened) (plan : Plan)
    (loaded : Told s.files (λ files. IsLoaded Packet (get files file) (Ok kept))) (opens : IsOpened kept (Ok opened))
    (of_run : Told s.files (λ files. PlanOf script files kept opened plan)) (law : FileIsPatched) where
  held : (files : Files) → s.files ≡ Some files → get files file ≡ Some (bytes_of files file)
  held files e = there (get files file) kept (loaded files e)

  loaded_bytes : (files : Files) → s.files ≡ Some files → IsLoaded Packet (Some (bytes_of files file)) (Ok kept)
  loaded_bytes files e = subst (λ (f : Option (List ℕ)). IsLoaded Packet f (Ok kept)) (held files e) (loaded files e)

  holds : (files : Files) (e : s.files ≡ Some files) → HoldsTree (Some (bytes_of files file)) (of_run files e).edited.old
  holds files e = let r = of_run files e in (opened, (Ok kept, loaded_bytes files e, opens), sym (edited_old (Lines script) files opened.meaning r.edited r.is))

  module _ (edit : Edited) (x : IsExchange kept.payload edit plan) (result : Result (Unit {0}) Failed) (done : PatchCall t u file kept.payload plan result) where
    abbrev new : List ℕ
    new = packet_of edit (length x.old.bytes)

    call : ExchangeCall t u file x.old.at (bytes_in kept.payload) new result
    call = subst (λ (p : Plan). PatchCall t u file kept.payload p result) x.is done

    exchanging : (files : Files) → s.files ≡ Some files → Exchanging u file files x.old new result
    exchanging files e =
        let bytes : List ℕ = bytes_of files file in
        let r = of_run files e in
        let within = payload_within bytes kept (loaded_bytes files e) x.old x.there in
        let h = call.payload.files files (same.files ∙ e) bytes (held files e) (omega (arith, within, x.as_long)) in
        let was : take (length new) (drop x.old.at bytes) ≡ bytes_in kept.payload =
        ap (λ (n : ℕ). take n (drop x.old.at bytes)) x.as_long ∙ payload_stands bytes kept (loaded_bytes files e) x.old x.there ∙ sym (ap bytes_in x.there) in
        record {
          now = h.now;
          as_long = h.full ∙ x.as_long;
          left = subst (λ (l : List ℕ). LeftOf result l new h.now) (ap bytes_in x.there) (h.is was);
          after = h.left;
        }

    in_patch : (files : Files) (e : s.files ≡ Some files) (y : Exchanging u file files x.old new result)
        → InPatch (Patch file script) file files (insert files file (put_at (bytes_of files file) x.old.at y.now)) s u
    in_patch files e y =
        let r = of_run files e in
        let bytes : List ℕ = bytes_of files file in
        let after : List ℕ = put_at bytes x.old.at y.now in
        let stands = get-insert_same files file after in
        let within = payload_within bytes kept (loaded_bytes files e) x.old x.there in
        record {
          kept = kept;
          edited = r.edited;
          plan = plan;
          plans = record { loaded = loaded files e; opened = opened; opens = opens; edits = r.is; planned = r.planned };
          payload = x.old;
          of_kept = x.there;
          wrote = subst (λ (w : Option (List Moved)). MovesInside file x.old.at (x.old.at + length x.old.bytes) w u.wrote) same.wrote
              (subst (λ (n : ℕ). MovesInside file x.old.at (x.old.at + n) t.wrote u.wrote) x.as_long call.payload.wrote);
          new = new;
          exchanges = ap new_payload x.is;
          writes = subst (λ (w : Option (List Moved)). ExchangeWrites file x.old.at x.old.bytes new w u.wrote) same.wrote
              (subst (λ (l : List ℕ). ExchangeWrites file x.old.at l new t.wrote u.wrote) (ap bytes_in x.there) call.writes);
          idle = λ stays. ap (λ (d : DeskState). d.wrote) (call.idle (ap bytes_in x.there ∙ stays)) ∙ same.wrote;
          agrees = subst (λ (l : List ℕ). Agree bytes l (x.old ∷ [])) (sym (ap (λ (o : Option (List ℕ)). unwrap_or o []) stands))
              (put_agrees bytes x.old.at y.now (omega (arith, within, y.as_long)) x.old refl (sym y.as_long));
          whole = subst (λ (f : Option (List ℕ)). IsWhole r.edited.old r.edited.new f) (sym stands)
              (patched_whole bytes kept (loaded_bytes files e) x.old x.there opened.joined r.edited plan r.planned new y.now x.is y.as_long
              (left_any result x.old.bytes new y.now y.left) r.scripted (holds files e) r.written law);
        }

    touches : Touches (Some (Patch file script)) s u
    touches = touches_trans (Some (Patch file script)) s t u (spared_trans Packet s t u file same.files before.spared (spared_none Packet t u file call.payload.reads)) before
        (touches_exchange (Some (Patch file script)) t u file x.old.at (length new) (λ was now. was ≡ bytes_in kept.payload → LeftOf result (bytes_in kept.payload) new now) refl
        (λ files e. let y = exchanging files (sym same.files ∙ e) in (put_at (bytes_of files file) x.old.at y.now, y.after)) call.payload)

    patched : Told s.files (λ files. Patched (Some (Patch file script)) files s u)
    patched files e = let y = exchanging files e in inr (insert files file (put_at (bytes_of files file) x.old.at y.now), y.after, in_patch files e y)

    left : (files : Files) → Left files (exchange_in file (bytes_of files file) plan) s u
    left files = subst (λ (p : Plan). Left files (exchange_in file (bytes_of files file) p) s u) (sym x.is) tt

  pub patch_broken : (edit : Edited) (failed : Failed) → (plan ≡ Same) ⊎ IsExchange kept.payload edit plan → PatchCall t u file kept.payload plan (Err failed)
      → Broken (Patch file script) s u (λ files. exchange_in file (bytes_of files file) plan)
  patch_broken edit failed (inl stays) done =
      let idle = subst (λ (p : Plan). PatchCall t u file kept.payload p (Err failed)) stays done in absurd (cc idle.1)
  patch_broken edit failed (inr x) done = record {
    touches = touches edit x (Err failed) done;
    patched = patched edit x (Err failed) done;
    left = λ files e. left edit x (Err failed) done files;
    rose = rose_after s.faults t.faults u.faults before.counts.faults (call edit x (Err failed) done).failed;
  }

  -- FILE as the plan has it
  after_exchange : (edit : Edited) (unit : Unit {0}) → (plan ≡ Same) ⊎ IsExchange kept.payload edit plan → PatchCall t u file kept.payload plan (Ok unit)
      → Told s.files (λ files. u.files ≡ Some (changed files (exchange_in file (bytes_of files file) plan)))
  after_exchange edit unit (inl stays) done files e =
      let idle = subst (λ (p : Plan). PatchCall t u file kept.payload p (Ok unit)) stays done in
      subst (λ (p : Plan). u.files ≡ Some (changed files (exchange_in file (bytes_of files file) p))) (sym stays) (ap (λ (d : DeskState). d.files) idle.0 ∙ same.files ∙ e)
  after_exchange edit unit (inr x) done files e =
      let y = exchanging edit x (Ok unit) done files e in
      subst (λ (p : Plan). u.files ≡ Some (changed files (exchange_in file (bytes_of files file) p))) (sym x.is)
      (y.after ∙ ap (λ (l : List ℕ). Some (insert files file (put_at (bytes_of files file) x.old.at l))) y.left)

  planned_there : (edit : Edited) → (plan ≡ Same) ⊎ IsExchange kept.payload edit plan → (files : Files) → s.files ≡ Some files
      → get (changed files (exchange_in file (bytes_of files file) plan)) file ≡ Some (planned_file (bytes_of files file) plan)
  planned_there edit (inl stays) files e =
      subst (λ (p : Plan). get (changed files (exchange_in file (bytes_of files file) p)) file ≡ Some (planned_file (bytes_of files file) p)) (sym stays) (held files e)
  planned_there edit (inr x) files e =
      subst (λ (p : Plan). get (changed files (exchange_in file (bytes_of files file) p)) file ≡ Some (planned_file (bytes_of files file) p)) (sym x.is)
      (get-insert_same files file (put_at (bytes_of files file) x.old.at (packet_of edit (length x.old.bytes))))

  module _ (edit : Edited) (unit : Unit {0}) (by : (plan ≡ Same) ⊎ IsExchange kept.payload edit plan) (done : PatchCall t u file kept.payload plan (Ok unit)) where
    pub patch_there : (files now : Files) → s.files ≡ Some files → u.files ≡ Some now → get now file ≡ Some (planned_file (bytes_of files file) plan)
    patch_there files now e is =
        ap (λ (x : Files). get x file) (same_map now (changed files (exchange_in file (bytes_of files file) plan)) (sym is ∙ after_exchange edit unit by done files e))
        ∙ planned_there edit by files e

    patched_by : (plan ≡ Same) ⊎ IsExchange kept.payload edit plan → Told s.files (λ files. Patched (Some (Patch file script)) files s u)
    patched_by (inl stays) files e =
        let idle = subst (λ (p : Plan). PatchCall t u file kept.payload p (Ok unit)) stays done in
        inl (record { files = ap (λ (d : DeskState). d.files) idle.0 ∙ same.files; wrote = ap (λ (d : DeskState). d.wrote) idle.0 ∙ same.wrote })
    patched_by (inr x) files e = patched edit x (Ok unit) done files e

    touches_by : (plan ≡ Same) ⊎ IsExchange kept.payload edit plan → Touches (Some (Patch file script)) s u
    touches_by (inl stays) =
        let idle = subst (λ (p : Plan). PatchCall t u file kept.payload p (Ok unit)) stays done in
        subst (λ (d : DeskState). Touches (Some (Patch file script)) s d) (sym idle.0) before
    touches_by (inr x) = touches edit x (Ok unit) done

    left_by : (plan ≡ Same) ⊎ IsExchange kept.payload edit plan → Told s.files (λ files. Left files (exchange_in file (bytes_of files file) plan) s u)
    left_by (inl stays) files e =
        subst (λ (p : Plan). Left files (exchange_in file (bytes_of files file) p) s u) (sym stays)
        (after_exchange edit unit by done files e ∙ ap (λ (p : Plan). Some (changed files (exchange_in file (bytes_of files file) p))) stays)
    left_by (inr x) files e = left edit x (Ok unit) done files

    pub patch_whole : Told s.files (λ files. Writes (Some (Patch file script)) files u) → Whole (Patch file script) s u (λ files. exchange_in file (bytes_of files file) plan)
    patch_whole writes = record {
      touches = touches_by by;
      patched = patched_by by;
      left = left_by by;
      after = after_exchange edit unit by done;
      writes = writes;
    }
