-- The length of a device's file, before it is cut.
use Rattle.std.proofs.Common.{◌≡◌, ℕ, zero, suc, Bool, true, false, cond, ◌<◌, ◌≤◌, IsTrue, List, [], ◌∷◌, length, refl, sym, ap, subst, ◌∙◌, arith, inl, Ok, Err, Some, None}
use Rattle.std.specs.declared.option.Option.{Option}
use Rattle.std.specs.declared.result.Result.{Result}
use Rattle.std.specs.FinMap.{get, contains_key}
use Rattle.std.specs.Option.{unwrap_or, option_map}
use Rattle.std.specs.Prelude.{IfOk, slice_get}
use Rattle.xmp_base.proofs.Names.{get-insert_same, get-insert_other}
use Rattle.xmp_base.specs.Device.{DeskState, Lens, SizeCall, Told, OthersKeep, bytes_of, is_known, len_of, size_of}
use Rattle.xmp_values.specs.declared.rules.Rule.TheVariants.{NoTail}
use Rattle.xmp_values.specs.declared.stops.DeviceStop.{DeviceStop}
use Rattle.xmp_values.specs.declared.stops.DeviceStop.TheVariants.{Fault, Device, Memory}
use Rattle.jpeg_regions.specs.declared.reading.Found.{Found}
use Rattle.jpeg_regions.specs.Jpeg.{Region, no_tail, mains, is_main}
use Rattle.jpeg_regions.specs.Cutting.{BeginsJpeg, Tiles}
use Rattle.jpeg_regions.specs.FromDesk.{CutCalls, CutFromCall, CutFromAnswer, CutKnownCall, StopsIn, AdvanceAnswer}
use Rattle.xmp_base.proofs.Calls.{same_trans, counts_trans, rose_after}
use Rattle.xmp_base.proofs.Inside.{inside_none}
use Rattle.jpeg_regions.proofs.Near.{calls_none}

-- the file's length, where it is told
told_len : (found : Option (List ℕ)) (n : ℕ) → Ok n ≡ size_of found → length (unwrap_or found []) ≡ n
told_len None n e = absurd (cc)
told_len (Some bytes) n e = cc

begins_two : (file : List ℕ) → BeginsJpeg file → 2 ≤ length file
begins_two [] e = absurd (cc)
begins_two (x ∷ []) e = absurd (cc)
begins_two (x ∷ y ∷ file) e = omega arith

module _ (s t : DeskState) (name : List ℕ) (n : ℕ) (size : SizeCall s t name (Ok n)) where
  pub told_size : Told s.files (λ files. length (bytes_of files name) ≡ n)
  told_size files told = told_len (get files name) n (size.told files told (λ e. cc))

  now_known : get t.lens name ≡ Some n
  now_known = ap (λ (m : Lens). get m name) size.lens ∙ get-insert_same s.lens name n

  pub size_known : IsTrue (is_known t name)
  size_known = rw now_known refl

  pub size_len : len_of t name ≡ n
  size_len = ap (λ (o : Option ℕ). unwrap_or o 0) now_known

  others : OthersKeep s.lens t.lens name
  others = λ q apart. ap (λ (m : Lens). get m q) size.lens ∙ get-insert_other s.lens name n q apart

  -- what the size changes and what follows
  pub calls_sized : (u : DeskState) → CutCalls t u name → CutCalls s u name
  calls_sized u a = record {
    same = same_trans s t u size.same a.same;
    counts = counts_trans s t u size.counts a.counts;
    reads = record {
      named = λ reads told.
          let m = a.reads.named reads (size.reads ∙ told) in
          (m.0, m.1, m.2, λ files ftold. m.3 files (size.same.files ∙ ftold));
    };
  }

  pub cut_done : (u : DeskState) (result : Result (List Region) DeviceStop) → CutKnownCall t u name n result → CutFromCall s u name result
  cut_done u result call = let len : len_of u name ≡ n = ap (λ (m : Lens). unwrap_or (get m name) 0) call.lens ∙ size_len in record {
    calls = calls_sized u call.calls;
    others = λ q apart. ap (λ (m : Lens). get m q) call.lens ∙ others q apart;
    known = subst (λ (m : Lens). IsTrue (contains_key m name)) (sym call.lens) size_known;
    told = λ files told. call.told files (size.same.files ∙ told);
    tiles = subst (λ (k : ℕ). IfOk result (λ regions. Tiles 2 k regions)) (sym len) call.tiles;
    fault = inl (subst (λ (k : ℕ). StopsIn k result) (sym len) call.fault);
    device = λ e. rose_after s.faults t.faults u.faults size.counts.faults (call.device e);
  }

-- a file that is too short for its first marker
pub cut_low : (s : DeskState) (name : List ℕ) (n : ℕ) → Told s.files (λ files. length (bytes_of files name) ≡ n) → Told s.files (λ files. BeginsJpeg (bytes_of files name)) → n < 2
    → CutKnownCall s s name n (Err (Fault NoTail n))
cut_low s name n full begins h = record {
  calls = calls_none s name;
  inside = inside_none name 0 n s.reads s.reads refl;
  lens = refl;
  told = λ files told. absurd (omega (arith, begins_two (bytes_of files name) (begins files told), full files told));
  tiles = tt;
  fault = no_tail refl;
  device = λ e. absurd (cc);
}

-- what stops an advance stops the cut
pub advance_stopped : (file : List ℕ) (found : List Found) (stop : DeviceStop) → AdvanceAnswer file found (Err stop) → CutFromAnswer file (Err stop)
advance_stopped file found (Fault rule place) a = inl a
advance_stopped file found Device a = tt
advance_stopped file found Memory a = tt

tiles_le : (at end : ℕ) (rs : List Region) → Tiles at end rs → at ≤ end
tiles_le at end [] t = omega (arith, t)
tiles_le at end (r ∷ rs) t = omega (arith, t.1, t.2, t.3, tiles_le r.range.end end rs t.4)

-- a main region begins before the end of all
pub main_within : (at end k place : ℕ) (rs : List Region) → Tiles at end rs → option_map (λ r. r.range.start) (slice_get (mains rs) k) ≡ Some place → place < end
main_within at end k place [] t e = absurd (cc e)
main_within at end k place (r ∷ rs) t e = by_kind (λ i. main_within r.range.end end i place rs t.4) (is_main r.kind) k e
  where
    later : at < r.range.end
    later = omega (arith, t.1, t.2, t.3)

    by_kind : ((i : ℕ) → option_map (λ r. r.range.start) (slice_get (mains rs) i) ≡ Some place → place < end)
        → (b : Bool) (k : ℕ) → option_map (λ r. r.range.start) (slice_get (cond b (r ∷ mains rs) (mains rs)) k) ≡ Some place → place < end
    by_kind rest true zero e = let is : r.range.start ≡ place = cc e in omega (arith, is, t.0, later, tiles_le r.range.end end rs t.4)
    by_kind rest true (suc k) e = rest k e
    by_kind rest false k e = rest k e
