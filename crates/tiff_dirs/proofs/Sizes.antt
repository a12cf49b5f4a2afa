-- The length and the header of a device's file.
use Rattle.std.proofs.Common.{◌≡◌, ℕ, ◌<◌, ◌≤◌, ◌==◌, Bool, true, false, if◌then◌else◌, IsTrue, List, [], length, take, drop, refl, sym, ap, subst, ◌∙◌, arith, inl, Ok, Err, Some, None}
use Rattle.std.specs.declared.option.Option.{Option}
use Rattle.std.specs.declared.result.Result.{Result}
use Rattle.std.specs.FinMap.{get, contains_key}
use Rattle.std.specs.Option.{unwrap_or}
use Rattle.xmp_base.proofs.Names.{get-insert_same, get-insert_other}
use Rattle.xmp_base.specs.Device.{DeskState, Files, Lens, SizeCall, Told, Rose, OthersKeep, bytes_of, is_known, len_of, size_of}
use Rattle.xmp_base.specs.MemoryState.{DeskMemory}
use Rattle.xmp_base.specs.Memory.{Stored, desk_state, files_of, lens_of}
use Rattle.xmp_base.proofs.Calls.{same_trans, counts_trans, rose_after}
use Rattle.xmp_values.specs.declared.rules.Rule.TheVariants.{ShortHeader}
use Rattle.tiff_dirs.specs.declared.stop.TiffStop.TheVariants.{Fault}
use Rattle.tiff_dirs.specs.declared.stop.WalkStop.{WalkStop}
use Rattle.tiff_dirs.specs.declared.stop.WalkStop.TheVariants as walk
use Rattle.tiff_dirs.specs.Numbers.{number}
use Rattle.tiff_dirs.specs.Layouts.{BeginsTiff, classic, wide, layout_by, layout_of}
use Rattle.tiff_dirs.specs.Tiff.{Tiff}
use Rattle.tiff_dirs.specs.Model.{FirstFault}
use Rattle.tiff_dirs.specs.FromDesk.{WalkReads, WalkFromAnswer, WalkFromCall}
use Rattle.tiff_dirs.proofs.Piece.{number_part}

told_len : (found : Option (List ℕ)) (n : ℕ) → Ok n ≡ size_of found → length (unwrap_or found []) ≡ n
told_len None n e = absurd (cc)
told_len (Some bytes) n e = cc

least_by : (b big : Bool) → 8 ≤ (if b then wide big else classic big).header
least_by true big = omega arith
least_by false big = omega arith

pub header_least : (file : List ℕ) → 8 ≤ (layout_of file).header
header_least file = let big = number true 2 0 file == 0x4D4D in least_by (number big 2 2 file == 43) big

-- the layout is that of the first bytes
pub layout_part : (head file : List ℕ) (size : ℕ) → 4 ≤ size → head ≡ take size (drop 0 file) → layout_of head ≡ layout_of file
layout_part head file size h is =
    ap (λ (n : ℕ). layout_by (n == 0x4D4D) (number (n == 0x4D4D) 2 2 head)) (number_part head file 0 size is true 2 0 0 (omega arith) (omega arith))
    ∙ ap (layout_by (number true 2 0 file == 0x4D4D)) (number_part head file 0 size is (number true 2 0 file == 0x4D4D) 2 2 2 (omega arith) (omega arith))

pub short_fault : (file : List ℕ) → length file < (layout_of file).header → FirstFault file (Fault ShortHeader 0 0 0)
short_fault file h = inl (record { short = h; named = refl })

module _ (s t : DeskState) (name : List ℕ) (n : ℕ) (size : SizeCall s t name (Ok n)) where
  pub told_size : Told s.files (λ files. length (bytes_of files name) ≡ n)
  told_size files told = told_len (get files name) n (size.told files told (λ e. cc))

  now_known : get t.lens name ≡ Some n
  now_known = ap (λ (m : Lens). get m name) size.lens ∙ get-insert_same s.lens name n

  pub size_known : IsTrue (is_known t name)
  size_known = rw now_known refl

  pub size_len : len_of t name ≡ n
  size_len = ap (λ (o : Option ℕ). unwrap_or o 0) now_known

  others : OthersKeep s.lens t.lens name
  others = λ q apart. ap (λ (m : Lens). get m q) size.lens ∙ get-insert_other s.lens name n q apart

  calls_sized : (u : DeskState) → WalkReads t u name → WalkReads s u name
  calls_sized u a = record {
    same = same_trans s t u size.same a.same;
    counts = counts_trans s t u size.counts a.counts;
    reads = λ reads told. let m = a.reads reads (size.reads ∙ told) in (m.0, m.1, m.2, λ files ftold. m.3 files (size.same.files ∙ ftold));
  }

  pub walk_done : (u : DeskState) (result : Result Tiff WalkStop) → WalkReads t u name → u.lens ≡ t.lens → Told t.files (λ files. WalkFromAnswer (bytes_of files name) result)
      → (result ≡ Err walk.Device → Rose t.faults u.faults) → WalkFromCall s u name result
  walk_done u result calls lens answer device = record {
    calls = calls_sized u calls;
    others = λ q apart. ap (λ (m : Lens). get m q) lens ∙ others q apart;
    known = subst (λ (m : Lens). IsTrue (contains_key m name)) (sym lens) size_known;
    told = λ files told. answer files (size.same.files ∙ told);
    device = λ e. rose_after s.faults t.faults u.faults size.counts.faults (device e);
  }

  -- a file that is too short for any header
  pub too_short : WalkReads t t name → n < 8 → WalkFromCall s t name (Err (walk.Fault ShortHeader 0 0 0))
  too_short none h =
      walk_done t (Err (walk.Fault ShortHeader 0 0 0)) none refl
      (λ files told. short_fault (bytes_of files name) (let size = told_size files (sym size.same.files ∙ told) in let least = header_least (bytes_of files name) in omega (arith, size, least)))
      (λ e. absurd (cc))

-- a file that was put into a desk in memory
module _ (d e : DeskMemory) (name bytes : List ℕ) (stored : Stored d e name bytes) where
  held_len : get (lens_of e.files) name ≡ Some (length bytes)
  held_len = ap (λ (m : Lens). get m name) stored.lens ∙ get-insert_same _ name (length bytes)

  pub stored_known : IsTrue (is_known (desk_state e) name)
  stored_known = rw held_len refl

  pub stored_is : bytes_of (files_of e.files) name ≡ bytes
  stored_is = ap (λ (m : Files). bytes_of m name) stored.files ∙ ap (λ o. unwrap_or o []) (get-insert_same _ name bytes)

  pub stored_begins : BeginsTiff bytes → Told (desk_state e).files (λ files. BeginsTiff (bytes_of files name))
  stored_begins begins = λ files told.
      let is : files_of e.files ≡ files = cc in
      subst BeginsTiff (sym (ap (λ (m : Files). bytes_of m name) (sym is) ∙ stored_is)) begins
