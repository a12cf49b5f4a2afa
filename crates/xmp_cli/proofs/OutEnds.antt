-- What writing OUT has done to the files.
use Rattle.std.proofs.Common.{◌≡◌, ◌∙◌, ℕ, List, [], Option, Some, Ok, Err, sym, ap, inl, inr, arith, append-nil}
use Rattle.std.specs.FinMap.{get, insert}
use Rattle.xmp_base.specs.Device.{DeskState, Files, Told, SameFiles, NotFewer, bytes_of}
use Rattle.xmp_base.specs.Windows.{PartOf}
use Rattle.xmp_base.specs.declared.device.Failed.{Failed}
use Rattle.xmp_base.proofs.Calls.{rose_after}
use Rattle.xmp_base.proofs.Names.{get-insert_same, get-insert_other, same_at}
use Rattle.xmp_files.specs.Planning.{Plan, planned_file}
use Rattle.xmp_files.specs.Emitting.{EmitCall, EmittedFile}
use Rattle.xmp_cli.specs.Commands.{Command}
use Rattle.xmp_cli.specs.Answer.{put_out}
use Rattle.xmp_cli.specs.Left.{LeftFile, Patched, most_piece}
use Rattle.xmp_cli.specs.Run.{Touches, Writes}
use Rattle.xmp_cli.proofs.EditEnds.{Broken, Whole}

-- a whole file is a part of itself
whole_part : (bytes : List ℕ) → PartOf bytes bytes most_piece
whole_part bytes = record { whole = bytes; torn = []; rest = []; is = sym (append-nil bytes); prefix = sym (append-nil bytes); small = omega arith; inside = omega arith }

left_file : (s t u : DeskState) (failed : Failed) (now before : Option (List ℕ)) (whole : List ℕ) → SameFiles s t → EmittedFile (Err failed) t u now whole → LeftFile s u before now whole
left_file s t u failed now before whole same (inl wrote) = inr (inl (wrote ∙ same.wrote))
left_file s t u failed now before whole same (inr part) = inr (inr part)

module _ (c : Command) (s t u : DeskState) (file out : List ℕ) (plan : Plan) (size : ℕ) (same : SameFiles s t) (counts : NotFewer s t) (touches : Touches (Some c) s u)
    (patched : Told s.files (λ files. Patched (Some c) files s u)) where
  -- the file wasn't written whole
  pub out_broken : (failed : Failed) → EmitCall t u plan size file out (Err failed) → Broken c s u (λ files. put_out out (bytes_of files file) plan)
  out_broken failed a = record {
    touches = touches;
    patched = patched;
    left = λ files e. let m = a.told files (same.files ∙ e) in (m.0, m.1, left_file s t u failed (get m.0 out) (get files out) (planned_file (bytes_of files file) plan) same m.3);
    rose = rose_after s.faults t.faults u.faults counts.faults a.failed;
  }

  module _ (unit : Unit {0}) (a : EmitCall t u plan size file out (Ok unit)) where
    put_files : Told s.files (λ files. u.files ≡ Some (insert files out (planned_file (bytes_of files file) plan)))
    put_files files e =
        let m = a.told files (same.files ∙ e) in
        let new : List ℕ = planned_file (bytes_of files file) plan in
        m.1 ∙ ap (λ (x : Files). Some x) (same_at m.0 (insert files out new) out (m.3 ∙ sym (get-insert_same files out new)) (λ q apart. m.2 q apart ∙ sym (get-insert_other files out new q apart)))

    pub out_there : (files now : Files) → s.files ≡ Some files → u.files ≡ Some now → get now out ≡ Some (planned_file (bytes_of files file) plan)
    out_there files now e is =
        let new : List ℕ = planned_file (bytes_of files file) plan in
        let both : Some now ≡ Some (insert files out new) = sym is ∙ put_files files e in
        let maps : now ≡ insert files out new = cc in
        ap (λ (x : Files). get x out) maps ∙ get-insert_same files out new

    pub out_whole : Told s.files (λ files. Writes (Some c) files u) → Whole c s u (λ files. put_out out (bytes_of files file) plan)
    out_whole writes = record {
      touches = touches;
      patched = patched;
      left = λ files e.
          let new : List ℕ = planned_file (bytes_of files file) plan in
          (insert files out new, put_files files e, inr (inr (new, get-insert_same files out new, whole_part new)));
      after = put_files;
      writes = writes;
    }
