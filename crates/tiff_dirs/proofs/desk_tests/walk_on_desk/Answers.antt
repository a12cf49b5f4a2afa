use Rattle.std.proofs.Common.{◌≡◌, ◌∙◌, ap, subst, sym, refl, ℕ, List, IsTrue, Some, length, []}
use Rattle.std.specs.FinMap.{get}
use Rattle.std.specs.Option.{unwrap_or}
use Rattle.xmp_base.proofs.Names.{get-insert_same}
use Rattle.xmp_base.specs.Device.{Files, Lens, Told, bytes_of, is_known}
use Rattle.xmp_base.specs.MemoryState.{DeskMemory}
use Rattle.xmp_base.specs.Memory.{Stored, desk_state, files_of, lens_of}
use Rattle.tiff_dirs.specs.Layouts.{BeginsTiff}
use Rattle.tiff_dirs.proofs.desk_tests.walk_on_desk.Goals as goal

module _ (d e f : DeskMemory) (name bytes : List ℕ) (stored : Stored d e name bytes) (same : f.files ≡ e.files) where
  held_len : get (lens_of f.files) name ≡ Some (length bytes)
  held_len = ap (λ (m : Lens). get m name) (ap lens_of same ∙ stored.lens) ∙ get-insert_same _ name (length bytes)

  stored_known : IsTrue (is_known (desk_state f) name)
  stored_known = rw held_len refl

  stored_bytes : BeginsTiff bytes → Told (desk_state f).files (λ files. BeginsTiff (bytes_of files name))
  stored_bytes begins = λ files told.
      let is : files_of f.files ≡ files = cc in
      let held : bytes_of files name ≡ bytes = ap (λ (m : Files). bytes_of m name) (sym is ∙ ap files_of same ∙ stored.files) ∙ ap (λ o. unwrap_or o []) (get-insert_same _ name bytes) in
      subst BeginsTiff (sym held) begins

pub walk_from-requires-clause-known : goal.walk_from-requires-clause-known
walk_from-requires-clause-known c = stored_known c.new-desk.result c.add.new.self c.fail.new.self _ c.args.file.now c.in_ok-add.ensures.ok
    (ap (λ (m : DeskMemory). m.files) c.in_ok-fail.ensures.ok ∙ ap (λ (m : DeskMemory). m.files) c.cut.ensures)

pub walk_from-requires-clause-begins : goal.walk_from-requires-clause-begins
walk_from-requires-clause-begins c = stored_bytes c.new-desk.result c.add.new.self c.fail.new.self _ c.args.file.now c.in_ok-add.ensures.ok
    (ap (λ (m : DeskMemory). m.files) c.in_ok-fail.ensures.ok ∙ ap (λ (m : DeskMemory). m.files) c.cut.ensures) c.requires.begins
