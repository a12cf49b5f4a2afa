use Rattle.std.proofs.Common.{◌≡◌, ◌∙◌, ap, subst, refl, ℕ, List, IsTrue}
use Rattle.std.specs.Prelude.{codes}
use Rattle.std.specs.FinMap.{empty, insert, contains_key}
use Rattle.xmp_base.proofs.Names.{get-insert_same}
use Rattle.xmp_base.specs.Device.{Lens}
use Rattle.xmp_base.specs.Sparse.{SparseFile}
use Rattle.jpeg_regions.proofs.tests.cut_sparse.Goals as goal

known_itself : (name : List ℕ) (size : ℕ) → let lens : Lens = insert empty name size in IsTrue (contains_key lens name)
known_itself name size = let lens : Lens = empty in rw (get-insert_same lens name size) refl

known_as : (held name : List ℕ) (size : ℕ) → held ≡ name → let lens : Lens = insert empty held size in IsTrue (contains_key lens name)
known_as held name size e = subst (λ (n : List ℕ). let lens : Lens = insert empty held size in IsTrue (contains_key lens n)) e (known_itself held size)

pub cut_from-requires-clause-known : goal.cut_from-requires-clause-known
cut_from-requires-clause-known c =
    known_as c.piece-2.new.self.name (codes "a.jpg") c.piece-2.new.self.size
    (ap (λ (d : SparseFile). d.name) c.in_ok-piece-2.ensures.ok ∙ ap (λ (d : SparseFile). d.name) c.in_ok-piece.ensures.ok
    ∙ ap (λ (d : SparseFile). d.name) c.in_ok-desk.ensures)
