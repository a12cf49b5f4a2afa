use Rattle.std.proofs.Common.{◌∙◌, ◌++◌, ◌∷◌, [], List, ℕ, None, ap, sym, arith}
use Rattle.std.specs.declared.option.Option.{Option}
use Rattle.xmp_base.proofs.Fresh.{unknown_more, unknown_none, is_fresh}
use Rattle.xmp_base.proofs.file_desk.FileDesk.new.Goals.{in-Some+in_ok-push_name, in_default}
use Rattle.xmp_base.proofs.file_desk.FileDesk.new.Goals as goal

pub loop-i-preserved : goal.loop-i-preserved
loop-i-preserved g c = elim c.match-get.branch [
  | in-Some+in_ok-push_name w ↦ rw w.names-is (w.in_ok-push_name.ensures
      ∙ ap (λ (l : List (List ℕ × Option ℕ)). l ++ (w.in-Some.word.now, None) ∷ []) c.loop-i.invariant ∙ sym (unknown_more _ _ _ w.in-Some.ensures))
  | in_default w ↦ absurd (unknown_none c.args.words.now c.loop-i.i (omega arith) w.in_default.ensures)
]

pub returns : goal.returns
returns g c = is_fresh _ _ _ c.loop-i.invariant (omega arith)
