use Rattle.std.proofs.Common.{◌∙◌, ◌+◌, true, false, drop, sym, ap}
use Rattle.xmp_paths.proofs.Collected.{after}
use Rattle.xmp_edit.specs.Lines.{unescaped_from}
use Rattle.xmp_edit.proofs.Escapes.{escape_more, escape_begins, plain_more}
use Rattle.xmp_edit.proofs.words.unescaped.Goals as goal
use Rattle.xmp_edit.proofs.words.unescaped.Goals.{then-is_escape+in-Some+in_ok-push, else-is_escape+then-byte-eq92, else-is_escape+else-byte-eq92+in_ok-push-2}

pub loop-byte-preserved : goal.loop-byte-preserved
loop-byte-preserved c =
    elim c.if-is_escape.branch [
      | then-is_escape+in-Some+in_ok-push w ↦
          ap (λ e. after c.if-is_escape.bytes (unescaped_from e (drop (c.loop-byte.byte-index + 1) c.args.text.now))) w.is_escape-is
          ∙ ap (λ bs. after bs (unescaped_from false (drop (c.loop-byte.byte-index + 1) c.args.text.now))) (w.bytes-is ∙ w.in_ok-push.ensures.ok)
          ∙ sym (escape_more c.args.text.now c.loop-byte.byte-index c.loop-byte-test.true c.loop-byte.bytes w.in-Some.told (sym w.escape_of.ensures ∙ w.in-Some.is))
          ∙ ap (λ e. after c.loop-byte.bytes (unescaped_from e (drop c.loop-byte.byte-index c.args.text.now))) (sym w.if-is_escape.true) ∙ c.loop-byte.invariant
      | else-is_escape+then-byte-eq92 w ↦
          ap (λ e. after c.if-is_escape.bytes (unescaped_from e (drop (c.loop-byte.byte-index + 1) c.args.text.now))) w.is_escape-is
          ∙ ap (λ bs. after bs (unescaped_from true (drop (c.loop-byte.byte-index + 1) c.args.text.now))) w.bytes-is
          ∙ sym (escape_begins c.args.text.now c.loop-byte.byte-index c.loop-byte-test.true c.loop-byte.bytes w.if-byte-eq92.true)
          ∙ ap (λ e. after c.loop-byte.bytes (unescaped_from e (drop c.loop-byte.byte-index c.args.text.now))) (sym w.if-is_escape.false) ∙ c.loop-byte.invariant
      | else-is_escape+else-byte-eq92+in_ok-push-2 w ↦
          ap (λ e. after c.if-is_escape.bytes (unescaped_from e (drop (c.loop-byte.byte-index + 1) c.args.text.now))) (w.is_escape-is ∙ w.if-is_escape.false)
          ∙ ap (λ bs. after bs (unescaped_from false (drop (c.loop-byte.byte-index + 1) c.args.text.now))) (w.bytes-is ∙ w.in_ok-push-2.ensures.ok)
          ∙ sym (plain_more c.args.text.now c.loop-byte.byte-index c.loop-byte-test.true c.loop-byte.bytes w.if-byte-eq92.false)
          ∙ ap (λ e. after c.loop-byte.bytes (unescaped_from e (drop c.loop-byte.byte-index c.args.text.now))) (sym w.if-is_escape.false) ∙ c.loop-byte.invariant
    ]
