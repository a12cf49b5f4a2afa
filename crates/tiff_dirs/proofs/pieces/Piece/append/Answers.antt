use Rattle.std.proofs.Common.{ℕ, ◌-◌, ◌++◌, List, sym, ap, subst, ◌∙◌, arith}
use Rattle.std.proofs.lemmas.List.{take_rest}
use Rattle.tiff_dirs.specs.Parts.{IsPart}
use Rattle.tiff_dirs.proofs.Kept.{parts_join}
use Rattle.tiff_dirs.proofs.pieces.Piece.append.Goals as goal

pub returns-in_ok-extend-clause-holds : goal.returns-in_ok-extend-clause-holds
returns-in_ok-extend-clause-holds c = λ file a b.
    let one = c.args.self.now in
    let two = c.args.bytes.now in
    let known = c.len.result - (c.args.start - one.start) in
    let size = c.len.ensures in
    let less = c.if-known-bytes.true in
    let begins = c.requires.begins in
    let touches = c.requires.touches in
    subst (λ (t : List ℕ). IsPart t one.start file) (sym (c.in_ok-extend.ensures ∙ ap (λ (t : List ℕ). one.bytes.items ++ t) (take_rest two known)))
    (parts_join file one.bytes.items two one.start c.args.start known a b begins (omega (arith, begins, touches, size)) (omega (arith, less)))
