use Rattle.std.proofs.Common.{◌≡◌, true, nat_eq, sym, ap, ◌∙◌, arith}
use Rattle.std.proofs.lemmas.List.{take_rest}
use Rattle.byteorder.specs.Endian.{big_number}
use Rattle.std.specs.List.{starts_with}
use Rattle.irb_iptc.specs.Resources.{signature}
use Rattle.irb_iptc.proofs.Heads.{cut_in_front, cut_in_name, named_here}
use Rattle.irb_iptc.proofs.head.head_of.Goals as goal

pub returns-then-piece-lt7-clause-is : goal.returns-then-piece-lt7-clause-is
returns-then-piece-lt7-clause-is c = λ rest size read.
    let signed : starts_with nat_eq c.args.piece.now signature ≡ true = sym c.starts_with.ensures.value ∙ c.if-not-starts_with.false in
    cut_in_front rest c.args.piece.now read signed c.if-piece-lt7.true

pub returns-then-left-size_at-clause-is : goal.returns-then-left-size_at-clause-is
returns-then-left-size_at-clause-is c = λ rest size read.
    let signed : starts_with nat_eq c.args.piece.now signature ≡ true = sym c.starts_with.ensures.value ∙ c.if-not-starts_with.false in
    cut_in_name rest c.args.piece.now read signed c.if-piece-lt7.false (omega (arith, size))

pub returns-else-left-size_at-clause-is : goal.returns-else-left-size_at-clause-is
returns-else-left-size_at-clause-is c = λ rest size read.
    let signed : starts_with nat_eq c.args.piece.now signature ≡ true = sym c.starts_with.ensures.value ∙ c.if-not-starts_with.false in
    rw (c.name_room-size_at.ensures) (named_here rest c.args.piece.now read signed c.if-piece-lt7.false c.read_u16.result (c.read_u16.ensures ∙ ap (big_number 2) (take_rest c.args.piece.now 4)) (omega (arith, size)))
