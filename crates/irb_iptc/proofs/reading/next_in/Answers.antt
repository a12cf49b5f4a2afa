use Rattle.std.proofs.Common.{length, drop, sym, ap, arith}
use Rattle.std.proofs.lemmas.List.{length-drop, take_rest}
use Rattle.irb_iptc.proofs.Pieces.{front_piece, piece_after}
use Rattle.irb_iptc.proofs.reading.next_in.Goals as goal

pub returns-in-End-clause-is : goal.returns-in-End-clause-is
returns-in-End-clause-is c =
    c.in-End.ensures.is (drop c.args.start c.args.bytes.now) (ap length (sym (take_rest c.args.bytes.now c.args.start))) (rw c.min.ensures (front_piece 7 c.args.start c.args.bytes.now))

pub returns-in-Cut-clause-is : goal.returns-in-Cut-clause-is
returns-in-Cut-clause-is c =
    c.in-Cut.ensures.is (drop c.args.start c.args.bytes.now) (ap length (sym (take_rest c.args.bytes.now c.args.start))) (rw c.min.ensures (front_piece 7 c.args.start c.args.bytes.now))

pub returns-in-Some-clause-further : goal.returns-in-Some-clause-further
returns-in-Some-clause-further c = let w = c.in-Some.ensures.within in (w.0, omega (arith, w.1), w.2)

pub returns-in-Some-clause-is : goal.returns-in-Some-clause-is
returns-in-Some-clause-is c =
    let bytes = c.args.bytes.now in
    let start = c.args.start in
    let named = c.in-Named.ensures.is (drop start bytes) (ap length (sym (take_rest bytes start))) (rw c.min.ensures (front_piece 7 start bytes)) in
    c.in-Some.ensures.is (drop start bytes) (omega (arith, length-drop start bytes)) named (piece_after 4 c.in-Named.size_at start bytes)

pub returns-in-None-clause-is : goal.returns-in-None-clause-is
returns-in-None-clause-is c =
    let bytes = c.args.bytes.now in
    let start = c.args.start in
    let named = c.in-Named.ensures.is (drop start bytes) (ap length (sym (take_rest bytes start))) (rw c.min.ensures (front_piece 7 start bytes)) in
    c.in-None.ensures.is (drop start bytes) (omega (arith, length-drop start bytes)) named (piece_after 4 c.in-Named.size_at start bytes)
