use Rattle.std.proofs.Common.{◌+◌, ◌≤◌, inl, inr, length, arith}
use Rattle.std.proofs.lemmas.List.Elements.{All-same, All-push}
use Rattle.tiff_dirs.specs.Kept.{Holds}
use Rattle.tiff_dirs.proofs.Gathered.{covers_more, in_more}
use Rattle.tiff_dirs.proofs.pieces.keep.Goals.{in-Ok, in-Err}
use Rattle.tiff_dirs.proofs.pieces.keep.Goals as goal

pub returns-clause-holds : goal.returns-clause-holds
returns-clause-holds c =
    elim c.match-push.branch [
      | in-Ok w ↦ rw w.result-is (λ file part all.
          let a = c.piece_at-run.ensures.holds file all in
          let b = c.in_ok-append.ensures.holds file a.0 part in
          let d = c.in_ok-absorb.ensures.holds file b a.1 in
          All-same (Holds file) c.push.new.self.items _ w.in-Ok.ensures.items (All-push (Holds file) c.absorb.new.pieces.items c.absorb.new.run d.1 d.0))
      | in-Err w ↦ rw w.result-is tt
    ]

pub returns-clause-kept : goal.returns-clause-kept
returns-clause-kept c =
    let from = c.args.start in
    let to = c.args.start + length c.args.bytes.now in
    let begins : c.append.new.self.start ≤ from = (let b = c.piece_at-run.ensures.begins in let s = c.in_ok-append.ensures.start in omega (arith, b, s)) in
    elim c.match-push.branch [
      | in-Ok w ↦ rw w.result-is
          (in_more c.absorb.new.pieces.items c.push.new.self.items c.absorb.new.run from to w.in-Ok.ensures.items (inr (c.in_ok-absorb.ensures.run from to (begins, c.in_ok-append.ensures.all))))
      | in-Err w ↦ rw w.result-is tt
    ]

pub returns-clause-old : goal.returns-clause-old
returns-clause-old c =
    let had = c.piece_at-run.result in
    let run = c.append.new.self in
    let start = c.in_ok-append.ensures.start in
    let longer = c.in_ok-append.ensures.longer in
    let ends : had.start + length had.bytes.items ≤ run.start + length run.bytes.items = omega (arith, start, longer) in
    let begins : run.start ≤ had.start = omega (arith, start) in
    elim c.match-push.branch [
      | in-Ok w ↦ rw w.result-is (λ from to i.
          in_more c.absorb.new.pieces.items c.push.new.self.items c.absorb.new.run from to w.in-Ok.ensures.items
          (elim (c.piece_at-run.ensures.inside from to i) [
            | inl h ↦ c.in_ok-absorb.ensures.inside from to h
            | inr h ↦ inr (c.in_ok-absorb.ensures.run from to (covers_more had run from to begins ends h))
          ]))
      | in-Err w ↦ rw w.result-is tt
    ]
