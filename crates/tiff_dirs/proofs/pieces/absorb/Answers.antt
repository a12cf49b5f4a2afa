use Rattle.std.proofs.Common.{◌+◌, ◌≤◌, List, ℕ, length, sym, ap, subst, inl, inr, arith}
use Rattle.tiff_dirs.specs.declared.pieces.Piece.{Piece}
use Rattle.tiff_dirs.specs.Parts.{IsPart}
use Rattle.tiff_dirs.specs.Kept.{Holds, InPiece}
use Rattle.tiff_dirs.proofs.Gathered.{covers_more}
use Rattle.tiff_dirs.proofs.pieces.absorb.Goals as goal

pub loop-preserved : goal.loop-preserved
loop-preserved c =
    let inv = c.loop.invariant in
    let run = c.loop.run in
    let p = c.in-Some.piece in
    let new = c.append.new.self in
    let e = c.in_ok-append.ensures in
    let start = e.start in
    let longer = e.longer in
    let begins = c.in-Some.ensures.begins in
    let all : p.start + length p.bytes.items ≤ new.start + length new.bytes.items = (let a = e.all in let size = ap length c.as_slice.ensures.value in omega (arith, a, size)) in
    record {
      holds = λ file a b.
          let k = inv.holds file a b in
          let t = c.in-Some.ensures.holds file k.1 in
          (e.holds file k.0 (subst (λ (bytes : List ℕ). IsPart bytes p.start file) (sym c.as_slice.ensures.value) t.0), t.1);
      run = λ from to h. covers_more run new from to (omega (arith, start)) (omega (arith, start, longer)) (inv.run from to h);
      inside = λ from to h.
          elim (inv.inside from to h) [
            | inr i ↦ inr (covers_more run new from to (omega (arith, start)) (omega (arith, start, longer)) i)
            | inl i ↦ elim (c.in-Some.ensures.inside from to i) [
              | inl j ↦ inl j
              | inr j ↦ inr (covers_more p new from to (omega (arith, start, begins)) all j)
            ]
          ];
    }

pub returns-in_default-clause-inside : goal.returns-in_default-clause-inside
returns-in_default-clause-inside c = λ from to i.
    elim (c.loop.invariant.inside from to i) [
      | inl h ↦ inl (subst (λ (ps : List Piece). InPiece ps from to) (sym (c.short_after.ensures.none c.in_default.is)) h)
      | inr h ↦ inr h
    ]
