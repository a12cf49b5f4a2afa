use Rattle.std.proofs.Common.{ℕ, ◌+◌, ◌-◌, ◌*◌, List, Some, length, sym, ap, ◌∙◌, arith}
use Rattle.tiff_dirs.specs.Kept.{shown}
use Rattle.tiff_dirs.specs.Parts.{entry_in}
use Rattle.tiff_dirs.specs.Tiff.{Tiff}
use Rattle.tiff_dirs.proofs.Kept.{entry_is, entry_inside}
use Rattle.tiff_dirs.proofs.walk.Dirs.entry.Goals as goal

pub overflow_add-first : goal.overflow_add-first
overflow_add-first c =
    let s = c.self.inside in
    let h = entry_inside c.args.self.now.dirs s.layout s.len s.pieces.items s.found.items (ap (λ (t : Tiff). t.dirs) c.self.view_is) c.self.invariant.2 c.args.dir c.index-found.result.now c.requires.dir c.index-found.ensures c.index-piece.result.now c.index-piece.ensures c.args.i c.requires.within in
    let len = c.self.invariant.0 in
    let a = h.3 in
    omega (arith, a, len)

pub overflow_sub-first : goal.overflow_sub-first
overflow_sub-first c =
    let s = c.self.inside in
    let h = entry_inside c.args.self.now.dirs s.layout s.len s.pieces.items s.found.items (ap (λ (t : Tiff). t.dirs) c.self.view_is) c.self.invariant.2 c.args.dir c.index-found.result.now c.requires.dir c.index-found.ensures c.index-piece.result.now c.index-piece.ensures c.args.i c.requires.within in
    let len = c.self.invariant.0 in
    h.1

pub overflow_mul-layout : goal.overflow_mul-layout
overflow_mul-layout c =
    let s = c.self.inside in
    let h = entry_inside c.args.self.now.dirs s.layout s.len s.pieces.items s.found.items (ap (λ (t : Tiff). t.dirs) c.self.view_is) c.self.invariant.2 c.args.dir c.index-found.result.now c.requires.dir c.index-found.ensures c.index-piece.result.now c.index-piece.ensures c.args.i c.requires.within in
    let len = c.self.invariant.0 in
    let a = h.4 in
    omega (arith, a, len)

pub overflow_add-first-2 : goal.overflow_add-first-2
overflow_add-first-2 c =
    let s = c.self.inside in
    let h = entry_inside c.args.self.now.dirs s.layout s.len s.pieces.items s.found.items (ap (λ (t : Tiff). t.dirs) c.self.view_is) c.self.invariant.2 c.args.dir c.index-found.result.now c.requires.dir c.index-found.ensures c.index-piece.result.now c.index-piece.ensures c.args.i c.requires.within in
    let len = c.self.invariant.0 in
    let a = h.5 in
    omega (arith, a, len)

pub shown-requires-clause-inside : goal.shown-requires-clause-inside
shown-requires-clause-inside c =
    let s = c.self.inside in
    let h = entry_inside c.args.self.now.dirs s.layout s.len s.pieces.items s.found.items (ap (λ (t : Tiff). t.dirs) c.self.view_is) c.self.invariant.2 c.args.dir c.index-found.result.now c.requires.dir c.index-found.ensures c.index-piece.result.now c.index-piece.ensures c.args.i c.requires.within in
    let len = c.self.invariant.0 in
    let a = h.0 in
    let size = ap length c.as_slice.ensures.value in
    omega (arith, a, size)

pub shown-requires-clause-within : goal.shown-requires-clause-within
shown-requires-clause-within c =
    let s = c.self.inside in
    let h = entry_inside c.args.self.now.dirs s.layout s.len s.pieces.items s.found.items (ap (λ (t : Tiff). t.dirs) c.self.view_is) c.self.invariant.2 c.args.dir c.index-found.result.now c.requires.dir c.index-found.ensures c.index-piece.result.now c.index-piece.ensures c.args.i c.requires.within in
    let len = c.self.invariant.0 in
    let a = h.2 in
    let size = ap length c.as_slice.ensures.value in
    omega (arith, a, size)

pub returns : goal.returns
returns c =
    let s = c.self.inside in
    let p = c.index-piece.result.now in
    let first = c.index-found.result.now.place.at + s.layout.count - p.start in
    entry_is c.args.self.now.dirs s.layout s.len s.pieces.items s.found.items (ap (λ (t : Tiff). t.dirs) c.self.view_is) c.self.invariant.2 c.args.dir c.index-found.result.now c.requires.dir c.index-found.ensures p c.index-piece.ensures c.args.i c.requires.within
    ∙ ap (λ (b : List ℕ). Some (shown s.layout s.len (entry_in s.layout p.start b (first + s.layout.entry * c.args.i)))) (sym c.as_slice.ensures.value)
    ∙ ap Some (sym c.shown.ensures)
