use Rattle.std.proofs.Common.{◌≡◌, ◌+◌, ◌-◌, take, drop, subst, arith, MatchResult}
use Rattle.tiff_dirs.specs.declared.stop.WalkStop.TheVariants.{Memory}
use Rattle.tiff_dirs.proofs.Loads.{load_copied}
use Rattle.tiff_dirs.proofs.loading.load.Goals as goal

pub returns-then-len-there : goal.returns-then-len-there
returns-then-len-there g c =
    let near = c.args.near.now.bytes.now in
    let at = c.args.near.now.start in
    let start = c.args.start in
    let len = c.args.len in
    let k : start - at + len - (start - at) ≡ len = omega arith in
    record {
      call = load_copied (g.D.Desk.state c.args.desk.now) c.args.name.now near at start len (start - at) c.copy.result (omega arith) (omega arith) c.requires.near
          (subst (λ n. MatchResult c.copy.result (λ copy. copy ≡ take n (drop (start - at) near)) (λ stop. stop ≡ Memory)) k c.copy.ensures);
    }
