use Rattle.std.proofs.Common.{arith, refl}
use Rattle.xmp_base.specs.Device.{bytes_of}
use Rattle.tiff_dirs.proofs.Sizes.{header_least, short_fault}
use Rattle.tiff_dirs.proofs.Walks.{walk_none}
use Rattle.tiff_dirs.proofs.walk.Dirs.walk_known.Goals as goal

pub returns-then-len-lt8 : goal.returns-then-len-lt8
returns-then-len-lt8 g c = record {
  call = record {
    calls = walk_none (g.D.Desk.state c.args.desk.now) c.args.name.now;
    lens = refl;
    told = λ files told.
        let file = bytes_of files c.args.name.now in
        let size = c.requires.told files told in
        let least = header_least file in
        let short = c.if-len-lt8.true in
        short_fault file (omega (arith, size, least, short));
    device = λ e. absurd (cc);
  };
}
