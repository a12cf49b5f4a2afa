use Rattle.std.proofs.Common.{◌≡◌, ◌≤◌, ◌*◌, ap, arith}
use native.Mathlib.Nat.{mul-le-mul_left}
use Rattle.tiff_dirs.specs.Types.{size_of}
use Rattle.tiff_dirs.proofs.Loads.{items_loaded}
use Rattle.tiff_dirs.proofs.loading.load_items.Goals as goal

pub overflow_mul-width : goal.overflow_mul-width
overflow_mul-width g c =
    let size = size_of c.args.layout c.args.entry.now.code in
    let product : size * c.args.count ≤ size * c.args.entry.now.count = mul-le-mul_left size c.requires.most in
    let same : c.size_of-width.result * c.args.count ≡ size * c.args.count = ap (λ w. w * c.args.count) c.size_of-width.ensures.is in
    let room = c.requires.lies.room in
    omega (arith, product, same, room)

pub load-requires : goal.load-requires
load-requires g c =
    let size = size_of c.args.layout c.args.entry.now.code in
    let product : size * c.args.count ≤ size * c.args.entry.now.count = mul-le-mul_left size c.requires.most in
    let same : c.size_of-width.result * c.args.count ≡ size * c.args.count = ap (λ w. w * c.args.count) c.size_of-width.ensures.is in
    let room = c.requires.lies.room in
    let len = c.requires.len in
    record {
      known = c.requires.known;
      within = omega (arith, product, same, room, len);
      fits = omega (arith, product, same, room);
      near = c.requires.part;
    }

pub returns : goal.returns
returns g c = record {
  call = items_loaded c.args.layout c.args.entry.now c.args.count c.size_of-width.result c.args.part.now.len (g.D.Desk.state c.args.desk.now) (g.D.Desk.state c.load.new.desk) c.args.name.now
      c.load.result c.requires.lies c.requires.most c.size_of-width.ensures.is c.load.ensures.call;
}
