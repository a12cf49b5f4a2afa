use Rattle.xmp_base.proofs.OnFiles.{found_at, len_is, lens_same, read_told, read_none, read_failed}
use Rattle.xmp_base.proofs.file_desk.FileDeskDesk.read_at.Goals as goal
use Rattle.std.proofs.Common.{refl, arith, ◌≤◌, ◌≡◌, length}
use Rattle.std.proofs.lemmas.List.{length-take-le}

pub returns-then-room-eq0 : goal.returns-then-room-eq0
returns-then-room-eq0 g c = let found = found_at _ _ _ _ c.in-Some.ensures c.index_mut-known.ensures.value in record {
  call = read_none _ _ _ _ _ _ c.min-room.result c.unwrap_or-len.result _ (lens_same _ _ _ _ _ found refl) (len_is _ _ _ _ _ found c.unwrap_or-len.ensures) (omega arith) c.if-room-eq0.true;
}

pub returns-in-Ok : goal.returns-in-Ok
returns-in-Ok g c =
    let found = found_at _ _ _ _ c.in-Some.ensures c.index_mut-known.ensures.value in
    let within : c.min-room.result ≤ length c.args.to.now = omega arith in
    let size : length c.read_at.new.to ≡ c.min-room.result = omega (arith, c.read_at.auto.to, length-take-le c.min-room.result c.args.to.now within) in
    let most : c.in-Ok.count ≤ c.min-room.result = omega (arith, c.in-Ok.ensures.count.1, size) in
    record {
      call = read_told _ _ _ _ _ _ c.min-room.result c.unwrap_or-len.result _ _ _ (lens_same _ _ _ _ _ found c.read_at.ensures.same) (len_is _ _ _ _ _ found c.unwrap_or-len.ensures) (omega arith) size most (λ some. c.in-Ok.ensures.count.0);
    }

pub returns-in-Err : goal.returns-in-Err
returns-in-Err g c = let found = found_at _ _ _ _ c.in-Some.ensures c.index_mut-known.ensures.value in rw c.fault-in-Err.ensures.counted (record {
  call = read_failed _ _ _ _ _ _ _ _ (lens_same _ _ _ _ _ found c.read_at.ensures.same) c.fault-in-Err.ensures.fits;
})
