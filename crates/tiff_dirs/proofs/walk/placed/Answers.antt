use Rattle.std.proofs.lemmas.List.Elements.{All-same, All-push}
use Rattle.tiff_dirs.specs.Kept.{IsPlaced}
use Rattle.tiff_dirs.proofs.Kept.{places_more}
use Rattle.tiff_dirs.proofs.walk.placed.Goals as goal

pub loop-place-preserved : goal.loop-place-preserved
loop-place-preserved c =
    let P = IsPlaced c.args.layout c.args.len c.args.pieces.now in
    let inv = c.loop-place.invariant in
    let found = c.loop-place.found.items in
    let d = c.in-Some.directory in
    record {
      places = places_more found d c.push.new.self.items c.args.reached.now c.loop-place.place-index _ c.loop-place-test.true inv.places c.in-Ok.ensures.items c.in-Some.ensures.place;
      placed = All-same P c.push.new.self.items _ c.in-Ok.ensures.items (All-push P found d inv.placed c.in-Some.ensures.piece);
    }
