use Rattle.std.proofs.Common.{◌-◌, ◌≤◌, map}
use Rattle.xmp_base.specs.Device.{Told, bytes_of}
use Rattle.irb_iptc.specs.Listing.{Follow}
use Rattle.irb_iptc.specs.Reading.{Underway, place_of}
use Rattle.irb_iptc.specs.Scanning.{ScanReads, range_of}
use Rattle.irb_iptc.proofs.list.Resources.scan.Given as goal

abbrev pub invariant-next : goal.invariant-next
invariant-next g l =
    let old = g.D.Desk.state l.initial.desk in
    let new = g.D.Desk.state l.desk in
    record {
      calls : ScanReads old new l.name l.at l.end;
      order : l.at ≤ l.start;
      within : l.start ≤ l.end;
      follow : Follow l.at l.start (map place_of l.blocks.items);
      so_far : Told old.files (λ files. Underway (range_of (bytes_of files l.name) l.at l.end) l.at l.blocks.items l.start);
    }

abbrev pub decreases-next : goal.decreases-next
decreases-next g l = l.end - l.start
