use Rattle.tiff_dirs.proofs.Standing.{table_within, entry_stands}
use Rattle.tiff_dirs.proofs.InPlace.{packet_in_place}
use Rattle.tiff_dirs.proofs.values.values_stand.Goals as goal

pub returns : goal.returns
returns c = record { tables = table_within; entries = entry_stands; packet = packet_in_place }
