-- How what is kept of a file is seen by contracts.
use Rattle.std.specs.Option.{option_map}
use Rattle.xmp_files.specs.declared.held.Need.{Need}
use Rattle.xmp_files.specs.declared.held.MainPacket.{MainPacket}
use Rattle.xmp_files.specs.declared.held.Contents.{Contents}
use Rattle.xmp_files.specs.declared.held.Contents.TheVariants.{Sidecar, Photograph, Image}
use Rattle.xmp_files.specs.Keeping.{Piece, Kept, sidecar, photograph, image}

abbrev pub piece_of : MainPacket → Piece
piece_of part = record { at = part.at; bytes = part.bytes }

abbrev pub kept_of : Need → Contents → Kept
kept_of need (Sidecar bytes) = sidecar need bytes
kept_of need (Photograph size regions packet extended) = photograph need size regions (option_map piece_of packet) extended.portions.items extended.joined
kept_of need (Image size dirs packet) = image need size dirs (option_map piece_of packet)
