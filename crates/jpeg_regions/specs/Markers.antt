-- The second bytes of markers (ISO 10918-1, table B.1).
use Rattle.std.specs.Prelude.{ℕ, ◌==◌, nat_le, ◌&&◌, ◌||◌, if◌then◌else◌}
use Rattle.jpeg_regions.specs.declared.marker.Class.{Class}
use Rattle.jpeg_regions.specs.declared.marker.Class.TheVariants.{Fill, Refused, Single, Last, Sized}

-- FF is a fill byte (B.1.1.2). 00 follows a data byte FF, and D8 begins an image. TEM and the restarts have no length.
-- The first scan (DA) and the end of the image (D9) begin the tail. All else has a length (B.1.1.4).
abbrev pub class_of : ℕ → Class
class_of marker =
    if marker == 0xFF then Fill
    else if marker == 0x00 || marker == 0xD8 then Refused
    else if marker == 0x01 || (nat_le 0xD0 marker && nat_le marker 0xD7) then Single
    else if marker == 0xD9 || marker == 0xDA then Last
    else Sized
