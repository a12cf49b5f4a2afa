-- The bytes that a reader of regions wants next.
use Rattle.std.specs.Prelude.{ℕ, min}
use Rattle.jpeg_regions.specs.declared.reading.Wants.{Wants}
use Rattle.jpeg_regions.specs.declared.reading.Wants.TheVariants.{Start, Marker, Length, Payload}
use Rattle.jpeg_regions.specs.Kinds.{front_len}

-- how many bytes, where the file has them
abbrev pub count_of : Wants → ℕ
count_of Start = 2
count_of Marker = 1
count_of (Length marker) = 2
count_of (Payload marker len) = min (front_len marker) len

-- how many bytes of the file are known to follow: a payload's
abbrev pub payload_of : Wants → ℕ
payload_of Start = 0
payload_of Marker = 0
payload_of (Length marker) = 0
payload_of (Payload marker len) = len

-- how many bytes of the region have been read at least
abbrev pub least_of : Wants → ℕ
least_of Start = 0
least_of Marker = 1
least_of (Length marker) = 1
least_of (Payload marker len) = 1
