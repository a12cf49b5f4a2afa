-- The tags that are read (TIFF 6.0, section 8; Exif 2.31, tables 4 and 8), each in one of two directories.
use Rattle.std.specs.Prelude.{ℕ, ◌==◌, ◌||◌, Bool, if◌then◌else◌}

-- ImageDescription, DateTime, Artist, Copyright
abbrev pub is_first_tag : ℕ → Bool
is_first_tag tag = tag == 0x010E || tag == 0x0132 || tag == 0x013B || tag == 0x8298

-- DateTimeOriginal and DateTimeDigitized; OffsetTime, -Original, -Digitized; SubSecTime, -Original, -Digitized
abbrev pub is_exif_tag : ℕ → Bool
is_exif_tag tag =
    tag == 0x9003 || tag == 0x9004 || tag == 0x9010 || tag == 0x9011 || tag == 0x9012
    || tag == 0x9290 || tag == 0x9291 || tag == 0x9292

-- the tags of the first directory, or of the Exif directory
abbrev pub is_tag_in : Bool → ℕ → Bool
is_tag_in exif tag = if exif then is_exif_tag tag else is_first_tag tag

unfoldable pub is_tag : ℕ → Bool
is_tag tag = is_first_tag tag || is_exif_tag tag
