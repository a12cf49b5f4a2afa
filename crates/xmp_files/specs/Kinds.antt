-- Which kind a file is, by its first 16 bytes.
use Rattle.std.specs.Prelude.{ℕ, nat_eq, ◌&&◌, ◌||◌, Bool, if◌then◌else◌, List, [], ◌∷◌, ◌++◌, take, drop, codes, Option, None, Some}
use Rattle.std.specs.List.{starts_with, prefix_len}
use Rattle.xmp_values.specs.Characters.{is_blank}
use Rattle.xmp_files.specs.declared.kinds.Kind.{Kind}
use Rattle.xmp_files.specs.declared.kinds.Kind.TheVariants.{Jpeg, Tiff, BigTiff, WebP, Psd, Sidecar}

abbrev pub begins : List ℕ → List ℕ → Bool
begins head signature = starts_with nat_eq head signature

-- the start of an image (ISO 10918-1, table B.1)
abbrev pub is_jpeg : List ℕ → Bool
is_jpeg head = begins head (0xFF ∷ 0xD8 ∷ [])

-- a byte order, and the number 42 in it (TIFF 6.0, section 2)
abbrev pub is_tiff : List ℕ → Bool
is_tiff head = begins head (codes "II" ++ 0x2A ∷ 0x00 ∷ []) || begins head (codes "MM" ++ 0x00 ∷ 0x2A ∷ [])

-- a byte order, and the number 43 in it
abbrev pub is_big_tiff : List ℕ → Bool
is_big_tiff head = begins head (codes "II" ++ 0x2B ∷ 0x00 ∷ []) || begins head (codes "MM" ++ 0x00 ∷ 0x2B ∷ [])

-- a BigTIFF file that says next that its offsets have 8 bytes, and after it that 2 zero bytes follow
abbrev pub has_long_offsets : List ℕ → Bool
has_long_offsets head =
    begins head (codes "II" ++ 0x2B ∷ 0x00 ∷ 0x08 ∷ 0x00 ∷ 0x00 ∷ 0x00 ∷ []) || begins head (codes "MM" ++ 0x00 ∷ 0x2B ∷ 0x00 ∷ 0x08 ∷ 0x00 ∷ 0x00 ∷ [])

-- a RIFF file whose form is WebP: the form stands after the file's size
abbrev pub is_webp : List ℕ → Bool
is_webp head = begins head (codes "RIFF") && begins (drop 8 head) (codes "WEBP")

-- a Photoshop file: version 1, or version 2 for large documents
abbrev pub is_psd : List ℕ → Bool
is_psd head = begins head (codes "8BPS" ++ 0x00 ∷ 0x01 ∷ []) || begins head (codes "8BPS" ++ 0x00 ∷ 0x02 ∷ [])

-- the byte order mark of UTF-16
abbrev pub is_utf16 : List ℕ → Bool
is_utf16 head = begins head (0xFE ∷ 0xFF ∷ []) || begins head (0xFF ∷ 0xFE ∷ [])

-- the byte order mark of UTF-8
abbrev pub utf8_mark : List ℕ
utf8_mark = 0xEF ∷ 0xBB ∷ 0xBF ∷ []

abbrev pub without_mark : List ℕ → List ℕ
without_mark head = if begins head utf8_mark then drop 3 head else head

-- after any white space stands `<`
abbrev pub is_markup : List ℕ → Bool
is_markup text = begins (drop (prefix_len is_blank text) text) (codes "<")

-- a text of XML: in UTF-16, which is refused later, or one whose markup has begun
abbrev pub is_sidecar : List ℕ → Bool
is_sidecar head = is_utf16 head || is_markup (without_mark head)

-- the kind of a file that has these first bytes
abbrev pub kind_of_head : List ℕ → Option Kind
kind_of_head head =
    if is_jpeg head then Some Jpeg
    else if is_tiff head then Some Tiff
    else if is_big_tiff head then Some BigTiff
    else if is_webp head then Some WebP
    else if is_psd head then Some Psd
    else if is_sidecar head then Some Sidecar
    else None

-- the kind of a file
abbrev pub kind_of : List ℕ → Option Kind
kind_of file = kind_of_head (take 16 file)
