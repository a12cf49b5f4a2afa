-- The kinds of segments with a length, by marker and payload.
use Rattle.std.specs.Prelude.{ℕ, ◌==◌, nat_eq, nat_le, ◌&&◌, Bool, if◌then◌else◌, List, [], ◌∷◌, ◌++◌, length, take, drop, codes}
use Rattle.std.specs.List.{starts_with, list_all}
use Rattle.xmp_values.specs.Digits.{is_digit}
use Rattle.jpeg_regions.specs.declared.kind.RegionKind.{RegionKind}
use Rattle.jpeg_regions.specs.declared.kind.RegionKind.TheVariants.{Main, Portion, Exif, Resources, Mpf, App0, Other}

-- the main packet (XMP Part 3, section 1.1.3)
abbrev pub packet_signature : List ℕ
packet_signature = codes "http://ns.adobe.com/xap/1.0/" ++ 0 ∷ []

-- an extended text (XMP Part 3, section 1.1.3.1)
abbrev pub portion_signature : List ℕ
portion_signature = codes "http://ns.adobe.com/xmp/extension/" ++ 0 ∷ []

-- Exif (CIPA DC-008, 4.5.4): one more byte follows
abbrev pub exif_signature : List ℕ
exif_signature = codes "Exif" ++ 0 ∷ []

-- Photoshop image resources (XMP Part 3, section 1.1.3)
abbrev pub resources_signature : List ℕ
resources_signature = codes "Photoshop 3.0" ++ 0 ∷ []

-- multi-picture files (CIPA DC-007, 5.2)
abbrev pub mpf_signature : List ℕ
mpf_signature = codes "MPF" ++ 0 ∷ []

-- the signature, 32 hexadecimal digits, and the full length and the offset in 32 bits each
abbrev pub is_portion : List ℕ → Bool
is_portion payload =
    nat_le 75 (length payload) && starts_with nat_eq payload portion_signature && list_all is_digit (take 32 (drop 35 payload))

abbrev pub is_exif : List ℕ → Bool
is_exif payload = nat_le 6 (length payload) && starts_with nat_eq payload exif_signature

-- APP1
abbrev pub first_kind_of : List ℕ → RegionKind
first_kind_of payload =
    if starts_with nat_eq payload packet_signature then Main
    else if is_portion payload then Portion
    else if is_exif payload then Exif
    else Other

abbrev pub kind_of : ℕ → List ℕ → RegionKind
kind_of marker payload =
    if marker == 0xE0 then App0
    else if marker == 0xE1 then first_kind_of payload
    else if marker == 0xE2 && starts_with nat_eq payload mpf_signature then Mpf
    else if marker == 0xED && starts_with nat_eq payload resources_signature then Resources
    else Other

-- how many bytes of a payload tell its kind
abbrev pub front_len : ℕ → ℕ
front_len marker =
    if marker == 0xE1 then 75
    else if marker == 0xE2 then 4
    else if marker == 0xED then 14
    else 0
