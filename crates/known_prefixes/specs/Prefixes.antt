-- The prefixes that every reader and writer knows, each of one namespace.
use Rattle.std.specs.Prelude.{ℕ, Bool, codes, List, [], ◌∷◌, ◌++◌, take, Option, option_map}
use Rattle.std.specs.List.{find, list_any}
use Rattle.std.specs.Map.{lookup}
use Rattle.std.specs.Str.{bytes_eq, str_eq_ignore_ascii_case}
use Rattle.xmp_values.specs.Spaces.{rdf_space, xml_space, meta_space}

-- Namespaces that keep their prefixes and aren't declared with the others: `rdf:RDF` and `x:xmpmeta`
-- declare two of them, and `xml` is bound everywhere.
abbrev pub fixed_prefixes : List (List ℕ × List ℕ)
fixed_prefixes = (rdf_space, codes "rdf") ∷ (xml_space, codes "xml") ∷ (meta_space, codes "x") ∷ []

-- The namespaces whose prefix is known, each beside it (ISO 16684-1, clause 8; XMP Specification Parts 2 and 3; IPTC Photo Metadata Standard).
abbrev pub known_prefixes : List (List ℕ × List ℕ)
known_prefixes = fixed_prefixes ++ (
    (codes "http://purl.org/dc/elements/1.1/", codes "dc")
    ∷ (codes "http://ns.adobe.com/xap/1.0/", codes "xmp")
    ∷ (codes "http://ns.adobe.com/xap/1.0/mm/", codes "xmpMM")
    ∷ (codes "http://ns.adobe.com/xap/1.0/rights/", codes "xmpRights")
    ∷ (codes "http://ns.adobe.com/photoshop/1.0/", codes "photoshop")
    ∷ (codes "http://ns.adobe.com/tiff/1.0/", codes "tiff")
    ∷ (codes "http://ns.adobe.com/exif/1.0/", codes "exif")
    ∷ (codes "http://ns.adobe.com/xmp/note/", codes "xmpNote")
    ∷ (codes "http://iptc.org/std/Iptc4xmpCore/1.0/xmlns/", codes "Iptc4xmpCore")
    ∷ [])

abbrev pub fixed_prefix : List ℕ → Option (List ℕ)
fixed_prefix space = lookup (bytes_eq space) fixed_prefixes

abbrev pub known_prefix : List ℕ → Option (List ℕ)
known_prefix space = lookup (bytes_eq space) known_prefixes

-- the namespace of a known prefix
abbrev pub known_space : List ℕ → Option (List ℕ)
known_space prefix = option_map (λ known. known.0) (find (λ known. bytes_eq prefix known.1) known_prefixes)

abbrev pub is_fixed : List ℕ → Bool
is_fixed space = list_any (λ known. bytes_eq space known.0) fixed_prefixes

abbrev pub is_known : List ℕ → Bool
is_known prefix = list_any (λ known. bytes_eq prefix known.1) known_prefixes

-- A prefix that begins with `xml`, in any case, is reserved (Namespaces in XML 1.0, section 3).
abbrev pub begins_xml : List ℕ → Bool
begins_xml prefix = str_eq_ignore_ascii_case (take 3 prefix) (codes "xml")
