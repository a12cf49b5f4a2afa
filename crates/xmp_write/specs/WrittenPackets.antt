-- A packet as it is written (ISO 16684-1, 7.3.2): header, text, padding, trailer.
use Rattle.std.specs.Prelude.{ℕ, ◌+◌, ◌-◌, ◌%◌, ◌||◌, ◌==◌, if◌then◌else◌, codes, List, [], ◌∷◌, ◌++◌, length, map}
use Rattle.std.specs.List.{range_with_len}
use Rattle.xmp_values.specs.declared.hints.Hint.{Hint}
use Rattle.xmp_tree.specs.Parts.{Parts}
use Rattle.xmp_write.specs.declared.forms.Form.{Form}
use Rattle.xmp_write.specs.Prefixes.{prefixes}
use Rattle.xmp_write.specs.Text.{written_text}

-- the header and its line feed, 54 bytes; `begin` holds U+FEFF in UTF-8
abbrev pub header : List ℕ
header = codes "<?xpacket begin=\"" ++ (0xEF ∷ 0xBB ∷ 0xBF ∷ []) ++ codes "\" id=\"W5M0MpCehiHzreSzNTczkc9d\"?>\n"

-- the trailer of a packet that may be written, 19 bytes
abbrev pub trailer : List ℕ
trailer = codes "<?xpacket end=\"w\"?>"

-- Byte i, from 0, of so many bytes of padding: LF at each hundredth and at the last, else a space. The lines are a choice
-- of this project's own.
abbrev pub pad_byte : ℕ → ℕ → ℕ
pad_byte many i = if ((i + 1) % 100 == 0) || (i + 1 == many) then 0xA else 0x20

abbrev pub pad : ℕ → List ℕ
pad many = map (pad_byte many) (range_with_len 0 many)

-- the least length of a packet: that of header and trailer, 73 bytes, and that of the text
abbrev pub least_len : List Hint → Parts → Form → ℕ
least_len ps t form = 73 + length (written_text ps t form)

-- the packet of a tree in a form, of at least its least length
unfoldable pub packet : List Hint → Parts → Form → ℕ → List ℕ
packet ps t form len = header ++ written_text ps t form ++ pad (len - least_len ps t form) ++ trailer

-- the same, with the prefixes that the tree, the hints and the form give
abbrev pub canonical_packet : Parts → List Hint → Form → ℕ → List ℕ
canonical_packet t hints form = packet (prefixes t hints form) t form
