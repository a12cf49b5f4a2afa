-- The text of a field whose encoding isn't told.
use Rattle.std.specs.Prelude.{ℕ, if◌then◌else◌, List, encode_utf8_all, Option, Some, None}
use Rattle.std.specs.List.{filter, list_all}
use Rattle.std.specs.Str.{chars, is_utf8}
use Rattle.xmp_values.specs.Characters.{is_char, is_blank}

-- the characters of the bytes: by UTF-8 where they are UTF-8, else each byte is the character of its number (Latin-1)
abbrev pub characters : List ℕ → List ℕ
characters bytes = if is_utf8 bytes then chars bytes else bytes

-- of these the ones that XML has, in UTF-8
abbrev pub kept_text : List ℕ → List ℕ
kept_text bytes = encode_utf8_all (filter is_char (characters bytes))

-- the text of a field; none where nothing but white space is left
abbrev pub text_unless_blank : List ℕ → Option (List ℕ)
text_unless_blank text = if list_all is_blank text then None else Some text

unfoldable pub field_text : List ℕ → Option (List ℕ)
field_text bytes = text_unless_blank (kept_text bytes)
