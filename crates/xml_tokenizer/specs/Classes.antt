-- Classes of characters, of which runs are made.
use Rattle.std.specs.Prelude.{ℕ, Bool, true, false, nat_lt, if◌then◌else◌, not, ◌||◌, ◌&&◌, ◌==◌}
use Rattle.xmp_values.specs.Characters.{is_blank, is_char, is_name_char}
use Rattle.xml_grammar.specs.Spelling.{is_digit}
use Rattle.xml_tokenizer.specs.declared.classes.Class.{Class}
use Rattle.xml_tokenizer.specs.declared.classes.Class.TheVariants.{NameChar, Blank, Decimal, Char, Plain, Value}

-- neither `<` nor `&` nor CR, which never stand for themselves
abbrev pub is_literal : ℕ → Bool
is_literal c = not (c == 60 || c == 38 || c == 13)

-- a Char that stands for itself, but for `]` in the end of a CDATA section
unfoldable pub is_plain : ℕ → Bool
is_plain c = is_char c && is_literal c

-- a Char that stands for itself in a value between these quotes
unfoldable pub is_value : ℕ → ℕ → Bool
is_value quote c = is_char c && not (c == 60 || c == 38 || c == quote || c == 9 || c == 10 || c == 13)

abbrev pub has : Class → ℕ → Bool
has NameChar = is_name_char
has Blank = is_blank
has Decimal = is_digit 10
has Char = is_char
has Plain = is_plain
has (Value quote) = is_value quote

-- are all Chars from U+80 on of the class?
abbrev pub is_wide : Class → Bool
is_wide NameChar = false
is_wide Blank = false
is_wide Decimal = false
is_wide Char = true
is_wide Plain = true
is_wide (Value quote) = nat_lt quote 128

-- a byte that, wherever it stands in UTF-8, is of a character that stands for itself in a value, unless it is the quote
unfoldable pub is_value_byte : ℕ → Bool
is_value_byte b = if nat_lt b 128 then (is_char b && not (b == 60 || b == 38 || b == 9 || b == 10 || b == 13)) else not (b == 0xEF)

-- A byte that, wherever it stands in UTF-8, is of a character of the class. EF begins U+FFFE and U+FFFF, which are no Chars.
unfoldable pub is_sure : Class → ℕ → Bool
is_sure class b = if nat_lt b 128 then has class b else (is_wide class && not (b == 0xEF))
