-- Runs at the front of bytes, as plain definitions.
use Rattle.std.specs.Prelude.{ℕ, Bool, not, ◌||◌, ◌==◌, List}
use Rattle.std.specs.List.{prefix_len, common_prefix_len}
use Rattle.xmp_values.specs.Characters.{is_blank}
use Rattle.xmp_lanes.specs.declared.plain.Escape.{Escape}
use Rattle.xmp_lanes.specs.declared.plain.Escape.TheVariants.{Text, Attribute}

-- The bytes that a written text escapes: `&`, `<`, `>` and CR (XML 1.0, 2.4 and 2.11).
abbrev pub is_escaped_in_text : ℕ → Bool
is_escaped_in_text b = (b == 0x26) || (b == 0x3C) || (b == 0x3E) || (b == 0xD)

-- In an attribute also the quote, tab and LF (XML 1.0, 2.3 and 3.3.3).
abbrev pub is_escaped : Escape → ℕ → Bool
is_escaped Text b = is_escaped_in_text b
is_escaped Attribute b = (b == 0x22) || (b == 0x9) || (b == 0xA) || is_escaped_in_text b

-- the longest prefix without a byte that is escaped there
abbrev pub plain_run : Escape → List ℕ → ℕ
plain_run place bytes = prefix_len (λ b. not (is_escaped place b)) bytes

-- the longest prefix of white space (XML 1.0, production 3)
abbrev pub blank_run : List ℕ → ℕ
blank_run bytes = prefix_len is_blank bytes

-- the longest common prefix
abbrev pub same_run : List ℕ → List ℕ → ℕ
same_run a b = common_prefix_len (λ x y. x == y) a b
