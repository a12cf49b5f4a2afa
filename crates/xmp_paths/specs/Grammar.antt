-- How a path is spelled: `prefix:local`, and any number of steps.
--   step = "/" prefix ":" local | "/?" prefix ":" local | "[" number "]" | "[" tag "]"
-- Neither `/` nor `[` stands in a name, a number or a tag, so each step begins at one of these marks
-- and ends before the next.
use Rattle.std.specs.Prelude.{ℕ, ◌+◌, ◌-◌, ◌*◌, ◌==◌, nat_le, Bool, false, ◌&&◌, ◌||◌, if◌then◌else◌, List, [], ◌∷◌, length, take, slice_index, Option, Some, None, option_map, option_and_then, not}
use Rattle.std.specs.List.{before_first, after_first, fold, list_all}
use Rattle.std.specs.Char.{is_ascii_digit, is_ascii_alphabetic, is_ascii_alphanumeric}
use Rattle.std.specs.Str.{byte, chars, is_utf8}
use Rattle.xmp_values.specs.Characters.{is_name_of}
use Rattle.xmp_paths.specs.declared.spelling.Prefixed.{Prefixed}
use Rattle.xmp_paths.specs.declared.spelling.SpelledStep.{SpelledStep}
use Rattle.xmp_paths.specs.declared.spelling.SpelledStep.TheVariants.{Field, Qualifier, Item, Tag}
use Rattle.xmp_paths.specs.declared.spelling.Spelling.{Spelling}

-- the bytes are the UTF-8 of a name without colon (Namespaces in XML 1.0, production 4)
abbrev pub is_name : List ℕ → Bool
is_name bytes = is_utf8 bytes && is_name_of (chars bytes)

abbrev pub is_colon : ℕ → Bool
is_colon b = b == byte ":"

-- `prefix:local`, both of them names
abbrev pub prefixed : List ℕ → Option Prefixed
prefixed text = if is_name (before_first is_colon text) && is_name (after_first is_colon text)
    then Some record { prefix = before_first is_colon text; local = after_first is_colon text } else None

-- A number that counts from 1: one to nine digits, the first of which isn't 0.
abbrev pub is_number : List ℕ → Bool
is_number [] = false
is_number (d ∷ ds) = is_ascii_digit d && not (d == byte "0") && list_all is_ascii_digit ds && nat_le (length ds) 8

abbrev pub number : List ℕ → ℕ
number ds = fold (λ n d. 10 * n + (d - byte "0")) 0 ds

-- the place, counted from 0, that a number tells
abbrev pub place_of_number : List ℕ → Option ℕ
place_of_number ds = if is_number ds then Some (number ds - 1) else None

-- A language tag: a letter and up to 99 letters, digits and hyphens, of ASCII (after RFC 5646, 2.1).
abbrev pub is_tag_byte : ℕ → Bool
is_tag_byte b = is_ascii_alphanumeric b || b == byte "-"

abbrev pub is_lang_tag : List ℕ → Bool
is_lang_tag [] = false
is_lang_tag (b ∷ bs) = is_ascii_alphabetic b && list_all is_tag_byte bs && nat_le (length bs) 99

-- what stands before a `]` at the end
abbrev pub bracketed : List ℕ → Option (List ℕ)
bracketed text = if slice_index text (length text - 1) == byte "]" then Some (take (length text - 1) text) else None

-- a step by its text after `/`
abbrev pub member_step : List ℕ → Option SpelledStep
member_step [] = None
member_step (b ∷ bs) = if b == byte "?" then option_map Qualifier (prefixed bs) else option_map Field (prefixed (b ∷ bs))

-- a step by its text between brackets
abbrev pub item_step : List ℕ → Option SpelledStep
item_step text = if is_lang_tag text then Some (Tag text) else option_map Item (place_of_number text)

-- a step by its text, which begins with its mark
abbrev pub spelled_step : List ℕ → Option SpelledStep
spelled_step [] = None
spelled_step (b ∷ bs) = if b == byte "/" then member_step bs else option_and_then item_step (bracketed bs)

abbrev pub is_mark : ℕ → Bool
is_mark b = b == byte "/" || b == byte "["

-- the texts of the steps: from each mark up to the next
abbrev pub pieces : List ℕ → List (List ℕ)
pieces [] = []
pieces (b ∷ bs) = if is_mark b then (b ∷ before_first is_mark bs) ∷ pieces bs else pieces bs

-- all of them, if each is there
abbrev pub consed : {X : Type 0} → Option X → Option (List X) → Option (List X)
consed (Some x) (Some xs) = Some (x ∷ xs)
consed (Some x) None = None
consed None xs = None

abbrev pub spelled_steps : List (List ℕ) → Option (List SpelledStep)
spelled_steps [] = Some []
spelled_steps (piece ∷ more) = consed (spelled_step piece) (spelled_steps more)

abbrev pub spelling : Option Prefixed → Option (List SpelledStep) → Option Spelling
spelling (Some first) (Some steps) = Some record { first = first; steps = steps }
spelling (Some first) None = None
spelling None steps = None

-- the path that a text spells, or none where it isn't of the grammar
abbrev pub spelled : List ℕ → Option Spelling
spelled text = spelling (prefixed (before_first is_mark text)) (spelled_steps (pieces text))
