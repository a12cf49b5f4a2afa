-- The lines of a script, as they are spelled. Words are parted by one space, and none is empty; VALUE and URI
-- are the rest of the line after their space.
--   ns PREFIX URI | set PATH VALUE | seturi PATH URI | delete PATH | array PATH KIND | struct PATH
--   append PATH VALUE | insert PATH N VALUE | setlang PATH TAG VALUE | qualify PATH NAME VALUE
use Rattle.std.specs.Prelude.{ℕ, ◌+◌, ◌-◌, ◌==◌, nat_lt, Bool, true, false, ◌&&◌, not, if◌then◌else◌, List, [], ◌∷◌, length, take, drop, slice_index, Option, Some, None, option_map, option_and_then, codes}
use Rattle.std.specs.List.{position_or_len, before_first}
use Rattle.std.specs.Str.{byte, bytes_eq}
use Rattle.xmp_tree.specs.declared.nested.Kind.{Kind}
use Rattle.xmp_tree.specs.declared.nested.Kind.TheVariants.{Bag, Seq, Alt}
use Rattle.xmp_paths.specs.Grammar.{is_name, place_of_number, consed}
use Rattle.xmp_edit.specs.declared.action.Action.{Action}
use Rattle.xmp_edit.specs.declared.action.Action.TheVariants.{SetText, SetUri, Delete, MakeArray, MakeStruct, Append, Insert, SetLang}
use Rattle.xmp_edit.specs.declared.line.Line.{Line}
use Rattle.xmp_edit.specs.declared.line.Line.TheVariants as lines
use Rattle.xmp_edit.specs.declared.words.Told.{Told}
use Rattle.xmp_edit.specs.declared.words.Three.{Three}
use Rattle.xmp_edit.specs.declared.words.Command.{Command}
use Rattle.xmp_edit.specs.declared.words.Command.TheVariants as commands

-- Lines end with LF, which the last may lack. One CR at a line's end is dropped.
abbrev pub is_lf : ℕ → Bool
is_lf b = b == 10

-- after each LF a line begins
abbrev pub later_lines : List ℕ → List (List ℕ)
later_lines [] = []
later_lines (b ∷ bs) = if is_lf b then before_first is_lf bs ∷ later_lines bs else later_lines bs

abbrev pub lines_of : List ℕ → List (List ℕ)
lines_of text = before_first is_lf text ∷ later_lines text

abbrev pub without_cr : List ℕ → List ℕ
without_cr line = if slice_index line (length line - 1) == 13 then take (length line - 1) line else line

-- Escapes: `\\`, `\n`, `\r` and `\t`. No other `\` stands.
abbrev pub escape_of : ℕ → Option ℕ
escape_of c = if c == byte "\\" then Some (byte "\\") else if c == byte "n" then Some 10 else if c == byte "r" then Some 13 else if c == byte "t" then Some 9 else None

-- what is told by the rest of a text, after a `\` or not
abbrev pub unescaped_from : Bool → List ℕ → Option (List ℕ)
unescaped_from false [] = Some []
unescaped_from true [] = None
unescaped_from false (b ∷ bs) = if b == byte "\\" then unescaped_from true bs else consed (Some b) (unescaped_from false bs)
unescaped_from true (b ∷ bs) = consed (escape_of b) (unescaped_from false bs)

abbrev pub unescaped : List ℕ → Option (List ℕ)
unescaped = unescaped_from false

-- Words.
abbrev pub is_space : ℕ → Bool
is_space b = b == byte " "

-- a word and what stands after its space
abbrev pub worded : List ℕ → Option (List ℕ × List ℕ)
worded text = if nat_lt 0 (position_or_len is_space text) && nat_lt (position_or_len is_space text) (length text)
    then Some (take (position_or_len is_space text) text, drop (position_or_len is_space text + 1) text) else None

-- a word that ends the line
abbrev pub is_last_word : List ℕ → Bool
is_last_word text = nat_lt 0 (length text) && (position_or_len is_space text == length text)

-- a word and a text
abbrev pub told : List ℕ → Option Told
told text = option_and_then (λ w. option_map (λ t. record { word = w.0; text = t }) (unescaped w.1)) (worded text)

-- a path, a word and a text
abbrev pub three : List ℕ → Option Three
three text = option_and_then (λ w. option_map (λ t. record { path = w.0; word = t.word; text = t.text }) (told w.1)) (worded text)

-- The forms, each by what stands after its first word.
abbrev pub ns_line : List ℕ → Option Line
ns_line rest = option_and_then (λ t. if is_name t.word && not (length t.text == 0) then Some (lines.Bind t.word t.text) else None) (told rest)

abbrev pub text_line : (List ℕ → Action) → List ℕ → Option Line
text_line action rest = option_map (λ t. lines.Change t.word None (action t.text)) (told rest)

abbrev pub lone_line : Action → List ℕ → Option Line
lone_line action rest = if is_last_word rest then Some (lines.Change rest None action) else None

abbrev pub kind_of : List ℕ → Option Kind
kind_of word = if bytes_eq word (codes "bag") then Some Bag else if bytes_eq word (codes "seq") then Some Seq else if bytes_eq word (codes "alt") then Some Alt else None

abbrev pub array_line : List ℕ → Option Line
array_line rest = option_and_then (λ w. option_map (λ kind. lines.Change w.0 None (MakeArray kind)) (kind_of w.1)) (worded rest)

abbrev pub insert_line : List ℕ → Option Line
insert_line rest = option_and_then (λ t. option_map (λ at. lines.Change t.path None (Insert at t.text)) (place_of_number t.word)) (three rest)

abbrev pub lang_line : List ℕ → Option Line
lang_line rest = option_map (λ t. lines.Change t.path None (SetLang t.word t.text)) (three rest)

abbrev pub qualify_line : List ℕ → Option Line
qualify_line rest = option_map (λ t. lines.Change t.path (Some t.word) (SetText t.text)) (three rest)

abbrev pub command_of : List ℕ → Option Command
command_of word =
    if bytes_eq word (codes "ns") then Some commands.Ns
    else if bytes_eq word (codes "set") then Some commands.Set
    else if bytes_eq word (codes "seturi") then Some commands.SetUri
    else if bytes_eq word (codes "delete") then Some commands.Delete
    else if bytes_eq word (codes "array") then Some commands.Array
    else if bytes_eq word (codes "struct") then Some commands.Struct
    else if bytes_eq word (codes "append") then Some commands.Append
    else if bytes_eq word (codes "insert") then Some commands.Insert
    else if bytes_eq word (codes "setlang") then Some commands.SetLang
    else if bytes_eq word (codes "qualify") then Some commands.Qualify
    else None

abbrev pub formed : List ℕ → Option Command → Option Line
formed rest None = None
formed rest (Some commands.Ns) = ns_line rest
formed rest (Some commands.Set) = text_line SetText rest
formed rest (Some commands.SetUri) = text_line SetUri rest
formed rest (Some commands.Delete) = lone_line Delete rest
formed rest (Some commands.Array) = array_line rest
formed rest (Some commands.Struct) = lone_line MakeStruct rest
formed rest (Some commands.Append) = text_line Append rest
formed rest (Some commands.Insert) = insert_line rest
formed rest (Some commands.SetLang) = lang_line rest
formed rest (Some commands.Qualify) = qualify_line rest

abbrev pub commanded : Option (List ℕ × List ℕ) → Option Line
commanded None = None
commanded (Some w) = formed w.1 (command_of w.0)

-- Empty lines and those that begin with `#` are skipped.
abbrev pub is_skipped : List ℕ → Bool
is_skipped [] = true
is_skipped (b ∷ bs) = b == byte "#"

-- a line as it is spelled, or none where it is of no form
abbrev pub line_of : List ℕ → Option Line
line_of text = if is_skipped text then Some lines.Skip else commanded (worded text)
