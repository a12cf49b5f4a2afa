-- Scripts: which edits and hints a text gives, or its first bad line with the least rule that it breaks.
use Rattle.std.specs.Prelude.{ℕ, ◌+◌, if◌then◌else◌, List, [], ◌∷◌, ◌++◌, None, Result, Ok, Err}
use Rattle.std.specs.List.{fold}
use Rattle.std.specs.Str.{is_utf8}
use Rattle.std.specs.Str.Lossy.{utf8_valid_len}
use Rattle.xmp_values.specs.declared.hints.Hint.{Hint}
use Rattle.xmp_values.specs.declared.rules.Rule.{Rule}
use Rattle.xmp_values.specs.declared.rules.Rule.TheVariants.{ScriptUtf8, BadText, BadLanguageTag}
use Rattle.xmp_values.specs.Hints.{has_space}
use Rattle.xmp_edit.specs.declared.action.Action.TheVariants.{SetText}
use Rattle.xmp_edit.specs.declared.edit.Edit.{Edit}
use Rattle.xmp_edit.specs.declared.given.Given.{Given}
use Rattle.xmp_edit.specs.declared.given.Given.TheVariants.{Nothing, Bound, Made}
use Rattle.xmp_edit.specs.Edits.{ok_map}
use Rattle.xmp_edit.specs.ScriptParts.{ScriptParts, ReadingParts}
use Rattle.xmp_edit.specs.Lines.{lines_of, without_cr, line_of}
use Rattle.xmp_edit.specs.Judging.{given, edit_of}

-- A line adds what it gives to what was read.
abbrev pub taken : ReadingParts → Given → ReadingParts
taken r Nothing = r
taken r (Bound h) = record { bindings = record { lines = r.bindings.lines ++ h ∷ []; hints = r.bindings.hints }; edits = r.edits }
taken r (Made e) = record { bindings = r.bindings; edits = r.edits ++ e ∷ [] }

abbrev pub line_read : ℕ → ReadingParts → List ℕ → Result ReadingParts Rule
line_read line r text = ok_map (taken r) (given r.bindings line (line_of (without_cr text)))

abbrev pub on_line : (ReadingParts → Result ReadingParts (Rule × ℕ)) → ℕ → Result ReadingParts Rule → Result ReadingParts (Rule × ℕ)
on_line next line (Ok r) = next r
on_line next line (Err rule) = Err (rule, line)

-- lines in their order, up to the first that is bad, with its number
abbrev pub lines_read : List (List ℕ) → ℕ → ReadingParts → Result ReadingParts (Rule × ℕ)
lines_read [] line r = Ok r
lines_read (text ∷ texts) line r = on_line (lines_read texts (line + 1)) line (line_read line r text)

abbrev pub beginning : List Hint → ReadingParts
beginning hints = record { bindings = record { lines = []; hints = hints }; edits = [] }

-- the given hints, and after them those of the lines whose namespaces are new
abbrev pub with_hint : List Hint → Hint → List Hint
with_hint hints h = if has_space hints h.space then hints else hints ++ h ∷ []

abbrev pub finished : List Hint → Result ReadingParts (Rule × ℕ) → Result ScriptParts (Rule × ℕ)
finished hints (Ok r) = Ok record { edits = r.edits; hints = fold with_hint hints r.bindings.lines }
finished hints (Err fault) = Err fault

-- the script of a text; where that isn't UTF-8, the fault's place is the first byte after its longest valid front
abbrev pub script_of : List Hint → List ℕ → Result ScriptParts (Rule × ℕ)
script_of hints bytes = if is_utf8 bytes then finished hints (lines_read (lines_of bytes) 1 (beginning hints)) else Err (ScriptUtf8, utf8_valid_len bytes)

-- The script of one `set`: its path is the third word, and its text the fourth.
abbrev pub word_of : Rule → ℕ
word_of BadText = 4
word_of BadLanguageTag = 4
word_of rule = 3

abbrev pub one_edit : List Hint → Result Edit Rule → Result ScriptParts (Rule × ℕ)
one_edit hints (Ok e) = Ok record { edits = e ∷ []; hints = hints }
one_edit hints (Err rule) = Err (rule, word_of rule)

abbrev pub one_set_of : List Hint → List ℕ → List ℕ → Result ScriptParts (Rule × ℕ)
one_set_of hints path value = one_edit hints (edit_of record { lines = []; hints = hints } 3 path None (SetText value))
