-- What a line of a script gives, or the rule that it breaks. On one line the rules are tried in this order:
-- BadLine, BadPath, UnknownPrefix, Reserved, BadText, BadTag, EditDeep.
use Rattle.std.specs.Prelude.{ℕ, Bool, true, false, ◌&&◌, ◌||◌, not, if◌then◌else◌, List, [], ◌∷◌, ◌++◌, Option, Some, None, Result, Ok, Err}
use Rattle.std.specs.List.{list_all}
use Rattle.std.specs.Str.{bytes_eq, chars, is_utf8}
use Rattle.xmp_values.specs.declared.hints.Hint.{Hint}
use Rattle.xmp_values.specs.declared.rules.Rule.{Rule}
use Rattle.xmp_values.specs.declared.rules.Rule.TheVariants.{BadLine, Reserved, BadText, BadLanguageTag, EditDeep}
use Rattle.xmp_values.specs.declared.text.Name.{Name}
use Rattle.xmp_values.specs.Characters.{is_char}
use Rattle.xmp_values.specs.Spaces.{xmlns_space}
use Rattle.known_prefixes.specs.Prefixes.{is_known, begins_xml}
use Rattle.xmp_tree.specs.Wf.{lang_name, type_name}
use Rattle.xmp_tree.specs.Places.{same_name}
use Rattle.xmp_paths.specs.declared.spelling.Prefixed.{Prefixed}
use Rattle.xmp_paths.specs.declared.spelling.SpelledStep.TheVariants as spelt
use Rattle.xmp_paths.specs.declared.spelling.Spelling.{Spelling}
use Rattle.xmp_paths.specs.declared.step.Step.{Step}
use Rattle.xmp_paths.specs.declared.step.Step.TheVariants.{Field, Qualifier, Item, Tag}
use Rattle.xmp_paths.specs.Parts.{PathParts, Bindings}
use Rattle.xmp_paths.specs.Grammar.{is_lang_tag, prefixed, spelled}
use Rattle.xmp_paths.specs.Paths.{path_named, is_deep}
use Rattle.xmp_paths.specs.Namespaces.{is_bound}
use Rattle.xmp_edit.specs.declared.action.Action.{Action}
use Rattle.xmp_edit.specs.declared.action.Action.TheVariants.{SetText, SetUri, Delete, MakeArray, MakeStruct, Append, Insert, SetLang}
use Rattle.xmp_edit.specs.declared.edit.Edit.{Edit}
use Rattle.xmp_edit.specs.declared.line.Line.{Line}
use Rattle.xmp_edit.specs.declared.line.Line.TheVariants as lines
use Rattle.xmp_edit.specs.declared.given.Given.{Given}
use Rattle.xmp_edit.specs.declared.given.Given.TheVariants.{Nothing, Bound, Made}
use Rattle.xmp_edit.specs.Edits.{ok_map}
use Rattle.xmp_edit.specs.Allowed.{last_step, levels_of}

-- the UTF-8 of Chars (XML 1.0, production 2)
abbrev pub is_chars : List ℕ → Bool
is_chars bytes = is_utf8 bytes && list_all is_char (chars bytes)

-- A line that binds: its prefix is free, and its namespace isn't that of `xmlns`.
abbrev pub is_taken : Bindings → List ℕ → Bool
is_taken b prefix = is_known prefix || begins_xml prefix || is_bound b prefix

abbrev pub binding : Bindings → List ℕ → List ℕ → Result Hint Rule
binding b prefix uri =
    if is_taken b prefix || bytes_eq uri xmlns_space then Err Reserved
    else if is_chars uri then Ok record { space = uri; prefix = prefix }
    else Err BadText

-- A line that edits: its path, with one qualifier more for `qualify`.
abbrev pub qualified : Option Spelling → Option Prefixed → Option Spelling
qualified (Some s) (Some p) = Some record { first = s.first; steps = s.steps ++ spelt.Qualifier p ∷ [] }
qualified (Some s) None = None
qualified None p = None

abbrev pub spelling_of : List ℕ → Option (List ℕ) → Option Spelling
spelling_of path None = spelled path
spelling_of path (Some name) = qualified (spelled path) (prefixed name)

abbrev pub is_qualifier : Name → Step → Bool
is_qualifier name (Field n) = false
is_qualifier name (Qualifier n) = same_name n name
is_qualifier name (Item at) = false
is_qualifier name (Tag tag) = false

-- `rdf:type` at the end is changed by `seturi` and `delete` alone, `xml:lang` by `set`, `qualify` and `delete`.
abbrev pub suits_type : Action → Bool
suits_type (SetText text) = false
suits_type (SetUri uri) = true
suits_type Delete = true
suits_type (MakeArray kind) = false
suits_type MakeStruct = false
suits_type (Append text) = false
suits_type (Insert at text) = false
suits_type (SetLang tag text) = false

abbrev pub suits_lang : Action → Bool
suits_lang (SetText text) = true
suits_lang (SetUri uri) = false
suits_lang Delete = true
suits_lang (MakeArray kind) = false
suits_lang MakeStruct = false
suits_lang (Append text) = false
suits_lang (Insert at text) = false
suits_lang (SetLang tag text) = false

abbrev pub may_end : Step → Action → Bool
may_end s action = (suits_type action || not (is_qualifier type_name s)) && (suits_lang action || not (is_qualifier lang_name s))

-- VALUE and URI are made of Chars
abbrev pub has_chars : Action → Bool
has_chars (SetText text) = is_chars text
has_chars (SetUri uri) = is_chars uri
has_chars Delete = true
has_chars (MakeArray kind) = true
has_chars MakeStruct = true
has_chars (Append text) = is_chars text
has_chars (Insert at text) = is_chars text
has_chars (SetLang tag text) = is_chars text

-- TAG, and the text for `xml:lang`, is a language tag
abbrev pub has_tags : Step → Action → Bool
has_tags s (SetText text) = not (is_qualifier lang_name s) || is_lang_tag text
has_tags s (SetUri uri) = true
has_tags s Delete = true
has_tags s (MakeArray kind) = true
has_tags s MakeStruct = true
has_tags s (Append text) = true
has_tags s (Insert at text) = true
has_tags s (SetLang tag text) = is_lang_tag tag

abbrev pub checked : ℕ → Action → PathParts → Result Edit Rule
checked line action p =
    if not (may_end (last_step p) action) then Err Reserved
    else if not (has_chars action) then Err BadText
    else if not (has_tags (last_step p) action) then Err BadLanguageTag
    else if is_deep (levels_of action) p then Err EditDeep
    else Ok record { line = line; path = p; action = action }

abbrev pub made : ℕ → Action → Result PathParts Rule → Result Edit Rule
made line action (Ok p) = checked line action p
made line action (Err rule) = Err rule

abbrev pub edit_of : Bindings → ℕ → List ℕ → Option (List ℕ) → Action → Result Edit Rule
edit_of b line path qualifier action = made line action (path_named b (spelling_of path qualifier))

abbrev pub given : Bindings → ℕ → Option Line → Result Given Rule
given b line None = Err BadLine
given b line (Some lines.Skip) = Ok Nothing
given b line (Some (lines.Bind prefix uri)) = ok_map Bound (binding b prefix uri)
given b line (Some (lines.Change path qualifier action)) = ok_map Made (edit_of b line path qualifier action)
