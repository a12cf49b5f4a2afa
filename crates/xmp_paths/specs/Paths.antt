-- Paths: which path a text gives, or the rule that it breaks. The rules are tried over the whole path,
-- one after the other: its grammar, its prefixes, its names, its depth.
use Rattle.std.specs.Prelude.{ℕ, ◌+◌, nat_le, Bool, true, false, ◌&&◌, ◌||◌, not, if◌then◌else◌, List, [], ◌∷◌, length, Option, Some, None, option_map, Result, Ok, Err}
use Rattle.std.specs.Str.{bytes_eq}
use Rattle.xmp_values.specs.declared.hints.Hint.{Hint}
use Rattle.xmp_values.specs.declared.rules.Rule.{Rule}
use Rattle.xmp_values.specs.declared.rules.Rule.TheVariants.{BadPath, UnknownPrefix, Reserved, EditDeep}
use Rattle.xmp_values.specs.declared.text.Name.{Name}
use Rattle.xmp_values.specs.Names.{named}
use Rattle.xmp_values.specs.Spaces.{rdf_space, xml_space}
use Rattle.xmp_tree.specs.Wf.{lang_name, type_name, note_name}
use Rattle.xmp_tree.specs.Places.{same_name}
use Rattle.xmp_paths.specs.declared.spelling.Prefixed.{Prefixed}
use Rattle.xmp_paths.specs.declared.spelling.SpelledStep.{SpelledStep}
use Rattle.xmp_paths.specs.declared.spelling.SpelledStep.TheVariants as spelt
use Rattle.xmp_paths.specs.declared.spelling.Spelling.{Spelling}
use Rattle.xmp_paths.specs.declared.step.Step.{Step}
use Rattle.xmp_paths.specs.declared.step.Step.TheVariants.{Field, Qualifier, Item, Tag}
use Rattle.xmp_paths.specs.Parts.{PathParts, Bindings}
use Rattle.xmp_paths.specs.Grammar.{consed, spelled}
use Rattle.xmp_paths.specs.Namespaces.{space_of}

-- The names of a path, where each prefix is found.
abbrev pub name_found : Bindings → Prefixed → Option Name
name_found b p = option_map (λ space. named space p.local) (space_of b p.prefix)

abbrev pub step_found : Bindings → SpelledStep → Option Step
step_found b (spelt.Field p) = option_map Field (name_found b p)
step_found b (spelt.Qualifier p) = option_map Qualifier (name_found b p)
step_found b (spelt.Item at) = Some (Item at)
step_found b (spelt.Tag tag) = Some (Tag tag)

abbrev pub steps_found : Bindings → List SpelledStep → Option (List Step)
steps_found b [] = Some []
steps_found b (s ∷ ss) = consed (step_found b s) (steps_found b ss)

abbrev pub path_parts : Option Name → Option (List Step) → Option PathParts
path_parts (Some name) (Some steps) = Some record { name = name; steps = steps }
path_parts (Some name) None = None
path_parts None steps = None

abbrev pub path_found : Bindings → Spelling → Option PathParts
path_found b s = path_parts (name_found b s.first) (steps_found b s.steps)

-- Reserved: the note belongs to the file, and the names of RDF and XML to the text. But `xml:lang` and
-- `rdf:type` are qualifiers, after which no step goes.
abbrev pub is_foreign : Name → Bool
is_foreign name = bytes_eq name.space rdf_space || bytes_eq name.space xml_space

abbrev pub is_special : Name → Bool
is_special name = same_name name lang_name || same_name name type_name

abbrev pub is_end : List Step → Bool
is_end [] = true
is_end (s ∷ ss) = false

abbrev pub is_reserved_step : Step → List Step → Bool
is_reserved_step (Field name) more = is_foreign name
is_reserved_step (Qualifier name) more = is_foreign name && not (is_special name && is_end more)
is_reserved_step (Item at) more = false
is_reserved_step (Tag tag) more = false

abbrev pub are_reserved : List Step → Bool
are_reserved [] = false
are_reserved (s ∷ ss) = is_reserved_step s ss || are_reserved ss

abbrev pub is_reserved : PathParts → Bool
is_reserved p = (same_name p.name note_name || is_foreign p.name) || are_reserved p.steps

abbrev pub unreserved : Option PathParts → Result PathParts Rule
unreserved None = Err UnknownPrefix
unreserved (Some p) = if is_reserved p then Err Reserved else Ok p

-- the path that a spelling names, or the rule that it breaks, depth aside
abbrev pub path_named : Bindings → Option Spelling → Result PathParts Rule
path_named b None = Err BadPath
path_named b (Some s) = unreserved (path_found b s)

-- a path, its first name counted, has at most 24 steps
abbrev pub is_deep : ℕ → PathParts → Bool
is_deep more p = not (nat_le (length p.steps + 1 + more) 24)

abbrev pub not_deep : Result PathParts Rule → Result PathParts Rule
not_deep (Ok p) = if is_deep 0 p then Err EditDeep else Ok p
not_deep (Err rule) = Err rule

-- the path of a text, with prefixes that are known or that a file hints at, or the rule that it breaks
abbrev pub path_of : List Hint → List ℕ → Result PathParts Rule
path_of hints text = not_deep (path_named record { lines = []; hints = hints } (spelled text))
