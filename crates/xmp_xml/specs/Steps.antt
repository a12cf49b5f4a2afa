-- What a token does, kind by kind.
use Rattle.std.specs.Prelude.{◌+◌, ◌<◌, ◌^◌, ℕ, Bool, ◌&&◌, if◌then◌else◌, nat_le, is_some, List, [], ◌∷◌, length, Option, Some, None, Result, Ok, Err, encode_utf8}
use Rattle.xmp_values.specs.declared.rules.Rule.{Rule}
use Rattle.xmp_values.specs.declared.rules.Rule.TheVariants.{Encoding, OutsideRoot, Mismatch, BadNamespace, UnboundPrefix, TwiceAttribute, TooDeep}
use Rattle.xml_grammar.specs.declared.tags.QName.{QName}
use Rattle.xml_grammar.specs.declared.tags.Tag.{Tag}
use Rattle.xml_grammar.specs.declared.tokens.Token.{Token}
use Rattle.xml_grammar.specs.declared.tokens.Token.TheVariants as tokens
use Rattle.xml_grammar.specs.Pieces.{Declaration}
use Rattle.xml_grammar.specs.Scopes.{same_qname}
use Rattle.xml_grammar.specs.Nesting.{is_foreign}
use Rattle.xmp_xml.specs.declared.builder.Builder.{Builder}
use Rattle.xmp_xml.specs.declared.tags.Tagged.{Tagged}
use Rattle.xmp_xml.specs.Building.{is_nil, passed, with_text, within, with_frame, closed, closed_if}
use Rattle.xmp_xml.specs.Document.{Fault, run_step}
use Rattle.xmp_xml.specs.Tagging.{inside_of, tagged}

abbrev pub declaration_step : Builder → ℕ → Option (List ℕ) → Result Builder Fault
declaration_step s at encoding = if is_foreign (Declaration encoding) then Err (Encoding, at) else Ok (passed s)

-- text that may not stand outside the root
abbrev pub text_step : Builder → ℕ → List ℕ → Result Builder Fault
text_step s at text = if is_nil s.outer then Err (OutsideRoot, at) else Ok (with_text s text)

abbrev pub end_step : Builder → ℕ → QName → Result Builder Fault
end_step s at name =
    if is_nil s.outer then Err (OutsideRoot, at)
    else if same_qname s.top.spelled name then Ok (closed s)
    else Err (Mismatch, at)

-- the least rule that a tag breaks: outside the root or not, with a root or not, at a depth
abbrev pub tag_rule : Bool → Bool → ℕ → Tagged → Option Rule
tag_rule outside rooted depth t =
    if outside && rooted then Some OutsideRoot
    else if t.misbound then Some BadNamespace
    else if t.unbound then Some UnboundPrefix
    else if t.twice then Some TwiceAttribute
    else if nat_le 100 depth then Some TooDeep
    else None

abbrev pub begun : Builder → Tagged → Builder
begun s t = closed_if t.empty (with_frame s t.frame t.hints)

abbrev pub begun_unless : Builder → ℕ → Tagged → Option Rule → Result Builder Fault
begun_unless s at t None = Ok (begun s t)
begun_unless s at t (Some r) = Err (r, at)

abbrev pub tagged_step : Builder → ℕ → Tagged → Result Builder Fault
tagged_step s at t = begun_unless s at t (tag_rule (is_nil s.outer) (is_some s.root) (length s.outer) t)

abbrev pub start_step : Builder → ℕ → Tag → Result Builder Fault
start_step s at tag = tagged_step (within s (inside_of s tag)) at (tagged s at tag)

abbrev pub step_of : Builder → ℕ → Token → Result Builder Fault
step_of s at (tokens.Declaration encoding) = declaration_step s at encoding
step_of s at tokens.Instruction = Ok (passed s)
step_of s at tokens.Comment = Ok (passed s)
step_of s at (tokens.Cdata text) = text_step s at text
step_of s at (tokens.Start tag) = start_step s at tag
step_of s at (tokens.End name) = end_step s at name
step_of s at (tokens.Reference c) = text_step s at (encode_utf8 c)
step_of s at tokens.LineEnd = Ok (with_text s (0xA ∷ []))
step_of s at (tokens.Run text) = run_step s at text

-- the places inside a run fit
abbrev pub FitsAt : ℕ → Token → Type 0
FitsAt at (tokens.Run text) = at + length text < 2 ^ 64
FitsAt at token = Unit {0}
