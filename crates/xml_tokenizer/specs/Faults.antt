-- The rule for a text at whose front no piece stands.
use Rattle.std.specs.Prelude.{ℕ, List, [], ◌∷◌, ◌==◌, codes, if◌then◌else◌}
use Rattle.xmp_values.specs.declared.rules.Rule.{Rule}
use Rattle.xmp_values.specs.declared.rules.Rule.TheVariants.{BadChar, Doctype, BadReference, BadTag, BadComment, BadInstruction, BadCdata, Unfinished}
use Rattle.xml_tokenizer.specs.Runs.{begins}

-- after `<`
unfoldable pub markup_rule : List ℕ → Rule
markup_rule cs =
    if begins (codes "!DOCTYPE") cs then Doctype
    else if begins (codes "!--") cs then BadComment
    else if begins (codes "?") cs then BadInstruction
    else if begins (codes "![CDATA[") cs then BadCdata
    else BadTag

-- by what the text begins with
unfoldable pub rule_at : List ℕ → Rule
rule_at [] = Unfinished
rule_at (c ∷ cs) = if c == 60 then markup_rule cs else if c == 38 then BadReference else BadChar
