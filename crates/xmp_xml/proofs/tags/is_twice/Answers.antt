use Rattle.std.proofs.Common.{◌||◌, ◌∙◌, Bool, not, map, sym, ap}
use Rattle.std.proofs.Math.Bool.{not-not}
use Rattle.std.proofs.Math.Bool.{not-not}
use Rattle.xml_grammar.specs.Scopes.{expanded}
use Rattle.xml_grammar.specs.Nesting.{has_twice}
use Rattle.xmp_xml.specs.Tagging.{same_attribute}
use Rattle.xmp_xml.proofs.tags.is_twice.Goals as goal

pub returns : goal.returns
returns c =
    let twice = has_twice same_attribute (map (expanded c.args.scope.now) c.args.plain.now) in
    ap not c.in_ok-are_apart.ensures ∙ not-not twice ∙ sym (ap (λ (b : Bool). b || twice) c.if-again.false)
