use Rattle.std.proofs.Common.{◌∙◌, List, ap}
use Rattle.std.specs.Option.{option_map}
use Rattle.xml_grammar.specs.Scopes.{Binding, bound_to}
use Rattle.xmp_xml.specs.declared.scopes.Scoped.{Scoped}
use Rattle.xmp_xml.proofs.InForce.{scoped_bound}
use Rattle.xmp_xml.proofs.scopes.Scope.bound_to.Goals as goal

pub returns-in-Some : goal.returns-in-Some
returns-in-Some c =
    ap (option_map (λ (b : Scoped). b.space)) c.in-Some.ensures
    ∙ scoped_bound c.self.inside.stack c.args.prefix.now
    ∙ ap (λ (bs : List Binding). bound_to bs c.args.prefix.now) c.self.view_is

pub returns-in-None : goal.returns-in-None
returns-in-None c =
    ap (option_map (λ (b : Scoped). b.space)) c.in-None.ensures
    ∙ scoped_bound c.self.inside.stack c.args.prefix.now
    ∙ ap (λ (bs : List Binding). bound_to bs c.args.prefix.now) c.self.view_is
