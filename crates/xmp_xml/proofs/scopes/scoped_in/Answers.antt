use Rattle.std.proofs.Common.{◌∙◌, sym}
use Rattle.xmp_xml.proofs.InForce.{place_get, place_none}
use Rattle.xmp_xml.proofs.scopes.scoped_in.Goals as goal

pub returns-in-Some : goal.returns-in-Some
returns-in-Some c = c.get-in-Some.ensures ∙ place_get c.args.stack.now c.args.prefix.now c.in-Some.place (sym (c.requires.found c.args.prefix.now) ∙ sym c.in-Some.ensures)

pub returns-in-None : goal.returns-in-None
returns-in-None c = sym (place_none c.args.stack.now c.args.prefix.now (sym (c.requires.found c.args.prefix.now) ∙ sym c.in-None.ensures))
