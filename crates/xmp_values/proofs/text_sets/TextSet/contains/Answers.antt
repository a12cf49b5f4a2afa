use Rattle.xmp_values.proofs.TextPlaces.{is_there}
use Rattle.xmp_values.proofs.text_sets.TextSet.contains.Goals as goal

pub returns : goal.returns
returns c = is_there c.args.text.now c.self.inside.places c.self.inside.texts.items c.args.self.now c.self.view_is c.self.invariant c.contains_key.result c.contains_key.ensures
