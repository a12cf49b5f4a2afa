use Rattle.std.proofs.Common.{◌∙◌, ap, rules, tests}
use Rattle.std.specs.Prelude.{not}
use Rattle.std.proofs.lemmas.Fn.{filter_same}
use Rattle.rdf_forms.specs.Values.{is_value_member, other_members}
use Rattle.xmp_rdf.proofs.values.other_members.Goals as goal

pub returns : goal.returns
returns c =
    c.from_vec.ensures
    ∙ filter_same _ (λ m. not (is_value_member m)) _ (λ x b f' k. search (rules, tests)) _ _ c.retain.ensures.filtered
    ∙ ap other_members c.into_vec-others.ensures
