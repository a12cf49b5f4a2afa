use Rattle.std.proofs.Common.{◌∙◌, ap, rules, tests}
use Rattle.std.specs.Prelude.{not, filter}
use Rattle.std.specs.List.{list_any}
use Rattle.std.specs.Str.{bytes_eq}
use Rattle.std.proofs.lemmas.Fn.{filter_same}
use Rattle.xmp_values.specs.declared.hints.Hint.{Hint}
use Rattle.xmp_rdf.proofs.hints.hints_apart.Goals as goal

pub returns : goal.returns
returns c =
    let is_apart = λ (h : Hint). not (list_any (bytes_eq h.space) c.args.spaces.now) in
    c.from_vec.ensures
    ∙ filter_same _ is_apart _ (λ x b f' k. search (rules, tests)) _ _ c.retain.ensures.filtered
    ∙ ap (filter is_apart) (c.into_vec-apart.ensures ∙ c.into_sequence.ensures)
