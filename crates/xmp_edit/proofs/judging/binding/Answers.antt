use Rattle.std.proofs.Common.{◌∙◌, ap, sym, subst}
use Rattle.std.proofs.lemmas.Bool.{both_ways}
use Rattle.xmp_values.specs.Hints.{IsValidHint}
use Rattle.xmp_edit.specs.Judging.{is_chars}
use Rattle.xmp_edit.proofs.Judged.{valid_binding}
use Rattle.xmp_edit.proofs.judging.binding.Goals as goal

pub returns-clause-valid : goal.returns-clause-valid
returns-clause-valid c =
    let valid = valid_binding c.args.prefix.now c.args.uri.now c.requires.named c.requires.some
    (ap is_chars (sym c.bytes-2.ensures) ∙ sym c.is_chars.ensures ∙ c.if-not-is_chars.false)
    (λ e. both_ways c.is_xmlns_namespace.result c.if-is_xmlns_namespace.false (c.is_xmlns_namespace.ensures.1 (c.bytes-else-is_taken.ensures ∙ e))) in
    subst (λ s. IsValidHint record { space = s; prefix = c.in_ok-prefix.prefix }) (sym (c.in_ok-space.ensures ∙ c.bytes-3.ensures))
    (subst (λ p. IsValidHint record { space = c.args.uri.now; prefix = p }) (sym (c.in_ok-prefix.ensures ∙ c.bytes-4.ensures)) valid)
