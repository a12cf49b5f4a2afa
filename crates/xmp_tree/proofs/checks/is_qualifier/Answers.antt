use Rattle.xmp_tree.proofs.KnownNames.{lang_not_type}
use Rattle.xmp_tree.proofs.checks.is_qualifier.Goals as goal

pub returns-then-is_lang : goal.returns-then-is_lang
returns-then-is_lang c =
    let is_lang = c.is_lang.ensures.0 c.if-is_lang.true in (
      λ plain. record {
        own = λ not_lang not_type. absurd (not_lang is_lang);
        lang = λ same. c.is_plain.ensures.0 plain;
        kind = λ is_type. absurd (lang_not_type _ is_lang is_type);
      },
      λ h. c.is_plain.ensures.1 (h.lang is_lang),
    )
