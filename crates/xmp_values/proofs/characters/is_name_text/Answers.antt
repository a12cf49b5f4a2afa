use Rattle.std.proofs.Common.{◌≡◌, ◌++◌, ◌∙◌, ap, sym, true}
use Rattle.std.specs.Prelude.{encode_utf8, ◌&&◌}
use Rattle.std.specs.List.{list_all}
use Rattle.std.specs.Str.{chars}
use Rattle.std.proofs.lemmas.Str.{chars_past_char}
use Rattle.xmp_values.specs.Characters.{is_name_start, is_name_char, is_name_of}
use Rattle.xmp_values.proofs.characters.is_name_text.Goals as goal

pub returns-then-is_name_start : goal.returns-then-is_name_start
returns-then-is_name_start c =
    let text = c.args.text.now in
    let first = c.in-Some.first in
    let after = c.as_str.result.now in
    let cut : text ≡ encode_utf8 first ++ after = cc (c.in-Some.ensures.steps.0, c.chars-characters.ensures.rest, c.as_str.ensures) in
    let split = ap is_name_of (chars_past_char text after first c.utf8.text cut) in
    let starts : is_name_start first ≡ true = cc (c.is_name_start.ensures, c.if-is_name_start.true) in
    c.has_name_chars_alone.ensures ∙ sym (split ∙ ap (λ s. s && list_all is_name_char (chars after)) starts)
