use Rattle.std.proofs.Common.{◌∙◌, ap, sym, subst}
use Rattle.std.specs.List.{prefix_len}
use Rattle.xml_tokenizer.specs.Classes.{has, is_sure}
use Rattle.xml_tokenizer.specs.Runs.{Passes}
use Rattle.xml_tokenizer.proofs.Sure.{skips_of}
use Rattle.xml_tokenizer.proofs.runs.past_sure.Goals as goal

pub split_at-requires : goal.split_at-requires
split_at-requires c = (skips_of c.args.class c.args.text.now c.sure_len.result c.utf8.text (c.sure_len.ensures.run ∙ ap (prefix_len (is_sure c.args.class)) c.as_bytes.ensures.value)).boundary

pub returns : goal.returns
returns c =
    let s = skips_of c.args.class c.args.text.now c.sure_len.result c.utf8.text (c.sure_len.ensures.run ∙ ap (prefix_len (is_sure c.args.class)) c.as_bytes.ensures.value) in
    subst (Passes (has c.args.class) c.args.text.now) (sym c.split_at.ensures.back) s.passes
