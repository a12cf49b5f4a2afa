use Rattle.std.proofs.Common.{List, ℕ, ◌∙◌, sym, ap, subst}
use Rattle.std.specs.Str.{chars}
use Rattle.std.proofs.lemmas.Str.{chars-nil}
use Rattle.memchr.specs.Find.{IsFirstByte}
use Rattle.xml_tokenizer.proofs.RunEnds.{is_end, end_low, before_byte, without_byte}
use Rattle.xml_tokenizer.proofs.searches.until_markup.Goals as goal

pub returns-in-Some-clause-front : goal.returns-in-Some-clause-front
returns-in-Some-clause-front c =
    let f = subst (λ (t : List ℕ). IsFirstByte is_end t c.memchr3.result) c.as_bytes.ensures.value c.memchr3.ensures in
    let g = subst (IsFirstByte is_end c.args.text.now) c.in-Some.is f in
    ap chars c.split_at.ensures.front ∙ sym (before_byte is_end end_low c.args.text.now c.in-Some.at c.utf8.text g.0 g.1).0

pub returns-in-Some-clause-rest : goal.returns-in-Some-clause-rest
returns-in-Some-clause-rest c =
    let f = subst (λ (t : List ℕ). IsFirstByte is_end t c.memchr3.result) c.as_bytes.ensures.value c.memchr3.ensures in
    let g = subst (IsFirstByte is_end c.args.text.now) c.in-Some.is f in
    ap chars c.split_at.ensures.back ∙ sym (before_byte is_end end_low c.args.text.now c.in-Some.at c.utf8.text g.0 g.1).1

pub returns-in-None-clause-front : goal.returns-in-None-clause-front
returns-in-None-clause-front c =
    let f = subst (λ (t : List ℕ). IsFirstByte is_end t c.memchr3.result) c.as_bytes.ensures.value c.memchr3.ensures in
    sym (without_byte is_end end_low c.args.text.now c.utf8.text (subst (IsFirstByte is_end c.args.text.now) c.in-None.is f)).0

pub returns-in-None-clause-rest : goal.returns-in-None-clause-rest
returns-in-None-clause-rest c =
    let f = subst (λ (t : List ℕ). IsFirstByte is_end t c.memchr3.result) c.as_bytes.ensures.value c.memchr3.ensures in
    chars-nil ∙ sym (without_byte is_end end_low c.args.text.now c.utf8.text (subst (IsFirstByte is_end c.args.text.now) c.in-None.is f)).1
