use Rattle.std.proofs.Common.{List, ℕ, ◌∙◌, sym, ap, subst}
use Rattle.std.specs.Str.{chars}
use Rattle.std.proofs.lemmas.Str.{chars-nil}
use Rattle.memchr.specs.Find.{IsFirstByte, is_byte}
use Rattle.xml_tokenizer.proofs.RunEnds.{byte_low, before_byte, without_byte}
use Rattle.xml_tokenizer.proofs.searches.until.Goals as goal

pub returns-in-Some-clause-front : goal.returns-in-Some-clause-front
returns-in-Some-clause-front c =
    let f = subst (λ (t : List ℕ). IsFirstByte (is_byte c.args.byte) t c.memchr.result) c.as_bytes.ensures.value c.memchr.ensures in
    let g = subst (IsFirstByte (is_byte c.args.byte) c.args.text.now) c.in-Some.is f in
    ap chars c.split_at.ensures.front ∙ sym (before_byte (is_byte c.args.byte) (byte_low c.args.byte c.requires) c.args.text.now c.in-Some.at c.utf8.text g.0 g.1).0

pub returns-in-Some-clause-rest : goal.returns-in-Some-clause-rest
returns-in-Some-clause-rest c =
    let f = subst (λ (t : List ℕ). IsFirstByte (is_byte c.args.byte) t c.memchr.result) c.as_bytes.ensures.value c.memchr.ensures in
    let g = subst (IsFirstByte (is_byte c.args.byte) c.args.text.now) c.in-Some.is f in
    ap chars c.split_at.ensures.back ∙ sym (before_byte (is_byte c.args.byte) (byte_low c.args.byte c.requires) c.args.text.now c.in-Some.at c.utf8.text g.0 g.1).1

pub returns-in-None-clause-front : goal.returns-in-None-clause-front
returns-in-None-clause-front c =
    let f = subst (λ (t : List ℕ). IsFirstByte (is_byte c.args.byte) t c.memchr.result) c.as_bytes.ensures.value c.memchr.ensures in
    sym (without_byte (is_byte c.args.byte) (byte_low c.args.byte c.requires) c.args.text.now c.utf8.text (subst (IsFirstByte (is_byte c.args.byte) c.args.text.now) c.in-None.is f)).0

pub returns-in-None-clause-rest : goal.returns-in-None-clause-rest
returns-in-None-clause-rest c =
    let f = subst (λ (t : List ℕ). IsFirstByte (is_byte c.args.byte) t c.memchr.result) c.as_bytes.ensures.value c.memchr.ensures in
    chars-nil ∙ sym (without_byte (is_byte c.args.byte) (byte_low c.args.byte c.requires) c.args.text.now c.utf8.text (subst (IsFirstByte (is_byte c.args.byte) c.args.text.now) c.in-None.is f)).1
