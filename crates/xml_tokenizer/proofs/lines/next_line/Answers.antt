use Rattle.std.proofs.Common.{◌∷◌, ◌++◌, ◌+◌, ℕ, List, length, drop, ◌∙◌, sym, ap, subst, arith}
use Rattle.std.specs.Str.{chars}
use Rattle.memchr.specs.Find.{IsFirstByte, is_byte}
use Rattle.xml_grammar.specs.Spelling.{line_ends}
use Rattle.xml_tokenizer.specs.Values.{past_feed}
use Rattle.xml_tokenizer.proofs.LineEnds.{no_returns, first_line}
use Rattle.xml_tokenizer.proofs.lines.next_line.Goals as goal

pub returns-in_default-clause-none : goal.returns-in_default-clause-none
returns-in_default-clause-none c =
    let f = subst (λ (t : List ℕ). IsFirstByte (is_byte 13) t c.memchr.result) c.as_bytes.ensures.value c.memchr.ensures in
    no_returns c.args.text.now c.utf8.text (subst (IsFirstByte (is_byte 13) c.args.text.now) c.in_default.is f)

pub split_at-requires-2 : goal.split_at-requires-2
split_at-requires-2 c =
    let f = subst (λ (t : List ℕ). IsFirstByte (is_byte 13) t c.memchr.result) c.as_bytes.ensures.value c.memchr.ensures in
    let g = subst (IsFirstByte (is_byte 13) c.args.text.now) c.in-Some.is f in
    (first_line c.args.text.now c.in-Some.at c.utf8.text g.0 g.1).back

pub returns-clause-some : goal.returns-clause-some
returns-clause-some c =
    let f = subst (λ (t : List ℕ). IsFirstByte (is_byte 13) t c.memchr.result) c.as_bytes.ensures.value c.memchr.ensures in
    let g = subst (IsFirstByte (is_byte 13) c.args.text.now) c.in-Some.is f in
    let l = first_line c.args.text.now c.in-Some.at c.utf8.text g.0 g.1 in
    let next = c.after_feed.ensures ∙ ap (λ (t : List ℕ). past_feed (chars t)) c.split_at-2.ensures.back in
    l.ends ∙ ap (λ (t : List ℕ). chars t ++ 10 ∷ line_ends (past_feed (chars (drop (c.in-Some.at + 1) c.args.text.now)))) (sym c.split_at.ensures.front) ∙ ap (λ (t : List ℕ). chars c.split_at.result.0.now ++ 10 ∷ line_ends t) (sym next)

pub returns-clause-shorter : goal.returns-clause-shorter
returns-clause-shorter c =
    let f = subst (λ (t : List ℕ). IsFirstByte (is_byte 13) t c.memchr.result) c.as_bytes.ensures.value c.memchr.ensures in
    let g = subst (IsFirstByte (is_byte 13) c.args.text.now) c.in-Some.is f in
    let l = first_line c.args.text.now c.in-Some.at c.utf8.text g.0 g.1 in
    let next = c.after_feed.ensures ∙ ap (λ (t : List ℕ). past_feed (chars t)) c.split_at-2.ensures.back in
    omega (arith, ap length next, l.shorter)
