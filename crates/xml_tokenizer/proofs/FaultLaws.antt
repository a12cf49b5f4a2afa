-- Which rule holds where no piece stands.
use Rattle.std.proofs.Common.{◌≡◌, ◌≢◌, ℕ, Bool, true, false, cond, eqb, ◌&&◌, List, [], ◌∷◌, Option, Some, None, refl, sym, ap, subst, ◌∙◌, inl, inr}
use Rattle.std.specs.Prelude.{is_some, codes, encode_utf8_all}
use Rattle.std.proofs.lemmas.Bool.{eqb-true}
use Rattle.xmp_values.specs.Characters.{is_char}
use Rattle.xmp_values.specs.declared.rules.Rule.{Rule}
use Rattle.xmp_values.specs.declared.rules.Rule.TheVariants.{BadChar, Doctype, BadReference, BadTag, BadComment, BadInstruction, BadCdata}
use Rattle.xml_grammar.specs.declared.tokens.Token.{Token}
use Rattle.xml_grammar.specs.declared.tokens.Token.TheVariants as tokens
use Rattle.xml_grammar.specs.Spelling.{BeginsWith}
use Rattle.xml_grammar.specs.Pieces.{HasPiece}
use Rattle.xml_grammar.specs.Nesting.{Nest, mode_of}
use Rattle.xml_grammar.specs.Documents.{Holds, IsRule}
use Rattle.xml_grammar.proofs.OneMeaning.{told_rule}
use Rattle.xml_grammar.proofs.Splits.{both}
use Rattle.xml_tokenizer.specs.Faults.{markup_rule, rule_at}
use Rattle.xml_tokenizer.specs.References.{reference_at}
use Rattle.xml_tokenizer.specs.Runs.{begins}
use Rattle.xml_tokenizer.specs.Steps.{◌>>=◌}
use Rattle.xml_tokenizer.specs.Tokens.{is_start, is_inside, markup_at, starts_plain, plain_front, plain_back, run_at, token_at}
use Rattle.xml_tokenizer.specs.Values.{past_feed}
use Rattle.xml_tokenizer.proofs.TokenLaws.{inside_is, begun, char_plain, token_none}
use Rattle.xml_tokenizer.proofs.Words.{after_again}

not_begun : (word cs : List ℕ) → begins word cs ≡ false → BeginsWith word cs → ⊥
not_begun word cs h (rest, e) =
    let k : begins word cs ≡ true = ap (begins word) e ∙ ap is_some (after_again word rest) in
    cc

after_less : (word cs : List ℕ) → BeginsWith word cs → BeginsWith (60 ∷ word) (60 ∷ cs)
after_less word cs (rest, e) = (rest, ap (λ (t : List ℕ). 60 ∷ t) e)

less_after : (word cs : List ℕ) → BeginsWith (60 ∷ word) (60 ∷ cs) → BeginsWith word cs
less_after word cs (rest, e) = (rest, cc)

markup_fails : (s : Nest) (cs : List ℕ) → (HasPiece (mode_of s) (60 ∷ cs) → ⊥) → Holds s (60 ∷ cs) (markup_rule cs)
unfolding markup_rule
markup_fails s cs none = by_doctype (begins (codes "!DOCTYPE") cs) refl
  where
    by_cdata : (a b c d : Bool) → begins (codes "!DOCTYPE") cs ≡ false → begins (codes "!--") cs ≡ false → begins (codes "?") cs ≡ false → begins (codes "![CDATA[") cs ≡ d → Holds s (60 ∷ cs) (cond d BadCdata BadTag)
    by_cdata a b c true x y z h = (after_less (codes "![CDATA[") cs (begun (codes "![CDATA[") cs h), none)
    by_cdata a b c false x y z h = (((cs, refl), none), (λ k. not_begun (codes "!DOCTYPE") cs x (less_after (codes "!DOCTYPE") cs k)), (λ k. not_begun (codes "!--") cs y (less_after (codes "!--") cs k)), (λ k. not_begun (codes "?") cs z (less_after (codes "?") cs k)), (λ k. not_begun (codes "![CDATA[") cs h (less_after (codes "![CDATA[") cs k)))

    by_question : (c : Bool) → begins (codes "!DOCTYPE") cs ≡ false → begins (codes "!--") cs ≡ false → begins (codes "?") cs ≡ c → Holds s (60 ∷ cs) (cond c BadInstruction (cond (begins (codes "![CDATA[") cs) BadCdata BadTag))
    by_question true x y h = (after_less (codes "?") cs (begun (codes "?") cs h), none)
    by_question false x y h = by_cdata false false false (begins (codes "![CDATA[") cs) x y h refl

    by_comment : (b : Bool) → begins (codes "!DOCTYPE") cs ≡ false → begins (codes "!--") cs ≡ b → Holds s (60 ∷ cs) (cond b BadComment (cond (begins (codes "?") cs) BadInstruction (cond (begins (codes "![CDATA[") cs) BadCdata BadTag)))
    by_comment true x h = (after_less (codes "!--") cs (begun (codes "!--") cs h), none)
    by_comment false x h = by_question (begins (codes "?") cs) x h refl

    by_doctype : (a : Bool) → begins (codes "!DOCTYPE") cs ≡ a → Holds s (60 ∷ cs) (cond a Doctype (cond (begins (codes "!--") cs) BadComment (cond (begins (codes "?") cs) BadInstruction (cond (begins (codes "![CDATA[") cs) BadCdata BadTag))))
    by_doctype true h = after_less (codes "!DOCTYPE") cs (begun (codes "!DOCTYPE") cs h)
    by_doctype false h = by_comment (begins (codes "!--") cs) h refl

run_fails : (s : Nest) (c : ℕ) (cs : List ℕ) → eqb c 60 ≡ false → eqb c 38 ≡ false → eqb c 13 ≡ false → run_at (is_inside (mode_of s)) (c ∷ cs) ≡ None → Holds s (c ∷ cs) BadChar
unfolding run_at
run_fails s c cs less amp return e = by_char (is_char c) refl (is_inside (mode_of s) && begins (codes "]]>") (c ∷ cs)) refl
  where
    by_char : (u : Bool) → is_char c ≡ u → (v : Bool) → (is_inside (mode_of s) && begins (codes "]]>") (c ∷ cs)) ≡ v → Holds s (c ∷ cs) BadChar
    by_char false h v k = inl (c, cs, h, refl)
    by_char true h true k = let b = both (is_inside (mode_of s)) (begins (codes "]]>") (c ∷ cs)) k in inr (inside_is (mode_of s) b.0, begun (codes "]]>") (c ∷ cs) b.1)
    by_char true h false k =
        let starts : starts_plain (is_inside (mode_of s)) (c ∷ cs) ≡ true = rw (char_plain c (record { char = h; less = less; amp = amp; return = return }), k) refl in
        let bad = sym (ap (λ (v : Bool). cond {A = Option (Token × List ℕ)} v (Some (tokens.Run (encode_utf8_all (plain_front (is_inside (mode_of s)) (c ∷ cs))), plain_back (is_inside (mode_of s)) (c ∷ cs))) None) starts) ∙ e in
        absurd cc

-- it holds where nothing is read at the front
held_by : (s : Nest) (cs : List ℕ) → cs ≢ [] → token_at (mode_of s) cs ≡ None → Holds s cs (rule_at cs)
unfolding token_at rule_at
held_by s [] some e = absurd (some refl)
held_by s (c ∷ cs) some e = by_less (eqb c 60) refl e (token_none (mode_of s) (c ∷ cs) e)
  where
    at_char : (n : ℕ) (r : Rule) → eqb c n ≡ true → Holds s (n ∷ cs) r → Holds s (c ∷ cs) r
    at_char n r h t = subst (λ (d : ℕ). Holds s (d ∷ cs) r) (sym (eqb-true c n h)) t

    by_return : (v : Bool) → eqb c 60 ≡ false → eqb c 38 ≡ false → eqb c 13 ≡ v → cond {A = Option (Token × List ℕ)} v (Some (tokens.LineEnd, past_feed cs)) (run_at (is_inside (mode_of s)) (c ∷ cs)) ≡ None → Holds s (c ∷ cs) BadChar
    by_return true less amp h k = absurd cc
    by_return false less amp h k = run_fails s c cs less amp h k

    by_amp : (v : Bool) → eqb c 60 ≡ false → eqb c 38 ≡ v → cond v (reference_at cs >>= λ y. Some (tokens.Reference y.0, y.1)) (cond (eqb c 13) (Some (tokens.LineEnd, past_feed cs)) (run_at (is_inside (mode_of s)) (c ∷ cs))) ≡ None
        → (HasPiece (mode_of s) (c ∷ cs) → ⊥) → Holds s (c ∷ cs) (cond v BadReference BadChar)
    by_amp true less h k none = ((cs, ap (λ (d : ℕ). d ∷ cs) (eqb-true c 38 h)), none)
    by_amp false less h k none = by_return (eqb c 13) less h refl k

    by_less : (v : Bool) → eqb c 60 ≡ v → cond v (markup_at (is_start (mode_of s)) cs) (cond (eqb c 38) (reference_at cs >>= λ y. Some (tokens.Reference y.0, y.1)) (cond (eqb c 13) (Some (tokens.LineEnd, past_feed cs)) (run_at (is_inside (mode_of s)) (c ∷ cs)))) ≡ None
        → (HasPiece (mode_of s) (c ∷ cs) → ⊥) → Holds s (c ∷ cs) (cond v (markup_rule cs) (cond (eqb c 38) BadReference BadChar))
    by_less true h k none =
        let same : c ≡ 60 = eqb-true c 60 h in
        at_char 60 (markup_rule cs) h (markup_fails s cs (subst (λ (d : ℕ). HasPiece (mode_of s) (d ∷ cs) → ⊥) same none))
    by_less false h k none = by_amp (eqb c 38) h refl k none

-- and is the one for the text
pub fails_by : (s : Nest) (cs : List ℕ) → cs ≢ [] → token_at (mode_of s) cs ≡ None → IsRule s cs (rule_at cs)
fails_by s cs some e = told_rule s cs (rule_at cs) (token_none (mode_of s) cs e) (held_by s cs some e)
