-- Every text has a document or a first fault: going from token to token ends with one of them.
use Rattle.std.proofs.Common.{◌≡◌, ◌≢◌, ◌⊎◌, ℕ, ◌+◌, ◌-◌, ◌<◌, ◌≤◌, suc, zero, Bool, true, false, eqb, ◌&&◌, List, [], ◌∷◌, length, Option, Some, None, Result, Ok, Err, refl, ap, ◌∙◌, length-append, inl, inr, arith}
use Rattle.std.specs.Prelude.{chars}
use Rattle.std.specs.Str.{IsUtf8, is_utf8}
use Rattle.std.specs.Str.Lossy.{utf8_valid_len}
use Rattle.std.proofs.lemmas.Bool.{eqb-true}
use Rattle.std.proofs.lemmas.Str.{IsUtf8-from_is_utf8, is_utf8-from_IsUtf8}
use Rattle.xmp_values.specs.declared.hints.Hint.{Hint}
use Rattle.xmp_values.specs.declared.rules.Rule.{Rule}
use Rattle.xmp_values.specs.declared.rules.Rule.TheVariants.{Utf16, NotUtf8}
use Rattle.xml_grammar.specs.declared.elements.Element.{Element}
use Rattle.xml_grammar.specs.declared.tokens.Mode.{Mode}
use Rattle.xml_grammar.specs.declared.tokens.Token.{Token}
use Rattle.xml_grammar.specs.Pieces.{Piece}
use Rattle.xml_tokenizer.specs.Rows.{StandsRow, later, pieces_of, IsSpelled}
use Rattle.xml_grammar.specs.Nesting.{mode_of}
use Rattle.xml_grammar.specs.Documents.{width, after_mark, IsDocument, IsUtf16, IsFault}
use Rattle.xml_grammar.proofs.OnePiece.{stands_some}
use Rattle.xml_grammar.proofs.Splits.{both, not_both}
use Rattle.xml_tokenizer.specs.Faults.{rule_at}
use Rattle.xml_tokenizer.specs.Tokens.{token_at}
use Rattle.xml_tokenizer.proofs.FaultLaws.{fails_by}
use Rattle.xml_tokenizer.proofs.TokenLaws.{token_takes, token_spelled, token_none}
use Rattle.xmp_xml.specs.declared.builder.Builder.{Builder}
use Rattle.xmp_xml.specs.Building.{start, nest_of}
use Rattle.xmp_xml.specs.Document.{Fault, Contents, token_step, Takes, finish}
use Rattle.xmp_xml.proofs.Reached.{Reached}
use Rattle.xmp_xml.proofs.Starts.{reached_start}
use Rattle.xmp_xml.proofs.Documents.{reached_next, document_from}
use Rattle.xmp_xml.proofs.Faults.{fault_at_end, fault_from}

abbrev pub IsDecided : List ℕ → Type 0
IsDecided text = ((root : Element) × (hints : List Hint) × IsDocument text root hints) ⊎ ((r : Rule) × (place : ℕ) × IsFault text r place)

-- ---- a token

takes : (s : Builder) (token : Token) (cs left : List ℕ) → StandsRow (mode_of (nest_of s)) (pieces_of token) cs left → pieces_of token ≢ [] → IsSpelled token → Takes s token cs left
takes s token cs left h some spelled = record { stands = h; some = some; spelled = spelled }

-- a token takes one character at least
shorter : (mode : Mode) (ps : List Piece) (cs left : List ℕ) → StandsRow mode ps cs left → ps ≢ [] → length left < length cs
shorter mode [] cs left h some = absurd (some refl)
shorter mode (p ∷ ps) cs left (front, back, stands, more, is) some =
    let long = stands_some mode p front back stands in
    let rest = within (later mode) ps back left more in
    let whole : length cs ≡ length front + length back = ap length is ∙ length-append front back in
    omega arith
  where
    within : (mode : Mode) (ps : List Piece) (cs left : List ℕ) → StandsRow mode ps cs left → length left ≤ length cs
    within mode [] cs left h = let e : length cs ≡ length left = ap length h in omega arith
    within mode (p ∷ ps) cs left (front, back, stands, more, is) =
        let rest = within (later mode) ps back left more in
        let whole : length cs ≡ length front + length back = ap length is ∙ length-append front back in
        omega arith

-- ---- from token to token

ended : (text : List ℕ) (s : Builder) → IsUtf8 text → Reached text s [] → IsDecided text
ended text s u k = by (finish s (length text)) refl
  where
    by : (r : Result Contents Fault) → finish s (length text) ≡ r → IsDecided text
    by (Ok x) e = inl (x.0, x.1, document_from text s x.0 x.1 u k e)
    by (Err f) e = inr (f.0, f.1, fault_at_end text s f.0 f.1 u k e)

-- the fuel is as long as what is left
walk : (fuel : ℕ) (text cs : List ℕ) (s : Builder) → IsUtf8 text → Reached text s cs → length cs ≤ fuel → IsDecided text
walk fuel text [] s u k low = ended text s u k
walk zero text (c ∷ cs) s u k low = absurd (omega arith)
walk (suc fuel) text (c ∷ cs) s u k low = by_token (token_at mode (c ∷ cs)) refl (λ left next reached less. walk fuel text left next u reached less)
  where
    mode : Mode
    mode = mode_of (nest_of s)

    at : ℕ
    at = length text - width (c ∷ cs)

    Goes : Type 0
    Goes = (left : List ℕ) (next : Builder) → Reached text next left → length left ≤ fuel → IsDecided text

    by_step : (token : Token) (left : List ℕ) → Takes s token (c ∷ cs) left → length left ≤ fuel → (r : Result Builder Fault) → token_step s at token ≡ r → Goes → IsDecided text
    by_step token left h less (Ok next) e go = go left next (reached_next text (c ∷ cs) left s next u k (token, h, e)) less
    by_step token left h less (Err f) e go = inr (f.0, f.1, fault_from text (c ∷ cs) s f.0 f.1 u k (inr (token, left, h, e)))

    by_token : (o : Option (Token × List ℕ)) → token_at mode (c ∷ cs) ≡ o → Goes → IsDecided text
    by_token None e go = inr (rule_at (c ∷ cs), at, fault_from text (c ∷ cs) s (rule_at (c ∷ cs)) at u k (inl ((token_none mode (c ∷ cs) e, fails_by (nest_of s) (c ∷ cs) (λ none. cc) e), refl)))
    by_token (Some x) e go =
        let t = token_takes mode (c ∷ cs) x e in
        let less = shorter mode (pieces_of x.0) (c ∷ cs) x.1 t.0 t.1 in
        by_step x.0 x.1 (takes s x.0 (c ∷ cs) x.1 t.0 t.1 (token_spelled mode (c ∷ cs) x e)) (omega arith) (token_step s at x.0) refl go

-- ---- UTF-16 and UTF-8

marked : (text : List ℕ) → IsUtf16 text ⊎ (IsUtf16 text → ⊥)
marked [] = inr (λ h. none h)
  where
    none : IsUtf16 [] → ⊥
    none (inl (rest, e)) = cc
    none (inr (rest, e)) = cc
marked (x ∷ []) = inr (λ h. none h)
  where
    none : IsUtf16 (x ∷ []) → ⊥
    none (inl (rest, e)) = cc
    none (inr (rest, e)) = cc
marked (x ∷ y ∷ more) = by (eqb x 0xFE && eqb y 0xFF) refl (eqb x 0xFF && eqb y 0xFE) refl
  where
    by : (a : Bool) → (eqb x 0xFE && eqb y 0xFF) ≡ a → (b : Bool) → (eqb x 0xFF && eqb y 0xFE) ≡ b → IsUtf16 (x ∷ y ∷ more) ⊎ (IsUtf16 (x ∷ y ∷ more) → ⊥)
    by true h b k = let same = both (eqb x 0xFE) (eqb y 0xFF) h in inl (inl (more, λ i. eqb-true x 0xFE same.0 i ∷ eqb-true y 0xFF same.1 i ∷ more))
    by false h true k = let same = both (eqb x 0xFF) (eqb y 0xFE) k in inl (inr (more, λ i. eqb-true x 0xFF same.0 i ∷ eqb-true y 0xFE same.1 i ∷ more))
    by false h false k = inr (λ m. none m)
      where
        none : IsUtf16 (x ∷ y ∷ more) → ⊥
        none (inl (rest, e)) = cc
        none (inr (rest, e)) = cc

pub decided : (text : List ℕ) → IsDecided text
decided text = by (marked text) (is_utf8 text) refl
  where
    by : IsUtf16 text ⊎ (IsUtf16 text → ⊥) → (b : Bool) → is_utf8 text ≡ b → IsDecided text
    by (inl h) b e = inr (Utf16, 0, (h, refl))
    by (inr h) true e = walk (length (after_mark (chars text))) text (after_mark (chars text)) start (IsUtf8-from_is_utf8 text e) (reached_start text) (omega arith)
    by (inr h) false e = inr (NotUtf8, utf8_valid_len text, (h, (λ u. not_both (is_utf8 text) (is_utf8-from_IsUtf8 text u) e), refl))
