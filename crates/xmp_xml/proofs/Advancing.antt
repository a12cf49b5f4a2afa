-- From one token to the next, as the reader's loop goes.
use Rattle.std.proofs.Common.{◌≡◌, ◌≢◌, ℕ, ◌+◌, ◌-◌, ◌≤◌, ◌<◌, ◌^◌, Bool, true, false, cond, eqb, List, [], ◌∷◌, ◌++◌, length, map, Result, Ok, Err, refl, sym, ap, subst, ◌∙◌, length-append, inl, inr, arith}
use Rattle.std.specs.Prelude.{chars, encode_utf8, encode_utf8_all, IfOk, IfErr}
use Rattle.std.specs.Str.{IsUtf8}
use Rattle.std.proofs.lemmas.Str.{chars-nil, encodes-chars}
use Rattle.xmp_values.specs.declared.hints.Hint.{Hint}
use Rattle.xmp_values.specs.declared.rules.Rule.{Rule}
use Rattle.xml_grammar.specs.declared.elements.Element.{Element}
use Rattle.xml_grammar.specs.declared.tokens.Mode.{Mode}
use Rattle.xml_grammar.specs.declared.tokens.Token.{Token}
use Rattle.xml_grammar.specs.declared.tokens.Token.TheVariants as tokens
use Rattle.xml_grammar.specs.Pieces.{Character, HasPiece}
use Rattle.xml_tokenizer.specs.Rows.{StandsRow, later, pieces_of, IsSpelled}
use Rattle.xml_grammar.specs.Nesting.{mode_of, mode_in}
use Rattle.xml_grammar.specs.Documents.{width, after_mark, IsDocument, IsFault}
use Rattle.xml_tokenizer.specs.Stands.{IsRuleIn}
use Rattle.xmp_values.specs.declared.stops.RuleStop.{RuleStop}
use Rattle.xmp_values.specs.declared.stops.RuleStop.TheVariants as rule_stops
use Rattle.xml_grammar.proofs.Rows.{width-append}
use Rattle.xml_grammar.proofs.OneMeaning.{one_document, one_fault, no_fault}
use Rattle.xmp_xml.specs.declared.builder.Frame.{Frame}
use Rattle.xmp_xml.specs.declared.builder.Builder.{Builder}
use Rattle.xmp_values.specs.declared.stops.PlaceStop.{PlaceStop}
use Rattle.xmp_values.specs.declared.stops.PlaceStop.TheVariants as stops
use Rattle.xmp_values.specs.Stops as words
use Rattle.xmp_values.specs.Stops.{place_of}
use Rattle.xmp_xml.specs.Building.{is_nil, levels_of, nest_of}
use Rattle.xmp_xml.specs.Document.{mode_by, Contents, Takes, Advances, Halts, finish}
use Rattle.xmp_xml.specs.Documents.{Document}
use Rattle.xmp_xml.specs.Steps.{step_of, FitsAt}
use Rattle.xmp_xml.specs.Reading.{AnswersDocument, AnswersFault}
use Rattle.xmp_xml.proofs.Stepping.{step_is}
use Rattle.xmp_xml.proofs.Reached.{Reached}
use Rattle.xmp_xml.proofs.Documents.{reached_next, document_from}
use Rattle.xmp_xml.proofs.Faults.{fault_at_end, fault_from}

-- ---- the token

row_text : (mode : Mode) (xs text left : List ℕ) → StandsRow mode (map Character xs) text left → text ≡ xs ++ left
row_text mode [] text left h = h
row_text mode (x ∷ xs) text left (front, back, stands, more, is) =
    let one : front ≡ x ∷ [] = stands.spelled.4 in
    is ∙ ap (λ (f : List ℕ). f ++ back) one ∙ ap (λ (t : List ℕ). x ∷ t) (row_text (later mode) xs back left more)

pub mode_is : (s : Builder) → mode_by (is_nil s.outer) s.first ≡ mode_of (nest_of s)
mode_is s = by s.first s.outer
  where
    by : (first : Bool) (os : List Frame) → mode_by (is_nil os) first ≡ mode_in first (levels_of s.top os s.scope)
    by true [] = refl
    by false [] = refl
    by true (o ∷ os) = refl
    by false (o ∷ os) = refl

-- a run is no longer than the text at whose front it stands
pub run_fits : (mode : Mode) (token : Token) (text rest : List ℕ) (at : ℕ) → IsUtf8 text → StandsRow mode (pieces_of token) (chars text) (chars rest) → IsSpelled token → at + length text < 2 ^ 64 → FitsAt at token
run_fits mode (tokens.Declaration encoding) text rest at u h spelled fits = tt
run_fits mode tokens.Instruction text rest at u h spelled fits = tt
run_fits mode tokens.Comment text rest at u h spelled fits = tt
run_fits mode (tokens.Cdata data_text) text rest at u h spelled fits = tt
run_fits mode (tokens.Start tag) text rest at u h spelled fits = tt
run_fits mode (tokens.End name) text rest at u h spelled fits = tt
run_fits mode (tokens.Reference c) text rest at u h spelled fits = tt
run_fits mode tokens.LineEnd text rest at u h spelled fits = tt
run_fits mode (tokens.Run run) text rest at u h spelled fits =
    let whole : width (chars text) ≡ width (chars run) + width (chars rest) = ap width (row_text mode (chars run) (chars text) (chars rest) h) ∙ width-append (chars run) (chars rest) in
    let own : width (chars run) ≡ length run = ap length spelled in
    let all : width (chars text) ≡ length text = ap length (encodes-chars text u) in
    omega arith

module _ (s : Builder) (at : ℕ) (mode : Mode) (token : Token) (text rest : List ℕ) (m : mode ≡ mode_by (is_nil s.outer) s.first)
    (h : StandsRow mode (pieces_of token) (chars text) (chars rest)) (some : pieces_of token ≢ []) (spelled : IsSpelled token) where
  takes_token : Takes s token (chars text) (chars rest)
  takes_token = record {
    stands = subst (λ (n : Mode). StandsRow n (pieces_of token) (chars text) (chars rest)) (m ∙ mode_is s) h;
    some = some;
    spelled = spelled;
  }

  pub advanced : (next : Builder) → step_of s at token ≡ Ok next → Advances s at (chars text) next (chars rest)
  advanced next is = (token, takes_token, sym (step_is s at token) ∙ is)

  pub halted : (stop : PlaceStop) → words.Stops place_of stop (λ f. step_of s at token ≡ Err f) → words.Stops place_of stop (λ f. Halts s at (chars text) f.0 f.1)
  halted stops.Memory f = tt
  halted (stops.Fault r place) f = inr (token, chars rest, takes_token, sym (step_is s at token) ∙ f)

pub no_token : (s : Builder) (at : ℕ) (mode : Mode) (cs : List ℕ) (stop : RuleStop) → mode ≡ mode_by (is_nil s.outer) s.first → cs ≢ [] → words.Stops words.rule_of stop (IsRuleIn mode cs) → words.Stops place_of (words.stop_at stop at) (λ f. Halts s at cs f.0 f.1)
no_token s at mode cs rule_stops.Memory m some f = tt
no_token s at mode cs (rule_stops.Fault r) m some f =
    let is : mode_of (nest_of s) ≡ mode = sym (m ∙ mode_is s) in
    inl ((subst (λ (n : Mode). HasPiece n cs → ⊥) (sym is) f.0, f.1 some (nest_of s) is), refl)

-- characters stand where bytes do
pub some_chars : (text : List ℕ) → IsUtf8 text → text ≢ [] → chars text ≢ []
some_chars text u some none = some (sym (encodes-chars text u) ∙ ap encode_utf8_all none)

-- ---- places

pub width_is : (text : List ℕ) → IsUtf8 text → width (chars text) ≡ length text
width_is text u = ap length (encodes-chars text u)

-- what is left after a mark
pub mark_within : (text rest : List ℕ) → IsUtf8 text → IsUtf8 rest → chars rest ≡ after_mark (chars text) → length rest ≤ length text
mark_within text rest u v e =
    let r : width (after_mark (chars text)) ≡ length rest = ap width (sym e) ∙ width_is rest v in
    let t = width_is text u in
    let w = unmarked (chars text) in
    omega arith
  where
    unmarked : (cs : List ℕ) → width (after_mark cs) ≤ width cs
    unmarked [] = omega arith
    unmarked (c ∷ cs) = by (eqb c 0xFEFF)
      where
        by : (v : Bool) → width (cond v cs (c ∷ cs)) ≤ width (c ∷ cs)
        by true = let both : width (c ∷ cs) ≡ length (encode_utf8 c) + width cs = length-append (encode_utf8 c) (encode_utf8_all cs) in omega arith
        by false = omega arith

-- ---- answers

pub advance_reached : (text rest left : List ℕ) (s next : Builder) (at : ℕ) → at ≡ length text - length rest → IsUtf8 text → IsUtf8 rest → Reached text s (chars rest) → Advances s at (chars rest) next (chars left) → Reached text next (chars left)
advance_reached text rest left s next at e u v reached h =
    let place : at ≡ length text - width (chars rest) = e ∙ ap (λ (n : ℕ). length text - n) (sym (width_is rest v)) in
    reached_next text (chars rest) (chars left) s next u reached (subst (λ (n : ℕ). Advances s n (chars rest) next (chars left)) place h)

pub stop_reached : (text rest : List ℕ) (s : Builder) (at : ℕ) (stop : PlaceStop) → at ≡ length text - length rest → IsUtf8 text → IsUtf8 rest → Reached text s (chars rest) → words.Stops place_of stop (λ f. Halts s at (chars rest) f.0 f.1) → words.Stops place_of stop (λ f. IsFault text f.0 f.1)
stop_reached text rest s at stops.Memory e u v reached h = tt
stop_reached text rest s at (stops.Fault r place) e u v reached h =
    let here : at ≡ length text - width (chars rest) = e ∙ ap (λ (n : ℕ). length text - n) (sym (width_is rest v)) in
    fault_from text (chars rest) s r place u reached (subst (λ (n : ℕ). Halts s n (chars rest) r place) here h)

pub ended : (text rest : List ℕ) (s : Builder) (r : Result Contents PlaceStop) → rest ≡ [] → IsUtf8 text → Reached text s (chars rest) → words.Gives place_of r (finish s (length text)) → IfOk r (λ x. IsDocument text x.0 x.1) × IfErr r (λ e. words.Stops place_of e (λ f. IsFault text f.0 f.1))
ended text rest s (Ok x) none u reached h = (document_from text s x.0 x.1 u (subst (Reached text s) (ap chars none ∙ chars-nil) reached) h, tt)
ended text rest s (Err stops.Memory) none u reached h = (tt, tt)
ended text rest s (Err (stops.Fault r place)) none u reached h = (tt, fault_at_end text s r place u (subst (Reached text s) (ap chars none ∙ chars-nil) reached) h)

-- ---- each answer is the one

abbrev pub Meant : List ℕ → Result Document PlaceStop → Type 0
Meant text (Ok d) = IsDocument text d.root d.declared
Meant text (Err e) = words.Stops place_of e (λ f. IsFault text f.0 f.1)

pub each_document : (text : List ℕ) (r : Result Document PlaceStop) → Meant text r → (root : Element) (declared : List Hint) → IsDocument text root declared → AnswersDocument root declared r
each_document text (Ok d) h root declared k = one_document text d.root root d.declared declared h k
each_document text (Err stops.Memory) h root declared k = refl
each_document text (Err (stops.Fault r place)) h root declared k = absurd (no_fault text root declared r place k h)

pub each_fault : (text : List ℕ) (a : Result Document PlaceStop) → Meant text a → (r : Rule) (place : ℕ) → IsFault text r place → AnswersFault r place a
each_fault text (Ok d) h r place k = no_fault text d.root d.declared r place h k
each_fault text (Err stops.Memory) h r place k = inl refl
each_fault text (Err (stops.Fault q at)) h r place k = let one = one_fault text q r at place h k in inr (λ i. stops.Fault (one.0 i) (one.1 i))
