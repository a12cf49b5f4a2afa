-- Reading that stops with a rule stops at the text's first fault.
use Rattle.std.proofs.Common.{◌≡◌, ◌≢◌, ◌⊎◌, ℕ, ◌+◌, ◌-◌, Bool, true, false, cond, eqb, not, ◌&&◌, List, [], ◌∷◌, ◌++◌, length, map, Option, Some, None, Result, Ok, Err, refl, sym, ap, subst, ◌∙◌, append-nil, inl, inr, arith}
use Rattle.std.specs.Prelude.{chars, encode_utf8_all, IsFalse}
use Rattle.std.specs.List.{prefix_len}
use Rattle.std.specs.Str.{IsUtf8}
use Rattle.std.proofs.lemmas.Bool.{eqb-false}
use Rattle.xmp_values.specs.Characters.{is_blank}
use Rattle.xmp_values.specs.declared.rules.Rule.{Rule}
use Rattle.xmp_values.specs.declared.rules.Rule.TheVariants.{Utf16, NotUtf8, OutsideRoot, Unfinished}
use Rattle.xml_grammar.specs.declared.elements.Element.{Element}
use Rattle.xml_grammar.specs.declared.tokens.Mode.{Mode}
use Rattle.xml_grammar.specs.declared.tokens.Mode.TheVariants as modes
use Rattle.xml_grammar.specs.declared.tokens.Token.{Token}
use Rattle.xml_grammar.specs.declared.tokens.Token.TheVariants as tokens
use Rattle.xml_grammar.specs.Pieces.{Piece, Declaration, Instruction, Comment, Cdata, Start, End, Reference, LineEnd, Character}
use Rattle.xml_tokenizer.specs.Rows.{StandsRow, later}
use Rattle.xml_grammar.specs.Nesting.{Nest, Level, mode_of, mode_in, broken}
use Rattle.xml_grammar.specs.Documents.{width, IsRule, IsPieceFault, IsFault}
use Rattle.xml_grammar.proofs.OneMeaning.{kind_none, told_rule, broken_rule}
use Rattle.xml_grammar.proofs.Rows.{width-append}
use Rattle.xml_tokenizer.proofs.RunPieces.{placed_run, after_run}
use Rattle.xml_grammar.proofs.Splits.{Stops}
use Rattle.xml_grammar.proofs.Stopping.{fault_made}
use Rattle.xmp_xml.specs.declared.builder.Frame.{Frame}
use Rattle.xmp_xml.specs.declared.builder.Builder.{Builder}
use Rattle.xmp_xml.specs.Building.{is_nil, levels_of, is_rooted, nest_of, with_text}
use Rattle.xmp_xml.specs.Document.{Fault, Contents, allowed, piece_step, run_step, token_step, Takes, Halts, or_unfinished, finish}
use Rattle.xmp_xml.proofs.Reached.{Reached}
use Rattle.xmp_xml.proofs.Starts.{place_ends, Blanks, blanks}
use Rattle.xmp_xml.proofs.Walks.{run_begins, run_nested}
use Rattle.xmp_xml.proofs.Documents.{stops_run}

-- ---- faults

abbrev bad : (A : Type 0) → Fault → Result A Fault
bad A d = Err d

err_is : (A : Type 0) (c d : Fault) → bad A c ≡ bad A d → c ≡ d
err_is A c d e = cc

-- a fault of pieces is the text's fault
piece_fault : (text : List ℕ) (r : Rule) (place : ℕ) → IsPieceFault text r place → IsFault text r place
piece_fault text Utf16 place f = let none : false ≡ true = f.rule.0.5 in cc
piece_fault text NotUtf8 place f = let none : false ≡ true = f.rule.0.5 in cc
piece_fault text r place f = f

-- a rule for what is left
rule_fault : (text cs : List ℕ) (s : Builder) (r : Rule) (place : ℕ) → IsUtf8 text → Reached text s cs → place ≡ length text - width cs → IsRule (nest_of s) cs r → IsFault text r place
rule_fault text cs s r place u k at rule =
    let ends = place_ends text cs k.pieces u k.read in
    piece_fault text r place (fault_made text r place k.pieces cs u k.read (ap (λ (z : ℕ). z + width cs) at ∙ ends) (subst (λ (z : Nest). IsRule z cs r) k.nest rule))

pub fault_at_end : (text : List ℕ) (s : Builder) (r : Rule) (place : ℕ) → IsUtf8 text → Reached text s [] → finish s (length text) ≡ Err (r, place) → IsFault text r place
fault_at_end text s r place u k e = by_outer s.outer s.root e refl refl
  where
    unfinished : bad Contents (Unfinished, length text) ≡ bad Contents (r, place) → (levels_of s.top s.outer s.scope ≢ []) ⊎ (is_rooted s.outer s.root ≡ false) → IsFault text r place
    unfinished e why =
        let same = err_is Contents (Unfinished, length text) (r, place) e in
        let at : place ≡ length text - width [] = (sym (ap (λ (z : Fault). z.1) same)) ∙ (omega arith) in
        subst (λ (z : Rule). IsFault text z place) (ap (λ (z : Fault). z.0) same) (rule_fault text [] s Unfinished place u k at (told_rule (nest_of s) [] Unfinished (kind_none (nest_of s) [] refl) (refl, why)))

    by_outer : (outer : List Frame) (root : Option Element) → cond (is_nil outer) (or_unfinished (length text) s.hints root) (Err (Unfinished, length text)) ≡ Err (r, place) → s.outer ≡ outer → s.root ≡ root → IsFault text r place
    by_outer [] None e outer_is root_is = unfinished e (inr (ap (λ (z : List Frame). is_rooted z s.root) outer_is ∙ ap (is_rooted []) root_is))
    by_outer [] (Some x) e outer_is root_is = absurd cc
    by_outer (o ∷ os) root e outer_is root_is = unfinished e (inl (λ h. let full : levels_of s.top (o ∷ os) s.scope ≡ [] = ap (λ (z : List Frame). levels_of s.top z s.scope) (sym outer_is) ∙ h in cc))

-- ---- a piece that breaks a rule

allowed_err : (s : Builder) (at : ℕ) (p : Piece) (o : Option Rule) (r : Rule) (place : ℕ) → allowed s at p o ≡ Err (r, place) → (o ≡ Some r) × (place ≡ at)
allowed_err s at p None r place e = absurd cc
allowed_err s at p (Some c) r place e =
    let same = err_is Builder (c, at) (r, place) e in
    (ap (λ (z : Fault). Some z.0) same, sym (ap (λ (z : Fault). z.1) same))

piece_halts : (text cs left : List ℕ) (s : Builder) (p : Piece) (r : Rule) (place : ℕ) → IsUtf8 text → Reached text s cs → StandsRow (mode_of (nest_of s)) (p ∷ []) cs left → piece_step s (length text - width cs) p ≡ Err (r, place) → IsFault text r place
piece_halts text cs left s p r place u k (front, back, stands, same, is) e =
    let a = allowed_err s (length text - width cs) p (broken (nest_of s) p) r place e in
    rule_fault text cs s r place u k a.1 (broken_rule (nest_of s) cs r (p, front, back, stands, is, a.0))

-- ---- a run outside the root

run_err : (s : Builder) (at : ℕ) (t : List ℕ) (r : Rule) (place : ℕ) → run_step s at t ≡ Err (r, place) → (stops_run s t ≡ true) × (OutsideRoot ≡ r) × (place ≡ at + prefix_len is_blank t)
run_err s at t r place e = by_test (stops_run s t) e
  where
    by_test : (v : Bool) → cond {A = Result Builder Fault} v (Err (OutsideRoot, at + prefix_len is_blank t)) (Ok (with_text s t)) ≡ Err (r, place) → (v ≡ true) × (OutsideRoot ≡ r) × (place ≡ at + prefix_len is_blank t)
    by_test true e =
        let same = err_is Builder (OutsideRoot, at + prefix_len is_blank t) (r, place) e in
        (refl, ap (λ (z : Fault). z.0) same, sym (ap (λ (z : Fault). z.1) same))
    by_test false e = absurd cc

-- where a run stops no element is open, and a character isn't white space
stopped : (s : Builder) (t : List ℕ) → stops_run s t ≡ true → (s.outer ≡ []) × (prefix_len is_blank t ≡ length t → ⊥)
stopped s t e = by_outer s.outer e
  where
    by_same : (v : Bool) → eqb (prefix_len is_blank t) (length t) ≡ v → not v ≡ true → prefix_len is_blank t ≡ length t → ⊥
    by_same true h k same = absurd cc
    by_same false h k same = eqb-false _ _ h same

    by_outer : (outer : List Frame) → (is_nil outer && not (eqb (prefix_len is_blank t) (length t))) ≡ true → (outer ≡ []) × (prefix_len is_blank t ≡ length t → ⊥)
    by_outer [] k = (refl, by_same (eqb (prefix_len is_blank t) (length t)) refl k)
    by_outer (o ∷ os) k = absurd cc

-- a row of characters is cut in two
record Cut (mode : Mode) (a b cs left : List ℕ) : Type 0 where
  middle : List ℕ
  front : StandsRow mode (map Character a) cs middle
  next : Mode
  back : StandsRow next (map Character b) middle left
  wide : width cs ≡ width a + width middle

cut : (mode : Mode) (a b cs left : List ℕ) → StandsRow mode (map Character (a ++ b)) cs left → Cut mode a b cs left
cut mode [] b cs left row = record { middle = cs; front = refl; next = mode; back = row; wide = omega arith }
cut mode (c ∷ a) b cs left (front, back, stands, more, is) =
    let k = cut (later mode) a b back left more in
    let rest = k.wide in
    let one : width front ≡ width (c ∷ []) = ap width stands.spelled.4 in
    let whole : width cs ≡ width front + width back = ap width is ∙ width-append front back in
    let both : width (c ∷ a) ≡ width (c ∷ []) + width a = width-append (c ∷ []) a in
    record { middle = k.middle; front = (front, back, stands, k.front, is); next = k.next; back = k.back; wide = omega arith }

-- outside the root a character that isn't white space breaks a rule
outside_rule : (s : Nest) (mode : Mode) (d : ℕ) (ds cs left : List ℕ) → s.levels ≡ [] → IsFalse (is_blank d) → StandsRow mode (map Character (d ∷ ds)) cs left → IsRule s cs OutsideRoot
unfolding broken
outside_rule s mode d ds cs left none dark (front, back, stands, more, is) = broken_rule s cs OutsideRoot (Character d, front, back, record { spelled = stands.spelled; fits = λ inside. absurd (outside s.first s.levels none inside) }, is, breaks s.levels none)
  where
    outside : (first : Bool) (levels : List Level) → levels ≡ [] → mode_in first levels ≡ modes.Inside → ⊥
    outside true [] e h = cc
    outside false [] e h = cc
    outside first (l ∷ ls) e h = cc

    breaks : (levels : List Level) → levels ≡ [] → broken (record { first = s.first; levels = levels; rooted = s.rooted }) (Character d) ≡ Some OutsideRoot
    breaks [] e = rw dark refl
    breaks (l ∷ ls) e = absurd cc

after_levels : (s : Nest) (cs : List ℕ) → (after_run s cs).levels ≡ s.levels
after_levels s [] = refl
after_levels s (c ∷ cs) = refl

-- where nothing is after the white space it is all
all_there : (run : List ℕ) (b : Blanks run) → b.back ≡ [] → prefix_len is_blank (encode_utf8_all run) ≡ length (encode_utf8_all run)
all_there run b is = b.long ∙ sym (ap width (b.parts ∙ ap (λ (z : List ℕ). b.front ++ z) is ∙ append-nil b.front))

run_halts : (text cs left run : List ℕ) (s : Builder) (place : ℕ) → IsUtf8 text → Reached text s cs → StandsRow (mode_of (nest_of s)) (map Character run) cs left
    → s.outer ≡ [] → (prefix_len is_blank (encode_utf8_all run) ≡ length (encode_utf8_all run) → ⊥) → place ≡ length text - width cs + prefix_len is_blank (encode_utf8_all run) → IsFault text OutsideRoot place
run_halts text cs left run s place u k row none dark at = by_back b.back refl
  where
    b : Blanks run
    b = blanks run

    by_back : (back : List ℕ) → b.back ≡ back → IsFault text OutsideRoot place
    by_back [] is = absurd (dark (all_there run b is))
    by_back (d ∷ ds) is =
        let parts : run ≡ b.front ++ d ∷ ds = b.parts ∙ ap (λ (z : List ℕ). b.front ++ z) is in
        let c = cut (mode_of (nest_of s)) b.front (d ∷ ds) cs left (subst (λ (z : List ℕ). StandsRow (mode_of (nest_of s)) (map Character z) cs left) parts row) in
        let long = b.long in
        let wide = c.wide in
        let ends = place_ends text cs k.pieces u k.read in
        let outside : levels_of s.top s.outer s.scope ≡ [] = ap (λ (z : List Frame). levels_of s.top z s.scope) none in
        let rule : IsRule (after_run (nest_of s) b.front) c.middle OutsideRoot =
        outside_rule (after_run (nest_of s) b.front) c.next d ds c.middle left (after_levels (nest_of s) b.front ∙ outside) (subst (Stops is_blank) is b.stops) c.back in
        fault_made text OutsideRoot place (k.pieces ++ placed_run (length text - width cs) b.front) c.middle u
        (run_begins text cs c.middle b.front s u k c.front (inr b.blank))
        (omega arith)
        (subst (λ (z : Nest). IsRule z c.middle OutsideRoot) (run_nested text cs b.front s k (length text - width cs)) rule)

pub fault_from : (text cs : List ℕ) (s : Builder) (r : Rule) (place : ℕ) → IsUtf8 text → Reached text s cs → Halts s (length text - width cs) cs r place → IsFault text r place
fault_from text cs s r place u k (inl (none, at)) = rule_fault text cs s r place u k at none.1
fault_from text cs s r place u k (inr (token, left, takes, step)) = by_token token takes step
  where
    one : (p : Piece) → StandsRow (mode_of (nest_of s)) (p ∷ []) cs left → piece_step s (length text - width cs) p ≡ Err (r, place) → IsFault text r place
    one p row e = piece_halts text cs left s p r place u k row e

    by_run : (t run : List ℕ) → encode_utf8_all run ≡ t → StandsRow (mode_of (nest_of s)) (map Character run) cs left → run_step s (length text - width cs) t ≡ Err (r, place) → IsFault text r place
    by_run t run spelled row e =
        let a = run_err s (length text - width cs) t r place e in
        let b = stopped s t a.0 in
        let dark : prefix_len is_blank (encode_utf8_all run) ≡ length (encode_utf8_all run) → ⊥ = λ h. b.1 (subst (λ (z : List ℕ). prefix_len is_blank z ≡ length z) spelled h) in
        let at : place ≡ length text - width cs + prefix_len is_blank (encode_utf8_all run) = a.2 ∙ ap (λ (z : List ℕ). length text - width cs + prefix_len is_blank z) (sym spelled) in
        subst (λ (z : Rule). IsFault text z place) a.1 (run_halts text cs left run s place u k row b.0 dark at)

    by_token : (token : Token) → Takes s token cs left → token_step s (length text - width cs) token ≡ Err (r, place) → IsFault text r place
    by_token (tokens.Declaration encoding) t e = one (Declaration encoding) t.stands e
    by_token tokens.Instruction t e = one Instruction t.stands e
    by_token tokens.Comment t e = one Comment t.stands e
    by_token (tokens.Cdata x) t e = one (Cdata x) t.stands e
    by_token (tokens.Start tag) t e = one (Start tag) t.stands e
    by_token (tokens.End name) t e = one (End name) t.stands e
    by_token (tokens.Reference c) t e = one (Reference c) t.stands e
    by_token tokens.LineEnd t e = one LineEnd t.stands e
    by_token (tokens.Run x) t e = by_run x (chars x) t.spelled t.stands e
