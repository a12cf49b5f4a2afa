-- What is read as a token stands there, and where a piece stands a token is read.
use Rattle.std.proofs.Common.{◌≡◌, ◌≢◌, ℕ, ◌<◌, Bool, true, false, cond, eqb, not, ◌&&◌, ◌⊎◌, List, [], ◌∷◌, ◌++◌, map, length, Option, Some, None, refl, sym, ap, subst, ◌∙◌, append_assoc, length-append, arith, inl, inr}
use Rattle.std.specs.Prelude.{IsTrue, is_some, codes, encode_utf8_all}
use Rattle.std.specs.List.{list_all}
use Rattle.std.specs.Str.{chars, all_scalars, IsUtf8}
use Rattle.std.proofs.lemmas.Bool.{eqb-true, eqb-false, ne_eqb}
use Rattle.std.proofs.lemmas.Bool.Decides.{nat_tests}
use Rattle.std.proofs.lemmas.Str.{chars-encodes, encodes-chars, encodes-append, length-le-encodes}
use lib.Utf8.{scalar}
use Rattle.xmp_values.specs.Characters.{is_char, is_name_start}
use Rattle.xml_grammar.specs.declared.tags.QName.{QName}
use Rattle.xml_grammar.specs.declared.tags.Tag.{Tag}
use Rattle.xml_grammar.specs.declared.tokens.Mode.{Mode}
use Rattle.xml_grammar.specs.declared.tokens.Mode.TheVariants as modes
use Rattle.xml_grammar.specs.declared.tokens.Token.{Token}
use Rattle.xml_grammar.specs.declared.tokens.Token.TheVariants as tokens
use Rattle.xml_grammar.specs.Spelling.{BeginsWith, line_ends}
use Rattle.xml_grammar.specs.Pieces.{Piece, Declaration, Instruction, Comment, Cdata, Start, End, Reference, LineEnd, Character, Spells, Fits, HasPiece, tag_close}
use Rattle.xml_tokenizer.specs.Rows.{StandsRow, later, pieces_of, IsSpelled}
use Rattle.xml_grammar.proofs.Splits.{both, both_again, cons_same, head_same, tail_same, not_both}
use Rattle.xml_grammar.proofs.Parts.{apart, qname_starts}
use Rattle.xml_tokenizer.specs.Classes.{is_plain}
use Rattle.xml_tokenizer.specs.Declarations.{declaration_at}
use Rattle.xml_tokenizer.specs.References.{reference_at}
use Rattle.xml_tokenizer.specs.Runs.{after, begins}
use Rattle.xml_tokenizer.specs.Sections.{comment_at, cdata_at, instruction_at}
use Rattle.xml_tokenizer.specs.Stands.{IsAfter}
use Rattle.std.specs.Option.{option_or}
use Rattle.xml_tokenizer.specs.Steps.{◌>>=◌}
use Rattle.xml_tokenizer.specs.Tags.{start_at, end_at}
use Rattle.xml_tokenizer.specs.Tokens.{is_start, is_inside, declared_at, question_at, comment_or, section_at, markup_at, starts_plain, plain_front, plain_back, run_at, token_at}
use Rattle.xml_tokenizer.specs.Values.{past_feed}
use Rattle.xml_grammar.proofs.OnePiece.{stands_some}
use Rattle.xml_tokenizer.proofs.DeclarationLaws.{declaration_takes, declaration_again}
use Rattle.xml_tokenizer.proofs.ReferenceLaws.{reference_takes, reference_again}
use Rattle.xml_tokenizer.proofs.SectionLaws.{comment_takes, comment_again, cdata_takes, cdata_again, instruction_takes, instruction_again}
use Rattle.xml_tokenizer.proofs.PlainLaws.{plain_front_all}
use Rattle.xml_tokenizer.proofs.Steps.{or_false, not_true, bind_some, some_is, passed, either_gave}
use Rattle.xml_tokenizer.proofs.TagLaws.{start_takes, start_again, end_takes, end_again}
use Rattle.xml_tokenizer.proofs.Words.{after_takes}

-- ---- modes

start_mode : (mode : Mode) → is_start mode ≡ true → mode ≡ modes.Start
start_mode modes.Start e = refl
start_mode modes.Outside e = absurd cc
start_mode modes.Inside e = absurd cc

inside_mode : (mode : Mode) → mode ≡ modes.Inside → is_inside mode ≡ true
inside_mode mode e = ap is_inside e

pub inside_is : (mode : Mode) → is_inside mode ≡ true → mode ≡ modes.Inside
inside_is modes.Start e = absurd cc
inside_is modes.Outside e = absurd cc
inside_is modes.Inside e = refl

-- ---- one piece

-- pieces, at least one, stand before what is left
abbrev pub Row : Mode → List Piece → List ℕ → List ℕ → Type 0
Row mode ps text left = StandsRow mode ps text left × (ps ≢ [])

row_one : (mode : Mode) (p : Piece) (text front back : List ℕ) → Spells p front → Fits mode p front back → text ≡ front ++ back → Row mode (p ∷ []) text back
row_one mode p text front back spelled fits e = ((front, back, record { spelled = spelled; fits = fits }, refl, e), one_some p)
  where
    one_some : (p : Piece) → p ∷ [] ≢ []
    one_some p e = cc

abbrev pub TakesToken : Mode → List ℕ → Token × List ℕ → Type 0
TakesToken mode text x = Row mode (pieces_of x.0) text x.1

declared_takes : (mode : Mode) (b : Bool) (cs : List ℕ) (o : Option (List ℕ)) (x : Token × List ℕ) → is_start mode ≡ b → after (codes "xml") cs ≡ o → declared_at b o ≡ Some x → TakesToken mode (60 ∷ 63 ∷ cs) x
declared_takes mode true cs (Some rest) x s found e =
    let a = bind_some (declaration_at rest) (λ y. Some (tokens.Declaration y.0, y.1)) x e in
    let t = declaration_takes rest a.0 a.1 in
    let at : 60 ∷ 63 ∷ cs ≡ (codes "<?xml" ++ t.0) ++ a.0.1 = ap (λ (s : List ℕ). 60 ∷ 63 ∷ s) (after_takes (codes "xml") cs rest found ∙ ap (λ (s : List ℕ). codes "xml" ++ s) t.2) in
    subst (TakesToken mode (60 ∷ 63 ∷ cs)) (some_is (tokens.Declaration a.0.0, a.0.1) x a.2) (row_one mode (Declaration a.0.0) (60 ∷ 63 ∷ cs) (codes "<?xml" ++ t.0) a.0.1 t.1 (start_mode mode s) at)
declared_takes mode true cs None x s found e = absurd cc
declared_takes mode false cs o x s found e = absurd cc

question_takes : (mode : Mode) (cs : List ℕ) (x : Token × List ℕ) → question_at (is_start mode) cs ≡ Some x → TakesToken mode (60 ∷ 63 ∷ cs) x
unfolding question_at
question_takes mode cs x e = from (either_gave (declared_at (is_start mode) (after (codes "xml") cs)) (instruction_at cs >>= λ rest. Some (tokens.Instruction, rest)) x e)
  where
    regroup : (a b c : List ℕ) → codes "<?" ++ (a ++ (b ++ (codes "?>" ++ c))) ≡ (codes "<?" ++ a ++ b ++ codes "?>") ++ c
    regroup a b c = simp append_assoc

    from : (declared_at (is_start mode) (after (codes "xml") cs) ≡ Some x) ⊎ ((declared_at (is_start mode) (after (codes "xml") cs) ≡ None) × ((instruction_at cs >>= λ rest. Some (tokens.Instruction, rest)) ≡ Some x)) → TakesToken mode (60 ∷ 63 ∷ cs) x
    from (inl h) = declared_takes mode (is_start mode) cs (after (codes "xml") cs) x refl refl h
    from (inr h) =
        let a = bind_some (instruction_at cs) (λ rest. Some (tokens.Instruction, rest)) x h.1 in
        let t = instruction_takes cs a.0 a.1 in
        let front : List ℕ = codes "<?" ++ t.0 ++ t.1 ++ codes "?>" in
        subst (TakesToken mode (60 ∷ 63 ∷ cs)) (some_is (tokens.Instruction, a.0) x a.2)
        (row_one mode Instruction (60 ∷ 63 ∷ cs) front a.0 (t.0, t.1, t.2, t.3, refl) tt (ap (λ (s : List ℕ). codes "<?" ++ s) t.4 ∙ regroup t.0 t.1 a.0))

section_takes : (mode : Mode) (cs : List ℕ) (x : Token × List ℕ) → section_at cs ≡ Some x → TakesToken mode (60 ∷ 33 ∷ cs) x
section_takes mode cs x e = from (after (codes "--") cs) refl e
  where
    regroup : (a b c d : List ℕ) → a ++ (b ++ (c ++ d)) ≡ (a ++ b ++ c) ++ d
    regroup a b c d = simp append_assoc

    from : (o : Option (List ℕ)) → after (codes "--") cs ≡ o → comment_or cs o ≡ Some x → TakesToken mode (60 ∷ 33 ∷ cs) x
    from (Some rest) found h =
        let a = bind_some (comment_at rest) (λ y. Some (tokens.Comment, y)) x h in
        let t = comment_takes rest a.0 a.1 in
        let front : List ℕ = codes "<!--" ++ t.0 ++ codes "-->" in
        let at : 60 ∷ 33 ∷ cs ≡ front ++ a.0 = ap (λ (s : List ℕ). 60 ∷ 33 ∷ s) (after_takes (codes "--") cs rest found) ∙ ap (λ (s : List ℕ). codes "<!--" ++ s) t.3 ∙ regroup (codes "<!--") t.0 (codes "-->") a.0 in
        subst (TakesToken mode (60 ∷ 33 ∷ cs)) (some_is (tokens.Comment, a.0) x a.2) (row_one mode Comment (60 ∷ 33 ∷ cs) front a.0 (t.0, t.1, t.2, refl) tt at)
    from None found h =
        let b = bind_some (after (codes "[CDATA[") cs) (λ rest. cdata_at rest >>= λ y. Some (tokens.Cdata y.0, y.1)) x h in
        let a = bind_some (cdata_at b.0) (λ y. Some (tokens.Cdata y.0, y.1)) x b.2 in
        let t = cdata_takes b.0 a.0 a.1 in
        let front : List ℕ = codes "<![CDATA[" ++ t.0 ++ codes "]]>" in
        let at : 60 ∷ 33 ∷ cs ≡ front ++ a.0.1 = ap (λ (s : List ℕ). 60 ∷ 33 ∷ s) (after_takes (codes "[CDATA[") cs b.0 b.1) ∙ ap (λ (s : List ℕ). codes "<![CDATA[" ++ s) t.4 ∙ regroup (codes "<![CDATA[") t.0 (codes "]]>") a.0.1 in
        subst (TakesToken mode (60 ∷ 33 ∷ cs)) (some_is (tokens.Cdata a.0.0, a.0.1) x a.2) (row_one mode (Cdata a.0.0) (60 ∷ 33 ∷ cs) front a.0.1 (t.0, t.1, t.2, t.3, refl) tt at)

markup_takes : (mode : Mode) (cs : List ℕ) (x : Token × List ℕ) → markup_at (is_start mode) cs ≡ Some x → TakesToken mode (60 ∷ cs) x
unfolding markup_at
markup_takes mode [] x e = absurd cc
markup_takes mode (c ∷ cs) x e = by_slash (eqb c 47) refl e
  where
    at_char : (n : ℕ) → eqb c n ≡ true → TakesToken mode (60 ∷ n ∷ cs) x → TakesToken mode (60 ∷ c ∷ cs) x
    at_char n h t = subst (λ (d : ℕ). TakesToken mode (60 ∷ d ∷ cs) x) (sym (eqb-true c n h)) t

    start : (start_at (c ∷ cs) >>= λ y. Some (tokens.Start y.0, y.1)) ≡ Some x → TakesToken mode (60 ∷ c ∷ cs) x
    start h =
        let a = bind_some (start_at (c ∷ cs)) (λ y. Some (tokens.Start y.0, y.1)) x h in
        let t = start_takes (c ∷ cs) a.0 a.1 in
        subst (TakesToken mode (60 ∷ c ∷ cs)) (some_is (tokens.Start a.0.0, a.0.1) x a.2) (row_one mode (Start a.0.0) (60 ∷ c ∷ cs) (60 ∷ t.0) a.0.1 t.1 tt (ap (λ (s : List ℕ). 60 ∷ s) t.2))

    end : (end_at cs >>= λ y. Some (tokens.End y.0, y.1)) ≡ Some x → TakesToken mode (60 ∷ 47 ∷ cs) x
    end h =
        let a = bind_some (end_at cs) (λ y. Some (tokens.End y.0, y.1)) x h in
        let t = end_takes cs a.0 a.1 in
        subst (TakesToken mode (60 ∷ 47 ∷ cs)) (some_is (tokens.End a.0.0, a.0.1) x a.2) (row_one mode (End a.0.0) (60 ∷ 47 ∷ cs) (60 ∷ 47 ∷ t.0) a.0.1 t.1 tt (ap (λ (s : List ℕ). 60 ∷ 47 ∷ s) t.2))

    by_bang : (v : Bool) → eqb c 33 ≡ v → cond v (section_at cs) (start_at (c ∷ cs) >>= λ y. Some (tokens.Start y.0, y.1)) ≡ Some x → TakesToken mode (60 ∷ c ∷ cs) x
    by_bang true h k = at_char 33 h (section_takes mode cs x k)
    by_bang false h k = start k

    by_question : (v : Bool) → eqb c 63 ≡ v → cond v (question_at (is_start mode) cs) (cond (eqb c 33) (section_at cs) (start_at (c ∷ cs) >>= λ y. Some (tokens.Start y.0, y.1))) ≡ Some x → TakesToken mode (60 ∷ c ∷ cs) x
    by_question true h k = at_char 63 h (question_takes mode cs x k)
    by_question false h k = by_bang (eqb c 33) refl k

    by_slash : (v : Bool) → eqb c 47 ≡ v → cond v (end_at cs >>= λ y. Some (tokens.End y.0, y.1)) (cond (eqb c 63) (question_at (is_start mode) cs) (cond (eqb c 33) (section_at cs) (start_at (c ∷ cs) >>= λ y. Some (tokens.Start y.0, y.1)))) ≡ Some x → TakesToken mode (60 ∷ c ∷ cs) x
    by_slash true h k = at_char 47 h (end k)
    by_slash false h k = by_question (eqb c 63) refl k

-- ---- line ends

feed_takes : (mode : Mode) (cs : List ℕ) → Row mode (LineEnd ∷ []) (13 ∷ cs) (past_feed cs)
feed_takes mode [] = row_one mode LineEnd (13 ∷ []) (13 ∷ []) [] (inr refl) (λ e (rest, h). nothing rest refl h) refl
  where
    nothing : (rest : List ℕ) → rest ≡ rest → [] ≡ 10 ∷ rest → ⊥
    nothing rest k h = cc
feed_takes mode (c ∷ cs) = by_feed (eqb c 10) refl
  where
    feed_return : List ℕ
    feed_return = 13 ∷ 10 ∷ []

    two_one : feed_return ≡ 13 ∷ [] → ⊥
    two_one e = cc

    not_feed : eqb c 10 ≡ false → BeginsWith (10 ∷ []) (c ∷ cs) → ⊥
    not_feed h (rest, e) = eqb-false c 10 h (head_same c 10 cs rest e)

    by_feed : (v : Bool) → eqb c 10 ≡ v → Row mode (LineEnd ∷ []) (13 ∷ c ∷ cs) (cond v cs (c ∷ cs))
    by_feed true h = row_one mode LineEnd (13 ∷ c ∷ cs) (13 ∷ 10 ∷ []) cs (inl refl) (λ e k. two_one e) (ap (λ (d : ℕ). 13 ∷ d ∷ cs) (eqb-true c 10 h))
    by_feed false h = row_one mode LineEnd (13 ∷ c ∷ cs) (13 ∷ []) (c ∷ cs) (inr refl) (λ e k. not_feed h k) refl

-- ---- runs

pub record PlainChar (c : ℕ) : Type 0 where
  pub char : IsTrue (is_char c)
  pub less : eqb c 60 ≡ false
  pub amp : eqb c 38 ≡ false
  pub return : eqb c 13 ≡ false

plain_char : (c : ℕ) → is_plain c ≡ true → PlainChar c
unfolding is_plain
plain_char c h =
    let k = both (is_char c) _ h in
    let n = not_true _ k.1 in
    let a = or_false _ _ n in
    let b = or_false _ _ a.0 in
    record { char = k.0; less = b.0; amp = b.1; return = a.1 }

pub char_plain : (c : ℕ) → PlainChar c → is_plain c ≡ true
unfolding is_plain
char_plain c p = rw (p.char, p.less, p.amp, p.return) refl

char_scalar : (c : ℕ) → is_char c ≡ true → scalar c ≡ true
unfolding is_char
char_scalar c h = grind (arith, nat_tests)

plain_scalars : (cs : List ℕ) → IsTrue (list_all is_plain cs) → all_scalars cs ≡ true
plain_scalars [] h = refl
plain_scalars (c ∷ cs) h =
    let k = both (is_plain c) (list_all is_plain cs) h in
    both_again (scalar c) (all_scalars cs) (char_scalar c (plain_char c k.0).char) (plain_scalars cs k.1)

pub begun : (word cs : List ℕ) → begins word cs ≡ true → BeginsWith word cs
begun word cs h = from (after word cs) refl h
  where
    from : (o : Option (List ℕ)) → after word cs ≡ o → is_some o ≡ true → BeginsWith word cs
    from (Some rest) e k = (rest, after_takes word cs rest e)
    from None e k = absurd cc

-- what stands for itself fits: inside an element no `]` of it begins `]]>`
plain_fits : (mode : Mode) (c : ℕ) (cs : List ℕ) → (is_inside mode && begins (codes "]]>") (c ∷ cs)) ≡ false → Fits mode (Character c) (c ∷ []) cs
plain_fits mode c cs h inside same (rest, e) =
    let found : begins (codes "]]>") (c ∷ cs) ≡ true = ap (begins (codes "]]>")) (cons_same c 93 cs (codes "]>" ++ rest) same e) in
    not_both (is_inside mode && begins (codes "]]>") (c ∷ cs)) (both_again (is_inside mode) (begins (codes "]]>") (c ∷ cs)) (inside_mode mode inside) found) h

fits_plain : (mode : Mode) (c : ℕ) (cs : List ℕ) → Fits mode (Character c) (c ∷ []) cs → (is_inside mode && begins (codes "]]>") (c ∷ cs)) ≡ false
fits_plain mode c cs fits = apart (is_inside mode && begins (codes "]]>") (c ∷ cs)) bad
  where
    bad : (is_inside mode && begins (codes "]]>") (c ∷ cs)) ≡ true → ⊥
    bad h =
        let k = both (is_inside mode) (begins (codes "]]>") (c ∷ cs)) h in
        let b = begun (codes "]]>") (c ∷ cs) k.1 in
        fits (inside_is mode k.0) (head_same c 93 cs (codes "]>" ++ b.0) b.1) (b.0, tail_same c 93 cs (codes "]>" ++ b.0) b.1)

later_inside : (mode : Mode) → is_inside (later mode) ≡ is_inside mode
later_inside modes.Start = refl
later_inside modes.Outside = refl
later_inside modes.Inside = refl

run_row : (inside : Bool) (mode : Mode) (cs : List ℕ) → is_inside mode ≡ inside → StandsRow mode (map Character (plain_front inside cs)) cs (plain_back inside cs)
run_row inside mode [] i = refl
run_row inside mode (c ∷ cs) i = by_start (starts_plain inside (c ∷ cs)) refl (run_row inside (later mode) cs (later_inside mode ∙ i))
  where
    by_start : (v : Bool) → starts_plain inside (c ∷ cs) ≡ v → StandsRow (later mode) (map Character (plain_front inside cs)) cs (plain_back inside cs)
        → StandsRow mode (map Character (cond v (c ∷ plain_front inside cs) [])) (c ∷ cs) (cond v (plain_back inside cs) (c ∷ cs))
    by_start true h ih =
        let k = both (is_plain c) (not (inside && begins (codes "]]>") (c ∷ cs))) h in
        let p = plain_char c k.0 in
        let n : (is_inside mode && begins (codes "]]>") (c ∷ cs)) ≡ false = ap (λ (v : Bool). v && begins (codes "]]>") (c ∷ cs)) i ∙ not_true (inside && begins (codes "]]>") (c ∷ cs)) k.1 in
        (c ∷ [], cs, record { spelled = (p.char, eqb-false c 60 p.less, eqb-false c 38 p.amp, eqb-false c 13 p.return, refl); fits = λ m same follows. plain_fits mode c cs n m same follows }, ih, refl)
    by_start false h ih = refl

run_takes : (mode : Mode) (cs : List ℕ) (x : Token × List ℕ) → run_at (is_inside mode) cs ≡ Some x → TakesToken mode cs x
unfolding run_at
run_takes mode [] x e = absurd cc
run_takes mode (c ∷ cs) x e =
    let inside : Bool = is_inside mode in
    let front : List ℕ = plain_front inside (c ∷ cs) in
    let back : List ℕ = plain_back inside (c ∷ cs) in
    let g = passed (starts_plain inside (c ∷ cs)) (Some (tokens.Run (encode_utf8_all front), back)) x e in
    let some : front ≡ c ∷ plain_front inside cs = rw (g.0) refl in
    let same : chars (encode_utf8_all front) ≡ front = chars-encodes front (plain_scalars front (plain_front_all inside (c ∷ cs))) in
    let row : Row mode (map Character front) (c ∷ cs) back = (run_row inside mode (c ∷ cs) refl, mapped_some front (plain_front inside cs) some) in
    subst (TakesToken mode (c ∷ cs)) (some_is (tokens.Run (encode_utf8_all front), back) x g.1) (subst (λ (t : List ℕ). Row mode (map Character t) (c ∷ cs) back) (sym same) row)
  where
    mapped_some : (run more : List ℕ) → run ≡ c ∷ more → map Character run ≢ []
    mapped_some [] more some e = absurd cc
    mapped_some (d ∷ run) more some e = cc

-- ---- what is read stands there

pub token_takes : (mode : Mode) (cs : List ℕ) (x : Token × List ℕ) → token_at mode cs ≡ Some x → TakesToken mode cs x
unfolding token_at
token_takes mode [] x e = absurd cc
token_takes mode (c ∷ cs) x e = by_less (eqb c 60) refl e
  where
    at_char : (n : ℕ) → eqb c n ≡ true → TakesToken mode (n ∷ cs) x → TakesToken mode (c ∷ cs) x
    at_char n h t = subst (λ (d : ℕ). TakesToken mode (d ∷ cs) x) (sym (eqb-true c n h)) t

    reference : (reference_at cs >>= λ y. Some (tokens.Reference y.0, y.1)) ≡ Some x → TakesToken mode (38 ∷ cs) x
    reference h =
        let a = bind_some (reference_at cs) (λ y. Some (tokens.Reference y.0, y.1)) x h in
        let t = reference_takes cs a.0 a.1 in
        subst (TakesToken mode (38 ∷ cs)) (some_is (tokens.Reference a.0.0, a.0.1) x a.2) (row_one mode (Reference a.0.0) (38 ∷ cs) (38 ∷ t.0) a.0.1 t.1 tt (ap (λ (s : List ℕ). 38 ∷ s) t.2))

    by_return : (v : Bool) → eqb c 13 ≡ v → cond v (Some (tokens.LineEnd, past_feed cs)) (run_at (is_inside mode) (c ∷ cs)) ≡ Some x → TakesToken mode (c ∷ cs) x
    by_return true h k = at_char 13 h (subst (TakesToken mode (13 ∷ cs)) (some_is (tokens.LineEnd, past_feed cs) x k) (feed_takes mode cs))
    by_return false h k = run_takes mode (c ∷ cs) x k

    by_amp : (v : Bool) → eqb c 38 ≡ v → cond v (reference_at cs >>= λ y. Some (tokens.Reference y.0, y.1)) (cond (eqb c 13) (Some (tokens.LineEnd, past_feed cs)) (run_at (is_inside mode) (c ∷ cs))) ≡ Some x → TakesToken mode (c ∷ cs) x
    by_amp true h k = at_char 38 h (reference k)
    by_amp false h k = by_return (eqb c 13) refl k

    by_less : (v : Bool) → eqb c 60 ≡ v → cond v (markup_at (is_start mode) cs) (cond (eqb c 38) (reference_at cs >>= λ y. Some (tokens.Reference y.0, y.1)) (cond (eqb c 13) (Some (tokens.LineEnd, past_feed cs)) (run_at (is_inside mode) (c ∷ cs)))) ≡ Some x → TakesToken mode (c ∷ cs) x
    by_less true h k = at_char 60 h (markup_takes mode cs x k)
    by_less false h k = by_amp (eqb c 38) refl k

-- ---- a run that is read is spelled

spelled_as : (y x : Token × List ℕ) → Some y ≡ Some x → IsSpelled y.0 → IsSpelled x.0
spelled_as y x e h = subst (λ (z : Token × List ℕ). IsSpelled z.0) (some_is y x e) h

bound_spelled : {A : Type 0} (r : Option A) (f : A → Token × List ℕ) (x : Token × List ℕ) → ((a : A) → IsSpelled (f a).0) → (r >>= λ y. Some (f y)) ≡ Some x → IsSpelled x.0
bound_spelled None f x h e = absurd cc
bound_spelled (Some a) f x h e = spelled_as (f a) x e (h a)

or_spelled : (r s : Option (Token × List ℕ)) (x : Token × List ℕ) → (r ≡ Some x → IsSpelled x.0) → (s ≡ Some x → IsSpelled x.0) → option_or r s ≡ Some x → IsSpelled x.0
or_spelled (Some y) s x f g e = f e
or_spelled None s x f g e = g e

declared_spelled : (start : Bool) (o : Option (List ℕ)) (x : Token × List ℕ) → declared_at start o ≡ Some x → IsSpelled x.0
declared_spelled true (Some rest) x e = bound_spelled (declaration_at rest) (λ y. (tokens.Declaration y.0, y.1)) x (λ a. tt) e
declared_spelled true None x e = absurd cc
declared_spelled false o x e = absurd cc

section_spelled : (cs : List ℕ) (o : Option (List ℕ)) (x : Token × List ℕ) → comment_or cs o ≡ Some x → IsSpelled x.0
section_spelled cs (Some rest) x e = bound_spelled (comment_at rest) (λ y. (tokens.Comment, y)) x (λ a. tt) e
section_spelled cs None x e = by (after (codes "[CDATA[") cs) e
  where
    by : (o : Option (List ℕ)) → (o >>= λ rest. cdata_at rest >>= λ y. Some (tokens.Cdata y.0, y.1)) ≡ Some x → IsSpelled x.0
    by (Some rest) e = bound_spelled (cdata_at rest) (λ y. (tokens.Cdata y.0, y.1)) x (λ a. tt) e
    by None e = absurd cc

markup_spelled : (start : Bool) (cs : List ℕ) (x : Token × List ℕ) → markup_at start cs ≡ Some x → IsSpelled x.0
unfolding markup_at question_at
markup_spelled start [] x e = absurd cc
markup_spelled start (c ∷ cs) x e = by_slash (eqb c 47) e
  where
    question : option_or (declared_at start (after (codes "xml") cs)) (instruction_at cs >>= λ rest. Some (tokens.Instruction, rest)) ≡ Some x → IsSpelled x.0
    question h =
        or_spelled (declared_at start (after (codes "xml") cs)) (instruction_at cs >>= λ rest. Some (tokens.Instruction, rest)) x
        (declared_spelled start (after (codes "xml") cs) x) (bound_spelled (instruction_at cs) (λ rest. (tokens.Instruction, rest)) x (λ a. tt)) h

    by_bang : (v : Bool) → cond v (section_at cs) (start_at (c ∷ cs) >>= λ y. Some (tokens.Start y.0, y.1)) ≡ Some x → IsSpelled x.0
    by_bang true h = section_spelled cs (after (codes "--") cs) x h
    by_bang false h = bound_spelled (start_at (c ∷ cs)) (λ y. (tokens.Start y.0, y.1)) x (λ a. tt) h

    by_question : (v : Bool) → cond v (question_at start cs) (cond (eqb c 33) (section_at cs) (start_at (c ∷ cs) >>= λ y. Some (tokens.Start y.0, y.1))) ≡ Some x → IsSpelled x.0
    by_question true h = question h
    by_question false h = by_bang (eqb c 33) h

    by_slash : (v : Bool) → cond v (end_at cs >>= λ y. Some (tokens.End y.0, y.1)) (cond (eqb c 63) (question_at start cs) (cond (eqb c 33) (section_at cs) (start_at (c ∷ cs) >>= λ y. Some (tokens.Start y.0, y.1)))) ≡ Some x → IsSpelled x.0
    by_slash true h = bound_spelled (end_at cs) (λ y. (tokens.End y.0, y.1)) x (λ a. tt) h
    by_slash false h = by_question (eqb c 63) h

run_spelled : (inside : Bool) (cs : List ℕ) (x : Token × List ℕ) → run_at inside cs ≡ Some x → IsSpelled x.0
unfolding run_at
run_spelled inside cs x e =
    let front : List ℕ = plain_front inside cs in
    let g = passed (starts_plain inside cs) (Some (tokens.Run (encode_utf8_all front), plain_back inside cs)) x e in
    spelled_as (tokens.Run (encode_utf8_all front), plain_back inside cs) x g.1 (ap encode_utf8_all (chars-encodes front (plain_scalars front (plain_front_all inside cs))))

pub token_spelled : (mode : Mode) (cs : List ℕ) (x : Token × List ℕ) → token_at mode cs ≡ Some x → IsSpelled x.0
unfolding token_at
token_spelled mode [] x e = absurd cc
token_spelled mode (c ∷ cs) x e = by_less (eqb c 60) e
  where
    by_return : (v : Bool) → cond v (Some (tokens.LineEnd, past_feed cs)) (run_at (is_inside mode) (c ∷ cs)) ≡ Some x → IsSpelled x.0
    by_return true h = spelled_as (tokens.LineEnd, past_feed cs) x h tt
    by_return false h = run_spelled (is_inside mode) (c ∷ cs) x h

    by_amp : (v : Bool) → cond v (reference_at cs >>= λ y. Some (tokens.Reference y.0, y.1)) (cond (eqb c 13) (Some (tokens.LineEnd, past_feed cs)) (run_at (is_inside mode) (c ∷ cs))) ≡ Some x → IsSpelled x.0
    by_amp true h = bound_spelled (reference_at cs) (λ y. (tokens.Reference y.0, y.1)) x (λ a. tt) h
    by_amp false h = by_return (eqb c 13) h

    by_less : (v : Bool) → cond v (markup_at (is_start mode) cs) (cond (eqb c 38) (reference_at cs >>= λ y. Some (tokens.Reference y.0, y.1)) (cond (eqb c 13) (Some (tokens.LineEnd, past_feed cs)) (run_at (is_inside mode) (c ∷ cs)))) ≡ Some x → IsSpelled x.0
    by_less true h = markup_spelled (is_start mode) cs x h
    by_less false h = by_amp (eqb c 38) h

-- ---- where a piece stands something is read

abbrev pub Gave : Option (Token × List ℕ) → Type 0
Gave r = (y : Token × List ℕ) × (r ≡ Some y)

gave_else : (r s : Option (Token × List ℕ)) → Gave s → Gave (option_or r s)
gave_else (Some x) s h = (x, refl)
gave_else None s h = h

regroup_three : (a b c d : List ℕ) → (a ++ b ++ c) ++ d ≡ a ++ (b ++ (c ++ d))
regroup_three a b c d = simp append_assoc

declaration_gave : (encoding : Option (List ℕ)) (front back : List ℕ) → Spells (Declaration encoding) front → Gave (token_at modes.Start (front ++ back))
unfolding token_at markup_at question_at
declaration_gave encoding front back h =
    let d = declaration_again encoding front h in
    let read : Gave (declared_at true (Some (d.0 ++ back))) = ((tokens.Declaration encoding, back), rw (d.2 back) refl) in
    let all : Gave (option_or (declared_at true (Some (d.0 ++ back))) (instruction_at (codes "xml" ++ (d.0 ++ back)) >>= λ rest. Some (tokens.Instruction, rest))) = ((tokens.Declaration encoding, back), ap (λ (o : Option (Token × List ℕ)). option_or o (instruction_at (codes "xml" ++ (d.0 ++ back)) >>= λ rest. Some (tokens.Instruction, rest))) read.1) in
    subst (λ (t : List ℕ). Gave (token_at modes.Start (t ++ back))) (sym d.1) all

instruction_gave : (mode : Mode) (front back : List ℕ) → Spells Instruction front → Gave (token_at mode (front ++ back))
unfolding token_at markup_at question_at
instruction_gave mode front back (target, inside, ht, hi, at) =
    let text : List ℕ = target ++ (inside ++ (codes "?>" ++ back)) in
    let read : Gave (instruction_at text >>= λ rest. Some (tokens.Instruction, rest)) = ((tokens.Instruction, back), rw (instruction_again target inside back ht hi) refl) in
    let all : Gave (token_at mode (codes "<?" ++ text)) = gave_else (declared_at (is_start mode) (after (codes "xml") text)) (instruction_at text >>= λ rest. Some (tokens.Instruction, rest)) read in
    let split : front ++ back ≡ codes "<?" ++ text = ap (λ (t : List ℕ). t ++ back) at ∙ regroup target inside back in
    subst (λ (t : List ℕ). Gave (token_at mode t)) (sym split) all
  where
    regroup : (a b c : List ℕ) → (codes "<?" ++ a ++ b ++ codes "?>") ++ c ≡ codes "<?" ++ (a ++ (b ++ (codes "?>" ++ c)))
    regroup a b c = simp append_assoc

comment_gave : (mode : Mode) (front back : List ℕ) → Spells Comment front → Gave (token_at mode (front ++ back))
unfolding token_at markup_at
comment_gave mode front back (inside, chars_, lacks, at) =
    let text : List ℕ = inside ++ (codes "-->" ++ back) in
    let read : Gave (token_at mode (codes "<!--" ++ text)) = ((tokens.Comment, back), rw (comment_again inside back chars_ lacks) refl) in
    subst (λ (t : List ℕ). Gave (token_at mode t)) (sym (ap (λ (t : List ℕ). t ++ back) at ∙ regroup_three (codes "<!--") inside (codes "-->") back)) read

cdata_gave : (mode : Mode) (data_text front back : List ℕ) → Spells (Cdata data_text) front → Gave (token_at mode (front ++ back))
unfolding token_at markup_at
cdata_gave mode data_text front back (inside, chars_, lacks, is, at) =
    let text : List ℕ = inside ++ (codes "]]>" ++ back) in
    let k = cdata_again inside back chars_ lacks in
    let read : Gave (token_at mode (codes "<![CDATA[" ++ text)) = ((tokens.Cdata (encode_utf8_all (line_ends inside)), back), rw k refl) in
    subst (λ (t : List ℕ). Gave (token_at mode t)) (sym (ap (λ (t : List ℕ). t ++ back) at ∙ regroup_three (codes "<![CDATA[") inside (codes "]]>") back)) read

start_differs : (n : ℕ) → is_name_start n ≡ false → (c : ℕ) → is_name_start c ≡ true → eqb c n ≡ false
start_differs n fails c h = apart (eqb c n) (λ e. not_both (is_name_start c) h (ap is_name_start (eqb-true c n e) ∙ fails))

-- a name start leads to a tag
markup_start : (start : Bool) (c : ℕ) (cs : List ℕ) → is_name_start c ≡ true → markup_at start (c ∷ cs) ≡ (start_at (c ∷ cs) >>= λ y. Some (tokens.Start y.0, y.1))
unfolding markup_at is_name_start
markup_start start c cs h = rw (start_differs 47 refl c h, start_differs 63 refl c h, start_differs 33 refl c h) refl

start_gave : (mode : Mode) (tag : Tag) (front back : List ℕ) → Spells (Start tag) front → Gave (token_at mode (front ++ back))
unfolding token_at
start_gave mode tag front back (name, inside, gap, hn, hi, hg, at) =
    let text : List ℕ = name ++ (inside ++ (gap ++ (tag_close tag.empty ++ back))) in
    let s = qname_starts tag.name name hn in
    let begins_ : text ≡ s.0 ∷ (s.1 ++ (inside ++ (gap ++ (tag_close tag.empty ++ back)))) = ap (λ (t : List ℕ). t ++ (inside ++ (gap ++ (tag_close tag.empty ++ back)))) s.3 in
    let read : start_at text ≡ Some (tag, back) = start_again tag name inside gap back hn hi hg in
    let marked : markup_at (is_start mode) text ≡ Some (tokens.Start tag, back) = ap (markup_at (is_start mode)) begins_ ∙ markup_start (is_start mode) s.0 (s.1 ++ (inside ++ (gap ++ (tag_close tag.empty ++ back)))) s.2 ∙ ap (λ (o : Option (Tag × List ℕ)). o >>= λ y. Some (tokens.Start y.0, y.1)) (ap start_at (sym begins_) ∙ read) in
    let split : front ++ back ≡ codes "<" ++ text = ap (λ (t : List ℕ). t ++ back) at ∙ regroup name inside gap (tag_close tag.empty) back in
    let all : Gave (token_at mode (codes "<" ++ text)) = ((tokens.Start tag, back), marked) in
    subst (λ (t : List ℕ). Gave (token_at mode t)) (sym split) all
  where
    regroup : (a b c d e : List ℕ) → (codes "<" ++ a ++ b ++ c ++ d) ++ e ≡ codes "<" ++ (a ++ (b ++ (c ++ (d ++ e))))
    regroup a b c d e = simp append_assoc

end_gave : (mode : Mode) (end_name : QName) (front back : List ℕ) → Spells (End end_name) front → Gave (token_at mode (front ++ back))
unfolding token_at markup_at
end_gave mode end_name front back (name, gap, hn, hg, at) =
    let text : List ℕ = name ++ (gap ++ (62 ∷ back)) in
    let read : Gave (token_at mode (codes "</" ++ text)) = ((tokens.End end_name, back), rw (end_again end_name name gap back hn hg) refl) in
    subst (λ (t : List ℕ). Gave (token_at mode t)) (sym (ap (λ (t : List ℕ). t ++ back) at ∙ regroup name gap back)) read
  where
    regroup : (a b c : List ℕ) → (codes "</" ++ a ++ b ++ codes ">") ++ c ≡ codes "</" ++ (a ++ (b ++ (62 ∷ c)))
    regroup a b c = simp append_assoc

reference_gave : (mode : Mode) (c : ℕ) (front back : List ℕ) → Spells (Reference c) front → Gave (token_at mode (front ++ back))
unfolding token_at
reference_gave mode c front back h =
    let r = reference_again c front h in
    let read : Gave (token_at mode (38 ∷ (r.0 ++ back))) = ((tokens.Reference c, back), rw (r.2 back) refl) in
    subst (λ (t : List ℕ). Gave (token_at mode (t ++ back))) (sym r.1) read

line_end_gave : (mode : Mode) (front back : List ℕ) → Spells LineEnd front → Gave (token_at mode (front ++ back))
unfolding token_at
line_end_gave mode front back (inl at) = subst (λ (t : List ℕ). Gave (token_at mode (t ++ back))) (sym at) ((tokens.LineEnd, back), refl)
line_end_gave mode front back (inr at) = subst (λ (t : List ℕ). Gave (token_at mode (t ++ back))) (sym at) ((tokens.LineEnd, past_feed back), refl)

run_gave : (mode : Mode) (c : ℕ) (back : List ℕ) → PlainChar c → Fits mode (Character c) (c ∷ []) back → Gave (run_at (is_inside mode) (c ∷ back))
unfolding run_at
run_gave mode c back p fits =
    let starts : starts_plain (is_inside mode) (c ∷ back) ≡ true = rw (char_plain c p, fits_plain mode c back fits) refl in
    ((tokens.Run (encode_utf8_all (plain_front (is_inside mode) (c ∷ back))), plain_back (is_inside mode) (c ∷ back)), ap (λ (v : Bool). cond v (Some (tokens.Run (encode_utf8_all (plain_front (is_inside mode) (c ∷ back))), plain_back (is_inside mode) (c ∷ back))) None) starts)

character_gave : (mode : Mode) (c : ℕ) (front back : List ℕ) → Spells (Character c) front → Fits mode (Character c) front back → Gave (token_at mode (front ++ back))
unfolding token_at
character_gave mode c front back (char, less, amp, return, at) fits =
    let l = ne_eqb c 60 less in
    let a = ne_eqb c 38 amp in
    let r = ne_eqb c 13 return in
    let g = run_gave mode c back (record { char = char; less = l; amp = a; return = r }) (λ inside k follows. fits inside k follows) in
    let read : token_at mode (c ∷ back) ≡ run_at (is_inside mode) (c ∷ back) = rw (l, a, r) refl in
    subst (λ (t : List ℕ). Gave (token_at mode (t ++ back))) (sym at) (g.0, read ∙ g.1)

pub token_gave : (mode : Mode) (p : Piece) (front back : List ℕ) → Spells p front → Fits mode p front back → Gave (token_at mode (front ++ back))
token_gave mode (Declaration encoding) front back h fits = subst (λ (m : Mode). Gave (token_at m (front ++ back))) (sym fits) (declaration_gave encoding front back h)
token_gave mode Instruction front back h fits = instruction_gave mode front back h
token_gave mode Comment front back h fits = comment_gave mode front back h
token_gave mode (Cdata data_text) front back h fits = cdata_gave mode data_text front back h
token_gave mode (Start tag) front back h fits = start_gave mode tag front back h
token_gave mode (End end_name) front back h fits = end_gave mode end_name front back h
token_gave mode (Reference c) front back h fits = reference_gave mode c front back h
token_gave mode LineEnd front back h fits = line_end_gave mode front back h
token_gave mode (Character c) front back h fits = character_gave mode c front back h fits

-- where nothing is read no piece stands
pub token_none : (mode : Mode) (cs : List ℕ) → token_at mode cs ≡ None → HasPiece mode cs → ⊥
token_none mode cs e (p, front, back, stands, at) =
    let g = token_gave mode p front back stands.spelled stands.fits in
    let bad : token_at mode cs ≡ Some g.0 = ap (token_at mode) at ∙ g.1 in
    cc

-- ---- bytes

-- pieces stand on a front of the text
row_front : (mode : Mode) (ps : List Piece) (text left : List ℕ) → StandsRow mode ps text left → (front : List ℕ) × (text ≡ front ++ left) × (ps ≢ [] → 0 < length front)
row_front mode [] text left h = ([], h, λ some. absurd (some refl))
row_front mode (p ∷ ps) text left (front, back, stands, more, at) =
    let r = row_front (later mode) ps back left more in
    let long = stands_some mode p front back stands in
    (front ++ r.0, at ∙ ap (λ (t : List ℕ). front ++ t) r.1 ∙ sym (append_assoc front r.0 left), λ some. omega (arith, length-append front r.0))

pub after_row : (mode : Mode) (ps : List Piece) (text rest : List ℕ) → IsUtf8 text → IsUtf8 rest → Row mode ps (chars text) (chars rest) → IsAfter text rest
after_row mode ps text rest u v h =
    let r = row_front mode ps (chars text) (chars rest) h.0 in
    let at : text ≡ encode_utf8_all r.0 ++ rest = sym (encodes-chars text u) ∙ ap encode_utf8_all r.1 ∙ encodes-append r.0 (chars rest) ∙ ap (λ (t : List ℕ). encode_utf8_all r.0 ++ t) (encodes-chars rest v) in
    let long = r.2 h.1 in
    (encode_utf8_all r.0, at, omega (arith, length-le-encodes r.0))
