-- A token further, and the document of what is read to its end.
use Rattle.std.proofs.Common.{◌≡◌, ◌≢◌, ℕ, ◌+◌, ◌-◌, Bool, true, false, cond, eqb, not, ◌&&◌, List, [], ◌∷◌, length, map, Option, Some, None, Result, Ok, Err, refl, sym, ap, subst, ◌∙◌, append-nil, inl, inr}
use Rattle.std.specs.Prelude.{chars, encode_utf8_all}
use Rattle.std.specs.List.{prefix_len}
use Rattle.std.specs.Str.{IsUtf8}
use Rattle.std.proofs.lemmas.Bool.{eqb-true}
use Rattle.xmp_values.specs.Characters.{is_blank}
use Rattle.xmp_values.specs.declared.hints.Hint.{Hint}
use Rattle.xmp_values.specs.declared.rules.Rule.{Rule}
use Rattle.xmp_values.specs.declared.rules.Rule.TheVariants.{OutsideRoot, Unfinished}
use Rattle.xml_grammar.specs.declared.elements.Child.TheVariants as child
use Rattle.xml_grammar.specs.declared.elements.Element.{Element}
use Rattle.xml_grammar.specs.declared.tokens.Token.{Token}
use Rattle.xml_grammar.specs.declared.tokens.Token.TheVariants as tokens
use Rattle.xml_grammar.specs.Pieces.{Piece, Declaration, Instruction, Comment, Cdata, Start, End, Reference, LineEnd, Character}
use Rattle.xml_tokenizer.specs.Rows.{StandsRow}
use Rattle.xml_grammar.specs.Nesting as nesting
use Rattle.xml_grammar.specs.Nesting.{Nest, mode_of, broken}
use Rattle.xml_grammar.specs.Trees.{events, events_of, put, first_hints}
use Rattle.xml_grammar.specs.Documents.{width, IsDocument}
use Rattle.xml_tokenizer.proofs.RunPieces.{IsRunFree}
use Rattle.xmp_xml.specs.declared.builder.Frame.{Frame}
use Rattle.xmp_xml.specs.declared.builder.Builder.{Builder}
use Rattle.xmp_xml.specs.Building.{is_nil, levels_of, is_rooted, nest_of, with_text, after}
use Rattle.xmp_xml.specs.Document.{Fault, Contents, allowed, piece_step, run_step, token_step, Takes, Advances, or_unfinished, finish}
use Rattle.xmp_xml.proofs.Reached.{before, frames, shown, IsQuiet, Reached}
use Rattle.xmp_xml.proofs.Starts.{all_blank}
use Rattle.xmp_xml.proofs.Walks.{Quiet, piece_reached, run_reached}

-- ---- one token further

allowed_ok : (s : Builder) (at : ℕ) (p : Piece) (o : Option Rule) (next : Builder) → allowed s at p o ≡ Ok next → (o ≡ None) × (after s at p ≡ next)
allowed_ok s at p None next e = (refl, cc)
allowed_ok s at p (Some r) next e = absurd cc

-- the test of a run
abbrev pub stops_run : Builder → List ℕ → Bool
stops_run s t = is_nil s.outer && not (eqb (prefix_len is_blank t) (length t))

run_ok : (s : Builder) (at : ℕ) (t : List ℕ) (next : Builder) → run_step s at t ≡ Ok next → (stops_run s t ≡ false) × (with_text s t ≡ next)
run_ok s at t next e = by_test (stops_run s t) e
  where
    by_test : (v : Bool) → cond {A = Result Builder Fault} v (Err (OutsideRoot, at + prefix_len is_blank t)) (Ok (with_text s t)) ≡ Ok next → (v ≡ false) × (with_text s t ≡ next)
    by_test true e = absurd cc
    by_test false e = (refl, cc)

-- outside the root such a run is white space
run_free : (s : Builder) (run : List ℕ) → stops_run s (encode_utf8_all run) ≡ false → IsRunFree (nest_of s) run
run_free s run e = by_outer s.outer e
  where
    by_same : (v : Bool) → eqb (prefix_len is_blank (encode_utf8_all run)) (length (encode_utf8_all run)) ≡ v → not v ≡ false → prefix_len is_blank (encode_utf8_all run) ≡ length (encode_utf8_all run)
    by_same true h k = eqb-true _ _ h
    by_same false h k = absurd cc

    by_outer : (outer : List Frame) → (is_nil outer && not (eqb (prefix_len is_blank (encode_utf8_all run)) (length (encode_utf8_all run)))) ≡ false → IsRunFree (record { first = s.first; levels = levels_of s.top outer s.scope; rooted = is_rooted outer s.root }) run
    by_outer [] k = inr (all_blank run (by_same (eqb (prefix_len is_blank (encode_utf8_all run)) (length (encode_utf8_all run))) refl k))
    by_outer (o ∷ os) k = inl refl

pub reached_next : (text cs left : List ℕ) (s next : Builder) → IsUtf8 text → Reached text s cs → Advances s (length text - width cs) cs next left → Reached text next left
reached_next text cs left s next u r (token, takes, step) = by_token token takes step
  where
    one : (p : Piece) → StandsRow (mode_of (nest_of s)) (p ∷ []) cs left → piece_step s (length text - width cs) p ≡ Ok next → Reached text next left
    one p (front, back, stands, same, is) e =
        let a = allowed_ok s (length text - width cs) p (broken (nest_of s) p) next e in
        let k : Reached text (after s (length text - width cs) p) back = piece_reached text cs front back s p u r is stands a.0 in
        subst (λ (z : Builder). Reached text z left) a.1 (subst (λ (z : List ℕ). Reached text (after s (length text - width cs) p) z) same k)

    by_run : (t run : List ℕ) → encode_utf8_all run ≡ t → StandsRow (mode_of (nest_of s)) (map Character run) cs left → map Character run ≢ [] → run_step s (length text - width cs) t ≡ Ok next → Reached text next left
    by_run t [] spelled row some e = absurd (some refl)
    by_run t (c ∷ run) spelled row some e =
        let k = run_ok s (length text - width cs) t next e in
        let free : IsRunFree (nest_of s) (c ∷ run) = run_free s (c ∷ run) (subst (λ (z : List ℕ). stops_run s z ≡ false) (sym spelled) k.0) in
        subst (λ (z : Builder). Reached text z left) (ap (with_text s) spelled ∙ k.1) (run_reached text cs left s c run u r row free)

    by_token : (token : Token) → Takes s token cs left → token_step s (length text - width cs) token ≡ Ok next → Reached text next left
    by_token (tokens.Declaration encoding) t e = one (Declaration encoding) t.stands e
    by_token tokens.Instruction t e = one Instruction t.stands e
    by_token tokens.Comment t e = one Comment t.stands e
    by_token (tokens.Cdata x) t e = one (Cdata x) t.stands e
    by_token (tokens.Start tag) t e = one (Start tag) t.stands e
    by_token (tokens.End name) t e = one (End name) t.stands e
    by_token (tokens.Reference c) t e = one (Reference c) t.stands e
    by_token tokens.LineEnd t e = one LineEnd t.stands e
    by_token (tokens.Run x) t e = by_run x (chars x) t.spelled t.stands t.some e

-- ---- the end

pub record Finished (s : Builder) (root : Element) (hints : List Hint) : Type 0 where
  pub tree : shown s [] ≡ events (child.Element root)
  pub closed : (nest_of s).levels ≡ []
  pub rooted : (nest_of s).rooted ≡ true
  pub hinted : hints ≡ first_hints s.hints

abbrev done : Contents → Result Contents Fault
done x = Ok x

contents_is : (x y : Contents) → done x ≡ done y → x ≡ y
contents_is x y e = cc

finished : (s : Builder) (at : ℕ) (root : Element) (hints : List Hint) → Quiet s → finish s at ≡ Ok (root, hints) → Finished s root hints
finished s at root hints q e = by_outer s.outer s.text s.root q e
  where
    by_outer : (outer : List Frame) (t : List ℕ) (o : Option Element) → IsQuiet outer t o → cond (is_nil outer) (or_unfinished at s.hints o) (Err (Unfinished, at)) ≡ Ok (root, hints)
        → Finished (record { first = s.first; outer = outer; top = s.top; text = t; root = o; hints = s.hints; scope = s.scope }) root hints
    by_outer [] t None q e = absurd cc
    by_outer [] t (Some x) q e =
        let same = contents_is (x, first_hints s.hints) (root, hints) e in
        record {
          tree = ap (λ (u : List ℕ). before (Some x) (frames [] s.top (put u []))) q ∙ append-nil (events (child.Element x)) ∙ ap (λ (y : Contents). events (child.Element y.0)) same;
          closed = refl;
          rooted = refl;
          hinted = sym (ap (λ (y : Contents). y.1) same);
        }
    by_outer (o ∷ os) t root q e = absurd cc

pub document_from : (text : List ℕ) (s : Builder) (root : Element) (hints : List Hint) → IsUtf8 text → Reached text s [] → finish s (length text) ≡ Ok (root, hints) → IsDocument text root hints
document_from text s root hints u r e =
    let f = finished s (length text) root hints r.quiet e in
    record {
      utf8 = u;
      pieces = r.pieces;
      read = r.read;
      closed = ap (λ (z : Nest). z.levels) (sym r.nest) ∙ f.closed;
      rooted = ap (λ (z : Nest). z.rooted) (sym r.nest) ∙ f.rooted;
      tree = ap (events_of nesting.start) (sym (append-nil r.pieces)) ∙ r.shows [] ∙ f.tree;
      hinted = f.hinted ∙ ap first_hints r.hinted;
    }
