-- Characters that stand for themselves: a run, cut inside an element where `]]>` begins.
use Rattle.std.proofs.Common.{◌≡◌, ℕ, Bool, true, false, cond, eqb, not, ◌&&◌, List, [], ◌∷◌, ◌++◌, length, take, drop, Option, Some, None, refl, sym, ap, subst, ◌∙◌, arith}
use Rattle.std.specs.Prelude.{IsTrue, is_some, codes, encode_utf8_all}
use Rattle.std.specs.List.{list_all}
use Rattle.std.specs.Str.{chars, all_scalars, IsUtf8, IsCharBoundary}
use Rattle.std.proofs.lemmas.Bool.{eqb-true, ne_eqb}
use Rattle.std.proofs.lemmas.List.{take_at, drop_at}
use Rattle.std.proofs.lemmas.Str.{chars-encodes, encodes-chars, scalars-chars, encodes-append, IsCharBoundary-at_seam, length-le-encodes}
use Rattle.xml_grammar.proofs.Splits.{both, all_cons}
use Rattle.xmp_values.specs.Characters.{is_char}
use Rattle.xml_tokenizer.specs.Classes.{is_plain}
use Rattle.xml_tokenizer.specs.Runs.{taken, past, after, begins, up_to, found_or, with_front}
use Rattle.xml_tokenizer.specs.Tokens.{starts_plain, plain_front, plain_back}
use Rattle.xml_tokenizer.proofs.Steps.{some_is}
use Rattle.xml_tokenizer.proofs.Sought.{taken_past}
use Rattle.xml_tokenizer.proofs.Sure.{scalars_after, scalars_before}

pub plain_parts : (inside : Bool) (cs : List ℕ) → cs ≡ plain_front inside cs ++ plain_back inside cs
plain_parts inside [] = refl
plain_parts inside (c ∷ cs) = by_start (starts_plain inside (c ∷ cs)) (plain_parts inside cs)
  where
    by_start : (v : Bool) → cs ≡ plain_front inside cs ++ plain_back inside cs → c ∷ cs ≡ cond v (c ∷ plain_front inside cs) [] ++ cond v (plain_back inside cs) (c ∷ cs)
    by_start true ih = ap (λ (t : List ℕ). c ∷ t) ih
    by_start false ih = refl

pub plain_front_all : (inside : Bool) (cs : List ℕ) → IsTrue (list_all is_plain (plain_front inside cs))
plain_front_all inside [] = refl
plain_front_all inside (c ∷ cs) = by_start (starts_plain inside (c ∷ cs)) refl (plain_front_all inside cs)
  where
    by_start : (v : Bool) → starts_plain inside (c ∷ cs) ≡ v → IsTrue (list_all is_plain (plain_front inside cs)) → IsTrue (list_all is_plain (cond v (c ∷ plain_front inside cs) []))
    by_start true h ih = all_cons is_plain c (plain_front inside cs) (both (is_plain c) (not (inside && begins (codes "]]>") (c ∷ cs))) h).0 ih
    by_start false h ih = refl

-- the run is empty where the first character doesn't stand for itself, and only there
pub empty_run : (inside : Bool) (cs run : List ℕ) → run ≡ encode_utf8_all (plain_front inside cs) → starts_plain inside cs ≡ not (eqb (length run) 0)
empty_run inside [] run e = ap (λ (t : List ℕ). not (eqb (length t) 0)) (sym e)
empty_run inside (c ∷ cs) run e = by_start (starts_plain inside (c ∷ cs)) e
  where
    by_start : (v : Bool) → run ≡ encode_utf8_all (cond v (c ∷ plain_front inside cs) []) → v ≡ not (eqb (length run) 0)
    by_start true h =
        let some : eqb (length run) 0 ≡ false = ne_eqb (length run) 0 (λ q. omega (arith, ap length h, length-le-encodes (c ∷ plain_front inside cs))) in
        sym (ap not some)
    by_start false h = sym (ap (λ (t : List ℕ). not (eqb (length t) 0)) h)

-- a word of the class begins a text where it begins the run at its front
begins_taken : (p : ℕ → Bool) (word cs : List ℕ) → IsTrue (list_all p word) → begins word (taken p cs) ≡ begins word cs
begins_taken p [] cs h = refl
begins_taken p (w ∷ word) [] h = refl
begins_taken p (w ∷ word) (c ∷ cs) h = by_same (eqb c w) refl (p c) refl (both (p w) (list_all p word) h).0 (begins_taken p word cs (both (p w) (list_all p word) h).1)
  where
    by_same : (v : Bool) → eqb c w ≡ v → (u : Bool) → p c ≡ u → p w ≡ true → begins word (taken p cs) ≡ begins word cs → is_some (after (w ∷ word) (cond u (c ∷ taken p cs) [])) ≡ is_some (cond v (after word cs) None)
    by_same true e true k hw ih = rw e ih
    by_same true e false k hw ih = let same : c ≡ w = eqb-true c w e in absurd cc
    by_same false e true k hw ih = rw e refl
    by_same false e false k hw ih = refl

abbrev end : List ℕ
end = codes "]]>"

end_plain : IsTrue (list_all is_plain end)
unfolding is_plain is_char
end_plain = refl

end_same : (c : ℕ) (cs : List ℕ) → is_plain c ≡ true → begins end (c ∷ taken is_plain cs) ≡ begins end (c ∷ cs)
end_same c cs h =
    let t : taken is_plain (c ∷ cs) ≡ c ∷ taken is_plain cs = rw h refl in
    ap (begins end) (sym t) ∙ begins_taken is_plain end (c ∷ cs) end_plain

starts_by : (inside : Bool) (c : ℕ) (cs : List ℕ) (u v : Bool) → is_plain c ≡ u → (inside && begins end (c ∷ cs)) ≡ v → starts_plain inside (c ∷ cs) ≡ (u && not v)
starts_by inside c cs u v h k = rw (h, k) refl

-- the run at the front, and what follows it
abbrev pub IsPlainRun : Bool → List ℕ → List ℕ → List ℕ → Type 0
IsPlainRun inside cs run rest = (plain_front inside cs ≡ run) × (plain_back inside cs ≡ rest)

run_none : (inside : Bool) (c : ℕ) (cs : List ℕ) → starts_plain inside (c ∷ cs) ≡ false → IsPlainRun inside (c ∷ cs) [] (c ∷ cs)
run_none inside c cs h = (rw h refl, rw h refl)

run_more : (inside : Bool) (c : ℕ) (cs run rest : List ℕ) → starts_plain inside (c ∷ cs) ≡ true → IsPlainRun inside cs run rest → IsPlainRun inside (c ∷ cs) (c ∷ run) rest
run_more inside c cs run rest h (front, back) = (rw h (ap (λ (t : List ℕ). c ∷ t) front), rw h back)

-- outside the root all of the run stands
pub plain_outside : (cs : List ℕ) → IsPlainRun false cs (taken is_plain cs) (past is_plain cs)
plain_outside [] = (refl, refl)
plain_outside (c ∷ cs) = by_plain (is_plain c) refl (plain_outside cs)
  where
    by_plain : (v : Bool) → is_plain c ≡ v → IsPlainRun false cs (taken is_plain cs) (past is_plain cs) → IsPlainRun false (c ∷ cs) (cond v (c ∷ taken is_plain cs) []) (cond v (past is_plain cs) (c ∷ cs))
    by_plain true h ih = run_more false c cs (taken is_plain cs) (past is_plain cs) (starts_by false c cs true false h refl) ih
    by_plain false h ih = run_none false c cs (starts_by false c cs false false h refl)

-- inside an element, where the run has no `]]>`
pub plain_whole : (cs : List ℕ) → up_to end (taken is_plain cs) ≡ None → IsPlainRun true cs (taken is_plain cs) (past is_plain cs)
unfolding is_plain
plain_whole [] e = (refl, refl)
plain_whole (c ∷ cs) e = by_plain (is_plain c) refl e (plain_whole cs)
  where
    Whole : Type 0
    Whole = up_to end (taken is_plain cs) ≡ None → IsPlainRun true cs (taken is_plain cs) (past is_plain cs)

    by_char : (v : Bool) → is_char c ≡ v → is_plain c ≡ true → cond v (with_front (c ∷ []) (up_to end (taken is_plain cs))) None ≡ None → up_to end (taken is_plain cs) ≡ None
    by_char true h k e = not_front (up_to end (taken is_plain cs)) e
      where
        not_front : (r : Option (List ℕ × List ℕ)) → with_front (c ∷ []) r ≡ None → r ≡ None
        not_front None e = refl
        not_front (Some x) e = absurd cc
    by_char false h k e = let bad : is_plain c ≡ false = rw h refl in absurd cc

    by_found : (o : Option (List ℕ)) → after end (c ∷ taken is_plain cs) ≡ o → is_plain c ≡ true → found_or c o (up_to end (taken is_plain cs)) ≡ None → Whole → IsPlainRun true (c ∷ cs) (c ∷ taken is_plain cs) (past is_plain cs)
    by_found (Some rest) k h e ih = absurd cc
    by_found None k h e ih =
        let none : begins end (c ∷ cs) ≡ false = sym (end_same c cs h) ∙ ap is_some k in
        run_more true c cs (taken is_plain cs) (past is_plain cs) (starts_by true c cs true false h none) (ih (by_char (is_char c) refl h e))

    by_plain : (v : Bool) → is_plain c ≡ v → up_to end (cond v (c ∷ taken is_plain cs) []) ≡ None → Whole → IsPlainRun true (c ∷ cs) (cond v (c ∷ taken is_plain cs) []) (cond v (past is_plain cs) (c ∷ cs))
    by_plain true h e ih = by_found (after end (c ∷ taken is_plain cs)) refl h e ih
    by_plain false h e ih = run_none true c cs (starts_by true c cs false (begins end (c ∷ cs)) h refl)

-- inside an element, where the run has one
pub plain_cut : (cs : List ℕ) (x : List ℕ × List ℕ) → up_to end (taken is_plain cs) ≡ Some x → plain_front true cs ≡ x.0
plain_cut [] x e = absurd cc
plain_cut (c ∷ cs) x e = by_plain (is_plain c) refl e (plain_cut cs)
  where
    Cuts : Type 0
    Cuts = (y : List ℕ × List ℕ) → up_to end (taken is_plain cs) ≡ Some y → plain_front true cs ≡ y.0

    by_later : (v : Bool) (r : Option (List ℕ × List ℕ)) → up_to end (taken is_plain cs) ≡ r → starts_plain true (c ∷ cs) ≡ true → cond v (with_front (c ∷ []) r) None ≡ Some x → Cuts → plain_front true (c ∷ cs) ≡ x.0
    by_later true (Some y) k h e ih = rw h (ap (λ (t : List ℕ). c ∷ t) (ih y k) ∙ ap (λ (z : List ℕ × List ℕ). z.0) (some_is (c ∷ y.0, y.1) x e))
    by_later true None k h e ih = absurd cc
    by_later false r k h e ih = absurd cc

    by_found : (o : Option (List ℕ)) → after end (c ∷ taken is_plain cs) ≡ o → is_plain c ≡ true → found_or c o (up_to end (taken is_plain cs)) ≡ Some x → Cuts → plain_front true (c ∷ cs) ≡ x.0
    by_found (Some rest) k h e ih =
        let found : begins end (c ∷ cs) ≡ true = sym (end_same c cs h) ∙ ap is_some k in
        (run_none true c cs (starts_by true c cs true true h found)).0 ∙ ap (λ (z : List ℕ × List ℕ). z.0) (some_is ([], rest) x e)
    by_found None k h e ih =
        let none : begins end (c ∷ cs) ≡ false = sym (end_same c cs h) ∙ ap is_some k in
        by_later (is_char c) (up_to end (taken is_plain cs)) refl (starts_by true c cs true false h none) e ih

    by_plain : (v : Bool) → is_plain c ≡ v → up_to end (cond v (c ∷ taken is_plain cs) []) ≡ Some x → Cuts → plain_front true (c ∷ cs) ≡ x.0
    by_plain true h e ih = by_found (after end (c ∷ taken is_plain cs)) refl h e ih
    by_plain false h e ih = absurd cc

-- a text is cut between its characters
pub record Between (text : List ℕ) (n : ℕ) (a b : List ℕ) : Type 0 where
  pub boundary : IsCharBoundary text n
  pub front : take n text ≡ encode_utf8_all a
  pub rest : chars (drop n text) ≡ b

pub between : (text front a b : List ℕ) → IsUtf8 text → IsUtf8 front → chars text ≡ a ++ b → chars front ≡ a → Between text (length front) a b
between text front a b u v e f =
    let spelled : front ≡ encode_utf8_all a = sym (encodes-chars front v) ∙ ap encode_utf8_all f in
    let at : text ≡ front ++ encode_utf8_all b = sym (encodes-chars text u) ∙ ap encode_utf8_all e ∙ encodes-append a b ∙ ap (λ (t : List ℕ). t ++ encode_utf8_all b) (sym spelled) in
    let scalars : all_scalars b ≡ true = scalars_after a b (ap all_scalars (sym e) ∙ scalars-chars text u) in
    record {
      boundary = IsCharBoundary-at_seam text front (encode_utf8_all b) at (b, (scalars, refl));
      front = ap (take (length front)) at ∙ take_at front (encode_utf8_all b) (length front) refl ∙ spelled;
      rest = ap (λ (t : List ℕ). chars (drop (length front) t)) at ∙ ap chars (drop_at front (encode_utf8_all b) (length front) refl) ∙ chars-encodes b scalars;
    }

-- what a run's bytes say of its characters
run_chars : (text run : List ℕ) → IsUtf8 text → run ≡ encode_utf8_all (taken is_plain (chars text)) → chars run ≡ taken is_plain (chars text)
run_chars text run u e =
    let scalars : all_scalars (taken is_plain (chars text)) ≡ true = scalars_before (taken is_plain (chars text)) (past is_plain (chars text)) (ap all_scalars (sym (taken_past is_plain (chars text))) ∙ scalars-chars text u) in
    ap chars e ∙ chars-encodes (taken is_plain (chars text)) scalars

pub outside_run : (inside : Bool) (cs : List ℕ) → inside ≡ false → IsPlainRun inside cs (taken is_plain cs) (past is_plain cs)
outside_run inside cs e = subst (λ (v : Bool). IsPlainRun v cs (taken is_plain cs) (past is_plain cs)) (sym e) (plain_outside cs)

pub whole_run : (inside : Bool) (text run : List ℕ) → inside ≡ true → IsUtf8 text → run ≡ encode_utf8_all (taken is_plain (chars text)) → up_to end (chars run) ≡ None
    → IsPlainRun inside (chars text) (taken is_plain (chars text)) (past is_plain (chars text))
whole_run inside text run i u e h = subst (λ (v : Bool). IsPlainRun v (chars text) (taken is_plain (chars text)) (past is_plain (chars text))) (sym i) (plain_whole (chars text) (ap (up_to end) (sym (run_chars text run u e)) ∙ h))

pub cut_run : (inside : Bool) (text run front rest : List ℕ) → inside ≡ true → IsUtf8 text → IsUtf8 front → run ≡ encode_utf8_all (taken is_plain (chars text)) → up_to end (chars run) ≡ Some (chars front, rest)
    → Between text (length front) (plain_front inside (chars text)) (plain_back inside (chars text))
cut_run inside text run front rest i u v e h =
    let cut : plain_front true (chars text) ≡ chars front = plain_cut (chars text) (chars front, rest) (ap (up_to end) (sym (run_chars text run u e)) ∙ h) in
    between text front (plain_front inside (chars text)) (plain_back inside (chars text)) u v (plain_parts inside (chars text)) (sym cut ∙ ap (λ (w : Bool). plain_front w (chars text)) (sym i))
