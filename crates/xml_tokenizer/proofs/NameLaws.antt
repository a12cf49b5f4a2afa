-- What is read as a name is spelled so, and what is spelled so is read.
use Rattle.std.proofs.Common.{◌≡◌, ℕ, true, false, eqb, List, [], ◌∷◌, ◌++◌, Option, Some, None, refl, sym, ap, subst, ◌∙◌, append_assoc}
use Rattle.std.specs.Prelude.{IsTrue, codes, encode_utf8_all}
use Rattle.std.specs.List.{list_all}
use Rattle.xmp_values.specs.Characters.{is_name_start, is_name_char, is_name_of}
use Rattle.xml_grammar.specs.declared.tags.QName.{QName}
use Rattle.xml_grammar.specs.Spelling.{SpellsName, SpellsPrefixed, SpellsQName}
use Rattle.xml_grammar.proofs.Splits.{both, both_again, Stops}
use Rattle.xml_grammar.proofs.Parts.{is_qname_char, start_is_name, name_all}
use Rattle.xml_tokenizer.specs.Names.{starts_name, name_at, local_at, qname_at}
use Rattle.xml_tokenizer.specs.Runs.{taken, past, after}
use Rattle.xml_tokenizer.proofs.Sought.{taken_past}
use Rattle.xml_tokenizer.proofs.Steps.{or_false, bind_some, some_is, passed, taken_all, run_again}
use Rattle.xml_tokenizer.proofs.Words.{after_takes}

name_of_run : (cs : List ℕ) → starts_name cs ≡ true → IsTrue (is_name_of (taken is_name_char cs))
name_of_run [] e = absurd cc
name_of_run (c ∷ cs) e =
    let k : taken is_name_char (c ∷ cs) ≡ c ∷ taken is_name_char cs = rw (start_is_name c e) refl in
    subst (λ (x : List ℕ). IsTrue (is_name_of x)) (sym k) (both_again (is_name_start c) (list_all is_name_char (taken is_name_char cs)) e (taken_all is_name_char cs))

pub name_takes : (cs : List ℕ) (x : List ℕ × List ℕ) → name_at cs ≡ Some x → (text : List ℕ) × SpellsName x.0 text × (cs ≡ text ++ x.1)
unfolding name_at
name_takes cs x e =
    let g = passed (starts_name cs) (Some (encode_utf8_all (taken is_name_char cs), past is_name_char cs)) x e in
    subst (λ (y : List ℕ × List ℕ). (text : List ℕ) × SpellsName y.0 text × (cs ≡ text ++ y.1)) (some_is _ x g.1) (taken is_name_char cs, (name_of_run cs g.0, refl), taken_past is_name_char cs)

pub name_starts : (text rest : List ℕ) → IsTrue (is_name_of text) → starts_name (text ++ rest) ≡ true
name_starts [] rest h = absurd cc
name_starts (c ∷ cs) rest h = (both (is_name_start c) (list_all is_name_char cs) h).0

pub name_again : (text rest : List ℕ) → IsTrue (is_name_of text) → Stops is_name_char rest → name_at (text ++ rest) ≡ Some (encode_utf8_all text, rest)
unfolding name_at
name_again text rest h s =
    let r = run_again is_name_char text rest (name_all text h) s in
    rw (name_starts text rest h, r.0, r.1) refl

pub qname_takes : (cs : List ℕ) (x : QName × List ℕ) → qname_at cs ≡ Some x → (text : List ℕ) × SpellsQName x.0 text × (cs ≡ text ++ x.1)
unfolding qname_at
qname_takes cs x e =
    let a = bind_some (name_at cs) (λ y. local_at y.0 y.1 (after (codes ":") y.1)) x e in
    let n = name_takes cs a.0 a.1 in
    by_colon a.0.0 a.0.1 (after (codes ":") a.0.1) n.0 n.1 refl n.2 a.2
  where
    regroup : (a b c d : List ℕ) → a ++ (b ++ (c ++ d)) ≡ (a ++ b ++ c) ++ d
    regroup a b c d = simp append_assoc

    by_colon : (name rest : List ℕ) (o : Option (List ℕ)) (text : List ℕ) → SpellsName name text → after (codes ":") rest ≡ o → cs ≡ text ++ rest → local_at name rest o ≡ Some x → (t : List ℕ) × SpellsQName x.0 t × (cs ≡ t ++ x.1)
    by_colon name rest None text spelled found at h =
        subst (λ (y : QName × List ℕ). (t : List ℕ) × SpellsQName y.0 t × (cs ≡ t ++ y.1)) (some_is (record { prefix = None; local = name }, rest) x h) (text, spelled, at)
    by_colon name rest (Some later) text spelled found at h =
        let b = bind_some (name_at later) (λ y. Some (record { prefix = Some name; local = y.0 }, y.1)) x h in
        let m = name_takes later b.0 b.1 in
        let colon : rest ≡ codes ":" ++ later = after_takes (codes ":") rest later found in
        let all : cs ≡ (text ++ codes ":" ++ m.0) ++ b.0.1 = at ∙ ap (λ (t : List ℕ). text ++ t) (colon ∙ ap (λ (t : List ℕ). codes ":" ++ t) m.2) ∙ regroup text (codes ":") m.0 b.0.1 in
        subst (λ (y : QName × List ℕ). (t : List ℕ) × SpellsQName y.0 t × (cs ≡ t ++ y.1)) (some_is (record { prefix = Some name; local = b.0.0 }, b.0.1) x b.2) (text ++ codes ":" ++ m.0, (text, m.0, spelled, m.1, refl), all)

qname_stops : (rest : List ℕ) → Stops is_qname_char rest → Stops is_name_char rest × (after (codes ":") rest ≡ None)
qname_stops [] s = (tt, refl)
qname_stops (c ∷ cs) s = let k = or_false (is_name_char c) (eqb c 58) s in (k.0, rw (k.1) refl)

colon_stops : is_name_char 58 ≡ false
unfolding is_name_char is_name_start
colon_stops = refl

pub prefixed_again : (prefix : Option (List ℕ)) (local text rest : List ℕ) → SpellsPrefixed prefix local text → Stops is_qname_char rest → qname_at (text ++ rest) ≡ Some (record { prefix = prefix; local = local }, rest)
unfolding qname_at
prefixed_again None local text rest (is, e) s =
    let k = qname_stops rest s in
    rw (name_again text rest is k.0, k.1, e) refl
prefixed_again (Some prefix) local text rest (front, back, (is, e), (is2, e2), at) s =
    let k = qname_stops rest s in
    let split : text ++ rest ≡ front ++ (58 ∷ (back ++ rest)) = rw at (simp append_assoc) in
    let one = name_again front (58 ∷ (back ++ rest)) is colon_stops in
    let two = name_again back rest is2 k.0 in
    ap qname_at split ∙ rw (one, two, e, e2) refl

pub qname_again : (name : QName) (text rest : List ℕ) → SpellsQName name text → Stops is_qname_char rest → qname_at (text ++ rest) ≡ Some (name, rest)
qname_again name text rest h s = prefixed_again name.prefix name.local text rest h s
