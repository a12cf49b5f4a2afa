-- Runs of characters as pieces, each at its place.
use Rattle.std.proofs.Common.{◌≡◌, ℕ, ◌+◌, Bool, true, false, ◌⊎◌, List, [], ◌∷◌, ◌++◌, map, None, refl, ap, subst, ◌∙◌, inl, inr}
use Rattle.std.specs.Prelude.{encode_utf8, encode_utf8_all, IsTrue}
use Rattle.std.specs.List.{list_all}
use Rattle.xmp_values.specs.Characters.{is_blank}
use Rattle.xml_grammar.specs.declared.tokens.Mode.{Mode}
use Rattle.xml_grammar.specs.Pieces.{Character}
use Rattle.xml_tokenizer.specs.Rows.{StandsRow, later}
use Rattle.xml_grammar.specs.Nesting.{Level, Nest, mode_of, mode_in, enter, is_outside, broken}
use Rattle.xml_grammar.specs.Trees.{Placed, put_inside, events_of}
use Rattle.xml_grammar.specs.Documents.{width, Reads, nest_after}
use Rattle.xml_grammar.proofs.Splits.{all_head, all_tail}
use Rattle.xml_grammar.proofs.Rows.{put_inside-append}

-- each character of a run at its place
abbrev pub placed_run : ℕ → List ℕ → List Placed
placed_run at [] = []
placed_run at (c ∷ cs) = (at, Character c) ∷ placed_run (at + width (c ∷ [])) cs

-- the nest after a run
abbrev pub after_run : Nest → List ℕ → Nest
after_run s [] = s
after_run s (c ∷ cs) = record { first = false; levels = s.levels; rooted = s.rooted }

pub run_nest : (s : Nest) (at : ℕ) (cs : List ℕ) → nest_after s (placed_run at cs) ≡ after_run s cs
run_nest s at [] = refl
run_nest s at (c ∷ cs) = run_nest (enter s (Character c)) (at + width (c ∷ [])) cs ∙ same cs
  where
    same : (cs : List ℕ) → after_run (enter s (Character c)) cs ≡ after_run s (c ∷ cs)
    same [] = refl
    same (d ∷ ds) = refl

-- a run breaks no rule inside an element, or where it is white space
abbrev pub IsRunFree : Nest → List ℕ → Type 0
IsRunFree s cs = (is_outside s.levels ≡ false) ⊎ IsTrue (list_all is_blank cs)

free_character : (s : Nest) (c : ℕ) → (is_outside s.levels ≡ false) ⊎ IsTrue (is_blank c) → broken s (Character c) ≡ None
unfolding broken
free_character s c (inl inside) = by s.levels inside
  where
    by : (ls : List Level) → is_outside ls ≡ false → broken (record { first = s.first; levels = ls; rooted = s.rooted }) (Character c) ≡ None
    by [] e = absurd cc
    by (l ∷ ls) e = refl
free_character s c (inr blank) = by s.levels
  where
    by : (ls : List Level) → broken (record { first = s.first; levels = ls; rooted = s.rooted }) (Character c) ≡ None
    by [] = rw blank refl
    by (l ∷ ls) = refl

free_head : (s : Nest) (c : ℕ) (cs : List ℕ) → IsRunFree s (c ∷ cs) → (is_outside s.levels ≡ false) ⊎ IsTrue (is_blank c)
free_head s c cs (inl inside) = inl inside
free_head s c cs (inr blank) = inr (all_head is_blank c cs blank)

free_tail : (s : Nest) (c : ℕ) (cs : List ℕ) → IsRunFree s (c ∷ cs) → IsRunFree (enter s (Character c)) cs
free_tail s c cs (inl inside) = inl inside
free_tail s c cs (inr blank) = inr (all_tail is_blank c cs blank)

later_is : (s : Nest) (c : ℕ) → later (mode_of s) ≡ mode_of (enter s (Character c))
later_is s c = by s.first s.levels
  where
    by : (first : Bool) (ls : List Level) → later (mode_in first ls) ≡ mode_in false ls
    by true [] = refl
    by false [] = refl
    by first (l ∷ ls) = refl

pub run_reads : (s : Nest) (at : ℕ) (cs text left : List ℕ) → StandsRow (mode_of s) (map Character cs) text left → IsRunFree s cs → Reads s at (placed_run at cs) text left
run_reads s at [] text left h free = h
run_reads s at (c ∷ cs) text left (front, back, stands, more, is) free =
    let next : StandsRow (mode_of (enter s (Character c))) (map Character cs) back left = subst (λ (m : Mode). StandsRow m (map Character cs) back left) (later_is s c) more in
    let r = run_reads (enter s (Character c)) (at + width front) cs back left next (free_tail s c cs free) in
    let one : front ≡ c ∷ [] = stands.spelled.4 in
    let r' : Reads (enter s (Character c)) (at + width front) (placed_run (at + width (c ∷ [])) cs) back left =
    subst (λ (z : List ℕ). Reads (enter s (Character c)) (at + width front) (placed_run (at + width z) cs) back left) one r in
    (refl, front, back, stands, free_character s c (free_head s c cs free), r', is)

-- what a run is, before what follows it
pub run_events : (s : Nest) (at : ℕ) (cs : List ℕ) (ps : List Placed) → events_of s (placed_run at cs ++ ps) ≡ put_inside s.levels (encode_utf8_all cs) (events_of (after_run s cs) ps)
run_events s at [] ps = by s.levels
  where
    by : (ls : List Level) → events_of s ps ≡ put_inside ls [] (events_of s ps)
    by [] = refl
    by (l ∷ ls) = refl
run_events s at (c ∷ cs) ps =
    let after : Nest = enter s (Character c) in
    ap (put_inside s.levels (encode_utf8 c)) (run_events after (at + width (c ∷ [])) cs ps)
    ∙ put_inside-append s.levels (encode_utf8 c) (encode_utf8_all cs) (events_of (after_run after cs) ps)
    ∙ ap (λ (z : Nest). put_inside s.levels (encode_utf8 c ++ encode_utf8_all cs) (events_of z ps)) (same cs)
  where
    same : (cs : List ℕ) → after_run (enter s (Character c)) cs ≡ after_run s (c ∷ cs)
    same [] = refl
    same (d ∷ ds) = refl
