-- Sets of the namespaces of hints, and the hints that they tell apart.
use Rattle.std.proofs.Common.{◌≡◌, ◌≢◌, ℕ, ◌<◌, suc, length, get_or, true, false, cond, not, ◌||◌, List, [], ◌∷◌, ◌++◌, refl, sym, ap, ◌∙◌, arith}
use Rattle.std.specs.Prelude.{AllPairs, filter}
use Rattle.std.specs.List.{list_any}
use Rattle.std.specs.Str.{bytes_eq}
use Rattle.std.proofs.lemmas.List.{append-nil}
use Rattle.std.proofs.lemmas.List.Elements.{All-append, All-filter, filter_passes}
use Rattle.std.proofs.lemmas.List.Folds.{list_any-append, list_any_at}
use Rattle.std.proofs.lemmas.List.Kept.{AllPairs-cons, AllPairs-filter}
use Rattle.std.proofs.lemmas.Slice.Eq.{bytes_eq-Decides}
use Rattle.xmp_values.specs.declared.hints.Hint.{Hint}
use Rattle.xmp_values.specs.Hints.{IsValidHint, AreValid, has_space}
use Rattle.xmp_values.specs.Texts.{with_text}
use Rattle.xmp_values.proofs.TextPlaces.{list_any-with_text}
use Rattle.rdf_forms.specs.Merging.{new_hints}
use Rattle.xmp_rdf.specs.SpaceSets.{HasSpaces}

-- a set with the namespace of one hint more
pub spaces_more : (hints : List Hint) (h : Hint) (old new : List (List ℕ)) (text : List ℕ) → text ≡ h.space → HasSpaces old hints → new ≡ with_text old text → HasSpaces new (hints ++ h ∷ [])
spaces_more hints h old new text is has put space =
    ap (list_any (bytes_eq space)) put ∙ list_any-with_text old text space
    ∙ (λ i. has space i || (bytes_eq space (is i) || false))
    ∙ sym (list_any-append (λ g. bytes_eq space g.space) hints (h ∷ []))

-- what a set tells of hints
pub apart_by : (main more : List Hint) (set : List (List ℕ)) → HasSpaces set main → filter (λ (h : Hint). not (list_any (bytes_eq h.space) set)) more ≡ new_hints main more
apart_by main [] set has = refl
apart_by main (h ∷ hs) set has =
    (λ i. cond (not (has h.space i)) (h ∷ apart_by main hs set has i) (apart_by main hs set has i))

-- One list after another.
pairs_append : {X : Type 0} (R : X → X → Type 0) (xs ys : List X) → AllPairs R xs → AllPairs R ys
    → ((i j : ℕ) (d : X) → i < length xs → j < length ys → R (get_or xs i d) (get_or ys j d)) → AllPairs R (xs ++ ys)
pairs_append R [] ys front back across = back
pairs_append R (x ∷ xs) ys front back across =
    AllPairs-cons R x (xs ++ ys)
    (All-append (R x) xs ys (λ k d lt. front 0 (suc k) d (omega arith) (omega arith)) (λ k d lt. across 0 k d (omega arith) lt))
    (pairs_append R xs ys (λ i j d lt within. front (suc i) (suc j) d (omega arith) (omega arith)) back
    (λ i j d lt within. across (suc i) j d (omega arith) within))

-- a hint of the first list, and one of the second that is new after it
new_apart : (main more : List Hint) (i j : ℕ) (d : Hint) → i < length main → j < length (new_hints main more)
    → (get_or main i d).space ≡ (get_or (new_hints main more) j d).space → ⊥
new_apart main more i j d lt within same =
    let h : Hint = get_or (new_hints main more) j d in
    let lacks = filter_passes (λ (g : Hint). not (has_space main g.space)) more j d within in
    let found = list_any_at (λ (g : Hint). bytes_eq h.space g.space) main i d lt ((bytes_eq-Decides h.space (get_or main i d).space).1 (sym same)) in
    let never : false ≡ true = ap not (sym found) ∙ lacks in
    absurd cc

pub valid_after : (main more : List Hint) → AreValid main → AreValid more → AreValid (main ++ new_hints main more)
valid_after main more a b = record {
  apart = pairs_append (λ g h. g.space ≢ h.space) main (new_hints main more) a.apart
      (AllPairs-filter (λ g h. g.space ≢ h.space) (λ h. not (has_space main h.space)) more b.apart) (new_apart main more);
  each = All-append IsValidHint main (new_hints main more) a.each (All-filter (λ h. not (has_space main h.space)) IsValidHint more b.each);
}

-- after no hints all are new
all_new : (more : List Hint) → more ≡ new_hints [] more
all_new [] = refl
all_new (h ∷ hs) = ap (λ gs. h ∷ gs) (all_new hs)

pub after_none : (main more : List Hint) → length main ≡ 0 → more ≡ main ++ new_hints main more
after_none [] more none = all_new more
after_none (h ∷ hs) more none = absurd (omega arith)

pub with_none : (main more : List Hint) → length more ≡ 0 → main ≡ main ++ new_hints main more
with_none main [] none = sym (append-nil main)
with_none main (h ∷ hs) none = absurd (omega arith)
