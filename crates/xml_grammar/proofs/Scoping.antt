-- Declarations from left to right: what is bound by a tag's own and by outer ones, and the first hint of each namespace.
use Rattle.std.proofs.Common.{◌≡◌, ℕ, Bool, true, false, cond, not, ◌||◌, List, [], ◌∷◌, ◌++◌, Option, Some, refl, sym, ap, ◌∙◌, append_assoc, append-nil}
use Rattle.std.specs.Prelude.{if◌then◌else◌}
use Rattle.std.specs.List.{filter, list_any}
use Rattle.std.specs.Option.{option_or}
use Rattle.std.specs.Str.{bytes_eq}
use Rattle.xmp_values.specs.declared.hints.Hint.{Hint}
use Rattle.xml_grammar.specs.Scopes.{Binding, same_prefix, bound_to}
use Rattle.xml_grammar.specs.Trees.{Placed, piece_hints, all_hints, first_hints}
use Rattle.xml_grammar.proofs.SoundPieces.{same_bytes}

-- ---- what is bound

or_cond : (b : Bool) (space : List ℕ) (o r : Option (List ℕ)) → (if b then Some space else option_or o r) ≡ option_or (if b then Some space else o) r
or_cond true space o r = refl
or_cond false space o r = refl

pub bound_to-append : (a b : List Binding) (p : Option (List ℕ)) → bound_to (a ++ b) p ≡ option_or (bound_to a p) (bound_to b p)
bound_to-append [] b p = refl
bound_to-append (x ∷ a) b p = ap (λ (o : Option (List ℕ)). if same_prefix x.prefix p then Some x.space else o) (bound_to-append a b p) ∙ or_cond (same_prefix x.prefix p) x.space (bound_to a p) (bound_to b p)

-- ---- hints

pub all_hints-append : (ps qs : List Placed) → all_hints (ps ++ qs) ≡ all_hints ps ++ all_hints qs
all_hints-append [] qs = refl
all_hints-append (p ∷ ps) qs = ap (λ (hs : List Hint). piece_hints p.1 ++ hs) (all_hints-append ps qs) ∙ sym (append_assoc (piece_hints p.1) (all_hints ps) (all_hints qs))

-- a hint of the list has this namespace
abbrev pub knows : List ℕ → List Hint → Bool
knows space hs = list_any (λ (g : Hint). bytes_eq g.space space) hs

-- a list with one hint more, where its namespace is new
abbrev pub with_hint : List Hint → Hint → List Hint
with_hint hs h = if knows h.space hs then hs else hs ++ h ∷ []

abbrev others : Hint → List Hint → List Hint
others x hs = filter (λ (g : Hint). not (bytes_eq x.space g.space)) hs

others-append : (x : Hint) (a b : List Hint) → others x (a ++ b) ≡ others x a ++ others x b
others-append x [] b = refl
others-append x (y ∷ a) b = by (bytes_eq x.space y.space) (others-append x a b)
  where
    by : (t : Bool) → others x (a ++ b) ≡ others x a ++ others x b → cond (not t) (y ∷ others x (a ++ b)) (others x (a ++ b)) ≡ cond (not t) (y ∷ others x a) (others x a) ++ others x b
    by true e = e
    by false e = ap (λ (hs : List Hint). y ∷ hs) e

-- other namespaces than x's are as known as before
knows-others : (x : Hint) (space : List ℕ) (hs : List Hint) → bytes_eq x.space space ≡ false → knows space (others x hs) ≡ knows space hs
knows-others x space [] e = refl
knows-others x space (y ∷ hs) e = by (bytes_eq x.space y.space) refl (knows-others x space hs e)
  where
    other : bytes_eq x.space y.space ≡ true → bytes_eq y.space space ≡ false
    other same = ap (λ (z : List ℕ). bytes_eq z space) (sym (same_bytes x.space y.space same)) ∙ e

    by : (t : Bool) → bytes_eq x.space y.space ≡ t → knows space (others x hs) ≡ knows space hs
        → knows space (cond (not t) (y ∷ others x hs) (others x hs)) ≡ (bytes_eq y.space space || knows space hs)
    by true same k = k ∙ rw (other same) refl
    by false same k = ap (λ (b : Bool). bytes_eq y.space space || b) k

-- the first of each namespace are of the same namespaces
pub knows-first : (space : List ℕ) (hs : List Hint) → knows space (first_hints hs) ≡ knows space hs
knows-first space [] = refl
knows-first space (x ∷ hs) = by (bytes_eq x.space space) refl (knows-first space hs)
  where
    by : (t : Bool) → bytes_eq x.space space ≡ t → knows space (first_hints hs) ≡ knows space hs → (t || knows space (others x (first_hints hs))) ≡ (t || knows space hs)
    by true e more = refl
    by false e more = knows-others x space (first_hints hs) e ∙ more

-- one hint more at the end
pub first_hints-push : (hs : List Hint) (h : Hint) → first_hints (hs ++ h ∷ []) ≡ with_hint (first_hints hs) h
first_hints-push [] h = refl
first_hints-push (x ∷ hs) h = ap (λ (gs : List Hint). x ∷ others x gs) (first_hints-push hs h) ∙ by (bytes_eq x.space h.space) (knows h.space (first_hints hs)) refl refl
  where
    apart : bytes_eq x.space h.space ≡ true → others x (h ∷ []) ≡ []
    apart e = rw e refl

    kept : bytes_eq x.space h.space ≡ false → others x (h ∷ []) ≡ h ∷ []
    kept e = rw e refl

    by : (t k : Bool) → bytes_eq x.space h.space ≡ t → knows h.space (first_hints hs) ≡ k
        → x ∷ others x (if k then first_hints hs else first_hints hs ++ h ∷ []) ≡ (if t || knows h.space (others x (first_hints hs)) then x ∷ others x (first_hints hs) else x ∷ others x (first_hints hs) ++ h ∷ [])
    by true true e f = refl
    by true false e f = ap (λ (gs : List Hint). x ∷ gs) (others-append x (first_hints hs) (h ∷ []) ∙ ap (λ (gs : List Hint). others x (first_hints hs) ++ gs) (apart e) ∙ append-nil (others x (first_hints hs)))
    by false true e f = rw (knows-others x h.space (first_hints hs) e ∙ f) refl
    by false false e f = rw (knows-others x h.space (first_hints hs) e ∙ f) (ap (λ (gs : List Hint). x ∷ gs) (others-append x (first_hints hs) (h ∷ []) ∙ ap (λ (gs : List Hint). others x (first_hints hs) ++ gs) (kept e)))
