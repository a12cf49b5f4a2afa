-- Hints of which some namespaces are new.
use Rattle.std.proofs.Common.{◌≡◌, ◌∙◌, ◌+◌, ◌<◌, ℕ, Bool, true, false, List, [], ◌∷◌, ◌++◌, length, get_or, drop, take, refl, ap, sym, subst, cond}
use Rattle.std.specs.Prelude.{◌||◌, not}
use Rattle.std.specs.List.{fold, list_any}
use Rattle.std.specs.Str.{bytes_eq}
use Rattle.std.proofs.lemmas.Bool.{both_ways}
use Rattle.std.proofs.lemmas.List.{take_more, drop_more, get_or_default}
use Rattle.std.proofs.lemmas.List.Folds.{list_any-append, list_any-from_Any}
use Rattle.std.proofs.lemmas.List.Elements.{All-push}
use Rattle.std.proofs.lemmas.List.Quantifiers.{all_pairs_push}
use Rattle.std.proofs.lemmas.Slice.Eq.{bytes_eq-Decides}
use Rattle.xmp_values.specs.declared.hints.Hint.{Hint}
use Rattle.xmp_values.specs.Hints.{IsValidHint, AreValid, has_space}
use Rattle.xmp_values.specs.Texts.{with_text}
use Rattle.xmp_edit.specs.ScriptParts.{HasNamespaces}
use Rattle.xmp_edit.specs.ScriptOf.{with_hint}

or-false : (b : Bool) → (b || false) ≡ b
or-false true = refl
or-false false = refl

absorbed : (a b : Bool) → (b ≡ true → a ≡ true) → a ≡ (a || b)
absorbed true b h = refl
absorbed false true h = h refl
absorbed false false h = refl

-- a text more in a set
any_more : (texts : List (List ℕ)) (text x : List ℕ) → list_any (bytes_eq x) (with_text texts text) ≡ (list_any (bytes_eq x) texts || bytes_eq x text)
any_more texts text x = by (list_any (bytes_eq text) texts) refl
  where
    by : (here : Bool) → list_any (bytes_eq text) texts ≡ here → list_any (bytes_eq x) (cond here texts (texts ++ text ∷ [])) ≡ (list_any (bytes_eq x) texts || bytes_eq x text)
    by true is = absorbed (list_any (bytes_eq x) texts) (bytes_eq x text) (λ same. subst (λ t. list_any (bytes_eq t) texts ≡ true) (sym ((bytes_eq-Decides x text).0 same)) is)
    by false is = list_any-append (bytes_eq x) texts (text ∷ []) ∙ ap (λ b. list_any (bytes_eq x) texts || b) (or-false (bytes_eq x text))

-- a hint more has a namespace more
space_more : (hs : List Hint) (h : Hint) (x : List ℕ) → has_space (hs ++ h ∷ []) x ≡ (has_space hs x || bytes_eq x h.space)
space_more hs h x = list_any-append (λ g. bytes_eq x g.space) hs (h ∷ []) ∙ ap (λ b. has_space hs x || b) (or-false (bytes_eq x h.space))

-- the set with the namespace of a hint has those of the hints with it
pub seen_more : (seen : List (List ℕ)) (hs : List Hint) (h : Hint) → HasNamespaces seen hs → HasNamespaces (with_text seen h.space) (hs ++ h ∷ [])
seen_more seen hs h has x = any_more seen h.space x ∙ ap (λ b. b || bytes_eq x h.space) (has x) ∙ sym (space_more hs h x)

-- and where it isn't new, those of the hints
pub seen_same : (seen : List (List ℕ)) (hs : List Hint) (h : Hint) → HasNamespaces seen hs → has_space hs h.space ≡ true → HasNamespaces (with_text seen h.space) hs
seen_same seen hs h has here x =
    any_more seen h.space x ∙ sym (absorbed (list_any (bytes_eq x) seen) (bytes_eq x h.space)
    (λ same. has x ∙ subst (λ t. has_space hs t ≡ true) (sym ((bytes_eq-Decides x h.space).0 same)) here)) ∙ has x

-- the lines from one on
pub lines_from : (merged lines : List Hint) (i : ℕ) (h : Hint) → i < length lines → h ≡ get_or lines i h → fold with_hint merged (drop i lines) ≡ fold with_hint (with_hint merged h) (drop (i + 1) lines)
lines_from merged lines i h within here = ap (fold with_hint merged) (drop_more lines i h within ∙ ap (λ g. g ∷ drop (i + 1) lines) (sym here))

pub hints_more : (hints : List Hint) (i : ℕ) (h : Hint) → i < length hints → h ≡ get_or hints i h → take (i + 1) hints ≡ take i hints ++ h ∷ []
hints_more hints i h within here = take_more hints i h within ∙ ap (λ g. take i hints ++ g ∷ []) (sym here)

pub with_new : (hs : List Hint) (h : Hint) → has_space hs h.space ≡ false → with_hint hs h ≡ hs ++ h ∷ []
with_new hs h new = ap (λ b. cond b hs (hs ++ h ∷ [])) new

pub with_old : (hs : List Hint) (h : Hint) → has_space hs h.space ≡ true → with_hint hs h ≡ hs
with_old hs h old = ap (λ b. cond b hs (hs ++ h ∷ [])) old

twice : (b : Bool) → b ≡ not (not b)
twice true = refl
twice false = refl

-- what the set tells of a namespace
pub tells : (seen : List (List ℕ)) (hs : List Hint) (x t : List ℕ) (is_new : Bool) → HasNamespaces seen hs → t ≡ x → is_new ≡ not (list_any (bytes_eq t) seen) → has_space hs x ≡ not is_new
tells seen hs x t is_new has same told =
    sym (has x) ∙ ap (λ s. list_any (bytes_eq s) seen) (sym same) ∙ twice (list_any (bytes_eq t) seen) ∙ ap (λ b. not b) (sym told)

-- a hint of a new namespace keeps a list valid
pub valid_more : (hs : List Hint) (h : Hint) → AreValid hs → IsValidHint h → has_space hs h.space ≡ false → AreValid (hs ++ h ∷ [])
valid_more hs h old valid new = record {
  apart = all_pairs_push (λ g h. g.space ≡ h.space → ⊥) hs h old.apart
      (λ k d within same. both_ways (has_space hs h.space) new
      (list_any-from_Any (λ g. bytes_eq h.space g.space) hs (k, get_or hs k d, within, get_or_default hs k (get_or hs k d) d within, (bytes_eq-Decides h.space (get_or hs k d).space).1 (sym same))));
  each = All-push IsValidHint hs h old.each valid;
}
