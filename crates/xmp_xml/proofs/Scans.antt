-- Going over a list from left to right, as a loop does.
use Rattle.std.proofs.Common.{◌≡◌, ℕ, ◌+◌, ◌<◌, ◌≤◌, suc, Bool, true, false, List, [], ◌∷◌, ◌++◌, length, drop, take, get_or, ◌||◌, refl, sym, ap, ◌∙◌, add-one}
use Rattle.std.specs.List.{list_any}
use Rattle.std.proofs.Math.Seq.{drop-cons, take-suc}
use Rattle.std.proofs.lemmas.List.Elements.{filter_map-append}
use Rattle.std.proofs.lemmas.List.{map-append}
use Rattle.std.specs.List.{filter_map}
use Rattle.xml_grammar.specs.Trees.{hint_of}
use Rattle.std.proofs.lemmas.List.{drop_all}
use Rattle.xml_grammar.specs.Scopes.{is_misbound}
use Rattle.xmp_xml.specs.declared.declarations.Bound.{Bound}
use Rattle.xmp_xml.specs.Bounds.{binding_in, bindings_in}

pub drop_here : {A : Type 0} (xs : List A) (i : ℕ) (x : A) → i < length xs → x ≡ get_or xs i x → drop i xs ≡ x ∷ drop (i + 1) xs
drop_here xs i x lt e = drop-cons xs i x lt ∙ rw (add-one) (ap (λ y. y ∷ drop (suc i) xs) (sym e))

-- ---- whether one passes a test

module _ {A : Type 0} (p : A → Bool) (list : List A) (total : Bool) (i : ℕ) (so_far : list_any p (drop i list) ≡ total) where
  pub any_next : (x : A) → i < length list → x ≡ get_or list i x → p x ≡ false → list_any p (drop (i + 1) list) ≡ total
  any_next x lt e fails =
      let k = drop_here list i x lt e in
      let one : list_any p (drop i list) ≡ list_any p (drop (i + 1) list) = rw (k, fails) refl in
      sym one ∙ so_far

  pub any_here : (x : A) → i < length list → x ≡ get_or list i x → p x ≡ true → true ≡ total
  any_here x lt e passes =
      let k = drop_here list i x lt e in
      let one : list_any p (drop i list) ≡ true = rw (k, passes) refl in
      sym one ∙ so_far

  pub any_not : length list ≤ i → false ≡ total
  any_not le =
      let one : list_any p (drop i list) ≡ false = rw (drop_all i list le) refl in
      sym one ∙ so_far

-- a test of the bindings is one of what stands for them
pub any_binding : (list : List Bound) → list_any is_misbound (bindings_in list) ≡ list_any (λ (b : Bound). is_misbound (binding_in b)) list
any_binding [] = refl
any_binding (b ∷ bs) = ap (λ (r : Bool). is_misbound (binding_in b) || r) (any_binding bs)

-- ---- taking

pub take_here : {A : Type 0} (xs : List A) (i : ℕ) (x : A) → i < length xs → x ≡ get_or xs i x → take i xs ++ x ∷ [] ≡ take (i + 1) xs
take_here xs i x lt e = ap (λ y. take i xs ++ y ∷ []) e ∙ sym (take-suc xs i x lt) ∙ rw (add-one) refl

pub hints_next : (list : List Bound) (i : ℕ) (x : Bound) → i < length list → x ≡ get_or list i x
    → filter_map hint_of (bindings_in (take i list)) ++ filter_map hint_of (bindings_in (x ∷ [])) ≡ filter_map hint_of (bindings_in (take (i + 1) list))
hints_next list i x lt e =
    sym (filter_map-append hint_of (bindings_in (take i list)) (bindings_in (x ∷ [])))
    ∙ ap (filter_map hint_of) (sym (map-append binding_in (take i list) (x ∷ [])))
    ∙ ap (λ (z : List Bound). filter_map hint_of (bindings_in z)) (take_here list i x lt e)
