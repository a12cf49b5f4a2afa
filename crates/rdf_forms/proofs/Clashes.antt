-- Names that stand among others or again, as sets of names tell them.
use Rattle.std.proofs.Common.{◌≡◌, ◌↔◌, Bool, true, false, ◌||◌, List, [], ◌∷◌, ◌++◌, refl, ap, sym, ◌∙◌, append_assoc, append-nil}
use Rattle.std.specs.Prelude.{Contains}
use Rattle.std.specs.List.{list_any}
use Rattle.std.proofs.lemmas.List.Elements.{Decides-contains}
use Rattle.std.proofs.lemmas.Bool.Decides.{same_from_decides, Decides-like, Decides-by_or}
use Rattle.xmp_values.specs.declared.text.Name.{Name}
use Rattle.xmp_values.proofs.SameNames.{same_name_is}
use Rattle.rdf_forms.specs.Words.{same_name}
use Rattle.rdf_forms.specs.MemberRules.{has_again, has_common}
use Rattle.rdf_forms.specs.Entering.{Holds, clashes}

-- a name stands among others where they contain it
abbrev pub stands : Name → List Name → Bool
stands n ns = list_any (same_name n) ns

pub stands_is : (n : Name) (ns : List Name) → (stands n ns ≡ true) ↔ Contains ns n
stands_is n ns =
    Decides-contains ns n (stands n ns)
    (Decides-by_or (same_name n) (λ m. m ≡ n) (list_any (same_name n)) (λ m. Decides-like (same_name n m) sym sym (same_name_is n m)) refl (λ x xs. refl) ns)

pub stands-held : (set names : List Name) → Holds set names → (n : Name) → stands n set ≡ stands n names
stands-held set names held n =
    same_from_decides (stands n set) (stands n names) (Decides-like (stands n set) (held n).0 (held n).1 (stands_is n set)) (stands_is n names)

common-held : (set names : List Name) → Holds set names → (ns : List Name) → has_common ns set ≡ has_common ns names
common-held set names held [] = refl
common-held set names held (n ∷ ns) =
    ap (λ (b : Bool). b || has_common ns set) (stands-held set names held n) ∙ ap (λ (b : Bool). stands n names || b) (common-held set names held ns)

-- whatever the set's order is
pub clashes-held : (set names ns : List Name) → Holds set names → clashes ns set ≡ clashes ns names
clashes-held set names ns held = ap (λ (b : Bool). b || has_again ns) (common-held set names held ns)

same_name-comm : (m n : Name) → same_name m n ≡ same_name n m
same_name-comm m n = same_from_decides (same_name m n) (same_name n m) (Decides-like (same_name m n) sym sym (same_name_is m n)) (same_name_is n m)

stands-push : (m n : Name) (names : List Name) → stands m (names ++ n ∷ []) ≡ (stands m names || same_name n m)
stands-push m n [] = ap (λ (b : Bool). b || false) (same_name-comm m n) ∙ no_more (same_name n m)
  where
    no_more : (b : Bool) → (b || false) ≡ b
    no_more true = refl
    no_more false = refl
stands-push m n (k ∷ ks) = ap (λ (b : Bool). same_name m k || b) (stands-push m n ks) ∙ after (same_name m k)
  where
    after : (b : Bool) → (b || (stands m ks || same_name n m)) ≡ ((b || stands m ks) || same_name n m)
    after true = refl
    after false = refl

between : (a s b c : Bool) → ((a || s) || (b || c)) ≡ ((a || b) || (s || c))
between true s b c = refl
between false true true c = refl
between false true false c = refl
between false false b c = refl

common-push : (ns names : List Name) (n : Name) → has_common ns (names ++ n ∷ []) ≡ (has_common ns names || stands n ns)
common-push [] names n = refl
common-push (m ∷ ms) names n =
    ap (λ (b : Bool). b || has_common ms (names ++ n ∷ [])) (stands-push m n names)
    ∙ ap (λ (b : Bool). (stands m names || same_name n m) || b) (common-push ms names n)
    ∙ between (stands m names) (same_name n m) (has_common ms names) (stands n ms)

regroup : (a b c d : Bool) → ((a || b) || (c || d)) ≡ (a || ((b || c) || d))
regroup true b c d = refl
regroup false true c d = refl
regroup false false c d = refl

-- a name, and then those after it
pub clashes-cons : (n : Name) (ns names : List Name) → clashes (n ∷ ns) names ≡ (stands n names || clashes ns (names ++ n ∷ []))
clashes-cons n ns names =
    regroup (stands n names) (has_common ns names) (stands n ns) (has_again ns)
    ∙ ap (λ (b : Bool). stands n names || (b || has_again ns)) (sym (common-push ns names n))

or_more : (a b c : Bool) → (a || (b || c)) ≡ ((a || b) || c)
or_more true b c = refl
or_more false b c = refl

pub clashes-append : (xs ys names : List Name) → clashes (xs ++ ys) names ≡ (clashes xs names || clashes ys (names ++ xs))
clashes-append [] ys names = ap (clashes ys) (sym (append-nil names))
clashes-append (x ∷ xs) ys names =
    let more = names ++ x ∷ [] in
    clashes-cons x (xs ++ ys) names
    ∙ ap (λ (b : Bool). stands x names || b) (clashes-append xs ys more ∙ ap (λ ms. clashes xs more || clashes ys ms) (append_assoc names (x ∷ []) xs))
    ∙ or_more (stands x names) (clashes xs more) (clashes ys (names ++ x ∷ xs))
    ∙ ap (λ (b : Bool). b || clashes ys (names ++ x ∷ xs)) (sym (clashes-cons x xs names))
