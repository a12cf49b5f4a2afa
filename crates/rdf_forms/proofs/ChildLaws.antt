-- What stands among the children of an element, by a test of each child.
use Rattle.std.proofs.Common.{ℕ, suc, ◌≡◌, cond, Bool, true, false, ◌&&◌, ◌||◌, List, [], ◌∷◌, length, refl, ap, sym, ◌∙◌}
use Rattle.std.specs.Prelude.{Option, Some, None, is_some, slice_get, find, filter, option_and_then}
use Rattle.std.specs.List.{list_any, list_all, flat_map, cons_option}
use Rattle.std.proofs.lemmas.List.Folds.{list_all-append}
use Rattle.xml_grammar.specs.declared.elements.Child.{Child}
use Rattle.xml_grammar.specs.declared.elements.Child.TheViews as views
use Rattle.xml_grammar.specs.declared.elements.Child.TheVariants as child
use Rattle.xml_grammar.specs.declared.elements.Element.{Element}
use Rattle.rdf_forms.specs.Parts.{element_in, text_in, element_at, text_at, passes, elements_in}

pub element_at-Element : (e : Element) → element_at (child.Element e) ≡ Some e
element_at-Element e = ap element_in (views.outs-Element e)

pub element_at-Text : (t : List ℕ) → element_at (child.Text t) ≡ None
element_at-Text t = ap element_in (views.outs-Text t)

pub text_at-Element : (e : Element) → text_at (child.Element e) ≡ []
text_at-Element e = ap text_in (views.outs-Element e)

pub text_at-Text : (t : List ℕ) → text_at (child.Text t) ≡ t
text_at-Text t = ap text_in (views.outs-Text t)

pub list_all-flat_map : {X A : Type 0} (test : A → Bool) (f : X → List A) (xs : List X) → list_all (λ x. list_all test (f x)) xs ≡ list_all test (flat_map f xs)
list_all-flat_map test f [] = refl
list_all-flat_map test f (x ∷ xs) = ap (λ b. list_all test (f x) && b) (list_all-flat_map test f xs) ∙ sym (list_all-append test (f x) (flat_map f xs))

any_in : (test : Element → Bool) (o : Option Element) (es : List Element) (b : Bool) → b ≡ list_any test es → (passes test o || b) ≡ list_any test (cons_option o es)
any_in test None es b is = is
any_in test (Some e) es b is = ap (λ b. test e || b) is

pub list_any-elements : (test : Element → Bool) (cs : List Child) → list_any (λ c. passes test (element_at c)) cs ≡ list_any test (elements_in cs)
list_any-elements test [] = refl
list_any-elements test (c ∷ cs) = any_in test (element_at c) (elements_in cs) _ (list_any-elements test cs)

any_both : {X : Type 0} (other : X → Bool) (x : X) (xs : List X) (b : Bool) →
    list_any other (cond b (x ∷ xs) xs) ≡ ((b && other x) || list_any other xs)
any_both other x xs true = refl
any_both other x xs false = refl

pub list_any-filter : {X : Type 0} (test other : X → Bool) (xs : List X) → list_any other (filter test xs) ≡ list_any (λ x. test x && other x) xs
list_any-filter test other [] = refl
list_any-filter test other (x ∷ xs) =
    any_both other x (filter test xs) (test x) ∙ ap (λ (b : Bool). (test x && other x) || b) (list_any-filter test other xs)

-- the elements that pass, as a count of children
count_in : (test : Element → Bool) (o : Option Element) (es : List Element) (cs : List Child) (c : Child) → length cs ≡ length (filter test es) →
    length (cond (passes test o) (c ∷ cs) cs) ≡ length (filter test (cons_option o es))
count_in test None es cs c is = is
count_in test (Some e) es cs c is = one (test e)
  where
    one : (b : Bool) → length (cond b (c ∷ cs) cs) ≡ length (cond b (e ∷ filter test es) (filter test es))
    one true = ap suc is
    one false = is

pub length-elements_named : (test : Element → Bool) (cs : List Child) → length (filter (λ c. passes test (element_at c)) cs) ≡ length (filter test (elements_in cs))
length-elements_named test [] = refl
length-elements_named test (c ∷ cs) = count_in test (element_at c) (elements_in cs) (filter (λ c. passes test (element_at c)) cs) c (length-elements_named test cs)

elements_more : (o : Option Element) (es : List Element) (cs : List Child) (c : Child) → length cs ≡ length es → length (cond (is_some o) (c ∷ cs) cs) ≡ length (cons_option o es)
elements_more None es cs c is = is
elements_more (Some e) es cs c is = ap suc is

pub length-elements : (cs : List Child) → length (filter (λ c. is_some (element_at c)) cs) ≡ length (elements_in cs)
length-elements [] = refl
length-elements (c ∷ cs) = elements_more (element_at c) (elements_in cs) (filter (λ c. is_some (element_at c)) cs) c (length-elements cs)

-- the first element, by the first child that is one
first_in : (o : Option Element) (c : Child) (found : Option Child) (es : List Element) → element_at c ≡ o → option_and_then element_at found ≡ slice_get es 0 →
    option_and_then element_at (cond (is_some o) (Some c) found) ≡ slice_get (cons_option o es) 0
first_in None c found es is rest = rest
first_in (Some e) c found es is rest = is

pub first-elements : (cs : List Child) → option_and_then element_at (find (λ c. is_some (element_at c)) cs) ≡ slice_get (elements_in cs) 0
first-elements [] = refl
first-elements (c ∷ cs) = first_in (element_at c) c (find (λ c. is_some (element_at c)) cs) (elements_in cs) refl (first-elements cs)

pub ruleset children = (element_at-Element, element_at-Text, text_at-Element, text_at-Text)
