-- Reading elements one after another, and an element by its form.
use Rattle.std.proofs.Common.{ℕ, zero, suc, ◌≡◌, ◌≢◌, ◌<◌, ◌+◌, ◌-◌, List, [], ◌∷◌, ◌++◌, map, length, get_or, take, drop, refl, sym, ap, ◌∙◌, append_assoc, sub-one}
use Rattle.std.specs.Prelude.{Option, Some, None, Result, Ok, Err}
use Rattle.std.specs.List.{flat_map, cons_option}
use Rattle.std.proofs.lemmas.List.Concat.{flat_map-append}
use Rattle.std.proofs.lemmas.List.Elements.{filter_map-append}
use Rattle.std.proofs.lemmas.List.{take_more, map-append, append-nil, take-append-drop}
use Rattle.xml_grammar.specs.declared.elements.Element.{Element}
use Rattle.xml_grammar.specs.declared.elements.Child.{Child}
use Rattle.xml_grammar.specs.declared.elements.Child.TheVariants as child
use Rattle.xmp_tree.specs.declared.nested.Value.{Value}
use Rattle.xmp_tree.specs.declared.nested.Member.{Member}
use Rattle.xmp_tree.specs.declared.nested.Shape.{Array}
use Rattle.xmp_tree.specs.Parts.{member, value}
use Rattle.rdf_forms.specs.declared.roles.Role.{Role}
use Rattle.rdf_forms.specs.declared.roles.Role.TheVariants as roles
use Rattle.rdf_forms.specs.declared.roles.Holder.{Holder}
use Rattle.rdf_forms.specs.Parts.{element_at, elements_in, elements_of, name_of}
use Rattle.rdf_forms.specs.Forms.{ByMembers, ByContainer, ByNode, form_of}
use Rattle.rdf_forms.specs.Visits.{Visit, visit, members_holder, node_holder, member_depth, member_visits, item_visits, form_visits, property_visits}
use Rattle.rdf_forms.specs.Values.{plain, lang_qualifiers, type_of, kind_of, by_members, node_members, element_member, formed, value_within}
use Rattle.std.specs.Option.{option_or}
use Rattle.rdf_forms.specs.Rules.{fault_at, first_fault}
use Rattle.rdf_forms.proofs.ChildLaws.{element_at-Element, element_at-Text}
use Rattle.xmp_rdf.specs.Meanings.{Fault, unless}
use Rattle.xmp_rdf.specs.Reading.{checked, read_within, read_form, read_all, visits_in, read_members, read_items}
use Rattle.xmp_rdf.proofs.Faults.{first_fault-append, and_then, unless-and_then, unless-made}

-- ---- a property or item, by its form

pub within-none : (levels : ℕ) (role : Role) (depth : ℕ) (e : Element) → levels ≡ 0 → read_within levels role depth e ≡ Ok (plain [])
unfolding read_within
within-none levels role depth e none = ap (λ l. unless (first_fault (property_visits l role depth e)) (value_within l e)) none

pub within-some : (levels : ℕ) (role : Role) (depth : ℕ) (e : Element) → levels ≢ 0 →
    read_within levels role depth e ≡ and_then (checked role depth e) (λ _. read_form (levels - 1) depth e (form_of e))
unfolding read_within checked read_form
within-some zero role depth e some = absurd (some refl)
within-some (suc levels) role depth e some =
    let next : suc levels - 1 ≡ levels = sub-one (suc levels) in
    unless-and_then (fault_at (visit role depth e)) (first_fault (form_visits (property_visits levels) depth e (form_of e))) tt (formed (value_within levels) e (form_of e))
    ∙ ap (λ l. and_then (checked role depth e) (λ _. read_form l depth e (form_of e))) (sym next)

pub form-members : (levels depth : ℕ) (e : Element) →
    read_form levels depth e ByMembers ≡ and_then (read_members levels (members_holder e) depth [] (elements_of e)) (λ ms. Ok (by_members (lang_qualifiers e) [] ms))
unfolding read_form read_all
form-members levels depth e =
    unless-made (first_fault (member_visits (property_visits levels) (members_holder e) depth (elements_of e)))
    (map (element_member (value_within levels)) (elements_of e)) (by_members (lang_qualifiers e) [])

-- after the rules of a container itself
abbrev pub array_of : ℕ → ℕ → Element → Element → Result Value Fault
array_of levels depth e c = and_then (read_items levels depth [] (elements_of c)) (λ vs. Ok (value (Array (kind_of (name_of c)) vs) (lang_qualifiers e)))

pub form-container : (levels depth : ℕ) (e c : Element) → read_form levels depth e (ByContainer c) ≡ and_then (checked roles.Container depth c) (λ _. array_of levels depth e c)
unfolding read_form read_all checked
form-container levels depth e c =
    let inside = first_fault (item_visits (property_visits levels) depth (elements_of c)) in
    let items = map (value_within levels) (elements_of c) in
    let array = λ (vs : List Value). value (Array (kind_of (name_of c)) vs) (lang_qualifiers e) in
    unless-and_then (fault_at (visit roles.Container depth c)) inside tt (array items)
    ∙ ap (λ (r : Result Value Fault). and_then (checked roles.Container depth c) (λ _. r)) (unless-made inside items array)

-- after the rules of a node itself
abbrev pub node_of : ℕ → ℕ → Element → Element → Result Value Fault
node_of levels depth e n =
    and_then (read_members levels (node_holder n) depth (node_members n) (elements_of n)) (λ ms. Ok (by_members (lang_qualifiers e) (type_of (name_of n)) ms))

pub form-node : (levels depth : ℕ) (e n : Element) → read_form levels depth e (ByNode n) ≡ and_then (checked roles.Node depth n) (λ _. node_of levels depth e n)
unfolding read_form read_all checked
form-node levels depth e n =
    let inside = first_fault (member_visits (property_visits levels) (node_holder n) depth (elements_of n)) in
    let members = node_members n ++ map (element_member (value_within levels)) (elements_of n) in
    let made = by_members (lang_qualifiers e) (type_of (name_of n)) in
    unless-and_then (fault_at (visit roles.Node depth n)) inside tt (made members)
    ∙ ap (λ (r : Result Value Fault). and_then (checked roles.Node depth n) (λ _. r)) (unless-made inside members made)

-- ---- elements one after another

fault_of-append : (visits : Element → List Visit) (es fs : List Element) → first_fault (flat_map visits (es ++ fs)) ≡ option_or (first_fault (flat_map visits es)) (first_fault (flat_map visits fs))
fault_of-append visits es fs = ap first_fault (flat_map-append visits es fs) ∙ first_fault-append (flat_map visits es) (flat_map visits fs)

pub all_after : {X : Type 0} (f g : Option Fault) (x y more : List X) → y ≡ x ++ more → unless (option_or f g) y ≡ and_then (unless f x) (λ xs. unless g (xs ++ more))
all_after None g x y more is = ap (unless g) is
all_after (Some e) g x y more is = refl

pub all-append : {X : Type 0} (visits : Element → List Visit) (meaning : Element → X) (before : List X) (es fs : List Element) →
    read_all visits meaning before (es ++ fs) ≡ and_then (read_all visits meaning before es) (λ xs. read_all visits meaning xs fs)
unfolding read_all
all-append visits meaning before es fs =
    let apart = map-append meaning es fs in
    ap (λ h. unless h (before ++ map meaning (es ++ fs))) (fault_of-append visits es fs)
    ∙ all_after (first_fault (flat_map visits es)) (first_fault (flat_map visits fs)) (before ++ map meaning es) (before ++ map meaning (es ++ fs)) (map meaning fs)
    (ap (λ ms. before ++ ms) apart ∙ sym (append_assoc before (map meaning es) (map meaning fs)))

pub all-none : {X : Type 0} (visits : Element → List Visit) (meaning : Element → X) (before : List X) → read_all visits meaning before [] ≡ Ok before
unfolding read_all
all-none visits meaning before = ap Ok (append-nil before)

-- one element, whose meaning is made of what is read of it
pub all-one : {X Y : Type 0} (visits : Element → List Visit) (meaning : Element → Y) (before : List X) (e : Element) (make : Y → X) →
    read_all visits (λ c. make (meaning c)) before (e ∷ []) ≡ and_then (unless (first_fault (visits e)) (meaning e)) (λ y. Ok (before ++ make y ∷ []))
unfolding read_all
all-one visits meaning before e make =
    ap (λ vs. unless (first_fault vs) (before ++ make (meaning e) ∷ [])) (append-nil (visits e))
    ∙ unless-made (first_fault (visits e)) (meaning e) (λ y. before ++ make y ∷ [])

-- ---- a child of a node, of a property or item, or of a container

pub in-element : (e : Element) → elements_in (child.Element e ∷ []) ≡ e ∷ []
in-element e = ap (λ o. cons_option o []) (element_at-Element e)

pub in-text : (t : List ℕ) → elements_in (child.Text t ∷ []) ≡ []
in-text t = ap (λ o. cons_option o []) (element_at-Text t)

pub all-text : {X : Type 0} (visits : Element → List Visit) (meaning : Element → X) (before : List X) (c : Child) (t : List ℕ) → c ≡ child.Text t →
    read_all visits meaning before (elements_in (c ∷ [])) ≡ Ok before
all-text visits meaning before c t is =
    ap (λ d. read_all visits meaning before (elements_in (d ∷ []))) is ∙ ap (read_all visits meaning before) (in-text t) ∙ all-none visits meaning before

pub members-element : (levels : ℕ) (holder : Holder) (depth : ℕ) (before : List Member) (c : Child) (e : Element) → c ≡ child.Element e →
    read_members levels holder depth before (elements_in (c ∷ []))
    ≡ and_then (read_within levels (roles.Property holder) (member_depth depth e) e) (λ v. Ok (before ++ member (name_of e) v ∷ []))
unfolding read_within read_all
members-element levels holder depth before c e is =
    ap (λ d. read_members levels holder depth before (elements_in (d ∷ []))) is ∙ ap (read_members levels holder depth before) (in-element e)
    ∙ ap (λ vs. unless (first_fault vs) (before ++ element_member (value_within levels) e ∷ [])) (append-nil (visits_in levels holder depth e))
    ∙ unless-made (first_fault (visits_in levels holder depth e)) (value_within levels e) (λ v. before ++ member (name_of e) v ∷ [])

pub items-element : (levels depth : ℕ) (before : List Value) (c : Child) (e : Element) → c ≡ child.Element e →
    read_items levels depth before (elements_in (c ∷ [])) ≡ and_then (read_within levels roles.Item (depth + 1) e) (λ v. Ok (before ++ v ∷ []))
unfolding read_within read_all
items-element levels depth before c e is =
    ap (λ d. read_items levels depth before (elements_in (d ∷ []))) is ∙ ap (read_items levels depth before) (in-element e)
    ∙ ap (λ vs. unless (first_fault vs) (before ++ value_within levels e ∷ [])) (append-nil (property_visits levels roles.Item (depth + 1) e))
    ∙ unless-made (first_fault (property_visits levels roles.Item (depth + 1) e)) (value_within levels e) (λ v. before ++ v ∷ [])

-- ---- a loop over children

-- the elements among one child more, and those before a child and after it
pub elements_more : (cs : List Child) (i : ℕ) (c : Child) → i < length cs → c ≡ get_or cs i c → elements_in (take (i + 1) cs) ≡ elements_in (take i cs) ++ elements_in (c ∷ [])
elements_more cs i c lt there =
    ap elements_in (take_more cs i c lt) ∙ filter_map-append element_at (take i cs) (get_or cs i c ∷ [])
    ∙ ap (λ d. elements_in (take i cs) ++ elements_in (d ∷ [])) (sym there)

-- the elements before a child, with it, and those after it
pub elements_split : (cs : List Child) (i : ℕ) → elements_in cs ≡ elements_in (take (i + 1) cs) ++ elements_in (drop (i + 1) cs)
elements_split cs i = ap elements_in (sym (take-append-drop (i + 1) cs)) ∙ filter_map-append element_at (take (i + 1) cs) (drop (i + 1) cs)

pub loop-none : {X : Type 0} (visits : Element → List Visit) (meaning : Element → X) (before : List X) (cs : List Child) →
    read_all visits meaning before (elements_in (take 0 cs)) ≡ Ok before
loop-none visits meaning before cs = all-none visits meaning before

pub loop-more : {X : Type 0} (visits : Element → List Visit) (meaning : Element → X) (before xs : List X) (cs : List Child) (i : ℕ) (c : Child) →
    i < length cs → c ≡ get_or cs i c → read_all visits meaning before (elements_in (take i cs)) ≡ Ok xs →
    read_all visits meaning before (elements_in (take (i + 1) cs)) ≡ read_all visits meaning xs (elements_in (c ∷ []))
loop-more visits meaning before xs cs i c lt there so_far =
    ap (read_all visits meaning before) (elements_more cs i c lt there)
    ∙ all-append visits meaning before (elements_in (take i cs)) (elements_in (c ∷ []))
    ∙ ap (λ r. and_then r (λ ys. read_all visits meaning ys (elements_in (c ∷ [])))) so_far

pub loop-stop : {X : Type 0} (visits : Element → List Visit) (meaning : Element → X) (before xs : List X) (cs : List Child) (i : ℕ) (c : Child) →
    i < length cs → c ≡ get_or cs i c → read_all visits meaning before (elements_in (take i cs)) ≡ Ok xs → (f : Fault) → read_all visits meaning xs (elements_in (c ∷ [])) ≡ Err f →
    read_all visits meaning before (elements_in cs) ≡ Err f
loop-stop visits meaning before xs cs i c lt there so_far f halts =
    let rest = elements_in (drop (i + 1) cs) in
    ap (read_all visits meaning before) (elements_split cs i)
    ∙ all-append visits meaning before (elements_in (take (i + 1) cs)) rest
    ∙ ap (λ r. and_then r (λ ys. read_all visits meaning ys rest)) (loop-more visits meaning before xs cs i c lt there so_far ∙ halts)
