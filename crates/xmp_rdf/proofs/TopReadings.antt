-- Reading tops one after another, and a top by its parts.
use Rattle.std.proofs.Common.{ℕ, ◌≡◌, ◌<◌, ◌+◌, Bool, true, false, cond, List, [], ◌∷◌, ◌++◌, map, length, get_or, take, drop, refl, sym, ap, subst, ◌∙◌, append_assoc}
use Rattle.std.specs.Prelude.{Option, Some, None, Ok, Err, filter, if◌then◌else◌}
use Rattle.std.specs.List.{flat_map}
use Rattle.std.specs.Str.{bytes_eq}
use Rattle.std.proofs.lemmas.List.{append-nil, map-append, take_more}
use Rattle.std.proofs.lemmas.List.Elements.{filter-append}
use Rattle.std.proofs.lemmas.List.Concat.{flat_map-append}
use Rattle.std.proofs.lemmas.Slice.Eq.{bytes_eq-Decides}
use Rattle.xmp_values.specs.declared.text.Name.{Name}
use Rattle.xml_grammar.specs.declared.elements.Attribute.{Attribute}
use Rattle.xml_grammar.specs.declared.elements.Element.{Element}
use Rattle.xml_grammar.specs.declared.elements.Child.{Child}
use Rattle.xml_grammar.specs.declared.elements.Child.TheVariants as child
use Rattle.rdf_forms.specs.declared.roles.Role.TheVariants as roles
use Rattle.rdf_forms.specs.declared.roles.Holder.TheVariants as holders
use Rattle.rdf_forms.specs.Words.{is_member_name}
use Rattle.rdf_forms.specs.Parts.{name_of, place_of, elements_in, elements_of, property_attributes}
use Rattle.rdf_forms.specs.Visits.{Visit, member_depth, member_visits, property_visits, top_visits}
use Rattle.rdf_forms.specs.Values.{attribute_member, value_within}
use Rattle.xmp_tree.specs.declared.nested.Value.{Value}
use Rattle.xmp_tree.specs.Parts.{member}
use Rattle.rdf_forms.specs.NameRules.{about_of, first_about}
use Rattle.rdf_forms.specs.MemberRules.{member_names}
use Rattle.std.specs.Option.{option_or}
use Rattle.rdf_forms.specs.Rules.{broken_in, broken, placed, fault_at, first_fault}
use Rattle.rdf_forms.specs.Broken.{IsTop}
use Rattle.xmp_values.specs.declared.rules.Rule.{Rule}
use Rattle.rdf_forms.specs.Meaning.{Placed, placed_in}
use Rattle.rdf_forms.specs.Entering.{Holds}
use Rattle.xmp_rdf.specs.Meanings.{Fault, unless}
use Rattle.xmp_rdf.specs.Reading.{checked_top, read_within, read_all, placed_member, read_placed, read_tops, visits_in}
use Rattle.xmp_rdf.specs.Gathering.{IsAfter, Enters}
use Rattle.xmp_rdf.proofs.Faults.{first_fault-append, and_then, unless-and_then, unless-made}
use Rattle.xmp_rdf.proofs.Readings.{all_after, in-element, in-text, elements_more, elements_split}

-- ---- tops one after another

-- a top after earlier ones
abbrev top_visit : List Element → Element → Visit
top_visit earlier t = record { role = roles.Top; depth = 0; element = t; earlier = earlier }

abbrev inside_top : ℕ → Element → List Visit
inside_top levels t = member_visits (property_visits levels) holders.Top 0 (elements_of t)

top_visits-append : (levels : ℕ) (earlier ts us : List Element) → top_visits levels earlier (ts ++ us) ≡ top_visits levels earlier ts ++ top_visits levels (earlier ++ ts) us
top_visits-append levels earlier [] us = ap (λ es. top_visits levels es us) (sym (append-nil earlier))
top_visits-append levels earlier (t ∷ ts) us =
    let inside = inside_top levels t in
    let later = earlier ++ t ∷ [] in
    ap (λ vs. top_visit earlier t ∷ (inside ++ vs))
    (top_visits-append levels later ts us ∙ ap (λ es. top_visits levels later ts ++ top_visits levels es us) (append_assoc earlier (t ∷ []) ts))
    ∙ ap (λ vs. top_visit earlier t ∷ vs) (sym (append_assoc inside (top_visits levels later ts) (top_visits levels (earlier ++ t ∷ ts) us)))

pub tops-append : (levels : ℕ) (before : List Placed) (earlier ts us : List Element) →
    read_tops levels before earlier (ts ++ us) ≡ and_then (read_tops levels before earlier ts) (λ ps. read_tops levels ps (earlier ++ ts) us)
unfolding read_tops
tops-append levels before earlier ts us =
    let f = first_fault (top_visits levels earlier ts) in
    let g = first_fault (top_visits levels (earlier ++ ts) us) in
    let placed = λ (es : List Element). flat_map (placed_in levels) es in
    ap (λ h. unless h (before ++ placed (ts ++ us))) (ap first_fault (top_visits-append levels earlier ts us) ∙ first_fault-append (top_visits levels earlier ts) (top_visits levels (earlier ++ ts) us))
    ∙ all_after f g (before ++ placed ts) (before ++ placed (ts ++ us)) (placed us)
    (ap (λ ps. before ++ ps) (flat_map-append (placed_in levels) ts us) ∙ sym (append_assoc before (placed ts) (placed us)))

pub tops-none : (levels : ℕ) (before : List Placed) (earlier : List Element) → read_tops levels before earlier [] ≡ Ok before
unfolding read_tops
tops-none levels before earlier = ap Ok (append-nil before)

-- the property attributes of a top
abbrev pub attributes_placed : Element → List Placed
attributes_placed t = map (λ (a : Attribute). (place_of t, attribute_member a)) (property_attributes t)

pub tops-one : (levels : ℕ) (before : List Placed) (earlier : List Element) (t : Element) →
    read_tops levels before earlier (t ∷ []) ≡ and_then (checked_top earlier t) (λ _. read_placed levels (before ++ attributes_placed t) (elements_of t))
unfolding read_tops checked_top read_all
tops-one levels before earlier t =
    let inside = inside_top levels t in
    let members = map (placed_member levels) (elements_of t) in
    ap (λ vs. unless (option_or (fault_at (top_visit earlier t)) (first_fault vs)) (before ++ (placed_in levels t ++ []))) (append-nil inside)
    ∙ ap (λ ps. unless (option_or (fault_at (top_visit earlier t)) (first_fault inside)) (before ++ ps)) (append-nil (placed_in levels t))
    ∙ unless-and_then (fault_at (top_visit earlier t)) (first_fault inside) tt (before ++ (attributes_placed t ++ members))
    ∙ ap (λ ps. and_then (checked_top earlier t) (λ _. unless (first_fault inside) ps)) (sym (append_assoc before (attributes_placed t) members))

-- ---- the first about

alone_about : (t : Element) (b : Bool) → bytes_eq (about_of t) [] ≡ b → cond b [] (about_of t) ≡ about_of t
alone_about t true is = sym ((bytes_eq-Decides (about_of t) []).0 is)
alone_about t false is = refl

after_about : (e t : Element) (rest more : List ℕ) (b : Bool) → bytes_eq (about_of e) [] ≡ b → more ≡ cond (bytes_eq rest []) (about_of t) rest →
    cond b more (about_of e) ≡ cond (bytes_eq (cond b rest (about_of e)) []) (about_of t) (cond b rest (about_of e))
after_about e t rest more true is known = known
after_about e t rest more false is known = ap (λ b. cond b (about_of t) (about_of e)) (sym is)

first_about-more : (earlier : List Element) (t : Element) → first_about (earlier ++ t ∷ []) ≡ (if bytes_eq (first_about earlier) [] then about_of t else first_about earlier)
first_about-more [] t = alone_about t (bytes_eq (about_of t) []) refl
first_about-more (e ∷ es) t = after_about e t (first_about es) (first_about (es ++ t ∷ [])) (bytes_eq (about_of e) []) refl (first_about-more es t)

names-more : (earlier : List Element) (t : Element) → flat_map member_names (earlier ++ t ∷ []) ≡ flat_map member_names earlier ++ member_names t
names-more earlier t = flat_map-append member_names earlier (t ∷ []) ∙ ap (λ ns. flat_map member_names earlier ++ ns) (append-nil (member_names t))

pub held-more : (earlier : List Element) (t : Element) (set : List Name) → Holds set (flat_map member_names earlier ++ member_names t) → Holds set (flat_map member_names (earlier ++ t ∷ []))
held-more earlier t set held = subst (Holds set) (sym (names-more earlier t)) held

pub after-more : (earlier : List Element) (t : Element) (first next : List ℕ) (names set : List Name) → IsAfter earlier first names →
    next ≡ (if bytes_eq first [] then about_of t else first) → Holds set (flat_map member_names (earlier ++ t ∷ [])) → IsAfter (earlier ++ t ∷ []) next set
after-more earlier t first next names set after is held = record {
  about = is ∙ ap (λ f. if bytes_eq f [] then about_of t else f) after.about ∙ sym (first_about-more earlier t);
  holds = held;
}

-- ---- the rule that a top breaks

pub top-checked : (earlier : List Element) (t : Element) (rule : Option Rule) → broken_in roles.Top 0 t (first_about earlier) (flat_map member_names earlier) ≡ rule →
    checked_top earlier t ≡ unless (placed (place_of t) rule) tt
unfolding checked_top broken
top-checked earlier t rule is = ap (λ r. unless (placed (place_of t) r) tt) is

pub top-entered : (earlier : List Element) (t : Element) (first : List ℕ) (names set : List Name) → IsAfter earlier first names →
    ((ns : List Name) → Holds names ns → IsTop t first ns set) → Enters earlier t (Ok tt) set
top-entered earlier t first names set after told =
    let top = told (flat_map member_names earlier) after.holds in (
      top-checked earlier t None (ap (λ f. broken_in roles.Top 0 t f (flat_map member_names earlier)) (sym after.about) ∙ top.unbroken),
      held-more earlier t set top.holds,
    )

pub top-halted : (earlier : List Element) (t : Element) (first : List ℕ) (names : List Name) (rule : Rule) → IsAfter earlier first names →
    ((ns : List Name) → Holds names ns → broken_in roles.Top 0 t first ns ≡ Some rule) → checked_top earlier t ≡ Err (rule, place_of t)
top-halted earlier t first names rule after told =
    top-checked earlier t (Some rule) (ap (λ f. broken_in roles.Top 0 t f (flat_map member_names earlier)) (sym after.about) ∙ told (flat_map member_names earlier) after.holds)

-- ---- a child of a top

-- an element as a property with this value, and its place
abbrev pub placed_as : Element → Value → Placed
placed_as e v = (place_of e, member (name_of e) v)

pub placed-element : (levels : ℕ) (before : List Placed) (c : Child) (e : Element) → c ≡ child.Element e →
    read_placed levels before (elements_in (c ∷ [])) ≡ and_then (read_within levels (roles.Property holders.Top) (member_depth 0 e) e) (λ v. Ok (before ++ placed_as e v ∷ []))
unfolding read_within read_all
placed-element levels before c e is =
    ap (λ d. read_placed levels before (elements_in (d ∷ []))) is ∙ ap (read_placed levels before) (in-element e)
    ∙ ap (λ vs. unless (first_fault vs) (before ++ placed_member levels e ∷ [])) (append-nil (visits_in levels holders.Top 0 e))
    ∙ unless-made (first_fault (visits_in levels holders.Top 0 e)) (value_within levels e) (λ v. before ++ placed_as e v ∷ [])

-- ---- a child of `rdf:RDF`

pub top-text : (c : Child) (t : List ℕ) → c ≡ child.Text t → elements_in (c ∷ []) ≡ []
top-text c t is = ap (λ (d : Child). elements_in (d ∷ [])) is ∙ in-text t

-- ---- a loop over the children of `rdf:RDF`

pub tops-loop-more : (levels : ℕ) (before ps : List Placed) (earlier : List Element) (cs : List Child) (i : ℕ) (c : Child) → i < length cs → c ≡ get_or cs i c →
    read_tops levels before earlier (elements_in (take i cs)) ≡ Ok ps →
    read_tops levels before earlier (elements_in (take (i + 1) cs)) ≡ read_tops levels ps (earlier ++ elements_in (take i cs)) (elements_in (c ∷ []))
tops-loop-more levels before ps earlier cs i c lt there so_far =
    ap (read_tops levels before earlier) (elements_more cs i c lt there)
    ∙ tops-append levels before earlier (elements_in (take i cs)) (elements_in (c ∷ []))
    ∙ ap (λ r. and_then r (λ qs. read_tops levels qs (earlier ++ elements_in (take i cs)) (elements_in (c ∷ [])))) so_far

pub tops-loop-stop : (levels : ℕ) (before ps : List Placed) (earlier : List Element) (cs : List Child) (i : ℕ) (c : Child) → i < length cs → c ≡ get_or cs i c →
    read_tops levels before earlier (elements_in (take i cs)) ≡ Ok ps → (f : Fault) →
    read_tops levels ps (earlier ++ elements_in (take i cs)) (elements_in (c ∷ [])) ≡ Err f → read_tops levels before earlier (elements_in cs) ≡ Err f
tops-loop-stop levels before ps earlier cs i c lt there so_far f halts =
    let front = elements_in (take (i + 1) cs) in
    let rest = elements_in (drop (i + 1) cs) in
    ap (read_tops levels before earlier) (elements_split cs i)
    ∙ tops-append levels before earlier front rest
    ∙ ap (λ r. and_then r (λ qs. read_tops levels qs (earlier ++ front) rest)) (tops-loop-more levels before ps earlier cs i c lt there so_far ∙ halts)

-- ---- a loop over the attributes of a top

-- what was read before, and the property attributes among the first ones
abbrev pub first_attributes : Element → List Placed → List Attribute → ℕ → List Placed
first_attributes t before xs i = before ++ map (λ (a : Attribute). (place_of t, attribute_member a)) (filter (λ (a : Attribute). is_member_name a.name) (take i xs))

pub attributes-more : (t : Element) (before : List Placed) (xs : List Attribute) (i : ℕ) (a : Attribute) → i < length xs → a ≡ get_or xs i a →
    (is_member_name a.name ≡ true → first_attributes t before xs (i + 1) ≡ first_attributes t before xs i ++ (place_of t, attribute_member a) ∷ [])
    × (is_member_name a.name ≡ false → first_attributes t before xs (i + 1) ≡ first_attributes t before xs i)
attributes-more t before xs i a lt here = (λ is. split ∙ last true is, λ is. split ∙ last false is)
  where
    placed : Attribute → Placed
    placed b = (place_of t, attribute_member b)

    own : Attribute → Bool
    own b = is_member_name b.name

    kept : List Attribute
    kept = filter own (take i xs)

    split : before ++ map placed (filter own (take (i + 1) xs)) ≡ before ++ map placed (kept ++ filter own (a ∷ []))
    split = ap (λ ys. before ++ map placed ys)
        (ap (filter own) (take_more xs i a lt ∙ ap (λ (b : Attribute). take i xs ++ b ∷ []) (sym here)) ∙ filter-append own (take i xs) (a ∷ []))

    last : (b : Bool) → own a ≡ b → before ++ map placed (kept ++ filter own (a ∷ [])) ≡ cond b ((before ++ map placed kept) ++ placed a ∷ []) (before ++ map placed kept)
    last true is =
        ap (λ b. before ++ map placed (kept ++ cond b (a ∷ []) [])) is ∙ ap (λ ps. before ++ ps) (map-append placed kept (a ∷ []))
        ∙ sym (append_assoc before (map placed kept) (placed a ∷ []))
    last false is = ap (λ b. before ++ map placed (kept ++ cond b (a ∷ []) [])) is ∙ ap (λ ys. before ++ map placed ys) (append-nil kept)
