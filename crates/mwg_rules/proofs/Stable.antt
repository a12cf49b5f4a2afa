-- What was reconciled prefers itself again.
use Rattle.std.proofs.Common.{◌≡◌, ◌≢◌, ◌↔◌, ◌∙◌, ◌⊎◌, inl, inr, ℕ, ◌+◌, Bool, true, false, List, [], ◌∷◌, ◌++◌, take, drop, sum, Option, Some, None, refl, sym, ap, subst, codes}
use Rattle.std.specs.Prelude.{◌==◌, not, if◌then◌else◌, flat_map, slice_index}
use Rattle.std.specs.List.{list_all}
use Rattle.std.proofs.lemmas.Bool.{and_parts}
use Rattle.xmp_values.specs.declared.text.Name.{Name}
use Rattle.xmp_tree.specs.declared.nested.Value.{Value}
use Rattle.xmp_tree.specs.declared.nested.Member.{Member}
use Rattle.xmp_tree.specs.Places.{value_named}
use Rattle.mwg_rules.specs.declared.choices.Choice.{Choice}
use Rattle.mwg_rules.specs.declared.choices.Choice.TheVariants.{Exif, Xmp, Iptc}
use Rattle.mwg_rules.specs.declared.properties.Form.{Form}
use Rattle.mwg_rules.specs.declared.properties.Property.{Property}
use Rattle.mwg_rules.specs.declared.properties.Property.TheVariants.{Description, Rights, Creator, Subject, DateCreated, CreateDate, ModifyDate, City, State, Country, CountryCode, Location}
use Rattle.mwg_rules.specs.Properties.{properties, number_of, form_of, name_of, local_of}
use Rattle.mwg_rules.specs.Sources.{Texts, choice_for, choices_for, has_value, preferred, value_at}
use Rattle.mwg_rules.specs.Forms.{with_texts, is_already}
use Rattle.mwg_rules.specs.Reconciled.{chosen, put, put_all, reconciled, texts_of}
use Rattle.mwg_rules.specs.Stale.{is_changed, line_if, stale_line, stale_lines}
use Rattle.mwg_rules.proofs.Already.{already-with_texts, with_texts-already}
use Rattle.mwg_rules.proofs.Puts.{value_named-changed, value_named-other, with_property-stays}

-- Different properties have different names: the bytes of the local part tell the number.
abbrev weight : List ℕ → ℕ
weight local = sum local + slice_index local 0

abbrev number_by : ℕ → ℕ
number_by total =
    if total == weight (codes "description") then 0 else (if total == weight (codes "rights") then 1 else (if total == weight (codes "creator") then 2
    else (if total == weight (codes "subject") then 3 else (if total == weight (codes "DateCreated") then 4 else (if total == weight (codes "CreateDate") then 5
    else (if total == weight (codes "ModifyDate") then 6 else (if total == weight (codes "City") then 7 else (if total == weight (codes "State") then 8
    else (if total == weight (codes "Country") then 9 else (if total == weight (codes "CountryCode") then 10 else 11))))))))))

numbered : (p : Property) → number_by (weight (local_of p)) ≡ number_of p
unfolding local_of
numbered Description = refl
numbered Rights = refl
numbered Creator = refl
numbered Subject = refl
numbered DateCreated = refl
numbered CreateDate = refl
numbered ModifyDate = refl
numbered City = refl
numbered State = refl
numbered Country = refl
numbered CountryCode = refl
numbered Location = refl

same_number : (p q : Property) → name_of p ≡ name_of q → number_of p ≡ number_of q
same_number p q e = sym (numbered p) ∙ ap (λ (n : Name). number_by (weight n.local)) e ∙ numbered q

abbrev is_other : Property → Property → Bool
is_other p q = not (number_of q == number_of p)

not_other : (n m : ℕ) → not (n == m) ≡ true → n ≡ m → ⊥
not_other n m t e = absurd (grind (Rattle.std.proofs.Common.arith, Rattle.std.proofs.lemmas.Bool.Decides.nat_tests))

-- one property after another, in two parts
put_all-append : (ps qs : List Property) (cs : List (Option Choice)) (ms : List Member) → put_all (ps ++ qs) cs ms ≡ put_all qs cs (put_all ps cs ms)
put_all-append [] qs cs ms = refl
put_all-append (p ∷ ps) qs cs ms = put_all-append ps qs cs (put p (texts_of (chosen cs p)) ms)

abbrev after : Form → Option Texts → Option Value → Option Value
after form None there = there
after form (Some texts) there = Some (with_texts form texts there)

put_here : (p : Property) (o : Option Texts) (ms : List Member) → value_named (name_of p) (put p o ms) ≡ after (form_of p) o (value_named (name_of p) ms)
put_here p None ms = refl
put_here p (Some texts) ms = value_named-changed (name_of p) (with_texts (form_of p) texts) ms

put_other : (p q : Property) (o : Option Texts) (ms : List Member) → is_other p q ≡ true → value_named (name_of p) (put q o ms) ≡ value_named (name_of p) ms
put_other p q None ms apart = refl
put_other p q (Some texts) ms apart =
    value_named-other (name_of q) (with_texts (form_of q) texts) (name_of p) (λ e. not_other (number_of q) (number_of p) apart (same_number q p e)) ms

all_other : (p : Property) (ps : List Property) (cs : List (Option Choice)) (ms : List Member) → list_all (is_other p) ps ≡ true
    → value_named (name_of p) (put_all ps cs ms) ≡ value_named (name_of p) ms
all_other p [] cs ms apart = refl
all_other p (q ∷ qs) cs ms apart =
    let both = and_parts (is_other p q) (list_all (is_other p) qs) apart in
    all_other p qs cs (put q (texts_of (chosen cs q)) ms) both.1 ∙ put_other p q (texts_of (chosen cs q)) ms both.0

-- the properties before and after one
split_here : (p : Property) (before rest : List Property) (cs : List (Option Choice)) (ms : List Member) → list_all (is_other p) before ≡ true → list_all (is_other p) rest ≡ true
    → value_named (name_of p) (put_all (before ++ p ∷ rest) cs ms) ≡ after (form_of p) (texts_of (chosen cs p)) (value_named (name_of p) ms)
split_here p before rest cs ms b c =
    ap (value_named (name_of p)) (put_all-append before (p ∷ rest) cs ms)
    ∙ all_other p rest cs (put p (texts_of (chosen cs p)) (put_all before cs ms)) c
    ∙ put_here p (texts_of (chosen cs p)) (put_all before cs ms)
    ∙ ap (after (form_of p) (texts_of (chosen cs p))) (all_other p before cs ms b)

put_value : (p : Property) (cs : List (Option Choice)) (ms : List Member) → value_named (name_of p) (put_all properties cs ms) ≡ after (form_of p) (texts_of (chosen cs p)) (value_named (name_of p) ms)
unfolding properties
put_value Description cs ms = split_here Description [] (drop 1 properties) cs ms refl refl
put_value Rights cs ms = split_here Rights (take 1 properties) (drop 2 properties) cs ms refl refl
put_value Creator cs ms = split_here Creator (take 2 properties) (drop 3 properties) cs ms refl refl
put_value Subject cs ms = split_here Subject (take 3 properties) (drop 4 properties) cs ms refl refl
put_value DateCreated cs ms = split_here DateCreated (take 4 properties) (drop 5 properties) cs ms refl refl
put_value CreateDate cs ms = split_here CreateDate (take 5 properties) (drop 6 properties) cs ms refl refl
put_value ModifyDate cs ms = split_here ModifyDate (take 6 properties) (drop 7 properties) cs ms refl refl
put_value City cs ms = split_here City (take 7 properties) (drop 8 properties) cs ms refl refl
put_value State cs ms = split_here State (take 8 properties) (drop 9 properties) cs ms refl refl
put_value Country cs ms = split_here Country (take 9 properties) (drop 10 properties) cs ms refl refl
put_value CountryCode cs ms = split_here CountryCode (take 10 properties) (drop 11 properties) cs ms refl refl
put_value Location cs ms = split_here Location (take 11 properties) [] cs ms refl refl

module _ (exif : List (Option Texts)) (changed : Bool) (iptc : List (Option Texts)) (ms : List Member) where
  chosen-choices : (p : Property) → chosen (choices_for exif changed iptc ms) p ≡ choice_for exif changed iptc ms p
  unfolding choices_for properties
  chosen-choices Description = refl
  chosen-choices Rights = refl
  chosen-choices Creator = refl
  chosen-choices Subject = refl
  chosen-choices DateCreated = refl
  chosen-choices CreateDate = refl
  chosen-choices ModifyDate = refl
  chosen-choices City = refl
  chosen-choices State = refl
  chosen-choices Country = refl
  chosen-choices CountryCode = refl
  chosen-choices Location = refl

-- the texts that are chosen, if there are any, are said already
abbrev IsSaid : Form → Option Texts → Option Value → Type 0
IsSaid form None there = Unit {0}
IsSaid form (Some texts) there = (v : Value) × (there ≡ Some v) × (is_already form texts v ≡ true)

module _ (form : Form) (there : Option Value) where
  said : (texts : Texts) → IsSaid form (Some texts) (Some (with_texts form texts there))
  said texts = (with_texts form texts there, refl, already-with_texts form texts there)

  -- IPTC's value, chosen again or not
  again : (texts : Texts) (again has : Bool) → IsSaid form (texts_of (preferred None again has (Some texts))) (Some (with_texts form texts there))
  unfolding preferred
  again texts true has = said texts
  again texts false true = tt
  again texts false false = said texts

  none_chosen : (changed has : Bool) → texts_of (preferred None changed has None) ≡ None
  unfolding preferred
  none_chosen true true = refl
  none_chosen true false = refl
  none_chosen false true = refl
  none_chosen false false = refl

  -- the same sources, where the digest has changed or was renewed
  stable : (exif iptc : Option Texts) (changed later : Bool) → (later ≡ changed) ⊎ (later ≡ false) →
      let x = after form (texts_of (preferred exif changed (has_value there) iptc)) there in
      IsSaid form (texts_of (preferred exif later (has_value x) iptc)) x
  unfolding preferred
  stable (Some texts) iptc changed later how = said texts
  stable None None changed later how =
      let x = after form (texts_of (preferred None changed (has_value there) None)) there in
      subst (λ o. IsSaid form o x) (sym (none_chosen later (has_value x))) tt
  stable None (Some texts) true later how = again texts later (has_value (Some (with_texts form texts there)))
  stable None (Some texts) false later how = by (has_value there) refl
    where
      off : later ≡ false
      off = elim how [ inl e ↦ e | inr e ↦ e ]

      by : (b : Bool) → has_value there ≡ b →
          let x = after form (texts_of (preferred None false b (Some texts))) there in
          IsSaid form (texts_of (preferred None later (has_value x) (Some texts))) x
      by true e = subst (λ (l : Bool). IsSaid form (texts_of (preferred None l (has_value there) (Some texts))) there) (sym off)
          (subst (λ (h : Bool). IsSaid form (texts_of (preferred None false h (Some texts))) there) (sym e) tt)
      by false e = again texts later (has_value (Some (with_texts form texts there)))

module _ (exif : List (Option Texts)) (changed later : Bool) (how : (later ≡ changed) ⊎ (later ≡ false)) (iptc : List (Option Texts)) (ms : List Member) where
  abbrev first : List (Option Choice)
  first = choices_for exif changed iptc ms

  abbrev made : List Member
  made = reconciled first ms

  abbrev second : List (Option Choice)
  second = choices_for exif later iptc made

  pub said_again : (p : Property) → IsSaid (form_of p) (texts_of (chosen second p)) (value_named (name_of p) made)
  unfolding reconciled
  said_again p =
      let there = value_named (name_of p) ms in
      let x = after (form_of p) (texts_of (choice_for exif changed iptc ms p)) there in
      let is : value_named (name_of p) made ≡ x = put_value p first ms ∙ ap (λ c. after (form_of p) (texts_of c) there) (chosen-choices exif changed iptc ms p) in
      let s = stable (form_of p) there (value_at exif (number_of p)) (value_at iptc (number_of p)) changed later how in
      subst (λ c. IsSaid (form_of p) (texts_of c) (value_named (name_of p) made)) (sym (chosen-choices exif later iptc made p))
      (subst (λ o. IsSaid (form_of p) (texts_of (preferred (value_at exif (number_of p)) later (has_value o) (value_at iptc (number_of p)))) o) (sym is) s)

  stays : (p : Property) (o : Option Texts) → IsSaid (form_of p) o (value_named (name_of p) made) → put p o made ≡ made
  stays p None h = refl
  stays p (Some texts) h = with_property-stays (name_of p) (with_texts (form_of p) texts) made h.0 h.1 (with_texts-already (form_of p) texts h.0 h.2)

  all_stay : (ps : List Property) → put_all ps second made ≡ made
  all_stay [] = refl
  all_stay (p ∷ ps) = ap (put_all ps second) (stays p (texts_of (chosen second p)) (said_again p)) ∙ all_stay ps

  pub reconciled-again : reconciled second made ≡ made
  unfolding reconciled
  reconciled-again = all_stay properties

  no_line : (p : Property) (c : Option Choice) (there : Option Value) → IsSaid (form_of p) (texts_of c) there → stale_line p c there ≡ []
  unfolding stale_line
  no_line p None there h = refl
  no_line p (Some (Exif texts)) there h = ap (λ o. line_if (is_changed (form_of p) texts o) p (codes "exif")) h.1 ∙ ap (λ b. line_if (not b) p (codes "exif")) h.2
  no_line p (Some Xmp) there h = refl
  no_line p (Some (Iptc texts)) there h = ap (λ o. line_if (is_changed (form_of p) texts o) p (codes "iptc")) h.1 ∙ ap (λ b. line_if (not b) p (codes "iptc")) h.2

  no_lines : (ps : List Property) → flat_map (λ p. stale_line p (chosen second p) (value_named (name_of p) made)) ps ≡ []
  no_lines [] = refl
  no_lines (p ∷ ps) =
      ap (λ (l : List ℕ). l ++ flat_map (λ q. stale_line q (chosen second q) (value_named (name_of q) made)) ps) (no_line p (chosen second p) (value_named (name_of p) made) (said_again p))
      ∙ no_lines ps

  pub stale_lines-again : stale_lines second made ≡ []
  unfolding stale_lines
  stale_lines-again = no_lines properties

-- a property is changed exactly where a line says so
pub changed_is : (form : Form) (texts : Texts) (v : Value) → (is_changed form texts (Some v) ≡ true) ↔ (with_texts form texts (Some v) ≢ v)
changed_is form texts v = (
  λ e same. let said : is_already form texts v ≡ true = ap (is_already form texts) (sym same) ∙ already-with_texts form texts (Some v) in
      let no : false ≡ true = ap not (sym said) ∙ e in absurd (cc),
  λ changes. by (is_already form texts v) refl changes,
)
  where
    by : (b : Bool) → is_already form texts v ≡ b → (with_texts form texts (Some v) ≢ v) → not (is_already form texts v) ≡ true
    by true e changes = absurd (changes (with_texts-already form texts v e))
    by false e changes = ap not e
