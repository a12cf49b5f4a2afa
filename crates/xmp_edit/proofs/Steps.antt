-- A change at the end of steps keeps what may stand at each of them.
use Rattle.std.proofs.Common.{◌≡◌, ◌≢◌, ◌∙◌, ◌<◌, ◌-◌, ◌≤◌, ℕ, length, get_or, Bool, true, false, ◌&&◌, List, [], ◌∷◌, Option, Some, None, ap, sym, subst, arith, refl}
use Rattle.std.specs.Prelude.{All, Any, slice_get, Result, Ok, Err}
use Rattle.std.proofs.lemmas.List.{get_or_default}
use Rattle.std.proofs.lemmas.List.Elements.{All-cons, All-get_or, All-from_get_or}
use Rattle.std.proofs.lemmas.Option.{get_or_from_slice_get}
use Rattle.xmp_values.specs.declared.text.Name.{Name}
use Rattle.xmp_values.specs.declared.rules.Rule.{Rule}
use Rattle.xmp_tree.specs.declared.nested.Value.{Value}
use Rattle.xmp_tree.specs.declared.nested.Member.{Member}
use Rattle.xmp_tree.specs.Parts.{member}
use Rattle.xmp_tree.specs.Items.{joined}
use Rattle.xmp_paths.specs.Paths.{is_end}
use Rattle.xmp_paths.specs.Allowed.{IsFieldName, IsQualifierName, IsStep, AreSteps}
use Rattle.xmp_tree.specs.Wf.{name_of, value_of, IsNamed, IsOwnSpace, IsWfMember, member_depth, AreWithin, AreWellFormed, AreWellFormedQualifiers, IsQualifier, IsPlain, IsPlainUri, lang_name, type_name}
use Rattle.xmp_tree.proofs.WfLemmas.{within_member, nothing_within}
use Rattle.xmp_tree.proofs.Made.{name-member, value-member, formed_member, depth-member, formed_more, formed_quals_more}
use Rattle.xmp_tree.proofs.Changed.{AreParted, formed_set, formed_remove, formed_quals_set, formed_quals_remove, quals_front}
use Rattle.xmp_paths.specs.declared.step.Step.{Step}
use Rattle.xmp_paths.specs.declared.step.Step.TheVariants.{Field, Qualifier, Item, Tag}
use Rattle.xmp_tree.specs.Places.{same_name}
use Rattle.xmp_edit.specs.Edits.{Change, in_members, in_items, in_tagged, fields_changed, items_changed, stepped, on_value, at_place}
use Rattle.xmp_edit.specs.Allowed.{IsWithin, SuitsName, Suits, Fits, IfSome', IfGiven, Keeps, KeepsLast}
use Rattle.xmp_tree.proofs.PlaceLemmas.{same_name_is, different}
use Rattle.xmp_edit.proofs.Members.{kept_members}
use Rattle.xmp_edit.proofs.Items.{kept_items, kept_tagged}
use Rattle.xmp_edit.proofs.Levels.{given_map, AreItems, fields_level, items_level, shape_level, quals_level}

-- a member of a name and a value
member_fits : (n : Name) (v : Value) (room : ℕ) → IsNamed n → IsWithin room v → IsWfMember (member n v) × (member_depth (member n v) ≤ room)
member_fits n v room named w = (formed_member n v named w.0, subst (λ d. d ≤ room) (sym (depth-member n v)) w.1)

-- what is known of a member of a list
member_out : (room : ℕ) (ms : List Member) → AreWithin room ms → (i : ℕ) (m : Member) → i < length ms → slice_get ms i ≡ Some m → IsNamed (name_of m) × IsWithin room (value_of m)
member_out room ms h i m lt is =
    let same = get_or_from_slice_get ms i m m is in
    (within_member m room).0 (
      subst IsWfMember same (All-get_or IsWfMember ms i m lt h.each),
      subst (λ x. member_depth x ≤ room) same (All-get_or (λ x. member_depth x ≤ room) ms i m lt h.shallow),
    )

-- the new member has the name of the old one
renamed : (ms : List Member) (i : ℕ) (m : Member) (v : Value) → i < length ms → slice_get ms i ≡ Some m → name_of (member (name_of m) v) ≡ name_of (get_or ms i (member (name_of m) v))
renamed ms i m v lt is = name-member (name_of m) v ∙ ap name_of (sym (get_or_from_slice_get ms i m (member (name_of m) v) is))

abbrev IsNew : Name → List Member → Type 0
IsNew n ms = Any (λ k. name_of k ≡ n) ms → ⊥

new_member : (n : Name) (v : Value) (ms : List Member) → IsNew n ms → IsNew (name_of (member n v)) ms
new_member n v ms new = subst (λ x. IsNew x ms) (sym (name-member n v)) new

pub fields_kept : (room : ℕ) (n : Name) (change : Change) (makes : Bool) → IsFieldName n → Keeps (Fits room (Field n)) change → (ms : List Member) → AreWellFormed room ms →
    IfGiven (AreWellFormed room) (in_members change makes false n ms)
fields_kept room n change makes is keeps ms formed =
    kept_members (AreWellFormed room) (Fits room (Field n)) false n ms formed
    (λ i m lt here same. ((member_out room ms formed.within i m lt here).1, tt))
    (λ i m lt here same v fits. let fit = member_fits (name_of m) v room (member_out room ms formed.within i m lt here).0 fits.0 in
    formed_set ms i (member (name_of m) v) lt (renamed ms i m v lt here) room formed fit.0 fit.1)
    (λ i lt. formed_remove ms i lt room formed)
    (λ new v fits. let fit = member_fits n v room is.named fits.0 in
    formed_more ms (member n v) room formed fit.0 fit.1 (subst (λ (x : Name). IsOwnSpace x.space) (sym (name-member n v)) is.own) (new_member n v ms new))
    change keeps makes

-- a member that may be a qualifier
suits_qualifier : (n : Name) (v : Value) → (n ≢ lang_name → n ≢ type_name → IsOwnSpace n.space) → SuitsName n v → IsQualifier (member n v)
suits_qualifier n v own suits = record {
  own = λ not_lang not_type. subst (λ (x : Name). IsOwnSpace x.space) (sym (name-member n v)) (own (λ e. not_lang (name-member n v ∙ e)) (λ e. not_type (name-member n v ∙ e)));
  lang = λ e. subst IsPlain (sym (value-member n v)) (suits.lang (sym (name-member n v) ∙ e));
  kind = λ e. subst IsPlainUri (sym (value-member n v)) (suits.kind (sym (name-member n v) ∙ e));
}

-- a new qualifier, `xml:lang` in front
module _ (room : ℕ) (m : Member) (ms : List Member) (formed : AreWellFormedQualifiers room ms) (fit : IsWfMember m × (member_depth m ≤ room))
    (qualifier : IsQualifier m) (new : IsNew (name_of m) ms) where
  parted : AreParted (m ∷ []) ms
  parted i j d lt within same =
      let first : i ≡ 0 = omega arith in
      new (j, get_or ms j d, within, get_or_default ms j _ d within, sym (subst (λ k. name_of (get_or (m ∷ []) k d) ≡ name_of (get_or ms j d)) first same))

  no_lang : name_of m ≡ lang_name → All (λ k. name_of k ≡ lang_name → ⊥) ms
  no_lang is_lang = All-from_get_or (λ k. name_of k ≡ lang_name → ⊥) ms m (λ j lt same. new (j, get_or ms j m, lt, get_or_default ms j _ m lt, same ∙ sym is_lang))

  pub joined_quals : (b : Bool) → (b ≡ true → name_of m ≡ lang_name) → (b ≡ false → name_of m ≡ lang_name → ⊥) → AreWellFormedQualifiers room (joined b ms m)
  joined_quals true lang other = record {
    within = record {
      each = All-cons IsWfMember m ms fit.0 formed.within.each;
      shallow = All-cons (λ k. member_depth k ≤ room) m ms fit.1 formed.within.shallow;
    };
    quals = quals_front m ms qualifier formed.quals parted (no_lang (lang refl));
  }
  joined_quals false lang other = formed_quals_more ms m room formed fit.0 fit.1 qualifier (λ is_lang. absurd (other refl is_lang)) new

pub quals_kept : (room : ℕ) (n : Name) (ss : List Step) (change : Change) (makes : Bool) → IsQualifierName n ss → Keeps (Fits room (Qualifier n)) change → (ms : List Member) →
    AreWellFormedQualifiers room ms → IfGiven (AreWellFormedQualifiers room) (in_members change makes (same_name n lang_name) n ms)
quals_kept room n ss change makes is keeps ms formed =
    kept_members (AreWellFormedQualifiers room) (Fits room (Qualifier n)) (same_name n lang_name) n ms formed
    (λ i m lt here same. let q = subst IsQualifier (get_or_from_slice_get ms i m m here) (All-get_or IsQualifier ms i m lt formed.quals.each) in
    ((member_out room ms formed.within i m lt here).1, record { lang = λ e. q.lang (same ∙ e); kind = λ e. q.kind (same ∙ e) }))
    (λ i m lt here same v fits. let fit = member_fits (name_of m) v room (member_out room ms formed.within i m lt here).0 fits.0 in
    formed_quals_set ms i (member (name_of m) v) lt (renamed ms i m v lt here) room formed fit.0 fit.1
    (subst (λ x. IsQualifier (member x v)) (sym same) (suits_qualifier n v is.own fits.1)))
    (λ i lt. formed_quals_remove ms i lt room formed)
    (λ new v fits. joined_quals room (member n v) ms formed (member_fits n v room is.named fits.0) (suits_qualifier n v is.own fits.1) (new_member n v ms new)
    (same_name n lang_name) (λ e. name-member n v ∙ (same_name_is n lang_name).0 e)
    (λ e is_lang. different (same_name n lang_name) ((same_name_is n lang_name).1 (sym (name-member n v) ∙ is_lang)) e))
    change keeps makes

-- items, each well-formed and shallow
items_in : (room : ℕ) (vs : List Value) → AreItems room vs → All (IsWithin room) vs
items_in room vs h = λ i d lt. (h.0 i d lt, h.1 i d lt)

items_out : (room : ℕ) (r : Result (List Value) Rule) → IfGiven (All (IsWithin room)) r → IfGiven (AreItems room) r
items_out room (Ok vs) h = (λ i d lt. (h i d lt).0, λ i d lt. (h i d lt).1)
items_out room (Err e) h = tt

-- a value that is within is all that may stand as an item
items_keep : (P : Value → Type 0) (change : Change) → Keeps (λ v. P v × Unit {0}) change → Keeps P change
items_keep P change keeps None h = weaker (change None) (keeps None tt)
  where
    weaker : (r : Result (Option Value) Rule) → IfGiven (IfSome' (λ v. P v × Unit {0})) r → IfGiven (IfSome' P) r
    weaker (Ok (Some v)) k = k.0
    weaker (Ok None) k = tt
    weaker (Err e) k = tt
items_keep P change keeps (Some v) h = weaker (change (Some v)) (keeps (Some v) (h, tt))
  where
    weaker : (r : Result (Option Value) Rule) → IfGiven (IfSome' (λ v. P v × Unit {0})) r → IfGiven (IfSome' P) r
    weaker (Ok (Some v)) k = k.0
    weaker (Ok None) k = tt
    weaker (Err e) k = tt

-- One step.
step_kept : (s : Step) (ss : List Step) (room : ℕ) → (room ≡ 0 → ⊥) → (v : Value) → IsStep s ss → IsWithin room v → (change : Change) (makes : Bool) → Keeps (Fits (room - 1) s) change →
    IfGiven (IsWithin room) (stepped change makes s v)
step_kept (Field n) ss room some v is h change makes keeps =
    shape_level room some v h (fields_changed (in_members change makes false n)) (fields_level (room - 1) (in_members change makes false n) (fields_kept (room - 1) n change makes is keeps))
step_kept (Qualifier n) ss room some v is h change makes keeps =
    quals_level room some v h (in_members change makes (same_name n lang_name) n) (quals_kept (room - 1) n ss change makes is keeps)
step_kept (Item i) ss room some v is h change makes keeps =
    shape_level room some v h (items_changed (in_items change makes i)) (items_level (room - 1) (in_items change makes i)
    (λ vs each. items_out (room - 1) (in_items change makes i vs) (kept_items (IsWithin (room - 1)) change (items_keep (IsWithin (room - 1)) change keeps) vs (items_in (room - 1) vs each) makes i)))
step_kept (Tag tag) ss room some v is h change makes keeps =
    shape_level room some v h (items_changed (in_tagged change tag)) (items_level (room - 1) (in_tagged change tag)
    (λ vs each. items_out (room - 1) (in_tagged change tag vs) (kept_tagged (IsWithin (room - 1)) change (items_keep (IsWithin (room - 1)) change keeps) vs (items_in (room - 1) vs each) tag)))

-- what has a step after it may be any value
suits_any : (s t : Step) (ts : List Step) → IsStep s (t ∷ ts) → (w : Value) → Suits s w
suits_any (Field n) t ts is w = tt
suits_any (Qualifier n) t ts is w = record { lang = λ e. absurd (not_last (is.lang_last e)); kind = λ e. absurd (not_last (is.type_last e)) }
  where
    not_last : (t ∷ ts) ≡ [] → ⊥
    not_last e = let long = ap length e in omega arith
suits_any (Item i) t ts is w = tt
suits_any (Tag tag) t ts is w = tt

pub place_kept : (ss : List Step) (s : Step) (room : ℕ) (change : Change) (makes : Bool) → IsStep s ss → AreSteps ss → KeepsLast ss room s change → Keeps (Fits room s) (at_place ss change makes)
place_kept [] s room change makes is are h = h
place_kept (t ∷ ts) s room change makes is are h = each (place_kept ts t (room - 1) change makes are.0 are.1 h)
  where
    each : Keeps (Fits (room - 1) t) (at_place ts change makes) → (o : Option Value) → IfSome' (Fits room s) o → IfGiven (IfSome' (Fits room s)) (on_value (stepped (at_place ts change makes) (makes && is_end ts) t) o)
    each keeps None fits = tt
    each keeps (Some v) fits =
        given_map (IsWithin room) (IfSome' (Fits room s)) Some (λ w within. (within, suits_any s t ts is w)) (stepped (at_place ts change makes) (makes && is_end ts) t v)
        (step_kept t ts room (λ e. nothing_within v room e fits.0) v are.0 fits.0 (at_place ts change makes) (makes && is_end ts) keeps)
