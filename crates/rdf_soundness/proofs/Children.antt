-- The child elements of a property, item or node that breaks no rule, by what is known of values with one level less.
use Rattle.std.proofs.Common.{◌≡◌, ℕ, zero, suc, ◌≤◌, ◌+◌, ◌-◌, ◌*◌, Bool, true, false, ◌&&◌, ◌⊎◌, inl, inr, ⊎_elim, List, [], get_or, refl, sym, subst, arith, IsTrue}
use Rattle.std.specs.Prelude.{All, codes}
use Rattle.std.proofs.lemmas.Bool.{and_cases, both_ways, cases_Bool, cond-true, cond-false}
use Rattle.std.proofs.lemmas.List.Elements.{All-map}
use Rattle.std.proofs.lemmas.List.Folds.{list_any_at}
use Rattle.xml_grammar.specs.declared.elements.Element.{Element}
use Rattle.xml_grammar.specs.Sound.{IsSound}
use Rattle.rdf_forms.specs.declared.roles.Role.{Role}
use Rattle.rdf_forms.specs.declared.roles.Role.TheVariants as roles
use Rattle.rdf_forms.specs.declared.roles.Holder.TheVariants as holders
use Rattle.rdf_forms.specs.Words.{is_rdf, is_lang}
use Rattle.rdf_forms.specs.Parts.{name_of, elements_of, elements_named, has_attribute, has_element}
use Rattle.rdf_forms.specs.Visits.{visit, member_depth, member_visits, item_visits, property_visits, form_visits}
use Rattle.rdf_forms.specs.Forms.{form_of}
use Rattle.rdf_forms.specs.FormRules.{is_property_or_item, is_value_element}
use Rattle.rdf_forms.specs.MemberRules.{has_lang_value}
use Rattle.rdf_forms.specs.Values.{lang_qualifiers, element_member, value_within}
use Rattle.rdf_soundness.specs.Formed.{Enough, Formed}
use Rattle.rdf_soundness.proofs.Unbroken.{IsUnbroken, IsFaultless, faultless_cons, faultless_each}
use Rattle.rdf_soundness.proofs.Elements.{sound_elements}
use Rattle.rdf_soundness.proofs.Lists.{none_pass, from_filter}
use Rattle.rdf_soundness.proofs.Attributes.{lang_none}
use Rattle.rdf_soundness.proofs.Composed.{IsMember}
use Rattle.rdf_soundness.proofs.Members.{IsChild, child_member}
use Rattle.rdf_soundness.proofs.MemberNames.{element_members}

-- the law at some levels
abbrev pub FormedAt : ℕ → Type 0
FormedAt levels =
    (depth : ℕ) (role : Role) (e : Element) → IsTrue (is_property_or_item role) → IsSound e → depth ≤ 25 → Enough levels depth e
    → IsFaultless (property_visits levels role depth e) → Formed depth e (value_within levels e)

-- ---- levels

some_levels : (levels depth : ℕ) (e : Element) → depth ≤ 25 → Enough levels depth e → 1 ≤ levels
some_levels levels depth e near enough = let inner = enough.inner in omega (arith, inner, near)

pub first_unbroken : (levels : ℕ) (role : Role) (depth : ℕ) (e : Element) → 1 ≤ levels → IsFaultless (property_visits levels role depth e)
    → IsUnbroken role depth e [] []
first_unbroken zero role depth e some h = absurd (omega (arith, some))
first_unbroken (suc levels) role depth e some h =
    (faultless_cons (visit role depth e) (form_visits (property_visits levels) depth e (form_of e)) h).0

pub enough_inside : (levels depth : ℕ) (e c : Element) → depth ≤ 24 → Enough (suc levels) depth e → Enough levels (depth + 1) c
enough_inside levels depth e c reached enough =
    let inner : 2 * (26 - depth) ≤ suc levels + 1 = enough.inner in
    record { inner = omega (arith, inner, reached); outer = λ off. omega (arith, inner, reached) }

enough_value : (levels depth : ℕ) (e c : Element) → Enough (suc levels) depth e → is_value_element e ≡ false → is_value_element c ≡ true → Enough levels depth c
enough_value levels depth e c enough off is =
    let outer : 2 * (26 - depth) ≤ suc levels = enough.outer off in
    record { inner = omega (arith, outer); outer = λ other. absurd (both_ways (is_value_element c) other is) }

-- a member `rdf:value` is held by an element with another name
abbrev IsHeldElse : Element → Element → Type 0
IsHeldElse e c = is_value_element c ≡ true → is_value_element e ≡ false

-- the depth of a member, with levels enough for it
record IsNear (levels depth : ℕ) (c : Element) : Type 0 where
  near : member_depth depth c ≤ 25
  enough : Enough levels (member_depth depth c) c

near_member : (levels depth : ℕ) (e c : Element) → depth ≤ 24 → Enough (suc levels) depth e → IsHeldElse e c → IsNear levels depth c
unfolding member_depth
near_member levels depth e c reached enough held = by (cases_Bool (is_value_element c))
  where
    by : (is_value_element c ≡ true) ⊎ (is_value_element c ≡ false) → IsNear levels depth c
    by (inl is) =
        let at : member_depth depth c ≡ depth = cond-true (is_value_element c) depth (depth + 1) is in
        record {
          near = subst (λ (d : ℕ). d ≤ 25) (sym at) (omega (arith, reached));
          enough = subst (λ (d : ℕ). Enough levels d c) (sym at) (enough_value levels depth e c enough (held is) is);
        }
    by (inr off) =
        let at : member_depth depth c ≡ depth + 1 = cond-false (is_value_element c) depth (depth + 1) off in
        record {
          near = subst (λ (d : ℕ). d ≤ 25) (sym at) (omega (arith, reached));
          enough = subst (λ (d : ℕ). Enough levels d c) (sym at) (enough_inside levels depth e c reached enough);
        }

-- ---- members

module _ (levels : ℕ) (law : FormedAt levels) (depth : ℕ) (e : Element) (reached : depth ≤ 24) (enough : Enough (suc levels) depth e) where
  one_child : (with_value : Bool) (c : Element) → IsSound c → IsNear levels depth c
      → IsFaultless (property_visits levels (roles.Property (holders.Value with_value)) (member_depth depth c) c)
      → IsChild depth with_value (value_within levels) c
  one_child with_value c sound at h =
      let role : Role = roles.Property (holders.Value with_value) in
      record {
        sound = sound;
        unbroken = first_unbroken levels role (member_depth depth c) c (some_levels levels (member_depth depth c) c at.near at.enough) h;
        formed = law (member_depth depth c) role c refl sound at.near at.enough h;
      }

  -- the child elements of e, or of its node, as members
  pub children_are_members : (with_value : Bool) (x : Element) → IsSound e → IsSound x
      → (is_value_element e && has_element (is_rdf (codes "value")) x) ≡ false → (has_attribute is_lang e && has_lang_value x) ≡ false
      → IsFaultless (member_visits (property_visits levels) (holders.Value with_value) depth (elements_of x))
      → All (IsMember (24 - depth) with_value (lang_qualifiers e)) (element_members (value_within levels) x)
  children_are_members with_value x sound_e sound held once h =
      All-map (IsMember (24 - depth) with_value (lang_qualifiers e)) (element_member (value_within levels)) (elements_of x) (λ k d lt.
      let c : Element = get_or (elements_of x) k d in
      let sound_c : IsSound c = sound_elements x sound k d lt in
      let else : IsHeldElse e c = λ is. not_value (list_any_at (λ c. is_rdf (codes "value") (name_of c)) (elements_of x) k d lt is) in
      child_member depth reached with_value (value_within levels) (lang_qualifiers e) c
      (one_child with_value c sound_c (near_member levels depth e c reached enough else)
      (faultless_each (λ c. property_visits levels (roles.Property (holders.Value with_value)) (member_depth depth c) c) (elements_of x) h k d lt))
      (λ is. langs c sound_c (λ tagged. from_filter (λ c. is_rdf (codes "value") (name_of c)) (λ c. has_attribute is_lang c ≡ false) (elements_of x)
      (none_pass (has_attribute is_lang) (elements_named (is_rdf (codes "value")) x) tagged) k d lt is)))
    where
      not_value : has_element (is_rdf (codes "value")) x ≡ true → is_value_element e ≡ false
      not_value has = ⊎_elim (λ off. off) (λ none. absurd (both_ways (has_element (is_rdf (codes "value")) x) none has))
          (and_cases (is_value_element e) (has_element (is_rdf (codes "value")) x) held)

      langs : (c : Element) → IsSound c → (has_lang_value x ≡ false → has_attribute is_lang c ≡ false) → (lang_qualifiers e ≡ []) ⊎ (lang_qualifiers c ≡ [])
      langs c sound_c tells =
          ⊎_elim (λ none. inl (lang_none e sound_e none)) (λ none. inr (lang_none c sound_c (tells none)))
          (and_cases (has_attribute is_lang e) (has_lang_value x) once)

  -- the items of a container
  pub items_formed : (es : List Element) → All IsSound es → IsFaultless (item_visits (property_visits levels) depth es)
      → All (λ c. Formed (depth + 1) c (value_within levels c)) es
  items_formed es sound h k d lt =
      let c : Element = get_or es k d in
      law (depth + 1) roles.Item c refl (sound k d lt) (omega (arith, reached)) (enough_inside levels depth e c reached enough)
      (faultless_each (λ c. property_visits levels roles.Item (depth + 1) c) es h k d lt)
