-- That what is changed stays well-formed: lists joined, shortened, and with a member replaced.
use Rattle.std.proofs.Common.{◌≡◌, ◌≤◌, ◌<◌, ◌-◌, ◌++◌, ℕ, List, [], ◌∷◌, length, get_or, set, take, drop, arith, sym, subst, ap, ◌∙◌, ⊎_elim, refl}
use Rattle.std.specs.Prelude.{All, AllPairs, remove}
use Prim.Native.Nat.{suc}
use Rattle.std.proofs.lemmas.Bool.{cases_lt, cases_eq}
use Rattle.std.proofs.lemmas.List.{get_or_default, get_or_append_left, get_or-append_right, get_or-set_same, get_or-set_other, length-append, length-set}
use Rattle.std.proofs.lemmas.List.Elements.{All-cons, All-append, All-set, All-get_or, All-take, All-drop, All-weaker}
use Rattle.std.proofs.lemmas.List.Quantifiers.{all_pairs_remove}
use Rattle.xmp_tree.specs.declared.nested.Member.{Member}
use Rattle.xmp_tree.specs.Wf.{name_of, NamesDiffer, IsOwnSpace, IsWfMember, member_depth, AreWithin, AreFields, AreQualifiers, IsQualifier, AreWellFormed, AreWellFormedQualifiers, lang_name}

-- Two lists, one after the other.
module _ (R : Member → Member → Type 0) (xs ys : List Member) where
  pairs_append : AllPairs R xs → AllPairs R ys →
      ((i j : ℕ) (d : Member) → i < length xs → j < length ys → R (get_or xs i d) (get_or ys j d)) → AllPairs R (xs ++ ys)
  pairs_append front back across i j d lt within =
      let long = length-append xs ys in
      ⊎_elim
      (λ here. subst (λ x. R x (get_or (xs ++ ys) j d)) (sym (get_or_append_left xs ys d i (omega arith)))
      (subst (R (get_or xs i d)) (sym (get_or_append_left xs ys d j here)) (front i j d lt here)))
      (λ past. subst (R (get_or (xs ++ ys) i d)) (sym (get_or-append_right xs ys (length xs) j d refl past))
      (⊎_elim
      (λ early. subst (λ x. R x (get_or ys (j - length xs) d)) (sym (get_or_append_left xs ys d i early))
      (across i (j - length xs) d early (omega arith)))
      (λ late. subst (λ x. R x (get_or ys (j - length xs) d)) (sym (get_or-append_right xs ys (length xs) i d refl late))
      (back (i - length xs) (j - length xs) d (omega arith) (omega arith)))
      (cases_lt i (length xs))))
      (cases_lt j (length xs))

-- no member of the second list has the name of one of the first
abbrev pub AreParted : List Member → List Member → Type 0
AreParted xs ys = (i j : ℕ) (d : Member) → i < length xs → j < length ys → name_of (get_or xs i d) ≡ name_of (get_or ys j d) → ⊥

pub within_append : (room : ℕ) (xs ys : List Member) → AreWithin room xs → AreWithin room ys → AreWithin room (xs ++ ys)
within_append room xs ys a b = record {
  each = All-append IsWfMember xs ys a.each b.each;
  shallow = All-append (λ m. member_depth m ≤ room) xs ys a.shallow b.shallow;
}

pub fields_append : (xs ys : List Member) → AreFields xs → AreFields ys → AreParted xs ys → AreFields (xs ++ ys)
fields_append xs ys a b parted = record {
  apart = pairs_append (λ m n. name_of m ≡ name_of n → ⊥) xs ys a.apart b.apart parted;
  own = All-append (λ m. IsOwnSpace (name_of m).space) xs ys a.own b.own;
}

pub formed_append : (room : ℕ) (xs ys : List Member) → AreWellFormed room xs → AreWellFormed room ys → AreParted xs ys → AreWellFormed room (xs ++ ys)
formed_append room xs ys a b parted =
    record { within = within_append room xs ys a.within b.within; fields = fields_append xs ys a.fields b.fields parted }

-- qualifiers after a first one, which may be `xml:lang`
pub quals_front : (m : Member) (ms : List Member) → IsQualifier m → AreQualifiers ms → AreParted (m ∷ []) ms →
    All (λ n. name_of n ≡ lang_name → ⊥) ms → AreQualifiers (m ∷ ms)
quals_front m ms qualifier old parted none = record {
  apart = pairs_append (λ m n. name_of m ≡ name_of n → ⊥) (m ∷ []) ms (λ i j d lt within. absurd (omega arith)) old.apart parted;
  each = All-cons IsQualifier m ms qualifier old.each;
  lang_first = pairs_append (λ m n. name_of n ≡ lang_name → ⊥) (m ∷ []) ms (λ i j d lt within. absurd (omega arith)) old.lang_first
      (λ i j d lt within. All-get_or (λ n. name_of n ≡ lang_name → ⊥) ms j d within none);
}

-- One member less.
module _ (ms : List Member) (n : ℕ) (here : n < length ms) where
  all_remove : (P : Member → Type 0) → All P ms → All P (remove ms n)
  all_remove P h = All-append P (take n ms) (drop (suc n) ms) (All-take P n ms h) (All-drop P (suc n) ms h)

  pub within_remove : (room : ℕ) → AreWithin room ms → AreWithin room (remove ms n)
  within_remove room h =
      record { each = all_remove IsWfMember h.each; shallow = all_remove (λ m. member_depth m ≤ room) h.shallow }

  pub fields_remove : AreFields ms → AreFields (remove ms n)
  fields_remove h = record {
    apart = all_pairs_remove (λ m n. name_of m ≡ name_of n → ⊥) ms n here h.apart;
    own = all_remove (λ m. IsOwnSpace (name_of m).space) h.own;
  }

  pub quals_remove : AreQualifiers ms → AreQualifiers (remove ms n)
  quals_remove h = record {
    apart = all_pairs_remove (λ m n. name_of m ≡ name_of n → ⊥) ms n here h.apart;
    each = all_remove IsQualifier h.each;
    lang_first = all_pairs_remove (λ m n. name_of n ≡ lang_name → ⊥) ms n here h.lang_first;
  }

  pub formed_remove : (room : ℕ) → AreWellFormed room ms → AreWellFormed room (remove ms n)
  formed_remove room h = record { within = within_remove room h.within; fields = fields_remove h.fields }

  pub formed_quals_remove : (room : ℕ) → AreWellFormedQualifiers room ms → AreWellFormedQualifiers room (remove ms n)
  formed_quals_remove room h = record { within = within_remove room h.within; quals = quals_remove h.quals }

-- Another member of the same name in the place of one.
module _ (ms : List Member) (i : ℕ) (m : Member) (here : i < length ms) (same : name_of m ≡ name_of (get_or ms i m)) where
  names-set : (k : ℕ) (d : Member) → name_of (get_or (set ms i m) k d) ≡ name_of (get_or ms k d)
  names-set k d = ⊎_elim
      (λ at. ap (λ j. name_of (get_or (set ms i m) j d)) at ∙ ap name_of (get_or-set_same ms i m d here) ∙ same ∙
      ap name_of (get_or_default ms i m d here) ∙ ap (λ j. name_of (get_or ms j d)) (sym at))
      (λ other. ap name_of (get_or-set_other ms i k m d other))
      (cases_eq k i)

  apart_set : NamesDiffer ms → NamesDiffer (set ms i m)
  apart_set apart j k d lt within equal = apart j k d lt (subst (λ n. k < n) (length-set ms i m) within) (sym (names-set j d) ∙ equal ∙ names-set k d)

  pub within_set : (room : ℕ) → AreWithin room ms → IsWfMember m → member_depth m ≤ room → AreWithin room (set ms i m)
  within_set room h formed shallow = record {
    each = All-set IsWfMember ms i m formed h.each;
    shallow = All-set (λ n. member_depth n ≤ room) ms i m shallow h.shallow;
  }

  pub fields_set : AreFields ms → AreFields (set ms i m)
  fields_set h = record {
    apart = apart_set h.apart;
    own = All-set (λ n. IsOwnSpace (name_of n).space) ms i m
        (subst (λ n. IsOwnSpace n.space) (sym same) (All-get_or (λ n. IsOwnSpace (name_of n).space) ms i m here h.own)) h.own;
  }

  pub quals_set : AreQualifiers ms → IsQualifier m → AreQualifiers (set ms i m)
  quals_set h qualifier = record {
    apart = apart_set h.apart;
    each = All-set IsQualifier ms i m qualifier h.each;
    lang_first = λ j k d lt within is_lang. h.lang_first j k d lt (subst (λ n. k < n) (length-set ms i m) within) (sym (names-set k d) ∙ is_lang);
  }

  pub formed_set : (room : ℕ) → AreWellFormed room ms → IsWfMember m → member_depth m ≤ room → AreWellFormed room (set ms i m)
  formed_set room h formed shallow =
      record { within = within_set room h.within formed shallow; fields = fields_set h.fields }

  pub formed_quals_set : (room : ℕ) → AreWellFormedQualifiers room ms → IsWfMember m → member_depth m ≤ room → IsQualifier m → AreWellFormedQualifiers room (set ms i m)
  formed_quals_set room h formed shallow qualifier =
      record { within = within_set room h.within formed shallow; quals = quals_set h.quals qualifier }

-- what fits in some room fits in more
pub within_wider : (ms : List Member) (room more : ℕ) → room ≤ more → AreWithin room ms → AreWithin more ms
within_wider ms room more le h = record {
  each = h.each;
  shallow = All-weaker (λ m. member_depth m ≤ room) (λ m. member_depth m ≤ more) (λ m shallow. omega arith) ms h.shallow;
}
