-- Qualifiers: `xml:lang`, a node's type, and the others after them.
use Rattle.std.proofs.Common.{◌≡◌, ℕ, suc, zero, ◌≤◌, ◌+◌, ◌⊎◌, inl, inr, List, [], ◌∷◌, ◌++◌, ap, sym, subst, ◌∙◌, append-nil, arith}
use Rattle.std.specs.Prelude.{All}
use Rattle.std.proofs.lemmas.List.Elements.{All-nil, All-cons, All-get_or, All-weaker}
use Rattle.xmp_values.specs.Characters.{IsCharText}
use Rattle.xmp_tree.specs.declared.nested.Member.{Member}
use Rattle.xmp_tree.specs.declared.nested.Value.{Value, out-Value, out-roll-Value}
use Rattle.xmp_tree.specs.declared.nested.Shape.{Shape, Uri}
use Rattle.xmp_tree.specs.Parts.{member, value}
use Rattle.xmp_tree.specs.Wf.{name_of, lang_name, type_name, IsWfValue, IsWfShape, IsWfMember, value_depth, shape_depth, member_depth, IsPlain, IsPlainUri, IsQualifier, AreWellFormedQualifiers}
use Rattle.xmp_tree.proofs.KnownNames.{lang_not_type}
use Rattle.xmp_tree.proofs.Made.{name-member, value-member, formed_member, depth-member, formed_value, depth-value, formed_simple, depth-simple, formed_uri, depth-uri, plain_simple, plain_uri, named_lang, named_type, lang_qualifier, type_qualifier, formed_quals_none}
use Rattle.xmp_tree.proofs.Changed.{AreParted, quals_front}
use Rattle.rdf_forms.specs.Values.{plain, lang_member}

-- ---- a value that fits in some room and itself

pub record IsFit (room : ℕ) (v : Value) : Type 0 where
  pub formed : IsWfValue v
  pub shallow : value_depth v ≤ room + 1

pub fit_value : (room : ℕ) (s : Shape) (q : List Member) → IsWfShape s → shape_depth s ≤ room → AreWellFormedQualifiers room q → IsFit room (value s q)
fit_value room s q formed shallow quals =
    record { formed = formed_value s q formed quals.within.each quals.quals; shallow = depth-value room s q shallow quals.within.shallow }

pub quals-value : (s : Shape) (q : List Member) → (out-Value (value s q)).quals ≡ q
quals-value s q = ap (λ v. v.quals) (out-roll-Value record { shape = s; quals = q })

-- ---- one qualifier in front of others

abbrev pub IsNoLang : Member → Type 0
IsNoLang m = name_of m ≡ lang_name → ⊥

abbrev pub IsNoType : Member → Type 0
IsNoType m = name_of m ≡ type_name → ⊥

parted_one : (m : Member) (ms : List Member) → All (λ n. name_of n ≡ name_of m → ⊥) ms → AreParted (m ∷ []) ms
parted_one m ms h zero j d lt within same = All-get_or (λ n. name_of n ≡ name_of m → ⊥) ms j d within h (sym same)
parted_one m ms h (suc i) j d lt within same = absurd (omega arith)

in_front : (room : ℕ) (m : Member) (ms : List Member) → IsWfMember m → member_depth m ≤ room → IsQualifier m
    → All (λ n. name_of n ≡ name_of m → ⊥) ms → All IsNoLang ms → AreWellFormedQualifiers room ms → AreWellFormedQualifiers room (m ∷ ms)
in_front room m ms formed shallow qualifier other none h = record {
  within = record {
    each = All-cons IsWfMember m ms formed h.within.each;
    shallow = All-cons (λ n. member_depth n ≤ room) m ms shallow h.within.shallow;
  };
  quals = quals_front m ms qualifier h.quals (parted_one m ms other) none;
}

-- ---- `xml:lang`

abbrev pub IsTag : ℕ → List Member → Type 0
IsTag room ms = (ms ≡ []) ⊎ ((tag : List ℕ) × (ms ≡ lang_member tag ∷ []) × IsCharText tag × (1 ≤ room))

tag_front : (room : ℕ) (tag : List ℕ) (rest : List Member) → IsCharText tag → 1 ≤ room → All IsNoLang rest
    → AreWellFormedQualifiers room rest → AreWellFormedQualifiers room (lang_member tag ∷ rest)
tag_front room tag rest chars some none h =
    let name = name-member lang_name (plain tag) in
    in_front room (lang_member tag) rest (formed_member lang_name (plain tag) named_lang (formed_simple tag chars))
    (omega (arith, depth-member lang_name (plain tag), depth-simple tag))
    (lang_qualifier (lang_member tag) name (subst IsPlain (sym (value-member lang_name (plain tag))) (plain_simple tag)))
    (All-weaker IsNoLang (λ n. name_of n ≡ name_of (lang_member tag) → ⊥) (λ n no same. no (same ∙ name)) rest none) none h

pub tagged : (room : ℕ) (lang rest : List Member) → IsTag room lang → All IsNoLang rest → AreWellFormedQualifiers room rest
    → AreWellFormedQualifiers room (lang ++ rest)
tagged room lang rest (inl is) none h = subst (λ q. AreWellFormedQualifiers room (q ++ rest)) (sym is) h
tagged room lang rest (inr (tag, is, chars, some)) none h =
    subst (λ q. AreWellFormedQualifiers room (q ++ rest)) (sym is) (tag_front room tag rest chars some none h)

pub tagged_alone : (room : ℕ) (lang : List Member) → IsTag room lang → AreWellFormedQualifiers room lang
tagged_alone room lang tag = subst (AreWellFormedQualifiers room) (append-nil lang) (tagged room lang [] tag (All-nil IsNoLang) (formed_quals_none room))

-- ---- the type of a node

abbrev pub type_member : List ℕ → Member
type_member text = member type_name (value (Uri text) [])

abbrev pub IsTyping : ℕ → List Member → Type 0
IsTyping room ms = (ms ≡ []) ⊎ ((text : List ℕ) × (ms ≡ type_member text ∷ []) × IsCharText text × (1 ≤ room))

-- qualifiers among which `xml:lang` is none
pub record AreTaglessQualifiers (room : ℕ) (ms : List Member) : Type 0 where
  pub formed : AreWellFormedQualifiers room ms
  pub none : All IsNoLang ms

type_front : (room : ℕ) (text : List ℕ) (rest : List Member) → IsCharText text → 1 ≤ room → All IsNoType rest
    → AreTaglessQualifiers room rest → AreTaglessQualifiers room (type_member text ∷ rest)
type_front room text rest chars some none h =
    let name = name-member type_name (value (Uri text) []) in
    record {
      formed = in_front room (type_member text) rest (formed_member type_name (value (Uri text) []) named_type (formed_uri text chars))
          (omega (arith, depth-member type_name (value (Uri text) []), depth-uri text))
          (type_qualifier (type_member text) name (subst IsPlainUri (sym (value-member type_name (value (Uri text) []))) (plain_uri text)))
          (All-weaker IsNoType (λ n. name_of n ≡ name_of (type_member text) → ⊥) (λ n no same. no (same ∙ name)) rest none) h.none h.formed;
      none = All-cons IsNoLang (type_member text) rest (λ same. lang_not_type (name_of (type_member text)) same name) h.none;
    }

pub typed : (room : ℕ) (types rest : List Member) → IsTyping room types → (types ≡ []) ⊎ All IsNoType rest
    → AreTaglessQualifiers room rest → AreTaglessQualifiers room (types ++ rest)
typed room types rest (inl is) once h = subst (λ q. AreTaglessQualifiers room (q ++ rest)) (sym is) h
typed room types rest (inr (text, is, chars, some)) (inl none) h = subst (λ q. AreTaglessQualifiers room (q ++ rest)) (sym none) h
typed room types rest (inr (text, is, chars, some)) (inr none) h =
    subst (λ q. AreTaglessQualifiers room (q ++ rest)) (sym is) (type_front room text rest chars some none h)

pub tagless_none : (room : ℕ) → AreTaglessQualifiers room []
tagless_none room = record { formed = formed_quals_none room; none = All-nil IsNoLang }
