-- The members that are written keep what the law of a packet asks: their names have prefixes.
use Rattle.std.proofs.Common.{◌≡◌, ◌≢◌, ℕ, ◌≤◌, Bool, true, false, ◌⊎◌, inl, inr, List, [], ◌∷◌, ◌++◌, get_or, Some, None, refl, subst}
use Rattle.std.specs.Prelude.{All}
use Rattle.std.specs.List.{flat_map}
use Rattle.std.specs.Str.{bytes_eq}
use Rattle.std.proofs.lemmas.List.Elements.{All-nil, All-cons, All-head, All-tail}
use Rattle.xmp_values.specs.Characters.{IsName}
use Rattle.xmp_values.specs.Spaces.{rdf_space, xml_space, meta_space}
use Rattle.xmp_values.specs.declared.hints.Hint.{Hint}
use Rattle.xmp_values.specs.declared.text.Name.{Name}
use Rattle.known_prefixes.specs.Prefixes.{is_fixed, fixed_prefix}
use Rattle.xml_grammar.proofs.SoundPieces.{same_bytes}
use Rattle.xmp_tree.specs.declared.nested.Value.{Value, Value', Row_of-Member, end_of-Member, more_of-Member, items-the_row-Member}
use Rattle.xmp_tree.specs.declared.nested.Member.{Member, Member'}
use Rattle.xmp_tree.specs.declared.nested.Shape.{Shape, Simple, Uri, Struct', Array', Row_of-Value, end_of-Value, more_of-Value}
use Rattle.xmp_tree.specs.Wf.{name_of, IsOwnSpace, IsQualifier, IsWfValue, IsWfShape, IsWfMember, AreWfMembers, AreWfValues, member_depth, lang_name, type_name}
use Rattle.xmp_write.specs.Written.{value_spaces, shape_spaces, member_spaces, members_spaces, items_spaces}
use Rattle.xmp_write.specs.Prefixes.{prefix_in}
use Rattle.xmp_write.specs.PrefixLaws.{AreBound}
use Rattle.rdf_forms.specs.Words.{same_name}
use Rattle.rdf_soundness.proofs.Words.{same_name_is}
use Rattle.round_trip.proofs.Naming.{HasNames, ShapeNames, MemberNames, MembersNames, ItemsNames}
use Rattle.round_trip.proofs.Premises.{IsWritable, IsProperty}
use Rattle.round_trip.proofs.Declarable.{bytes_differ}
use Rattle.round_trip.proofs.Values.{name_row}

-- a namespace is fixed or has a prefix
abbrev pub IsBound : List Hint → List ℕ → Type 0
IsBound ps space = is_fixed space ≡ false → (prefix : List ℕ) × (prefix_in ps space ≡ Some prefix)

-- the two parts of a list
pub all_parts : {X : Type 0} (P : X → Type 0) (xs ys : List X) → All P (xs ++ ys) → All P xs × All P ys
all_parts P [] ys h = (All-nil P, h)
all_parts P (x ∷ xs) ys h = let rest = all_parts P xs ys (All-tail P x (xs ++ ys) h) in (All-cons P x xs (All-head P x (xs ++ ys) h) rest.0, rest.1)

-- names that a qualifier may have
abbrev pub MayQualify : Name → Type 0
MayQualify name = (name ≡ lang_name) ⊎ ((name ≡ type_name) ⊎ IsOwnSpace name.space)

qualifier_name : (m : Member) → IsQualifier m → MayQualify (name_of m)
qualifier_name m q = by (same_name (name_of m) lang_name) (same_name (name_of m) type_name) refl refl
  where
    apart : (n : Name) → same_name (name_of m) n ≡ false → name_of m ≢ n
    apart n is same = let yes = (same_name_is (name_of m) n).1 same in absurd cc

    by : (b c : Bool) → same_name (name_of m) lang_name ≡ b → same_name (name_of m) type_name ≡ c → MayQualify (name_of m)
    by true c is that = inl ((same_name_is (name_of m) lang_name).0 is)
    by false true is that = inr (inl ((same_name_is (name_of m) type_name).0 that))
    by false false is that = inr (inr (q.own (apart lang_name is) (apart type_name that)))

module _ (ps : List Hint) where
  pub own_writable : (name : Name) → IsName name.local → IsOwnSpace name.space → IsBound ps name.space → IsWritable ps name
  own_writable name local own bound = (local, by (bytes_eq name.space meta_space) refl)
    where
      by : (b : Bool) → bytes_eq name.space meta_space ≡ b
          → (name ≡ lang_name) ⊎ ((name ≡ type_name) ⊎ ((name.space ≡ meta_space) ⊎ ((prefix : List ℕ) × (fixed_prefix name.space ≡ None) × (prefix_in ps name.space ≡ Some prefix))))
      by true is = inr (inr (inl (same_bytes name.space meta_space is)))
      by false is =
          let rdf = bytes_differ name.space rdf_space own.not_rdf in
          let xml = bytes_differ name.space xml_space own.not_xml in
          let found = bound (rw (rdf, xml, is) refl) in
          inr (inr (inr (found.0, rw (rdf, xml, is) refl, found.1)))

  name_writable : (name : Name) → IsName name.local → MayQualify name → IsBound ps name.space → IsWritable ps name
  name_writable name local (inl is) bound = (local, inl is)
  name_writable name local (inr (inl is)) bound = (local, inr (inl is))
  name_writable name local (inr (inr own)) bound = own_writable name local own bound

  mutual
    value_names : (v : Value) → IsWfValue v → AreBound ps (value_spaces v) → HasNames (IsWritable ps) v
    value_names (Value' shape n quals) wf bound =
        let parts = all_parts (IsBound ps) (shape_spaces shape) (members_spaces quals) bound in (
          shape_names shape wf.0 parts.0,
          members_names quals wf.1.0 (λ k d within. qualifier_name (get_or (items-the_row-Member _ quals) k d) (wf.1.1.each k d within)) parts.1,
        )

    shape_names : (shape : Shape) → IsWfShape shape → AreBound ps (shape_spaces shape) → ShapeNames (IsWritable ps) shape
    shape_names (Simple text) wf bound = tt
    shape_names (Uri text) wf bound = tt
    shape_names (Struct' n fields) wf bound = members_names fields wf.0 (λ k d within. inr (inr (wf.1.own k d within))) bound
    shape_names (Array' kind n items) wf bound = items_names items wf bound

    pub member_names : (m : Member) → IsWfMember m → MayQualify (name_of m) → AreBound ps (member_spaces m) → MemberNames (IsWritable ps) m
    member_names (Member' name value) wf may bound = (
      name_writable name wf.0.local (subst MayQualify (name_row name value) may) (All-head (IsBound ps) name.space (value_spaces value) bound),
      value_names value wf.1 (All-tail (IsBound ps) name.space (value_spaces value) bound),
    )

    members_names : {n : _} (row : Row_of-Member n) → AreWfMembers row → All (λ m. MayQualify (name_of m)) (items-the_row-Member n row) → AreBound ps (members_spaces row)
        → MembersNames (IsWritable ps) row
    members_names end_of-Member wf may bound = tt
    members_names (more_of-Member m rest) wf may bound =
        let parts = all_parts (IsBound ps) (member_spaces m) (members_spaces rest) bound in (
          member_names m wf.0 (All-head (λ m. MayQualify (name_of m)) m _ may) parts.0,
          members_names rest wf.1 (All-tail (λ m. MayQualify (name_of m)) m _ may) parts.1,
        )

    items_names : {n : _} (row : Row_of-Value n) → AreWfValues row → AreBound ps (items_spaces row) → ItemsNames (IsWritable ps) row
    items_names end_of-Value wf bound = tt
    items_names (more_of-Value item rest) wf bound =
        let parts = all_parts (IsBound ps) (value_spaces item) (items_spaces rest) bound in (value_names item wf.0 parts.0, items_names rest wf.1 parts.1)

  -- members each of which is well-formed, in a namespace of its own, and shallow
  pub are_properties : (ms : List Member) → All IsWfMember ms → All (λ m. IsOwnSpace (name_of m).space) ms → All (λ m. member_depth m ≤ 24) ms
      → AreBound ps (flat_map member_spaces ms) → All (IsProperty ps) ms
  are_properties [] wf own shallow bound = All-nil (IsProperty ps)
  are_properties (m ∷ ms) wf own shallow bound =
      let parts = all_parts (IsBound ps) (member_spaces m) (flat_map member_spaces ms) bound in
      All-cons (IsProperty ps) m ms
      (record {
        names = member_names m (All-head IsWfMember m ms wf) (inr (inr (All-head (λ m. IsOwnSpace (name_of m).space) m ms own))) parts.0;
        formed = All-head IsWfMember m ms wf;
        shallow = All-head (λ m. member_depth m ≤ 24) m ms shallow;
      })
      (are_properties ms (All-tail IsWfMember m ms wf) (All-tail (λ m. IsOwnSpace (name_of m).space) m ms own) (All-tail (λ m. member_depth m ≤ 24) m ms shallow) parts.1)
