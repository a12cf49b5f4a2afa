-- What the spelling of a text asks of the prefixes that it declares and of the members that it writes.
use Rattle.std.specs.Prelude.{◌≡◌, ◌⊎◌, ℕ, ◌≤◌, false, All, codes, List, [], ◌∷◌, Some, None}
use Rattle.std.specs.Str.{bytes_eq}
use Rattle.xmp_values.specs.Characters.{IsCharText, IsName}
use Rattle.xmp_values.specs.Spaces.{meta_space}
use Rattle.xmp_values.specs.declared.hints.Hint.{Hint}
use Rattle.xmp_values.specs.declared.text.Name.{Name}
use Rattle.known_prefixes.specs.Prefixes.{fixed_prefix}
use Rattle.xml_grammar.specs.Scopes.{Binding, is_misbound}
use Rattle.xmp_tree.specs.declared.nested.Member.{Member}
use Rattle.xmp_tree.specs.Wf.{IsWfMember, member_depth, lang_name, type_name}
use Rattle.xmp_write.specs.Prefixes.{prefix_in}
use Rattle.round_trip.proofs.Naming.{MemberNames}

abbrev pub bound_by : Hint → Binding
bound_by h = record { prefix = Some h.prefix; space = h.space }

-- a namespace and its prefix, as they may be declared
pub record IsDeclarable (h : Hint) : Type 0 where
  pub named : IsName h.prefix
  pub chars : IsCharText h.space
  pub allowed : is_misbound (bound_by h) ≡ false
  pub not_rdf : bytes_eq h.prefix (codes "rdf") ≡ false
  pub not_xml : bytes_eq h.prefix (codes "xml") ≡ false
  pub not_x : bytes_eq h.prefix (codes "x") ≡ false

-- declarations whose prefixes differ
abbrev pub AreDeclarable : List Hint → Type 0
AreDeclarable [] = Unit {0}
AreDeclarable (h ∷ hs) = IsDeclarable h × All (λ g. bytes_eq h.prefix g.prefix ≡ false) hs × AreDeclarable hs

-- a name that can be written with these prefixes
abbrev pub IsWritable : List Hint → Name → Type 0
IsWritable ps name =
    IsName name.local
    × ((name ≡ lang_name) ⊎ ((name ≡ type_name) ⊎ ((name.space ≡ meta_space) ⊎ ((prefix : List ℕ) × (fixed_prefix name.space ≡ None) × (prefix_in ps name.space ≡ Some prefix)))))

-- what a property keeps
pub record IsProperty (ps : List Hint) (m : Member) : Type 0 where
  pub names : MemberNames (IsWritable ps) m
  pub formed : IsWfMember m
  pub shallow : member_depth m ≤ 24
