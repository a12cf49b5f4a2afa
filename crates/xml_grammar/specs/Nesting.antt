-- Which piece may stand where: the elements that are open, the namespaces that are in force, and the rules on whole pieces.
use Rattle.std.specs.Prelude.{Bool, true, false, not, ◌&&◌, ◌||◌, nat_le, List, [], ◌∷◌, ◌++◌, length, Option, Some, codes}
use Rattle.std.specs.List.{list_any, find}
use Rattle.std.specs.Str.{str_eq_ignore_ascii_case}
use Rattle.xmp_values.specs.Characters.{is_blank}
use Rattle.xmp_values.specs.declared.rules.Rule.{Rule}
use Rattle.xmp_values.specs.declared.rules.Rule.TheVariants.{Encoding, OutsideRoot, Mismatch, BadNamespace, UnboundPrefix, TwiceAttribute, TooDeep}
use Rattle.xml_grammar.specs.declared.elements.Attribute.{Attribute}
use Rattle.xml_grammar.specs.declared.tags.QName.{QName}
use Rattle.xml_grammar.specs.declared.tags.RawAttribute.{RawAttribute}
use Rattle.xml_grammar.specs.declared.tags.Tag.{Tag}
use Rattle.xml_grammar.specs.declared.tokens.Mode.{Mode}
use Rattle.xml_grammar.specs.declared.tokens.Mode.TheVariants as modes
use Rattle.xml_grammar.specs.Pieces.{Piece, Declaration, Instruction, Comment, Cdata, Start, End, Reference, LineEnd, Character}
use Rattle.xmp_values.specs.Names.{same_name}
use Rattle.xml_grammar.specs.Scopes.{Binding, predeclared, bindings_of, plain_attributes, is_unbound, is_misbound, expanded_attributes, same_qname}

-- an open element: its name as the tag spells it, and the declarations in force in it, the innermost first
pub record Level : Type 0 where
  pub name : QName
  pub bound : List Binding

-- whether nothing was read yet, the open elements, the innermost first, and whether the root has begun
pub record Nest : Type 0 where
  pub first : Bool
  pub levels : List Level
  pub rooted : Bool

abbrev pub start : Nest
start = record { first = true; levels = []; rooted = false }

abbrev pub is_outside : List Level → Bool
is_outside [] = true
is_outside (l ∷ ls) = false

-- at the text's start, where an XML declaration may stand, outside the root, or inside an element
abbrev pub mode_in : Bool → List Level → Mode
mode_in true [] = modes.Start
mode_in false [] = modes.Outside
mode_in first (l ∷ ls) = modes.Inside

abbrev pub mode_of : Nest → Mode
mode_of s = mode_in s.first s.levels

-- the declarations in force
abbrev pub bound_in : List Level → List Binding
bound_in [] = predeclared
bound_in (l ∷ ls) = l.bound

-- the declarations in force for a tag and inside its element
abbrev pub bound_at : Nest → Tag → List Binding
bound_at s tag = bindings_of tag.attributes ++ bound_in s.levels

abbrev pub outer : List Level → List Level
outer [] = []
outer (l ∷ ls) = ls

abbrev pub opened : Bool → Level → List Level → List Level
opened true level levels = levels
opened false level levels = level ∷ levels

-- the nest after a piece
abbrev pub enter : Nest → Piece → Nest
enter s (Start tag) = record { first = false; levels = opened tag.empty (record { name = tag.name; bound = bound_at s tag }) s.levels; rooted = true }
enter s (End name) = record { first = false; levels = outer s.levels; rooted = s.rooted }
enter s piece = record { first = false; levels = s.levels; rooted = s.rooted }

-- an XML declaration that names another encoding than UTF-8, in any case; the profile reads no other (section 4.3.3)
abbrev pub is_foreign : Piece → Bool
is_foreign (Declaration (Some encoding)) = not (str_eq_ignore_ascii_case encoding (codes "utf-8"))
is_foreign piece = false

-- may it stand outside the root: production 1, document, with 22, prolog, and 27, Misc
abbrev pub is_allowed_outside : Bool → Piece → Bool
is_allowed_outside rooted (Declaration encoding) = true
is_allowed_outside rooted Instruction = true
is_allowed_outside rooted Comment = true
is_allowed_outside rooted (Cdata text) = false
is_allowed_outside rooted (Start tag) = not rooted
is_allowed_outside rooted (End name) = false
is_allowed_outside rooted (Reference c) = false
is_allowed_outside rooted LineEnd = true
is_allowed_outside rooted (Character c) = is_blank c

-- an end tag whose name is spelled otherwise than that of the innermost open element (section 3, element type match)
abbrev pub ends_other : List Level → Piece → Bool
ends_other (level ∷ levels) (End name) = not (same_qname level.name name)
ends_other levels piece = false

-- a tag with a declaration that isn't allowed (Namespaces in XML 1.0, sections 3 and 5, the namespace constraints)
abbrev pub misbinds : Piece → Bool
misbinds (Start tag) = list_any is_misbound (bindings_of tag.attributes)
misbinds piece = false

-- a prefix of the tag's name or of an attribute that isn't bound (Namespaces in XML 1.0, section 5, prefix declared)
abbrev pub has_unbound : List Binding → Tag → Bool
has_unbound bound tag = is_unbound bound tag.name.prefix || list_any (λ (a : RawAttribute). is_unbound bound a.name.prefix) (plain_attributes tag.attributes)

abbrev pub unbinds : Nest → Piece → Bool
unbinds s (Start tag) = has_unbound (bound_at s tag) tag
unbinds s piece = false

-- some two of a list are the same
abbrev pub has_twice : {A : Type 0} → (A → A → Bool) → List A → Bool
has_twice same [] = false
has_twice same (x ∷ xs) = list_any (same x) xs || has_twice same xs

-- two attributes that are spelled the same (section 3.1, unique attributes), or have the same namespace and local part
-- (Namespaces in XML 1.0, section 6.3)
abbrev pub repeats : Nest → Piece → Bool
repeats s (Start tag) =
    has_twice (λ (a b : RawAttribute). same_qname a.name b.name) tag.attributes
    || has_twice (λ (a b : Attribute). same_name a.name b.name) (expanded_attributes (bound_at s tag) tag.attributes)
repeats s piece = false

-- a tag whose element would be at depth 101, which is a limit of this profile
abbrev pub is_too_deep : Nest → Piece → Bool
is_too_deep s (Start tag) = nat_le 100 (length s.levels)
is_too_deep s piece = false

-- whether a whole piece breaks a rule where it stands, each rule by itself; the other rules aren't on whole pieces
abbrev pub breaks : Nest → Piece → Rule → Bool
breaks s piece Encoding = is_foreign piece
breaks s piece OutsideRoot = is_outside s.levels && not (is_allowed_outside s.rooted piece)
breaks s piece Mismatch = ends_other s.levels piece
breaks s piece BadNamespace = misbinds piece
breaks s piece UnboundPrefix = unbinds s piece
breaks s piece TwiceAttribute = repeats s piece
breaks s piece TooDeep = is_too_deep s piece
breaks s piece r = false

-- the rules on whole pieces, in the order of their numbers
abbrev pub piece_rules : List Rule
piece_rules = Encoding ∷ OutsideRoot ∷ Mismatch ∷ BadNamespace ∷ UnboundPrefix ∷ TwiceAttribute ∷ TooDeep ∷ []

-- the first of them that a piece breaks
unfoldable pub broken : Nest → Piece → Option Rule
broken s piece = find (breaks s piece) piece_rules
