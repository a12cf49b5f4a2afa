-- The declarations in force, with an index.
use Rattle.std.specs.Prelude.{◌≡◌, ℕ, List, [], ◌∷◌, map, length, Option, Some, None, if◌then◌else◌}
use Rattle.std.specs.Int.{w64, to_be_bytes}
use Rattle.xml_grammar.specs.Scopes.{Binding, same_prefix}
use Rattle.xmp_xml.specs.declared.places.Places.{Places}
use Rattle.xmp_xml.specs.declared.scopes.Scoped.{Scoped}
use Rattle.xmp_xml.specs.Places.{place_at}
use Rattle.xmp_xml.specs.Numbers.{mark_in}
use Rattle.std.specs.BTreeMap.{BTreeMap}
use Rattle.std.specs.Prelude.{Vec}
use Rattle.std.specs.declared.alloc.Global.{Global}

abbrev pub scope_binding : Scoped → Binding
scope_binding b = record { prefix = b.prefix; space = b.space }

-- what a stack of declarations is to contracts
abbrev pub scope_bindings : List Scoped → List Binding
scope_bindings = map scope_binding

-- the innermost declaration of a prefix
abbrev pub scoped_in : List Scoped → Option (List ℕ) → Option Scoped
scoped_in [] prefix = None
scoped_in (b ∷ bs) prefix = if same_prefix b.prefix prefix then Some b else scoped_in bs prefix

-- where it stands, counted from the outermost
abbrev pub place_in : List Binding → Option (List ℕ) → Option ℕ
place_in [] prefix = None
place_in (b ∷ bs) prefix = if same_prefix b.prefix prefix then Some (length bs) else place_in bs prefix

-- each declaration knows where its prefix is bound farther out
abbrev pub KnowOuter : List Scoped → Type 0
KnowOuter [] = Unit {0}
KnowOuter (b ∷ bs) = (b.outer ≡ place_in (scope_bindings bs) b.prefix) × KnowOuter bs

-- the places are those of the prefixes
pub record IsIndexed (bs : List Scoped) (places : Places) : Type 0 where
  pub found : (prefix : Option (List ℕ)) → place_at places prefix ≡ place_in (scope_bindings bs) prefix
  pub outer : KnowOuter bs

-- each declaration has the mark of its namespace
abbrev pub AreMarked : List Scoped → BTreeMap (Vec ℕ Global) ℕ → Type 0
AreMarked [] numbers = Unit {0}
AreMarked (b ∷ bs) numbers = (mark_in numbers b.space ≡ Some b.mark) × AreMarked bs numbers

-- the mark of no namespace
abbrev pub no_mark : List ℕ
no_mark = to_be_bytes w64 0

abbrev pub mark_or_none : Option Scoped → List ℕ
mark_or_none None = no_mark
mark_or_none (Some b) = b.mark

-- the mark of an attribute's namespace, by its prefix
abbrev pub mark_of : List Scoped → Option (List ℕ) → List ℕ
mark_of bs None = no_mark
mark_of bs (Some prefix) = mark_or_none (scoped_in bs (Some prefix))
