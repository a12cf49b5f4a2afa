-- Where prefixes are bound, after a change.
use Rattle.std.proofs.Common.{◌≡◌, ℕ, List, [], Option, Some, None, refl}
use Rattle.std.specs.Prelude.{if◌then◌else◌, Vec}
use Rattle.std.specs.declared.alloc.Global.{Global}
use Rattle.std.specs.Str.{bytes_eq}
use Rattle.std.specs.BTreeMap.{BTreeMap}
use Rattle.xml_grammar.specs.Scopes.{same_prefix}
use Rattle.xmp_xml.specs.declared.places.Places.{Places}
use Rattle.xmp_xml.specs.Named.{named_at}
use Rattle.xmp_xml.specs.Places.{place_at}
use Rattle.xmp_xml.proofs.Naming.{named_none}

abbrev places : Option ℕ → BTreeMap (Vec ℕ Global) ℕ → Places
places default named = record { default = default; named = named }

pub no_places : (m : BTreeMap (Vec ℕ Global) ℕ) → m.entries ≡ [] → (q : Option (List ℕ)) → place_at (places None m) q ≡ None
no_places m none None = refl
no_places m none (Some name) = named_none m none name

pub default_placed : (default place : Option ℕ) (m : BTreeMap (Vec ℕ Global) ℕ) (q : Option (List ℕ)) → place_at (places place m) q ≡ (if same_prefix None q then place else place_at (places default m) q)
default_placed default place m None = refl
default_placed default place m (Some name) = refl

pub name_placed : (default place : Option ℕ) (m n : BTreeMap (Vec ℕ Global) ℕ) (name : List ℕ) → ((q : List ℕ) → named_at n q ≡ (if bytes_eq name q then place else named_at m q))
    → (q : Option (List ℕ)) → place_at (places default n) q ≡ (if same_prefix (Some name) q then place else place_at (places default m) q)
name_placed default place m n name h None = refl
name_placed default place m n name h (Some q) = h q
