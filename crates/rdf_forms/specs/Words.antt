-- The names that RDF/XML gives a meaning.
use Rattle.std.specs.Prelude.{ℕ, Bool, not, ◌&&◌, ◌||◌, List, [], codes}
use Rattle.std.specs.Str.{bytes_eq}
use Rattle.xmp_values.specs.declared.text.Name.{Name}
unfoldable pub use Rattle.xmp_values.specs.Spaces.{xml_space, rdf_space, meta_space}
unfoldable pub use Rattle.xmp_values.specs.Names.{same_name}

-- the name of RDF's namespace with this local part
abbrev pub rdf : List ℕ → Name
rdf local = record { space = rdf_space; local = local }

unfoldable pub is_rdf : List ℕ → Name → Bool
is_rdf local name = bytes_eq name.space rdf_space && bytes_eq name.local local

-- `x:xmpmeta`, or `x:xapmeta` of older files
unfoldable pub is_meta : Name → Bool
is_meta name = bytes_eq name.space meta_space && (bytes_eq name.local (codes "xmpmeta") || bytes_eq name.local (codes "xapmeta"))

unfoldable pub is_container : Name → Bool
is_container name = is_rdf (codes "Bag") name || is_rdf (codes "Seq") name || is_rdf (codes "Alt") name

unfoldable pub in_rdf : Name → Bool
in_rdf name = bytes_eq name.space rdf_space

unfoldable pub in_xml : Name → Bool
in_xml name = bytes_eq name.space xml_space

unfoldable pub in_none : Name → Bool
in_none name = bytes_eq name.space []

unfoldable pub is_lang : Name → Bool
is_lang name = in_xml name && bytes_eq name.local (codes "lang")

-- the name `about` without namespace, of older files
unfoldable pub is_bare_about : Name → Bool
is_bare_about name = in_none name && bytes_eq name.local (codes "about")

-- a name of a property attribute, which has a namespace other than RDF's and XML's
unfoldable pub is_member_name : Name → Bool
is_member_name name = not (in_none name) && not (in_rdf name) && not (in_xml name)
