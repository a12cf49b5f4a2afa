-- The namespaces that have a meaning of their own.
use Rattle.std.specs.Prelude.{ℕ, List, codes}

-- of the prefix `xml` (Namespaces in XML 1.0, section 3)
unfoldable pub xml_space : List ℕ
xml_space = codes "http://www.w3.org/XML/1998/namespace"

-- of `xmlns`, which nothing may bind (the same section)
unfoldable pub xmlns_space : List ℕ
xmlns_space = codes "http://www.w3.org/2000/xmlns/"

-- of RDF's syntax (RDF/XML Syntax, 5.1)
unfoldable pub rdf_space : List ℕ
rdf_space = codes "http://www.w3.org/1999/02/22-rdf-syntax-ns#"

-- of `x:xmpmeta` (ISO 16684-1, 7.3.3)
unfoldable pub meta_space : List ℕ
meta_space = codes "adobe:ns:meta/"
