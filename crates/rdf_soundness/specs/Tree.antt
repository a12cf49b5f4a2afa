-- A document that breaks no rule has a well-formed tree.
use Rattle.std.specs.Prelude.{ℕ, ◌≤◌, ◌≡◌, None}
use Rattle.xml_grammar.specs.declared.elements.Element.{Element}
use Rattle.xml_grammar.specs.Sound.{IsSound}
use Rattle.xmp_tree.specs.Wf.{Wf}
use Rattle.rdf_forms.specs.Rules.{fault_of}
use Rattle.rdf_forms.specs.Meaning.{tree_of}

-- with so many levels that TreeDeep shows before they run out
abbrev pub FormedTree : Type 0
FormedTree = (levels : ℕ) (root : Element) → 60 ≤ levels → IsSound root → fault_of levels root ≡ None → Wf (tree_of levels root)
