-- A builder is what the pieces make that are read.
use Rattle.std.proofs.Common.{◌≡◌, ℕ, List, [], ◌∷◌, ◌++◌, Option, Some, None, map}
use Rattle.xml_grammar.specs.declared.elements.Child.TheVariants as child
use Rattle.xml_grammar.specs.declared.elements.Element.{Element}
use Rattle.xml_grammar.specs.Nesting as nesting
use Rattle.xml_grammar.specs.Trees.{Placed, Event, Opens, joined, events, events_of, put, all_hints}
use Rattle.xml_grammar.specs.Documents.{nest_after, Begins}
use Rattle.xmp_xml.specs.declared.builder.Frame.{Frame}
use Rattle.xmp_xml.specs.declared.builder.Builder.{Builder}
use Rattle.xmp_xml.specs.Building.{nest_of}

-- ---- what a builder holds, before what follows

abbrev pub inside : Frame → List Event → List Event
inside f es = joined (map events f.children) ++ es

abbrev pub frames : List Frame → Frame → List Event → List Event
frames [] f es = es
frames (o ∷ os) f es = frames os o (Opens f.at f.name f.attributes ∷ inside f es)

abbrev pub before : Option Element → List Event → List Event
before None es = es
before (Some e) es = events (child.Element e) ++ es

abbrev pub shown : Builder → List Event → List Event
shown s es = before s.root (frames s.outer s.top (put s.text es))

-- outside the root no text is pending, and while an element is open there is no root yet
abbrev pub IsQuiet : List Frame → List ℕ → Option Element → Type 0
IsQuiet [] text root = text ≡ []
IsQuiet (o ∷ os) text root = root ≡ None

-- pieces begin the text and leave cs of its characters, and the builder is what they make
pub record Reached (text : List ℕ) (s : Builder) (cs : List ℕ) : Type 0 where
  pub pieces : List Placed
  pub read : Begins text pieces cs
  pub nest : nest_of s ≡ nest_after nesting.start pieces
  pub hinted : s.hints ≡ all_hints pieces
  pub quiet : IsQuiet s.outer s.text s.root
  pub shows : (more : List Placed) → events_of nesting.start (pieces ++ more) ≡ shown s (events_of (nest_of s) more)
