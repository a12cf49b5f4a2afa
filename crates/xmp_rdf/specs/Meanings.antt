-- What reading a document gives: its meaning, or the first rule that an element breaks.
use Rattle.std.specs.Prelude.{ℕ, List, Option, Some, None, Result, Ok, Err}
use Rattle.xmp_values.specs.declared.hints.Hint.{Hint}
use Rattle.xmp_values.specs.declared.rules.Rule.{Rule}
use Rattle.xml_grammar.specs.declared.elements.Element.{Element}
use Rattle.rdf_forms.specs.Meaning.{Meaning, meaning_of}
use Rattle.rdf_forms.specs.Rules.{fault_of}

-- a rule that an element breaks, and the element's place
abbrev pub Fault : Type 0
Fault = Rule × ℕ

-- what is read, unless there is a fault
abbrev pub unless : {Y : Type 0} → Option Fault → Y → Result Y Fault
unless None read = Ok read
unless (Some fault) read = Err fault

-- the meaning of a document whose elements stand within this many levels, or its first fault
unfoldable pub reading_within : ℕ → Element → List Hint → Result Meaning Fault
reading_within levels root hints = unless (fault_of levels root) (meaning_of levels root hints)

-- the levels of elements that a document has at most; more change nothing
abbrev pub most_levels : ℕ
most_levels = 100

-- The reading of a document: Ok exactly where no element breaks a rule, and else the first fault.
unfoldable pub reading : Element → List Hint → Result Meaning Fault
reading root hints = reading_within most_levels root hints
