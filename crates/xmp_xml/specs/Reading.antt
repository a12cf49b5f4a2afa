-- What `read` answers.
use Rattle.std.specs.Prelude.{◌≡◌, ◌⊎◌, List, ℕ, Result, Ok, Err}
use Rattle.xmp_values.specs.declared.hints.Hint.{Hint}
use Rattle.xmp_values.specs.declared.rules.Rule.{Rule}
use Rattle.xmp_values.specs.declared.rules.Rule.TheVariants.{Utf16, NotUtf8}
use Rattle.xml_grammar.specs.declared.elements.Element.{Element}
use Rattle.xmp_xml.specs.Documents.{Document}
use Rattle.xmp_values.specs.declared.stops.PlaceStop.{PlaceStop}
use Rattle.xmp_values.specs.declared.stops.PlaceStop.TheVariants as stops

-- this document is answered, unless memory ran out
abbrev pub AnswersDocument : Element → List Hint → Result Document PlaceStop → Type 0
AnswersDocument root declared (Ok d) = (d.root ≡ root) × (d.declared ≡ declared)
AnswersDocument root declared (Err e) = e ≡ stops.Memory

-- this fault is answered, unless memory ran out
abbrev pub AnswersFault : Rule → ℕ → Result Document PlaceStop → Type 0
AnswersFault r place (Ok d) = ⊥
AnswersFault r place (Err e) = (e ≡ stops.Memory) ⊎ (e ≡ stops.Fault r place)

-- a fault of the bytes, which is told before any piece is read
abbrev pub IsOfBytes : Rule → Type 0
IsOfBytes r = (r ≡ Utf16) ⊎ (r ≡ NotUtf8)

-- this fault is answered, with memory or without
abbrev pub AnswersAlways : {X : Type 0} → Rule → ℕ → Result X PlaceStop → Type 0
AnswersAlways r place (Ok x) = ⊥
AnswersAlways r place (Err e) = e ≡ stops.Fault r place
