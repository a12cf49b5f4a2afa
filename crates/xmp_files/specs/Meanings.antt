-- What a text means, and what the main packet of a file means. A text's document is the one that the grammar says, so these are relations.
use Rattle.std.specs.Prelude.{◌≡◌, ◌⊎◌, ℕ, ◌<◌, ◌≤◌, List, [], length, Option, None, Some, Ok, Err}
use Rattle.std.specs.declared.result.Result.{Result}
use Rattle.xmp_values.specs.Stops.{fault_at}
use Rattle.xmp_values.specs.declared.faults.Fault.{Fault}
use Rattle.xmp_values.specs.declared.faults.Part.TheVariants.{Main}
use Rattle.xmp_values.specs.declared.hints.Hint.{Hint}
use Rattle.xmp_values.specs.declared.rules.Rule.{Rule}
use Rattle.xml_grammar.specs.declared.elements.Element.{Element}
use Rattle.xml_grammar.specs.Documents.{IsDocument, IsFault}
use Rattle.xmp_rdf.specs.declared.meanings.Meaning.{Meaning}
use Rattle.xmp_rdf.specs.Meanings.{reading}
use Rattle.xmp_packets.specs.Packets.{packet_text}
use Rattle.xmp_files.specs.Faults.{packet_limit}
use Rattle.xmp_files.specs.Keeping.{Piece}

-- what a text means: the reading of its one document, or the first fault of its XML, else of its RDF, with the rule and its place
abbrev pub Means : List ℕ → Result Meaning (Rule × ℕ) → Type 0
Means text (Ok meaning) = (root : Element) × (hints : List Hint) × IsDocument text root hints × (reading root hints ≡ Ok meaning)
Means text (Err (rule, place)) =
    IsFault text rule place ⊎ ((root : Element) × (hints : List Hint) × IsDocument text root hints × (reading root hints ≡ Err (rule, place)))

-- a rule and its place in the main packet
abbrev pub in_main : Result Meaning (Rule × ℕ) → Result Meaning Fault
in_main (Ok meaning) = Ok meaning
in_main (Err (rule, place)) = Err (fault_at rule Main place)

-- the step of a payload: the XML, then the RDF of its text
abbrev pub Opens : List ℕ → Result Meaning Fault → Type 0
Opens payload step = (read : Result Meaning (Rule × ℕ)) × Means (packet_text payload) read × (step ≡ in_main read)

-- no packet means the empty tree without hints
abbrev pub no_meaning : Meaning
no_meaning = record { tree = record { about = []; props = [] }; hints = []; note = None; places = [] }

abbrev pub OpensMain : Option Piece → Result Meaning Fault → Type 0
OpensMain None step = step ≡ Ok no_meaning
OpensMain (Some payload) step = Opens payload.bytes step

-- the note of what was read
abbrev pub note_in : Result Meaning (Rule × ℕ) → Option (List ℕ)
note_in (Ok meaning) = meaning.note
note_in (Err fault) = None

-- the note of a packet
abbrev pub IsNoteOf : List ℕ → Option (List ℕ) → Type 0
IsNoteOf payload note = (read : Result Meaning (Rule × ℕ)) × Means (packet_text payload) read × (note ≡ note_in read)

-- The note of the main packet, which names the extended text. There is none where the packet has a fault, or is over its limit, as then
-- it isn't read.
abbrev pub IsNote : Option Piece → Option (List ℕ) → Type 0
IsNote None note = note ≡ None
IsNote (Some payload) note =
    ((packet_limit < length payload.bytes) × (note ≡ None)) ⊎ ((length payload.bytes ≤ packet_limit) × IsNoteOf payload.bytes note)
