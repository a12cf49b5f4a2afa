-- From what is kept of a file to what it means: the next steps of the one order. A text's document is the one that the grammar says,
-- so these steps are relations; at most one step holds of what is kept.
use Rattle.std.specs.Prelude.{◌≡◌, ◌⊎◌, ℕ, true, false, List, Option, None, Some, Ok, Err}
use Rattle.std.specs.declared.result.Result.{Result}
use Rattle.xmp_values.specs.declared.faults.Fault.{Fault}
use Rattle.xmp_values.specs.declared.faults.Part.TheVariants.{Extended as InExtended}
use Rattle.xmp_values.specs.declared.rules.Rule.{Rule}
use Rattle.xmp_values.specs.declared.rules.Rule.TheVariants.{Twice}
use Rattle.xmp_values.specs.Stops.{fault_at}
use Rattle.xmp_tree.specs.Parts.{Parts}
use Rattle.xmp_rdf.specs.declared.meanings.Meaning.{Meaning}
use Rattle.rdf_forms.specs.Merging.{merged}
use Rattle.xmp_files.specs.declared.held.Need.TheVariants.{Packet}
use Rattle.xmp_files.specs.declared.held.Extended.{Extended}
use Rattle.xmp_files.specs.declared.held.Extended.TheVariants as extended
use Rattle.xmp_files.specs.declared.opening.Opened.{Opened}
use Rattle.xmp_files.specs.Stages.{Followed}
use Rattle.xmp_files.specs.Faults.{over_extended, gap_at}
use Rattle.xmp_files.specs.Keeping.{Kept}
use Rattle.xmp_files.specs.Meanings.{Means, OpensMain}
use Rattle.xmp_files.specs.Loading.{IsLoaded}

-- the main packet alone
abbrev pub alone : Meaning → Opened
alone meaning = record { meaning = meaning; joined = false }

-- what both texts mean, or the place of the extended text's first property that the main packet has too
abbrev pub with_both : Result Meaning ℕ → Result Opened Fault
with_both (Ok meaning) = Ok (record { meaning = meaning; joined = true })
with_both (Err place) = Err (fault_at Twice InExtended place)

-- what the extended text means is merged to what the main packet means
abbrev pub merged_to : Meaning → Result Meaning (Rule × ℕ) → Result Opened Fault
merged_to main (Ok more) = with_both (merged main more)
merged_to main (Err (rule, place)) = Err (fault_at rule InExtended place)

-- Then the extended text, if there is one, is joined to what the main packet means: the first fault of its portions, of its XML or of
-- its RDF, or a property that both have.
abbrev pub IsJoinedTo : Option Extended → Meaning → Result Opened Fault → Type 0
IsJoinedTo None meaning step = step ≡ Ok (alone meaning)
IsJoinedTo (Some (extended.TooLong full)) meaning step = step ≡ Err (over_extended full)
IsJoinedTo (Some (extended.Gap place)) meaning step = step ≡ Err (gap_at place)
IsJoinedTo (Some (extended.Joined text)) meaning step = (read : Result Meaning (Rule × ℕ)) × Means text read × (step ≡ merged_to meaning read)

abbrev pub IsJoined : Kept → Meaning → Result Opened Fault → Type 0
IsJoined kept meaning step = IsJoinedTo kept.extended meaning step

-- what the file means that this was kept of, or the first fault
abbrev pub IsOpened : Kept → Result Opened Fault → Type 0
IsOpened kept step = (main : Result Meaning Fault) × OpensMain kept.payload main × Followed main (IsJoined kept) step

-- what stands in FILE: what it means, or the first fault of all steps up to here
abbrev pub Holds : Option (List ℕ) → Result Opened Fault → Type 0
Holds file step = (kept : Result Kept Fault) × IsLoaded Packet file kept × Followed kept IsOpened step

-- a file is read as a tree
abbrev pub HoldsTree : Option (List ℕ) → Parts → Type 0
HoldsTree file tree = (opened : Opened) × Holds file (Ok opened) × (opened.meaning.tree ≡ tree)

-- A file that was changed in its place is read as the old tree or as the new one, or it is refused.
abbrev pub IsWhole : Parts → Parts → Option (List ℕ) → Type 0
IsWhole old new file = HoldsTree file old ⊎ HoldsTree file new ⊎ ((fault : Fault) × Holds file (Err fault))
