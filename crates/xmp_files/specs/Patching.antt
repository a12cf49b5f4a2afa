-- What patching a file leaves of it, however that ends.
use Rattle.std.specs.Prelude.{◌≡◌, ◌≢◌, ◌⊎◌, ℕ, true, Bool, List, [], ◌∷◌, length, Option, None, Some, Ok}
use Rattle.std.specs.declared.result.Result.{Result}
use Rattle.xmp_base.specs.Device.{DeskState, put_at}
use Rattle.xmp_base.specs.declared.device.Failed.{Failed}
use Rattle.xmp_values.specs.declared.hints.Hint.{Hint}
use Rattle.xmp_values.specs.declared.rules.Rule.{Rule}
use Rattle.xml_grammar.specs.declared.elements.Element.{Element}
use Rattle.xml_grammar.specs.Documents.{IsDocument, IsFault}
use Rattle.packet_exchange.specs.Closing.{Closed, ExchangeCall}
use Rattle.xmp_files.specs.declared.held.Need.{Need}
use Rattle.xmp_files.specs.Keeping.{Piece, Kept}
use Rattle.xmp_files.specs.Loading.{IsLoaded}
use Rattle.xmp_files.specs.Opening.{HoldsTree, IsWhole}
use Rattle.xmp_files.specs.Planning.{Edited, Plan, InPlace}
use Rattle.xmp_files.specs.Planneds.{bytes_in}
use Rattle.xmp_files.specs.Plans.{IsPlanned, MayPlan}

-- a plan for an edit that may change the packet in its place alone, and no digest
abbrev pub IsPatchPlan : Kept → Plan → Type 0
IsPatchPlan kept plan = (joined : Bool) × (edited : Edited) × (edited.digest ≡ None) × IsPlanned kept joined true edited (Ok plan)

-- the new packet of a plan that exchanges it
abbrev pub new_payload : Plan → Option (List ℕ)
new_payload (InPlace (p ∷ [])) = Some p.bytes
new_payload other = None

-- What `patch` does to a desk: the packet is exchanged, or nothing is done.
abbrev pub PatchCall : DeskState → DeskState → List ℕ → Option Piece → Plan → Result (Unit {0}) Failed → Type 0
PatchCall s t name payload (InPlace (p ∷ [])) result = ExchangeCall s t name p.at (bytes_in payload) p.bytes result
PatchCall s t name payload other result = (t ≡ s) × (result ≡ Ok tt)

-- what a patch that was cut off anywhere leaves in the place of the payload
abbrev pub IsLeft : List ℕ → Plan → List ℕ → Type 0
IsLeft old (InPlace (p ∷ [])) now = (now ≡ old) ⊎ (now ≡ p.bytes) ⊎ Closed now
IsLeft old other now = now ≡ old

-- every text has a document or a first fault
abbrev pub DocumentOrFault : Type 0
DocumentOrFault = (text : List ℕ) → ((root : Element) × (hints : List Hint) × IsDocument text root hints) ⊎ ((rule : Rule) × (place : ℕ) × IsFault text rule place)

-- A file is patched in the place of its payload, as in the place of a whole sidecar: it is read as the old tree, as the new one, or it is
-- refused, wherever the patch was cut off.
abbrev pub FileIsPatched : Type 0
FileIsPatched =
    (need : Need) (old : List ℕ) (kept : Kept) (joined : Bool) (e : Edited) (plan : Plan) → IsLoaded need (Some old) (Ok kept) → e.digest ≡ None → IsPlanned kept joined true e (Ok plan)
    → HoldsTree (Some old) e.old → (e.new ≢ e.old → MayPlan e.new e.hints)
    → (payload : Piece) → kept.payload ≡ Some payload → (now : List ℕ) → length now ≡ length payload.bytes → IsLeft payload.bytes plan now
    → IsWhole e.old e.new (Some (put_at old payload.at now))
