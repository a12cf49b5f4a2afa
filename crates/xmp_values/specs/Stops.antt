-- What a call returned, beside what a definition gives. A stop says why a call returned no value: a fault, which is a broken
-- rule with its place, or out of memory, or a device that failed. Only the last two are free.
use Rattle.std.specs.Prelude.{◌≡◌, ℕ, Option, Some, None, Result, Ok, Err, IfSome}
use Rattle.xmp_values.specs.declared.rules.Rule.{Rule}
use Rattle.xmp_values.specs.declared.faults.Fault.{Fault}
use Rattle.xmp_values.specs.declared.faults.Part.{Part}
use Rattle.xmp_values.specs.declared.stops.RuleStop.{RuleStop}
use Rattle.xmp_values.specs.declared.stops.RuleStop.TheVariants as rules
use Rattle.xmp_values.specs.declared.stops.PlaceStop.{PlaceStop}
use Rattle.xmp_values.specs.declared.stops.PlaceStop.TheVariants as places
use Rattle.xmp_values.specs.declared.stops.FaultStop.{FaultStop}
use Rattle.xmp_values.specs.declared.stops.FaultStop.TheVariants as faults
use Rattle.xmp_values.specs.declared.stops.DeviceStop.{DeviceStop}
use Rattle.xmp_values.specs.declared.stops.DeviceStop.TheVariants as devices
use Rattle.xmp_values.specs.declared.stops.FileStop.{FileStop}
use Rattle.xmp_values.specs.declared.stops.FileStop.TheVariants as files

-- The fault that a stop tells; none where memory or a device failed.

abbrev pub rule_of : RuleStop → Option Rule
rule_of (rules.Fault rule) = Some rule
rule_of rules.Memory = None

abbrev pub place_of : PlaceStop → Option (Rule × ℕ)
place_of (places.Fault rule at) = Some (rule, at)
place_of places.Memory = None

abbrev pub fault_of : FaultStop → Option Fault
fault_of (faults.Fault fault) = Some fault
fault_of faults.Memory = None

abbrev pub device_place_of : DeviceStop → Option (Rule × ℕ)
device_place_of (devices.Fault rule at) = Some (rule, at)
device_place_of devices.Device = None
device_place_of devices.Memory = None

module _ {S F : Type 0} (told : S → Option F) where
  -- the fault that a stop tells is such a one; or it tells none, since memory ran out
  abbrev pub Stops : S → (F → Type 0) → Type 0
  Stops stop IsFault = IfSome (told stop) IsFault

  -- a call returned what the definition gives, or memory ran out
  abbrev pub Gives : {X : Type 0} → Result X S → Result X F → Type 0
  Gives (Ok x) step = step ≡ Ok x
  Gives (Err stop) step = Stops stop (λ fault. step ≡ Err fault)

  -- the same of a call that changes a value in place, into `next`
  abbrev pub Makes : {X Y : Type 0} → Result X S → Y → Result Y F → Type 0
  Makes (Ok x) next step = step ≡ Ok next
  Makes (Err stop) next step = Stops stop (λ fault. step ≡ Err fault)

  -- the same where a relation says what may be returned, and which faults
  abbrev pub Answers : {X : Type 0} → Result X S → (X → Type 0) → (F → Type 0) → Type 0
  Answers (Ok x) IsValue IsFault = IsValue x
  Answers (Err stop) IsValue IsFault = Stops stop IsFault

-- The same stop with more known.

abbrev pub stop_at : RuleStop → ℕ → PlaceStop
stop_at (rules.Fault rule) at = places.Fault rule at
stop_at rules.Memory at = places.Memory

abbrev pub fault_at : Rule → Part → ℕ → Fault
fault_at rule part at = record { rule = rule; place = record { part = part; at = at }; x = 0; y = 0 }

abbrev pub stop_in : PlaceStop → Part → FaultStop
stop_in (places.Fault rule at) part = faults.Fault (fault_at rule part at)
stop_in places.Memory part = faults.Memory

abbrev pub device_stop : PlaceStop → DeviceStop
device_stop (places.Fault rule at) = devices.Fault rule at
device_stop places.Memory = devices.Memory

abbrev pub file_stop : FaultStop → FileStop
file_stop (faults.Fault fault) = files.Fault fault
file_stop faults.Memory = files.Memory
