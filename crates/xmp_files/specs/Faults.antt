-- The refusals of a file, with their places and their numbers.
use Rattle.std.specs.Prelude.{ℕ}
use Rattle.xmp_values.specs.Stops.{fault_at}
use Rattle.xmp_values.specs.declared.faults.Fault.{Fault}
use Rattle.xmp_values.specs.declared.faults.Part.TheVariants.{File, Main, Extended}
use Rattle.xmp_values.specs.declared.rules.Rule.TheVariants.{NoFile, FileLimit, NotKnown, BigTiff, NotBuilt, XmpLimit, Gap}

-- FILE isn't there
abbrev pub no_file : Fault
no_file = fault_at NoFile File 0

-- the most bytes of a file: 2 ^ 40
abbrev pub file_limit : ℕ
file_limit = 1099511627776

-- FILE is longer than the limit
abbrev pub over_limit : ℕ → Fault
over_limit size = record { rule = FileLimit; place = record { part = File; at = 0 }; x = size; y = file_limit }

-- FILE is of no kind
abbrev pub not_known : Fault
not_known = fault_at NotKnown File 0

-- a BigTIFF file whose offsets don't have 8 bytes
abbrev pub short_offsets : Fault
short_offsets = fault_at BigTiff File 0

-- a form that isn't built yet
abbrev pub not_built : Fault
not_built = fault_at NotBuilt File 0

-- the most bytes of a payload: 2 ^ 24
abbrev pub packet_limit : ℕ
packet_limit = 16777216

-- the main payload is longer than the limit
abbrev pub over_packet : ℕ → Fault
over_packet size = record { rule = XmpLimit; place = record { part = Main; at = 0 }; x = size; y = packet_limit }

-- the extended text, by what its first portion says, is longer than the limit
abbrev pub over_extended : ℕ → Fault
over_extended size = record { rule = XmpLimit; place = record { part = Extended; at = 0 }; x = size; y = packet_limit }

-- the portions of the extended text tile it up to this place alone
abbrev pub gap_at : ℕ → Fault
gap_at place = fault_at Gap Extended place
