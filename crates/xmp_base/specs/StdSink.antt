-- What a sink over a writer means: its count of failures alone.
use Rattle.std.specs.Prelude.{ℕ, None, []}
use Rattle.xmp_base.specs.Device.{SinkState}

abbrev pub writer_state : ℕ → SinkState
writer_state faults = record { sent = None; faults = faults; plan = [] }
