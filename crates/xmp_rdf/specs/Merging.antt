-- Why two meanings don't merge.
use Rattle.std.specs.Prelude.{ℕ, Option, Some, None}
use Rattle.xmp_rdf.specs.declared.merging.MergeStop.{MergeStop}
use Rattle.xmp_rdf.specs.declared.merging.MergeStop.TheVariants as stops

-- the place that a stop tells; none where memory ran out
abbrev pub twice_of : MergeStop → Option ℕ
twice_of (stops.Twice at) = Some at
twice_of stops.Memory = None
