-- Files that agree in some ranges.
use Rattle.std.specs.Prelude.{◌≡◌, ℕ, ◌-◌, List, take, drop, All}
use Rattle.xmp_base.specs.declared.file_span.FileSpan.{FileSpan}

-- the bytes of a range
abbrev pub bytes_in : List ℕ → FileSpan → List ℕ
bytes_in file r = take (r.end - r.start) (drop r.start file)

-- two files have the same bytes in these ranges
abbrev pub Agree : List ℕ → List ℕ → List FileSpan → Type 0
Agree a b ranges = All (λ r. bytes_in b r ≡ bytes_in a r) ranges
