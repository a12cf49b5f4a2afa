use Rattle.mwg_rules.proofs.Stable.{reconciled-again, stale_lines-again}
use Rattle.mwg_rules.proofs.laws.prefers_itself.Goals as goal

pub returns-clause-same : goal.returns-clause-same
returns-clause-same c = λ exif iptc differed differs props how. reconciled-again exif differed differs how iptc props

pub returns-clause-no_line : goal.returns-clause-no_line
returns-clause-no_line c = λ exif iptc differed differs props how. stale_lines-again exif differed differs how iptc props
