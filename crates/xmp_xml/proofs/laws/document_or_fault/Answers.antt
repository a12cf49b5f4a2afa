use Rattle.xmp_xml.proofs.Decided.{decided}
use Rattle.xmp_xml.proofs.laws.document_or_fault.Goals as goal

pub returns : goal.returns
returns c = decided
