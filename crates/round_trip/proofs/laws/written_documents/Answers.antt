use Rattle.round_trip.proofs.Documents.{written_documents}
use Rattle.round_trip.proofs.laws.written_documents.Goals as goal

pub returns : goal.returns
returns c = written_documents
