use Rattle.xml_tokenizer.proofs.Seams.{seam}
use Rattle.xml_tokenizer.proofs.runs.run.Goals as goal

pub split_at-requires : goal.split_at-requires
split_at-requires c = seam c.args.text.now _ c.past_run-rest.result.now c.past_run-rest.ensures.parts c.past_run-rest.utf8
