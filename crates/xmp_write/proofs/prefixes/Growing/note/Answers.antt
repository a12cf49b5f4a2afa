use Rattle.xmp_write.proofs.prefixes.Growing.note.Goals as goal

pub of-requires-clause-kept : goal.of-requires-clause-kept
of-requires-clause-kept c = c.new.ensures.given c.args.hints.now
