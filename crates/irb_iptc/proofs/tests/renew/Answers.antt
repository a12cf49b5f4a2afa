use Rattle.irb_iptc.proofs.tests.renew.Goals as goal

pub stored_digest_mut-requires : goal.stored_digest_mut-requires
stored_digest_mut-requires c = (_, c.in-Ok.ensures)
