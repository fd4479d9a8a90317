use Rattle.fw_head.proofs.head.HeadCore.hear.Goals as goal

pub returns-in-Ok-clause-done : goal.returns-in-Ok-clause-done
returns-in-Ok-clause-done c campaign meter =
    c.reported_by_claim.ensures c.args.self.now c.take.new.self c.args.from c.args.datagram.now c.in-Ok.told.news campaign meter c.take.ensures.was c.in-Ok.ensures.heard
