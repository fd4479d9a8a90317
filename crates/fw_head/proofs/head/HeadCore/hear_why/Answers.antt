use Rattle.fw_head.proofs.LiveRows.{on_ok}
use Rattle.fw_head.proofs.head.HeadCore.hear_why.Goals as goal

pub returns-clause-done : goal.returns-clause-done
returns-clause-done c =
    on_ok c.take.result _ _
    (λ told hears campaign meter. c.reported_by_claim.ensures c.args.self.now c.take.new.self c.args.from c.args.datagram.now told.news campaign meter c.take.ensures.was hears)
    c.take.ensures.heard
