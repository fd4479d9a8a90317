use Rattle.fw_rollout.proofs.Counted.{done_row, failed_row}
use Rattle.fw_rollout.proofs.daemon.count_row.Goals as goal

pub returns-in-Done : goal.returns-in-Done
returns-in-Done c = done_row c.args.ending c.args.counts.now c.count.new.counter c.in-Done.is c.count.ensures

pub returns-in-Failed : goal.returns-in-Failed
returns-in-Failed c = failed_row c.args.ending c.args.counts.now c.count-in-Failed.new.counter c.in-Failed.is c.count-in-Failed.ensures
