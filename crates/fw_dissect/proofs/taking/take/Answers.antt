use Rattle.std.proofs.Common.{Err, ap, ◌∙◌}
use Rattle.fw_dissect.proofs.Taken.{of_reader, too_long}
use Rattle.fw_dissect.proofs.taking.take.Goals as goal

pub returns-in-Err-clause-long : goal.returns-in-Err-clause-long
returns-in-Err-clause-long g c = λ rest is.
    rw c.of_stream.ensures (too_long c.args.offset c.in-Err.error c.args.format rest
    (λ same. c.take_record.ensures.too_long rest is (c.in-Err.is ∙ ap Err same)))

pub returns-in-Err-clause-faults : goal.returns-in-Err-clause-faults
returns-in-Err-clause-faults g c = rw c.of_stream.ensures (of_reader c.args.offset c.in-Err.error)
