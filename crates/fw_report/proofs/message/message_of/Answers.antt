use Rattle.fw_report.proofs.message.message_of.Goals as goal

pub returns-in-ToMeter : goal.returns-in-ToMeter
returns-in-ToMeter c = rw (← c.datagram.view_is, c.in-ToMeter.is) (rw c.deref.ensures.value at c.asked.ensures)

pub returns-in-ToHead : goal.returns-in-ToHead
returns-in-ToHead c = rw (← c.datagram.view_is, c.in-ToHead.is) (rw c.deref-in-ToHead.ensures.value at c.answered.ensures)
