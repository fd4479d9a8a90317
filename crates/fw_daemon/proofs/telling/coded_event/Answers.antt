use Rattle.fw_server.specs.View.{planned_meaning}
use Rattle.fw_daemon.proofs.Tellings.{failed, refused, succeeded}
use Rattle.fw_daemon.proofs.telling.coded_event.Goals as goal

pub returns-then-code-eq-SUCCESS : goal.returns-then-code-eq-SUCCESS
returns-then-code-eq-SUCCESS c = succeeded c.args.running c.args.code (planned_meaning c.args.planned) c.if-code-eq-SUCCESS.true

pub returns-then-code-eq-HARDWARE_FAULT : goal.returns-then-code-eq-HARDWARE_FAULT
returns-then-code-eq-HARDWARE_FAULT c = failed c.args.running c.args.code (planned_meaning c.args.planned) c.failure.result c.if-code-eq-HARDWARE_FAULT.true c.failure.ensures

pub returns : goal.returns
returns c = refused c.args.running c.args.code (planned_meaning c.args.planned) c.refusal.result c.if-code-eq-SUCCESS.false c.if-code-eq-HARDWARE_FAULT.false c.refusal.ensures
