use Rattle.fw_plan.proofs.Gates.{gate_asks}
use Rattle.fw_plan.proofs.gate.gate_of.Goals as goal

pub returns-clause-asks : goal.returns-clause-asks
returns-clause-asks c = gate_asks c.args.max_failed c.args.rows.now c.gate_at.result c.gate_at.ensures
