use Rattle.fw_world.specs.View.{event_of}
use Rattle.fw_air.proofs.record.Record.admit.Goals as goal

pub invariant_of-self-2 : goal.invariant_of-self-2
invariant_of-self-2 c = c.sent_stays_addressed.ensures c.self.inside.world c.step.new.self (event_of c.args.event) c.in_ok-step.ensures.stepped c.self.invariant
