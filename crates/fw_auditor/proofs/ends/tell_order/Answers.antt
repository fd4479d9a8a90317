use Rattle.std.proofs.Common.{subst, ap, ◌∙◌}
use Rattle.fw_order.specs.Order.{HasOrder, ends_of}
use Rattle.fw_auditor.proofs.ends.tell_order.Goals as goal

pub returns-in-Ok : goal.returns-in-Ok
returns-in-Ok g c is = subst HasOrder (ap ends_of c.deref.ensures.value ∙ c.in_ok-logs.ensures) c.in-Ok.ensures.agree
