use Rattle.std.proofs.Common.{true, false}
use Rattle.fw_host.proofs.Tellings.{told_none}
use Rattle.fw_cli.proofs.meter.Teller.tell_dropped.Goals as goal

pub returns-then-untold-self-clause-told : goal.returns-then-untold-self-clause-told
returns-then-untold-self-clause-told g c = (false, told_none _ _)

pub returns-in_default-clause-told : goal.returns-in_default-clause-told
returns-in_default-clause-told g c = (false, told_none _ _)

pub returns-then-not-is_due-clause-told : goal.returns-then-not-is_due-clause-told
returns-then-not-is_due-clause-told g c = (false, told_none _ _)

pub returns-clause-told : goal.returns-clause-told
returns-clause-told g c = (true, c.tell_dropped.ensures.told)
