use Rattle.fw_auditor.proofs.audit.tell_meter.Goals as goal

pub returns : goal.returns
returns g c = (c.in_ok-stores.stores, c.in_ok-verdict.ensures)
