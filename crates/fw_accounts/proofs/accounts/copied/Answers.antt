use Rattle.fw_accounts.proofs.Accounting.{same_events}
use Rattle.fw_accounts.proofs.accounts.copied.Goals as goal

pub returns-clause-copies : goal.returns-clause-copies
returns-clause-copies c = same_events c.args.events.now c.in_ok-copies.copies.items c.in_ok-copies.ensures.ok
