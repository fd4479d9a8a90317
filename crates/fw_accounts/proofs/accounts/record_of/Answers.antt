use Rattle.std.proofs.Common.{sym, ◌∙◌, append-nil}
use Rattle.fw_world.specs.Runs.{events_of}
use Rattle.fw_accounts.proofs.accounts.record_of.Goals as goal

pub loop-entry-init : goal.loop-entry-init
loop-entry-init c = c.in_ok-events.ensures.copies ∙ sym (append-nil (events_of c.args.given.now))
