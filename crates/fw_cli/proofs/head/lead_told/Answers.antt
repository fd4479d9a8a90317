use Rattle.std.proofs.Common.{[], refl}
use Rattle.fw_host.proofs.Tellings.{told_none}
use Rattle.fw_cli.proofs.Sayings.{rows_told}
use Rattle.fw_cli.proofs.head.lead_told.Goals as goal

pub returns-clause-lines : goal.returns-clause-lines
returns-clause-lines g c = (c.lead.ensures.rolls.tells.told c.args.port.now [] (refl, refl, told_none _ _)).0

pub returns-clause-writer : goal.returns-clause-writer
returns-clause-writer g c = (c.lead.ensures.rolls.tells.told c.args.port.now [] (refl, refl, told_none _ _)).1

pub returns-clause-told : goal.returns-clause-told
returns-clause-told g c =
    let made = c.lead.ensures.rolls.tells in
    rows_told _ _ made.rows _ _ _ _ made.counts (made.told c.args.port.now [] (refl, refl, told_none _ _)).2
