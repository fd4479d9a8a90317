use Rattle.fw_host.proofs.Tellings.{told_lost, told_whole}
use Rattle.fw_host.proofs.lines.Lines.put.Goals as goal

pub returns-then-write_whole-clause-told : goal.returns-then-write_whole-clause-told
returns-then-write_whole-clause-told g c = told_whole _ _ _ _ (c.write_whole.ensures.whole c.if-write_whole.true)

pub returns-clause-told : goal.returns-clause-told
returns-clause-told g c = told_lost _ _ _ _ c.write_whole.ensures.front
