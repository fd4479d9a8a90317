use Rattle.fw_journal.proofs.Kept.{elapses}
use Rattle.fw_journal.proofs.memory.MemoryDeviceJournalDevice.sync.Goals as goal

pub returns-clause-time : goal.returns-clause-time
returns-clause-time c = λ yes. elapses c.args.self.now _ c.in_ok-replace.ensures.past
