use Rattle.std.proofs.Common.{ℕ, List, take, ◌∙◌, ap}
use Rattle.fw_journal.specs.Memory.{held_of}
use Rattle.fw_journal.proofs.Kept.{elapses, shortened}
use Rattle.fw_journal.proofs.memory.MemoryDeviceJournalDevice.shorten.Goals as goal

pub returns-clause-crash : goal.returns-clause-crash
returns-clause-crash c = λ yes.
    shortened c.args.len (held_of c.args.self.now) c.replace.new.disk c.in_ok-left.left.items (c.in_ok-replace.ensures.ok ∙ c.in_ok-next.ensures)
    (c.in_ok-left.ensures ∙ ap (λ (l : List ℕ). take c.args.len l) c.bytes.ensures)

pub returns-clause-time : goal.returns-clause-time
returns-clause-time c = λ yes. elapses c.args.self.now _ c.in_ok-replace.ensures.past
