use Rattle.std.proofs.Common.{◌∙◌}
use Rattle.fw_journal.specs.Memory.{held_of}
use Rattle.fw_journal.proofs.Kept.{elapses, written, half_written}
use Rattle.fw_journal.proofs.memory.MemoryDeviceJournalDevice.write_at.Goals as goal

pub returns-in-Err-clause-crash : goal.returns-in-Err-clause-crash
returns-in-Err-clause-crash c = λ yes within.
    half_written c.args.at c.torn_byte-torn.result (held_of c.args.self.now) c.overwrite.new.disk c.args.bytes.now c.deref.result.now (c.deref.ensures.value ∙ c.in_ok-left.ensures.torn) (c.in_ok-overwrite.ensures.ok within) within

pub returns-in-Err-clause-time : goal.returns-in-Err-clause-time
returns-in-Err-clause-time c = λ yes. elapses c.args.self.now _ c.in_ok-overwrite.ensures.past

pub returns-clause-crash : goal.returns-clause-crash
returns-clause-crash c = λ yes within. written c.args.at (held_of c.args.self.now) c.overwrite-2.new.disk c.args.bytes.now (c.in_ok-overwrite-2.ensures.ok within) within

pub returns-clause-time : goal.returns-clause-time
returns-clause-time c = λ yes. elapses c.args.self.now _ c.in_ok-overwrite-2.ensures.past
