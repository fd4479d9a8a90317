-- Public vocabulary: what a power cut in the making of a journal leaves.
use Rattle.std.specs.Prelude.{ℕ, List}
use Rattle.fw_journal.specs.Device.{IsTorn, LeavesOnly}
use Rattle.fw_journal.specs.declared.device.JournalDevice

-- what a cut might have left of the device, with any bytes in this range
abbrev pub IsTornOf : {D : Type 0} → JournalDevice.Ghosts D → ℕ → ℕ → D → List ℕ → Type 0
IsTornOf J at count device left = (earlier : List ℕ) × J.may_leave device earlier × IsTorn at count earlier left

-- a cut at any moment of a making leaves what one before it might have left, with any bytes for the first five: up to five if there were
-- fewer
abbrev pub LeavesMaking : {D : Type 0} → JournalDevice.Ghosts D → D → D → Type 0
LeavesMaking J old new = LeavesOnly J.moment J.left_since old new (IsTornOf J 0 5 old)
