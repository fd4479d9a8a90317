-- Public vocabulary: why a head end stops before all rows have ended.
use Rattle.fw_kept.specs.declared.error.KeptError.{KeptError}
use Rattle.fw_kept.specs.declared.error.KeptError.TheVariants as kept
use Rattle.fw_rollout.specs.declared.error.Stop.{Stop}
use Rattle.fw_rollout.specs.declared.error.Stop.TheVariants.{Closed, Full, BookFault, OutOfMemory}

-- what a refusal of the kept head end is
abbrev pub stop_of : KeptError → Stop
stop_of (kept.Refused e) = BookFault
stop_of kept.Full = Full
stop_of kept.BookFault = BookFault
stop_of kept.OutOfMemory = OutOfMemory

-- the stops of a commit
abbrev pub IsSaveStop : Stop → Type 0
IsSaveStop Closed = ⊥
IsSaveStop stop = Unit {0}
