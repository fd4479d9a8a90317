-- Public vocabulary: what a head end does to the outside, and what comes from there. It reports rows that ended.
use Rattle.fw_port.specs.Acts as port
use Rattle.fw_rollout.specs.declared.ended.Ended.{Ended}

abbrev pub Act : Type 0
Act = port.Act Ended
