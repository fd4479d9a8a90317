use Rattle.std.proofs.Common.{map, take}
use Rattle.fw_host.specs.Captures.{PutsAll, asking_told}
use Rattle.fw_host.proofs.capture_start.put_heads.Given as goal

-- the notes so far
abbrev pub invariant-loop-head : goal.invariant-loop-head
invariant-loop-head g l = PutsAll g.S.Sink.takes l.nanoseconds l.fn.sink l.sink (map asking_told (take l.head-index l.heads))
