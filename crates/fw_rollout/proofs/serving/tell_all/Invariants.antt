use Rattle.std.proofs.Common.{◌≡◌, ◌++◌, List, IsTrue, drop, take}
use Rattle.fw_rollout.specs.Acts.{Act}
use Rattle.fw_rollout.specs.Counting.{TellsRows, told_in}
use Rattle.fw_rollout.specs.Leading.{IsAboutToTell, Leader, Leads}
use Rattle.fw_rollout.proofs.Steps.{telling}
use Rattle.fw_rollout.proofs.serving.tell_all.Given as goal

-- the rows so far were reported, the others are about to be, and the port goes on to let through what is legal
abbrev pub invariant-loop-ended : goal.invariant-loop-ended
invariant-loop-ended g l =
    (IsTrue (g.P.Port.honest l.fn.port) → (start : Leader) → IsAboutToTell start l.saved
    → Leads start (g.P.Port.acts l.fn.port) (g.P.Port.acts l.port) (telling start (drop l.ended-index l.saved)))
    × (g.P.Port.honest l.port ≡ g.P.Port.honest l.fn.port)
    × ((done : List Act) → g.P.Port.legal l.fn.port done → g.P.Port.legal l.port done)
    × (IsTrue (g.P.Port.honest l.fn.port) → told_in (g.P.Port.acts l.port) ++ drop l.ended-index l.saved ≡ told_in (g.P.Port.acts l.fn.port) ++ l.saved)
    × TellsRows g.P.Port.tells (take l.ended-index l.saved) l.fn.port l.port
