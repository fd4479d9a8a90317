use Rattle.std.proofs.Common.{◌≡◌, List, [], IsTrue, drop}
use Rattle.fw_head.specs.Row.{bytes_of}
use Rattle.fw_rollout.specs.Acts.{Act}
use Rattle.fw_rollout.specs.Counting.{TellsRows, told_in}
use Rattle.fw_rollout.specs.Leading.{IsAboutToSend, Leader, Leads}
use Rattle.fw_rollout.proofs.Steps.{sending}
use Rattle.fw_rollout.proofs.serving.send_all.Given as goal

-- the datagrams so far were sent, the others are about to be, the port goes on to let through what is legal, and nothing was reported
abbrev pub invariant-loop-datagram : goal.invariant-loop-datagram
invariant-loop-datagram g l =
    (IsTrue (g.P.Port.honest l.fn.port) → (start : Leader) → IsAboutToSend start l.to (bytes_of l.datagrams)
    → Leads start (g.P.Port.acts l.fn.port) (g.P.Port.acts l.port) (sending start l.to (drop l.datagram-index (bytes_of l.datagrams))))
    × (g.P.Port.honest l.port ≡ g.P.Port.honest l.fn.port)
    × ((done : List Act) → g.P.Port.legal l.fn.port done → g.P.Port.legal l.port done)
    × (IsTrue (g.P.Port.honest l.fn.port) → told_in (g.P.Port.acts l.port) ≡ told_in (g.P.Port.acts l.fn.port))
    × TellsRows g.P.Port.tells [] l.fn.port l.port
