use Rattle.std.proofs.Common.{◌≡◌, List, IsTrue}
use Rattle.fw_rollout.specs.Acts.{Act}
use Rattle.fw_rollout.specs.Counting.{CountsTold, TellsCounted, counted_of}
use Rattle.fw_rollout.specs.Rollout.{no_other}
use Rattle.fw_rollout.proofs.Rollouts.{Rolls}
use Rattle.fw_rollout.proofs.serving.serve_plan.Given as goal

-- what was done so far is the head end's, the port goes on to let through what is legal, and what was reported is counted
abbrev pub invariant-loop : goal.invariant-loop
invariant-loop g l =
    (goal.iterator-loop g).can_next l.iterator' × (goal.iterator-loop g).is_finite l.iterator'
    × (IsTrue (g.P.Port.honest l.fn.port) → Rolls no_other g.D.JournalDevice.honest g.D.JournalDevice.contents g.D.JournalDevice.may_leave l.fn.daemon
    (g.P.Port.acts l.fn.port) (g.P.Port.acts l.port) l.daemon)
    × (g.P.Port.honest l.port ≡ g.P.Port.honest l.fn.port)
    × ((done : List Act) → g.P.Port.legal l.fn.port done → g.P.Port.legal l.port done)
    × (IsTrue (g.P.Port.honest l.fn.port) → CountsTold (g.P.Port.acts l.fn.port) (g.P.Port.acts l.port) (counted_of l.fn.daemon) (counted_of l.daemon))
    × TellsCounted g.P.Port.tells l.fn.port l.port (counted_of l.fn.daemon) (counted_of l.daemon)
