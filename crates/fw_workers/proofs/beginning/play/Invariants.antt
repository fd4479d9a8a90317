use Rattle.fw_air.specs.Logs.{Entry, IsCounted}
use Rattle.fw_workers.specs.Recorded.{AreEntered}
use Rattle.fw_world.specs.Runs.{events_of}
use Rattle.fw_world.specs.Setup.{opening_state}
use Rattle.fw_world.specs.State.{StateRun, world_of}
use Rattle.fw_world.specs.Step.{Run}
use Rattle.std.proofs.Common.{◌≡◌, map, take}
use Rattle.fw_workers.proofs.beginning.play.Given as goal

-- the world is that of the events so far, each of which has its entry, and of which the world is a run too
abbrev pub invariant-loop-at : goal.invariant-loop-at
invariant-loop-at l =
    IsCounted (record { sent = l.world.sent; entries = l.entries.items })
    × StateRun (opening_state l.setup) (events_of (take l.at l.events)) l.world
    × Run (world_of (opening_state l.setup)) (events_of (take l.at l.events)) (world_of l.world)
    × (map (λ (entry : Entry). entry.event) l.entries.items ≡ events_of (take l.at l.events))
    × AreEntered (opening_state l.setup) l.entries.items l.world
