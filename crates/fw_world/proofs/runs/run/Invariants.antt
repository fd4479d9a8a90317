use Rattle.std.proofs.Common.{take}
use Rattle.fw_world.specs.Runs.{events_of}
use Rattle.fw_world.specs.Setup.{IsSetup, opening_state}
use Rattle.fw_world.specs.State.{StateRun, world_of}
use Rattle.fw_world.specs.Step.{Run}
use Rattle.fw_world.proofs.runs.run.Given as goal

-- the world is that of the events so far
abbrev pub invariant-loop-at : goal.invariant-loop-at
invariant-loop-at l =
    IsSetup l.fn.setup
    × StateRun (opening_state l.fn.setup) (events_of (take l.at l.events)) l.world
    × Run (world_of (opening_state l.fn.setup)) (events_of (take l.at l.events)) (world_of l.world)
