use Rattle.std.proofs.Common.{take}
use Rattle.fw_world.specs.Runs.{events_of}
use Rattle.fw_world.specs.Setup.{opening_state}
use Rattle.fw_air.specs.Rounds.{AdmittedRun}
use Rattle.fw_air.proofs.scheduling.world_behind.Given as goal

-- the world is that of the events so far
abbrev pub invariant-loop-at : goal.invariant-loop-at
invariant-loop-at l = AdmittedRun (opening_state l.fn.setup) (take l.at (events_of l.events)) l.world
