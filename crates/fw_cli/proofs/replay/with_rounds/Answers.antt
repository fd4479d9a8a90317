use Rattle.std.proofs.Common.{List, refl}
use Rattle.fw_world.specs.declared.error.SetupError.TheVariants as unmade
use Rattle.fw_world.specs.declared.runs.RunError.{RunError}
use Rattle.fw_world.specs.declared.runs.RunError.TheVariants as stopped
use Rattle.fw_world.specs.declared.setup.Setup.{Setup}
use Rattle.fw_world.specs.Runs.{events_of}
use Rattle.fw_world.specs.Setup.{IsSetup}
use Rattle.fw_world.specs.Step.{Event}
use Rattle.fw_air.specs.Schedules.{IsOfWorld, IsUnscheduled}
use Rattle.fw_cli.specs.Replaying.{WantsMemory}
use Rattle.fw_cli.proofs.replay.with_rounds.Goals as goal

-- memory runs out only for a setup of which a world can be made
is_setup : (setup : Setup) (given : List Event) (error : RunError) → WantsMemory error → IsUnscheduled setup given error → IsOfWorld setup error → IsSetup setup
is_setup setup given (stopped.Setup unmade.OutOfMemory) wants refused made = refused
is_setup setup given (stopped.Setup unmade.BadSetup) wants refused made = absurd cc
is_setup setup given (stopped.Event number world cause) wants refused made = made

pub returns-in-Err-clause-memory : goal.returns-in-Err-clause-memory
returns-in-Err-clause-memory g c =
    is_setup c.args.setup.now (events_of c.deref-2.result.now) c.in-Err.error (c.if-wants_memory.ensures.0 refl) c.in-Err.ensures.refused c.in-Err.ensures.made
