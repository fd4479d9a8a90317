use Rattle.std.proofs.Common.{OnOk, sym, subst}
use Rattle.fw_world.specs.declared.event.Event.{Event}
use Rattle.fw_world.specs.State.{StateStep}
use Rattle.fw_world.specs.View.{event_of}
use Rattle.fw_world.proofs.world.World.make.Goals as goal

pub returns-in-StopRestart-clause-stepped : goal.returns-in-StopRestart-clause-stepped
returns-in-StopRestart-clause-stepped c =
    let P : Event → Type 0 = λ e. OnOk c.stop_restart.result (StateStep c.args.self.now (event_of e) c.stop_restart.new.self) in
    subst P (sym c.in-StopRestart.is) c.stop_restart.ensures.stepped
