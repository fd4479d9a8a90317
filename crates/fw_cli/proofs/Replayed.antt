-- What the run of a script that was read says of the script.
use Rattle.std.proofs.Common.{ℕ, List}
use Rattle.std.specs.Prelude.{Option}
use Rattle.fw_world.specs.State.{State}
use Rattle.fw_report.specs.declared.forms.Style.{Style}
use Rattle.fw_cli.specs.declared.replay.Ended.{Ended}
use Rattle.fw_cli.specs.Replaying.{FatedRounds, MakesOne, Tells}

-- a world can be made of it
pub makes : (rounds : Option FatedRounds) (style : Style) (input : List ℕ) (ended : Ended) (world : State) (text : List ℕ)
    → Tells rounds style input ended world text → MakesOne input
makes rounds style input ended world text tells = (tells.setup, tells.given, tells.spelled, tells.run.0)
