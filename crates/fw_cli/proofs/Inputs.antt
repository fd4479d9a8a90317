-- What a book that is read again tells.
use Rattle.std.proofs.Common.{ℕ, List, Option, Some, None}
use Rattle.std.specs.Prelude.{IfSome}
use Rattle.fw_book.specs.Contents.{Contents}
use Rattle.fw_host.specs.Busy.{IsFirstBusy}
use Rattle.fw_host.specs.declared.busy.BusyMeter.{BusyMeter}
use Rattle.fw_host.specs.declared.head_opening.Opening.{Opening}
use Rattle.fw_plan.specs.Openings.{lacking}
use Rattle.fw_plan.specs.Waves.{wave_rows}
use Rattle.fw_plan.specs.declared.gate.TooManyFailed.{TooManyFailed}
use Rattle.fw_plan.specs.declared.rows.WaveMeter.{WaveMeter}
use Rattle.fw_plan.specs.declared.threshold.MaxFailed.{MaxFailed}
use Rattle.fw_cli.specs.InputCauses.{IsOfBook, IsOfWaves, IsStopOf}

pub of_book : (opening : Opening) (book : Contents) (image meters : List ℕ) (found : Option BusyMeter)
    → IfSome found (IsFirstBusy book (lacking book opening.serial opening.release image meters)) → IfSome found (IsOfBook opening)
of_book opening book image meters None is = tt
of_book opening book image meters (Some busy) is = (book, image, meters, is)

pub of_waves : (max_failed : MaxFailed) (book : Contents) (meters : List WaveMeter) (found : Option TooManyFailed)
    → IfSome found (IsStopOf max_failed (wave_rows book meters)) → IfSome found (IsOfWaves max_failed)
of_waves max_failed book meters None is = tt
of_waves max_failed book meters (Some stop) is = (book, meters, is)
