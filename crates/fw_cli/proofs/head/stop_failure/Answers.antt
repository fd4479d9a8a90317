use Rattle.std.proofs.Common.{ap, subst, sym}
use Rattle.fw_cli.specs.HeadErrors.{IsOfLeading}
use Rattle.fw_cli.specs.declared.head_error.HeadError.{HeadError}
use Rattle.fw_cli.specs.declared.head_error.HeadFailure.{HeadFailure}
use Rattle.fw_cli.proofs.HeadLeading.{closing_leading, stop_leading}
use Rattle.fw_cli.proofs.head.stop_failure.Goals as goal

pub returns-in-Stop-Closed : goal.returns-in-Stop-Closed
returns-in-Stop-Closed c =
    closing_leading c.args.capture c.args.sealing c.closing.result.error c.not_recorded.result.error (ap (λ (f : HeadFailure). f.error) c.not_recorded.ensures)
    c.closing.ensures.asked c.closing.ensures.keyed

pub returns-in-Stop : goal.returns-in-Stop
returns-in-Stop c =
    subst (λ (e : HeadError). IsOfLeading c.args.capture c.args.sealing e) (sym (ap (λ (f : HeadFailure). f.error) c.from.ensures))
    (stop_leading c.args.capture c.args.sealing c.in-Stop.stop)
