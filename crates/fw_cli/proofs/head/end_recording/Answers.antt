use Rattle.std.proofs.Common.{ap}
use Rattle.fw_cli.specs.declared.head_error.HeadFailure.{HeadFailure}
use Rattle.fw_cli.proofs.HeadLeading.{plain_leading}
use Rattle.fw_cli.proofs.head.end_recording.Goals as goal

pub returns-in-Err : goal.returns-in-Err
returns-in-Err c = λ sealing.
    plain_leading c.args.capture sealing c.in-Err.because.error c.not_recorded.result.error (ap (λ (f : HeadFailure). f.error) c.not_recorded.ensures) c.in-Err.ensures.asked
    c.in-Err.ensures.plain
